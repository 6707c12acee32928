-- Turns of a loop that were made, and those that are left. The condition's variables are gone where the body begins.
use Rattle.std.proofs.Common.{◌≡◌, ℕ, zero, suc, ◌+◌, ◌-◌, ◌≤◌, max, Bool, true, false, cond, List, refl, sym, ap, ◌∙◌, subst, arith, ◌⊎◌, ⊎_elim}
use Rattle.nres_core.specs.FlatTree.{Binds, Ending, While}
use Rattle.nres_core.specs.Ops.{truth_out}
use Rattle.nres_core.specs.declared.flat.Arg.{Arg}
use Rattle.nres_core.specs.declared.place.Place.{Place}
use Rattle.nres_core.specs.declared.value.Value.{Value}
use Rattle.nres_core.specs.declared.value.Value.TheVariants as v
use Rattle.nres_meaning.specs.FlatMeaning.{Vars, arg_value, arg_values, puts}
use Rattle.flat_paths.specs.Paths.{Stop, Fault, Excess, Stops, never, only, may, on_truth, Calls, paths, Rising, IsWithin, Lives}
use Rattle.flat_paths.proofs.MayBe.{may_map}
use Rattle.flat_paths.proofs.Unfold.{loop, loop_zero, loop_suc, paths_while}
use Rattle.flat_paths.proofs.Rises.{paths_map, lift, raise, top}

pub truth_map : (x : Value) (a a' b b' : Type 0) (bad bad' : Stops) → (a → a') → (b → b') → ((z : Stop) → bad z → bad' z) → on_truth x a b bad → on_truth x a' b' bad'
truth_map x a a' b b' bad bad' f g h w = may_map (truth_out x) _ _ bad bad' (λ z. by z) h w
  where
    by : (z : Bool) → cond z a b → cond z a' b'
    by true w = f w
    by false w = g w

module _ (calls : ℕ → Calls) (rising : Rising calls) (xs : List ℕ) (cs : Binds) (a : Arg) (x : Binds) (xe : Ending) (env : Vars) where
  -- the variables at the head
  abbrev pub at_head : List Value → Vars
  at_head vs = puts xs vs env

  -- a loop from these values, with so many turns left
  abbrev pub turns_may : ℕ → Stops → (List Value → Type 0) → ℕ → List Value → Type 0
  turns_may L bad out k vs = loop calls L env (λ g. ⊥) bad xs cs a x xe k out vs

  -- so many turns lead from values at the head to values at the head
  abbrev pub heads : ℕ → ℕ → List Value → (List Value → Type 0) → Type 0
  heads N zero vs P = P vs
  heads N (suc k) vs P =
      paths calls N cs (at_head vs) (λ g. on_truth (arg_value g a) (paths calls N x (at_head vs) (λ e. heads N k (arg_values e xe.results) P) never) ⊥ never) never

  turn_zero : (L : ℕ) (bad : Stops) (out : List Value → Type 0) (vs : List Value) → paths calls L cs (at_head vs) (λ g. on_truth (arg_value g a) (bad Excess) (out vs) bad) bad → turns_may L bad out 0 vs
  turn_zero L bad out vs w = subst (λ y. y) (sym (loop_zero calls L env (λ g. ⊥) bad xs cs a x xe out vs)) w

  turn_suc : (L : ℕ) (bad : Stops) (out : List Value → Type 0) (k : ℕ) (vs : List Value) → paths calls L cs (at_head vs) (λ g. on_truth (arg_value g a) (paths calls L x (at_head vs) (λ e. turns_may L bad out k (arg_values e xe.results)) bad) (out vs) bad) bad → turns_may L bad out (suc k) vs
  turn_suc L bad out k vs w = subst (λ y. y) (sym (loop_suc calls L env (λ g. ⊥) bad xs cs a x xe k out vs)) w

  -- one more turn at the end
  heads_then : (N L : ℕ) → N ≤ L → (k : ℕ) (vs : List Value) (P P' : List Value → Type 0) → ((us : List Value) → P us → heads L 1 us P') → heads N k vs P → heads L (suc k) vs P'
  heads_then N L le zero vs P P' one w = one vs w
  heads_then N L le (suc k) vs P P' one w =
      lift calls rising N L le cs (at_head vs) _ _ never
      (λ g. truth_map (arg_value g a) _ _ _ _ never never
      (λ z. lift calls rising N L le x (at_head vs) _ _ never (λ e. heads_then N L le k (arg_values e xe.results) P P' one) z)
      (λ z. z) (λ z q. q)) w

  -- turns that were made, and turns from there
  heads_turns : (N L : ℕ) → N ≤ L → (bad : Stops) (out : List Value → Type 0) (k j : ℕ) (vs : List Value) (P : List Value → Type 0) → ((us : List Value) → P us → turns_may L bad out j us) → heads N k vs P → turns_may L bad out (k + j) vs
  heads_turns N L le bad out zero j vs P rest w = subst (λ y. turns_may L bad out y vs) (let e : j ≡ 0 + j = omega arith in e) (rest vs w)
  heads_turns N L le bad out (suc k) j vs P rest w =
      subst (λ y. turns_may L bad out y vs) (let e : suc (k + j) ≡ suc k + j = omega arith in e)
      (turn_suc L bad out (k + j) vs
      (lift calls rising N L le cs (at_head vs) _ _ bad
      (λ g. truth_map (arg_value g a) _ _ _ _ never bad
      (λ z. lift calls rising N L le x (at_head vs) _ _ bad (λ e. heads_turns N L le bad out k j (arg_values e xe.results) P rest) z)
      (λ z. absurd z) (λ z q. absurd q)) w))

  -- the condition's code stops, whatever turns are left
  test_stops : (L j : ℕ) (bad : Stops) (out : List Value → Type 0) (vs : List Value) → ((ok : Vars → Type 0) → paths calls L cs (at_head vs) ok bad) → turns_may L bad out j vs
  test_stops L zero bad out vs w = turn_zero L bad out vs (w _)
  test_stops L (suc j) bad out vs w = turn_suc L bad out j vs (w _)

  -- the condition came to variables at which it is true, or false
  module _ (L X : ℕ) (le : X ≤ L) (bad : Stops) (out : List Value → Type 0) (vs : List Value) (E : Vars) (p : paths calls X cs (at_head vs) (λ g. g ≡ E) never) where
    tested : (b : Bool) (M N : Type 0) → arg_value E a ≡ v.Bool b → cond b M N → paths calls L cs (at_head vs) (λ g. on_truth (arg_value g a) M N bad) bad
    tested b M N tr w =
        lift calls rising X L le cs (at_head vs) (λ g. g ≡ E) _ bad
        (λ g q. subst (λ y. on_truth (arg_value y a) M N bad) (sym q) (subst (λ y. on_truth y M N bad) (sym tr) w)) p

    turn_at : (j : ℕ) → arg_value E a ≡ v.Bool true → paths calls L x (at_head vs) (λ e. turns_may L bad out j (arg_values e xe.results)) bad → turns_may L bad out (suc j) vs
    turn_at j tr w = turn_suc L bad out j vs (tested true _ _ tr w)

    over_at : arg_value E a ≡ v.Bool true → bad Excess → turns_may L bad out 0 vs
    over_at tr w = turn_zero L bad out vs (tested true _ _ tr w)

    out_at : (j : ℕ) → arg_value E a ≡ v.Bool false → out vs → turns_may L bad out j vs
    out_at zero tr w = turn_zero L bad out vs (tested false _ _ tr w)
    out_at (suc j) tr w = turn_suc L bad out j vs (tested false _ _ tr w)

  module _ (ends : Type 0) (limit : ℕ) (p : Place) (to : List ℕ) (us : List Arg) (rest : Binds) where
    abbrev pub Loop : Binds
    Loop = While p to xs us cs a x xe rest

    abbrev Outs : ℕ → (Vars → Type 0) → Stops → List Value → Type 0
    Outs L ok bad vs = paths calls L rest (puts to vs env) ok bad

    -- the values at the head, after some turns from the start
    pub record HeadCame (vs : List Value) (N : ℕ) : Type 0 where
      pub made : ℕ
      pub few : IsWithin ends limit made
      pub by : heads N made (arg_values env us) (λ ws. ws ≡ vs)

    least : (n : ℕ) → 0 ≤ n
    least n = omega arith

    pub start_came : (h : HeadCame (arg_values env us) 0) × (h.made ≡ 0)
    start_came = (record { made = 0; few = λ e. least limit; by = refl }, refl)

    -- from the values at the head to the whole loop, with the turns that are left
    from_head : (vs : List Value) (N L : ℕ) (ok : Vars → Type 0) (bad : Stops) (h : HeadCame vs N) → N ≤ L → h.made ≤ L → turns_may L bad (Outs L ok bad) (L - h.made) vs → paths calls L Loop env ok bad
    from_head vs N L ok bad h le lm w =
        subst (λ y. y) (sym (paths_while calls L env ok bad p to xs us cs a x xe rest))
        (subst (λ y. turns_may L bad (Outs L ok bad) y (arg_values env us)) (let e : h.made + (L - h.made) ≡ L = omega (arith, lm) in e)
        (heads_turns N L le bad (Outs L ok bad) h.made (L - h.made) (arg_values env us) (λ ws. ws ≡ vs)
        (λ ws e. subst (λ y. turns_may L bad (Outs L ok bad) (L - h.made) y) (sym e) w) h.by))

    -- the condition stops
    pub test_lives : (vs : List Value) (N : ℕ) → IsWithin ends limit N → HeadCame vs N → Lives calls ends limit Loop env → Lives calls ends limit cs (at_head vs)
    test_lives vs N wi h lives M z must w =
        let t = top ends limit z M N h.made 0 must wi h.few (λ e. least limit) in
        lives t.most z t.must
        (from_head vs N t.most (λ e. ⊥) (only z) h t.first t.second
        (test_stops t.most (t.most - h.made) (only z) (Outs t.most (λ e. ⊥) (only z)) vs
        (λ ok. paths_map calls rising M t.most t.stop cs (at_head vs) (λ e. ⊥) ok (only z) (only z) (λ e k. absurd k) (λ y k. k) t.same w)))

    module _ (vs : List Value) (N X : ℕ) (E : Vars) (h : HeadCame vs N) (q : paths calls X cs (at_head vs) (λ g. g ≡ E) never) where
      -- where runs have to end, a turn that begins is one of those that are allowed
      pub turn_left : IsWithin ends limit N → IsWithin ends limit X → Lives calls ends limit Loop env → arg_value E a ≡ v.Bool true → IsWithin ends limit (suc h.made)
      turn_left wn wx lives tr e =
          ⊎_elim (λ lt. lt)
          (λ eq. absurd (lives limit Excess (e, refl)
          (from_head vs N limit (λ g. ⊥) (only Excess) h (wn e) (h.few e)
          (subst (λ y. turns_may limit (only Excess) (Outs limit (λ g. ⊥) (only Excess)) y vs) (nothing_left limit h.made eq)
          (over_at limit X (wx e) (only Excess) (Outs limit (λ g. ⊥) (only Excess)) vs E q tr tt)))))
          (apart h.made limit (h.few e))
        where
          nothing_left : (l m : ℕ) → m ≡ l → 0 ≡ l - m
          nothing_left l m e = omega (arith, e)

          apart : (m l : ℕ) → m ≤ l → (suc m ≤ l) ⊎ (m ≡ l)
          apart m l le = grind (arith, le)

      -- the body stops
      pub body_lives : IsWithin ends limit N → IsWithin ends limit X → Lives calls ends limit Loop env → arg_value E a ≡ v.Bool true → Lives calls ends limit x (at_head vs)
      body_lives wn wx lives tr M z must w =
          let t = top ends limit z M N X (suc h.made) must wn wx (turn_left wn wx lives tr) in
          lives t.most z t.must
          (from_head vs N t.most (λ e. ⊥) (only z) h t.first (less h.made t.most t.third)
          (subst (λ y. turns_may t.most (only z) (Outs t.most (λ e. ⊥) (only z)) y vs) (one_left h.made t.most t.third)
          (turn_at t.most X t.second (only z) (Outs t.most (λ e. ⊥) (only z)) vs E q (t.most - suc h.made) tr
          (paths_map calls rising M t.most t.stop x (at_head vs) (λ e. ⊥) _ (only z) (only z) (λ e k. absurd k) (λ y k. k) t.same w))))
        where
          less : (m l : ℕ) → suc m ≤ l → m ≤ l
          less m l k = omega (arith, k)

          one_left : (m l : ℕ) → suc m ≤ l → suc (l - suc m) ≡ l - m
          one_left m l k = omega (arith, k)

      -- a test that is no truth value stops the loop
      pub head_lives : Lives calls ends limit Loop env → may (truth_out (arg_value E a)) (λ b. ⊥) (only Fault) → ⊥
      head_lives lives w =
          let L = max N (max X (suc h.made)) in
          lives L Fault tt
          (from_head vs N L (λ g. ⊥) (only Fault) h (left N (max X (suc h.made))) (right N X h.made)
          (stops_at (L - h.made) L (middle N X (suc h.made))))
        where
          left : (a b : ℕ) → a ≤ max a b
          left a b = omega arith

          right : (a b c : ℕ) → c ≤ max a (max b (suc c))
          right a b c = omega arith

          middle : (a b c : ℕ) → b ≤ max a (max b c)
          middle a b c = omega arith

          fault_at : (y : Value) (A B : Type 0) → may (truth_out y) (λ b. ⊥) (only Fault) → on_truth y A B (only Fault)
          fault_at y A B k = may_map (truth_out y) (λ b. ⊥) (λ z. cond z A B) (only Fault) (only Fault) (λ z q. absurd q) (λ z q. q) k

          stops_at : (j L : ℕ) → X ≤ L → turns_may L (only Fault) (Outs L (λ g. ⊥) (only Fault)) j vs
          stops_at zero L le =
              turn_zero L (only Fault) (Outs L (λ g. ⊥) (only Fault)) vs
              (lift calls rising X L le cs (at_head vs) (λ g. g ≡ E) _ (only Fault) (λ g k. fault_at (arg_value g a) _ _ (subst (λ y. may (truth_out (arg_value y a)) (λ b. ⊥) (only Fault)) (sym k) w)) q)
          stops_at (suc j) L le =
              turn_suc L (only Fault) (Outs L (λ g. ⊥) (only Fault)) j vs
              (lift calls rising X L le cs (at_head vs) (λ g. g ≡ E) _ (only Fault) (λ g k. fault_at (arg_value g a) _ _ (subst (λ y. may (truth_out (arg_value y a)) (λ b. ⊥) (only Fault)) (sym k) w)) q)

      -- the loop is left
      pub leaves : (M L : ℕ) (ok : Vars → Type 0) (bad : Stops) → N ≤ L → X ≤ L → M ≤ L → h.made ≤ L → (bad Excess → M ≡ L) → arg_value E a ≡ v.Bool false → paths calls M rest (puts to vs env) ok bad → paths calls L Loop env ok bad
      leaves M L ok bad nl xl ml hl o tr w =
          from_head vs N L ok bad h nl hl
          (out_at L X xl bad (Outs L ok bad) vs E q (L - h.made) tr (raise calls rising M L ml rest (puts to vs env) ok bad o w))

      -- one more turn
      pub turn_came : (ws : List Value) (Y L : ℕ) (E' : Vars) → N ≤ L → X ≤ L → Y ≤ L → IsWithin ends limit (suc h.made) → arg_value E a ≡ v.Bool true → paths calls Y x (at_head vs) (λ g. g ≡ E') never → arg_values E' xe.results ≡ ws → (k : HeadCame ws L) × (k.made ≡ suc h.made)
      turn_came ws Y L E' nl xl yl few tr r ew = (
        record {
          made = suc h.made;
          few = few;
          by = heads_then N L nl h.made (arg_values env us) (λ zs. zs ≡ vs) (λ zs. zs ≡ ws) (λ zs e. subst (λ y. heads L 1 y (λ zs. zs ≡ ws)) (sym e) one) h.by;
        },
        refl,
      )
        where
          one : heads L 1 vs (λ zs. zs ≡ ws)
          one = tested L X xl never (λ zs. ⊥) vs E q true _ ⊥ tr (lift calls rising Y L yl x (at_head vs) (λ g. g ≡ E') _ never (λ g z. ap (λ y. arg_values y xe.results) z ∙ ew) r)
