-- What is left of parameters at the end of a body.
use Rattle.std.proofs.Common.{◌≡◌, ◌+◌, ◌<◌, ℕ, suc, Bool, true, false, ◌&&◌, ◌||◌, not, cond, List, [], ◌∷◌, ◌++◌, length, nat_eq, refl, sym, ap, ◌∙◌, subst, arith, append_assoc}
use Rattle.std.proofs.lemmas.Bool.{eq-eqb, ne_eqb, true≢false}
use Rattle.std.specs.Prelude.{Option, Some, None, option_map}
use Rattle.bare_holds.specs.Bare.{bare_hold, bare_holds}
use Rattle.bind_laws.proofs.Goings.{goners_at}
use Rattle.context_laws.specs.Stacks.{spot_in}
use Rattle.fit_laws.proofs.Numbers.{args_hold, numbers_goners, numbers_rest, numbers_then, under_more, vars_hold}
use Rattle.fit_laws.specs.Older.{Older, SameNumbers, Under}
use Rattle.fit_state.specs.States.{Is}
use Rattle.fit_state.specs.declared.state.FitState.{FitState}
use Rattle.fit_walk.specs.Bodies.{kept_at, kept_from}
use Rattle.fit_walk.proofs.BeginLemmas.{below_next}
use Rattle.fits.specs.Follow.{is_there, nth_token}
use Rattle.fits.specs.Places.{Entry, State, Info, all_vars, arg_infos, fresh, goners, put, spot_of, spots_of}
use Rattle.fits.specs.Programs.{begin_state, bind_param, bind_params, only_kept, param_shape, param_tokens}
use Rattle.nres_core.specs.declared.flat.Arg.{Arg}
use Rattle.rule_check.specs.Check.{param_hold}
use Rattle.rule_check.specs.Context.{Hold, Owned, Kept, Gone, Spot, is_among, is_container, is_gone}
use Rattle.side_laws.proofs.Tails.{bare_joined, bare_length, spots_joined, spots_length}
use Rattle.target_code.specs.declared.tree.InParam.{InParam}

-- ---- one parameter

-- whether it is left does not ask for the hold of a number
same_kept : (o : Option Spot) (kept : Bool) (gone : List ℕ) → kept_at (option_map bare_hold o) kept gone ≡ kept_at o kept gone
same_kept None kept gone = refl
same_kept (Some s) kept gone = by (is_container s.rep) refl
  where
    by : (b : Bool) → is_container s.rep ≡ b
        → (not (is_container s.rep) || cond kept (not (is_gone (cond (is_container s.rep) s.hold Owned) || is_among s.var gone)) (is_gone (cond (is_container s.rep) s.hold Owned) || is_among s.var gone))
        ≡ (not (is_container s.rep) || cond kept (not (is_gone s.hold || is_among s.var gone)) (is_gone s.hold || is_among s.var gone))
    by true e = ap (λ c. not (is_container s.rep) || cond kept (not (is_gone (cond c s.hold Owned) || is_among s.var gone)) (is_gone (cond c s.hold Owned) || is_among s.var gone)) e
    by false e =
        ap (λ c. not c || cond kept (not (is_gone (cond c s.hold Owned) || is_among s.var gone)) (is_gone (cond c s.hold Owned) || is_among s.var gone)) e
        ∙ sym (ap (λ c. not c || cond kept (not (is_gone s.hold || is_among s.var gone)) (is_gone s.hold || is_among s.var gone)) e)

spot_bare : (ss : List Spot) (i : ℕ) → spot_in (bare_holds ss) i ≡ option_map bare_hold (spot_in ss i)
spot_bare [] i = refl
spot_bare (s ∷ ss) i = (λ j. cond (nat_eq (bare_length ss j) i) (Some (bare_hold s)) (spot_bare ss i j)) ∙ by (nat_eq (length ss) i)
  where
    by : (b : Bool) → cond b (Some (bare_hold s)) (option_map bare_hold (spot_in ss i)) ≡ option_map bare_hold (cond b (Some s) (spot_in ss i))
    by true = refl
    by false = refl

-- what stands below others
spot_below : (xs : List Spot) (s : Spot) (ss : List Spot) → spot_in (xs ++ (s ∷ ss)) (length ss) ≡ Some s
spot_below [] s ss = ap (λ b. cond b (Some s) (spot_in ss (length ss))) (eq-eqb (length ss) (length ss) refl)
spot_below (x ∷ xs) s ss = ap (λ b. cond b (Some x) (spot_in (xs ++ (s ∷ ss)) (length ss))) (ne_eqb (length (xs ++ (s ∷ ss))) (length ss) (λ e. let o : ⊥ = omega (arith, e, more xs) in o)) ∙ spot_below xs s ss
  where
    more : (ys : List Spot) → length ss < length (ys ++ (s ∷ ss))
    more [] = omega arith
    more (y ∷ ys) = let h : length ss < length (ys ++ (s ∷ ss)) = more ys in omega (arith, h)

-- as the definition has it
abbrev kept_entry : (ℕ → Hold) → Entry → Bool
kept_entry h e = cond e.part (is_there (h e.var)) (not (is_container e.shape.rep) || is_gone (h e.var))

gone_at : (h : ℕ → Hold) (gone : List ℕ) (v : ℕ) → is_gone (goners gone h v) ≡ (is_gone (h v) || is_among v gone)
gone_at h gone v = ap is_gone (goners_at gone h v) ∙ by (is_among v gone) (h v)
  where
    by : (b : Bool) (x : Hold) → is_gone (cond b Gone x) ≡ (is_gone x || b)
    by true Owned = refl
    by true Kept = refl
    by true Gone = refl
    by false Owned = refl
    by false Kept = refl
    by false Gone = refl

-- a number is there where it is kept
entry_kept : (h : ℕ → Hold) (gone : List ℕ) (e : Entry) → (is_container e.shape.rep ≡ false → e.part ≡ true → is_gone (goners gone h e.var) ≡ false) → kept_at (Some (spot_of h e)) e.part gone ≡ kept_entry (goners gone h) e
entry_kept h gone e number = by e.part (is_container e.shape.rep) (is_gone (goners gone h e.var)) (sym (gone_at h gone e.var)) number
  where
    by : (p c g : Bool) → (is_gone (h e.var) || is_among e.var gone) ≡ g → (c ≡ false → p ≡ true → g ≡ false)
        → (not c || cond p (not (is_gone (h e.var) || is_among e.var gone)) (is_gone (h e.var) || is_among e.var gone)) ≡ cond p (not g) (not c || g)
    by true true g q n = ap not q
    by true false true q n = absurd (true≢false (n refl refl))
    by true false false q n = refl
    by false true g q n = q
    by false false g q n = refl

-- ---- all of them

and_three : (a b c : Bool) → ((a && b) && c) ≡ (b && (a && c))
and_three true true c = refl
and_three true false c = refl
and_three false true c = refl
and_three false false c = refl

-- the entry of a parameter
abbrev newest : State → InParam → Entry
newest s y = record { var = s.next; shape = param_shape s.next y; words = fresh s.next (param_shape s.next y); part = y.kept }

-- those of later parameters stand before it
record Before_all (s : State) (ys : List InParam) : Type 0 where
  more : List Entry
  is : (bind_params s ys).entries ≡ more ++ s.entries

before_all : (s : State) (ys : List InParam) → Before_all s ys
before_all s [] = record { more = []; is = refl }
before_all s (y ∷ ys) =
    let b : Before_all (bind_param s y) ys = before_all (bind_param s y) ys in
    record { more = b.more ++ (newest s y ∷ []); is = b.is ∙ sym (append_assoc b.more (newest s y ∷ []) s.entries) }

-- a number that is kept is there
abbrev pub Numbers : (ℕ → Hold) → List Entry → Type 0
Numbers g [] = Unit {0}
Numbers g (e ∷ es) = (is_container e.shape.rep ≡ false → e.part ≡ true → is_gone (g e.var) ≡ false) × Numbers g es

numbers_behind : (g : ℕ → Hold) (es rest : List Entry) → Numbers g (es ++ rest) → Numbers g rest
numbers_behind g [] rest n = n
numbers_behind g (e ∷ es) rest n = numbers_behind g es rest n.1

module _ (x : List Spot) (h : ℕ → Hold) (gone : List ℕ) where
  -- the place of a parameter
  at_place : (made es : List Entry) (e : Entry) → bare_holds x ≡ bare_holds (spots_of h (made ++ (e ∷ es))) → kept_at (spot_in x (length es)) e.part gone ≡ kept_at (Some (spot_of h e)) e.part gone
  at_place made es e held =
      let count : length (bare_holds (spots_of h es)) ≡ length es = bare_length (spots_of h es) ∙ spots_length h es in
      let split : bare_holds (spots_of h (made ++ (e ∷ es))) ≡ bare_holds (spots_of h made) ++ (bare_hold (spot_of h e) ∷ bare_holds (spots_of h es)) = ap bare_holds (spots_joined h made (e ∷ es)) ∙ bare_joined (spots_of h made) (spots_of h (e ∷ es)) in
      let found : option_map bare_hold (spot_in x (length es)) ≡ Some (bare_hold (spot_of h e)) =
      sym (spot_bare x (length es)) ∙ (λ i. spot_in ((held ∙ split) i) (sym count i)) ∙ spot_below (bare_holds (spots_of h made)) (bare_hold (spot_of h e)) (bare_holds (spots_of h es)) in
      sym (same_kept (spot_in x (length es)) e.part gone) ∙ ap (λ o. kept_at o e.part gone) found ∙ same_kept (Some (spot_of h e)) e.part gone

  all_kept : (made : List Entry) (s : State) (ys : List InParam) → bare_holds x ≡ bare_holds (spots_of h (made ++ (bind_params s ys).entries)) → Numbers (goners gone h) (bind_params s ys).entries
      → only_kept (goners gone h) (bind_params s ys).entries ≡ (kept_from x (length s.entries) ys gone && only_kept (goners gone h) s.entries)
  all_kept made s [] held n = refl
  all_kept made s (y ∷ ys) held n =
      let e : Entry = newest s y in
      let b : Before_all (bind_param s y) ys = before_all (bind_param s y) ys in
      let held_so : bare_holds x ≡ bare_holds (spots_of h ((made ++ b.more) ++ (e ∷ s.entries))) = held ∙ ap (λ es. bare_holds (spots_of h (made ++ es))) b.is ∙ ap (λ es. bare_holds (spots_of h es)) (sym (append_assoc made b.more (e ∷ s.entries))) in
      let numbers : Numbers (goners gone h) (e ∷ s.entries) = numbers_behind (goners gone h) b.more (e ∷ s.entries) (subst (Numbers (goners gone h)) b.is n) in
      let here : kept_at (spot_in x (length s.entries)) y.kept gone ≡ kept_entry (goners gone h) e = at_place (made ++ b.more) s.entries e held_so ∙ entry_kept h gone e numbers.0 in
      all_kept made (bind_param s y) ys held n
      ∙ ap (λ z. kept_from x (suc (length s.entries)) ys gone && (z && only_kept (goners gone h) s.entries)) (sym here)
      ∙ sym (and_three (kept_at (spot_in x (length s.entries)) y.kept gone) (kept_from x (suc (length s.entries)) ys gone) (only_kept (goners gone h) s.entries))

-- ---- how parameters are held at the beginning

abbrev HeldSo : (ℕ → Hold) → List Entry → Type 0
HeldSo h [] = Unit {0}
HeldSo h (e ∷ es) = (h e.var ≡ param_hold e.part) × HeldSo h es

held_below : (v : ℕ) (x : Hold) (h : ℕ → Hold) (es : List Entry) → Under v es → HeldSo h es → HeldSo (put h v x) es
held_below v x h [] u k = tt
held_below v x h (e ∷ es) u k =
    let lt : e.var < v = u.0 in
    let ne : e.var ≡ v → ⊥ = λ q. let o : ⊥ = omega (arith, lt, q) in o in
    (ap (λ b. cond b x (h e.var)) (ne_eqb e.var v ne) ∙ k.0, held_below v x h es (under_more e.var v es (omega (arith, lt)) u.1) k.1)

held_params : (s : State) (ys : List InParam) → Under s.next s.entries → HeldSo s.hold s.entries → HeldSo (bind_params s ys).hold (bind_params s ys).entries
held_params s [] u k = k
held_params s (y ∷ ys) u k =
    held_params (bind_param s y) ys (below_next s.next, u)
    (ap (λ b. cond b (param_hold y.kept) (s.hold s.next)) (eq-eqb s.next s.next refl), held_below s.next (param_hold y.kept) s.hold s.entries u k)

are_numbers : (h g : ℕ → Hold) (es : List Entry) → HeldSo h es → SameNumbers h g es → Numbers g es
are_numbers h g [] k n = tt
are_numbers h g (e ∷ es) k n = (λ c p. ap is_gone (n.0 c ∙ k.0 ∙ ap param_hold p), are_numbers h g es k.1 n.1)

-- ---- at the end

and_true : (b : Bool) → (b && true) ≡ b
and_true true = refl
and_true false = refl

abbrev empty_state : ℕ → ℕ → List InParam → State
empty_state k n ys = record { toks = λ i. nth_token i (param_tokens k ys); entries = []; hold = λ v. Gone; next = k; facts = []; defs = []; branch = n }

pub kept_same : (R : ℕ) (x : FitState) (k n : ℕ) (ys : List InParam) (u : State) (us : List Arg) (infos : List Info) → Is R x u → Older (begin_state k n ys) u → arg_infos u.entries us ≡ Some infos
    → kept_from x.rules.context.spots 0 ys (all_vars infos) ≡ only_kept (goners (all_vars infos) u.hold) (begin_state k n ys).entries
kept_same R x k n ys u us infos is older args =
    let s : State = empty_state k n ys in
    let g : ℕ → Hold = goners (all_vars infos) u.hold in
    let moved : SameNumbers u.hold g u.entries = numbers_goners u.entries (all_vars infos) u.hold (vars_hold infos u.entries (args_hold u.next u.entries us infos older.under args)) in
    let same : SameNumbers (begin_state k n ys).hold g (begin_state k n ys).entries =
    numbers_then (begin_state k n ys).hold u.hold g (begin_state k n ys).entries older.numbers (numbers_rest u.hold g older.made (begin_state k n ys).entries (subst (SameNumbers u.hold g) older.entries moved)) in
    let held : bare_holds x.rules.context.spots ≡ bare_holds (spots_of u.hold (older.made ++ (begin_state k n ys).entries)) = is.held.same.spots ∙ ap (λ es. bare_holds (spots_of u.hold es)) older.entries in
    sym (all_kept x.rules.context.spots u.hold (all_vars infos) older.made s ys held (are_numbers (begin_state k n ys).hold g (begin_state k n ys).entries (held_params s ys tt tt) same) ∙ and_true (kept_from x.rules.context.spots 0 ys (all_vars infos)))
