-- What the rule check's test of an operation says of its arguments.
use Rattle.std.proofs.Common.{◌≡◌, ℕ, zero, suc, ◌<◌, ◌≤◌, Bool, true, false, cond, List, [], ◌∷◌, ◌++◌, length, refl, sym, ap, ◌∙◌, subst, arith, eqb, eqb-true, eq-eqb, leb, leb-true, ltb-true, ⊎_elim, ◌⊎◌, inl, inr, ◌&&◌, ◌||◌}
use Rattle.std.proofs.lemmas.Bool.{cond_both, false≢true, true≢false, and_parts}
use Rattle.std.specs.Prelude.{Option, Some, None, Ok}
use Rattle.nres_core.specs.declared.flat.Arg.{Arg}
use Rattle.nres_core.specs.declared.flat.Arg.TheVariants as a
use Rattle.nres_core.specs.declared.op.Op.{Op}
use Rattle.nres_core.specs.declared.place.Place.{Place}
use Rattle.nres_core.specs.declared.value.Value.{Value}
use Rattle.nres_core.specs.declared.value.Value.TheVariants as v
use Rattle.nres_meaning.specs.FlatMeaning.{Vars, arg_value, arg_values}
use Rattle.target_code.specs.declared.tree.Rep.{Rep}
use Rattle.row_laws.specs.Rows.{At, IsBelow}
use Rattle.rule_check.specs.Context.{Hold, Spot, Shape, Fact, is_owned, is_container, is_slice, looked_up, reps_of, shapes_of, vars_of, stands, first_clash}
use Rattle.rule_check.specs.Facts.{knows, var_below}
use Rattle.rule_check.specs.Laws.{Applies}
use Rattle.rule_check.specs.Steps.{apply_sure, is_destroyed, destroyed, slice_tag, row_shapes, op_bound, arg_at, unless_known, unknown}
use Rattle.rule_check.specs.Table.{Rule, Take}
use Rattle.rule_check.proofs.Tested.{skip, NoneGone, none_gone, operations_apply}
use Rattle.fits.specs.Places.{Entry, State, arg_info, spots_of, ctx_of, Info, arg_infos, all_vars, info_shapes, info_reps, wanted, goners}
use Rattle.fits.specs.Follow.{Views, fates, is_there, given_shapes}
use Rattle.fits_sound.specs.Meant.{Facts, Among, Small}
use Rattle.fits_sound.specs.RowShapes.{shape_reps, gone_tag, kept_count, need_of, row_on}
use Rattle.fits_sound.proofs.Basic.{some_is}
use Rattle.fits_sound.proofs.Spots.{Spots_are, cons_parts, spots_are, vars_are, reps_are, shapes_are, owned_wanted, there_wanted, not_stands}
use Rattle.fits_sound.proofs.Take.{All_wanted, Not_in, Distinct, goners_other, arg_among}

-- ---- arguments that are destroyed, and the others

abbrev others : List Take → List Spot → List Spot
others (t ∷ ts) (s ∷ ss) = cond (is_destroyed t.fate) (others ts ss) (s ∷ others ts ss)
others _ _ = []

abbrev chosen : Bool → List Bool → List Info → List Info
chosen b [] is = []
chosen b (d ∷ ds) [] = []
chosen true (true ∷ ds) (i ∷ is) = i ∷ chosen true ds is
chosen true (false ∷ ds) (i ∷ is) = chosen true ds is
chosen false (true ∷ ds) (i ∷ is) = chosen false ds is
chosen false (false ∷ ds) (i ∷ is) = i ∷ chosen false ds is

wanted_chosen : (b : Bool) (ds : List Bool) (is : List Info) → wanted b ds is ≡ all_vars (chosen b ds is)
wanted_chosen b [] is = refl
wanted_chosen true (d ∷ ds) [] = refl
wanted_chosen false (d ∷ ds) [] = refl
wanted_chosen true (true ∷ ds) (i ∷ is) = ap (λ y. i.vars ++ y) (wanted_chosen true ds is)
wanted_chosen true (false ∷ ds) (i ∷ is) = wanted_chosen true ds is
wanted_chosen false (true ∷ ds) (i ∷ is) = wanted_chosen false ds is
wanted_chosen false (false ∷ ds) (i ∷ is) = ap (λ y. i.vars ++ y) (wanted_chosen false ds is)

chosen_are : (hold : ℕ → Hold) (ts : List Take) (is : List Info) (ss : List Spot) → Spots_are hold is ss → Spots_are hold (chosen true (fates ts) is) (destroyed ts ss)
chosen_are hold [] is ss w = tt
chosen_are hold (t ∷ ts) [] [] w = tt
chosen_are hold (t ∷ ts) [] (s ∷ ss) w = absurd w
chosen_are hold (t ∷ ts) (i ∷ is) [] w = absurd w
chosen_are hold (t ∷ ts) (i ∷ is) (s ∷ ss) w = by (is_destroyed t.fate) (chosen_are hold ts is ss w.1)
  where
    by : (b : Bool) → Spots_are hold (chosen true (fates ts) is) (destroyed ts ss) → Spots_are hold (chosen true (b ∷ fates ts) (i ∷ is)) (cond b (s ∷ destroyed ts ss) (destroyed ts ss))
    by true z = (w.0, z)
    by false z = z

others_are : (hold : ℕ → Hold) (ts : List Take) (is : List Info) (ss : List Spot) → Spots_are hold is ss → Spots_are hold (chosen false (fates ts) is) (others ts ss)
others_are hold [] is ss w = tt
others_are hold (t ∷ ts) [] [] w = tt
others_are hold (t ∷ ts) [] (s ∷ ss) w = absurd w
others_are hold (t ∷ ts) (i ∷ is) [] w = absurd w
others_are hold (t ∷ ts) (i ∷ is) (s ∷ ss) w = by (is_destroyed t.fate) (others_are hold ts is ss w.1)
  where
    by : (b : Bool) → Spots_are hold (chosen false (fates ts) is) (others ts ss) → Spots_are hold (chosen false (b ∷ fates ts) (i ∷ is)) (cond b (others ts ss) (s ∷ others ts ss))
    by true z = z
    by false z = (w.0, z)

-- membership goes up
or_up : (x y z : Bool) → (y ≡ true → z ≡ true) → (x || y) ≡ true → (x || z) ≡ true
or_up true y z f e = refl
or_up false y z f e = f e

or_right : (x y : Bool) → y ≡ true → (x || y) ≡ true
or_right true y e = refl
or_right false y e = e

destroyed_stands : (ts : List Take) (ss : List Spot) (k : ℕ) → stands k (destroyed ts ss) ≡ true → stands k ss ≡ true
destroyed_stands [] ss k e = absurd (false≢true e)
destroyed_stands (t ∷ ts) [] k e = absurd (false≢true e)
destroyed_stands (t ∷ ts) (s ∷ ss) k e =
    cond_both {A = List Spot} (is_destroyed t.fate) (s ∷ destroyed ts ss) (destroyed ts ss) (λ y. stands k y ≡ true → stands k (s ∷ ss) ≡ true)
    (λ c e. or_up (is_container s.rep && eqb k s.var) (stands k (destroyed ts ss)) (stands k ss) (destroyed_stands ts ss k) e)
    (λ c e. or_right (is_container s.rep && eqb k s.var) (stands k ss) (destroyed_stands ts ss k e))
    e

others_stands : (ts : List Take) (ss : List Spot) (k : ℕ) → stands k (others ts ss) ≡ true → stands k ss ≡ true
others_stands [] ss k e = absurd (false≢true e)
others_stands (t ∷ ts) [] k e = absurd (false≢true e)
others_stands (t ∷ ts) (s ∷ ss) k e =
    cond_both {A = List Spot} (is_destroyed t.fate) (others ts ss) (s ∷ others ts ss) (λ y. stands k y ≡ true → stands k (s ∷ ss) ≡ true)
    (λ c e. or_right (is_container s.rep && eqb k s.var) (stands k ss) (others_stands ts ss k e))
    (λ c e. or_up (is_container s.rep && eqb k s.var) (stands k (others ts ss)) (stands k ss) (others_stands ts ss k) e)
    e

or_split : (x y : Bool) → (x || y) ≡ true → (x ≡ true) ⊎ (y ≡ true)
or_split true y e = inl refl
or_split false y e = inr e

clash : (x y : Bool) → (x && y) ≡ false → x ≡ true → y ≡ true → ⊥
clash x y e a b = true≢false (sym (ap (λ z. z && y) a ∙ b) ∙ e)

-- what is kept is not destroyed too
apart : (DS : List Spot) (ts : List Take) (ss : List Spot) → first_clash DS ss ≡ None → ((k : ℕ) → stands k (destroyed ts ss) ≡ true → stands k DS ≡ true) → (k : ℕ) → stands k (others ts ss) ≡ true → stands k (destroyed ts ss) ≡ true → ⊥
apart DS [] ss c sub k o d = false≢true o
apart DS (t ∷ ts) [] c sub k o d = false≢true o
apart DS (t ∷ ts) (s ∷ ss) c sub k o d =
    let p = skip (is_container s.rep) (stands s.var ss && stands s.var DS) s.var (first_clash DS ss) c in
    by (is_destroyed t.fate) (apart DS ts ss p.1) p.0 sub o d
  where
    by : (b : Bool) → (((k : ℕ) → stands k (destroyed ts ss) ≡ true → stands k DS ≡ true) → (k : ℕ) → stands k (others ts ss) ≡ true → stands k (destroyed ts ss) ≡ true → ⊥) → (is_container s.rep ≡ true → (stands s.var ss && stands s.var DS) ≡ false) → ((k : ℕ) → stands k (cond b (s ∷ destroyed ts ss) (destroyed ts ss)) ≡ true → stands k DS ≡ true) → stands k (cond b (others ts ss) (s ∷ others ts ss)) ≡ true → stands k (cond b (s ∷ destroyed ts ss) (destroyed ts ss)) ≡ true → ⊥
    by true further un sub o d =
        ⊎_elim
        (λ q. let w = and_parts (is_container s.rep) (eqb k s.var) q in
        let e = eqb-true k s.var w.1 in
        clash (stands s.var ss) (stands s.var DS) (un w.0) (subst (λ y. stands y ss ≡ true) e (others_stands ts ss k o)) (subst (λ y. stands y DS ≡ true) e (sub k d)))
        (λ q. further (λ j z. sub j (or_right (is_container s.rep && eqb j s.var) (stands j (destroyed ts ss)) z)) k o q)
        (or_split (is_container s.rep && eqb k s.var) (stands k (destroyed ts ss)) d)
    by false further un sub o d =
        ⊎_elim
        (λ q. let w = and_parts (is_container s.rep) (eqb k s.var) q in
        let e = eqb-true k s.var w.1 in
        clash (stands s.var ss) (stands s.var DS) (un w.0) (subst (λ y. stands y ss ≡ true) e (destroyed_stands ts ss k d)) (subst (λ y. stands y DS ≡ true) e (sub k d)))
        (λ q. further sub k q d)
        (or_split (is_container s.rep && eqb k s.var) (stands k (others ts ss)) o)

is_false : (b : Bool) → (b ≡ true → ⊥) → b ≡ false
is_false false f = refl
is_false true f = absurd (f refl)

-- of what is destroyed none stands twice
destroyed_distinct : (DS : List Spot) (ts : List Take) (ss : List Spot) → first_clash DS ss ≡ None → ((k : ℕ) → stands k (destroyed ts ss) ≡ true → stands k DS ≡ true) → Distinct (vars_of (destroyed ts ss))
destroyed_distinct DS [] ss c sub = tt
destroyed_distinct DS (t ∷ ts) [] c sub = tt
destroyed_distinct DS (t ∷ ts) (s ∷ ss) c sub =
    let p = skip (is_container s.rep) (stands s.var ss && stands s.var DS) s.var (first_clash DS ss) c in
    by (is_destroyed t.fate) (destroyed_distinct DS ts ss p.1) p.0 sub
  where
    first : (b : Bool) → is_container s.rep ≡ b → (b ≡ true → (stands s.var ss && stands s.var DS) ≡ false) → ((k : ℕ) → ((b && eqb k s.var) || stands k (destroyed ts ss)) ≡ true → stands k DS ≡ true) → Distinct (vars_of (destroyed ts ss)) → Distinct (cond b (s.var ∷ vars_of (destroyed ts ss)) (vars_of (destroyed ts ss)))
    first true q un sub rest = (not_stands s.var (destroyed ts ss) (is_false (stands s.var (destroyed ts ss)) (λ e. clash (stands s.var ss) (stands s.var DS) (un refl) (destroyed_stands ts ss s.var e) (sub s.var (ap (λ y. y || stands s.var (destroyed ts ss)) (eq-eqb s.var s.var refl))))), rest)
    first false q un sub rest = rest

    by : (b : Bool) → (((k : ℕ) → stands k (destroyed ts ss) ≡ true → stands k DS ≡ true) → Distinct (vars_of (destroyed ts ss))) → (is_container s.rep ≡ true → (stands s.var ss && stands s.var DS) ≡ false) → ((k : ℕ) → stands k (cond b (s ∷ destroyed ts ss) (destroyed ts ss)) ≡ true → stands k DS ≡ true) → Distinct (vars_of (cond b (s ∷ destroyed ts ss) (destroyed ts ss)))
    by true further un sub = first (is_container s.rep) refl un sub (further (λ j z. sub j (or_right (is_container s.rep && eqb j s.var) (stands j (destroyed ts ss)) z)))
    by false further un sub = further sub

-- of what is kept there is at most one
kept_few : (hold : ℕ → Hold) (ds : List Bool) (is : List Info) (ss : List Spot) → Spots_are hold is ss → length (wanted false ds is) ≡ kept_count ds (info_shapes is)
kept_few hold [] is ss w = refl
kept_few hold (true ∷ ds) [] ss w = refl
kept_few hold (false ∷ ds) [] ss w = refl
kept_few hold (d ∷ ds) (i ∷ is) [] w = absurd w
kept_few hold (true ∷ ds) (i ∷ is) (s ∷ ss) w = kept_few hold ds is ss w.1
kept_few hold (false ∷ ds) (i ∷ is) (s ∷ ss) w =
    ap (λ y. length (y ++ wanted false ds is)) w.0.1 ∙ by (is_container s.rep) (kept_few hold ds is ss w.1) ∙ ap (λ (y : Shape). cond (is_container y.rep) (suc (kept_count ds (info_shapes is))) (kept_count ds (info_shapes is))) (sym w.0.0)
  where
    by : (c : Bool) → length (wanted false ds is) ≡ kept_count ds (info_shapes is) → length (cond c (s.var ∷ []) [] ++ wanted false ds is) ≡ cond c (suc (kept_count ds (info_shapes is))) (kept_count ds (info_shapes is))
    by true e = ap suc e
    by false e = e

few_distinct : (vs : List ℕ) → length vs ≤ 1 → Distinct vs
few_distinct [] le = tt
few_distinct (x ∷ []) le = (tt, tt)
few_distinct (x ∷ y ∷ vs) le = absurd (let o : ⊥ = omega (arith, le) in o)

abbrev In : ℕ → List ℕ → Type 0
In k [] = ⊥
In k (x ∷ xs) = (k ≡ x) ⊎ In k xs

-- where each is apart from those that go, its hold stays
still_there : (hold : ℕ → Hold) (gone : List ℕ) (vs : List ℕ) → ((k : ℕ) → In k vs → Not_in k gone) → All_wanted is_there vs hold → All_wanted is_there vs (goners gone hold)
still_there hold gone [] n w = tt
still_there hold gone (x ∷ vs) n w = (ap is_there (goners_other gone hold x (n x (inl refl))) ∙ w.0, still_there hold gone vs (λ k q. n k (inr q)) w.1)

in_stands : (k : ℕ) (ss : List Spot) → In k (vars_of ss) → stands k ss ≡ true
in_stands k [] q = absurd q
in_stands k (s ∷ ss) q =
    cond_both {A = List ℕ} (is_container s.rep) (s.var ∷ vars_of ss) (vars_of ss) (λ y. In k y → stands k (s ∷ ss) ≡ true)
    (λ c q. ⊎_elim (λ e. ap (λ y. (y && eqb k s.var) || stands k ss) c ∙ ap (λ y. y || stands k ss) (eq-eqb k s.var e)) (λ z. or_right (is_container s.rep && eqb k s.var) (stands k ss) (in_stands k ss z)) q)
    (λ c q. or_right (is_container s.rep && eqb k s.var) (stands k ss) (in_stands k ss q))
    q

-- ---- facts

known_var : (n : ℕ) (V : Vars) (es : List Entry) (fs : List Fact) → Facts n V es fs → (x u : ℕ) → Among x es → var_below fs x u ≡ true → IsBelow (V x) u
known_var n V es [] k x u m e = absurd (false≢true e)
known_var n V es (f ∷ fs) k x u m e =
    ⊎_elim
    (λ w. let p = and_parts (eqb f.var x) (leb f.bound u) w in
    let q = eqb-true f.var x p.0 in
    subst (λ y. IsBelow (V y) u) q (more (V f.var) f.bound u (leb-true f.bound u p.1) (k.0.1 (subst (λ y. Among y es) (sym q) m))))
    (λ w. known_var n V es fs k.1 x u m w)
    (or_split (eqb f.var x && leb f.bound u) (var_below fs x u) e)
  where
    more : (y : Value) (b u : ℕ) → b ≤ u → IsBelow y b → IsBelow y u
    more (v.Nat z) b u le s = omega (arith, le, s)
    more (v.Bool z) b u le s = s
    more (v.List z) b u le s = s
    more (v.Set z) b u le s = s
    more (v.Map z) b u le s = s
    more (v.Bag z) b u le s = s

known_arg : (n : ℕ) (V : Vars) (es : List Entry) (fs : List Fact) → Facts n V es fs → (x : Arg) (i : Info) (u : ℕ) → arg_info es x ≡ Some i → knows fs x u ≡ true → IsBelow (arg_value V x) u
known_arg n V es fs k (a.Var y) i u ei e = known_var n V es fs k y u (arg_among es y i ei) e
known_arg n V es fs k (a.Num m) i u ei e = ltb-true m u e
known_arg n V es fs k (a.Truth b) i u ei e = absurd (false≢true e)

known_at : (n : ℕ) (V : Vars) (es : List Entry) (fs : List Fact) → Facts n V es fs → (u k : ℕ) (us : List Arg) (is : List Info) → arg_infos es us ≡ Some is → unless_known fs u (arg_at us k) ≡ None → k < length us → At k u (arg_values V us)
known_at n V es fs f u k [] is ei e lt = absurd (let o : ⊥ = omega (arith, lt) in o)
known_at n V es fs f u zero (x ∷ us) is ei e lt =
    let c = cons_parts (arg_info es x) (arg_infos es us) is ei in
    known_arg n V es fs f x c.0 u c.2 (is_true (knows fs x u) e)
  where
    is_true : (b : Bool) → cond b None (Some x) ≡ None → b ≡ true
    is_true true e = refl
    is_true false e = absurd (let o : ⊥ = cc e in o)
known_at n V es fs f u (suc k) (x ∷ us) is ei e lt =
    let c = cons_parts (arg_info es x) (arg_infos es us) is ei in
    known_at n V es fs f u k us c.1 c.3 e (omega (arith, lt))

-- ---- all of it

tag_same : (ts : List Take) (ss : List Spot) → slice_tag (destroyed ts ss) ≡ gone_tag ts (shapes_of ss)
tag_same [] ss = refl
tag_same (t ∷ ts) [] = refl
tag_same (t ∷ ts) (s ∷ ss) = by (is_destroyed t.fate) (tag_same ts ss)
  where
    by : (b : Bool) → slice_tag (destroyed ts ss) ≡ gone_tag ts (shapes_of ss) → slice_tag (cond b (s ∷ destroyed ts ss) (destroyed ts ss)) ≡ cond b (cond (is_slice s.rep) s.tag (gone_tag ts (shapes_of ss))) (gone_tag ts (shapes_of ss))
    by true e = ap (λ y. cond (is_slice s.rep) s.tag y) e
    by false e = e

reps_shapes : (ss : List Spot) → reps_of ss ≡ shape_reps (shapes_of ss)
reps_shapes [] = refl
reps_shapes (s ∷ ss) = ap (λ y. s.rep ∷ y) (reps_shapes ss)

pub info_reps_are : (is : List Info) → info_reps is ≡ shape_reps (info_shapes is)
info_reps_are [] = refl
info_reps_are (i ∷ is) = ap (λ y. i.shape.rep ∷ y) (info_reps_are is)

pub record Passes (V : Views) (u : State) (op : Op) (made : Option Rep) (us : List Arg) (infos : List Info) (x : Rule) : Type 0 where
  pub owned : All_wanted is_owned (wanted true (fates x.takes) infos) u.hold
  pub distinct : Distinct (wanted true (fates x.takes) infos)
  pub there : All_wanted is_there (wanted false (fates x.takes) infos) (goners (wanted true (fates x.takes) infos) u.hold)
  pub apart : Distinct (wanted false (fates x.takes) infos)
  pub gives : given_shapes (ctx_of u).spots made us x ≡ (row_on (info_shapes infos) made x).gives
  pub small : (n : ℕ) (D : Vars) → Facts n D u.entries u.facts → Small (row_on (info_shapes infos) made x).needs (arg_values D us)

others_there : (ts : List Take) (ss : List Spot) → NoneGone ss → NoneGone (others ts ss)
others_there [] ss g = tt
others_there (t ∷ ts) [] g = tt
others_there (t ∷ ts) (s ∷ ss) g = cond_both {A = List Spot} (is_destroyed t.fate) (others ts ss) (s ∷ others ts ss) NoneGone (λ c. others_there ts ss g.1) (λ c. (g.0, others_there ts ss g.1))

pub passes : (V : Views) (u : State) (p : Place) (op : Op) (made : Option Rep) (us : List Arg) (y x : Rule) (infos : List Info) → apply_sure V.book (ctx_of u) p op made us ≡ Ok y → arg_infos u.entries us ≡ Some infos → V.book.row_for op (info_reps infos) made ≡ Some x → kept_count (fates x.takes) (info_shapes infos) ≤ 1 → ((k : ℕ) → x.fact ≡ Some k → k < length us) → Passes V u op made us infos x
passes V u p op made us y x infos ok ei ex few fits =
    let ss = looked_up (spots_of u.hold u.entries) us in
    let sp = spots_are u.hold u.entries us infos ei in
    let ap0 = operations_apply V.book (ctx_of u) p op made us y ok in
    let same : y ≡ x = some_is y x (sym ap0.row ∙ ap (λ z. V.book.row_for op z made) (sym (reps_are u.hold infos ss sp)) ∙ ex) in
    on_rule ss sp (subst (λ z. Applies V.book (ctx_of u) op made us z) same ap0)
  where
    on_rule : (ss : List Spot) → Spots_are u.hold infos ss → Applies V.book (ctx_of u) op made us x → Passes V u op made us infos x
    on_rule ss0 sp0 A =
        let ss = looked_up (spots_of u.hold u.entries) us in
        let sp = spots_are u.hold u.entries us infos ei in
        let ds = fates x.takes in
        let wt : wanted true ds infos ≡ vars_of (destroyed x.takes ss) = wanted_chosen true ds infos ∙ vars_are u.hold (chosen true ds infos) (destroyed x.takes ss) (chosen_are u.hold x.takes infos ss sp) in
        let wf : wanted false ds infos ≡ vars_of (others x.takes ss) = wanted_chosen false ds infos ∙ vars_are u.hold (chosen false ds infos) (others x.takes ss) (others_are u.hold x.takes infos ss sp) in
        let shapes = shapes_are u.hold infos ss sp in
        let reps : reps_of ss ≡ shape_reps (info_shapes infos) = reps_shapes ss ∙ ap shape_reps (sym shapes) in
        record {
          owned = subst (λ z. All_wanted is_owned z u.hold) (sym wt) (owned_wanted u.hold (chosen true ds infos) (destroyed x.takes ss) (chosen_are u.hold x.takes infos ss sp) A.owned);
          distinct = subst Distinct (sym wt) (destroyed_distinct (destroyed x.takes ss) x.takes ss A.once (λ k z. z));
          there =
              still_there u.hold (wanted true ds infos) (wanted false ds infos)
              (λ k q. subst (Not_in k) (sym wt) (not_stands k (destroyed x.takes ss) (is_false (stands k (destroyed x.takes ss)) (λ z. apart (destroyed x.takes ss) x.takes ss A.once (λ j w. w) k (in_stands k (others x.takes ss) (subst (In k) wf q)) z))))
              (subst (λ z. All_wanted is_there z u.hold) (sym wf) (there_wanted u.hold (chosen false ds infos) (others x.takes ss) (others_are u.hold x.takes infos ss sp) (others_there x.takes ss (none_gone ss A.there))));
          apart = few_distinct (wanted false ds infos) (subst (λ z. z ≤ 1) (sym (kept_few u.hold ds infos ss sp)) few);
          gives = ap (λ z. row_shapes (op_bound made z) (slice_tag (destroyed x.takes ss)) x.gives) reps ∙ ap (λ z. row_shapes (op_bound made (shape_reps (info_shapes infos))) z x.gives) (tag_same x.takes ss ∙ ap (gone_tag x.takes) (sym shapes));
          small = λ n D fs. at x.fact refl (subst (λ z. unknown u.facts (op_bound made z) x.fact us ≡ None) reps A.known) n D fs;
        }
      where
        at : (o : Option ℕ) → x.fact ≡ o → unknown u.facts (op_bound made (shape_reps (info_shapes infos))) o us ≡ None → (n : ℕ) (D : Vars) → Facts n D u.entries u.facts → Small (need_of (op_bound made (shape_reps (info_shapes infos))) o) (arg_values D us)
        at None eo e n D fs = tt
        at (Some k) eo e n D fs = known_at n D u.entries u.facts fs (op_bound made (shape_reps (info_shapes infos))) k us infos ei e (fits k eo)
