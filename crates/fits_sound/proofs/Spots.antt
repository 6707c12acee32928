-- What the rule check's tests of arguments say of their variables.
use Rattle.std.proofs.Common.{◌≡◌, ℕ, Bool, true, false, cond, not, List, [], ◌∷◌, ◌++◌, refl, sym, ap, ◌∙◌, subst, ◌^◌, ltb, eqb, eq-eqb, ◌&&◌, ◌||◌}
use Rattle.std.proofs.lemmas.Bool.{cond_both, cond-true, cond-false, true≢false}
use Rattle.std.specs.Prelude.{Option, Some, None, Ok}
use Rattle.nres_core.specs.FlatTree.{Ending}
use Rattle.nres_core.specs.declared.flat.Arg.{Arg}
use Rattle.nres_core.specs.declared.flat.Arg.TheVariants as a
use Rattle.nres_core.specs.declared.place.Place.{Place}
use Rattle.target_code.specs.declared.tree.Rep.TheVariants as rep
use Rattle.rule_check.specs.Context.{Hold, Spot, Shape, is_owned, is_container, spot_at, arg_spot, looked_up, reps_of, shape_of, shapes_of, vars_of, stands, first_twice, first_gone, first_kept}
use Rattle.rule_check.specs.Laws.{AllOwned}
use Rattle.rule_check.specs.Steps.{Book, Moved, ended, started, bare}
use Rattle.rule_check.proofs.Tested.{skip, NoneGone, none_gone, all_owned, results_move}
use Rattle.rule_check.proofs.Passing.{unless_elim}
use Rattle.fits.specs.Places.{Number, Entry, State, spot_of, spots_of, ctx_of, lookup, Info, only_container, info_of, arg_info, cons_some, arg_infos, all_vars, info_shapes, info_reps}
use Rattle.fits.specs.Follow.{is_there}
use Rattle.fits_sound.proofs.Basic.{some_is}
use Rattle.fits_sound.proofs.Take.{All_wanted, Not_in, Distinct}

-- what stands for an argument is as the rule check sees it
abbrev pub Spot_is : (ℕ → Hold) → Info → Spot → Type 0
Spot_is hold i s = (i.shape ≡ shape_of s) × (i.vars ≡ only_container s.rep s.var) × (is_container s.rep ≡ true → s.hold ≡ hold s.var)

abbrev pub Spots_are : (ℕ → Hold) → List Info → List Spot → Type 0
Spots_are hold [] [] = Unit {0}
Spots_are hold [] (s ∷ ss) = ⊥
Spots_are hold (i ∷ is) [] = ⊥
Spots_are hold (i ∷ is) (s ∷ ss) = Spot_is hold i s × Spots_are hold is ss

pub spot_found : (hold : ℕ → Hold) (es : List Entry) (v : ℕ) (e : Entry) → lookup es v ≡ Some e → spot_at (spots_of hold es) v ≡ spot_of hold e
spot_found hold [] v e l = absurd (let o : ⊥ = cc l in o)
spot_found hold (d ∷ es) v e l =
    cond_both {A = Option Entry} (eqb d.var v) (Some d) (lookup es v) (λ y. y ≡ Some e → spot_at (spots_of hold (d ∷ es)) v ≡ spot_of hold e)
    (λ q l. cond-true (eqb d.var v) (spot_of hold d) (spot_at (spots_of hold es) v) q ∙ ap (spot_of hold) (some_is d e l))
    (λ q l. cond-false (eqb d.var v) (spot_of hold d) (spot_at (spots_of hold es) v) q ∙ spot_found hold es v e l)
    l

pub spot_is : (hold : ℕ → Hold) (es : List Entry) (u : Arg) (i : Info) → arg_info es u ≡ Some i → Spot_is hold i (arg_spot (spots_of hold es) u)
spot_is hold es (a.Var v) i e = at (lookup es v) refl e
  where
    at : (o : Option Entry) → lookup es v ≡ o → info_of o ≡ Some i → Spot_is hold i (spot_at (spots_of hold es) v)
    at None l e = absurd (let o : ⊥ = cc e in o)
    at (Some d) l e =
        subst (λ y. Spot_is hold i y) (sym (spot_found hold es v d l))
        (subst (λ y. Spot_is hold y (spot_of hold d)) (some_is _ i e) (refl, refl, λ c. refl))
spot_is hold es (a.Num m) i e =
    cond_both {A = Option Info} (ltb m (2 ^ 64)) (Some (record { shape = bare rep.Word; words = Number m ∷ []; vars = [] })) None (λ y. y ≡ Some i → Spot_is hold i (arg_spot (spots_of hold es) (a.Num m)))
    (λ lt e. subst (λ y. Spot_is hold y (arg_spot (spots_of hold es) (a.Num m))) (some_is _ i e) (refl, refl, λ c. absurd (let o : ⊥ = cc c in o)))
    (λ lt e. absurd (let o : ⊥ = cc e in o))
    e
spot_is hold es (a.Truth b) i e = subst (λ y. Spot_is hold y (arg_spot (spots_of hold es) (a.Truth b))) (some_is _ i e) (refl, refl, λ c. absurd (let o : ⊥ = cc c in o))

pub cons_parts : {A : Type 0} (o : Option A) (os : Option (List A)) (xs : List A) → cons_some o os ≡ Some xs → (x : A) × (ys : List A) × (o ≡ Some x) × (os ≡ Some ys) × (x ∷ ys ≡ xs)
cons_parts None os xs e = absurd (let o : ⊥ = cc e in o)
cons_parts (Some x) None xs e = absurd (let o : ⊥ = cc e in o)
cons_parts (Some x) (Some ys) xs e = (x, ys, refl, refl, some_is _ xs e)

pub spots_are : (hold : ℕ → Hold) (es : List Entry) (us : List Arg) (is : List Info) → arg_infos es us ≡ Some is → Spots_are hold is (looked_up (spots_of hold es) us)
spots_are hold es [] is e = subst (λ y. Spots_are hold y []) (some_is [] is e) tt
spots_are hold es (u ∷ us) is e =
    let c = cons_parts (arg_info es u) (arg_infos es us) is e in
    subst (λ y. Spots_are hold y (looked_up (spots_of hold es) (u ∷ us))) c.4 (spot_is hold es u c.0 c.2, spots_are hold es us c.1 c.3)

-- ---- what holds of all

one_var : (c : Bool) (v : ℕ) (vs : List ℕ) → cond c (v ∷ []) [] ++ vs ≡ cond c (v ∷ vs) vs
one_var true v vs = refl
one_var false v vs = refl

pub vars_are : (hold : ℕ → Hold) (is : List Info) (ss : List Spot) → Spots_are hold is ss → all_vars is ≡ vars_of ss
vars_are hold [] [] w = refl
vars_are hold [] (s ∷ ss) w = absurd w
vars_are hold (i ∷ is) [] w = absurd w
vars_are hold (i ∷ is) (s ∷ ss) w =
    ap (λ y. y ++ all_vars is) w.0.1 ∙ ap (λ y. only_container s.rep s.var ++ y) (vars_are hold is ss w.1) ∙ one_var (is_container s.rep) s.var (vars_of ss)

pub shapes_are : (hold : ℕ → Hold) (is : List Info) (ss : List Spot) → Spots_are hold is ss → info_shapes is ≡ shapes_of ss
shapes_are hold [] [] w = refl
shapes_are hold [] (s ∷ ss) w = absurd w
shapes_are hold (i ∷ is) [] w = absurd w
shapes_are hold (i ∷ is) (s ∷ ss) w = ap (λ y. y ∷ info_shapes is) w.0.0 ∙ ap (λ y. shape_of s ∷ y) (shapes_are hold is ss w.1)

pub reps_are : (hold : ℕ → Hold) (is : List Info) (ss : List Spot) → Spots_are hold is ss → info_reps is ≡ reps_of ss
reps_are hold [] [] w = refl
reps_are hold [] (s ∷ ss) w = absurd w
reps_are hold (i ∷ is) [] w = absurd w
reps_are hold (i ∷ is) (s ∷ ss) w = ap (λ (y : Shape). y.rep ∷ info_reps is) w.0.0 ∙ ap (λ y. s.rep ∷ y) (reps_are hold is ss w.1)

-- a test of each container's hold
abbrev Test_all : (Hold → Bool) → List Spot → Type 0
Test_all want [] = Unit {0}
Test_all want (s ∷ ss) = (is_container s.rep ≡ true → want s.hold ≡ true) × Test_all want ss

wanted_all : (want : Hold → Bool) (hold : ℕ → Hold) (is : List Info) (ss : List Spot) → Spots_are hold is ss → Test_all want ss → All_wanted want (vars_of ss) hold
wanted_all want hold [] [] w t = tt
wanted_all want hold [] (s ∷ ss) w t = absurd w
wanted_all want hold (i ∷ is) [] w t = absurd w
wanted_all want hold (i ∷ is) (s ∷ ss) w t =
    cond_both {A = List ℕ} (is_container s.rep) (s.var ∷ vars_of ss) (vars_of ss) (λ y. All_wanted want y hold)
    (λ c. (ap want (sym (w.0.2 c)) ∙ t.0 c, wanted_all want hold is ss w.1 t.1))
    (λ c. wanted_all want hold is ss w.1 t.1)

owned_test : (ss : List Spot) → AllOwned ss → Test_all is_owned ss
owned_test [] o = tt
owned_test (s ∷ ss) o = (o.0, owned_test ss o.1)

there_test : (ss : List Spot) → NoneGone ss → Test_all is_there ss
there_test [] o = tt
there_test (s ∷ ss) o = (λ c. ap not (o.0 c), there_test ss o.1)

pub owned_wanted : (hold : ℕ → Hold) (is : List Info) (ss : List Spot) → Spots_are hold is ss → AllOwned ss → All_wanted is_owned (vars_of ss) hold
owned_wanted hold is ss w o = wanted_all is_owned hold is ss w (owned_test ss o)

pub there_wanted : (hold : ℕ → Hold) (is : List Info) (ss : List Spot) → Spots_are hold is ss → NoneGone ss → All_wanted is_there (vars_of ss) hold
there_wanted hold is ss w o = wanted_all is_there hold is ss w (there_test ss o)

or_none : (x y : Bool) → (x || y) ≡ false → (x ≡ false) × (y ≡ false)
or_none true y e = absurd (true≢false e)
or_none false y e = (refl, e)

pub not_stands : (v : ℕ) (ss : List Spot) → stands v ss ≡ false → Not_in v (vars_of ss)
not_stands v [] e = tt
not_stands v (s ∷ ss) e =
    let p = or_none (is_container s.rep && eqb v s.var) (stands v ss) e in
    cond_both {A = List ℕ} (is_container s.rep) (s.var ∷ vars_of ss) (vars_of ss) (Not_in v)
    (λ c. (λ q. true≢false (sym (ap (λ y. y && eqb v s.var) c ∙ eq-eqb v s.var q) ∙ p.0), not_stands v ss p.1))
    (λ c. not_stands v ss p.1)

-- no container stands twice
pub twice_distinct : (ss : List Spot) → first_twice ss ≡ None → Distinct (vars_of ss)
twice_distinct [] e = tt
twice_distinct (s ∷ ss) e =
    let p = skip (is_container s.rep) (stands s.var ss) s.var (first_twice ss) e in
    cond_both {A = List ℕ} (is_container s.rep) (s.var ∷ vars_of ss) (vars_of ss) Distinct
    (λ c. (not_stands s.var ss (p.0 c), twice_distinct ss p.1))
    (λ c. twice_distinct ss p.1)

-- ---- results that move out

pub record Moves (hold : ℕ → Hold) (is : List Info) : Type 0 where
  pub owned : All_wanted is_owned (all_vars is) hold
  pub distinct : Distinct (all_vars is)

pub moves : (book : Book) (n : ℕ) (astray : List Shape → Option ℕ) (s : State) (e : Ending) (m : Moved) (is : List Info) → ended book n astray (ctx_of s) e ≡ Ok m → arg_infos s.entries e.results ≡ Some is → Moves s.hold is
moves book n astray s e m is ok ei =
    let t = results_move book n astray (ctx_of s) e m ok in
    let w = spots_are s.hold s.entries e.results is ei in
    let ss = looked_up (spots_of s.hold s.entries) e.results in
    let v = vars_are s.hold is ss w in
    record {
      owned = subst (λ y. All_wanted is_owned y s.hold) (sym v) (owned_wanted s.hold is ss w t.owned);
      distinct = subst Distinct (sym v) (twice_distinct ss t.once);
    }

-- the slices that are owed come back
pub comes_back : (book : Book) (n : ℕ) (astray : List Shape → Option ℕ) (s : State) (e : Ending) (m : Moved) (is : List Info) → ended book n astray (ctx_of s) e ≡ Ok m → arg_infos s.entries e.results ≡ Some is → astray (info_shapes is) ≡ None
comes_back book n astray s e m is ok ei =
    let t = results_move book n astray (ctx_of s) e m ok in
    let w = spots_are s.hold s.entries e.results is ei in
    subst (λ y. astray y ≡ None) (t.shapes ∙ sym (shapes_are s.hold is (looked_up (spots_of s.hold s.entries) e.results) w)) t.back

-- starting values move in
pub starts_move : (book : Book) (s : State) (p : Place) (us : List Arg) (m : Moved) (is : List Info) → started book (ctx_of s) p us ≡ Ok m → arg_infos s.entries us ≡ Some is → Moves s.hold is
starts_move book s p us m is ok ei =
    let G = Moves s.hold is in
    let w = spots_are s.hold s.entries us is ei in
    let ss = looked_up (spots_of s.hold s.entries) us in
    let v = vars_are s.hold is ss w in
    unless_elim G (first_gone ss) _ _ m ok (λ there g1.
    unless_elim G (first_twice ss) _ _ m g1 (λ once g2.
    unless_elim G (first_kept ss) _ _ m g2 (λ free g3.
    record {
      owned = subst (λ y. All_wanted is_owned y s.hold) (sym v) (owned_wanted s.hold is ss w (all_owned ss (none_gone ss there) free));
      distinct = subst Distinct (sym v) (twice_distinct ss once);
    })))
