-- Where typing refuses nothing of a tree that is formed, the same with operations for its words is typed.
use Rattle.std.proofs.Common.{◌≡◌, ◌≤◌, ℕ, suc, ◌&&◌, not, nat_eq, Bool, true, false, cond, List, [], ◌∷◌, ◌++◌, length, Option, Some, None, refl, sym, ap, ◌∙◌, subst, arith}
use Rattle.std.proofs.lemmas.Bool.{eq-eqb}
use Rattle.nres_core.specs.Mirror.{rep_of, blk_of, id_blk_of, named_params}
use Rattle.nres_core.specs.Tree as t
use Rattle.nres_core.specs.Tree.{Exp, Exps, Blk, Steps, Bod, Word, same_name}
use Rattle.nres_core.specs.Vocabulary.{is_free_name}
use Rattle.nres_rules.specs.Identify.{Identifies, FunsIdentify}
use Rattle.nres_rules.specs.Typed.{Scope, IsTyped, op_takes, op_gives, maker, made_right, are_these, is_any, is_taker, only_type, same_types, profile_of, exp_ty, exps_ty, results_ty, blk_ty, steps_ty, bod_ty, all_free, params_right, shown_right, id_profiles, is_entered, funs_right}
use Rattle.nres_rules.specs.Types.{Profile, HasTyping, outcome, sig_of, take_type, take_op, profile_at, rep_fits, params_fit, shown_fit, param_types, shown_types, profiles, is_among, slices_taken, slices_given}
use Rattle.nres_core.specs.declared.identified.IdFun.{IdFun}
use Rattle.nres_core.specs.declared.identified.Identified.{Identified}
use Rattle.nres_core.specs.declared.op.Op.{Op}
use Rattle.nres_core.specs.declared.tree.Block.{Block}
use Rattle.nres_core.specs.declared.tree.Fun.{Fun}
use Rattle.nres_core.specs.declared.tree.Param.{Param}
use Rattle.nres_core.specs.declared.tree.Shown.{Shown}
use Rattle.nres_core.specs.declared.tree.Spec.{Spec}
use Rattle.nres_core.specs.declared.ty.Ty.{Ty}
use Rattle.nres_core.specs.declared.ty.Ty.TheVariants as ty
use Rattle.typing_laws.specs.Derived as d
use Rattle.typing_laws.specs.Derived.{ExpIs, ExpsIs, BlkIs, StepsIs, BodIs, EnteredIs, FunsAre, SpecIs, inner}
use Rattle.typing_laws.specs.Formed.{number_of, ExpFormed, ExpsFormed, ResultsFormed, BlkFormed, StepsFormed, BodFormed, ParamsFormed, ShownFormed, EntryFormed, FunsFormed, SpecFormed}
use Rattle.typing_laws.specs.Known.{first_ty}
use Rattle.typing_laws.proofs.TypedLemmas.{and_true, then_gives, when_true, right_one, right_these, types_themselves}
use Rattle.typing_laws.proofs.TypesLemmas.{any_type, apart, fitting, neither, pattern_is}
use Rattle.typing_laws.proofs.WordLemmas.{taking, word_facts}

-- ---- expressions

-- expressions of these types, and how many there are
record Are (g : Scope) (es : Exps Word) (es' : Exps Op) (us : List Ty) : Type 0 where
  is : exps_ty es' g ≡ Some us
  count : number_of es ≡ length us

mutual
  exp_typed : {g : Scope} {e : Exp Word} {e' : Exp Op} {u : Ty} → ExpIs g e e' u → ExpFormed e → exp_ty e' g ≡ Some u
  exp_typed d.num f = refl
  exp_typed d.truth f = refl
  exp_typed (d.var h) f = h
  exp_typed (d.binary {w = w} a b) f = when_true (outcome w) (and_true f.0 (and_true (right_one _ (exp_typed a f.1)) (right_one _ (exp_typed b f.2))))
  exp_typed (d.negated a) f = when_true ty.Bool (right_one ty.Bool (exp_typed a f))
  exp_typed (d.apply {w = w} {op = op} {es' = es'} {made = made} {us = us} l word) f =
      let one = exps_typed l f.1 in
      let facts = (word_facts f.0 (first_ty us)).of_op op word.is in
      let takes : us ≡ op_takes op = word.from (ap length facts.from ∙ facts.count ∙ one.count) ∙ facts.from in
      let right = and_true (right_these (op_takes op) (one.is ∙ ap (λ z. Some z) takes)) (facts.right word.fits) in
      then_gives only_type (when_true (op_gives op) right) (ap only_type word.gives)

  exps_typed : {g : Scope} {es : Exps Word} {es' : Exps Op} {us : List Ty} → ExpsIs g es es' us → ExpsFormed es → Are g es es' us
  exps_typed d.none_left f = record { is = refl; count = refl }
  exps_typed (d.also a l) f =
      let others = exps_typed l f.1 in
      record { is = then_gives _ (exp_typed a f.0) (then_gives _ others.is refl); count = ap suc others.count }

-- results, at least one
record Results (g : Scope) (es' : Exps Op) (us : List Ty) : Type 0 where
  some : is_any us ≡ true
  is : results_ty es' g ≡ Some us

results_typed : {g : Scope} {es : Exps Word} {es' : Exps Op} {us : List Ty} → ExpsIs g es es' us → ResultsFormed es → Results g es' us
results_typed {us = us} l f =
    let one = exps_typed l f.1 in
    let some = any_type us (omega (arith, f.0, one.count)) in
    record { some = some; is = then_gives _ one.is (when_true us some) }

-- ---- blocks

-- the same profile by either name
pub same_profile : (ps : List Profile) (x : List ℕ) → profile_of ps x ≡ profile_at ps x
same_profile [] x = refl
same_profile (p ∷ ps) x = ap (cond (same_name p.name x) (Some p)) (same_profile ps x)

module _ (procs : List Profile) where
  record BlkTyped (g : Scope) (b' : Blk Op) (us : List Ty) : Type 0 where
    some : is_any us ≡ true
    is : blk_ty procs b' g ≡ Some us

  record StepsTyped (g : Scope) (ss' : Steps Op) (es' : Exps Op) (us : List Ty) : Type 0 where
    some : is_any us ≡ true
    is : steps_ty procs ss' es' g ≡ Some us

  mutual
    blk_typed : {g : Scope} {b : Blk Word} {b' : Blk Op} {us : List Ty} → BlkIs procs g b b' us → BlkFormed b → BlkTyped g b' us
    blk_typed (d.returns l) f = let one = steps_typed l f.0 f.1 in record { some = one.some; is = one.is }

    steps_typed : {g : Scope} {ss : Steps Word} {ss' : Steps Op} {es : Exps Word} {es' : Exps Op} {us : List Ty} → StepsIs procs g ss ss' es es' us → StepsFormed ss → ResultsFormed es → StepsTyped g ss' es' us
    steps_typed (d.ends l) f m = let one = results_typed l m in record { some = one.some; is = one.is }
    steps_typed (d.binds {xs = xs} {us = us} {ws = ws} b p l) f m =
        let one = bod_typed b f.1 in
        let two = steps_typed l f.2 m in
        record { some = two.some; is = then_gives {y = Some us} _ one (then_gives {y = Some us} _ (when_true ws (pattern_is xs ws f.0.0 p.apart p.count)) two.is) }
    steps_typed (d.asserts e l) f m =
        let two = steps_typed l f.1 m in
        record { some = two.some; is = then_gives _ (when_true ty.Bool (right_one ty.Bool (exp_typed e f.0))) two.is }

    bod_typed : {g : Scope} {b : Bod Word} {b' : Bod Op} {us : List Ty} → BodIs procs g b b' us → BodFormed b → bod_ty procs b' g ≡ Some us
    bod_typed (d.value e) f = then_gives _ (exp_typed e f) refl
    bod_typed {g = g} (d.takes {p = p} {w = w} {e' = e'} same e) f =
        let u = take_type w.0 in
        let taken = taking w.0 in
        let fits : (is_taker (take_op w.0) && same_types (op_takes (take_op w.0)) (u ∷ [])) ≡ true = and_true taken.taker (ap (λ z. same_types z (u ∷ [])) taken.from ∙ types_themselves (u ∷ [])) in
        subst (λ z. bod_ty procs (t.Take p z e') g ≡ Some (ty.Nat ∷ u ∷ [])) same
        (then_gives _ (exp_typed e f) (when_true (op_gives (take_op w.0)) fits ∙ ap (λ z. Some z) taken.gives))
    bod_typed (d.any a b) f = when_true (ty.Nat ∷ []) (and_true (right_one ty.Nat (exp_typed a f.0)) (right_one ty.Nat (exp_typed b f.1)))
    bod_typed (d.choice {us = us} e a b) f =
        then_gives _ (blk_typed a f.1).is (when_true us (and_true (right_one ty.Bool (exp_typed e f.0)) (right_these us (blk_typed b f.2).is)))
    bod_typed (d.loop {xs = xs} {us = us} l p e b) f =
        then_gives _ (results_typed l f.1).is
        (when_true us (and_true (pattern_is xs us f.0.0 p.apart p.count) (and_true (right_one ty.Bool (exp_typed e f.2)) (right_these us (blk_typed b f.3).is))))
    bod_typed (d.pair a b) f = then_gives _ (blk_typed a f.0).is (then_gives _ (blk_typed b f.1).is refl)
    bod_typed (d.parts z e a fl b fr) f =
        let one = blk_typed a f.2 in
        let two = blk_typed b f.4 in
        then_gives _ one.is (then_gives _ two.is (when_true _ (and_true (right_one ty.List z) (and_true (right_one ty.Nat (exp_typed e f.0)) (and_true (fl one.some) (fr two.some))))))
    bod_typed (d.either {us = us} a b) f = then_gives _ (blk_typed a f.0).is (when_true us (right_these us (blk_typed b f.1).is))
    bod_typed (d.each {xs = xs} {us = us} z l p b) f =
        then_gives _ (results_typed l f.2).is (when_true us (and_true (right_one ty.Set z) (and_true (pattern_is xs us f.1.0 p.apart p.count) (right_these us (blk_typed b f.3).is))))
    bod_typed (d.calls {f = name} {h = h} there l) f =
        then_gives _ (same_profile procs name.name ∙ there) (then_gives _ (exps_typed l f).is (when_true h.gives (types_themselves h.takes)))

-- ---- parameters, and what is shown

params_are : (slices : Bool) (xs : List Param) → ParamsFormed slices xs → params_fit xs ≡ None → params_right slices xs ≡ true
params_are slices [] f h = refl
params_are slices (x ∷ xs) f h =
    let both = neither (rep_fits x.rep_place x.ty x.rep) (params_fit xs) h in
    and_true (and_true (fitting x.rep_place x.ty x.rep both.left) f.0.0) (and_true f.0.1 (params_are slices xs f.1 both.right))

params_free : (slices : Bool) (xs : List Param) → ParamsFormed slices xs → all_free (named_params xs) ≡ true
params_free slices [] f = refl
params_free slices (x ∷ xs) f = and_true f.0.2 (params_free slices xs f.1)

shown_are : (slices : Bool) (ys : List Shown) → ShownFormed slices ys → shown_fit ys ≡ None → shown_right slices ys ≡ true
shown_are slices [] f h = refl
shown_are slices (y ∷ ys) f h =
    let both = neither (rep_fits y.rep_place y.ty y.rep) (shown_fit ys) h in
    and_true (and_true (fitting y.rep_place y.ty y.rep both.left) f.0) (shown_are slices ys f.1 both.right)

entered_typed : (slices : Bool) (procs : List Profile) (xs : List Param) (ys : List Shown) (b : Block) (b' : Blk Op) → EntryFormed slices xs ys b → EnteredIs procs xs ys (blk_of b) b' → is_entered slices procs xs ys b' ≡ true
entered_typed slices procs xs ys b b' f h =
    and_true (params_are slices xs f.0 h.params) (and_true (params_free slices xs f.0) (and_true (apart [] (named_params xs) h.apart)
    (and_true f.1 (and_true (shown_are slices ys f.2 h.shown) (right_these (shown_types ys) (blk_typed procs h.block f.3).is)))))

-- with the same parameters, and the same that is shown
same_entered : (slices : Bool) (procs : List Profile) {xs xs' : List Param} {ys ys' : List Shown} (b : Blk Op) → xs' ≡ xs → ys' ≡ ys → is_entered slices procs xs ys b ≡ true → is_entered slices procs xs' ys' b ≡ true
same_entered slices procs b e k h = (λ i. is_entered slices procs (e i) (k i) b) ∙ h

-- ---- procedures

funs_typed : (procs : List Profile) (before : List (List ℕ)) (fs : List Fun) (gs : List IdFun) → FunsFormed fs → FunsAre procs before fs gs → funs_right procs before gs ≡ true
funs_typed procs before [] [] f h = refl
funs_typed procs before [] (g ∷ gs) f h = absurd h
funs_typed procs before (p ∷ fs) [] f h = absurd h
funs_typed procs before (p ∷ fs) (g ∷ gs) f h =
    let own = h.0 in
    let free : is_free_name g.name ≡ true = ap is_free_name own.name ∙ f.0 in
    let new : not (is_among before g.name) ≡ true = ap (λ z. not (is_among before z)) own.name ∙ ap not own.new in
    let fits : nat_eq (slices_taken g.params) (slices_given g.shown) ≡ true = (λ j. nat_eq (slices_taken (own.params j)) (slices_given (own.shown j))) ∙ eq-eqb (slices_taken p.params) (slices_given p.shown) own.slices in
    let this = entered_typed true procs p.params p.shown p.body (id_blk_of g.body) f.1 own.entered in
    and_true free (and_true new (and_true fits (and_true (same_entered true procs (id_blk_of g.body) own.params own.shown this)
    (ap (λ z. funs_right procs (z ∷ before) gs) own.name ∙ funs_typed procs (p.name ∷ before) fs gs f.2 h.1))))

-- ---- whole specifications

pub formed_are_typed : (p : Spec) (q : Identified) → SpecFormed p → SpecIs p q → IsTyped q
formed_are_typed p q f h =
    let procs = profiles p.funs in
    let this = entered_typed false procs p.params p.shown p.body (id_blk_of q.body) f.0 h.entered in
    subst (λ z. (is_entered false z q.params q.shown (id_blk_of q.body) && funs_right z [] q.funs) ≡ true) (sym h.profiles_same)
    (and_true (same_entered false procs (id_blk_of q.body) h.params h.shown this) (funs_typed procs [] p.funs q.funs f.1 h.funs))
