-- The loops over sets of a typed tree have variables and values for them.
use Rattle.std.proofs.Common.{◌≡◌, ℕ, Bool, true, false, List, [], ◌∷◌}
use Rattle.nres_core.specs.Mirror.{id_blk_of, named_params}
use Rattle.nres_core.specs.Tree as t
use Rattle.nres_core.specs.Tree.{Exps, Blk, Steps, Bod}
use Rattle.nres_rules.specs.Typed.{Scope, scope_with, is_any, pattern_right, id_profiles, is_entered, funs_right}
use Rattle.nres_rules.specs.Types.{Profile, shown_types, param_types}
use Rattle.nres_core.specs.declared.identified.IdFun.{IdFun}
use Rattle.nres_core.specs.declared.op.Op.{Op}
use Rattle.nres_core.specs.declared.place.Named.{Named}
use Rattle.nres_core.specs.declared.tree.Param.{Param}
use Rattle.nres_core.specs.declared.tree.Shown.{Shown}
use Rattle.nres_core.specs.declared.ty.Ty.{Ty}
use Rattle.typing_laws.specs.TypedTrees as d
use Rattle.typing_laws.specs.TypedTrees.{ExpsHave, ResultsHave, BlkHas, StepsHave, BodHas}
use Rattle.typing_laws.proofs.TypedLemmas.{both}
use Rattle.typing_laws.proofs.TypedTreesLemmas.{Entered, blk_has, right_entered, right_fun}
use Rattle.flatten_laws.specs.Filled.{SomeName, SomeExp, SomeResult, Filled, FilledSteps, FilledBody, FilledFuns}
use Rattle.flatten_laws.specs.Laws.{TypedAreFilled}

some_names : (xs : List Named) (us : List Ty) → pattern_right xs us ≡ true → SomeName xs
some_names [] us h = absurd (cc)
some_names (x ∷ xs) us h = tt

some_exps : {g : Scope} {es : Exps Op} {us : List Ty} → ExpsHave g es us → is_any us ≡ true → SomeExp es
some_exps d.none_left h = absurd (cc)
some_exps (d.also a l) h = tt

module _ (procs : List Profile) where
  some_result : {g : Scope} {ss : Steps Op} {es : Exps Op} {us : List Ty} → StepsHave procs g ss es us → SomeExp es
  some_result (d.ends l) = some_exps l.are l.some
  some_result (d.binds b p l) = some_result l
  some_result (d.asserts e l) = some_result l

  block_result : {g : Scope} {b : Blk Op} {us : List Ty} → BlkHas procs g b us → SomeResult b
  block_result (d.returns l) = some_result l

  mutual
    blk_filled : {g : Scope} {b : Blk Op} {us : List Ty} → BlkHas procs g b us → Filled b
    blk_filled (d.returns l) = steps_filled l

    steps_filled : {g : Scope} {ss : Steps Op} {es : Exps Op} {us : List Ty} → StepsHave procs g ss es us → FilledSteps ss
    steps_filled (d.ends l) = tt
    steps_filled (d.binds {xs = xs} {ws = ws} b p l) = (bod_filled b xs (some_names xs ws p), steps_filled l)
    steps_filled (d.asserts e l) = steps_filled l

    bod_filled : {g : Scope} {b : Bod Op} {us : List Ty} → BodHas procs g b us → (xs : List Named) → SomeName xs → FilledBody xs b
    bod_filled (d.value e) xs n = tt
    bod_filled (d.takes h k e) xs n = tt
    bod_filled (d.any a b) xs n = tt
    bod_filled (d.choice e a b) xs n = (blk_filled a, blk_filled b)
    bod_filled (d.loop l p e b) xs n = blk_filled b
    bod_filled (d.pair a b) xs n = (blk_filled a, blk_filled b)
    bod_filled (d.parts z e a h b k) xs n = (blk_filled a, blk_filled b)
    bod_filled (d.either a b) xs n = (blk_filled a, blk_filled b)
    bod_filled (d.each {xs = ys} {us = us} z l p b) xs n = (n, some_names ys us p, some_exps l.are l.some, block_result b, blk_filled b)
    bod_filled (d.calls h l) xs n = tt

-- ---- whole trees

entered_filled : (slices : Bool) (procs : List Profile) (xs : List Param) (ys : List Shown) (b : Blk Op) → Entered slices procs xs ys b → Filled b
entered_filled slices procs xs ys b h = blk_filled procs (blk_has procs b (scope_with (named_params xs) (param_types xs) []) (shown_types ys) h.block)

funs_filled : (procs : List Profile) (seen : List (List ℕ)) (gs : List IdFun) → funs_right procs seen gs ≡ true → FilledFuns gs
funs_filled procs seen [] h = tt
funs_filled procs seen (g ∷ gs) h =
    let own = right_fun procs seen g gs h in
    (entered_filled true procs g.params g.shown (id_blk_of g.body) own.block, funs_filled procs (g.name ∷ seen) gs own.rest)

pub typed_are_filled : TypedAreFilled
typed_are_filled p h =
    let procs = id_profiles p.funs in
    let two = both (is_entered false procs p.params p.shown (id_blk_of p.body)) (funs_right procs [] p.funs) h in
    (entered_filled false procs p.params p.shown (id_blk_of p.body) (right_entered false procs p.params p.shown (id_blk_of p.body) two.left), funs_filled procs [] p.funs two.right)
