-- The names that an identified tree binds are names, where those of its tree are free names.
use Rattle.std.proofs.Common.{◌≡◌, not, true, List, [], ◌∷◌, refl, ap, ◌∙◌}
use Rattle.target_code.specs.Names.{is_name}
use Rattle.target_code.specs.Reserved.{is_reserved}
use Rattle.nres_rules.specs.FlatTyped.{all_names}
use Rattle.nres_rules.specs.Flatten.{names_of}
use Rattle.nres_rules.specs.Identify.{FunsIdentify, Identifies, id_exp, id_exps, id_blk, id_steps, id_bod}
use Rattle.nres_core.specs.Mirror.{blk_of, id_blk_of}
use Rattle.nres_core.specs.Tree as t
use Rattle.nres_core.specs.Tree.{Blk, Steps, Bod, Word}
use Rattle.nres_core.specs.declared.identified.IdFun.{IdFun}
use Rattle.nres_core.specs.declared.identified.Identified.{Identified}
use Rattle.nres_core.specs.declared.op.Op.{Op}
use Rattle.nres_core.specs.declared.place.Named.{Named}
use Rattle.nres_core.specs.declared.tree.Fun.{Fun}
use Rattle.nres_core.specs.declared.tree.Spec.{Spec}
use Rattle.nres_core.specs.declared.tree.Typing.{Typing}
use Rattle.identify_laws.specs.Binders.{BindersNamed, blk_binders, steps_binders, bod_binders, funs_binders}
use Rattle.typing_laws.proofs.NamesLemmas.{joined, free_named}
use Rattle.typing_laws.proofs.TypedLemmas.{and_true, both}
use Rattle.typing_laws.specs.Formed.{IsFree, BlkFormed, StepsFormed, BodFormed, FunsFormed, SpecFormed}

named : (x : Named) → IsFree x → is_name x.name ≡ true
named x h = (both (is_name x.name) (not (is_reserved x.name)) h).left

mutual
  blk_named : (b : Blk Word) (ops : List Op) → BlkFormed b → all_names (blk_binders (id_blk b ops).0) ≡ true
  blk_named (t.Returns ss p es) ops f = steps_named ss ops f.0

  steps_named : (ss : Steps Word) (ops : List Op) → StepsFormed ss → all_names (steps_binders (id_steps ss ops).0) ≡ true
  steps_named t.No_step ops f = refl
  steps_named (t.Bind xs p b ss) ops f = joined (names_of xs) _ (free_named xs f.0.1) (joined (bod_binders (id_bod b ops).0) _ (bod_named b ops f.1) (steps_named ss (id_bod b ops).1 f.2))
  steps_named (t.Assert p e ss) ops f = steps_named ss (id_exp e ops).1 f.1

  bod_named : (b : Bod Word) (ops : List Op) → BodFormed b → all_names (bod_binders (id_bod b ops).0) ≡ true
  bod_named (t.Value e) ops f = refl
  bod_named (t.Take p w e) ops f = refl
  bod_named (t.Any p a b) ops f = refl
  bod_named (t.If p e a b) ops f =
      let at = (id_exp e ops).1 in
      joined (blk_binders (id_blk a at).0) _ (blk_named a at f.1) (blk_named b (id_blk a at).1 f.2)
  bod_named (t.While p xs q es e b) ops f = joined (names_of xs) _ (free_named xs f.0.1) (blk_named b (id_exp e (id_exps es ops).1).1 f.3)
  bod_named (t.Par p a b) ops f = joined (blk_binders (id_blk a ops).0) _ (blk_named a ops f.0) (blk_named b (id_blk a ops).1 f.1)
  bod_named (t.Split p z e x a y b) ops f =
      let at = (id_exp e ops).1 in
      and_true (named x f.1) (joined (blk_binders (id_blk a at).0) _ (blk_named a at f.2) (and_true (named y f.3) (blk_named b (id_blk a at).1 f.4)))
  bod_named (t.Either p a b) ops f = joined (blk_binders (id_blk a ops).0) _ (blk_named a ops f.0) (blk_named b (id_blk a ops).1 f.1)
  bod_named (t.Foreach p x z xs q es b) ops f = and_true (named x f.0) (joined (names_of xs) _ (free_named xs f.1.1) (blk_named b (id_exps es ops).1 f.3))
  bod_named (t.Call p x es) ops f = refl

funs_named : (fs : List Fun) (ops : List Op) (gs : List IdFun) → FunsFormed fs → FunsIdentify fs ops gs → all_names (funs_binders gs) ≡ true
funs_named [] ops [] f i = refl
funs_named [] ops (g ∷ gs) f i = absurd i
funs_named (p ∷ fs) ops [] f i = absurd i
funs_named (p ∷ fs) ops (g ∷ gs) f i =
    joined (blk_binders (id_blk_of g.body)) (funs_binders gs) (ap (λ z. all_names (blk_binders z)) i.0.body ∙ blk_named (blk_of p.body) ops f.1.3) (funs_named fs (id_blk (blk_of p.body) ops).1 gs f.2 i.1)

pub formed_are_named : (p : Spec) (u : Typing) (q : Identified) → SpecFormed p → Identifies p u q → BindersNamed q
formed_are_named p u q f i =
    joined (blk_binders (id_blk_of q.body)) (funs_binders q.funs) (ap (λ z. all_names (blk_binders z)) i.body ∙ blk_named (blk_of p.body) u.words f.0.3)
    (funs_named p.funs (id_blk (blk_of p.body) u.words).1 q.funs f.1 i.funs)
