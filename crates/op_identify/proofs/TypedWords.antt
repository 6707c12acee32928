-- The words of a typed tree are its operations, one after another.
use Rattle.std.proofs.Common.{◌≡◌, ℕ, List, [], ◌∷◌, ◌++◌, Option, Some, None, map, append_assoc, refl, ap, ◌∙◌, sym}
use Rattle.nres_rules.specs.Identify.{FunsIdentify, other_ops, id_exp, id_exps, id_blk, id_steps, id_bod}
use Rattle.nres_core.specs.Mirror.{blk_of, named_params}
use Rattle.nres_core.specs.Tree as t
use Rattle.nres_core.specs.Tree.{Exp, Exps, Blk, Steps, Bod, Word}
use Rattle.nres_rules.specs.Types.{Names, Profile, FoundAll, exp_type, exps_type, blk_type, steps_type, bod_type, types_of, known_types, with_types, called, profile_at, param_types, some_types, funs_type}
use Rattle.nres_core.specs.declared.identified.IdFun.{IdFun}
use Rattle.nres_core.specs.declared.op.Op.{Op}
use Rattle.nres_core.specs.declared.place.Named.{Named}
use Rattle.nres_core.specs.declared.place.Place.{Place}
use Rattle.nres_core.specs.declared.tree.Fun.{Fun}
use Rattle.nres_core.specs.declared.ty.Ty.TheVariants as ty
use Rattle.op_identify.specs.Fronts.{FunsBegin}

-- the operations, as those of words
abbrev pub some_ops : List Op → List (Option Op)
some_ops ops = map (λ op. Some op) ops

others : {w : Option Op} {ws : List (Option Op)} (ops : List Op) → w ∷ ws ≡ some_ops ops → ws ≡ some_ops (other_ops ops)
others [] h = absurd cc
others (op ∷ ops) h = cc

past : (more : List (Option Op)) (ops : List Op) (a b : List (Option Op)) → (a ++ b) ++ more ≡ some_ops ops → a ++ (b ++ more) ≡ some_ops ops
past more ops a b h = sym (append_assoc a b more) ∙ h

-- the words of a part come first; what is left is for the words behind it
mutual
  pub exp_left : (e : Exp Word) (s : Names) {more : List (Option Op)} (ops : List Op) → (exp_type e s).words ++ more ≡ some_ops ops → more ≡ some_ops (id_exp e ops).1
  exp_left (t.Num p n) s ops h = h
  exp_left (t.Truth p b) s ops h = h
  exp_left (t.Var x) s ops h = h
  exp_left (t.Binary p w a b) s ops h = exp_left b s (id_exp a ops).1 (exp_left a s ops (past _ _ (exp_type a s).words (exp_type b s).words h))
  exp_left (t.Not p a) s ops h = exp_left a s ops h
  exp_left (t.Apply p w es made) s ops h = exps_left es s (other_ops ops) (others ops h)

  pub exps_left : (es : Exps Word) (s : Names) {more : List (Option Op)} (ops : List Op) → (exps_type es s).words ++ more ≡ some_ops ops → more ≡ some_ops (id_exps es ops).1
  exps_left t.None_left s ops h = h
  exps_left (t.Also e es) s ops h = exps_left es s (id_exp e ops).1 (exp_left e s ops (past _ _ (exp_type e s).words (exps_type es s).words h))

nothing : (ops : List Op) → [] ≡ some_ops ops → ops ≡ []
nothing [] h = refl
nothing (op ∷ ops) h = absurd cc

called_words : (f : Named) (us : FoundAll) (p : Option Profile) → (called f us p).words ≡ us.words
called_words f us None = refl
called_words f us (Some p) = refl

module _ (procs : List Profile) where
  mutual
    pub blk_left : (b : Blk Word) (s : Names) {more : List (Option Op)} (ops : List Op) → (blk_type procs b s).words ++ more ≡ some_ops ops → more ≡ some_ops (id_blk b ops).1
    blk_left (t.Returns ss p es) s ops h = steps_left ss es s p ops h

    pub steps_left : (ss : Steps Word) (es : Exps Word) (s : Names) (p : Place) {more : List (Option Op)} (ops : List Op)
        → (steps_type procs ss p es s).words ++ more ≡ some_ops ops → more ≡ some_ops (id_exps es (id_steps ss ops).1).1
    steps_left t.No_step es s p ops h = exps_left es s ops h
    steps_left (t.Bind xs q b ss) es s p ops h =
        let one = bod_type procs b s in
        steps_left ss es (with_types xs (known_types one.gives) s) p (id_bod b ops).1 (bod_left b s ops (past _ _ one.words (steps_type procs ss p es (with_types xs (known_types one.gives) s)).words h))
    steps_left (t.Assert q e ss) es s p ops h = steps_left ss es s p (id_exp e ops).1 (exp_left e s ops (past _ _ (exp_type e s).words (steps_type procs ss p es s).words h))

    pub bod_left : (b : Bod Word) (s : Names) {more : List (Option Op)} (ops : List Op) → (bod_type procs b s).words ++ more ≡ some_ops ops → more ≡ some_ops (id_bod b ops).1
    bod_left (t.Value e) s ops h = exp_left e s ops h
    bod_left (t.Take p w e) s ops h = exp_left e s (other_ops ops) (others ops h)
    bod_left (t.Any p a b) s ops h = exp_left b s (id_exp a ops).1 (exp_left a s ops (past _ _ (exp_type a s).words (exp_type b s).words h))
    bod_left (t.If p e a b) s ops h =
        let x = (exp_type e s).words in
        let y = (blk_type procs a s).words in
        let z = (blk_type procs b s).words in
        blk_left b s (id_blk a (id_exp e ops).1).1 (blk_left a s (id_exp e ops).1 (past _ _ y z (exp_left e s ops (past _ _ x (y ++ z) h))))
    bod_left (t.While p xs q es e b) s ops h =
        let us = exps_type es s in
        let inner = with_types xs (types_of us.heads) s in
        let y = (exp_type e inner).words in
        let z = (blk_type procs b inner).words in
        blk_left b inner (id_exp e (id_exps es ops).1).1 (exp_left e inner (id_exps es ops).1 (past _ _ y z (exps_left es s ops (past _ _ us.words (y ++ z) h))))
    bod_left (t.Par p a b) s ops h = blk_left b s (id_blk a ops).1 (blk_left a s ops (past _ _ (blk_type procs a s).words (blk_type procs b s).words h))
    bod_left (t.Split p z e ln a rn b) s ops h =
        let x = (exp_type e s).words in
        let l = (ln.name, Some ty.List) ∷ s in
        let r = (rn.name, Some ty.List) ∷ s in
        let y = (blk_type procs a l).words in
        let z = (blk_type procs b r).words in
        blk_left b r (id_blk a (id_exp e ops).1).1 (blk_left a l (id_exp e ops).1 (past _ _ y z (exp_left e s ops (past _ _ x (y ++ z) h))))
    bod_left (t.Either p a b) s ops h = blk_left b s (id_blk a ops).1 (blk_left a s ops (past _ _ (blk_type procs a s).words (blk_type procs b s).words h))
    bod_left (t.Foreach p x z xs q es b) s ops h =
        let us = exps_type es s in
        let inner = with_types xs (types_of us.heads) ((x.name, Some ty.Nat) ∷ s) in
        blk_left b inner (id_exps es ops).1 (exps_left es s ops (past _ _ us.words (blk_type procs b inner).words h))
    bod_left (t.Call p f es) s {more = more} ops h =
        exps_left es s ops (ap (λ ws. ws ++ more) (sym (called_words f (exps_type es s) (profile_at procs f.name))) ∙ h)

  -- with the first of these operations, and none is left
  pub funs_identified : (fs : List Fun) (gs : List IdFun) (seen : List (List ℕ)) (ops left : List Op)
      → (funs_type procs seen fs).words ≡ some_ops ops → FunsBegin fs ops gs left → FunsIdentify fs ops gs
  funs_identified [] [] seen ops left h b = nothing ops h
  funs_identified (f ∷ fs) (g ∷ gs) seen ops left h b =
      let s = with_types (named_params f.params) (some_types (param_types f.params)) [] in
      (b.0, funs_identified fs gs (f.name ∷ seen) (id_blk (blk_of f.body) ops).1 left (blk_left (blk_of f.body) s ops h) b.1)
  funs_identified [] (g ∷ gs) seen ops left h b = absurd b
  funs_identified (f ∷ fs) [] seen ops left h b = absurd b
