-- Whole specifications do what they do with operations for their words.
use Rattle.std.proofs.Common.{append-nil, ◌≡◌, ℕ, zero, suc, Bool, true, false, cond, List, [], ◌∷◌, length, Some, refl, sym, ap, ◌∙◌, subst, arith}
use Rattle.nres_core.specs.Mirror.{blk_of, id_blk_of, named_params, procs_of, id_procs_of, whole_of, id_whole_of}
use Rattle.nres_core.specs.Runs.{Runs, Failed}
use Rattle.nres_core.specs.Tree as t
use Rattle.nres_core.specs.Tree.{Blk, Word, same_name}
use Rattle.nres_rules.specs.Types.{Profile, profiles, profile_at, param_types, shown_types}
use Rattle.nres_core.specs.declared.identified.IdFun.{IdFun}
use Rattle.nres_core.specs.declared.identified.Identified.{Identified}
use Rattle.nres_core.specs.declared.op.Op.{Op}
use Rattle.nres_core.specs.declared.tree.Fun.{Fun}
use Rattle.nres_core.specs.declared.tree.Param.{Param}
use Rattle.nres_core.specs.declared.tree.Spec.{Spec}
use Rattle.nres_core.specs.declared.ty.Ty.{Ty}
use Rattle.nres_core.specs.declared.value.Value.{Value}
use Rattle.nres_meaning.specs.Alike.{failed, over}
use Rattle.nres_meaning.specs.Meaning.{blk_runs, bound, called, calls, whole_runs}
use Rattle.nres_meaning.specs.WordOperations.{op_named, known}
use Rattle.nres_meaning.proofs.Steps.{weaker}
use Rattle.identify_laws.specs.Environments.{InStep, Keeps, CallsKeep}
use Rattle.typing_laws.specs.Known.{some_names}
use Rattle.typing_laws.proofs.DerivedLemmas.{blk_found, typed_found}
use Rattle.typing_laws.proofs.TypesLemmas.{some_is}
use Rattle.nres_rules.specs.Identify.{id_blk}
use Rattle.nres_rules.specs.Types.{blk_type, some_types}
use Rattle.identify_laws.specs.Laws.{IdentifiedBlocksKeep, IdentificationKeeps}
use Rattle.identify_laws.specs.Values.{AllOf}
use Rattle.identify_laws.proofs.Same.{same_of}
use Rattle.typing_laws.proofs.NamesLemmas.{name_turned, params_length}
use Rattle.identify_laws.proofs.Identified.{blk_keeps, fit_bound}
use Rattle.typing_laws.specs.Derived.{BlkIs, FunsAre, SpecIs, inner}
use Rattle.identify_laws.specs.Taken.{Takes, FunsTake, SpecTakes}

-- ---- calls

-- the block of a procedure on its arguments
block_keeps : (procs : List Profile) (n : ℕ) (call other : ℕ → List ℕ → List Value → Runs (List Value)) → CallsKeep procs call other → (xs : List Param) (us : List Ty) (b : Blk Word) (b' : Blk Op)
    → BlkIs procs (inner xs) b b' us → Takes b → (vs : List Value) → AllOf (param_types xs) vs
    → Keeps (AllOf us) (blk_runs op_named n call b (bound (named_params xs) vs [])) (blk_runs known n other b' (bound (named_params xs) vs []))
block_keeps procs n call other agree xs us b b' d m vs h =
    blk_keeps procs n call other agree d m (bound (named_params xs) vs []) (fit_bound (named_params xs) (param_types xs) vs [] [] (params_length xs) h tt)

module _ (procs : List Profile) (n : ℕ) (call other : ℕ → List ℕ → List Value → Runs (List Value)) (agree : CallsKeep procs call other) where
  abbrev going : t.Proc Word → List Value → Runs (List Value)
  going p vs = blk_runs op_named n call p.body (bound p.params vs [])

  abbrev staying : t.Proc Op → List Value → Runs (List Value)
  staying p vs = blk_runs known n other p.body (bound p.params vs [])

  called_keeps : (before : List (List ℕ)) (fs : List Fun) (gs : List IdFun) → FunsAre procs before fs gs → FunsTake fs → (l : ℕ) (x : List ℕ) (h : Profile) (vs : List Value) → profile_at (profiles fs) x ≡ Some h → AllOf h.takes vs
      → Keeps (AllOf h.gives) (called x (Failed l) (λ p. going p vs) (procs_of fs)) (called x (Failed l) (λ p. staying p vs) (id_procs_of gs))
  called_keeps before [] [] d m l x h vs e a = failed
  called_keeps before [] (g ∷ gs) d m l x h vs e a = absurd d
  called_keeps before (f ∷ fs) [] d m l x h vs e a = absurd d
  called_keeps before (f ∷ fs) (g ∷ gs) d m l x h vs e a =
      let q : Profile = record { name = f.name; takes = param_types f.params; gives = shown_types f.shown } in
      let one = blk_runs op_named n call (blk_of f.body) (bound (named_params f.params) vs []) in
      let two : List Param → Runs (List Value) = λ xs. blk_runs known n other (id_blk_of g.body) (bound (named_params xs) vs []) in
      let left = called x (Failed l) (λ p. going p vs) (procs_of fs) in
      let right = called x (Failed l) (λ p. staying p vs) (id_procs_of gs) in
      subst (λ z. Keeps (AllOf h.gives) (cond (same_name x f.name) one left) (cond (same_name x z) (two g.params) right)) (sym d.0.name)
      (subst (λ z. Keeps (AllOf h.gives) (cond (same_name x f.name) one left) (cond (same_name x f.name) (two z) right)) (sym d.0.params)
      (subst (λ z. Keeps (AllOf h.gives) (cond z one left) (cond z (two f.params) right)) (name_turned f.name x)
      ((elim (same_name f.name x) as (λ b. cond b (Some q) (profile_at (profiles fs) x) ≡ Some h → Keeps (AllOf h.gives) (cond b one left) (cond b (two f.params) right)) [
        | true ↦ λ k. let same : q ≡ h = (cc) in
            subst (λ z. AllOf z.takes vs → Keeps (AllOf z.gives) one (two f.params)) same (λ a. block_keeps procs n call other agree f.params (shown_types f.shown) (blk_of f.body) (id_blk_of g.body) d.0.entered.block m.0 vs a) a
        | false ↦ λ k. called_keeps (f.name ∷ before) fs gs d.1 m.1 l x h vs k a
      ]) e)))

calls_keep : (fs : List Fun) (gs : List IdFun) (n d : ℕ) → FunsAre (profiles fs) [] fs gs → FunsTake fs → CallsKeep (profiles fs) (calls op_named (procs_of fs) n d) (calls known (id_procs_of gs) n d)
calls_keep fs gs n zero are m = λ l x h vs e a. over
calls_keep fs gs n (suc d) are m = λ l x h vs e a.
    called_keeps (profiles fs) n (calls op_named (procs_of fs) n d) (calls known (id_procs_of gs) n d) (calls_keep fs gs n d are m) [] fs gs are m l x h vs e a

-- ---- the laws

spec_keeps : (p : Spec) (q : Identified) → SpecIs p q → SpecTakes p → (n d : ℕ) (us : List Value) → AllOf (param_types p.params) us → InStep (whole_runs op_named n d (whole_of p) us) (whole_runs known n d (id_whole_of q) us)
spec_keeps p q s m n d us h =
    let other = calls known (id_procs_of q.funs) n d in
    let one = block_keeps (profiles p.funs) n (calls op_named (procs_of p.funs) n d) other (calls_keep p.funs q.funs n d s.funs m.1) p.params (shown_types p.shown) (blk_of p.body) (id_blk_of q.body) s.entered.block m.0 us h in
    subst (λ z. InStep (whole_runs op_named n d (whole_of p) us) (blk_runs known n other (id_blk_of q.body) (bound (named_params z) us []))) (sym s.params)
    (weaker (λ us ws. us ≡ ws) one (λ us ws e. e.same))

pub identified_blocks_keep : IdentifiedBlocksKeep
identified_blocks_keep procs n call other agree b g ops us env m r h types f =
    let found = blk_found procs b g ops [] r (append-nil (blk_type procs b (some_names g)).words ∙ h) in
    subst (λ z. Keeps (AllOf z) (blk_runs op_named n call b env) (blk_runs known n other (id_blk b ops).0 env)) (some_is found.tys us (sym found.heads ∙ types))
    (blk_keeps procs n call other agree found.is m env f)

pub identification_keeps : IdentificationKeeps
identification_keeps p u q m h i n d us a = same_of _ _ (spec_keeps p q (typed_found p u q h i) m n d us a)
