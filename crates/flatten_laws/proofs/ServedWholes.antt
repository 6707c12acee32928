-- Whole specifications that are served.
use Rattle.std.proofs.Common.{◌≡◌, ℕ, suc, List, [], ◌∷◌, length, refl, sym, ap, subst, arith}
use Rattle.nres_rules.specs.Flatten.{entered, index_of, fresh, beyond, scoped, vars}
use Rattle.nres_core.specs.Mirror.{id_blk_of, named_params, id_procs_of}
use Rattle.nres_core.specs.Tree.{Blk}
use Rattle.nres_rules.specs.Types.{Profile, profiles, param_types, shown_types}
use Rattle.nres_core.specs.declared.identified.IdFun.{IdFun}
use Rattle.nres_core.specs.declared.op.Op.{Op}
use Rattle.nres_core.specs.declared.tree.Fun.{Fun}
use Rattle.nres_core.specs.declared.tree.Param.{Param}
use Rattle.nres_core.specs.declared.ty.Ty.{Ty}
use Rattle.typing_laws.specs.Derived.{FunsAre, inner}
use Rattle.typing_laws.proofs.DerivedLemmas.{typed_found}
use Rattle.typing_laws.proofs.NamesLemmas.{params_length}
use Rattle.flatten_laws.specs.Laws.{TypedAreServed}
use Rattle.flatten_laws.specs.Served.{Numbered, ServedFuns}
use Rattle.flatten_laws.proofs.ServedLemmas.{blk_served, blk_splits, scoped_aligned, vars_suit}
use Rattle.flatten_laws.proofs.Shaped.{BlkHas, blk_shape}

-- a block behind its parameters
pub entered_fine : (number : List ℕ → ℕ) (xs : List Param) (b : Blk Op) (us : List Ty) → BlkHas (inner xs) b us → (k : ℕ) → Numbered number xs b k
entered_fine number xs b us d k =
    let ns = named_params xs in
    let scope = scoped_aligned ns (param_types xs) (vars (fresh ns k)) [] [] (params_length xs) (vars_suit ns (param_types xs) k (params_length xs)) tt in
    blk_splits number d (scoped ns (vars (fresh ns k)) []) (beyond ns k) scope

funs_served : (number : List ℕ → ℕ) (procs : List Profile) (before : List (List ℕ)) (fs : List Fun) (gs : List IdFun) → FunsAre procs before fs gs → (k : ℕ) → ServedFuns number gs k
funs_served number procs before [] [] d k = tt
funs_served number procs before [] (g ∷ gs) d k = absurd d
funs_served number procs before (f ∷ fs) [] d k = absurd d
funs_served number procs before (f ∷ fs) (g ∷ gs) d k = (
  blk_served (blk_shape procs d.0.entered.block),
  subst (λ z. Numbered number z (id_blk_of g.body) k) (sym d.0.params) (entered_fine number f.params (id_blk_of g.body) (shown_types f.shown) (blk_shape procs d.0.entered.block) k),
  funs_served number procs (f.name ∷ before) fs gs d.1 (entered number (named_params g.params) (id_blk_of g.body) k).next,
)

pub typed_are_served : TypedAreServed
typed_are_served p u q m h i =
    let s = typed_found p u q h i in
    let procs = profiles p.funs in
    let number = index_of (id_procs_of q.funs) in
    record {
      block = blk_served (blk_shape procs s.entered.block);
      numbered = subst (λ z. Numbered number z (id_blk_of q.body) 0) (sym s.params) (entered_fine number p.params (id_blk_of q.body) (shown_types p.shown) (blk_shape procs s.entered.block) 0);
      funs = funs_served number procs [] p.funs q.funs s.funs (entered number (named_params q.params) (id_blk_of q.body) 0).next;
    }
