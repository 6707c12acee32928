-- A typed tree with operations for its words is served.
use Rattle.std.proofs.Common.{◌≡◌, ℕ, Bool, true, false, List, [], ◌∷◌}
use Rattle.nres_rules.specs.Flatten.{entered, index_of}
use Rattle.nres_core.specs.Mirror.{id_blk_of, named_params, id_procs_of}
use Rattle.nres_core.specs.Tree.{Blk}
use Rattle.nres_rules.specs.Typed.{id_profiles, is_entered, funs_right}
use Rattle.nres_rules.specs.Types.{Profile, shown_types}
use Rattle.nres_core.specs.declared.identified.IdFun.{IdFun}
use Rattle.nres_core.specs.declared.op.Op.{Op}
use Rattle.nres_core.specs.declared.tree.Param.{Param}
use Rattle.nres_core.specs.declared.tree.Shown.{Shown}
use Rattle.typing_laws.specs.Derived.{inner}
use Rattle.typing_laws.proofs.TypedLemmas.{both}
use Rattle.typing_laws.proofs.TypedTreesLemmas as typed
use Rattle.typing_laws.proofs.TypedTreesLemmas.{Entered, right_entered, right_fun}
use Rattle.flatten_laws.specs.Laws.{TreesAreServed}
use Rattle.flatten_laws.specs.Served.{ServedFuns}
use Rattle.flatten_laws.proofs.ServedLemmas.{blk_served}
use Rattle.flatten_laws.proofs.ServedWholes.{entered_fine}
use Rattle.flatten_laws.proofs.Shaped.{BlkHas, blk_has}

module _ (procs : List Profile) where
  entered_has : (slices : Bool) (xs : List Param) (ys : List Shown) (b : Blk Op) → Entered slices procs xs ys b → BlkHas (inner xs) b (shown_types ys)
  entered_has slices xs ys b h = blk_has procs (typed.blk_has procs b (inner xs) (shown_types ys) h.block)

  funs_have : (number : List ℕ → ℕ) (before : List (List ℕ)) (gs : List IdFun) (k : ℕ) → funs_right procs before gs ≡ true → ServedFuns number gs k
  funs_have number before [] k h = tt
  funs_have number before (g ∷ gs) k h =
      let own = right_fun procs before g gs h in
      let body = entered_has true g.params g.shown (id_blk_of g.body) own.block in (
        blk_served body,
        entered_fine number g.params (id_blk_of g.body) (shown_types g.shown) body k,
        funs_have number (g.name ∷ before) gs (entered number (named_params g.params) (id_blk_of g.body) k).next own.rest,
      )

pub trees_are_served : TreesAreServed
trees_are_served p h =
    let procs = id_profiles p.funs in
    let number = index_of (id_procs_of p.funs) in
    let two = both (is_entered false procs p.params p.shown (id_blk_of p.body)) (funs_right procs [] p.funs) h in
    let body = entered_has procs false p.params p.shown (id_blk_of p.body) (right_entered false procs p.params p.shown (id_blk_of p.body) two.left) in
    record {
      block = blk_served body;
      numbered = entered_fine number p.params (id_blk_of p.body) (shown_types p.shown) body 0;
      funs = funs_have procs number [] p.funs (entered number (named_params p.params) (id_blk_of p.body) 0).next two.right;
    }
