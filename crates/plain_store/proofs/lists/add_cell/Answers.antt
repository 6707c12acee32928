use Rattle.std.proofs.Common.{◌≡◌, length, ap, ltb-true, sym, subst, ◌∙◌}
use Rattle.std.proofs.lemmas.Option.{slice_get-get_or}
use Rattle.std.specs.Prelude.{Some, slice_get}
use Rattle.plain_store.specs.Cuts.{Lists}
use Rattle.plain_store.proofs.Listed.{cut_of_at, lists_one}
use Rattle.plain_store.proofs.lists.add_cell.Goals as goal

pub returns : goal.returns
returns c =
    let s = c.args.store.now in
    let l = c.args.left.now in let r = c.args.right.now in
    let e = c.cut_of.result in let x = c.in-Some.cell.now in
    let h = c.in-Some.ensures.lookup in
    let xs = c.deref.result.now in
    let there : slice_get xs c.args.at ≡ Some x = slice_get-get_or xs c.args.at x (ltb-true c.args.at (length xs) (sym h.0)) ∙ ap Some (sym h.1) in
    let at : slice_get s.cells.items c.args.at ≡ Some x = ap (λ l. slice_get l c.args.at) (sym c.deref.ensures.value) ∙ there in
    let cut = cut_of_at s.cells.items s.border l r e c.args.at x c.cut_of.ensures.at at c.if-cell-store.false c.cut_of.ensures.kept c.cut_of.ensures.other in
    subst (λ new. Lists s.cells.items s.border l r c.args.lent.now.items new (λ i d. (i ≡ c.args.at) × (d.home ≡ c.args.block))) (sym (c.in_ok-push.ensures.items))
    (lists_one s.cells.items s.border l r c.args.lent.now.items e (λ i d. (i ≡ c.args.at) × (d.home ≡ c.args.block)) cut (λ i d p. p.0 ∙ sym c.cut_of.ensures.at))
