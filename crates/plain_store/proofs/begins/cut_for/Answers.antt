use Rattle.std.proofs.Common.{◌≡◌, ◌+◌, true, sym, subst}
use Rattle.plain_store.specs.Levels.{is_lent}
use Rattle.plain_store.specs.Swaps.{AllAgree, IsSomeCell, first_kept, first_other}
use Rattle.plain_store.proofs.Listed.{cut_agree, cut_within}
use Rattle.plain_store.proofs.begins.cut_for.Goals as goal

pub cut-requires-clause-within : goal.cut-requires-clause-within
cut-requires-clause-within c i t =
    let cells = c.args.cells.now.items in let lent = c.args.lent.items in
    let r = c.requires.listed in
    let u = subst (λ l. is_lent l i ≡ true) c.as_mut_slice-2.ensures.value t in
    subst (λ xs. IsSomeCell xs i (first_kept c.as_mut_slice-2.result.now i + first_other c.as_mut_slice-2.result.now i)) (sym c.as_mut_slice.ensures.value)
    (subst (λ l. IsSomeCell cells i (first_kept l i + first_other l i)) (sym c.as_mut_slice-2.ensures.value)
    (cut_within cells r.0 r.1 r.2 lent r.3 i u))

pub cut-requires-clause-agree : goal.cut-requires-clause-agree
cut-requires-clause-agree c =
    let r = c.requires.listed in
    subst AllAgree (sym c.as_mut_slice-2.ensures.value) (cut_agree c.args.cells.now.items r.0 r.1 r.2 c.args.lent.items r.3)
