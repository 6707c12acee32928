use Rattle.std.proofs.Common.{◌≡◌, true, arith, ap, subst}
use Rattle.std.proofs.lemmas.Option.{slice_get_within}
use Rattle.plain_store.specs.Levels.{is_lent, other_in}
use Rattle.plain_store.proofs.Sound.{lent-last, lent_of-last}
use Rattle.plain_store.proofs.LentLists.{come}
use Rattle.plain_store.proofs.ends.begin_right.Goals as goal

pub swap-requires-clause-within : goal.swap-requires-clause-within
swap-requires-clause-within c i t =
    let f = c.args.fork in
    let s = c.requires.3 in
    let u = subst (λ l. is_lent l i ≡ true) c.as_mut_slice.ensures.value t in
    let g = come c.args.cells.now f.high f.lent.items (lent-last c.args.cells.now c.requires.2 f s.lent).1 i u in
    slice_get_within c.args.cells.now i g.0 g.1

pub swap-requires-clause-most : goal.swap-requires-clause-most
swap-requires-clause-most c i d at =
    let f = c.args.fork in
    let s = c.requires.3 in
    let m = s.most i d at in
    let l = lent_of-last c.requires.2 f i in
    let e = ap (λ l. other_in l i) c.as_mut_slice.ensures.value in
    omega arith
