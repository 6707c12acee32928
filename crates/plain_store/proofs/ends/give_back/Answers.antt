use Rattle.std.proofs.Common.{◌≡◌, true, ◌<◌, length, arith, sym, ap, subst}
use Rattle.std.proofs.lemmas.Option.{slice_get_within}
use Rattle.std.specs.Prelude.{slice_get, Some}
use Rattle.plain_store.specs.Levels.{is_lent, other_in, kept_in}
use Rattle.plain_store.proofs.Sound.{lent-last, lent_of-last}
use Rattle.plain_store.proofs.LentLists.{come}
use Rattle.plain_store.proofs.ends.give_back.Goals as goal

pub rejoin-requires-clause-within : goal.rejoin-requires-clause-within
rejoin-requires-clause-within c i t =
    let f = c.args.fork.now in
    let s = c.requires.3 in
    let u = subst (λ l. is_lent l i ≡ true) c.as_slice.ensures.value t in
    let g = come c.args.cells.now.items f.high f.lent.items (lent-last c.args.cells.now.items c.requires.2 f s.lent).1 i u in
    subst (λ l. i < length l) (sym c.as_mut_slice.ensures.value) (slice_get_within c.args.cells.now.items i g.0 g.1)

pub rejoin-requires-clause-most : goal.rejoin-requires-clause-most
rejoin-requires-clause-most c i d at =
    let f = c.args.fork.now in
    let s = c.requires.3 in
    let m = s.most i d (subst (λ l. slice_get l i ≡ Some d) c.as_mut_slice.ensures.value at) in
    let l = lent_of-last c.requires.2 f i in
    let k = ap (λ l. kept_in l i) c.as_slice.ensures.value in
    let e = ap (λ l. other_in l i) c.as_slice.ensures.value in
    omega arith
