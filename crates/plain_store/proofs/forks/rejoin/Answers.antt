use Rattle.std.proofs.Common.{◌≡◌, ℕ, ◌+◌, suc, slice_index_or, arith, sym, subst, take}
use Rattle.std.proofs.lemmas.Option.{slice_get-get_or}
use Rattle.plain_store.specs.Swaps.{AreJoined}
use Rattle.plain_store.specs.declared.forks.Lent.{Lent}
use Rattle.plain_store.proofs.SwapSteps.{join_ready, join_step}
use Rattle.plain_store.proofs.forks.rejoin.Goals as goal

abbrev none : Lent
none = record { at = 0; kept = 0; other = 0 }

pub join_one-requires : goal.join_one-requires
join_one-requires c =
    let k : ℕ = c.loop-part.part-index in
    join_ready c.args.cells.now c.loop-part.cells c.args.lent.now k (slice_index_or c.args.lent.now k none) (slice_get-get_or c.args.lent.now k none c.loop-part-test.true) c.requires.within c.requires.most c.loop-part.invariant

pub loop-part-preserved : goal.loop-part-preserved
loop-part-preserved c =
    let k : ℕ = c.loop-part.part-index in
    let e = slice_index_or c.args.lent.now k none in
    let at = slice_get-get_or c.args.lent.now k none c.loop-part-test.true in
    let r = join_ready c.args.cells.now c.loop-part.cells c.args.lent.now k e at c.requires.within c.requires.most c.loop-part.invariant in
    let q : k + 1 ≡ suc k = omega arith in
    subst (λ n. AreJoined c.args.cells.now c.join_one.new.cells (take n c.args.lent.now)) (sym q)
    (join_step c.args.cells.now c.loop-part.cells c.args.lent.now k e r.0 c.join_one.new.cells at r.1 (c.join_one.ensures r.0 r.1) c.loop-part.invariant)
