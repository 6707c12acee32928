use Rattle.std.proofs.Common.{arith}
use Rattle.images.proofs.Steps.{key_under}
use Rattle.images.proofs.bounded.marked.Goals as goal

pub overflow_mul-at : goal.overflow_mul-at
overflow_mul-at c =
    let lt = key_under c.args.bound c.args.entries.now c.loop-entry.entry-index c.requires c.loop-entry-test.true in
    omega (arith, lt, c.ranges.bound.fits)

pub index_mut-requires : goal.index_mut-requires
index_mut-requires c =
    let lt = key_under c.args.bound c.args.entries.now c.loop-entry.entry-index c.requires c.loop-entry-test.true in
    let len = c.loop-entry.invariant.1 in
    omega (arith, lt, len, c.loop-entry.words.ok)

pub overflow_add-at : goal.overflow_add-at
overflow_add-at c =
    let lt = key_under c.args.bound c.args.entries.now c.loop-entry.entry-index c.requires c.loop-entry-test.true in
    omega (arith, lt, c.ranges.bound.fits)

pub index_mut-requires-in-loop-entry : goal.index_mut-requires-in-loop-entry
index_mut-requires-in-loop-entry c =
    let lt = key_under c.args.bound c.args.entries.now c.loop-entry.entry-index c.requires c.loop-entry-test.true in
    let len = c.loop-entry.invariant.1 in
    omega (arith, lt, len, c.loop-entry.words.ok)
