use Rattle.std.proofs.lemmas.Option.{slice_get-get_or}
use Rattle.std.proofs.Common.{◌≡◌, ◌≤◌, length, arith}
use Rattle.std.specs.Prelude.{slice_index_or}
use Rattle.store_blocks.proofs.Putting.{put_begun, put_done, written_on}
use Rattle.store_blocks.proofs.put.put_block.Goals as goal

pub loop-index-init : goal.loop-index-init
loop-index-init g c = put_begun (g.S.Store.kept c.args.store.now) (g.S.Store.kept c.claim.new.self) c.in-Won.name c.args.words.now c.in-Won.ensures

pub loop-index-preserved : goal.loop-index-preserved
loop-index-preserved g c =
    let k = g.S.Store.kept in
    let ws = c.args.words.now in
    let n = c.loop-index.index in
    written_on (k c.loop-index.store) (k c.write-done.new.self) (k c.args.store.now).top c.in-Won.name ws n (slice_index_or ws n 0) c.write-done.result (k c.claim.new.self) c.loop-index-test.true (slice_get-get_or ws n 0 c.loop-index-test.true) c.loop-index.invariant c.write-done.ensures.answer c.write-done.ensures.after

pub returns-after-loop-index : goal.returns-after-loop-index
returns-after-loop-index g c =
    let k = g.S.Store.kept in
    let ws = c.args.words.now in
    let z = c.loop-index-test.false in
    put_done (k c.args.store.now) (k c.claim.new.self) (k c.loop-index.store) c.in-Won.name ws c.loop-index.index c.in-Won.ensures (let le : length ws ≤ c.loop-index.index = omega arith in le) c.loop-index.invariant
