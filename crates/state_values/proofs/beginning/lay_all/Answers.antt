use Rattle.std.proofs.Common.{◌<◌, length, arith}
use Rattle.state_values.proofs.Steps.{all_laid, as_many, fits_here, next_laid, next_out}
use Rattle.state_values.proofs.beginning.lay_all.Goals as goal

pub returns-in-Err : goal.returns-in-Err
returns-in-Err c =
    let ins = c.args.ins.now in
    let values = c.args.values.now in
    let many = as_many ins values c.requires in
    let lt : c.loop-index.index < length values = let a = c.loop-index-test.true in omega (arith, a, many) in
    next_out c.args.cap ins values c.loop-index.index c.loop-index.laid c.lay.new.laid c.index-ins-index.result c.index-values-index.result
    c.loop-index-test.true lt c.loop-index.invariant c.index-ins-index.is c.index-values-index.is c.in-Err.unplaced c.in-Err.ensures

pub loop-index-preserved : goal.loop-index-preserved
loop-index-preserved c =
    let ins = c.args.ins.now in
    let values = c.args.values.now in
    let many = as_many ins values c.requires in
    let lt : c.loop-index.index < length values = let a = c.loop-index-test.true in omega (arith, a, many) in
    next_laid c.args.cap ins values c.loop-index.index c.loop-index.laid c.lay.new.laid c.index-ins-index.result c.index-values-index.result
    c.loop-index-test.true lt c.loop-index.invariant c.index-ins-index.is c.index-values-index.is _ c.in-Ok.ensures

pub returns : goal.returns
returns c =
    let ins = c.args.ins.now in
    let values = c.args.values.now in
    all_laid c.args.cap ins values c.loop-index.index c.loop-index.laid.regs.items c.loop-index.laid.blocks.items c.loop-index.laid.claimed c.loop-index-test.false (as_many ins values c.requires) c.loop-index.invariant

pub lay-requires-clause-fits : goal.lay-requires-clause-fits
lay-requires-clause-fits c =
    let ins = c.args.ins.now in
    let values = c.args.values.now in
    let many = as_many ins values c.requires in
    let lt : c.loop-index.index < length values = let a = c.loop-index-test.true in omega (arith, a, many) in
    fits_here c.args.cap ins values c.loop-index.index c.loop-index.laid c.loop-index.laid c.index-ins-index.result c.index-values-index.result
    c.loop-index-test.true lt c.loop-index.invariant c.index-ins-index.is c.index-values-index.is
