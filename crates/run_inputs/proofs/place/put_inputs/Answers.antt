use Rattle.std.proofs.Common.{◌≡◌, ◌<◌, ℕ, List, length, sym, subst, arith}
use Rattle.run_inputs.specs.Placing.{AllPut}
use Rattle.run_inputs.proofs.Placed.{all_put, as_many, fits_here, next_out, next_put}
use Rattle.run_inputs.proofs.place.put_inputs.Goals as goal

pub returns-in-Err : goal.returns-in-Err
returns-in-Err g c =
    let k = g.S.Store.kept in
    let ins = c.args.ins.now in
    let values = c.args.values.now in
    let many = as_many ins values c.requires in
    let lt : c.loop-index.index < length values = let a = c.loop-index-test.true in omega (arith, a, many) in
    next_out ins values (k c.args.store.now) c.loop-index.index (k c.loop-index.store) (k c.put_input.new.store) c.loop-index.regs.items c.put_input.new.regs.items c.index-ins-index.result c.index-values-index.result
    c.loop-index-test.true lt c.loop-index.invariant c.index-ins-index.is c.index-values-index.is c.in-Err.unplaced c.in-Err.ensures

pub loop-index-preserved : goal.loop-index-preserved
loop-index-preserved g c =
    let k = g.S.Store.kept in
    let ins = c.args.ins.now in
    let values = c.args.values.now in
    let many = as_many ins values c.requires in
    let lt : c.loop-index.index < length values = let a = c.loop-index-test.true in omega (arith, a, many) in
    next_put ins values (k c.args.store.now) c.loop-index.index (k c.loop-index.store) (k c.put_input.new.store) c.loop-index.regs.items c.put_input.new.regs.items c.index-ins-index.result c.index-values-index.result
    c.loop-index-test.true lt c.loop-index.invariant c.index-ins-index.is c.index-values-index.is _ c.in-Ok.ensures

pub returns : goal.returns
returns g c =
    let k = g.S.Store.kept in
    let ins = c.args.ins.now in
    let values = c.args.values.now in
    subst (λ (rs : List ℕ). AllPut ins values (k c.args.store.now) rs (k c.loop-index.store)) (sym c.from_vec.ensures)
    (all_put ins values (k c.args.store.now) c.loop-index.index (k c.loop-index.store) c.loop-index.regs.items c.loop-index-test.false (as_many ins values c.requires) c.loop-index.invariant)

pub put_input-requires : goal.put_input-requires
put_input-requires g c =
    let ins = c.args.ins.now in
    let values = c.args.values.now in
    let many = as_many ins values c.requires in
    let lt : c.loop-index.index < length values = let a = c.loop-index-test.true in omega (arith, a, many) in
    fits_here ins values c.loop-index.index c.index-ins-index.result c.index-values-index.result c.loop-index-test.true lt c.loop-index.invariant.fits c.index-ins-index.is c.index-values-index.is
