use Rattle.std.proofs.Common.{arith}
use Rattle.fit_state.proofs.BindLemmas.{all_fresh_step, all_fresh_end}
use Rattle.fit_state.proofs.binding.all_fresh.Goals as goal

pub each-preserved : goal.each-preserved
each-preserved c = all_fresh_step c.args.outs.now c.args.shapes.now c.each.index _ c.each.all c.append.new.self c.in_ok-fresh.field-0 (omega arith) (omega arith) c.each.invariant c.in_ok-fresh.ensures c.in_ok-append.ensures

pub returns : goal.returns
returns c = all_fresh_end c.args.outs.now c.args.shapes.now c.each.index c.each.all (omega arith) c.each.invariant
