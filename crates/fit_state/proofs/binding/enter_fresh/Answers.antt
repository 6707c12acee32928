use Rattle.std.proofs.Common.{◌∙◌, arith}
use Rattle.fit_state.proofs.BindLemmas.{enter_fresh_step, enter_fresh_end}
use Rattle.fit_state.proofs.binding.enter_fresh.Goals as goal

pub each-preserved : goal.each-preserved
each-preserved c = record {
  entered = enter_fresh_step c.args.state.now c.each.state c.bind_entry.new.state c.args.outs.now c.args.shapes.now c.each.index _ _ (omega arith) (omega arith) c.each.invariant.entered c.in_ok-list.ensures c.in_ok-bind_entry.ensures.ok;
  rules = c.bind_entry.ensures.rules ∙ c.each.invariant.rules;
}

pub returns-clause-ok : goal.returns-clause-ok
returns-clause-ok c = enter_fresh_end c.args.state.now c.each.state c.args.outs.now c.args.shapes.now c.each.index (omega arith) c.each.invariant.entered
