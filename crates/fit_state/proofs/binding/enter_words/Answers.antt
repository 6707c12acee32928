use Rattle.std.proofs.Common.{◌∙◌, arith}
use Rattle.target_code.specs.declared.tree.Rep.TheVariants.{Word}
use Rattle.fit_state.proofs.BindLemmas.{enter_step, enter_end}
use Rattle.fit_state.proofs.binding.enter_words.Goals as goal

pub each-preserved : goal.each-preserved
each-preserved c = record {
  entered = enter_step c.args.state.now c.each.state c.bind_entry.new.state c.args.outs.now c.args.shapes.now c.args.words.now c.each.index (record { rep = Word; tag = 0 }) c.index-words-index.result c.in_ok-list.list (omega arith) (omega arith) (omega arith) c.each.invariant.entered (c.in_ok-list.ensures ∙ c.as_slice.ensures ∙ c.index-words-index.is) c.in_ok-bind_entry.ensures.ok;
  rules = c.bind_entry.ensures.rules ∙ c.each.invariant.rules;
}

pub returns-clause-ok : goal.returns-clause-ok
returns-clause-ok c = enter_end c.args.state.now c.each.state c.args.outs.now c.args.shapes.now c.args.words.now c.each.index (omega arith) c.each.invariant.entered
