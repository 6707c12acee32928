use Rattle.std.proofs.Common.{[], ◌∷◌, refl}
use Rattle.facts.specs.Stacks.{def_of}
use Rattle.rule_check.specs.Facts.{calc_tells}
use Rattle.rule_steps.proofs.EndsLemmas.{saved_same}
use Rattle.rule_steps.proofs.plain.calculate.Goals as goal

pub returns-clause-grows : goal.returns-clause-grows
returns-clause-grows c = record {
  saved = saved_same c.args.state.now.context c.add.new.self _ c.in_ok-add.ensures.ok;
  facts = (calc_tells c.args.calculation.word c.args.calculation.to c.args.calculation.right, c.in_ok-know_calc.ensures.known);
  calculations = (def_of c.args.calculation ∷ [], c.in_ok-add-2.ensures.added);
  start = refl;
}
