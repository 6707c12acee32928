use Rattle.std.proofs.Common.{◌∙◌, ◌++◌, ap}
use Rattle.nres_core.specs.FlatTree.{binds_of}
use Rattle.rule_check.specs.Facts.{learnt}
use Rattle.facts.proofs.ToldLemmas.{newest_are, older_are}
use Rattle.facts.proofs.calculations.Calculations.learn_assert.Goals as goal

pub returns-clause-facts : goal.returns-clause-facts
returns-clause-facts c =
    c.in_ok-learn_all.ensures ∙ ap (λ ds. learnt ds c.args.test ++ c.args.facts.now) (newest_are (binds_of c.args.inner.now) c.args.self.now c.add_all.new.self c.len-start.result c.len-start.ensures c.in_ok-add_all.ensures)

pub returns-clause-calculations : goal.returns-clause-calculations
returns-clause-calculations c = c.leave.ensures ∙ older_are (binds_of c.args.inner.now) c.args.self.now c.add_all.new.self c.len-start.result c.len-start.ensures c.in_ok-add_all.ensures
