use Rattle.rule_forks.proofs.ResultsLemmas.{joined_shapes}
use Rattle.rule_forks.proofs.results.joined.Goals as goal

pub returns : goal.returns
returns c = joined_shapes c.in_ok-results.results _ c.append.new.self _ _ c.in_ok-results.ensures c.in_ok-shapes.ensures c.in_ok-append.ensures
