use Rattle.nres_core.specs.FlatTree.{flat_whole_of}
use Rattle.rule_steps.proofs.LoopsLemmas.{if_ok_then}
use Rattle.rule_walk.proofs.WholeLemmas.{of_the_table}
use Rattle.rule_walk.proofs.whole.check_rules.Goals as goal

pub returns : goal.returns
returns c = if_ok_then c.check_whole.result _ _ (λ said h. of_the_table (flat_whole_of c.args.flat.now) said h) c.check_whole.ensures
