use Rattle.std.proofs.Common.{rules, ◌∙◌}
use Rattle.std.proofs.lemmas.Fn.{filter_same}
use Rattle.share_table.proofs.Moves.{stays, without_is}
use Rattle.share_table.proofs.owners.clear_block.Goals as goal

pub returns : goal.returns
returns c = filter_same _ (stays c.args.owner c.args.block) _ (λ x b f' k. search rules) _ _ c.retain.ensures.filtered ∙ without_is c.args.owner c.args.block c.args.entries.now.items
