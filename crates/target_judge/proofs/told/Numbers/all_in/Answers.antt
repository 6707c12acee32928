use Rattle.std.proofs.Common.{ap, ◌∙◌}
use Rattle.target_judge.specs.Numbers as numbers
use Rattle.target_judge.proofs.Numbers.{keys_have}
use Rattle.target_judge.proofs.told.Numbers.all_in.Goals as goal

pub returns : goal.returns
returns c = c.keys_in.ensures ∙ keys_have c.args.others.now c.self.inside.entries.entries ∙ ap (numbers.have_numbers c.args.others.now) c.self.view_is
