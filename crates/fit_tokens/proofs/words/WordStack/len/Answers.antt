use Rattle.std.proofs.Common.{◌∙◌}
use Rattle.fit_tokens.proofs.StacksLemmas.{counted}
use Rattle.fit_tokens.proofs.words.WordStack.len.Goals as goal

pub returns : goal.returns
returns c = c.len.ensures ∙ counted c.self.inside.stack c.args.self.now c.self.view_is
