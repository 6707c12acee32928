use Rattle.fit_tokens.proofs.StacksLemmas.{get_some, get_none}
use Rattle.fit_tokens.proofs.words.WordStack.get.Goals as goal

pub returns-in-Some : goal.returns-in-Some
returns-in-Some c = get_some c.self.inside.stack c.args.index c.args.self.now c.get.result c.in-Some.placed c.self.view_is c.get.ensures.value c.in-Some.is

pub returns-in-None : goal.returns-in-None
returns-in-None c = get_none c.self.inside.stack c.args.index c.args.self.now c.get.result c.self.view_is c.get.ensures.value c.in-None.is
