use Rattle.std.proofs.Common.{◌∙◌, sym, ap}
use Rattle.context_laws.proofs.StacksLemmas.{found_there, found_nowhere}
use Rattle.ownership.proofs.context.Context.entry.Goals as goal

pub returns-in-Some : goal.returns-in-Some
returns-in-Some c = c.get.ensures ∙ sym (found_there c.args.self.now.spots c.args.var c.in-Some.index (sym c.index_of.ensures.place ∙ c.in-Some.is))

pub returns-in-None : goal.returns-in-None
returns-in-None c = sym (found_nowhere c.args.self.now.spots c.args.var (sym c.index_of.ensures.place ∙ c.in-None.is))
