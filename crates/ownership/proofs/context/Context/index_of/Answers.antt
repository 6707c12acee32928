use Rattle.std.proofs.Common.{◌∙◌, []}
use Rattle.ownership.proofs.ContextLemmas.{placed, differing}
use Rattle.ownership.specs.Entries.{onto}
use Rattle.ownership.specs.Marks.{marks_of}
use Rattle.ownership.proofs.context.Context.index_of.Goals as goal

pub returns-clause-place : goal.returns-clause-place
returns-clause-place c = c.copied.ensures ∙ c.get.ensures.value ∙ placed (onto c.self.inside.stack []) c.self.inside.table c.self.inside.trail (marks_of c.self.inside.marks []) c.self.inside.kept_below c.args.var c.args.self.now c.self.invariant c.self.view_is

pub returns-clause-differ : goal.returns-clause-differ
returns-clause-differ c = differing (onto c.self.inside.stack []) c.self.inside.table c.self.inside.trail (marks_of c.self.inside.marks []) c.self.inside.kept_below c.args.self.now c.self.invariant c.self.view_is
