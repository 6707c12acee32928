use Rattle.std.proofs.Common.{◌∙◌, []}
use Rattle.ownership.proofs.ContextLemmas.{counted, differing}
use Rattle.ownership.specs.Entries.{onto}
use Rattle.ownership.specs.Marks.{marks_of}
use Rattle.ownership.proofs.context.Context.len.Goals as goal

pub returns-clause-count : goal.returns-clause-count
returns-clause-count c = c.len.ensures ∙ counted c.self.inside.stack c.self.inside.trail (marks_of c.self.inside.marks []) c.self.inside.kept_below c.args.self.now c.self.view_is

pub returns-clause-differ : goal.returns-clause-differ
returns-clause-differ c = differing (onto c.self.inside.stack []) c.self.inside.table c.self.inside.trail (marks_of c.self.inside.marks []) c.self.inside.kept_below c.args.self.now c.self.invariant c.self.view_is
