use Rattle.std.proofs.Common.{[]}
use Rattle.ownership.proofs.ContextLemmas.{lend_sound, lend_view}
use Rattle.ownership.specs.Marks.{marks_of}
use Rattle.ownership.proofs.context.Context.lend.Goals as goal

pub invariant_of-self : goal.invariant_of-self
invariant_of-self c = lend_sound c.self.inside.stack c.self.inside.table c.self.inside.trail (marks_of c.self.inside.marks []) c.self.inside.kept_below c.len-self-inside.result c.self.invariant c.len-self-inside.ensures

pub returns : goal.returns
returns c = lend_view c.self.inside.stack c.self.inside.trail (marks_of c.self.inside.marks []) c.self.inside.kept_below c.len-self-inside.result c.args.self.now c.self.view_is c.len-self-inside.ensures
