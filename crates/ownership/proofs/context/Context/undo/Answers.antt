use Rattle.std.proofs.Common.{[]}
use Rattle.ownership.proofs.ContextLemmas.{undo_sound, undo_view}
use Rattle.ownership.specs.Entries.{onto}
use Rattle.ownership.proofs.context.Context.undo.Goals as goal

pub invariant_of-self : goal.invariant_of-self
invariant_of-self c = undo_sound c.self.inside.stack c.restore.new.stack c.self.inside.table c.shorten.new.table c.self.inside.trail c.restore.new.trail c.self.inside.marks c.pop.new.self c.self.inside.kept_below c.in-Some.mark (onto c.shorten.new.stack [])
    c.self.invariant c.in-Some.ensures c.shorten.ensures.entries c.shorten.ensures.agrees c.restore.ensures.entries c.restore.ensures.trail

pub returns-in-Some : goal.returns-in-Some
returns-in-Some c = undo_view c.self.inside.stack c.restore.new.stack c.self.inside.trail c.restore.new.trail c.self.inside.marks c.pop.new.self c.self.inside.kept_below c.in-Some.mark (onto c.shorten.new.stack []) c.args.self.now
    c.self.view_is c.in-Some.ensures c.shorten.ensures.entries c.restore.ensures.entries c.restore.ensures.trail
