use Rattle.std.proofs.Common.{[]}
use Rattle.ownership.proofs.ContextLemmas.{fell_within, fell_sound, fell_view}
use Rattle.ownership.specs.Marks.{marks_of}
use Rattle.ownership.proofs.context.Context.fell.Goals as goal

pub set-requires : goal.set-requires
set-requires c = fell_within c.self.inside.stack c.self.inside.trail (marks_of c.self.inside.marks []) c.self.inside.kept_below c.args.index c.args.entry c.args.self.now c.self.view_is c.requires.there c.requires.free

pub invariant_of-self-2 : goal.invariant_of-self-2
invariant_of-self-2 c = fell_sound c.self.inside.stack c.set.new.self c.self.inside.table c.self.inside.trail c.push.new.self (marks_of c.self.inside.marks []) c.self.inside.kept_below c.args.index c.args.entry c.held_as.result c.args.self.now
    c.self.invariant c.self.view_is c.requires.there c.requires.free c.held_as.ensures c.set.ensures c.in_ok-push.ensures.ok

pub returns-clause-ok : goal.returns-clause-ok
returns-clause-ok c = fell_view c.self.inside.stack c.set.new.self c.self.inside.table c.self.inside.trail c.push.new.self (marks_of c.self.inside.marks []) c.self.inside.kept_below c.args.index c.args.entry c.held_as.result c.args.self.now
    c.self.invariant c.self.view_is c.requires.there c.requires.free c.held_as.ensures c.set.ensures c.in_ok-push.ensures.ok
