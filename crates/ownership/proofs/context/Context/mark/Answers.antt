use Rattle.std.proofs.Common.{refl}
use Rattle.ownership.proofs.ContextLemmas.{mark_sound, mark_view}
use Rattle.ownership.specs.declared.context.Mark.{Mark}
use Rattle.ownership.proofs.context.Context.mark.Goals as goal

pub invariant_of-self-2 : goal.invariant_of-self-2
invariant_of-self-2 c =
    let m : Mark = record { entries = c.len.result; gone = c.len-2.result; kept_below = c.self.inside.kept_below } in
    mark_sound c.self.inside.stack c.self.inside.table c.self.inside.trail c.self.inside.marks c.push.new.self c.self.inside.kept_below m c.self.invariant c.len.ensures c.len-2.ensures refl c.in_ok-push.ensures.ok

pub returns-clause-ok : goal.returns-clause-ok
returns-clause-ok c =
    let m : Mark = record { entries = c.len.result; gone = c.len-2.result; kept_below = c.self.inside.kept_below } in
    mark_view c.self.inside.stack c.self.inside.trail c.self.inside.marks c.push.new.self c.self.inside.kept_below m c.args.self.now c.self.view_is c.len.ensures c.len-2.ensures refl c.in_ok-push.ensures.ok
