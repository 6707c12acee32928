use Rattle.facts.proofs.KnownLemmas.{forget_sound, forget_known, forget_facts, on_ok, on_err}
use Rattle.facts.proofs.known.Facts.forget.Goals as goal

pub unreachable-requires : goal.unreachable-requires
unreachable-requires c =
    forget_known c.self.inside.log.items c.pop.new.self.items c.in-Some.field-0 c.self.inside.bounds c.self.invariant c.in-Some.ensures.items
    (on_err c.insert.result _ c.is_err.result c.is_err.ensures.value c.if-is_err.true c.insert.ensures.absent)

pub invariant_of-self : goal.invariant_of-self
invariant_of-self c =
    forget_sound c.self.inside.log.items c.pop.new.self.items c.in-Some.field-0 c.self.inside.bounds c.insert.new.self c.self.invariant c.in-Some.ensures.items
    (on_ok c.insert.result _ c.is_err.result c.is_err.ensures.value c.if-is_err.false c.insert.ensures.updates)

pub returns-else-is_err : goal.returns-else-is_err
returns-else-is_err c = forget_facts c.self.inside.log.items c.pop.new.self.items c.in-Some.field-0 c.args.self.now c.self.view_is c.in-Some.ensures.items
