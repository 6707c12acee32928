use Rattle.std.proofs.Common.{◌++◌, ◌∷◌, []}
use Rattle.facts.specs.declared.known.Learnt.{Learnt}
use Rattle.facts.proofs.KnownLemmas.{know_sound, know_facts, pushed}
use Rattle.facts.proofs.known.Facts.know.Goals as goal

pub invariant_of-self-2 : goal.invariant_of-self-2
invariant_of-self-2 c =
    let b : Learnt = record { fact = c.args.fact; before = c.least-before.result } in
    know_sound c.self.inside.log.items c.reserve.new.self.items c.push.new.self.items b c.self.inside.bounds c.insert.new.self c.args.self.now c.lower-bound.result c.self.invariant c.self.view_is c.reserve.ensures.items
    (pushed c.push.result c.unwrap.result c.push.new.self.items (c.reserve.new.self.items ++ b ∷ []) c.reserve.new.self.items c.unwrap.ensures c.push.ensures.items)
    c.in_ok-insert.ensures.updates c.lower-bound.ensures c.least-before.ensures

pub returns-clause-known : goal.returns-clause-known
returns-clause-known c =
    let b : Learnt = record { fact = c.args.fact; before = c.least-before.result } in
    know_facts c.self.inside.log.items c.reserve.new.self.items c.push.new.self.items b c.args.self.now c.self.view_is c.reserve.ensures.items
    (pushed c.push.result c.unwrap.result c.push.new.self.items (c.reserve.new.self.items ++ b ∷ []) c.reserve.new.self.items c.unwrap.ensures c.push.ensures.items)
