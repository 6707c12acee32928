use Rattle.std.proofs.Common.{◌≡◌, ◌∙◌, length, drop, [], ap, refl, sym, arith}
use Rattle.std.proofs.lemmas.List.{drop_all, take_all}
use Rattle.context_laws.specs.Stacks.{undone}
use Rattle.context_laws.proofs.StacksLemmas.{none_undone}
use Rattle.ownership.specs.Entries.{onto}
use Rattle.ownership.proofs.ContextLemmas.{restore_step, restore_take}
use Rattle.ownership.proofs.stack.restore.Goals as goal

pub loop-trail-init : goal.loop-trail-init
loop-trail-init c = record { entries = refl; trail = refl }

pub loop-trail-preserved-in-Some : goal.loop-trail-preserved-in-Some
loop-trail-preserved-in-Some c = record {
  entries = c.loop-trail.invariant.entries ∙ restore_step c.loop-trail.trail c.pop.new.self c.in-Some.index c.args.count (onto c.loop-trail.stack []) (onto c.own.new.stack []) c.in-Some.ensures (omega arith) c.own.ensures;
  trail = c.loop-trail.invariant.trail ∙ restore_take c.loop-trail.trail c.pop.new.self c.in-Some.index c.args.count c.in-Some.ensures (omega arith);
}

pub loop-trail-preserved : goal.loop-trail-preserved
loop-trail-preserved c = absurd (let e = ap length c.in_default.ensures.0 in omega arith)

pub returns-clause-entries : goal.returns-clause-entries
returns-clause-entries c = sym (c.loop-trail.invariant.entries ∙ ap (λ z. undone z (onto c.loop-trail.stack [])) (drop_all c.args.count c.loop-trail.trail (omega arith)) ∙ none_undone (onto c.loop-trail.stack []))

pub returns-clause-trail : goal.returns-clause-trail
returns-clause-trail c = sym (c.loop-trail.invariant.trail ∙ take_all c.args.count c.loop-trail.trail (omega arith))
