use Rattle.std.proofs.Common.{◌≡◌, ◌∙◌, ◌++◌, ◌∷◌, length, [], ap, refl, sym, arith}
use Rattle.context_laws.proofs.StacksLemmas.{outer_whole}
use Rattle.ownership.specs.Entries.{onto}
use Rattle.ownership.proofs.ContextLemmas.{onto_length, shorten_step, shorten_differ, shorten_agrees}
use Rattle.ownership.proofs.stack.shorten.Goals as goal

pub loop-stack-init : goal.loop-stack-init
loop-stack-init c = record { outer = refl; agrees = c.requires.agrees; differ = c.requires.differ }

pub loop-stack-preserved-in-Some : goal.loop-stack-preserved-in-Some
loop-stack-preserved-in-Some c = record {
  outer = c.loop-stack.invariant.outer ∙ shorten_step c.loop-stack.stack c.pop.new.self c.loop-stack.table c.swap_remove.new.self c.args.count c.in-Some.entry c.in-Some.ensures (omega arith);
  agrees = shorten_agrees c.loop-stack.stack c.pop.new.self c.loop-stack.table c.swap_remove.new.self c.in-Some.entry c.in-Some.ensures c.loop-stack.invariant.differ c.loop-stack.invariant.agrees c.swap_remove.ensures.updates;
  differ = shorten_differ c.loop-stack.stack c.pop.new.self c.in-Some.entry c.in-Some.ensures c.loop-stack.invariant.differ;
}

pub loop-stack-preserved : goal.loop-stack-preserved
loop-stack-preserved c = absurd (let e = ap length c.in_default.ensures.0 in omega arith)

pub returns-clause-entries : goal.returns-clause-entries
returns-clause-entries c = sym (c.loop-stack.invariant.outer ∙ outer_whole c.args.count (onto c.loop-stack.stack []) (let a = onto_length c.loop-stack.stack [] in omega arith))

pub returns-clause-agrees : goal.returns-clause-agrees
returns-clause-agrees c = c.loop-stack.invariant.agrees
