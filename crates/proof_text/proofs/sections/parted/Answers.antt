use Rattle.std.proofs.Common.{◌≡◌, List, [], ap, sym, ◌∙◌}
use Rattle.proof_text.specs.Parts.{joined}
use Rattle.proof_text.proofs.Parting.{all_lines, next_behind, found_before, found_after, last_before, last_after, no_line}
use Rattle.proof_text.proofs.sections.parted.Goals as goal

pub each-preserved : goal.each-preserved
each-preserved c = next_behind c.args.words.now c.args.text.now c.each.rest.now c.in-Some.line.now c.in-Some.after.now c.requires c.each.invariant c.in-Some.ensures.some.0 c.in-Some.ensures.some.1 (sym c.eq.ensures ∙ c.if-eq.false)

pub returns-then-eq-clause-before : goal.returns-then-eq-clause-before
returns-then-eq-clause-before c = found_before c.args.words.now c.args.text.now c.each.rest.now c.in-Some.line.now c.in-Some.after.now c.requires c.each.invariant c.in-Some.ensures.some.0 c.in-Some.ensures.some.1 (sym c.eq.ensures ∙ c.if-eq.true)

pub returns-then-eq-clause-lines : goal.returns-then-eq-clause-lines
returns-then-eq-clause-lines c = found_after c.args.words.now c.args.text.now c.each.rest.now c.in-Some.line.now c.in-Some.after.now c.requires c.each.invariant c.in-Some.ensures.some.0 c.in-Some.ensures.some.1 (sym c.eq.ensures ∙ c.if-eq.true)

pub returns-then-eq-clause-after : goal.returns-then-eq-clause-after
returns-then-eq-clause-after c = sym (all_lines c.in-Some.after.now) ∙ ap joined (returns-then-eq-clause-lines c)

pub returns-then-eq-2-clause-before : goal.returns-then-eq-2-clause-before
returns-then-eq-2-clause-before c = last_before c.args.words.now c.args.text.now c.each.rest.now c.each.invariant c.in-None.ensures.none (sym c.eq-in-None.ensures ∙ c.if-eq-2.true)

pub returns-then-eq-2-clause-lines : goal.returns-then-eq-2-clause-lines
returns-then-eq-2-clause-lines c = last_after c.args.words.now c.args.text.now c.each.rest.now c.each.invariant c.in-None.ensures.none

pub returns-then-eq-2-clause-after : goal.returns-then-eq-2-clause-after
returns-then-eq-2-clause-after c = ap joined (returns-then-eq-2-clause-lines c)

pub returns-in-None-clause-before : goal.returns-in-None-clause-before
returns-in-None-clause-before c = no_line c.args.words.now c.args.text.now c.each.rest.now c.each.invariant c.in-None.ensures.none (sym c.eq-in-None.ensures ∙ c.if-eq-2.false)

pub returns-in-None-clause-lines : goal.returns-in-None-clause-lines
returns-in-None-clause-lines c = last_after c.args.words.now c.args.text.now c.each.rest.now c.each.invariant c.in-None.ensures.none

pub returns-in-None-clause-after : goal.returns-in-None-clause-after
returns-in-None-clause-after c = ap joined (returns-in-None-clause-lines c)
