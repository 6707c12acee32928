use Rattle.std.proofs.Common.{List, sym, subst, ◌∙◌}
use Rattle.proof_text.specs.declared.line.ProofLine.{ProofLine}
use Rattle.proof_text.specs.Readings.{lines_of, AreOfKinds}
use Rattle.proof_text.proofs.Lines.{IsSoFar, one_more, all_done, last_one}
use Rattle.proof_text.proofs.reading.read_proof.Goals as goal
use Rattle.proof_text.proofs.reading.read_proof.Goals.{then-not-is_empty+in_ok-push, else-not-is_empty}

pub each-preserved : goal.each-preserved
each-preserved c =
    subst (λ (ls : List ProofLine). IsSoFar c.args.bytes.now ls c.in-Some.after.now) (sym c.in_ok-push-in-Some.ensures.ok)
    (one_more c.args.bytes.now c.each.lines c.each.rest.now c.in-Some.text.now c.in-Some.after.now c.in_ok-line-in-Some.field-0 c.in-Some.ensures.some.0 c.in-Some.ensures.some.1 c.in_ok-line-in-Some.ensures c.each.invariant)

pub returns : goal.returns
returns c =
    elim c.if-not-is_empty.branch [
      | then-not-is_empty+in_ok-push w ↦ subst (λ (ls : List ProofLine). AreOfKinds (lines_of c.args.bytes.now) ls) (sym (w.lines-is ∙ w.in_ok-push.ensures.ok)) (last_one c.args.bytes.now c.each.lines c.each.rest.now (sym c.is_empty.ensures ∙ w.if-not-is_empty.true) c.in-None.ensures.none c.each.invariant)
      | else-not-is_empty w ↦ subst (λ (ls : List ProofLine). AreOfKinds (lines_of c.args.bytes.now) ls) (sym w.lines-is) (all_done c.args.bytes.now c.each.lines c.each.rest.now (sym c.is_empty.ensures ∙ w.if-not-is_empty.false) c.each.invariant)
    ]
