use Rattle.std.proofs.Common.{sym, ap, ◌∙◌, inl, inr}
use Rattle.target_code.specs.declared.tree.Instr.{out-Instr}
use Rattle.target_code.specs.declared.tree.Instr.TheVariants.{outs-If, outs-While}
use Rattle.target_meaning.proofs.Entered.{if_entered, while_entered}
use Rattle.target_meaning.proofs.frame.instruct.Goals as goal
use Rattle.target_meaning.proofs.frame.instruct.Goals.{then-word_in-eq0, else-word_in-eq0}

pub returns-in_ok-enter-in-If-clause-ok : goal.returns-in_ok-enter-in-If-clause-ok
returns-in_ok-enter-in-If-clause-ok c =
    let e = ap out-Instr c.in-If.is ∙ outs-If c.in-If.test c.in-If.yes c.in-If.no in
    let word = c.word_in-in-If.ensures ∙ ap (λ l. Rattle.std.specs.Prelude.slice_index l c.in-If.test) c.as_slice-regs.ensures in
    if_entered c.args.procs.now c.args.frames.now c.args.instr.now c.args.next c.requires c.in-If.test c.in-If.yes c.in-If.no c.if-word_in-eq0.inner c.enter.new.self e
    (elim c.if-word_in-eq0.branch [
      | then-word_in-eq0 w ↦ inl (sym word ∙ w.if-word_in-eq0.true, w.inner-is)
      | else-word_in-eq0 w ↦ inr ((λ z. w.if-word_in-eq0.false (word ∙ z)), w.inner-is)
    ]) c.in_ok-enter-in-If.ensures.ok

pub returns-in_ok-enter-in-While-clause-ok : goal.returns-in_ok-enter-in-While-clause-ok
returns-in_ok-enter-in-While-clause-ok c =
    while_entered c.args.procs.now c.args.frames.now c.args.instr.now c.args.next c.requires c.in-While.test c.in-While.cond c.in-While.body c.enter-in-While.new.self
    (ap out-Instr c.in-While.is ∙ outs-While c.in-While.cond c.in-While.test c.in-While.body) c.in_ok-enter-in-While.ensures.ok
