use Rattle.std.proofs.Common.{arith}
use Rattle.std.proofs.lemmas.Grind.{common_steps}
use Rattle.target_text.specs.Parts.{if_text, while_text}
use Rattle.target_text.proofs.Prints.{if_printed, while_printed, plain_printed, code_printed, not_block}
use Rattle.target_text.proofs.printing.+print.Goals as goal

pub code-returns : goal.code-returns
code-returns t c = rw (code_printed c.args.lends c.args.level c.args.code.now, ← c.as_slice-item-items.ensures) (grind (arith, common_steps))

pub instr-returns-in_ok-code-in-If-2 : goal.instr-returns-in_ok-code-in-If-2
unfolding if_text
instr-returns-in_ok-code-in-If-2 t c = rw (c.in-If.is, if_printed) (grind (arith, common_steps))

pub instr-returns-in_ok-code-in-While-2 : goal.instr-returns-in_ok-code-in-While-2
unfolding while_text
instr-returns-in_ok-code-in-While-2 t c = rw (c.in-While.is, while_printed) (grind (arith, common_steps))

pub instr-returns-in_default : goal.instr-returns-in_default
instr-returns-in_default t c =
    let e = plain_printed c.args.lends c.args.level c.args.instr.now (not_block c.args.instr.now c.in_default.not-If c.in_default.not-While) in
    rw e c.plain.ensures
