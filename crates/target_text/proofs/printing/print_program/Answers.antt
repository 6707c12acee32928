use Rattle.std.proofs.Common.{arith}
use Rattle.std.proofs.lemmas.Grind.{common_steps}
use Rattle.target_text.proofs.Prints.{program_printed}
use Rattle.target_text.proofs.printing.print_program.Goals as goal

pub returns : goal.returns
returns c = rw (program_printed c.args.program.now) (grind (arith, common_steps))
