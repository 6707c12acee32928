use Rattle.std.proofs.Common.{arith}
use Rattle.std.proofs.lemmas.Grind.{common_steps}
use Rattle.target_text.proofs.Prints.{proc_printed}
use Rattle.target_text.proofs.printing.proc.Goals as goal

pub returns : goal.returns
returns c = rw (proc_printed c.args.lends c.args.proc.now) (grind (arith, common_steps))
