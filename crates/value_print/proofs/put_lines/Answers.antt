use Rattle.std.proofs.Common.{arith}
use Rattle.std.proofs.lemmas.Grind.{common_steps}
use Rattle.value_print.proofs.Joined.{lines_joined}
use Rattle.value_print.proofs.put_lines.Goals as goal

pub returns : goal.returns
returns c = rw (lines_joined c.args.values.now) (grind (arith, common_steps))
