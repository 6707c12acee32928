use Rattle.target_lines.proofs.Feeds.{line_inside}
use Rattle.target_lines.proofs.laws.a_line_is_one_line.Goals as goal

pub returns : goal.returns
returns c = line_inside
