use Rattle.std.proofs.Common.{ap, ◌∙◌}
use Rattle.target_meaning.specs.Lines.{counted}
use Rattle.target_meaning.proofs.Counted.{line_all}
use Rattle.target_meaning.proofs.lines.list_lines.Goals as goal

pub returns : goal.returns
returns c = c.lines_before.ensures ∙ ap counted (line_all c.args.list.now)
