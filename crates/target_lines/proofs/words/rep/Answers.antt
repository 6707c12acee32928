use Rattle.target_lines.specs.LineWords.{rep_names, rep_of}
use Rattle.target_lines.proofs.words.rep.Goals as goal

pub returns : goal.returns
unfolding rep_of rep_names
returns c = c.named.ensures
