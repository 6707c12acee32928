use Rattle.target_lines.specs.LineWords.{keyword_names, keyword_of}
use Rattle.target_lines.proofs.words.keyword.Goals as goal

pub returns : goal.returns
unfolding keyword_of keyword_names
returns c = c.named.ensures
