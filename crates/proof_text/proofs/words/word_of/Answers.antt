use Rattle.proof_text.specs.Guesses.{word_names, word_of}
use Rattle.proof_text.proofs.words.word_of.Goals as goal

pub returns : goal.returns
unfolding word_of word_names
returns c = c.first_of.ensures
