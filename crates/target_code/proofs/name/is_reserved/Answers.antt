use Rattle.target_code.specs.Reserved.{reserved_words}
use Rattle.target_code.proofs.name.is_reserved.Goals as goal

pub returns : goal.returns
unfolding reserved_words
returns c = c.is_one_of.ensures
