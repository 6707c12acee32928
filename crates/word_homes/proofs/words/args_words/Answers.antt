use Rattle.std.proofs.Common.{arith}
use Rattle.word_homes.proofs.WordsLemmas.{words_end}
use Rattle.word_homes.proofs.words.args_words.Goals as goal

pub returns : goal.returns
returns c = words_end c.each.words _ c.args.homes.now c.args.entries.now c.each.index (omega arith) c.each.invariant
