use Rattle.std.proofs.Common.{◌≡◌, ◌++◌, drop}
use Rattle.ownership.specs.Entries.{spots_of}
use Rattle.word_homes.specs.Words.{homes_words}
use Rattle.word_homes.proofs.words.args_words.Given as goal

abbrev pub invariant-each : goal.invariant-each
invariant-each l = l.words ++ homes_words (drop l.index l.homes) (spots_of (drop l.index l.entries)) ≡ l.initial.words ++ homes_words l.homes (spots_of l.entries)
