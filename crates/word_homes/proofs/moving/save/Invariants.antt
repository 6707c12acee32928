use Rattle.std.proofs.Common.{◌≡◌, ◌++◌, drop}
use Rattle.prints.specs.Homes as h
use Rattle.word_homes.proofs.moving.save.Given as goal

abbrev pub invariant-each : goal.invariant-each
invariant-each l = record {
  code : l.code ++ h.saves l.low l.to l.next (drop l.word-index l.words) ≡ l.initial.code ++ h.saves l.low l.low l.free l.words;
  saved : l.saved ++ h.saved l.low l.to l.next (drop l.word-index l.words) ≡ l.initial.saved ++ h.saved l.low l.low l.free l.words;
  free : h.saves_free l.low l.to l.next (drop l.word-index l.words) ≡ h.saves_free l.low l.low l.free l.words;
}
