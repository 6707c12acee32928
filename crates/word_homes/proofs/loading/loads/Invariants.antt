use Rattle.std.proofs.Common.{◌≡◌, ◌++◌, drop}
use Rattle.prints.specs.Homes as h
use Rattle.word_homes.proofs.loading.loads.Given as goal

abbrev pub invariant-each : goal.invariant-each
invariant-each l = record {
  code : l.code ++ h.loads l.next (drop l.home-index l.homes) ≡ l.initial.code ++ h.loads l.free l.homes;
  regs : l.regs ++ h.loads_regs l.next (drop l.home-index l.homes) ≡ h.loads_regs l.free l.homes;
  free : h.loads_free l.next (drop l.home-index l.homes) ≡ h.loads_free l.free l.homes;
}
