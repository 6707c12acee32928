use Rattle.std.proofs.Common.{◌≡◌, ◌-◌, drop, length}
use Rattle.nres_flat.specs.Lookups.{numbered}
use Rattle.nres_flat.proofs.known.procedures.Given as goal

abbrev pub invariant-each : goal.invariant-each
invariant-each l = l.numbers ≡ numbered (drop (length l.funs - l.made) l.funs) (length l.funs - l.made)
