use Rattle.std.proofs.Common.{◌≡◌, ◌<◌, drop}
use Rattle.nres_core.specs.Front.{value_from}
use Rattle.sep_lex.proofs.piece.value.Given as goal

abbrev pub invariant-loop-b : goal.invariant-loop-b
invariant-loop-b l = (value_from l.n (drop l.b-index l.text) ≡ value_from 0 l.text) × (l.n < 18446744073709551616)
