use Rattle.std.proofs.Common.{◌≡◌, ◌≤◌, ◌+◌, drop}
use Rattle.nres_core.specs.Tokens as spec
use Rattle.sep_lex.proofs.walk.after.Given as goal

abbrev pub invariant-loop-b : goal.invariant-loop-b
invariant-loop-b l = record {
  value : spec.after (record { line = l.line; column = l.column }) (drop l.b-index l.bytes) ≡ spec.after l.fn.place l.bytes;
  line : l.line ≤ l.fn.place.line + l.b-index;
  column : l.column ≤ l.fn.place.column + l.b-index;
  begun : 1 ≤ l.column;
}
