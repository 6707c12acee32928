use Rattle.std.proofs.Common.{◌≤◌, ◌-◌, ◌+◌, ◌++◌, List, drop, length}
use Rattle.nres_core.specs.declared.place.Place.{Place}
use Rattle.nres_core.specs.declared.token.Token.{Token}
use Rattle.nres_core.specs.Tokens.{Lexes, StopsAt}
use Rattle.sep_lex.specs.Spans.{AllWithin, line_start}
use Rattle.sep_lex.proofs.walk.tokens_from.Given as goal

abbrev pub invariant-each : goal.invariant-each
invariant-each l = record {
  lexes : (ts : List Token) → Lexes l.at l.place (drop l.at l.input) ts → Lexes 0 (line_start l.fn.line) l.input (l.all.items ++ ts);
  stops : (q : Place) → StopsAt l.place (drop l.at l.input) q → StopsAt (line_start l.fn.line) l.input q;
  line : l.place.line ≤ l.fn.line + l.at;
  column : l.place.column ≤ 1 + l.at;
  begun : 1 ≤ l.place.column;
  within : l.at ≤ length l.input;
  spans : AllWithin l.input l.all.items;
}

abbrev pub decreases-each : goal.decreases-each
decreases-each l = length l.input - l.at
