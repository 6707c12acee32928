use Rattle.std.proofs.Common.{length, ◌-◌, ◌+◌, ◌≡◌, ◌≤◌, drop}
use Rattle.std.specs.Char.{is_ascii_digit as digit_byte}
use Rattle.std.specs.List.{prefix_len}
use Rattle.sep_lex.proofs.piece.digits_len.Given as goal

abbrev pub invariant-loop-end : goal.invariant-loop-end
invariant-loop-end l = (l.end + prefix_len digit_byte (drop l.end l.text) ≡ prefix_len digit_byte l.text) × (l.end ≤ length l.text)

abbrev pub decreases-loop-end : goal.decreases-loop-end
decreases-loop-end l = length l.text - l.end
