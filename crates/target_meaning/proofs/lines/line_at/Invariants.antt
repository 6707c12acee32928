use Rattle.std.proofs.Common.{◌≡◌, drop}
use Rattle.target_meaning.specs.Lines.{counted}
use Rattle.target_meaning.specs.Place.{place_line}
use Rattle.target_meaning.proofs.lines.line_at.Given as goal

abbrev pub invariant-loop-level : goal.invariant-loop-level
invariant-loop-level l = counted (place_line 1 l.code l.outer l.index) ≡ counted (place_line l.first l.list (drop l.level-index l.outer) l.index)
