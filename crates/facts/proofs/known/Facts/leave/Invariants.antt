use Rattle.std.proofs.Common.{◌≡◌, ◌-◌, drop, length}
use Rattle.facts.proofs.known.Facts.leave.Given as goal

abbrev pub invariant-loop-self : goal.invariant-loop-self
invariant-loop-self l = drop (length l.initial.self - l.mark) l.initial.self ≡ drop (length l.self - l.mark) l.self

abbrev pub decreases-loop-self : goal.decreases-loop-self
decreases-loop-self l = length l.self
