use Rattle.std.proofs.Common.{inl, inr, refl}
use Rattle.branch_exec.proofs.straight.side.Goals as goal

pub returns-then-word-eq0 : goal.returns-then-word-eq0
returns-then-word-eq0 c = inl (c.if-word-eq0.true, refl, c.as_slice.ensures)

pub returns-else-word-eq0 : goal.returns-else-word-eq0
returns-else-word-eq0 c = inr (c.if-word-eq0.false, refl, c.as_slice-else-word-eq0.ensures)
