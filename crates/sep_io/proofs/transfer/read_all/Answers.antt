use Rattle.std.proofs.Common.{arith, ◌+◌, length, length-take, take, refl, sym}
use Rattle.sep_io.proofs.Runs.{gave_more}
use Rattle.sep_io.proofs.transfer.read_all.Goals as goal

pub returns-then-got-room-clause-gave : goal.returns-then-got-room-clause-gave
returns-then-got-room-clause-gave g c = (
  length c.loop-got.bytes.items + c.in-Ok.got,
  (
    gave_more _ _ _ _ (take c.in-Ok.got c.read.new.buf) c.in-Ok.got c.loop-got.invariant.1 c.in-Ok.ensures.bytes.0 (sym c.in-Ok.ensures.bound.1),
    (
      ((λ _. omega arith), (λ _. refl)),
      omega (arith, c.in-Ok.ensures.bound.0, length-take (c.min.result + 1) c.loop-got.chunk),
    ),
  ),
)

pub returns-then-is_err-clause-gave : goal.returns-then-is_err-clause-gave
returns-then-is_err-clause-gave g c = (
  length c.loop-got.bytes.items + c.in-Ok.got,
  (
    gave_more _ _ _ _ (take c.in-Ok.got c.read.new.buf) c.in-Ok.got c.loop-got.invariant.1 c.in-Ok.ensures.bytes.0 (sym c.in-Ok.ensures.bound.1),
    (
      ((λ e. cc), (λ h. absurd (omega arith))),
      omega (arith, c.in-Ok.ensures.bound.0, length-take (c.min.result + 1) c.loop-got.chunk),
    ),
  ),
)
