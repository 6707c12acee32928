use Rattle.std.proofs.Common.{◌≡◌, true, drop}
use Rattle.fit_blocks.specs.Answers.{At, IsOpen}
use Rattle.fit_state.specs.Rests.{ViewsAre}
use Rattle.fit_state.specs.States.{Grows}
use Rattle.fit_walk.specs.Walks.{Reached}
use Rattle.fits.specs.Follow.{Views}
use Rattle.fits.specs.Places.{State}
use Rattle.nres_core.specs.FlatTree.{binds_of}
use Rattle.proof_lines.specs.Lines.{lines_of}
use Rattle.sequential.specs.Sequential.{sequential}
use Rattle.fit_walk.proofs.walk.+walk.Given as goal

abbrev pub invariant-walk_binds-each : goal.invariant-walk_binds-each
invariant-walk_binds-each l =
    (V : Views) (s : State) → ViewsAre l.frame.views V → sequential (binds_of l.binds) ≡ true → At l.frame.regs l.initial.state s → IsOpen l.initial.state
    → Reached l.frame.regs V (binds_of l.binds) (binds_of (drop l.bind-index l.binds)) s l.initial.left.code.now (lines_of l.initial.left.lines.now) l.state l.left × (sequential (binds_of (drop l.bind-index l.binds)) ≡ true) × Grows l.initial.state l.state
