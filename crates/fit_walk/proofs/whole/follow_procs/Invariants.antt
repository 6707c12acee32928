use Rattle.std.proofs.Common.{◌≡◌, true, drop}
use Rattle.fit_state.specs.Rests.{ViewsAre}
use Rattle.fit_walk.proofs.WholeLemmas.{SoFar}
use Rattle.fits.specs.Follow.{Views}
use Rattle.fits.specs.Places.{State}
use Rattle.nres_core.specs.FlatTree.{flat_procs_of}
use Rattle.proof_lines.specs.Lines.{lines_of}
use Rattle.sequential.specs.Sequential.{sequential_procs}
use Rattle.fit_walk.proofs.whole.follow_procs.Given as goal

abbrev pub invariant-each : goal.invariant-each
invariant-each l =
    (V : Views) (s : State) → ViewsAre l.views V → sequential_procs (flat_procs_of l.funs) ≡ true → l.past.branch ≡ s.branch
    → SoFar V l.first l.funs s (lines_of l.past.lines.now) l.index l.next l.left × (sequential_procs (flat_procs_of (drop l.index l.funs)) ≡ true)
