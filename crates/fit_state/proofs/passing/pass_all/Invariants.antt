use Rattle.std.proofs.Common.{length}
use Rattle.fit_state.proofs.PassLemmas.{Reached}
use Rattle.fit_state.specs.States.{Is, Grows}
use Rattle.fits.specs.Follow as f
use Rattle.fits.specs.Follow.{Views}
use Rattle.fits.specs.Places.{State}
use Rattle.fit_state.proofs.passing.pass_all.Given as goal

abbrev pub invariant-each : goal.invariant-each
invariant-each l = record {
  reached : (V : Views) (s : State) → Is l.regs l.initial.state s → Reached l.regs s l.state (f.pass_all l.regs V s l.code) (λ u. f.pass_all l.regs V u l.rest);
  grows : Grows l.initial.state l.state;
}

abbrev pub decreases-each : goal.decreases-each
decreases-each l = length l.rest
