use Rattle.std.proofs.Common.{◌≡◌, ◌≤◌, ◌<◌, nat_lt, length}
use Rattle.fit_state.proofs.LeftLemmas.{AllPast}
use Rattle.fit_state.proofs.PassLemmas.{Reached}
use Rattle.fit_state.specs.Left.{none_below}
use Rattle.fit_state.specs.States.{Is, Grows}
use Rattle.fits.specs.Follow as f
use Rattle.fits.specs.Follow.{Views}
use Rattle.fits.specs.Places.{State, goners, none_left}
use Rattle.fit_state.proofs.until.pass_until_none_left.Given as goal

abbrev pub invariant-each : goal.invariant-each
invariant-each l = record {
  reached : (V : Views) (s : State) → Is l.regs l.initial.state s
      → Reached l.regs s l.state (f.pass_until l.regs V (λ u. none_left l.mark (goners l.gone u.hold) u.entries) s l.code) (λ u. f.pass_until l.regs V (λ u. none_left l.mark (goners l.gone u.hold) u.entries) u l.rest);
  grows : Grows l.initial.state l.state;
  within : l.left ≤ length l.state.rules.context.spots;
  none : none_below l.state.rules.context.spots l.mark l.gone (length l.state.rules.context.spots) ≡ nat_lt l.left 1;
  past : 0 < l.left → AllPast l.state.rules.context.spots l.mark l.gone l.left (length l.state.rules.context.spots);
}

abbrev pub decreases-each : goal.decreases-each
decreases-each l = length l.rest
