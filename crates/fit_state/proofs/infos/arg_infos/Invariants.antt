use Rattle.std.proofs.Common.{◌≡◌, ℕ, take}
use Rattle.std.specs.Prelude.{Some}
use Rattle.fit_state.specs.Infos.{infos_of}
use Rattle.fit_state.specs.States.{Is}
use Rattle.fits.specs.Places as f
use Rattle.fits.specs.Places.{State}
use Rattle.fit_state.proofs.infos.arg_infos.Given as goal

abbrev pub invariant-each : goal.invariant-each
invariant-each l = (R : ℕ) (s : State) → Is R l.state s → f.arg_infos s.entries (take l.arg-index l.args) ≡ Some (infos_of l.infos)
