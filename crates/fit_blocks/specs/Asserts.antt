-- Asserts, part by part.
use Rattle.std.specs.Prelude.{◌≡◌, ℕ, Bool, true, false, Option, Some, None}
use Rattle.fit_state.specs.States.{Is}
use Rattle.fit_state.specs.declared.state.FitState.{FitState}
use Rattle.fits.specs.Follow.{asserted, is_plain, past_plain}
use Rattle.fits.specs.Places.{State}
use Rattle.nres_core.specs.FlatTree.{Before, Binds}
use Rattle.nres_core.specs.declared.flat.Arg.{Arg}

abbrev pub Asserted : ℕ → State → Binds → Arg → FitState → Bool → Type 0
Asserted R s inner x new true = (is_plain s.next inner ≡ true) × Is R new (asserted s inner x)
Asserted R s inner x new false = is_plain s.next inner ≡ false

-- one inner bind, before the others
abbrev pub PlainBind : ℕ → Before → Option ℕ → Type 0
PlainBind n bind None = (rest : Binds) → is_plain n (bind rest) ≡ false
PlainBind n bind (Some past) = (rest : Binds) → (is_plain n (bind rest) ≡ is_plain past rest) × (past_plain n (bind rest) ≡ past_plain past rest)
