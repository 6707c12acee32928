-- The values that a text gives to inputs.
use Rattle.std.specs.Prelude.{◌≡◌, ℕ, ◌^◌, ◌<◌, List, length, Ok}
use Rattle.nres_core.specs.Texts.{SpecText, WithText}
use Rattle.nres_core.specs.declared.tree.Spec.{Spec}
use Rattle.nres_core.specs.declared.tree.With.{With}
use Rattle.nres_core.specs.declared.value.Value.{Value}
use Rattle.target_code.specs.declared.tree.InParam.{InParam}
use Rattle.inputs.specs.Inputs.{program_inputs}
use Rattle.run_begins.specs.Beginning.{AreHeld}

abbrev pub GivenValuesAreHeld : Type 0
GivenValuesAreHeld =
    (line : ℕ) (text : List ℕ) (ws : List With) (ins : List InParam) (us : List Value) → length text < 2 ^ 32 → WithText line text ws → program_inputs ins ws ≡ Ok us → AreHeld us

-- the same, where the values stand behind a specification
abbrev pub SpecValuesAreHeld : Type 0
SpecValuesAreHeld =
    (text : List ℕ) (p : Spec) (ws : List With) (ins : List InParam) (us : List Value) → length text < 2 ^ 32 → SpecText text p ws → program_inputs ins ws ≡ Ok us → AreHeld us
