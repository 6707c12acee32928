-- What an operation or a calculation gives on its first choice, or that it fails.
use Rattle.std.specs.Prelude.{◌≡◌, Option, Some, None}
use Rattle.nres_core.specs.Runs.{Runs, Gave, Fell, first_path}

-- values, or none where it fails
abbrev pub GivesFirst : {A : Type 0} → Option A → Runs A → Type 0
GivesFirst (Some x) r = first_path r ≡ Gave x
GivesFirst None r = first_path r ≡ Fell 0
