-- What is asked for and what lines give, as they are kept: by borrowed names and values.
use Rattle.std.specs.Prelude.{ℕ, List, [], ◌∷◌, ◌++◌, map, Result, Ok, Err}
use Rattle.std.specs.Borrow.{Bor}
use Rattle.nres_core.specs.declared.value.Value.{Value}
use Rattle.inputs.specs.Inputs.{Fault, Given, Wants}
use Rattle.inputs.specs.declared.refusal.InputRefusal.{InputRefusal}
use Rattle.inputs.specs.declared.wanted.Wanted.{Wanted}

abbrev pub asked : List Wanted → Wants
asked = map (λ w. (w.name.now, w.need))

abbrev pub seen : List (List ℕ × Bor Value) → Given
seen [] = []
seen (e ∷ es) = (e.0, e.1.now) ∷ seen es

abbrev pub seen_of : Result (List (List ℕ × Bor Value)) InputRefusal → Result Given InputRefusal
seen_of (Ok es) = Ok (seen es)
seen_of (Err e) = Err e

-- values in front of those that are still to come
abbrev pub onto : List Value → Result (List Value) Fault → Result (List Value) Fault
onto us (Ok vs) = Ok (us ++ vs)
onto us (Err e) = Err e
