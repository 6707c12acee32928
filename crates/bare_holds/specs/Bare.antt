-- Entries up to the holds of what is no container.
use Rattle.std.specs.Prelude.{Bool, true, false, cond, List, [], ◌∷◌, Result, Ok, Err}
use Rattle.nres_core.specs.declared.refusal.Refusal.{Refusal}
use Rattle.rule_check.specs.Context.{Owned, Spot, Ctx, is_container}
use Rattle.rule_check.specs.Steps.{Moved}

-- what is no container counts as Owned
abbrev pub bare_hold : Spot → Spot
bare_hold s = record s { hold = cond (is_container s.rep) s.hold Owned }

abbrev pub bare_holds : List Spot → List Spot
bare_holds [] = []
bare_holds (s ∷ ss) = bare_hold s ∷ bare_holds ss

abbrev pub bare_ctx : Ctx → Ctx
bare_ctx x = record { spots = bare_holds x.spots; facts = x.facts; defs = x.defs }

abbrev pub bare_moved : Moved → Moved
bare_moved m = record { shapes = m.shapes; spots = bare_holds m.spots }

-- what a step gives, changed; a refusal stays
abbrev pub on_passed : {A B : Type 0} → (A → B) → Result A Refusal → Result B Refusal
on_passed f (Ok x) = Ok (f x)
on_passed f (Err e) = Err e

-- a step passes
abbrev pub passes : {A : Type 0} → Result A Refusal → Bool
passes (Ok x) = true
passes (Err e) = false
