-- Which values a type has.
use Rattle.std.specs.Prelude.{List, [], ◌∷◌}
use Rattle.nres_core.specs.declared.ty.Ty.{Ty}
use Rattle.nres_core.specs.declared.ty.Ty.TheVariants as ty
use Rattle.nres_core.specs.declared.value.Value.{Value}
use Rattle.nres_core.specs.declared.value.Value.TheVariants as v

-- a value of this type, and values of these types
abbrev pub Of : Ty → Value → Type 0
Of ty.Nat (v.Nat n) = Unit {0}
Of ty.Bool (v.Bool b) = Unit {0}
Of ty.List (v.List xs) = Unit {0}
Of ty.Set (v.Set s) = Unit {0}
Of ty.Map (v.Map m) = Unit {0}
Of ty.Bag (v.Bag h) = Unit {0}
Of _ _ = ⊥

abbrev pub AllOf : List Ty → List Value → Type 0
AllOf [] [] = Unit {0}
AllOf (u ∷ us) (x ∷ xs) = Of u x × AllOf us xs
AllOf _ _ = ⊥
