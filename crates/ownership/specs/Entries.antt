-- Entries of the code as entries of the rule check.
use Rattle.std.specs.Prelude.{ℕ, List, [], ◌∷◌}
use Rattle.rule_check.specs.Context as d
use Rattle.rule_check.specs.Context.{Spot}
use Rattle.ownership.specs.declared.entry.Entry.{Entry}
use Rattle.ownership.specs.declared.entry.Hold.{Hold}
use Rattle.ownership.specs.declared.entry.Hold.TheVariants as h
use Rattle.ownership.specs.declared.entry.Shape.{Shape}

abbrev pub hold_of : Hold → d.Hold
hold_of h.Owned = d.Owned
hold_of h.Kept = d.Kept
hold_of h.Gone = d.Gone

abbrev pub spot_of : Entry → Spot
spot_of e = record { var = e.var; rep = e.rep; hold = hold_of e.hold; tag = e.tag }

abbrev pub spots_of : List Entry → List Spot
spots_of [] = []
spots_of (e ∷ es) = spot_of e ∷ spots_of es

-- entries in order of creation before those that stood
abbrev pub onto : List Entry → List Spot → List Spot
onto [] ss = ss
onto (e ∷ es) ss = onto es (spot_of e ∷ ss)

abbrev pub shape_of : Shape → d.Shape
shape_of z = record { rep = z.rep; tag = z.tag }

abbrev pub shapes_of : List Shape → List d.Shape
shapes_of [] = []
shapes_of (z ∷ zs) = shape_of z ∷ shapes_of zs
