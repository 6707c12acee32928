-- Where tokens stand in a text.
use Rattle.std.specs.Prelude.{ℕ, ◌≤◌, List, [], ◌∷◌, length}
use Rattle.nres_core.specs.declared.place.Place.{Place}
use Rattle.nres_core.specs.declared.token.Token.{Token}

-- each token is a part of the text
abbrev pub AllWithin : List ℕ → List Token → Type 0
AllWithin text [] = Unit {0}
AllWithin text (t ∷ ts) = (t.start ≤ t.end) × (t.end ≤ length text) × AllWithin text ts

-- the beginning of a line
abbrev pub line_start : ℕ → Place
line_start line = record { line = line; column = 1 }
