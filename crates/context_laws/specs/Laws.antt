-- What the marks of a context are for.
use Rattle.std.specs.Prelude.{◌≡◌, ℕ, List, length, drop}
use Rattle.rule_check.specs.Context.{Spot, lent, outer, all_fall}
use Rattle.context_laws.specs.Stacks.{Mark, before, seen, falls_at, Fits}

-- a mark at the top lends all entries
abbrev pub LendsAll : Type 0
LendsAll = (k : ℕ) (ss : List Spot) → seen (length ss) ss ≡ lent (seen k ss)

-- that the places of the trail go is that the entries from before the mark go which went since
abbrev pub TrailGoes : Type 0
TrailGoes = (k : ℕ) (ss : List Spot) (is : List ℕ) (m : Mark) → Fits k ss is m
    → let old = seen m.kept_below (before m ss is) in
    falls_at (drop m.gone is) old ≡ all_fall old (outer (length old) (seen k ss))
