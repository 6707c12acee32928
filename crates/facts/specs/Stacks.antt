-- How calculations are kept: in the order in which they were added, each with the latest place of those up to it.
use Rattle.std.specs.Prelude.{◌≡◌, false, List, [], ◌∷◌}
use Rattle.nres_core.specs.declared.place.Place.{Place}
use Rattle.nres_rules.specs.Types.{stands_before}
use Rattle.rule_check.specs.Context.{Def}
use Rattle.rule_check.specs.Facts.{defs_behind}
use Rattle.facts.specs.declared.calculations.Calculation.{Calculation}
use Rattle.facts.specs.declared.calculations.Kept.{Kept}

abbrev pub def_of : Calculation → Def
def_of x = record { place = x.place; to = x.to; word = x.word; left = x.left; right = x.right }

-- in front of others, the newest first
abbrev pub defs_of : List Kept → List Def → List Def
defs_of [] ds = ds
defs_of (k ∷ ks) ds = defs_of ks (def_of k.calculation ∷ ds)

-- what stands behind no place up to here stands before it
abbrev pub Covers : Place → List Def → Type 0
Covers q ds = (p : Place) → stands_before p q ≡ false → defs_behind p ds ≡ []

abbrev pub AllCover : List Kept → List Def → Type 0
AllCover [] ds = Unit {0}
AllCover (k ∷ ks) ds = Covers k.latest (def_of k.calculation ∷ ds) × AllCover ks (def_of k.calculation ∷ ds)
