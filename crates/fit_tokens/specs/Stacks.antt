-- How what stands for entries is kept: in order of creation, each with the newest place below of the same variable, beside a table of the
-- newest places by variable.
use Rattle.std.specs.Prelude.{◌≡◌, ℕ, nat_eq, List, [], ◌∷◌, Option, Some, None}
use Rattle.indexmap.specs.IndexMap.{IndexMap, get}
use Rattle.fit_tokens.specs.Standing.{Standing, standing_of, first_variable, newest_of, newest_as}
use Rattle.fit_tokens.specs.declared.words.Placed.{Placed}

-- in order of creation before those that stood
abbrev pub onto : List Placed → List Standing → List Standing
onto [] ss = ss
onto (p ∷ ps) ss = onto ps (standing_of p.words ∷ ss)

abbrev pub IsChained : List Placed → List Standing → Type 0
IsChained [] ss = Unit {0}
IsChained (p ∷ ps) ss = (p.below ≡ newest_as ss (first_variable (standing_of p.words).words)) × IsChained ps (standing_of p.words ∷ ss)

abbrev pub at_last : Option (Option ℕ) → Option ℕ
at_last None = None
at_last (Some x) = x

pub record IsStack {S : Type 0} (ps : List Placed) (table : IndexMap ℕ (Option ℕ) S) : Type 0 where
  pub places : (v : ℕ) → at_last (get nat_eq table v) ≡ newest_of (onto ps []) v
  pub chain : IsChained ps []
