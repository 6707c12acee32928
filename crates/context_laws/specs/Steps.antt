-- What the steps on a context change of what callers see.
use Rattle.std.specs.Prelude.{◌≡◌, ℕ, List, [], ◌∷◌, length}
use Rattle.rule_check.specs.Context.{Spot, lent, outer, all_fall}
use Rattle.context_laws.specs.Stacks.{Held, falls_at}

-- other entries; what there was at the marks stays
abbrev pub with_spots : Held → List Spot → Held
with_spots x ss = record { spots = ss; saved = x.saved }

abbrev pub with_spot : Spot → Held → Held
with_spot s x = with_spots x (s ∷ x.spots)

abbrev pub kept_all : Held → Held
kept_all x = with_spots x (lent x.spots)

-- one more mark
abbrev pub marked : Held → Held
marked x = record { spots = x.spots; saved = x.spots ∷ x.saved }

-- back at the last mark
abbrev pub back_to : Held → List (List Spot) → Held
back_to x [] = x
back_to x (ss ∷ sss) = record { spots = ss; saved = sss }

abbrev pub back_at : Held → Held
back_at x = back_to x x.saved

-- these are the places of the entries from before the last mark that went since
abbrev pub falls_back : List ℕ → Held → List (List Spot) → Type 0
falls_back is x [] = is ≡ []
falls_back is x (ss ∷ sss) = falls_at is ss ≡ all_fall ss (outer (length ss) x.spots)

abbrev pub FallsBack : List ℕ → Held → Type 0
FallsBack is x = falls_back is x x.saved
