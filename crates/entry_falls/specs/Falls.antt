-- Entries from before that are as they were, or went.
use Rattle.std.specs.Prelude.{◌≡◌, ℕ, ◌⊎◌, Bool, true, List, [], ◌∷◌, ◌++◌}
use Rattle.context_laws.specs.Stacks.{falls_at, is_free}
use Rattle.rule_check.specs.Context.{Gone, Spot, Shape, all_fall, all_go, binding, put_back}

-- an entry is as it was, or it was an Owned container and is Gone
abbrev pub Fell : Spot → Spot → Type 0
Fell s t = (t ≡ s) ⊎ ((is_free s ≡ true) × (t ≡ record s { hold = Gone }))

abbrev pub AllFell : List Spot → List Spot → Type 0
AllFell [] [] = Unit {0}
AllFell [] (t ∷ ts) = ⊥
AllFell (s ∷ ss) [] = ⊥
AllFell (s ∷ ss) (t ∷ ts) = Fell s t × AllFell ss ts

-- so are all entries from before, below those that were made since
pub record FallsFrom (ss ts : List Spot) : Type 0 where
  pub made : List Spot
  pub rest : List Spot
  pub parts : ts ≡ made ++ rest
  pub fell : AllFell ss rest

pub record StepsFall : Type 0 where
  pub none : (ss : List Spot) → FallsFrom ss ss
  pub goes : (vs : List ℕ) (ss : List Spot) → FallsFrom ss (all_go vs ss)
  pub at : (is : List ℕ) (ss : List Spot) → FallsFrom ss (falls_at is ss)
  pub back : (vs : List ℕ) (ss ts : List Spot) → FallsFrom ss (put_back vs ss ts)
  pub bound : (vs : List ℕ) (zs : List Shape) (ss : List Spot) → FallsFrom ss (binding vs zs ss)
  pub then : (xs ys zs : List Spot) → FallsFrom xs ys → FallsFrom ys zs → FallsFrom xs zs
