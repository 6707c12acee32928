-- Containers that are left, by place.
use Rattle.std.specs.Prelude.{◌≡◌, ◌≤◌, ◌<◌, ℕ, zero, suc, nat_lt, Bool, true, false, ◌&&◌, not, cond, List, Option, Some, None}
use Rattle.context_laws.specs.Stacks.{spot_in}
use Rattle.rule_check.specs.Context.{Spot, is_container, is_gone, is_among}

-- a container that is neither gone nor one of these
abbrev pub is_left : List ℕ → Spot → Bool
is_left gone s = is_container s.rep && (not (is_gone s.hold) && not (is_among s.var gone))

-- none of a variable from a bound on is left below a place
abbrev pub none_at : ℕ → List ℕ → Option Spot → Bool → Bool
none_at mark gone None b = true
none_at mark gone (Some s) b = cond (nat_lt s.var mark) true (not (is_left gone s) && b)

abbrev pub none_below : List Spot → ℕ → List ℕ → ℕ → Bool
none_below ss mark gone zero = true
none_below ss mark gone (suc n) = none_at mark gone (spot_in ss n) (none_below ss mark gone n)

-- what stands at a place is of a variable from the bound on, and not left
abbrev pub is_past : ℕ → List ℕ → Option Spot → Bool
is_past mark gone None = false
is_past mark gone (Some s) = not (nat_lt s.var mark) && not (is_left gone s)

-- one more than the newest place below a limit at which a container is left, and 0 where there is none
pub record IsLeftBelow (ss : List Spot) (mark : ℕ) (gone : List ℕ) (limit place : ℕ) : Type 0 where
  pub within : place ≤ limit
  pub none : none_below ss mark gone limit ≡ nat_lt place 1
  pub past : 0 < place → (n : ℕ) → place ≤ n → n < limit → is_past mark gone (spot_in ss n) ≡ true
