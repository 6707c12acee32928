-- The container that owns a block, by entries and what stands for them.
use Rattle.std.specs.Prelude.{ℕ, zero, suc, Bool, ◌&&◌, cond, List, ◌∷◌, Option, Some, None}
use Rattle.context_laws.specs.Stacks.{spot_in}
use Rattle.fits.specs.Follow as f
use Rattle.fits.specs.Follow.{first_word}
use Rattle.fits.specs.Places.{Token}
use Rattle.fit_tokens.specs.Standing.{Standing, standing_in}
use Rattle.rule_check.specs.Context.{Spot, is_owned, or_else}

-- an owned container with a block of which this is the first word
abbrev pub owns : Option Token → Spot → Standing → Bool
owns o s w = f.is_block s.rep && is_owned s.hold && first_word o w.words

-- the newest one of entries that stand in the same order
abbrev pub owner_in : List Spot → List Standing → Option Token → Option ℕ
owner_in (s ∷ ss) (w ∷ ws) o = cond (owns o s w) (Some s.var) (owner_in ss ws o)
owner_in _ _ o = None

-- the variable at a place, where such a container stands there
abbrev pub owned_in : Option Token → Option Spot → Option Standing → Option ℕ
owned_in o None w = None
owned_in o (Some s) None = None
owned_in o (Some s) (Some w) = cond (owns o s w) (Some s.var) None

-- the newest one below a place
abbrev pub owner_below : List Spot → List Standing → Option Token → ℕ → Option ℕ
owner_below ss ws o zero = None
owner_below ss ws o (suc n) = or_else (owned_in o (spot_in ss n) (standing_in ws n)) (owner_below ss ws o n)
