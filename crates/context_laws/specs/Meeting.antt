-- The oldest slice that goes on one of two sides alone, by places.
use Rattle.std.specs.Prelude.{ℕ, nat_lt, Bool, false, ◌&&◌, ◌||◌, not, cond, List, [], ◌∷◌, length, Option, Some, None}
use Rattle.rule_check.specs.Context.{Spot, is_slice, is_among, or_else}
use Rattle.context_laws.specs.Stacks.{is_free, spot_in}

-- the lesser of two places
abbrev pub earlier : Option ℕ → Option ℕ → Option ℕ
earlier None b = b
earlier (Some a) None = Some a
earlier (Some a) (Some b) = cond (nat_lt a b) (Some a) (Some b)

-- a slice that may be used up
abbrev pub free_slice : Spot → Bool
free_slice s = is_slice s.rep && is_free s

abbrev pub free_slice_at : Option Spot → Bool
free_slice_at None = false
free_slice_at (Some s) = free_slice s

-- a place, where a slice stands there that does not go on the other side
abbrev pub one_sided : List ℕ → List Spot → ℕ → Option ℕ
one_sided others ss i = cond (not (is_among i others) && free_slice_at (spot_in ss i)) (Some i) None

-- the first of the places at which a slice goes on this side alone
abbrev pub first_one : List ℕ → List ℕ → List Spot → Option ℕ
first_one is js [] = None
first_one is js (s ∷ ss) = or_else (first_one is js ss) (cond (is_among (length ss) is && (not (is_among (length ss) js) && free_slice s)) (Some (length ss)) None)

-- on either side alone
abbrev pub first_either : List ℕ → List ℕ → List Spot → Option ℕ
first_either is js [] = None
first_either is js (s ∷ ss) =
    or_else (first_either is js ss) (cond (free_slice s && (is_among (length ss) is && not (is_among (length ss) js) || not (is_among (length ss) is) && is_among (length ss) js)) (Some (length ss)) None)

-- the variable at a place
abbrev pub var_in : Option Spot → Option ℕ
var_in None = None
var_in (Some s) = Some s.var

abbrev pub var_at : List Spot → Option ℕ → Option ℕ
var_at ss None = None
var_at ss (Some i) = var_in (spot_in ss i)
