-- Parts of pieces: what hands and lends name, and ranges.
use Rattle.std.specs.Prelude.{◌≡◌, ℕ, suc, ◌≤◌, Bool, true, false, ◌&&◌, List, [], ◌∷◌, nat_lt, ◌==◌, if◌then◌else◌}
use Rattle.target_meaning.specs.Leaf.{Part, Child}
use Rattle.target_meaning.specs.Piece.{Share, Nil, Some_of, Clash, Piece, none, plus, half, rest}
use Rattle.target_meaning.specs.Held.{Take, left_takes, right_takes, in_part, CanHalve, Places}

-- a piece lies in a part
abbrev pub Inside : Part → Piece → Type 0
Inside t a = (b j : ℕ) → in_part t b j ≡ false → a b j ≡ Nil

-- a piece has nothing of a part
abbrev pub Outside : Part → Piece → Type 0
Outside t r = (b j : ℕ) → in_part t b j ≡ true → r b j ≡ Nil

-- half of each share of a piece
abbrev pub half_of : Piece → Piece
half_of p b j = half (p b j)

-- what half of each share leaves
abbrev pub rest_of : Piece → Piece
rest_of p b j = rest (p b j)

-- what is given of one place that is named: all, or half
abbrev pub gift_share : Bool → Share → Share
gift_share true x = x
gift_share false x = half x

-- what is left of it
abbrev pub left_share : Bool → Share → Share
left_share true x = Nil
left_share false x = rest x

-- what is given of a piece that is named
abbrev pub gift : Bool → Piece → Piece
gift all p b j = gift_share all (p b j)

-- what is left of it
abbrev pub left_of : Bool → Piece → Piece
left_of all p b j = left_share all (p b j)

-- the takings of a list of takings with the pieces that they name
abbrev pub takes_of : List (Take × Piece) → List Take
takes_of [] = []
takes_of (x ∷ xs) = x.0 ∷ takes_of xs

-- the pieces that are named
abbrev pub pieces_of : List (Take × Piece) → Piece
pieces_of [] = none
pieces_of (x ∷ xs) = plus x.1 (pieces_of xs)

-- all that they give
abbrev pub gifts_of : List (Take × Piece) → Piece
gifts_of [] = none
gifts_of (x ∷ xs) = plus (gift x.0.all x.1) (gifts_of xs)

-- all that they leave of the pieces that are named
abbrev pub lefts_of : List (Take × Piece) → Piece
lefts_of [] = none
lefts_of (x ∷ xs) = plus (left_of x.0.all x.1) (lefts_of xs)

-- each taking names its piece: the piece lies in its part, and all else that is held then, r among it, has nothing of the part
abbrev pub AreNamed : List (Take × Piece) → Piece → Type 0
AreNamed [] r = Unit {0}
AreNamed (x ∷ xs) r = Inside x.0.part x.1 × Outside x.0.part (plus (pieces_of xs) r) × AreNamed xs (plus (left_of x.0.all x.1) r)

-- each named piece has all places of its part, with a share that can be given
abbrev pub CanGive : List (Take × Piece) → Type 0
CanGive [] = Unit {0}
CanGive (x ∷ xs) = Places x.0.part x.1 (λ j. CanHalve x.0.all (x.1 x.0.part.block j)) × CanGive xs

-- a fork's takings name pieces: the left ones of all that is held, beside r, and the right ones of what these leave, beside u
pub record IsShared (xs ys : List (Take × Piece)) (r u : Piece) (l k : Child) : Type 0 where
  pub left : left_takes l ≡ takes_of xs
  pub right : right_takes l k ≡ takes_of ys
  pub left_named : AreNamed xs r
  pub between : plus (lefts_of xs) r ≡ plus (pieces_of ys) u
  pub right_named : AreNamed ys u

-- the places of block b before place m
abbrev pub front : ℕ → ℕ → Piece → Piece
front b m p c j = if (c == b) && nat_lt j m then p c j else Nil

-- all places but those
abbrev pub back : ℕ → ℕ → Piece → Piece
back b m p c j = if (c == b) && nat_lt j m then Nil else p c j

-- a share of at least m, or none
abbrev pub AtLeast : ℕ → Share → Type 0
AtLeast m Nil = Unit {0}
AtLeast m (Some_of v k) = m ≤ suc k
AtLeast m Clash = Unit {0}
