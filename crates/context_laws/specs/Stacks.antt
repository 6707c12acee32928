-- The entries of a context, the newest first, each known by its place in order of creation.
use Rattle.std.specs.Prelude.{◌≡◌, ◌≤◌, ℕ, nat_lt, nat_eq, Bool, true, ◌&&◌, cond, List, [], ◌∷◌, length, drop, take, Option, Some, None}
use Rattle.rule_check.specs.Context.{Hold, Owned, Kept, Gone, Spot, is_container, is_owned, is_among, outer}

-- what callers see of a context: its entries, and what they were at each mark, the last mark first
pub record Held : Type 0 where
  pub spots : List Spot
  pub saved : List (List Spot)

-- the place of a variable's newest entry, from 0 for the oldest entry
abbrev pub place_in : List Spot → ℕ → Option ℕ
place_in [] v = None
place_in (s ∷ ss) v = cond (nat_eq s.var v) (Some (length ss)) (place_in ss v)

-- a variable's newest entry
abbrev pub found_in : List Spot → ℕ → Option Spot
found_in [] v = None
found_in (s ∷ ss) v = cond (nat_eq s.var v) (Some s) (found_in ss v)

-- the entry at a place
abbrev pub spot_in : List Spot → ℕ → Option Spot
spot_in [] i = None
spot_in (s ∷ ss) i = cond (nat_eq (length ss) i) (Some s) (spot_in ss i)

-- no variable has two entries
abbrev pub AllDiffer : List Spot → Type 0
AllDiffer [] = Unit {0}
AllDiffer (s ∷ ss) = (place_in ss s.var ≡ None) × AllDiffer ss

-- an entry that may be used up
abbrev pub is_free : Spot → Bool
is_free s = is_owned s.hold && is_container s.rep

-- an entry that may be used up is Kept
abbrev pub lent_one : Spot → Spot
lent_one s = cond (is_free s) (record s { hold = Kept }) s

-- the same below a place alone
abbrev pub seen : ℕ → List Spot → List Spot
seen k [] = []
seen k (s ∷ ss) = cond (nat_lt (length ss) k) (lent_one s) s ∷ seen k ss

-- an entry that may be used up is
abbrev pub gone_one : Spot → Spot
gone_one s = cond (is_free s) (record s { hold = Gone }) s

-- the same at these places alone
abbrev pub falls_at : List ℕ → List Spot → List Spot
falls_at is [] = []
falls_at is (s ∷ ss) = cond (is_among (length ss) is) (gone_one s) s ∷ falls_at is ss

-- what went at these places is there again
abbrev pub undone : List ℕ → List Spot → List Spot
undone is [] = []
undone is (s ∷ ss) = cond (is_among (length ss) is) (record s { hold = Owned }) s ∷ undone is ss

-- the entry at a place is held otherwise
abbrev pub holding : ℕ → Hold → List Spot → List Spot
holding i h [] = []
holding i h (s ∷ ss) = cond (nat_eq (length ss) i) (record s { hold = h }) s ∷ holding i h ss

-- what stands at these places are containers that are Gone, none of them below a place
abbrev pub AllWent : ℕ → List ℕ → List Spot → Type 0
AllWent k is [] = Unit {0}
AllWent k is (s ∷ ss) = (is_among (length ss) is ≡ true → (is_container s.rep ≡ true) × (s.hold ≡ Gone) × (k ≤ length ss)) × AllWent k is ss

-- ---- marks

-- how many entries there were, how many had gone, and below which place all were lent
pub record Mark : Type 0 where
  pub entries : ℕ
  pub gone : ℕ
  pub kept_below : ℕ

-- the entries as they were at a mark, where these places went, the last one last
abbrev pub before : Mark → List Spot → List ℕ → List Spot
before m ss is = undone (drop m.gone is) (outer m.entries ss)

abbrev pub saved_of : List Spot → List ℕ → List Mark → List (List Spot)
saved_of ss is [] = []
saved_of ss is (m ∷ ms) = seen m.kept_below (before m ss is) ∷ saved_of (before m ss is) (take m.gone is) ms

abbrev pub held_of : List Spot → List ℕ → List Mark → ℕ → Held
held_of ss is ms k = record { spots = seen k ss; saved = saved_of ss is ms }

-- a mark fits the entries, the places that went, and the place below which all are lent
pub record Fits (k : ℕ) (ss : List Spot) (is : List ℕ) (m : Mark) : Type 0 where
  pub entries : m.entries ≤ length ss
  pub gone : m.gone ≤ length is
  pub later : m.kept_below ≤ k
  pub within : m.kept_below ≤ m.entries
  pub went : AllWent m.kept_below (drop m.gone is) (outer m.entries ss)

abbrev pub AllFit : ℕ → List Spot → List ℕ → List Mark → Type 0
AllFit k ss is [] = Unit {0}
AllFit k ss is (m ∷ ms) = Fits k ss is m × AllFit m.kept_below (before m ss is) (take m.gone is) ms
