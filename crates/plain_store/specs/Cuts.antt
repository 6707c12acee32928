-- What a fork takes of one cell.
use Rattle.std.specs.Prelude.{◌≡◌, ℕ, ◌+◌, ◌-◌, ◌/◌, ◌<◌, ◌≤◌, ◌||◌, ◌⊎◌, Bool, true, false, List, [], ◌∷◌, map, if◌then◌else◌, slice_get}
use Rattle.std.specs.Prelude.{Some}
use Rattle.target_meaning.specs.Held.{Take, in_part, is_among}
use Rattle.target_meaning.specs.Turns.{part_of}
use Rattle.target_meaning.specs.declared.frame.Part.{Part}
use Rattle.target_meaning.specs.declared.frame.Starting.{Starting}
use Rattle.branch_exec.specs.Stores.{takes_of_left, takes_of_right}
use Rattle.plain_store.specs.Cells.{amount_from}
use Rattle.plain_store.specs.Levels.{is_lent}
use Rattle.plain_store.specs.declared.cells.Cell.{Cell}
use Rattle.plain_store.specs.declared.forks.Lent.{Lent}

-- what one taking leaves of an amount
abbrev pub left_of : Bool → Bool → ℕ → ℕ
left_of false all n = n
left_of true true n = 0
left_of true false n = n - n / 2

-- what some takings leave of so much of a place
abbrev pub left_by : List Take → ℕ → ℕ → ℕ → ℕ
left_by [] b j n = n
left_by (t ∷ ts) b j n = left_by ts b j (left_of (in_part t.part b j) t.all n)

-- so much is left of a cell by the left branch, and by both
abbrev pub after_left : Starting → ℕ → Cell → ℕ → ℕ
after_left l i c n = left_by (takes_of_left l) c.home (i - c.home) n

abbrev pub after_both : Starting → Starting → ℕ → Cell → ℕ → ℕ
after_both l r i c n = left_by (takes_of_right l r) c.home (i - c.home) (after_left l i c n)

-- one of the cells of a fork's parts is cut
abbrev pub CutOf : List Cell → ℕ → Starting → Starting → Lent → Type 0
CutOf cells border l r e = (c : Cell) × (slice_get cells e.at ≡ Some c) × (border ≤ c.stamp) × (e.kept ≡ after_both l r e.at c c.amount) × (e.kept + e.other ≡ after_left l e.at c c.amount)

-- so are all of a list, in which a cell may stand more than once
abbrev pub AllCut : List Cell → ℕ → Starting → Starting → List Lent → Type 0
AllCut cells border l r [] = Unit {0}
AllCut cells border l r (e ∷ es) = CutOf cells border l r e × AllCut cells border l r es

-- takings of parts: all of each, or all of those that stand among others and half of the rest
abbrev pub takes_where : Bool → List Part → List Part → List Take
takes_where all lent ps = map (λ p. record { part = part_of p; all = all || is_among (part_of p) (map part_of lent) }) ps

-- whether a place lies in one of some parts
abbrev pub is_in_some : List Part → ℕ → ℕ → Bool
is_in_some [] b j = false
is_in_some (p ∷ ps) b j = if in_part (part_of p) b j then true else is_in_some ps b j

-- whether a cell lies in a part
abbrev pub IsInPart : Part → ℕ → Cell → Type 0
IsInPart p i c = in_part (part_of p) c.home (i - c.home) ≡ true

-- a list has the cells of which something is held from a border on and of which this is so
abbrev pub Covers : List Cell → ℕ → List Lent → (ℕ → Cell → Type 0) → Type 0
Covers cells border lent P = (i : ℕ) (c : Cell) → slice_get cells i ≡ Some c → c.home ≤ i → 0 < amount_from border (Some c) → P i c → is_lent lent i ≡ true

-- A fork's list grows by the cells of which this is so.
pub record Lists (cells : List Cell) (border : ℕ) (l r : Starting) (old new : List Lent) (P : ℕ → Cell → Type 0) : Type 0 where
  pub cut : AllCut cells border l r old → AllCut cells border l r new
  pub more : (i : ℕ) → is_lent old i ≡ true → is_lent new i ≡ true
  pub all : Covers cells border new P

-- a cell lies in a hand or a lend with which a branch starts
abbrev pub IsInStart : Starting → ℕ → Cell → Type 0
IsInStart b i c = (is_in_some b.hands.items c.home (i - c.home) ≡ true) ⊎ (is_in_some b.lends.items c.home (i - c.home) ≡ true)

-- A fork's list: the cells of its parts, with what is kept of each, and what the right branch gets.
pub record IsListed (cells : List Cell) (border : ℕ) (l r : Starting) (lent : List Lent) : Type 0 where
  pub cut : AllCut cells border l r lent
  pub left : Covers cells border lent (IsInStart l)
  pub right : Covers cells border lent (IsInStart r)
