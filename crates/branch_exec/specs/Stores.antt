-- What a store is seen as, and what its calls answer.
use Rattle.std.specs.Prelude.{◌≡◌, ℕ, zero, suc, ◌+◌, ◌-◌, ◌*◌, ◌<◌, ◌≤◌, Bool, true, false, ◌&&◌, List, [], ◌∷◌, ◌++◌, map, nat_le, ◌==◌, if◌then◌else◌}
use Rattle.target_meaning.specs.Piece.{Share, Nil, Some_of, Clash, Piece, whole, plus}
use Rattle.std.specs.Prelude.{◌⊎◌}
use Rattle.std.specs.Prelude.{Option, Some, None}
use Rattle.target_meaning.specs.Held.{stored, with_new, without, Take, all_given, all_kept, is_among, CanHalve, CanTake, Places, IsApart, AreApart}
use Rattle.target_meaning.specs.Leaf.{Part}
use Rattle.atomic_table.specs.Seated.{TableId}
use Rattle.target_meaning.specs.Turns.{part_of}
use Rattle.target_meaning.specs.declared.frame.Starting.{Starting}
use Rattle.branch_exec.specs.declared.store.Got.{Got}
use Rattle.branch_exec.specs.declared.store.Got.TheVariants as got
use Rattle.branch_exec.specs.declared.store.Freed.{Freed}
use Rattle.branch_exec.specs.declared.store.Freed.TheVariants as freed
use Rattle.branch_exec.specs.declared.store.Seen.{Seen}
use Rattle.branch_exec.specs.declared.store.Seen.TheVariants as seen
use Rattle.branch_exec.specs.declared.store.Written.{Written}
use Rattle.branch_exec.specs.declared.store.Written.TheVariants as written

-- a fork under way: what is kept of the piece that was on top, and what the right branch is to have, until it runs
pub record Level : Type 0 where
  pub kept : Piece
  pub right : Option Piece

-- the forks under way, the innermost first; the piece on top; the blocks drawn with their lengths; the number walked
pub record Kept : Type 0 where
  pub below : List Level
  pub top : Piece
  pub drawn : List (ℕ × ℕ)
  pub walked : ℕ
  pub cap : ℕ
  -- which directory it stands over, and how often it can be cut
  pub place : TableId
  pub weight : ℕ

abbrev pub with_top : Kept → Piece → Kept
with_top s p = record { below = s.below; top = p; drawn = s.drawn; walked = s.walked; cap = s.cap; place = s.place; weight = s.weight }

-- an index past a name that is held
abbrev pub is_outside : Share → ℕ → Bool
is_outside Nil i = false
is_outside (Some_of n k) i = nat_le n i
is_outside Clash i = false

abbrev pub is_whole : Share → Bool
is_whole Nil = false
is_whole (Some_of v k) = suc k == whole
is_whole Clash = false

-- the words below n are held whole
abbrev pub words_whole : (ℕ → Share) → ℕ → Bool
words_whole at zero = true
words_whole at (suc n) = is_whole (at (suc n)) && words_whole at n

abbrev pub block_whole : Share → (ℕ → Share) → Bool
block_whole Nil at = false
block_whole (Some_of n k) at = (suc k == whole) && words_whole at n
block_whole Clash at = false

abbrev pub word_seen : Share → Seen
word_seen Nil = seen.Unowned
word_seen (Some_of v k) = seen.Word v
word_seen Clash = seen.Unowned

abbrev pub sees : Piece → ℕ → ℕ → Seen
sees p b i = if is_outside (p b 0) i then seen.Outside else word_seen (p b (suc i))

abbrev pub writes : Piece → ℕ → ℕ → Written
writes p b i = if is_outside (p b 0) i then written.Outside else (if is_whole (p b (suc i)) then written.Done else written.Unowned)

abbrev pub frees : Piece → ℕ → Freed
frees p b = if block_whole (p b 0) (p b) then freed.Done else freed.Unowned

-- the piece after an answer
abbrev pub after_write : Written → Piece → ℕ → ℕ → ℕ → Piece
after_write written.Done p b i v = stored p b i v
after_write written.Outside p b i v = p
after_write written.Unowned p b i v = p

abbrev pub after_free : Freed → Piece → ℕ → Piece
after_free freed.Done p b = without p b
after_free freed.Unowned p b = p

-- a claim; it alone moves the number walked, which never falls
pub record IsWon (s t : Kept) (x n : ℕ) : Type 0 where
  pub new : s.walked < x
  pub fits : x + n ≤ s.cap
  pub reached : t.walked ≡ x + n
  pub same : t.below ≡ s.below
  pub top : t.top ≡ with_new s.top x n
  pub drawn : t.drawn ≡ s.drawn ++ (x, n) ∷ []
  pub cap : t.cap ≡ s.cap
  pub place : t.place ≡ s.place
  pub weight : t.weight ≡ s.weight

pub record IsRefused (s t : Kept) : Type 0 where
  pub walked : s.walked ≤ t.walked
  pub below : t.below ≡ s.below
  pub top : t.top ≡ s.top
  pub drawn : t.drawn ≡ s.drawn
  pub cap : t.cap ≡ s.cap
  pub place : t.place ≡ s.place
  pub weight : t.weight ≡ s.weight

abbrev pub Claims : Got → Kept → Kept → ℕ → Type 0
Claims (got.Won x) s t n = IsWon s t x n
Claims (got.Full at) s t n = IsRefused s t × (t.walked ≡ at) × (s.cap < at + 1 + n)
Claims got.Memory s t n = IsRefused s t

-- what the left branch of a fork takes, by the parts with which both start
abbrev pub takes_of_left : Starting → List Take
takes_of_left l = map (λ p. record { part = p; all = true }) (map part_of l.hands.items) ++ map (λ p. record { part = p; all = false }) (map part_of l.lends.items)

-- what the right one takes
abbrev pub takes_of_right : Starting → Starting → List Take
takes_of_right l r = map (λ p. record { part = p; all = true }) (map part_of r.hands.items) ++ map (λ p. record { part = p; all = is_among p (map part_of l.lends.items) }) (map part_of r.lends.items)

-- the parts can be given
pub record CanGive (p : Piece) (l r : Starting) : Type 0 where
  pub left : CanTake (takes_of_left l) p
  pub right : CanTake (takes_of_right l r) (all_kept (takes_of_left l) p)
  pub left_apart : AreApart (map part_of l.hands.items ++ map part_of l.lends.items)
  pub right_apart : AreApart (map part_of r.hands.items ++ map part_of r.lends.items)

-- what the right branch of a fork gets, and what is kept, by what is on top before
abbrev pub right_given : Starting → Starting → Piece → Piece
right_given l r p = all_given (takes_of_right l r) (all_kept (takes_of_left l) p)

abbrev pub both_kept : Starting → Starting → Piece → Piece
both_kept l r p = all_kept (takes_of_right l r) (all_kept (takes_of_left l) p)

-- a new store that holds just this, beside the one from which it comes
pub record GivenTo (t s : Kept) (p : Piece) : Type 0 where
  pub below : t.below ≡ []
  pub top : t.top ≡ p
  pub drawn : t.drawn ≡ []
  pub walked : t.walked ≡ s.walked
  pub cap : t.cap ≡ s.cap
  pub place : t.place ≡ s.place
  pub weight : s.weight ≤ 4 * t.weight + 3

-- what both branches of a fork get from a store s, and what is left of it
pub record HandsOut (s t a b : Kept) (l r : Starting) : Type 0 where
  pub left : GivenTo a s (all_given (takes_of_left l) s.top)
  pub right : GivenTo b s (right_given l r s.top)
  pub below : t.below ≡ s.below
  pub top : t.top ≡ both_kept l r s.top
  pub drawn : t.drawn ≡ s.drawn
  pub walked : t.walked ≡ s.walked
  pub cap : t.cap ≡ s.cap
  pub place : t.place ≡ s.place
  pub weight : t.weight + a.weight + b.weight ≡ s.weight

-- a store s took another one back, and is t then, but for what the top holds
pub record TakesBack (s t a : Kept) : Type 0 where
  pub below : t.below ≡ s.below
  pub drawn : t.drawn ≡ s.drawn ++ a.drawn
  pub walked : s.walked ≤ t.walked
  pub reached : a.walked ≤ t.walked
  pub cap : t.cap ≡ s.cap
  pub place : t.place ≡ s.place
  pub weight : t.weight ≡ s.weight + a.weight

-- the left branch's piece is on top, and what is kept and the right branch's wait below it
pub record Narrows (s t : Kept) (l r : Starting) : Type 0 where
  pub below : t.below ≡ record { kept = both_kept l r s.top; right = Some (right_given l r s.top) } ∷ s.below
  pub top : t.top ≡ all_given (takes_of_left l) s.top
  pub drawn : t.drawn ≡ s.drawn
  pub walked : t.walked ≡ s.walked
  pub cap : t.cap ≡ s.cap
  pub place : t.place ≡ s.place
  pub weight : t.weight ≡ s.weight

-- this piece comes to the top, with these below
pub record Brings (s t : Kept) (p : Piece) (ls : List Level) : Type 0 where
  pub below : t.below ≡ ls
  pub top : t.top ≡ p
  pub drawn : t.drawn ≡ s.drawn
  pub walked : t.walked ≡ s.walked
  pub cap : t.cap ≡ s.cap
  pub place : t.place ≡ s.place
  pub weight : t.weight ≡ s.weight

-- a fork is under way
abbrev pub HasLevel : List Level → Type 0
HasLevel [] = ⊥
HasLevel (l ∷ ls) = Unit {0}

-- the right branch of the innermost fork has not begun
abbrev pub IsSome : Option Piece → Type 0
IsSome None = ⊥
IsSome (Some p) = Unit {0}

abbrev pub HasRight : List Level → Type 0
HasRight [] = ⊥
HasRight (l ∷ ls) = IsSome l.right

-- what is on top, and the right branch's piece where it has not begun
abbrev pub with_right : Option Piece → Piece → Piece
with_right None p = p
with_right (Some q) p = plus p q

-- the offset that tells of a part: its span's, or 0
abbrev pub offset_of : Option (ℕ × ℕ) → ℕ
offset_of None = 0
offset_of (Some s) = s.0

-- a part can be taken, after these earlier ones of its branch: it meets none of them, and each of its places is held so that it can be given
abbrev pub IsTakable : List Part → Take → Piece → Type 0
IsTakable seen t p = Places t.part p (λ j. CanHalve t.all (p t.part.block j)) × IsApart t.part seen

-- so can each of these
abbrev pub AllTakable : List Part → List Take → Piece → Type 0
AllTakable seen [] p = Unit {0}
AllTakable seen (t ∷ ts) p = IsTakable seen t p × AllTakable (seen ++ t.part ∷ []) ts p

-- the first of these that cannot be taken has this block and offset
abbrev pub FirstRefused : List Part → List Take → Piece → ℕ → ℕ → Type 0
FirstRefused seen [] p b o = ⊥
FirstRefused seen (t ∷ ts) p b o =
    ((IsTakable seen t p → ⊥) × (b ≡ t.part.block) × (o ≡ offset_of t.part.span))
    ⊎ (IsTakable seen t p × FirstRefused (seen ++ t.part ∷ []) ts p b o)

-- the first of what both branches take, the left one before the right one, that cannot be given; the right one takes of what the left one leaves
abbrev pub IsRefusedAt : List Take → List Take → Piece → ℕ → ℕ → Type 0
IsRefusedAt ls rs p b o = FirstRefused [] ls p b o ⊎ (AllTakable [] ls p × FirstRefused [] rs (all_kept ls p) b o)

-- the first part of a fork that cannot be given: it has a name or word of which no share is then held, meets an earlier part of its own branch, or lends half of a share of 1
abbrev pub CannotGive : Piece → Starting → Starting → ℕ → ℕ → Type 0
CannotGive p l r b o = IsRefusedAt (takes_of_left l) (takes_of_right l r) p b o
