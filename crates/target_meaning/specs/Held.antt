-- What each leaf holds along a run.
use Rattle.std.specs.Prelude.{◌≡◌, ℕ, zero, suc, ◌+◌, ◌-◌, ◌<◌, ◌≤◌, Bool, true, false, ◌&&◌, ◌||◌, List, [], ◌∷◌, ◌++◌, map, nat_lt, nat_le, ◌==◌, if◌then◌else◌}
use Rattle.std.specs.Prelude.{Option, Some, None}
use Rattle.target_code.specs.declared.tree.Proc.{Proc}
use Rattle.target_meaning.specs.Leaf.{Part, Child, Act, Go, Read, Write, Make, Cut, Split, Over, Bad, act}
use Rattle.target_meaning.specs.Machine.{Tree, Leaf, Fork, Notes}
use Rattle.target_meaning.specs.Piece.{whole, Share, Nil, Some_of, Clash, Piece, none, plus, half, rest, IsWhole}

-- whether a place lies in a part
abbrev pub in_span : Option (ℕ × ℕ) → ℕ → Bool
in_span None j = true
in_span (Some s) j = nat_lt s.0 j && nat_le j (s.0 + s.1)

-- whether a place of a block lies in a part
abbrev pub in_part : Part → ℕ → ℕ → Bool
in_part part b j = (b == part.block) && in_span part.span j

-- how much a branch gets of a part: all that is left, or half
pub record Take : Type 0 where
  pub part : Part
  pub all : Bool

-- what is given of one place
abbrev pub given_share : Bool → Bool → Share → Share
given_share false all x = Nil
given_share true true x = x
given_share true false x = half x

-- what is kept of one place
abbrev pub kept_share : Bool → Bool → Share → Share
kept_share false all x = x
kept_share true true x = Nil
kept_share true false x = rest x

-- what a taking gives
abbrev pub given : Take → Piece → Piece
given t p b j = given_share (in_part t.part b j) t.all (p b j)

-- what a taking leaves
abbrev pub kept : Take → Piece → Piece
kept t p b j = kept_share (in_part t.part b j) t.all (p b j)

-- what several takings give, one after the other
abbrev pub all_given : List Take → Piece → Piece
all_given [] p = none
all_given (t ∷ ts) p = plus (given t p) (all_given ts (kept t p))

-- what several takings leave
abbrev pub all_kept : List Take → Piece → Piece
all_kept [] p = p
all_kept (t ∷ ts) p = all_kept ts (kept t p)

-- whether two parts name the same block and span
abbrev pub same_span : Option (ℕ × ℕ) → Option (ℕ × ℕ) → Bool
same_span None None = true
same_span None (Some t) = false
same_span (Some s) None = false
same_span (Some s) (Some t) = (s.0 == t.0) && (s.1 == t.1)

-- whether a part is one of these
abbrev pub is_among : Part → List Part → Bool
is_among p [] = false
is_among p (q ∷ qs) = ((p.block == q.block) && same_span p.span q.span) || is_among p qs

-- what the left branch takes: all that is held of its hands, then half of its lends; the right branch comes after it, and of a lend that names the same block and span as a left one it takes all
abbrev pub left_takes : Child → List Take
left_takes l = map (λ p. record { part = p; all = true }) l.hands ++ map (λ p. record { part = p; all = false }) l.lends

-- what the right branch takes, by what was lent to the left one
abbrev pub right_takes : Child → Child → List Take
right_takes l r = map (λ p. record { part = p; all = true }) r.hands ++ map (λ p. record { part = p; all = is_among p l.lends }) r.lends

-- a whole block of zeros of this length
abbrev pub block_of : ℕ → ℕ → Share
block_of n zero = Some_of n (whole - 1)
block_of n (suc i) = if nat_lt i n then Some_of 0 (whole - 1) else Nil

-- a share of another value
abbrev pub valued : Share → ℕ → Share
valued Nil v = Nil
valued (Some_of u k) v = Some_of v k
valued Clash v = Clash

-- a piece after a store: the word has the new value, and as much of it is held as before
abbrev pub stored : Piece → ℕ → ℕ → ℕ → Piece
stored p b i v c j = if (c == b) && (j == suc i) then valued (p c j) v else p c j

-- a piece with a new block of zeros, whole
abbrev pub with_new : Piece → ℕ → ℕ → Piece
with_new p x n c j = if c == x then block_of n j else p c j

-- a piece without a block
abbrev pub without : Piece → ℕ → Piece
without p b c j = if c == b then Nil else p c j

-- the piece after a step
abbrev pub held_after : Piece → Act → ℕ → Piece
held_after p (Write b i v s) x = stored p b i v
held_after p (Make n k) x = with_new p x n
held_after p (Cut b s) x = without p b
held_after p (Go s) x = p
held_after p (Read b i k) x = p
held_after p (Split l r w) x = p
held_after p Over x = p
held_after p (Bad r) x = p

-- what each leaf holds along a run: each fork keeps what its branches do not take, and a join adds up what they and the fork hold
abbrev pub holdings : Notes Piece
holdings = record {
  after = held_after;
  kept = λ p l r. all_kept (right_takes l r) (all_kept (left_takes l) p);
  left = λ p l r. all_given (left_takes l) p;
  right = λ p l r. all_given (right_takes l r) (all_kept (left_takes l) p);
  join = λ p q r. plus p (plus q r);
}

-- all that is held in a tree
abbrev pub total : Tree Piece → Piece
total (Leaf p s) = p
total (Fork p w l r) = plus p (plus (total l) (total r))

-- some share
abbrev pub IsHeld : Share → Type 0
IsHeld Nil = ⊥
IsHeld (Some_of v k) = Unit {0}
IsHeld Clash = ⊥

-- a share that can be given: all of it, or half of it, which a share of 1 has not
abbrev pub CanHalve : Bool → Share → Type 0
CanHalve all Nil = ⊥
CanHalve true (Some_of v k) = Unit {0}
CanHalve false (Some_of v k) = 0 < k
CanHalve all Clash = ⊥

-- the places that a part asks for
abbrev pub Spanned : Option (ℕ × ℕ) → Share → (ℕ → Type 0) → Type 0
Spanned (Some s) x P = (i : ℕ) → s.0 ≤ i → i < s.0 + s.1 → P (suc i)
Spanned None Nil P = ⊥
Spanned None (Some_of n k) P = P 0 × ((i : ℕ) → i < n → P (suc i))
Spanned None Clash P = ⊥

-- each place that a part asks for is so
abbrev pub Places : Part → Piece → (ℕ → Type 0) → Type 0
Places part p P = Spanned part.span (p part.block 0) P

-- each part can be taken after those before it
abbrev pub CanTake : List Take → Piece → Type 0
CanTake [] p = Unit {0}
CanTake (t ∷ ts) p = Places t.part p (λ j. CanHalve t.all (p t.part.block j)) × CanTake ts (kept t p)

-- the parts of one branch do not meet
abbrev pub IsApart : Part → List Part → Type 0
IsApart part [] = Unit {0}
IsApart part (q ∷ qs) = ((b j : ℕ) → in_part part b j ≡ true → in_part q b j ≡ true → ⊥) × IsApart part qs

-- no two of these parts meet
abbrev pub AreApart : List Part → Type 0
AreApart [] = Unit {0}
AreApart (q ∷ qs) = IsApart q qs × AreApart qs

-- a block's name and words are held whole
abbrev pub AllWhole : Share → (ℕ → Share) → Type 0
AllWhole Nil at = ⊥
AllWhole (Some_of n k) at = (suc k ≡ whole) × ((i : ℕ) → i < n → IsWhole (at (suc i)))
AllWhole Clash at = ⊥

-- what a leaf below f forks does next is allowed by what it holds: it is neither stuck nor unowned; at a `par` below 64 forks nothing is asked
abbrev pub Fine : ℕ → Act → Piece → Type 0
Fine f (Go s) p = Unit {0}
Fine f (Read b i k) p = IsHeld (p b (suc i))
Fine f (Write b i v s) p = IsWhole (p b (suc i))
Fine f (Make n k) p = Unit {0}
Fine f (Cut b s) p = AllWhole (p b 0) (p b)
Fine f (Split l r w) p =
    f < 64 →
    CanTake (left_takes l) p × CanTake (right_takes l r) (all_kept (left_takes l) p) × AreApart (l.hands ++ l.lends) × AreApart (r.hands ++ r.lends)
Fine f Over p = Unit {0}
Fine f (Bad r) p = ⊥

-- so is each leaf of a tree whose root lies below f forks
abbrev pub AllFine : List Proc → ℕ → Tree Piece → Type 0
AllFine T f (Leaf p s) = Fine f (act T s) p
AllFine T f (Fork p w l r) = AllFine T (suc f) l × AllFine T (suc f) r
