-- The five cases in which a leaf is unowned, and the cases in which it is stuck by what it holds.
use Rattle.std.specs.Prelude.{◌≡◌, ℕ, zero, suc, ◌+◌, ◌<◌, ◌≤◌, ◌⊎◌, true, false, List, [], ◌∷◌, ◌++◌}
use Rattle.std.specs.Prelude.{Option, Some, None}
use Rattle.target_code.specs.declared.tree.Proc.{Proc}
use Rattle.target_meaning.specs.Leaf.{Part, Act, Read, Write, Cut, Split, Bad, act}
use Rattle.target_meaning.specs.Machine.{Tree, Leaf, Fork}
use Rattle.target_meaning.specs.Piece.{Share, Nil, Some_of, Clash, Piece, IsWhole}
use Rattle.target_meaning.specs.Held.{Take, in_part, kept, all_kept, left_takes, right_takes, IsHeld, AllWhole}

-- an index is at or past the length of a name that is held
abbrev pub IsPast : Share → ℕ → Type 0
IsPast Nil i = ⊥
IsPast (Some_of n k) i = n ≤ i
IsPast Clash i = ⊥

-- a leaf is stuck at what it does next, as far as what it holds tells
abbrev pub IsStuckBy : Act → Piece → Type 0
IsStuckBy (Read b i k) p = IsPast (p b 0) i
IsStuckBy (Write b i v s) p = IsPast (p b 0) i
IsStuckBy (Bad r) p = Unit {0}
IsStuckBy _ p = ⊥

-- first case: it loads a word of which it holds no share
abbrev pub LoadsUnheld : Act → Piece → Type 0
LoadsUnheld (Read b i k) p = (IsPast (p b 0) i → ⊥) × (IsHeld (p b (suc i)) → ⊥)
LoadsUnheld _ p = ⊥

-- second case: it stores to a word that it does not hold whole, or frees a block of which it does not hold the name and each word whole
abbrev pub SpoilsShared : Act → Piece → Type 0
SpoilsShared (Write b i v s) p = (IsPast (p b 0) i → ⊥) × (IsWhole (p b (suc i)) → ⊥)
SpoilsShared (Cut b s) p = AllWhole (p b 0) (p b) → ⊥
SpoilsShared _ p = ⊥

-- the places that a part has: the words of its span, or the name, and with it as many words as the name's length
abbrev pub HasWord : Share → ℕ → Type 0
HasWord Nil j = ⊥
HasWord (Some_of n k) zero = ⊥
HasWord (Some_of n k) (suc i) = i < n
HasWord Clash j = ⊥

-- the same of a span, where this is held of the name
abbrev pub HasSpan : Option (ℕ × ℕ) → Share → ℕ → Type 0
HasSpan (Some s) x j = (i : ℕ) × (j ≡ suc i) × (s.0 ≤ i) × (i < s.0 + s.1)
HasSpan None x j = (j ≡ 0) ⊎ HasWord x j

-- a place that a part has, by what is held
abbrev pub HasPlace : Part → Piece → ℕ → Type 0
HasPlace part p j = HasSpan part.span (p part.block 0) j

-- a share of 1
abbrev pub IsLeast : Share → Type 0
IsLeast Nil = ⊥
IsLeast (Some_of v k) = k ≡ 0
IsLeast Clash = ⊥

-- some part has a place of which no share is held after the parts before it were taken
abbrev pub SomeUnheld : List Take → Piece → Type 0
SomeUnheld [] p = ⊥
SomeUnheld (t ∷ ts) p = ((j : ℕ) × HasPlace t.part p j × (IsHeld (p t.part.block j) → ⊥)) ⊎ SomeUnheld ts (kept t p)

-- some part is lent by half and has a place of which the share 1 is then held
abbrev pub SomeLeast : List Take → Piece → Type 0
SomeLeast [] p = ⊥
SomeLeast (t ∷ ts) p = ((t.all ≡ false) × ((j : ℕ) × HasPlace t.part p j × IsLeast (p t.part.block j))) ⊎ SomeLeast ts (kept t p)

-- two parts have a place in common
abbrev pub AreMet : Part → Part → Type 0
AreMet a c = (b : ℕ) × (j : ℕ) × (in_part a b j ≡ true) × (in_part c b j ≡ true)

-- a part meets one of these
abbrev pub SomeMet : Part → List Part → Type 0
SomeMet a [] = ⊥
SomeMet a (c ∷ cs) = AreMet a c ⊎ SomeMet a cs

-- some part meets another one of the same branch
abbrev pub AnyMet : List Part → Type 0
AnyMet [] = ⊥
AnyMet (a ∷ cs) = SomeMet a cs ⊎ AnyMet cs

-- third case: it hands or lends a part with a name or word of which it then holds no share
abbrev pub GivesUnheld : Act → Piece → Type 0
GivesUnheld (Split l r w) p = SomeUnheld (left_takes l) p ⊎ SomeUnheld (right_takes l r) (all_kept (left_takes l) p)
GivesUnheld _ p = ⊥

-- fourth case: it lends half of a share of 1
abbrev pub HalvesLeast : Act → Piece → Type 0
HalvesLeast (Split l r w) p = SomeLeast (left_takes l) p ⊎ SomeLeast (right_takes l r) (all_kept (left_takes l) p)
HalvesLeast _ p = ⊥

-- fifth case: it hands or lends a part that meets an earlier part of the same branch
abbrev pub GivesTwice : Act → Type 0
GivesTwice (Split l r w) = AnyMet (l.hands ++ l.lends) ⊎ AnyMet (r.hands ++ r.lends)
GivesTwice _ = ⊥

-- a leaf below f forks that holds this piece is unowned at what it does next; below 64 forks no `par` is called so
abbrev pub IsUnowned : ℕ → Act → Piece → Type 0
IsUnowned f a p = LoadsUnheld a p ⊎ (SpoilsShared a p ⊎ ((f < 64) × (GivesUnheld a p ⊎ (HalvesLeast a p ⊎ GivesTwice a))))

-- some leaf of a tree whose root lies below f forks is unowned
abbrev pub SomeUnowned : List Proc → ℕ → Tree Piece → Type 0
SomeUnowned T f (Leaf p s) = IsUnowned f (act T s) p
SomeUnowned T f (Fork p w l r) = SomeUnowned T (suc f) l ⊎ SomeUnowned T (suc f) r
