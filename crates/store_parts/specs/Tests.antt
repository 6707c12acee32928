-- The words of tests of parts.
use Rattle.std.specs.Prelude.{◌≡◌, ℕ, suc, ◌+◌, ◌<◌, ◌≤◌, Bool, true, false, ◌||◌, List, [], ◌∷◌, ◌++◌, map}
use Rattle.std.specs.Prelude.{Option, Some, None}
use Rattle.target_meaning.specs.Leaf as leaf
use Rattle.target_meaning.specs.Piece.{Piece, Share}
use Rattle.target_meaning.specs.Held.{CanHalve, IsApart, Places, Take, all_kept, in_part, in_span, is_among, kept_share}
use Rattle.target_meaning.specs.Turns.{part_of}
use Rattle.target_meaning.specs.declared.frame.Part.{Part}
use Rattle.target_meaning.specs.declared.frame.Starting.{Starting}
use Rattle.branch_exec.specs.Stores.{AllTakable, FirstRefused, IsTakable, takes_of_left}

-- a test tells whether this is so
abbrev pub Tells : Bool → Type 0 → Type 0
Tells true P = P
Tells false P = P → ⊥

-- the parts, as those of the machine
abbrev pub parts_of : List Part → List leaf.Part
parts_of ps = map part_of ps

-- two spans have no word in common
abbrev pub WordsApart : ℕ × ℕ → ℕ × ℕ → Type 0
WordsApart a b = (i : ℕ) → a.0 ≤ i → i < a.0 + a.1 → b.0 ≤ i → i < b.0 + b.1 → ⊥

-- two spans of one block have no place in common
abbrev pub SpansApart : Option (ℕ × ℕ) → Option (ℕ × ℕ) → Type 0
SpansApart a b = (j : ℕ) → in_span a j ≡ true → in_span b j ≡ true → ⊥

-- two parts have no place in common
abbrev pub AreApart : leaf.Part → leaf.Part → Type 0
AreApart p q = (b j : ℕ) → in_part p b j ≡ true → in_part q b j ≡ true → ⊥

-- how much a branch takes of parts: all of each, or all of those that stand among others and half of the rest
abbrev pub all_by : Bool → List Part → leaf.Part → Bool
all_by all lent p = all || is_among p (map part_of lent)

abbrev pub takes_by : Bool → List Part → List Part → List Take
takes_by all lent ps = map (λ p. record { part = p; all = all_by all lent p }) (map part_of ps)

-- what is held after the left branch took its parts, or before
abbrev pub piece_after : Option Starting → Piece → Piece
piece_after None p = p
piece_after (Some l) p = all_kept (takes_of_left l) p

-- what is left of one place after some takings
abbrev pub left_by : List Take → ℕ → ℕ → Share → Share
left_by [] b j x = x
left_by (t ∷ ts) b j x = left_by ts b j (kept_share (in_part t.part b j) t.all x)

-- each word of a span can be given
abbrev pub AllWords : Bool → Piece → ℕ → ℕ → ℕ → Type 0
AllWords all p b o n = (i : ℕ) → o ≤ i → i < o + n → CanHalve all (p b (suc i))

-- the parts of a list, which come after these, can be taken as far as this part, and what is so of the rest is so of all
pub record Passed (seen : List leaf.Part) (all : Bool) (lent ps : List Part) (q : Piece) : Type 0 where
  pub taken : (us : List Take) → AllTakable (seen ++ map part_of ps) us q → AllTakable seen (takes_by all lent ps ++ us) q
  pub refused : (us : List Take) (b o : ℕ) → FirstRefused (seen ++ map part_of ps) us q b o → FirstRefused seen (takes_by all lent ps ++ us) q b o

-- the first of a list that cannot be taken
abbrev pub Fails : List leaf.Part → Bool → List Part → List Part → Piece → ℕ → ℕ → Type 0
Fails seen all lent ps q b o = (us : List Take) → FirstRefused seen (takes_by all lent ps ++ us) q b o
