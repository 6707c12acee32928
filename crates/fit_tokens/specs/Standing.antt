-- What stands for entries, the newest first, each known by its place in order of creation.
use Rattle.std.specs.Prelude.{◌≡◌, ◌≤◌, ◌<◌, ℕ, suc, nat_eq, Bool, false, cond, List, [], ◌∷◌, length, Option, Some, None, MatchOption}
use Rattle.fits.specs.Follow.{first_word}
use Rattle.fits.specs.Places.{Token, Of, Entry}
use Rattle.fit_tokens.specs.Changes.{tokens_of}
use Rattle.fit_tokens.specs.declared.words.Words.{Words}

-- the words of an entry, and whether only a part of each share of it is held
pub record Standing : Type 0 where
  pub words : List Token
  pub part : Bool

abbrev pub standing_of : Words → Standing
standing_of w = record { words = tokens_of w.list; part = w.part }

-- of entries
abbrev pub stands_for : Entry → Standing
stands_for e = record { words = e.words; part = e.part }

abbrev pub all_stand : List Entry → List Standing
all_stand [] = []
all_stand (e ∷ es) = stands_for e ∷ all_stand es

-- what stands at a place
abbrev pub standing_in : List Standing → ℕ → Option Standing
standing_in [] i = None
standing_in (s ∷ ss) i = cond (nat_eq (length ss) i) (Some s) (standing_in ss i)

-- ---- the place of a first word

abbrev pub has_head : Token → Option Standing → Bool
has_head t None = false
has_head t (Some s) = first_word (Some t) s.words

-- at no place from low on below high this is the first word
abbrev pub NoHead : List Standing → Token → ℕ → ℕ → Type 0
NoHead ss t low high = (k : ℕ) → low ≤ k → k < high → has_head t (standing_in ss k) ≡ false

-- the next place below another at which this may be the first word
abbrev pub IsNext : List Standing → Token → ℕ → Option ℕ → Type 0
IsNext ss t high o = MatchOption o (NoHead ss t 0 high) (λ k. (k < high) × NoHead ss t (suc k) high)

-- ---- by variables

-- the variable of which the first word is
abbrev pub first_variable : List Token → Option ℕ
first_variable (Of v j ∷ ts) = Some v
first_variable _ = None

abbrev pub is_of : ℕ → List Token → Bool
is_of v (Of w j ∷ ts) = nat_eq w v
is_of v _ = false

-- the newest place whose first word is of a variable
abbrev pub newest_of : List Standing → ℕ → Option ℕ
newest_of [] v = None
newest_of (s ∷ ss) v = cond (is_of v s.words) (Some (length ss)) (newest_of ss v)

abbrev pub newest_as : List Standing → Option ℕ → Option ℕ
newest_as ss None = None
newest_as ss (Some v) = newest_of ss v
