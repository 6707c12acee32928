-- The entries that a branch uses, by their places in order of creation, the oldest first.
use Rattle.std.specs.Prelude.{◌≡◌, ◌<◌, ℕ, true, ◌&&◌, cond, List, [], ◌∷◌, length, Option, Some, None}
use Rattle.context_laws.specs.Stacks.{Held, falls_at}
use Rattle.context_laws.specs.Steps.{with_spot, with_spots}
use Rattle.rule_check.specs.Context.{Spot, is_container, is_gone, is_among, or_else, lends, falls}

-- the entries of used variables stand at these places
abbrev pub Places : List ℕ → List ℕ → List Spot → Type 0
Places us is [] = Unit {0}
Places us is (s ∷ ss) = (is_among (length ss) is ≡ is_among s.var us) × Places us is ss

abbrev pub Above : ℕ → List ℕ → Type 0
Above p is = (q : ℕ) → is_among q is ≡ true → p < q

abbrev pub Ascending : List ℕ → Type 0
Ascending [] = Unit {0}
Ascending (i ∷ is) = Above i is × Ascending is

-- the entries at these places
abbrev pub picked : List ℕ → List Spot → List Spot
picked is [] = []
picked is (s ∷ ss) = cond (is_among (length ss) is) (s ∷ picked is ss) (picked is ss)

-- all entries, where those at these places are now others
abbrev pub put_at : List ℕ → List Spot → List Spot → List Spot
put_at is [] ts = []
put_at is (s ∷ ss) [] = s ∷ ss
put_at is (s ∷ ss) (t ∷ ts) = cond (is_among (length ss) is) (falls s t ∷ put_at is ss ts) (s ∷ put_at is ss (t ∷ ts))

-- the variable of the oldest container that is gone
abbrev pub oldest_gone : List Spot → Option ℕ
oldest_gone [] = None
oldest_gone (s ∷ ss) = or_else (oldest_gone ss) (cond (is_container s.rep && is_gone s.hold) (Some s.var) None)

-- the variable of an entry that is a container and gone
abbrev pub gone_one_of : Option Spot → Option ℕ
gone_one_of None = None
gone_one_of (Some s) = cond (is_container s.rep && is_gone s.hold) (Some s.var) None

-- one more entry, which is kept if it is an owned container of one of these variables
abbrev pub added : List ℕ → Option Spot → Held → Held
added vs None x = x
added vs (Some s) x = with_spot (lends vs s) x

-- the entry at a place, which there is, goes where another is gone
abbrev pub put_one : Spot → ℕ → List Spot → List Spot
put_one t p ss = cond (is_gone t.hold) (falls_at (p ∷ []) ss) ss

abbrev pub Puts : ℕ → Option Spot → Held → Held → Type 0
Puts p None x y = ⊥
Puts p (Some t) x y = (p < length x.spots) × (y ≡ with_spots x (put_one t p x.spots))
