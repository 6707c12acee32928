-- What sides and loops leave of the entries from before.
use Rattle.std.specs.Prelude.{◌≡◌, ℕ, Bool, true, false, ◌&&◌, not, List, [], ◌∷◌, ◌++◌, length, Option, Some, None}
use Rattle.bare_holds.specs.Bare.{bare_holds}
use Rattle.context_laws.specs.Stacks.{falls_at, is_free, spot_in}
use Rattle.entry_falls.specs.Falls.{FallsFrom}
use Rattle.fit_laws.specs.Older.{SameNumbers}
use Rattle.fits.specs.Places.{Entry, spots_of, same_holds}
use Rattle.rule_check.specs.Context.{Hold, Spot, all_fall, lent, outer}

abbrev pub free_at : Option Spot → Bool
free_at None = false
free_at (Some s) = is_free s

-- none of the entries at these places may be used up
abbrev pub none_free : List ℕ → List Spot → Bool
none_free [] ss = true
none_free (i ∷ is) ss = not (free_at (spot_in ss i)) && none_free is ss

-- entries as they are held, up to the holds of what is no container
abbrev pub HeldAs : List Spot → (ℕ → Hold) → List Entry → Type 0
HeldAs ss h es = bare_holds ss ≡ bare_holds (spots_of h es)

abbrev pub LeftOfSide : Type 0
LeftOfSide = (xs ys : List Spot) (is : List ℕ) (h : ℕ → Hold) (made es : List Entry)
    → FallsFrom xs ys → falls_at is xs ≡ all_fall xs (outer (length xs) ys) → length xs ≡ length es → HeldAs ys h (made ++ es) → HeldAs (falls_at is xs) h es

abbrev pub SidesAlike : Type 0
SidesAlike = (xs : List Spot) (is js : List ℕ) (f g h : ℕ → Hold) (es : List Entry)
    → HeldAs xs f es → HeldAs (falls_at is xs) g es → HeldAs (falls_at js xs) h es → SameNumbers f g es → SameNumbers f h es
    → same_holds g h es ≡ (none_free is (falls_at js xs) && none_free js (falls_at is xs))

abbrev pub LentSame : Type 0
LentSame = (xs ys : List Spot) (g h : ℕ → Hold) (made es : List Entry)
    → FallsFrom (lent xs) ys → HeldAs (lent xs) g es → HeldAs ys h (made ++ es) → SameNumbers g h es → same_holds g h es ≡ true
