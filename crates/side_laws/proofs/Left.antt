-- What a block leaves of the entries from before.
use Rattle.std.proofs.Common.{◌≡◌, ℕ, suc, ◌⊎◌, inl, inr, Bool, true, false, ◌&&◌, cond, List, [], ◌∷◌, ◌++◌, length, refl, sym, ap, ◌∙◌, subst}
use Rattle.std.proofs.lemmas.Bool.{and_parts, cond-true, false≢true}
use Rattle.bare_holds.specs.Bare.{bare_hold, bare_holds}
use Rattle.context_laws.specs.Stacks.{falls_at, is_free}
use Rattle.entry_falls.specs.Falls.{Fell, AllFell, FallsFrom}
use Rattle.fit_laws.specs.Older.{SameNumbers}
use Rattle.fits.specs.Places.{Entry, spot_of, spots_of, same_hold, same_holds}
use Rattle.rule_check.specs.Context.{Hold, Owned, Kept, Gone, Spot, all_fall, falls, is_container, is_gone, is_owned, lent, outer}
use Rattle.side_laws.specs.Sides.{HeldAs, LeftOfSide, LentSame}
use Rattle.side_laws.proofs.Tails.{bare_joined, bare_length, outer_behind, spots_joined, spots_length, tails}

pub fell_length : (xs ys : List Spot) → AllFell xs ys → length ys ≡ length xs
fell_length [] [] f = refl
fell_length [] (y ∷ ys) f = absurd f
fell_length (x ∷ xs) [] f = absurd f
fell_length (x ∷ xs) (y ∷ ys) f = ap suc (fell_length xs ys f.1)

never : (h : Hold) (c : Bool) → (is_owned h && (c && is_gone h)) ≡ false
never Owned true = refl
never Owned false = refl
never Kept c = refl
never Gone c = refl

falls_self : (s : Spot) → falls s s ≡ s
falls_self s = ap (λ b. cond b (record s { hold = Gone }) s) (never s.hold (is_container s.rep))

turned : (a b : Bool) → (a && b) ≡ true → (a && (b && true)) ≡ true
turned true true e = refl
turned true false e = e
turned false b e = e

one_fell : (s t : Spot) → Fell s t → falls s t ≡ t
one_fell s t (inl e) = ap (falls s) e ∙ falls_self s ∙ sym e
one_fell s t (inr e) = ap (falls s) e.1 ∙ cond-true (is_owned s.hold && (is_container s.rep && true)) (record s { hold = Gone }) s (turned (is_owned s.hold) (is_container s.rep) e.0) ∙ sym e.1

all_fell : (xs ys : List Spot) → AllFell xs ys → all_fall xs ys ≡ ys
all_fell [] [] f = refl
all_fell [] (y ∷ ys) f = absurd f
all_fell (x ∷ xs) [] f = absurd f
all_fell (x ∷ xs) (y ∷ ys) f = ap (λ z. z ∷ all_fall xs ys) (one_fell x y f.0) ∙ ap (λ z. y ∷ z) (all_fell xs ys f.1)

-- what is left of the entries from before is held as these
pub rest_held : (xs ys : List Spot) (h : ℕ → Hold) (made es : List Entry) (f : FallsFrom xs ys) → length xs ≡ length es → HeldAs ys h (made ++ es) → HeldAs f.rest h es
rest_held xs ys h made es f n k =
    tails (bare_holds f.made) (bare_holds (spots_of h made)) (bare_holds f.rest) (bare_holds (spots_of h es))
    (sym (bare_joined f.made f.rest) ∙ ap bare_holds (sym f.parts) ∙ k ∙ ap bare_holds (spots_joined h made es) ∙ bare_joined (spots_of h made) (spots_of h es))
    (bare_length f.rest ∙ fell_length xs f.rest f.fell ∙ n ∙ sym (spots_length h es) ∙ sym (bare_length (spots_of h es)))

pub rest_falls : (xs ys : List Spot) (f : FallsFrom xs ys) → all_fall xs (outer (length xs) ys) ≡ f.rest
rest_falls xs ys f =
    ap (λ z. all_fall xs (outer z ys)) (sym (fell_length xs f.rest f.fell)) ∙ ap (λ z. all_fall xs (outer (length f.rest) z)) f.parts ∙ ap (all_fall xs) (outer_behind f.made f.rest) ∙ all_fell xs f.rest f.fell

pub left_of_a_side : LeftOfSide
left_of_a_side xs ys is h made es f e n k = ap bare_holds (e ∙ rest_falls xs ys f) ∙ rest_held xs ys h made es f n k

-- ---- what was lent

not_free : (s : Spot) → is_free (cond (is_owned s.hold && is_container s.rep) (record s { hold = Kept }) s) ≡ false
not_free s = by (is_owned s.hold && is_container s.rep) refl
  where
    by : (b : Bool) → (is_owned s.hold && is_container s.rep) ≡ b → is_free (cond b (record s { hold = Kept }) s) ≡ false
    by true e = refl
    by false e = e

lent_stays : (xs ys : List Spot) → AllFell (lent xs) ys → ys ≡ lent xs
lent_stays [] [] f = refl
lent_stays [] (y ∷ ys) f = absurd f
lent_stays (x ∷ xs) [] f = absurd f
lent_stays (x ∷ xs) (y ∷ ys) f = one f.0 ∙ ap (λ z. cond (is_owned x.hold && is_container x.rep) (record x { hold = Kept }) x ∷ z) (lent_stays xs ys f.1)
  where
    one : Fell (cond (is_owned x.hold && is_container x.rep) (record x { hold = Kept }) x) y → (y ∷ ys) ≡ (cond (is_owned x.hold && is_container x.rep) (record x { hold = Kept }) x ∷ ys)
    one (inl e) = ap (λ z. z ∷ ys) e
    one (inr e) = absurd (false≢true (sym (not_free x) ∙ e.0))

same_self : (h : Hold) → same_hold h h ≡ true
same_self Owned = refl
same_self Kept = refl
same_self Gone = refl

-- the hold of a container
held_of : (c : Bool) (h k : Hold) → c ≡ true → cond c h Owned ≡ cond c k Owned → h ≡ k
held_of true h k e q = q
held_of false h k e q = absurd (false≢true e)

abbrev first_hold : List Spot → Hold
first_hold [] = Owned
first_hold (s ∷ ss) = s.hold

abbrev others : List Spot → List Spot
others [] = []
others (s ∷ ss) = ss

pub same_bare : (g h : ℕ → Hold) (es : List Entry) → bare_holds (spots_of g es) ≡ bare_holds (spots_of h es) → SameNumbers g h es → same_holds g h es ≡ true
same_bare g h [] e n = refl
same_bare g h (d ∷ es) e n =
    ap (λ z. z && same_holds g h es) (by (is_container d.shape.rep) refl (ap first_hold e) n.0) ∙ same_bare g h es (ap others e) n.1
  where
    by : (c : Bool) → is_container d.shape.rep ≡ c → cond (is_container d.shape.rep) (g d.var) Owned ≡ cond (is_container d.shape.rep) (h d.var) Owned → (is_container d.shape.rep ≡ false → h d.var ≡ g d.var) → same_hold (g d.var) (h d.var) ≡ true
    by true c q k = ap (same_hold (g d.var)) (sym (held_of (is_container d.shape.rep) (g d.var) (h d.var) c q)) ∙ same_self (g d.var)
    by false c q k = ap (same_hold (g d.var)) (k c) ∙ same_self (g d.var)

pub lent_the_same : LentSame
lent_the_same xs ys g h made es f u k n =
    let m : length (lent xs) ≡ length es = sym (bare_length (lent xs)) ∙ ap length u ∙ bare_length (spots_of g es) ∙ spots_length g es in
    same_bare g h es (sym u ∙ ap bare_holds (sym (lent_stays xs f.rest f.fell)) ∙ rest_held (lent xs) ys h made es f m k) n
