-- Two sides that went alike.
use Rattle.std.proofs.Common.{◌≡◌, ℕ, suc, ◌<◌, Bool, true, false, ◌&&◌, ◌||◌, not, cond, List, [], ◌∷◌, ◌++◌, length, refl, sym, ap, ◌∙◌, subst, arith, eqb, eqb-true, eq-eqb, ne_eqb, ⊎_elim}
use Rattle.std.proofs.lemmas.Bool.{and_parts, cond-true, cond-false, false≢true, true≢false}
use Rattle.std.proofs.lemmas.Bool.Decides.{eqb_tells}
use Rattle.std.specs.Prelude.{Option, Some, None}
use Rattle.bare_holds.specs.Bare.{bare_hold, bare_holds}
use Rattle.context_laws.specs.Stacks.{falls_at, gone_one, is_free, spot_in}
use Rattle.fit_laws.specs.Older.{SameNumbers}
use Rattle.fits.specs.Places.{Entry, spot_of, spots_of, same_hold, same_holds}
use Rattle.rule_check.specs.Context.{Hold, Owned, Kept, Gone, Spot, is_among, is_container, is_owned}
use Rattle.side_laws.specs.Sides.{HeldAs, SidesAlike, free_at, none_free}

abbrev same_bool : Bool → Bool → Bool
same_bool true b = b
same_bool false b = not b

-- an entry that may be used up goes on both sides or on none
abbrev one_alike : Bool → Bool → Spot → Bool
one_alike a b s = not (is_free s) || same_bool a b

abbrev alike : List ℕ → List ℕ → List Spot → Bool
alike is js [] = true
alike is js (s ∷ ss) = one_alike (is_among (length ss) is) (is_among (length ss) js) s && alike is js ss

-- ---- by holds

same_self : (h : Hold) → same_hold h h ≡ true
same_self Owned = refl
same_self Kept = refl
same_self Gone = refl

abbrev went : Bool → Spot → Spot
went a s = cond a (gone_one s) s

stays : (a : Bool) (s : Spot) → is_free s ≡ false → went a s ≡ s
stays true s e = cond-false (is_free s) (record s { hold = Gone }) s e
stays false s e = refl

owned_of : (h : Hold) (c : Bool) → (is_owned h && c) ≡ true → h ≡ Owned
owned_of Owned c e = refl
owned_of Kept c e = absurd (false≢true e)
owned_of Gone c e = absurd (false≢true e)

gone_of : (s : Spot) → is_free s ≡ true → gone_one s ≡ record s { hold = Gone }
gone_of s e = cond-true (is_free s) (record s { hold = Gone }) s e

abbrev hold_of : Spot → Hold
hold_of s = s.hold

holds_alike : (a b : Bool) (s : Spot) → same_hold (hold_of (went a s)) (hold_of (went b s)) ≡ one_alike a b s
holds_alike a b s = by (is_free s) refl
  where
    owned : is_free s ≡ true → s.hold ≡ Owned
    owned e = owned_of s.hold (is_container s.rep) e

    four : (a b : Bool) → is_free s ≡ true → same_hold (hold_of (went a s)) (hold_of (went b s)) ≡ same_bool a b
    four true true e = ap (λ z. same_hold (hold_of z) (hold_of z)) (gone_of s e)
    four true false e = ap (λ z. same_hold (hold_of z) s.hold) (gone_of s e) ∙ ap (same_hold Gone) (owned e)
    four false true e = ap (λ z. same_hold s.hold (hold_of z)) (gone_of s e) ∙ ap (λ z. same_hold z Gone) (owned e)
    four false false e = same_self s.hold

    by : (f : Bool) → is_free s ≡ f → same_hold (hold_of (went a s)) (hold_of (went b s)) ≡ one_alike a b s
    by true e = four a b e ∙ ap (λ z. not z || same_bool a b) (sym e)
    by false e = ap (λ z. same_hold (hold_of z) (hold_of (went b s))) (stays a s e) ∙ ap (λ z. same_hold s.hold (hold_of z)) (stays b s e) ∙ same_self s.hold ∙ ap (λ z. not z || same_bool a b) (sym e)

abbrev first_hold : List Spot → Hold
first_hold [] = Owned
first_hold (s ∷ ss) = s.hold

abbrev first_container : List Spot → Bool
first_container [] = false
first_container (s ∷ ss) = is_container s.rep

abbrev others : List Spot → List Spot
others [] = []
others (s ∷ ss) = ss

held_of : (c : Bool) (h k : Hold) → c ≡ true → cond c h Owned ≡ cond c k Owned → h ≡ k
held_of true h k e q = q
held_of false h k e q = absurd (false≢true e)

rep_went : (a : Bool) (s : Spot) → is_container (went a s).rep ≡ is_container s.rep
rep_went true s = by (is_free s)
  where
    by : (f : Bool) → is_container (cond f (record s { hold = Gone }) s).rep ≡ is_container s.rep
    by true = refl
    by false = refl
rep_went false s = refl

-- the hold of an entry that is a container
one_held : (t : Spot) (ts : List Spot) (g : ℕ → Hold) (e : Entry) (es : List Entry) → HeldAs (t ∷ ts) g (e ∷ es) → is_container e.shape.rep ≡ true → hold_of t ≡ g e.var
one_held t ts g e es k c =
    let q : is_container t.rep ≡ is_container e.shape.rep = ap first_container k in
    held_of (is_container t.rep) (hold_of t) (g e.var) (q ∙ c) (ap first_hold k ∙ ap (λ z. cond z (g e.var) Owned) (sym q))

no_free : (h : Hold) (c : Bool) → c ≡ false → (is_owned h && c) ≡ false
no_free Owned c e = e
no_free Kept c e = refl
no_free Gone c e = refl

by_holds : (xs : List Spot) (is js : List ℕ) (f g h : ℕ → Hold) (es : List Entry) → HeldAs xs f es → HeldAs (falls_at is xs) g es → HeldAs (falls_at js xs) h es → SameNumbers f g es → SameNumbers f h es → same_holds g h es ≡ alike is js xs
by_holds [] is js f g h [] u l r m n = refl
by_holds [] is js f g h (e ∷ es) u l r m n = absurd (let o : ⊥ = cc u in o)
by_holds (s ∷ ss) is js f g h [] u l r m n = absurd (let o : ⊥ = cc u in o)
by_holds (s ∷ ss) is js f g h (e ∷ es) u l r m n =
    ap (λ z. z && same_holds g h es) (one (is_container e.shape.rep) refl) ∙ ap (λ z. one_alike (is_among (length ss) is) (is_among (length ss) js) s && z) (by_holds ss is js f g h es (ap others u) (ap others l) (ap others r) m.1 n.1)
  where
    a : Bool
    a = is_among (length ss) is

    b : Bool
    b = is_among (length ss) js

    one : (c : Bool) → is_container e.shape.rep ≡ c → same_hold (g e.var) (h e.var) ≡ one_alike (is_among (length ss) is) (is_among (length ss) js) s
    one true c =
        ap (λ z. same_hold z (h e.var)) (sym (one_held (went (is_among (length ss) is) s) (falls_at is ss) g e es l c))
        ∙ ap (same_hold (hold_of (went (is_among (length ss) is) s))) (sym (one_held (went (is_among (length ss) js) s) (falls_at js ss) h e es r c))
        ∙ holds_alike (is_among (length ss) is) (is_among (length ss) js) s
    one false c =
        let q : is_container s.rep ≡ is_container e.shape.rep = ap first_container u in
        let nf : is_free s ≡ false = no_free s.hold (is_container s.rep) (q ∙ c) in
        ap (λ z. same_hold z (h e.var)) (m.0 c) ∙ ap (same_hold (f e.var)) (n.0 c) ∙ same_self (f e.var) ∙ ap (λ z. not z || same_bool (is_among (length ss) is) (is_among (length ss) js)) (sym nf)

-- ---- by places

falls_length : (is : List ℕ) (ss : List Spot) → length (falls_at is ss) ≡ length ss
falls_length is [] = refl
falls_length is (s ∷ ss) = ap suc (falls_length is ss)

gone_not_free : (s : Spot) → is_free (gone_one s) ≡ false
gone_not_free s = by (is_free s) refl
  where
    by : (f : Bool) → is_free s ≡ f → is_free (cond f (record s { hold = Gone }) s) ≡ false
    by true e = refl
    by false e = e

or_true : (a b : Bool) → (a || b) ≡ true → a ≡ false → b ≡ true
or_true true b e n = absurd (true≢false n)
or_true false b e n = e

same_then : (a b : Bool) → same_bool a b ≡ true → a ≡ true → b ≡ true
same_then true b e q = e
same_then false b e q = absurd (false≢true q)

-- where both went alike, what went on one side may not be used up on the other
at_place : (is js : List ℕ) (xs : List Spot) → alike is js xs ≡ true → (i : ℕ) → is_among i is ≡ true → free_at (spot_in (falls_at js xs) i) ≡ false
at_place is js [] e i m = refl
at_place is js (s ∷ ss) e i m =
    ⊎_elim
    (λ q. ap free_at (cond-true (eqb (length (falls_at js ss)) i) (Some (went (is_among (length ss) js) s)) (spot_in (falls_at js ss) i) (eq-eqb (length (falls_at js ss)) i q.1)) ∙ here (is_free s) refl (ap (λ z. is_among z is) (sym (falls_length js ss) ∙ q.1) ∙ m))
    (λ q. ap free_at (cond-false (eqb (length (falls_at js ss)) i) (Some (went (is_among (length ss) js) s)) (spot_in (falls_at js ss) i) (ne_eqb (length (falls_at js ss)) i q.1)) ∙ at_place is js ss p.1 i m)
    (eqb_tells (length (falls_at js ss)) i)
  where
    p : (one_alike (is_among (length ss) is) (is_among (length ss) js) s ≡ true) × (alike is js ss ≡ true)
    p = and_parts (one_alike (is_among (length ss) is) (is_among (length ss) js) s) (alike is js ss) e

    here : (f : Bool) → is_free s ≡ f → is_among (length ss) is ≡ true → is_free (went (is_among (length ss) js) s) ≡ false
    here true f k =
        let b : is_among (length ss) js ≡ true = same_then (is_among (length ss) is) (is_among (length ss) js) (or_true (not (is_free s)) (same_bool (is_among (length ss) is) (is_among (length ss) js)) p.0 (ap not f)) k in
        ap (λ z. is_free (went z s)) b ∙ gone_not_free s
    here false f k = ap is_free (stays (is_among (length ss) js) s f) ∙ f

among_self : (i : ℕ) (is : List ℕ) → is_among i (i ∷ is) ≡ true
among_self i is = ap (λ z. z || is_among i is) (eq-eqb i i refl)

among_more : (i j : ℕ) (is : List ℕ) → is_among j is ≡ true → is_among j (i ∷ is) ≡ true
among_more i j is e = by (eqb j i) e
  where
    by : (b : Bool) → is_among j is ≡ true → (b || is_among j is) ≡ true
    by true q = refl
    by false q = q

all_none : (is : List ℕ) (ss : List Spot) → ((i : ℕ) → is_among i is ≡ true → free_at (spot_in ss i) ≡ false) → none_free is ss ≡ true
all_none [] ss f = refl
all_none (i ∷ is) ss f = ap (λ z. not z && none_free is ss) (f i (among_self i is)) ∙ all_none is ss (λ j m. f j (among_more i j is m))

none_at : (is : List ℕ) (ss : List Spot) → none_free is ss ≡ true → (i : ℕ) → is_among i is ≡ true → free_at (spot_in ss i) ≡ false
none_at [] ss e i m = absurd (false≢true m)
none_at (j ∷ is) ss e i m =
    let p = and_parts (not (free_at (spot_in ss j))) (none_free is ss) e in
    ⊎_elim (λ q. ap (λ z. free_at (spot_in ss z)) q.1 ∙ un (free_at (spot_in ss j)) p.0) (λ q. none_at is ss p.1 i (or_true (eqb i j) (is_among i is) m (ne_eqb i j q.1))) (eqb_tells i j)
  where
    un : (b : Bool) → not b ≡ true → b ≡ false
    un true e = absurd (false≢true e)
    un false e = refl

-- what may still be used up below a place
abbrev NoneBelow : List ℕ → List Spot → Type 0
NoneBelow is ss = (i : ℕ) → i < length ss → is_among i is ≡ true → free_at (spot_in ss i) ≡ false

none_tail : (is js : List ℕ) (s : Spot) (ss : List Spot) → NoneBelow is (falls_at js (s ∷ ss)) → NoneBelow is (falls_at js ss)
none_tail is js s ss f i lt m =
    sym (ap free_at (cond-false (eqb (length (falls_at js ss)) i) (Some (went (is_among (length ss) js) s)) (spot_in (falls_at js ss) i) (ne_eqb (length (falls_at js ss)) i (λ e. let o : ⊥ = omega (arith, e, lt) in o)))) ∙ f i (omega (arith, lt)) m

none_first : (is js : List ℕ) (s : Spot) (ss : List Spot) → NoneBelow is (falls_at js (s ∷ ss)) → is_among (length ss) is ≡ true → is_free (went (is_among (length ss) js) s) ≡ false
none_first is js s ss f m =
    let n : length (falls_at js ss) ≡ length ss = falls_length js ss in
    sym (ap free_at (cond-true (eqb (length (falls_at js ss)) (length ss)) (Some (went (is_among (length ss) js) s)) (spot_in (falls_at js ss) (length ss)) (eq-eqb (length (falls_at js ss)) (length ss) n))) ∙ f (length ss) (omega (arith, n)) m

by_places : (is js : List ℕ) (xs : List Spot) → NoneBelow is (falls_at js xs) → NoneBelow js (falls_at is xs) → alike is js xs ≡ true
by_places is js [] f g = refl
by_places is js (s ∷ ss) f g =
    ap (λ z. z && alike is js ss) (one (is_free s) refl (is_among (length ss) is) (is_among (length ss) js) refl refl (none_first is js s ss f) (none_first js is s ss g))
    ∙ by_places is js ss (none_tail is js s ss f) (none_tail js is s ss g)
  where
    one : (f : Bool) → is_free s ≡ f → (a b : Bool) → is_among (length ss) is ≡ a → is_among (length ss) js ≡ b
        → (is_among (length ss) is ≡ true → is_free (went (is_among (length ss) js) s) ≡ false) → (is_among (length ss) js ≡ true → is_free (went (is_among (length ss) is) s) ≡ false)
        → one_alike (is_among (length ss) is) (is_among (length ss) js) s ≡ true
    one false e a b p q k l = ap (λ z. not z || same_bool (is_among (length ss) is) (is_among (length ss) js)) e
    one true e true true p q k l = ap (λ z. not z || same_bool (is_among (length ss) is) (is_among (length ss) js)) e ∙ ap (λ z. same_bool z (is_among (length ss) js)) p ∙ q
    one true e false false p q k l = ap (λ z. not z || same_bool (is_among (length ss) is) (is_among (length ss) js)) e ∙ ap (λ z. same_bool z (is_among (length ss) js)) p ∙ ap not q
    one true e true false p q k l = absurd (true≢false (sym e ∙ ap (λ z. is_free (went z s)) (sym q) ∙ k p))
    one true e false true p q k l = absurd (true≢false (sym e ∙ ap (λ z. is_free (went z s)) (sym p) ∙ l q))

same_turned : (a b : Bool) → same_bool a b ≡ same_bool b a
same_turned true true = refl
same_turned true false = refl
same_turned false true = refl
same_turned false false = refl

turned : (is js : List ℕ) (xs : List Spot) → alike is js xs ≡ alike js is xs
turned is js [] = refl
turned is js (s ∷ ss) =
    ap (λ z. (not (is_free s) || z) && alike is js ss) (same_turned (is_among (length ss) is) (is_among (length ss) js)) ∙ ap (λ z. one_alike (is_among (length ss) js) (is_among (length ss) is) s && z) (turned is js ss)

both_ways : (a b : Bool) → (a ≡ true → b ≡ true) → (b ≡ true → a ≡ true) → a ≡ b
both_ways true b f g = sym (f refl)
both_ways false true f g = g refl
both_ways false false f g = refl

both_true : (a b : Bool) → a ≡ true → b ≡ true → (a && b) ≡ true
both_true a b e q = ap (λ z. z && b) e ∙ q

pub sides_alike : SidesAlike
sides_alike xs is js f g h es u l r m n =
    by_holds xs is js f g h es u l r m n
    ∙ both_ways (alike is js xs) (none_free is (falls_at js xs) && none_free js (falls_at is xs))
    (λ e. both_true (none_free is (falls_at js xs)) (none_free js (falls_at is xs)) (all_none is (falls_at js xs) (at_place is js xs e)) (all_none js (falls_at is xs) (at_place js is xs (sym (turned is js xs) ∙ e))))
    (λ e. let p = and_parts (none_free is (falls_at js xs)) (none_free js (falls_at is xs)) e in
    by_places is js xs (λ i lt k. none_at is (falls_at js xs) p.0 i k) (λ i lt k. none_at js (falls_at is xs) p.1 i k))
