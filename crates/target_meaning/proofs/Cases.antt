-- A leaf is fine exactly where it is neither stuck by what it holds nor in one of the five cases of unowned.
use Rattle.std.proofs.Common.{◌≡◌, ℕ, zero, suc, ◌+◌, ◌<◌, ◌≤◌, ◌⊎◌, inl, inr, max, Bool, true, false, ◌&&◌, List, [], ◌∷◌, ◌++◌, length, refl, sym, ap, ◌∙◌, subst, arith, eqb, eqb-true, eq-eqb, ltb-true, leb-true, lt-ltb, le-leb, ⊎_elim}
use Rattle.std.proofs.lemmas.Bool.{and_parts}
use Rattle.std.proofs.lemmas.Bool.Decides.{eqb_tells}
use Rattle.std.proofs.lemmas.Option.{slice_get_within}
use Rattle.std.specs.Prelude.{Option, Some, None, nat_lt, nat_le}
use Rattle.target_meaning.specs.Leaf.{Part, Child, Act, Go, Read, Write, Make, Cut, Split, Over, Bad}
use Rattle.target_meaning.specs.Machine.{Cell, Never, Live, Freed, Heap}
use Rattle.target_meaning.specs.Piece.{whole, Share, Nil, Some_of, Clash, Piece, at_place, Fits, Holds, IsWhole}
use Rattle.target_meaning.specs.Held.{Take, in_span, in_part, kept, all_kept, left_takes, right_takes, IsHeld, CanHalve, Spanned, CanTake, IsApart, AreApart, AllWhole, Fine}
use Rattle.target_meaning.specs.Unowned.{IsPast, IsStuckBy, HasSpan, IsLeast, SomeUnheld, SomeLeast, AreMet, SomeMet, AnyMet, IsUnowned}
use Rattle.target_meaning.proofs.Keeps.{some_same}
use Rattle.target_meaning.proofs.Races.{whole_held}

-- ---- fine excludes each case

spanned_at : (s : Option (ℕ × ℕ)) (x : Share) (P : ℕ → Type 0) (j : ℕ) → Spanned s x P → HasSpan s x j → P j
spanned_at (Some s) x P j f h = subst P (sym h.1) (f h.0 h.2 h.3)
spanned_at None Nil P j f h = absurd f
spanned_at None Clash P j f h = absurd f
spanned_at None (Some_of n k) P zero f h = f.0
spanned_at None (Some_of n k) P (suc i) f h = ⊎_elim (λ e. let g : ⊥ = omega (arith, e) in absurd g) (λ lt. f.1 i lt) h

halve_held : (all : Bool) (x : Share) → CanHalve all x → IsHeld x
halve_held true Nil w = w
halve_held false Nil w = w
halve_held true (Some_of v k) w = tt
halve_held false (Some_of v k) w = tt
halve_held true Clash w = w
halve_held false Clash w = w

halve_least : (all : Bool) (x : Share) → CanHalve all x → all ≡ false → IsLeast x → ⊥
halve_least all Nil w e l = l
halve_least all Clash w e l = l
halve_least true (Some_of v k) w e l = cc e
halve_least false (Some_of v k) w e l = omega (arith, w, l)

takes_held : (ts : List Take) (p : Piece) → CanTake ts p → SomeUnheld ts p → ⊥
takes_held [] p c u = u
takes_held (t ∷ ts) p c u =
    ⊎_elim
    (λ w. w.2 (halve_held t.all (p t.part.block w.0) (spanned_at t.part.span (p t.part.block 0) (λ j. CanHalve t.all (p t.part.block j)) w.0 c.0 w.1)))
    (λ w. takes_held ts (kept t p) c.1 w)
    u

takes_more : (ts : List Take) (p : Piece) → CanTake ts p → SomeLeast ts p → ⊥
takes_more [] p c u = u
takes_more (t ∷ ts) p c u =
    ⊎_elim
    (λ w. halve_least t.all (p t.part.block w.1.0) (spanned_at t.part.span (p t.part.block 0) (λ j. CanHalve t.all (p t.part.block j)) w.1.0 c.0 w.1.1) w.0 w.1.2)
    (λ w. takes_more ts (kept t p) c.1 w)
    u

apart_one : (a : Part) (cs : List Part) → IsApart a cs → SomeMet a cs → ⊥
apart_one a [] f m = m
apart_one a (c ∷ cs) f m = ⊎_elim (λ w. f.0 w.0 w.1 w.2 w.3) (λ w. apart_one a cs f.1 w) m

apart_all : (cs : List Part) → AreApart cs → AnyMet cs → ⊥
apart_all [] f m = m
apart_all (c ∷ cs) f m = ⊎_elim (λ w. apart_one c cs f.0 w) (λ w. apart_all cs f.1 w) m

split_fine : (f : ℕ) (l r : Child) (p : Piece) → CanTake (left_takes l) p × CanTake (right_takes l r) (all_kept (left_takes l) p) × AreApart (l.hands ++ l.lends) × AreApart (r.hands ++ r.lends) → (SomeUnheld (left_takes l) p ⊎ SomeUnheld (right_takes l r) (all_kept (left_takes l) p)) ⊎ ((SomeLeast (left_takes l) p ⊎ SomeLeast (right_takes l r) (all_kept (left_takes l) p)) ⊎ (AnyMet (l.hands ++ l.lends) ⊎ AnyMet (r.hands ++ r.lends))) → ⊥
split_fine f l r p c u =
    ⊎_elim
    (⊎_elim (takes_held (left_takes l) p c.0) (takes_held (right_takes l r) (all_kept (left_takes l) p) c.1))
    (⊎_elim
    (⊎_elim (takes_more (left_takes l) p c.0) (takes_more (right_takes l r) (all_kept (left_takes l) p) c.1))
    (⊎_elim (apart_all (l.hands ++ l.lends) c.2) (apart_all (r.hands ++ r.lends) c.3)))
    u

no : ⊥ → ⊥
no x = x

plain_case : (f : ℕ) {A B : Type 0} → (A → ⊥) → (B → ⊥) → A ⊎ (B ⊎ ((f < 64) × (⊥ ⊎ (⊥ ⊎ ⊥)))) → ⊥
plain_case f g h u = ⊎_elim g (⊎_elim h (λ w. ⊎_elim no (⊎_elim no no) w.1)) u

pub fine_owned : (f : ℕ) (a : Act) (p : Piece) → Fine f a p → IsUnowned f a p → ⊥
fine_owned f (Go s) p w u = plain_case f no no u
fine_owned f (Read b i k) p w u = plain_case f (λ x. x.1 w) no u
fine_owned f (Write b i v s) p w u = plain_case f no (λ x. x.1 w) u
fine_owned f (Make n k) p w u = plain_case f no no u
fine_owned f (Cut b s) p w u = plain_case f no (λ x. x w) u
fine_owned f (Split l r v) p w u = ⊎_elim no (⊎_elim no (λ x. split_fine f l r p (w x.0) x.1)) u
fine_owned f Over p w u = plain_case f no no u
fine_owned f (Bad r) p w u = w

-- in a heap that has what is held, a held word lies before the end of its block
past_free : (c : Cell) (x y : Share) (i : ℕ) → Fits x (at_place c 0) → Fits y (at_place c (suc i)) → IsPast x i → IsHeld y → ⊥
past_free c Nil y i f g w h = w
past_free c Clash y i f g w h = w
past_free c (Some_of n k) Nil i f g w h = h
past_free c (Some_of n k) Clash i f g w h = h
past_free Never (Some_of n k) (Some_of v j) i f g w h = cc f.0
past_free Freed (Some_of n k) (Some_of v j) i f g w h = cc f.0
past_free (Live ws) (Some_of n k) (Some_of v j) i f g w h = omega (arith, slice_get_within ws i v g.0, some_same (length ws) n f.0, w)

pub fine_free : (f : ℕ) (a : Act) (p : Piece) (h : Heap) → Holds p h → Fine f a p → IsStuckBy a p → ⊥
fine_free f (Go s) p h hs w u = u
fine_free f (Read b i k) p h hs w u = past_free (h.cells b) (p b 0) (p b (suc i)) i (hs.places b 0) (hs.places b (suc i)) u w
fine_free f (Write b i v s) p h hs w u = past_free (h.cells b) (p b 0) (p b (suc i)) i (hs.places b 0) (hs.places b (suc i)) u (whole_held (p b (suc i)) w)
fine_free f (Make n k) p h hs w u = u
fine_free f (Cut b s) p h hs w u = u
fine_free f (Split l r v) p h hs w u = u
fine_free f Over p h hs w u = u
fine_free f (Bad r) p h hs w u = w

-- ---- and where none of them is so, the leaf is fine

tell : (b : Bool) → (b ≡ true) ⊎ (b ≡ false)
tell true = inl refl
tell false = inr refl

-- each of so many, or one that is not
search_below : (n : ℕ) (P Q : ℕ → Type 0) → ((i : ℕ) → P i ⊎ Q i) → ((i : ℕ) → i < n → P i) ⊎ ((i : ℕ) × (i < n) × Q i)
search_below zero P Q d = inl (λ i lt. let g : ⊥ = omega (arith, lt) in absurd g)
search_below (suc n) P Q d =
    ⊎_elim
    (λ f. ⊎_elim
    (λ w. inl (λ i lt. ⊎_elim (λ l. f i l) (λ l. let e : n ≡ i = omega (arith, l, lt) in subst P e w) (let o : (i < n) ⊎ (n ≤ i) = grind arith in o)))
    (λ w. inr (n, omega arith, w))
    (d n))
    (λ w. inr (w.0, omega (arith, w.1), w.2))
    (search_below n P Q d)

held_or : (x : Share) → IsHeld x ⊎ (IsHeld x → ⊥)
held_or Nil = inr no
held_or (Some_of v k) = inl tt
held_or Clash = inr no

equal_or : (a b : ℕ) → (a ≡ b) ⊎ (a ≡ b → ⊥)
equal_or a b = ⊎_elim (λ w. inl w.1) (λ w. inr w.1) (eqb_tells a b)

whole_or : (x : Share) → IsWhole x ⊎ (IsWhole x → ⊥)
whole_or Nil = inr no
whole_or (Some_of v k) = equal_or (suc k) whole
whole_or Clash = inr no

past_or : (x : Share) (i : ℕ) → IsPast x i ⊎ (IsPast x i → ⊥)
past_or Nil i = inr no
past_or (Some_of n k) i = ⊎_elim (λ w. inl w) (λ w. inr (λ z. omega (arith, w, z))) (let o : (n ≤ i) ⊎ (i < n) = grind arith in o)
past_or Clash i = inr no

block_or : (x : Share) (at : ℕ → Share) → AllWhole x at ⊎ (AllWhole x at → ⊥)
block_or Nil at = inr no
block_or Clash at = inr no
block_or (Some_of n k) at =
    ⊎_elim
    (λ e. ⊎_elim (λ f. inl (e, f)) (λ w. inr (λ z. w.2 (z.1 w.0 w.1)))
    (search_below n (λ i. IsWhole (at (suc i))) (λ i. IsWhole (at (suc i)) → ⊥) (λ i. whole_or (at (suc i)))))
    (λ e. inr (λ z. e z.0))
    (equal_or (suc k) whole)

-- why a place cannot be given
abbrev Lacks : Bool → Share → Type 0
Lacks all x = (IsHeld x → ⊥) ⊎ ((all ≡ false) × IsLeast x)

halve_or : (all : Bool) (x : Share) → CanHalve all x ⊎ Lacks all x
halve_or true Nil = inr (inl no)
halve_or false Nil = inr (inl no)
halve_or true Clash = inr (inl no)
halve_or false Clash = inr (inl no)
halve_or true (Some_of v k) = inl tt
halve_or false (Some_of v k) = ⊎_elim (λ w. inl w) (λ w. inr (inr (refl, w))) (let o : (0 < k) ⊎ (k ≡ 0) = grind arith in o)

module _ (P Q : ℕ → Type 0) (d : (j : ℕ) → P j ⊎ Q j) where
  span_or : (s : Option (ℕ × ℕ)) (x : Share) → (P 0 → IsHeld x) → Spanned s x P ⊎ ((j : ℕ) × HasSpan s x j × Q j)
  span_or (Some s) x g =
      ⊎_elim
      (λ f. inl (λ i lo hi. f i hi lo))
      (λ w. inr (suc w.0, (w.0, refl, w.2.0, w.1), w.2.1))
      (search_below (s.0 + s.1) (λ i. s.0 ≤ i → P (suc i)) (λ i. (s.0 ≤ i) × Q (suc i))
      (λ i. ⊎_elim
      (λ lo. ⊎_elim (λ y. inl (λ z. y)) (λ y. inr (lo, y)) (d (suc i)))
      (λ hi. inl (λ z. let e : ⊥ = omega (arith, hi, z) in absurd e))
      (let o : (s.0 ≤ i) ⊎ (i < s.0) = grind arith in o)))
  span_or None Nil g = ⊎_elim (λ y. absurd (g y)) (λ y. inr (0, inl refl, y)) (d 0)
  span_or None Clash g = ⊎_elim (λ y. absurd (g y)) (λ y. inr (0, inl refl, y)) (d 0)
  span_or None (Some_of n k) g =
      ⊎_elim
      (λ y. ⊎_elim (λ f. inl (y, f)) (λ w. inr (suc w.0, inr w.1, w.2)) (search_below n (λ i. P (suc i)) (λ i. Q (suc i)) (λ i. d (suc i))))
      (λ y. inr (0, inl refl, y))
      (d 0)

takes_or : (ts : List Take) (p : Piece) → CanTake ts p ⊎ (SomeUnheld ts p ⊎ SomeLeast ts p)
takes_or [] p = inl tt
takes_or (t ∷ ts) p =
    ⊎_elim
    (λ c. ⊎_elim (λ cs. inl (c, cs)) (⊎_elim (λ u. inr (inl (inr u))) (λ u. inr (inr (inr u)))) (takes_or ts (kept t p)))
    (λ w. ⊎_elim (λ u. inr (inl (inl (w.0, w.1, u)))) (λ u. inr (inr (inl (u.0, (w.0, w.1, u.1))))) w.2)
    (span_or (λ j. CanHalve t.all (p t.part.block j)) (λ j. Lacks t.all (p t.part.block j)) (λ j. halve_or t.all (p t.part.block j)) t.part.span (p t.part.block 0) (halve_held t.all (p t.part.block 0)))

-- a place behind one at which a span may begin
in_first : (s : ℕ × ℕ) (m j : ℕ) → s.0 ≤ m → m < j → in_span (Some s) j ≡ true → in_span (Some s) (suc m) ≡ true
in_first s m j le lt e =
    let w = and_parts (nat_lt s.0 j) (nat_le j (s.0 + s.1)) e in
    rw (lt-ltb s.0 (suc m) (omega (arith, le)), le-leb (suc m) (s.0 + s.1) (omega (arith, lt, leb-true j (s.0 + s.1) w.1))) refl

span_after : (s : ℕ × ℕ) (j : ℕ) → in_span (Some s) j ≡ true → s.0 < j
span_after s j e = ltb-true s.0 j (and_parts (nat_lt s.0 j) (nat_le j (s.0 + s.1)) e).0

abbrev Common : Option (ℕ × ℕ) → Option (ℕ × ℕ) → Type 0
Common s t = (j : ℕ) × (in_span s j ≡ true) × (in_span t j ≡ true)

abbrev Apart : Option (ℕ × ℕ) → Option (ℕ × ℕ) → Type 0
Apart s t = (j : ℕ) → in_span s j ≡ true → in_span t j ≡ true → ⊥

not_both : (b : Bool) → b ≡ true → b ≡ false → ⊥
not_both b e f = let g : true ≡ false = sym e ∙ f in cc g

spans_or : (s t : Option (ℕ × ℕ)) → Apart s t ⊎ Common s t
spans_or None None = inr (0, refl, refl)
spans_or None (Some t) =
    ⊎_elim
    (λ e. inr (suc t.0, refl, e))
    (λ e. inl (λ j x y. not_both (in_span (Some t) (suc t.0)) (in_first t t.0 j (omega arith) (span_after t j y) y) e))
    (tell (in_span (Some t) (suc t.0)))
spans_or (Some s) None =
    ⊎_elim
    (λ e. inr (suc s.0, e, refl))
    (λ e. inl (λ j x y. not_both (in_span (Some s) (suc s.0)) (in_first s s.0 j (omega arith) (span_after s j x) x) e))
    (tell (in_span (Some s) (suc s.0)))
spans_or (Some s) (Some t) =
    let m = max s.0 t.0 in
    ⊎_elim
    (λ e. ⊎_elim
    (λ d. inr (suc m, e, d))
    (λ d. inl (λ j x y. not_both (in_span (Some t) (suc m)) (in_first t m j (omega arith) (omega (arith, span_after s j x, span_after t j y)) y) d))
    (tell (in_span (Some t) (suc m))))
    (λ e. inl (λ j x y. not_both (in_span (Some s) (suc m)) (in_first s m j (omega arith) (omega (arith, span_after s j x, span_after t j y)) x) e))
    (tell (in_span (Some s) (suc m)))

and_both : (x y : Bool) → x ≡ true → y ≡ true → (x && y) ≡ true
and_both x y e f = ap (λ b. b && y) e ∙ f

parts_or : (a c : Part) → ((b j : ℕ) → in_part a b j ≡ true → in_part c b j ≡ true → ⊥) ⊎ AreMet a c
parts_or a c =
    ⊎_elim
    (λ e. ⊎_elim
    (λ f. inl (λ b j x y. f j (and_parts (eqb b a.block) (in_span a.span j) x).1 (and_parts (eqb b c.block) (in_span c.span j) y).1))
    (λ w. inr (a.block, w.0, and_both (eqb a.block a.block) (in_span a.span w.0) (eq-eqb a.block a.block refl) w.1, and_both (eqb a.block c.block) (in_span c.span w.0) e.0 w.2))
    (spans_or a.span c.span))
    (λ e. inl (λ b j x y. e.1 (sym (eqb-true b a.block (and_parts (eqb b a.block) (in_span a.span j) x).0) ∙ eqb-true b c.block (and_parts (eqb b c.block) (in_span c.span j) y).0)))
    (eqb_tells a.block c.block)

apart_or : (a : Part) (cs : List Part) → IsApart a cs ⊎ SomeMet a cs
apart_or a [] = inl tt
apart_or a (c ∷ cs) = ⊎_elim (λ f. ⊎_elim (λ g. inl (f, g)) (λ w. inr (inr w)) (apart_or a cs)) (λ w. inr (inl w)) (parts_or a c)

all_apart_or : (cs : List Part) → AreApart cs ⊎ AnyMet cs
all_apart_or [] = inl tt
all_apart_or (c ∷ cs) = ⊎_elim (λ f. ⊎_elim (λ g. inl (f, g)) (λ w. inr (inr w)) (all_apart_or cs)) (λ w. inr (inl w)) (apart_or c cs)

split_or : (f : ℕ) (l r : Child) (p : Piece) → f < 64 → (CanTake (left_takes l) p × CanTake (right_takes l r) (all_kept (left_takes l) p) × AreApart (l.hands ++ l.lends) × AreApart (r.hands ++ r.lends)) ⊎ ((SomeUnheld (left_takes l) p ⊎ SomeUnheld (right_takes l r) (all_kept (left_takes l) p)) ⊎ ((SomeLeast (left_takes l) p ⊎ SomeLeast (right_takes l r) (all_kept (left_takes l) p)) ⊎ (AnyMet (l.hands ++ l.lends) ⊎ AnyMet (r.hands ++ r.lends))))
split_or f l r p lt =
    ⊎_elim
    (λ a. ⊎_elim
    (λ b. ⊎_elim
    (λ c. ⊎_elim (λ d. inl (a, b, c, d)) (λ w. inr (inr (inr (inr w)))) (all_apart_or (r.hands ++ r.lends)))
    (λ w. inr (inr (inr (inl w))))
    (all_apart_or (l.hands ++ l.lends)))
    (⊎_elim (λ w. inr (inl (inr w))) (λ w. inr (inr (inl (inr w)))))
    (takes_or (right_takes l r) (all_kept (left_takes l) p)))
    (⊎_elim (λ w. inr (inl (inl w))) (λ w. inr (inr (inl (inl w)))))
    (takes_or (left_takes l) p)

pub fine_or : (f : ℕ) (a : Act) (p : Piece) → Fine f a p ⊎ (IsStuckBy a p ⊎ IsUnowned f a p)
fine_or f (Go s) p = inl tt
fine_or f (Read b i k) p =
    ⊎_elim (λ w. inl w)
    (λ w. ⊎_elim (λ x. inr (inl x)) (λ x. inr (inr (inl (x, w)))) (past_or (p b 0) i))
    (held_or (p b (suc i)))
fine_or f (Write b i v s) p =
    ⊎_elim (λ w. inl w)
    (λ w. ⊎_elim (λ x. inr (inl x)) (λ x. inr (inr (inr (inl (x, w))))) (past_or (p b 0) i))
    (whole_or (p b (suc i)))
fine_or f (Make n k) p = inl tt
fine_or f (Cut b s) p = ⊎_elim (λ w. inl w) (λ w. inr (inr (inr (inl w)))) (block_or (p b 0) (p b))
fine_or f (Split l r v) p =
    ⊎_elim
    (λ lt. ⊎_elim (λ w. inl (λ z. w)) (λ w. inr (inr (inr (inr (lt, w))))) (split_or f l r p lt))
    (λ le. inl (λ z. let e : ⊥ = omega (arith, le, z) in absurd e))
    (let o : (f < 64) ⊎ (64 ≤ f) = grind arith in o)
fine_or f Over p = inl tt
fine_or f (Bad r) p = inr (inl tt)
