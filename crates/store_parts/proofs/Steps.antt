-- What tests of places come to.
use Rattle.std.proofs.Common.{◌≡◌, ◌≢◌, ℕ, zero, suc, ◌+◌, ◌-◌, ◌*◌, ◌/◌, ◌^◌, ◌<◌, ◌≤◌, ◌⊎◌, inl, inr, ⊎_elim, Bool, true, false, cond, ◌&&◌, List, [], ◌∷◌, ◌++◌, map, length, take, drop, refl, sym, ap, ◌∙◌, subst, arith, append_assoc, eqb, eq-eqb, eqb-true, lt-ltb, le-leb, ltb-true, leb-true}
use Rattle.std.specs.Prelude.{Option, Some, None, MatchOption, nat_lt, nat_le, slice_get}
use Rattle.store_parts.proofs.Takings.{can_give_by}
use Rattle.target_meaning.specs.Leaf as leaf
use Rattle.target_meaning.specs.Piece.{Share, Nil, Some_of, Clash, Piece, share_of}
use Rattle.target_meaning.specs.Held.{CanHalve, IsApart, Places, Spanned, Take, all_kept, in_part, in_span, is_among, kept, kept_share}
use Rattle.target_meaning.specs.Turns.{part_of}
use Rattle.target_meaning.specs.declared.frame.Part.{Part}
use Rattle.target_meaning.specs.declared.frame.Starting.{Starting}
use Rattle.branch_exec.specs.Stores.{AllTakable, CanGive, CannotGive, FirstRefused, IsTakable, offset_of, takes_of_left}
use Rattle.store_parts.specs.Tests.{AllWords, AreApart, Fails, SpansApart, WordsApart, Passed, Tells, all_by, left_by, piece_after, takes_by}

-- one place after several takings
pub left_is : (ts : List Take) (p : Piece) (b j : ℕ) → all_kept ts p b j ≡ left_by ts b j (p b j)
left_is [] p b j = refl
left_is (t ∷ ts) p b j = left_is ts (kept t p) b j

pub left_append : (xs ys : List Take) (b j : ℕ) (x : Share) → left_by (xs ++ ys) b j x ≡ left_by ys b j (left_by xs b j x)
left_append [] ys b j x = refl
left_append (t ∷ xs) ys b j x = left_append xs ys b j (kept_share (in_part t.part b j) t.all x)

pub left_two : (l : Starting) (p : Piece) (b j : ℕ) (x y z : Share) → x ≡ p b j
    → y ≡ left_by (map (λ q. record { part = q; all = true }) (map part_of l.hands.items)) b j x
    → z ≡ left_by (map (λ q. record { part = q; all = false }) (map part_of l.lends.items)) b j y → z ≡ all_kept (takes_of_left l) p b j
left_two l p b j x y z e f g =
    g ∙ (ap (left_by (map (λ q. record { part = q; all = false }) (map part_of l.lends.items)) b j) (f ∙ ap (left_by (map (λ q. record { part = q; all = true }) (map part_of l.hands.items)) b j) e)
    ∙ sym (left_is (takes_of_left l) p b j
    ∙ left_append (map (λ q. record { part = q; all = true }) (map part_of l.hands.items)) (map (λ q. record { part = q; all = false }) (map part_of l.lends.items)) b j (p b j)))

-- lists
pub take_snoc : {A : Type 0} (xs : List A) (i : ℕ) (x : A) → slice_get xs i ≡ Some x → take (suc i) xs ≡ take i xs ++ x ∷ []
take_snoc [] i x e = absurd (let z : ⊥ = cc e in z)
take_snoc (y ∷ xs) zero x e = let f : y ≡ x = cc e in ap (λ z. z ∷ []) f
take_snoc (y ∷ xs) (suc i) x e = ap (λ z. y ∷ z) (take_snoc xs i x e)

pub split_at : {A : Type 0} (xs : List A) (i : ℕ) (x : A) → slice_get xs i ≡ Some x → xs ≡ take i xs ++ x ∷ drop (suc i) xs
split_at [] i x e = absurd (let z : ⊥ = cc e in z)
split_at (y ∷ xs) zero x e = let f : y ≡ x = cc e in ap (λ z. z ∷ xs) f
split_at (y ∷ xs) (suc i) x e = ap (λ z. y ∷ z) (split_at xs i x e)

pub take_whole : {A : Type 0} (xs : List A) (n : ℕ) → length xs ≤ n → take n xs ≡ xs
take_whole [] zero h = refl
take_whole [] (suc n) h = refl
take_whole (x ∷ xs) zero h = absurd (let z : ⊥ = omega arith in z)
take_whole (x ∷ xs) (suc n) h = ap (λ z. x ∷ z) (take_whole xs n (omega arith))

takes_append : (all : Bool) (lent xs ys : List Part) → takes_by all lent (xs ++ ys) ≡ takes_by all lent xs ++ takes_by all lent ys
takes_append all lent [] ys = refl
takes_append all lent (x ∷ xs) ys = ap (λ z. record { part = part_of x; all = all_by all lent (part_of x) } ∷ z) (takes_append all lent xs ys)

parts_append : (xs ys : List Part) → map part_of (xs ++ ys) ≡ map part_of xs ++ map part_of ys
parts_append [] ys = refl
parts_append (x ∷ xs) ys = ap (λ z. part_of x ∷ z) (parts_append xs ys)

append_none : {A : Type 0} (xs : List A) → xs ++ [] ≡ xs
append_none [] = refl
append_none (x ∷ xs) = ap (λ z. x ∷ z) (append_none xs)

-- the beginning of a list
pub passed_none : (seen : List leaf.Part) (all : Bool) (lent : List Part) (q : Piece) → Passed seen all lent [] q
passed_none seen all lent q = record {
  taken = λ us h. subst (λ z. AllTakable z us q) (append_none seen) h;
  refused = λ us b o h. subst (λ z. FirstRefused z us q b o) (append_none seen) h;
}

module _ (seen : List leaf.Part) (all : Bool) (lent list : List Part) (q : Piece) (i : ℕ) (x : Part) (at : slice_get list i ≡ Some x) where
  abbrev pre : List Part
  pre = take i list

  abbrev t : Take
  t = record { part = part_of x; all = all_by all lent (part_of x) }

  pre_takes : (us : List Take) → takes_by all lent pre ++ (t ∷ us) ≡ takes_by all lent (take (suc i) list) ++ us
  pre_takes us = sym (ap (λ z. takes_by all lent z ++ us) (take_snoc list i x at) ∙ (ap (λ z. z ++ us) (takes_append all lent pre (x ∷ [])) ∙ append_assoc (takes_by all lent pre) (t ∷ []) us))

  pre_seen : seen ++ map part_of (take (suc i) list) ≡ (seen ++ map part_of pre) ++ part_of x ∷ []
  pre_seen = ap (λ z. seen ++ map part_of z) (take_snoc list i x at) ∙ (ap (λ z. seen ++ z) (parts_append pre (x ∷ [])) ∙ sym (append_assoc seen (map part_of pre) (part_of x ∷ [])))

  pub passed_on : Passed seen all lent pre q → IsTakable (seen ++ map part_of pre) t q → Passed seen all lent (take (suc i) list) q
  passed_on h w = record {
    taken = λ us k. subst (λ z. AllTakable seen z q) (pre_takes us) (h.taken (t ∷ us) (w, subst (λ z. AllTakable z us q) pre_seen k));
    refused = λ us b o k. subst (λ z. FirstRefused seen z q b o) (pre_takes us) (h.refused (t ∷ us) b o (inr (w, subst (λ z. FirstRefused z us q b o) pre_seen k)));
  }

  pub fails_here : (b o : ℕ) → Passed seen all lent pre q → (IsTakable (seen ++ map part_of pre) t q → ⊥) → b ≡ x.block → o ≡ offset_of x.span → Fails seen all lent list q b o
  fails_here b o h w e f us =
      subst (λ z. FirstRefused seen z q b o)
      (sym (ap (λ z. takes_by all lent z ++ us) (split_at list i x at) ∙ (ap (λ z. z ++ us) (takes_append all lent pre (x ∷ drop (suc i) list)) ∙ append_assoc (takes_by all lent pre) (t ∷ takes_by all lent (drop (suc i) list)) us)))
      (h.refused (t ∷ (takes_by all lent (drop (suc i) list) ++ us)) b o (inl (w, e, f)))

-- a test
pub by_test : (P : Type 0) (b : Bool) → (b ≡ true → P) → (b ≡ false → P → ⊥) → Tells b P
by_test P true f g = f refl
by_test P false f g = g refl

pub tells_map : (P Q : Type 0) (b : Bool) → (P → Q) → (Q → P) → Tells b P → Tells b Q
tells_map P Q true f g h = f h
tells_map P Q false f g h = λ q. h (g q)

not_le : (m n : ℕ) → nat_le m n ≡ false → n < m
not_le m n e = ⊎_elim (λ (h : m ≤ n). absurd (let z : true ≡ false = sym (le-leb m n h) ∙ e in let y : ⊥ = cc z in y)) (λ (h : n < m). h) (let o : (m ≤ n) ⊎ (n < m) = grind arith in o)

pub words_none : (a b : ℕ × ℕ) → a.1 ≡ 0 → WordsApart a b
words_none a b e i l h m k = omega arith

pub words_none_two : (a b : ℕ × ℕ) → b.1 ≡ 0 → WordsApart a b
words_none_two a b e i l h m k = omega arith

pub words_le : (a b : ℕ × ℕ) → (a.1 ≡ 0 → ⊥) → (b.1 ≡ 0 → ⊥) → a.0 ≤ b.0 → Tells (nat_le a.1 (b.0 - a.0)) (WordsApart a b)
words_le a b x y z = by_test (WordsApart a b) (nat_le a.1 (b.0 - a.0))
    (λ e i l h m k. let w = leb-true a.1 (b.0 - a.0) e in omega arith)
    (λ e f. let w = not_le a.1 (b.0 - a.0) e in f b.0 z (omega arith) (omega arith) (omega arith))

pub words_gt : (a b : ℕ × ℕ) → (a.1 ≡ 0 → ⊥) → (b.1 ≡ 0 → ⊥) → b.0 < a.0 → Tells (nat_le b.1 (a.0 - b.0)) (WordsApart a b)
words_gt a b x y z = by_test (WordsApart a b) (nat_le b.1 (a.0 - b.0))
    (λ e i l h m k. let w = leb-true b.1 (a.0 - b.0) e in omega arith)
    (λ e f. let w = not_le b.1 (a.0 - b.0) e in f a.0 (omega arith) (omega arith) (omega arith) (omega arith))

-- a place of a span
and_true : (a b : Bool) → (a && b) ≡ true → (a ≡ true) × (b ≡ true)
and_true true b e = (refl, e)
and_true false b e = absurd (let z : ⊥ = cc e in z)

and_both : (a b : Bool) → a ≡ true → b ≡ true → (a && b) ≡ true
and_both true b e f = f
and_both false b e f = absurd (let z : ⊥ = cc e in z)

span_word : (s : ℕ × ℕ) (j : ℕ) → in_span (Some s) j ≡ true → (s.0 < j) × (j ≤ s.0 + s.1)
span_word s j e = let w = and_true (nat_lt s.0 j) (nat_le j (s.0 + s.1)) e in (ltb-true s.0 j w.0, leb-true j (s.0 + s.1) w.1)

word_span : (s : ℕ × ℕ) (j : ℕ) → s.0 < j → j ≤ s.0 + s.1 → in_span (Some s) j ≡ true
word_span s j l h = and_both (nat_lt s.0 j) (nat_le j (s.0 + s.1)) (lt-ltb s.0 j l) (le-leb j (s.0 + s.1) h)

pub spans_words : (a b : ℕ × ℕ) (t : Bool) → Tells t (WordsApart a b) → Tells t (SpansApart (Some a) (Some b))
spans_words a b t h = tells_map (WordsApart a b) (SpansApart (Some a) (Some b)) t
    (λ f j x y. let u = span_word a j x in let v = span_word b j y in let u0 = u.0 in let u1 = u.1 in let v0 = v.0 in let v1 = v.1 in f (j - 1) (omega arith) (omega arith) (omega arith) (omega arith))
    (λ f i l k m n. f (suc i) (word_span a (suc i) (omega arith) (omega arith)) (word_span b (suc i) (omega arith) (omega arith))) h

pub spans_none : SpansApart None None → ⊥
spans_none f = f 0 refl refl

pub spans_left : (s : ℕ × ℕ) → Tells (eqb s.1 0) (SpansApart None (Some s))
spans_left s = by_test (SpansApart None (Some s)) (eqb s.1 0)
    (λ e j x y. let u = span_word s j y in let u0 = u.0 in let u1 = u.1 in let z = eqb-true s.1 0 e in omega arith)
    (λ e f. f (suc s.0) refl (word_span s (suc s.0) (omega arith) (nonzero s.1 e)))
  where
    nonzero : (n : ℕ) → eqb n 0 ≡ false → suc s.0 ≤ s.0 + n
    nonzero zero e = absurd (let z : ⊥ = cc e in z)
    nonzero (suc n) e = omega arith

pub spans_right : (s : ℕ × ℕ) → Tells (eqb s.1 0) (SpansApart (Some s) None)
spans_right s = tells_map (SpansApart None (Some s)) (SpansApart (Some s) None) (eqb s.1 0) (λ f j x y. f j y x) (λ f j x y. f j y x) (spans_left s)

pub parts_spans : (p q : leaf.Part) (t : Bool) → p.block ≡ q.block → Tells t (SpansApart p.span q.span) → Tells t (AreApart p q)
parts_spans p q t e h = tells_map (SpansApart p.span q.span) (AreApart p q) t
    (λ f b j x y. f j (and_true (eqb b p.block) (in_span p.span j) x).1 (and_true (eqb b q.block) (in_span q.span j) y).1)
    (λ f j x y. f p.block j (and_both (eqb p.block p.block) (in_span p.span j) (eq-eqb p.block p.block refl) x) (and_both (eqb p.block q.block) (in_span q.span j) (eq-eqb p.block q.block e) y)) h

-- what is held of no place
left_nil : (ts : List Take) (b j : ℕ) → left_by ts b j Nil ≡ Nil
left_nil [] b j = refl
left_nil (t ∷ ts) b j = ap (left_by ts b j) (kept_nil (in_part t.part b j) t.all) ∙ left_nil ts b j
  where
    kept_nil : (x y : Bool) → kept_share x y Nil ≡ Nil
    kept_nil true true = refl
    kept_nil true false = refl
    kept_nil false y = refl

pub after_nil : (o : Option Starting) (p : Piece) (b j : ℕ) → p b j ≡ Nil → piece_after o p b j ≡ Nil
after_nil None p b j e = e
after_nil (Some l) p b j e = left_is (takes_of_left l) p b j ∙ (ap (left_by (takes_of_left l) b j) e ∙ left_nil (takes_of_left l) b j)

no_half : (all : Bool) → CanHalve all Nil → ⊥
no_half true h = h
no_half false h = h

pub words_far : (all : Bool) (p : Piece) (b o n made : ℕ) → made < n → ((b j : ℕ) → 2 ^ 64 ≤ j → p b j ≡ Nil) → 2 ^ 64 ≤ suc (o + made) → AllWords all p b o n → ⊥
words_far all p b o n made lt far big h = no_half all (subst (CanHalve all) (far b (suc (o + made)) big) (h (o + made) (omega arith) (omega arith)))

pub word_fails : (all : Bool) (p : Piece) (b o n made j : ℕ) (x : Share) → made < n → j ≡ suc (o + made) → x ≡ p b j → (CanHalve all x → ⊥) → AllWords all p b o n → ⊥
word_fails all p b o n made j x lt e f g h = g (subst (CanHalve all) (sym (f ∙ ap (p b) e)) (h (o + made) (omega arith) (omega arith)))

-- a part that is apart from two lists
apart_both : (p : leaf.Part) (xs ys : List leaf.Part) → IsApart p xs → IsApart p ys → IsApart p (xs ++ ys)
apart_both p [] ys h k = k
apart_both p (x ∷ xs) ys h k = (h.0, apart_both p xs ys h.1 k)

apart_one : (p : leaf.Part) (xs ys : List leaf.Part) → IsApart p (xs ++ ys) → IsApart p xs × IsApart p ys
apart_one p [] ys h = (tt, h)
apart_one p (x ∷ xs) ys h = let r = apart_one p xs ys h.1 in ((h.0, r.0), r.1)

pub takable_tells : (xs ys : List leaf.Part) (t : Take) (q : Piece) (b : Bool) → IsApart t.part xs → IsApart t.part ys → Tells b (Places t.part q (λ j. CanHalve t.all (q t.part.block j))) → Tells b (IsTakable (xs ++ ys) t q)
takable_tells xs ys t q b h k w = tells_map (Places t.part q (λ j. CanHalve t.all (q t.part.block j))) (IsTakable (xs ++ ys) t q) b (λ z. (z, apart_both t.part xs ys h k)) (λ z. z.0) w

pub not_first : (xs ys : List leaf.Part) (t : Take) (q : Piece) → (IsApart t.part xs → ⊥) → IsTakable (xs ++ ys) t q → ⊥
not_first xs ys t q h z = h (apart_one t.part xs ys z.1).0

pub not_second : (xs ys : List leaf.Part) (t : Take) (q : Piece) → (IsApart t.part ys → ⊥) → IsTakable (xs ++ ys) t q → ⊥
not_second xs ys t q h z = h (apart_one t.part xs ys z.1).1

-- a step of the test of a list
pub drop_get : {A : Type 0} (xs : List A) (i : ℕ) (x : A) → slice_get xs i ≡ Some x → drop i xs ≡ x ∷ drop (suc i) xs
drop_get [] i x e = absurd (let z : ⊥ = cc e in z)
drop_get (y ∷ xs) zero x e = let f : y ≡ x = cc e in ap (λ z. z ∷ xs) f
drop_get (y ∷ xs) (suc i) x e = drop_get xs i x e

pub apart_next : (p : leaf.Part) (xs : List Part) (i : ℕ) (x : Part) → slice_get xs i ≡ Some x → AreApart p (part_of x)
    → (IsApart p (map part_of (drop i xs)) → IsApart p (map part_of xs)) × (IsApart p (map part_of xs) → IsApart p (map part_of (drop i xs)))
    → (IsApart p (map part_of (drop (i + 1) xs)) → IsApart p (map part_of xs)) × (IsApart p (map part_of xs) → IsApart p (map part_of (drop (i + 1) xs)))
apart_next p xs i x e a h =
    let one : suc i ≡ i + 1 = omega arith in
    let d : drop i xs ≡ x ∷ drop (i + 1) xs = subst (λ k. drop i xs ≡ x ∷ drop k xs) one (drop_get xs i x e) in
    (λ z. h.0 (subst (λ l. IsApart p (map part_of l)) (sym d) (a, z)), λ z. (subst (λ l. IsApart p (map part_of l)) d (h.1 z)).1)

-- the answer of a test, read otherwise
pub match_map : (o : Option (ℕ × ℕ)) (A C : Type 0) (B D : ℕ × ℕ → Type 0) → (A → C) → ((f : ℕ × ℕ) → B f → D f) → MatchOption o A B → MatchOption o C D
match_map None A C B D f g h = f h
match_map (Some x) A C B D f g h = g x h

pub branch_passed : (lent hs ls hs2 ls2 : List Part) (q : Piece) → hs ≡ hs2 → ls ≡ ls2 → Passed [] true [] hs q → Passed (map part_of hs) false lent ls q → AllTakable [] (takes_by true [] hs2 ++ takes_by false lent ls2) q
branch_passed lent hs ls hs2 ls2 q e f h k =
    subst (λ z. AllTakable [] (takes_by true [] z ++ takes_by false lent ls2) q) e
    (subst (λ z. AllTakable [] (takes_by true [] hs ++ takes_by false lent z) q) f
    (h.taken (takes_by false lent ls) (subst (λ z. AllTakable (map part_of hs) z q) (append_none (takes_by false lent ls)) (k.taken [] tt))))

pub branch_fails : (lent hs ls hs2 ls2 : List Part) (q : Piece) (b o : ℕ) → hs ≡ hs2 → ls ≡ ls2 → Passed [] true [] hs q → Fails (map part_of hs) false lent ls q b o → FirstRefused [] (takes_by true [] hs2 ++ takes_by false lent ls2) q b o
branch_fails lent hs ls hs2 ls2 q b o e f h k =
    subst (λ z. FirstRefused [] (takes_by true [] z ++ takes_by false lent ls2) q b o) e
    (subst (λ z. FirstRefused [] (takes_by true [] hs ++ takes_by false lent z) q b o) f
    (h.refused (takes_by false lent ls) b o (subst (λ z. FirstRefused (map part_of hs) z q b o) (append_none (takes_by false lent ls)) (k []))))

pub give_by : (p : Piece) (l r : Starting) (lent : List Part) (o : Option (ℕ × ℕ)) → lent ≡ l.lends.items → AllTakable [] (takes_by true [] l.hands.items ++ takes_by false [] l.lends.items) p
    → MatchOption o (AllTakable [] (takes_by true [] r.hands.items ++ takes_by false lent r.lends.items) (all_kept (takes_of_left l) p)) (λ f. FirstRefused [] (takes_by true [] r.hands.items ++ takes_by false lent r.lends.items) (all_kept (takes_of_left l) p) f.0 f.1)
    → MatchOption o (CanGive p l r) (λ f. CannotGive p l r f.0 f.1)
give_by p l r lent o e h k =
    let q : Piece = all_kept (takes_of_left l) p in
    match_map o (AllTakable [] (takes_by true [] r.hands.items ++ takes_by false lent r.lends.items) q) (CanGive p l r)
    (λ f. FirstRefused [] (takes_by true [] r.hands.items ++ takes_by false lent r.lends.items) q f.0 f.1) (λ f. CannotGive p l r f.0 f.1)
    (λ z. can_give_by p l r h (subst (λ w. AllTakable [] (takes_by true [] r.hands.items ++ takes_by false w r.lends.items) q) e z))
    (λ f z. inr (h, subst (λ w. FirstRefused [] (takes_by true [] r.hands.items ++ takes_by false w r.lends.items) q f.0 f.1) e z))
    k
