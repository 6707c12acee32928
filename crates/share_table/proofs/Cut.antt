-- What is left of an entry beside some places.
use Rattle.std.proofs.Common.{◌≡◌, ◌≢◌, ◌⊎◌, inl, inr, ⊎_elim, ℕ, zero, suc, ◌+◌, ◌-◌, ◌^◌, ◌<◌, ◌≤◌, Bool, min, max, List, [], ◌∷◌, ◌++◌, refl, sym, ap, ◌∙◌, subst, arith, lt_of_not-le}
use Rattle.std.specs.Prelude.{true, false, ◌&&◌, ◌==◌, nat_lt, nat_le, if◌then◌else◌}
use Rattle.std.proofs.lemmas.Bool.Decides.{nat_tests, eqb_tells}
use mathlib.Core.Logic.{dite}
use native.Mathlib.Decide.{dec_le}
use Rattle.share_table.specs.Amounts.{covers, share_at, amount, total, has_name, Measures, Short}
use Rattle.share_table.specs.Outside.{Beside, ranged}
use Rattle.share_table.specs.Takings.{asks, is_between}
use Rattle.share_table.specs.declared.entry.Entry.{Entry}
use Rattle.share_table.specs.declared.entry.Taking.{Taking}
use Rattle.std.proofs.Common.{length, take, get_or, append_assoc}
use Rattle.std.proofs.lemmas.List.{take_more}
use Rattle.share_table.proofs.Sums.{none, amount_append, total_append, measures_append, short_append}

abbrev own : Bool → ℕ → ℕ
own t n = if t then n else 0

-- a share at places that follow one another
abbrev pub span : ℕ → ℕ → ℕ → ℕ → ℕ
span f n s j = own (nat_le f j && nat_lt j (f + n)) s

own_and : (t u : Bool) (n : ℕ) → own (t && u) n ≡ own t (own u n)
own_and true u n = refl
own_and false u n = refl

add_zero : (n : ℕ) → n + 0 ≡ n
add_zero n = omega arith

pub one_amount : (e : Entry) (o b j : ℕ) → amount (e ∷ []) o b j ≡ own (e.owner == o) (own (e.block == b) (span e.first e.count e.share j))
one_amount e o b j = add_zero (own (e.owner == o) (share_at e b j)) ∙ ap (own (e.owner == o)) (own_and (e.block == b) (nat_le e.first j && nat_lt j (e.first + e.count)) e.share)

pub one_total : (e : Entry) (b j : ℕ) → total (e ∷ []) b j ≡ own (e.block == b) (span e.first e.count e.share j)
one_total e b j = add_zero (share_at e b j) ∙ own_and (e.block == b) (nat_le e.first j && nat_lt j (e.first + e.count)) e.share

-- the numbers
module _ (f n lo hi s : ℕ) (order : lo ≤ hi) where
  abbrev inside : ℕ → Bool
  inside j = nat_le lo j && nat_lt j hi

  abbrev rest : ℕ → ℕ
  rest j = if inside j then 0 else span f n s j

  cut_none : (j : ℕ) → lo ≤ f → f + n ≤ hi → 0 ≡ rest j
  cut_none j a b = dite (dec_le f j)
      (λ k. dite (dec_le (f + n) j) (λ l. grind (arith, nat_tests)) (λ l. let m = lt_of_not-le l in grind (arith, nat_tests)))
      (λ k. let m = lt_of_not-le k in grind (arith, nat_tests))

  cut_front : (j c : ℕ) → c ≡ min (f + n) lo - f → f < lo → f + n ≤ hi → span f c s j ≡ rest j
  cut_front j c e a b = dite (dec_le f j)
      (λ k. dite (dec_le lo j)
      (λ l. dite (dec_le (f + n) j) (λ p. grind (arith, nat_tests)) (λ p. let m = lt_of_not-le p in grind (arith, nat_tests)))
      (λ l. let m = lt_of_not-le l in dite (dec_le (f + n) j) (λ p. grind (arith, nat_tests)) (λ p. let q = lt_of_not-le p in grind (arith, nat_tests))))
      (λ k. let m = lt_of_not-le k in grind (arith, nat_tests))

  cut_back : (j g : ℕ) → g ≡ max f hi → lo ≤ f → hi < f + n → span g (f + n - g) s j ≡ rest j
  cut_back j g e a b = dite (dec_le f j)
      (λ k. dite (dec_le hi j)
      (λ l. dite (dec_le (f + n) j) (λ p. grind (arith, nat_tests)) (λ p. let m = lt_of_not-le p in grind (arith, nat_tests)))
      (λ l. let m = lt_of_not-le l in grind (arith, nat_tests)))
      (λ k. let m = lt_of_not-le k in grind (arith, nat_tests))

  cut_both : (j c g : ℕ) → c ≡ min (f + n) lo - f → g ≡ max f hi → f < lo → hi < f + n → span f c s j + span g (f + n - g) s j ≡ rest j
  cut_both j c g e h a b = dite (dec_le f j)
      (λ k. dite (dec_le lo j)
      (λ l. dite (dec_le hi j)
      (λ p. dite (dec_le (f + n) j) (λ q. grind (arith, nat_tests)) (λ q. let m = lt_of_not-le q in grind (arith, nat_tests)))
      (λ p. let m = lt_of_not-le p in grind (arith, nat_tests)))
      (λ l. let m = lt_of_not-le l in grind (arith, nat_tests)))
      (λ k. let m = lt_of_not-le k in grind (arith, nat_tests))

-- pieces that are what is left of an entry
module _ (e : Entry) (t : Taking) where
  pub record Pieces (ps : List Entry) : Type 0 where
    pub amounts : (o b j : ℕ) → amount ps o b j ≡ (if (t.from == o) && asks t b j then 0 else amount (e ∷ []) o b j)
    pub totals : (b j : ℕ) → total ps b j + (if asks t b j then amount (e ∷ []) t.from b j else 0) ≡ total (e ∷ []) b j
    pub lengths : (g : ℕ → ℕ) → Measures (e ∷ []) g → Measures ps g
    pub short : Short (e ∷ []) → Short ps

  pub grown : (old ps new : List Entry) → new ≡ old ++ ps → Pieces ps → Beside (e ∷ []) t old new
  grown old ps new is p = subst (Beside (e ∷ []) t old) (sym is) (record {
    amounts = λ o b j. amount_append old ps o b j ∙ ap (λ n. amount old o b j + n) (p.amounts o b j);
    totals = λ b j. let a = total_append old ps b j in let q = p.totals b j in omega arith;
    lengths = λ g h k. measures_append old ps g h (p.lengths g k);
    short = λ h k. short_append old ps h (p.short k);
  })

  pub grown_two : (old mid new : List Entry) (a b : Entry) → mid ≡ old ++ a ∷ [] → new ≡ mid ++ b ∷ [] → Pieces (a ∷ b ∷ []) → Beside (e ∷ []) t old new
  grown_two old mid new a b m n p = grown old (a ∷ b ∷ []) new (n ∙ (ap (λ l. l ++ b ∷ []) m ∙ append_assoc old (a ∷ []) (b ∷ []))) p

  -- an entry of another branch or of another block
  false_of : (x y z : ℕ) → x ≢ y → y ≡ z → (x == z) ≡ false
  false_of x y z ne e = grind (arith, nat_tests)

  true_of : (x z : ℕ) → (x == z) ≡ true → x ≡ z
  true_of x z h = ⊎_elim (λ p. p.1) (λ p. absurd (never (sym p.0 ∙ h))) (eqb_tells x z)
    where
      never : false ≡ true → ⊥
      never e = cc e

  first_true : (x y : Bool) → x && y ≡ true → x ≡ true
  first_true true y h = refl
  first_true false y h = cc h

  second_true : (x y : Bool) → x && y ≡ true → y ≡ true
  second_true true y h = h
  second_true false y h = cc h

  none_of : (u v : Bool) (n : ℕ) → (u ≡ false) ⊎ (v ≡ false) → own u (own v n) ≡ 0
  none_of true true n (inl e) = cc e
  none_of true false n (inl e) = cc e
  none_of false v n (inl e) = refl
  none_of true true n (inr e) = cc e
  none_of true false n (inr e) = refl
  none_of false v n (inr e) = refl

  nothing_here : (o b j : ℕ) → (e.block ≢ t.block) ⊎ (e.owner ≢ t.from) → (t.from == o) && asks t b j ≡ true → amount (e ∷ []) o b j ≡ 0
  nothing_here o b j ne h =
      let f = true_of t.from o (first_true (t.from == o) (asks t b j) h) in
      let g = true_of t.block b (first_true (t.block == b) (nat_le t.first j && nat_lt j t.end) (second_true (t.from == o) (asks t b j) h)) in
      one_amount e o b j ∙ none_of (e.owner == o) (e.block == b) (span e.first e.count e.share j)
      (⊎_elim (λ x. inr (false_of e.block t.block b x g)) (λ x. inl (false_of e.owner t.from o x f)) ne)

  pick : (c : Bool) (n : ℕ) → (c ≡ true → n ≡ 0) → n ≡ (if c then 0 else n)
  pick true n h = h refl
  pick false n h = refl

  none_if : (c : Bool) (m n : ℕ) → (c ≡ true → n ≡ 0) → m + (if c then n else 0) ≡ m
  none_if true m n h = let z = h refl in omega arith
  none_if false m n h = omega arith

  is_same : (o : ℕ) → (o == o) ≡ true
  is_same o = grind (arith, nat_tests)

  pub other_pieces : (e.block ≢ t.block) ⊎ (e.owner ≢ t.from) → Pieces (e ∷ [])
  other_pieces ne = record {
    amounts = λ o b j. pick ((t.from == o) && asks t b j) (amount (e ∷ []) o b j) (nothing_here o b j ne);
    totals = λ b j. none_if (asks t b j) (total (e ∷ []) b j) (amount (e ∷ []) t.from b j) (λ h. nothing_here t.from b j ne (ap (λ x. x && asks t b j) (is_same t.from) ∙ h));
    lengths = λ g h. h;
    short = λ h. h;
  }

  -- an entry of this branch and this block
  module _ (block : e.block ≡ t.block) (owner : e.owner ≡ t.from) where
    abbrev left_over : (ℕ → ℕ) → ℕ → Type 0
    left_over P j = P j ≡ (if nat_le t.first j && nat_lt j t.end then 0 else span e.first e.count e.share j)

    shape : (x y c : Bool) (n : ℕ) → own x (own y (if c then 0 else n)) ≡ (if x && (y && c) then 0 else own x (own y n))
    shape true true true n = refl
    shape true true false n = refl
    shape true false c n = refl
    shape false y c n = refl

    own_amounts : (P : ℕ → ℕ) (o b j : ℕ) → left_over P j → own (e.owner == o) (own (e.block == b) (P j)) ≡ (if (t.from == o) && asks t b j then 0 else amount (e ∷ []) o b j)
    own_amounts P o b j h =
        ap (λ n. own (e.owner == o) (own (e.block == b) n)) h
        ∙ (shape (e.owner == o) (e.block == b) (nat_le t.first j && nat_lt j t.end) (span e.first e.count e.share j)
        ∙ (ap (λ n. if (e.owner == o) && ((e.block == b) && (nat_le t.first j && nat_lt j t.end)) then 0 else n) (sym (one_amount e o b j))
        ∙ (ap (λ z. if (z == o) && ((e.block == b) && (nat_le t.first j && nat_lt j t.end)) then 0 else amount (e ∷ []) o b j) owner
        ∙ ap (λ z. if (t.from == o) && ((z == b) && (nat_le t.first j && nat_lt j t.end)) then 0 else amount (e ∷ []) o b j) block)))

    total_shape : (x y c : Bool) (n : ℕ) → x ≡ true → own y (if c then 0 else n) + (if y && c then own x (own y n) else 0) ≡ own y n
    total_shape true true true n h = omega arith
    total_shape true true false n h = omega arith
    total_shape true false c n h = refl
    total_shape false y c n h = cc h

    own_totals : (P : ℕ → ℕ) (b j : ℕ) → left_over P j → own (e.block == b) (P j) + (if asks t b j then amount (e ∷ []) t.from b j else 0) ≡ total (e ∷ []) b j
    own_totals P b j h =
        ap (λ n. own (e.block == b) n + (if asks t b j then amount (e ∷ []) t.from b j else 0)) h
        ∙ (ap (λ m. own (e.block == b) (if nat_le t.first j && nat_lt j t.end then 0 else span e.first e.count e.share j) + (if asks t b j then m else 0)) (one_amount e t.from b j)
        ∙ (ap (λ z. own (e.block == b) (if nat_le t.first j && nat_lt j t.end then 0 else span e.first e.count e.share j) + (if (z == b) && (nat_le t.first j && nat_lt j t.end) then own (e.owner == t.from) (own (e.block == b) (span e.first e.count e.share j)) else 0)) (sym block)
        ∙ (total_shape (e.owner == t.from) (e.block == b) (nat_le t.first j && nat_lt j t.end) (span e.first e.count e.share j) (ap (λ z. z == t.from) owner ∙ is_same t.from)
        ∙ sym (one_total e b j))))

    -- a range of its places
    name_ranged : (f n b : ℕ) → e.first ≤ f → f + n ≤ e.first + e.count → has_name (ranged e f n) b ≡ true → has_name e b ≡ true
    name_ranged f n b lo hi h = grind (arith, nat_tests)

    ranged_lengths : (f n : ℕ) (g : ℕ → ℕ) → e.first ≤ f → f + n ≤ e.first + e.count → Measures (e ∷ []) g → Measures (ranged e f n ∷ []) g
    ranged_lengths f n g lo hi m = ((λ h. m.0 (name_ranged f n e.block lo hi h)), tt)

    ranged_short : (f n : ℕ) → f + n ≤ e.first + e.count → Short (e ∷ []) → Short (ranged e f n ∷ [])
    ranged_short f n hi s = let z = s.0 in (omega (arith, z, hi), tt)

    pub pieces_none : t.first ≤ t.end → t.first ≤ e.first → e.first + e.count ≤ t.end → Pieces []
    pieces_none order a b = record {
      amounts = λ o c j. sym (nothing (e.owner == o) (e.block == c)) ∙ own_amounts (λ k. 0) o c j (cut_none e.first e.count t.first t.end e.share order j a b);
      totals = λ c j. ap (λ n. n + (if asks t c j then amount (e ∷ []) t.from c j else 0)) (sym (empty (e.block == c))) ∙ own_totals (λ k. 0) c j (cut_none e.first e.count t.first t.end e.share order j a b);
      lengths = λ g h. tt;
      short = λ h. tt;
    }
      where
        empty : (x : Bool) → own x 0 ≡ 0
        empty true = refl
        empty false = refl

        nothing : (x y : Bool) → own x (own y 0) ≡ 0
        nothing true true = refl
        nothing true false = refl
        nothing false y = refl

    one_piece : (f n : ℕ) → ((j : ℕ) → left_over (span f n e.share) j) → e.first ≤ f → f + n ≤ e.first + e.count → Pieces (ranged e f n ∷ [])
    one_piece f n h lo hi = record {
      amounts = λ o c j. one_amount (ranged e f n) o c j ∙ own_amounts (span f n e.share) o c j (h j);
      totals = λ c j. ap (λ m. m + (if asks t c j then amount (e ∷ []) t.from c j else 0)) (one_total (ranged e f n) c j) ∙ own_totals (span f n e.share) c j (h j);
      lengths = λ g m. ranged_lengths f n g lo hi m;
      short = λ s. ranged_short f n hi s;
    }

    pub pieces_front : (c : ℕ) → c ≡ min (e.first + e.count) t.first - e.first → t.first ≤ t.end → e.first < t.first → e.first + e.count ≤ t.end → Pieces (ranged e e.first c ∷ [])
    pieces_front c is order a b = one_piece e.first c (λ j. cut_front e.first e.count t.first t.end e.share order j c is a b) (omega arith) (omega arith)

    pub pieces_back : (f n : ℕ) → f ≡ max e.first t.end → n ≡ e.first + e.count - f → t.first ≤ t.end → t.first ≤ e.first → t.end < e.first + e.count → Pieces (ranged e f n ∷ [])
    pieces_back f n is m order a b = one_piece f n (λ j. ap (λ k. span f k e.share j) m ∙ cut_back e.first e.count t.first t.end e.share order j f is a b) (omega arith) (omega arith)

    own_sum : (x y : Bool) (n m : ℕ) → own x (own y n) + own x (own y m) ≡ own x (own y (n + m))
    own_sum true true n m = refl
    own_sum true false n m = refl
    own_sum false y n m = refl

    sum_own : (y : Bool) (n m : ℕ) → own y n + own y m ≡ own y (n + m)
    sum_own true n m = refl
    sum_own false n m = refl

    pub pieces_both : (c f n : ℕ) → c ≡ min (e.first + e.count) t.first - e.first → f ≡ max e.first t.end → n ≡ e.first + e.count - f → t.first ≤ t.end → e.first < t.first → t.end < e.first + e.count → Pieces (ranged e e.first c ∷ ranged e f n ∷ [])
    pieces_both c f n is back m order a b =
        let sums : (j : ℕ) → left_over (λ k. span e.first c e.share k + span f n e.share k) j = λ j. ap (λ k. span e.first c e.share j + span f k e.share j) m ∙ cut_both e.first e.count t.first t.end e.share order j c f is back a b in
        record {
          amounts = λ o d j. amount_append (ranged e e.first c ∷ []) (ranged e f n ∷ []) o d j
              ∙ (ap (λ k. k + amount (ranged e f n ∷ []) o d j) (one_amount (ranged e e.first c) o d j)
              ∙ (ap (λ k. own (e.owner == o) (own (e.block == d) (span e.first c e.share j)) + k) (one_amount (ranged e f n) o d j)
              ∙ (own_sum (e.owner == o) (e.block == d) (span e.first c e.share j) (span f n e.share j)
              ∙ own_amounts (λ k. span e.first c e.share k + span f n e.share k) o d j (sums j))));
          totals = λ d j. ap (λ k. k + (if asks t d j then amount (e ∷ []) t.from d j else 0))
              (total_append (ranged e e.first c ∷ []) (ranged e f n ∷ []) d j
              ∙ (ap (λ k. k + total (ranged e f n ∷ []) d j) (one_total (ranged e e.first c) d j)
              ∙ (ap (λ k. own (e.block == d) (span e.first c e.share j) + k) (one_total (ranged e f n) d j)
              ∙ sum_own (e.block == d) (span e.first c e.share j) (span f n e.share j))))
              ∙ own_totals (λ k. span e.first c e.share k + span f n e.share k) d j (sums j);
          lengths = λ g h. measures_append (ranged e e.first c ∷ []) (ranged e f n ∷ []) g (ranged_lengths e.first c g (omega arith) (omega arith) h) (ranged_lengths f n g (omega arith) (omega arith) h);
          short = λ h. short_append (ranged e e.first c ∷ []) (ranged e f n ∷ []) (ranged_short e.first c (omega arith) h) (ranged_short f n (omega arith) h);
        }

-- ---- one entry after the other

pub beside_none : (t : Taking) → Beside [] t [] []
beside_none t = record { amounts = λ o b j. nothing ((t.from == o) && asks t b j); totals = λ b j. nothing_left (asks t b j); lengths = λ f h k. tt; short = λ h k. tt }
  where
    nothing : (c : Bool) → 0 ≡ 0 + (if c then 0 else 0)
    nothing true = refl
    nothing false = refl

    nothing_left : (c : Bool) → 0 + (if c then 0 else 0) ≡ 0 + 0
    nothing_left true = refl
    nothing_left false = refl

measures_split : (xs ys : List Entry) (f : ℕ → ℕ) → Measures (xs ++ ys) f → Measures xs f × Measures ys f
measures_split [] ys f h = (tt, h)
measures_split (x ∷ xs) ys f h = let r = measures_split xs ys f h.1 in ((h.0, r.0), r.1)

short_split : (xs ys : List Entry) → Short (xs ++ ys) → Short xs × Short ys
short_split [] ys h = (tt, h)
short_split (x ∷ xs) ys h = let r = short_split xs ys h.1 in ((h.0, r.0), r.1)

sum_cut : (c : Bool) (m n : ℕ) → (if c then 0 else m) + (if c then 0 else n) ≡ (if c then 0 else (m + n))
sum_cut true m n = refl
sum_cut false m n = refl

sum_own_if : (c : Bool) (m n : ℕ) → own c m + own c n ≡ own c (m + n)
sum_own_if true m n = refl
sum_own_if false m n = refl

pub beside_then : (xs ys : List Entry) (t : Taking) (a b c : List Entry) → Beside xs t a b → Beside ys t b c → Beside (xs ++ ys) t a c
beside_then xs ys t a b c p q = record {
  amounts = λ o d j.
      let x = p.amounts o d j in let y = q.amounts o d j in
      let s = sum_cut ((t.from == o) && asks t d j) (amount xs o d j) (amount ys o d j) in
      let e = ap (λ n. if (t.from == o) && asks t d j then 0 else n) (amount_append xs ys o d j) in omega arith;
  totals = λ d j.
      let x = p.totals d j in let y = q.totals d j in
      let s = sum_own_if (asks t d j) (amount xs t.from d j) (amount ys t.from d j) in
      let e = ap (own (asks t d j)) (amount_append xs ys t.from d j) in
      let f = total_append xs ys d j in omega arith;
  lengths = λ f h k. let r = measures_split xs ys f k in q.lengths f (p.lengths f h r.0) r.1;
  short = λ h k. let r = short_split xs ys k in q.short (p.short h r.0) r.1;
}

pub beside_more : (es : List Entry) (i : ℕ) (t : Taking) (b c : List Entry) → i < length es → Beside (take i es) t [] b → Beside (get_or es i none ∷ []) t b c → Beside (take (i + 1) es) t [] c
beside_more es i t b c lt p q = subst (λ xs. Beside xs t [] c) (sym (take_more es i none lt)) (beside_then (take i es) (get_or es i none ∷ []) t [] b c p q)
