-- What a taking gives and leaves, segment by segment, and all of it.
use Rattle.std.proofs.Common.{◌≡◌, ◌≢◌, ◌⊎◌, inl, inr, ⊎_elim, ℕ, zero, suc, ◌+◌, ◌-◌, ◌/◌, ◌^◌, ◌<◌, ◌≤◌, Bool, List, [], ◌∷◌, ◌++◌, refl, sym, ap, ◌∙◌, subst, arith, lt_of_not-le}
use Rattle.std.specs.Prelude.{true, false, ◌&&◌, ◌==◌, nat_lt, nat_le, Option, Some, None, if◌then◌else◌}
use Rattle.std.proofs.lemmas.Bool.Decides.{nat_tests, eqb_tells}
use mathlib.Core.Logic.{dite}
use native.Mathlib.Decide.{dec_le}
use Rattle.share_table.specs.Amounts.{covers, share_at, amount, total, has_name, length_in, Measures, Short}
use Rattle.share_table.specs.Outside.{Beside}
use Rattle.share_table.specs.Segments.{Pushed, Segments, shared, dealt}
use Rattle.share_table.specs.Takings.{Taken, asks, is_between, left_of}
use Rattle.share_table.specs.declared.entry.Entry.{Entry}
use Rattle.share_table.specs.declared.entry.Taking.{Taking}
use Rattle.share_table.proofs.Sums.{amount_append, total_append, measures_append, short_append}
use Rattle.share_table.proofs.Cut.{one_amount, one_total, span}

abbrev own : Bool → ℕ → ℕ
own t n = if t then n else 0

-- ---- one entry more

pub pushed : (e : Entry) (old new : List Entry) → new ≡ old ++ e ∷ [] → Pushed e old new
pushed e old new is = subst (Pushed e old) (sym is) (record {
  amounts = λ o b j. amount_append old (e ∷ []) o b j;
  totals = λ b j. total_append old (e ∷ []) b j;
  lengths = λ f h k. measures_append old (e ∷ []) f h k;
  short = λ h k. short_append old (e ∷ []) h k;
})

no_share : (e : Entry) (n : ℕ) (o b j : ℕ) → e.share ≡ 0 → own (e.owner == o) (share_at e b j) + 0 ≡ 0
no_share e n o b j z = go (e.owner == o) (covers e b j)
  where
    go : (x y : Bool) → own x (own y e.share) + 0 ≡ 0
    go true true = omega (arith, z)
    go true false = refl
    go false y = refl

no_share_total : (e : Entry) (b j : ℕ) → e.share ≡ 0 → share_at e b j + 0 ≡ 0
no_share_total e b j z = go (covers e b j)
  where
    go : (y : Bool) → own y e.share + 0 ≡ 0
    go true = omega (arith, z)
    go false = refl

pub not_pushed : (e : Entry) (old : List Entry) → e.share ≡ 0 → Pushed e old old
not_pushed e old z = record {
  amounts = λ o b j. let n = no_share e 0 o b j z in omega arith;
  totals = λ b j. let n = no_share_total e b j z in omega arith;
  lengths = λ f h k. h;
  short = λ h k. h;
}

-- ---- the length that is told

told_length : (x y : Bool) (n : ℕ) (r : Option ℕ) (m : ℕ) (P : ℕ → Type 0) → (x ≡ true → y ≡ true → P n) → (r ≡ Some m → P m) → (if x then (if y then Some n else r) else r) ≡ Some m → P m
told_length true true n r m P h k e = subst P (some_inj n m e) (h refl refl)
  where
    some_inj : (a b : ℕ) → Some a ≡ Some b → a ≡ b
    some_inj a b e = cc e
told_length true false n r m P h k e = k e
told_length false y n r m P h k e = k e

name_of : (e : Entry) (b : ℕ) → has_name e b ≡ true → e.block ≡ b
name_of e b h = ⊎_elim (λ p. p.1) (λ p. absurd (never (e.block == b) (nat_le e.first 0 && nat_lt 0 (e.first + e.count)) (nat_lt 0 e.share) p.0 h)) (eqb_tells e.block b)
  where
    never : (x y z : Bool) → x ≡ false → (x && y) && z ≡ true → ⊥
    never true y z e h = cc e
    never false y z e h = cc h

pub length_is : (es : List Entry) (o b n : ℕ) (f : ℕ → ℕ) → Measures es f → length_in es o b ≡ Some n → n ≡ f b
length_is [] o b n f h e = cc e
length_is (x ∷ es) o b n f h e =
    told_length (x.owner == o) (has_name x b) x.len (length_in es o b) n (λ m. m ≡ f b)
    (λ p q. let nm = name_of x b q in h.0 (subst (λ z. has_name x z ≡ true) (sym nm) q) ∙ ap f nm)
    (λ r. length_is es o b n f h.1 r)
    e

no_length : (x y : Bool) (n : ℕ) (r : Option ℕ) → (if x then (if y then Some n else r) else r) ≡ None → (x && y ≡ false) × (r ≡ None)
no_length true true n r e = cc e
no_length true false n r e = (refl, e)
no_length false y n r e = (refl, e)

pub no_name : (es : List Entry) (o b : ℕ) → length_in es o b ≡ None → amount es o b 0 ≡ 0
no_name [] o b e = refl
no_name (x ∷ es) o b e =
    let q = no_length (x.owner == o) (has_name x b) x.len (length_in es o b) e in
    let r = no_name es o b q.1 in
    let z = nameless (x.owner == o) (covers x b 0) x.share q.0 in
    omega arith
  where
    nameless : (u v : Bool) (n : ℕ) → u && (v && nat_lt 0 n) ≡ false → own u (own v n) ≡ 0
    nameless true true zero h = refl
    nameless true true (suc n) h = absurd (grind (arith, nat_tests))
    nameless true false n h = refl
    nameless false v n h = refl

-- the length that is told, or 0
pub tells : (es : List Entry) (o b n : ℕ) (f : ℕ → ℕ) → length_in es o b ≡ Some n → Measures es f → 0 < amount es o b 0 → n ≡ f b
tells es o b n f e m h = length_is es o b n f m e

pub tells_none : (es : List Entry) (o b n : ℕ) (f : ℕ → ℕ) → length_in es o b ≡ None → Measures es f → 0 < amount es o b 0 → n ≡ f b
tells_none es o b n f e m h = let z = no_name es o b e in absurd (omega arith)

-- ---- a segment

between_none : (block lo b j n : ℕ) → own (is_between block lo lo b j) n ≡ 0
between_none block lo b j n = go (block == b) (within lo j)
  where
    within : (lo j : ℕ) → nat_le lo j && nat_lt j lo ≡ false
    within lo j = dite (dec_le lo j) (λ k. grind (arith, nat_tests)) (λ k. let m = lt_of_not-le k in grind (arith, nat_tests))

    go : (x : Bool) → nat_le lo j && nat_lt j lo ≡ false → own (x && (nat_le lo j && nat_lt j lo)) n ≡ 0
    go true h = ap (λ z. own z n) h
    go false h = refl

between_sum : (block lo mid hi b j n : ℕ) → lo ≤ mid → mid ≤ hi → own (is_between block lo mid b j) n + own (is_between block mid hi b j) n ≡ own (is_between block lo hi b j) n
between_sum block lo mid hi b j n p q = go (block == b)
  where
    numbers : own (nat_le lo j && nat_lt j mid) n + own (nat_le mid j && nat_lt j hi) n ≡ own (nat_le lo j && nat_lt j hi) n
    numbers = dite (dec_le lo j)
        (λ k. dite (dec_le mid j) (λ l. grind (arith, nat_tests)) (λ l. let m = lt_of_not-le l in grind (arith, nat_tests)))
        (λ k. let m = lt_of_not-le k in grind (arith, nat_tests))

    go : (x : Bool) → own (x && (nat_le lo j && nat_lt j mid)) n + own (x && (nat_le mid j && nat_lt j hi)) n ≡ own (x && (nat_le lo j && nat_lt j hi)) n
    go true = numbers
    go false = refl

pub segments_none : (es : List Entry) (t : Taking) (lo : ℕ) (table : List Entry) → Segments es t lo lo table table
segments_none es t lo table = record {
  amounts = λ o b j. let z = between_none t.block lo b j (dealt t (amount es t.from b j) o) in omega arith;
  totals = λ b j. let z = between_none t.block lo b j (amount es t.from b j) in omega arith;
  lengths = λ f h k. k;
  short = λ h. h;
}

pub segments_then : (es : List Entry) (t : Taking) (lo mid hi : ℕ) (x y z : List Entry) → lo ≤ mid → mid ≤ hi → Segments es t lo mid x y → Segments es t mid hi y z → Segments es t lo hi x z
segments_then es t lo mid hi x y z p q g h = record {
  amounts = λ o b j. let s = between_sum t.block lo mid hi b j (dealt t (amount es t.from b j) o) p q in let a = g.amounts o b j in let c = h.amounts o b j in omega arith;
  totals = λ b j. let s = between_sum t.block lo mid hi b j (amount es t.from b j) p q in let a = g.totals b j in let c = h.totals b j in omega arith;
  lengths = λ f m k. h.lengths f m (g.lengths f m k);
  short = λ k. h.short (g.short k);
}

-- the two entries of a segment
module _ (es : List Entry) (t : Taking) (lo hi len has left : ℕ) (order : lo < hi) (end : hi ≤ 2 ^ 62) (is : has ≡ amount es t.from t.block lo) (rest : left ≡ left_of true t.all has)
    (same : (j : ℕ) → lo ≤ j → j < hi → amount es t.from t.block j ≡ amount es t.from t.block lo) where
  abbrev segment : Entry
  segment = record { block = t.block; first = lo; count = hi - lo; len = len; share = 0; owner = 0 }

  spans : (n j : ℕ) → span lo (hi - lo) n j ≡ own (nat_le lo j && nat_lt j hi) n
  spans n j = let e : lo + (hi - lo) ≡ hi = omega arith in ap (λ k. own (nat_le lo j && nat_lt j k) n) e

  left_le : left ≤ has
  left_le = go t.all rest
    where
      go : (x : Bool) → left ≡ left_of true x has → left ≤ has
      go true e = omega (arith, e)
      go false e = omega (arith, e)

  -- where a place is asked for, there is as much of it as at the first one
  here : (b j : ℕ) → is_between t.block lo hi b j ≡ true → amount es t.from b j ≡ has
  here b j h = subst (λ z. amount es t.from z j ≡ has) (true_of t.block b (first_true (t.block == b) (nat_le lo j && nat_lt j hi) h)) (inner (second_true (t.block == b) (nat_le lo j && nat_lt j hi) h))
    where
      first_true : (x y : Bool) → x && y ≡ true → x ≡ true
      first_true true y h = refl
      first_true false y h = cc h

      second_true : (x y : Bool) → x && y ≡ true → y ≡ true
      second_true true y h = h
      second_true false y h = cc h

      true_of : (x z : ℕ) → (x == z) ≡ true → x ≡ z
      true_of x z h = ⊎_elim (λ p. p.1) (λ p. absurd (never (sym p.0 ∙ h))) (eqb_tells x z)
        where
          never : false ≡ true → ⊥
          never e = cc e

      inner : nat_le lo j && nat_lt j hi ≡ true → amount es t.from t.block j ≡ has
      inner h = dite (dec_le lo j)
          (λ k. dite (dec_le hi j) (λ l. absurd (no_end l h)) (λ l. same j k (lt_of_not-le l) ∙ sym is))
          (λ k. absurd (no_start (lt_of_not-le k) h))
        where
          no_end : hi ≤ j → nat_le lo j && nat_lt j hi ≡ true → ⊥
          no_end l h = grind (arith, nat_tests)

          no_start : j < lo → nat_le lo j && nat_lt j hi ≡ true → ⊥
          no_start l h = grind (arith, nat_tests)

  sum_if : (x y z : Bool) (a : ℕ) → (z ≡ true → a ≡ has) → own x (own z left) + own y (own z (has - left)) ≡ own z (own x (left_of true t.all a) + own y (a - left_of true t.all a))
  sum_if x y true a h = ap (λ k. own x k + own y (has - k)) rest ∙ ap (λ k. own x (left_of true t.all k) + own y (k - left_of true t.all k)) (sym (h refl))
  sum_if true true false a h = refl
  sum_if true false false a h = refl
  sum_if false true false a h = refl
  sum_if false false false a h = refl

  total_if : (z : Bool) (a : ℕ) → (z ≡ true → a ≡ has) → own z left + own z (has - left) ≡ own z a
  total_if true a h = let l = left_le in let e = h refl in omega arith
  total_if false a h = refl

  own_and : (u v : Bool) (n : ℕ) → own (u && v) n ≡ own u (own v n)
  own_and true v n = refl
  own_and false v n = refl

  one : (owner share o b j : ℕ) → amount (shared segment owner share ∷ []) o b j ≡ own (owner == o) (own (is_between t.block lo hi b j) share)
  one owner share o b j = one_amount (shared segment owner share) o b j
      ∙ ap (own (owner == o)) (ap (own (t.block == b)) (spans share j) ∙ sym (own_and (t.block == b) (nat_le lo j && nat_lt j hi) share))

  one_sum : (owner share b j : ℕ) → total (shared segment owner share ∷ []) b j ≡ own (is_between t.block lo hi b j) share
  one_sum owner share b j = one_total (shared segment owner share) b j
      ∙ (ap (own (t.block == b)) (spans share j) ∙ sym (own_and (t.block == b) (nat_le lo j && nat_lt j hi) share))

  -- the length is told rightly: a name that is among the places is held
  abbrev pub TellsLength : Type 0
  TellsLength = (f : ℕ → ℕ) → Measures es f → 0 < amount es t.from t.block 0 → len ≡ f t.block

  named : (owner share : ℕ) (f : ℕ → ℕ) → share ≤ has → TellsLength → Measures es f → Measures (shared segment owner share ∷ []) f
  named owner share f le tl m = ((λ h. tl f m (there h)), tt)
    where
      there : has_name (shared segment owner share) t.block ≡ true → 0 < amount es t.from t.block 0
      there h = let z : lo ≡ 0 = start h in let p : 0 < share = some h in let e = subst (λ k. has ≡ amount es t.from t.block k) z is in omega arith
        where
          start : has_name (shared segment owner share) t.block ≡ true → lo ≡ 0
          start h = dite (dec_le lo 0) (λ k. omega arith) (λ k. let m = lt_of_not-le k in absurd (grind (arith, nat_tests)))

          some : has_name (shared segment owner share) t.block ≡ true → 0 < share
          some h = dite (dec_le 1 share) (λ k. k) (λ k. let m = lt_of_not-le k in absurd (grind (arith, nat_tests)))

  pub segment_is : (x y z : List Entry) → TellsLength → Pushed (shared segment t.from left) x y → Pushed (shared segment t.to (has - left)) y z → Segments es t lo hi x z
  segment_is x y z tl p q = record {
    amounts = λ o b j.
        let a = p.amounts o b j in let c = q.amounts o b j in
        let d = one t.from left o b j in let e = one t.to (has - left) o b j in
        let s = sum_if (t.from == o) (t.to == o) (is_between t.block lo hi b j) (amount es t.from b j) (here b j) in omega arith;
    totals = λ b j.
        let a = p.totals b j in let c = q.totals b j in
        let d = one_sum t.from left b j in let e = one_sum t.to (has - left) b j in
        let s = total_if (is_between t.block lo hi b j) (amount es t.from b j) (here b j) in omega arith;
    lengths = λ f m k. q.lengths f (p.lengths f k (named t.from left f left_le tl m)) (named t.to (has - left) f (let l = left_le in omega arith) tl m);
    short = λ k. q.short (p.short k (within, tt)) (within, tt);
  }
    where
      within : lo + (hi - lo) ≤ 2 ^ 62
      within = omega arith

-- ---- the whole taking

apart : (f t : ℕ) → f ≢ t → (f == t) ≡ false
apart f t ne = grind (arith, nat_tests)

same_number : (f : ℕ) → (f == f) ≡ true
same_number f = grind (arith, nat_tests)

left_at : (c all : Bool) (a : ℕ) → (if c then 0 else a) + own c (left_of true all a) ≡ left_of c all a
left_at true all a = omega arith
left_at false all a = omega arith

given_at : (c all : Bool) (n a : ℕ) → left_of true all a ≤ a → (n + own c (a - left_of true all a)) + left_of c all a ≡ n + a
given_at true all n a h = omega arith
given_at false all n a h = omega arith

left_le_all : (all : Bool) (a : ℕ) → left_of true all a ≤ a
left_le_all true a = omega arith
left_le_all false a = omega arith

dealt_from : (x y : Bool) (c : Bool) (u v : ℕ) → x ≡ true → y ≡ false → own c (own x u + own y v) ≡ own c u
dealt_from true false true u v e f = omega arith
dealt_from true false false u v e f = refl
dealt_from true true c u v e f = cc f
dealt_from false y c u v e f = cc e

dealt_to : (x y : Bool) (c : Bool) (u v : ℕ) → x ≡ false → y ≡ true → own c (own x u + own y v) ≡ own c v
dealt_to false true true u v e f = omega arith
dealt_to false true false u v e f = refl
dealt_to true y c u v e f = cc e
dealt_to false false c u v e f = cc f

dealt_none : (x y : Bool) (c : Bool) (u v : ℕ) → x ≡ false → y ≡ false → own c (own x u + own y v) ≡ 0
dealt_none false false true u v e f = refl
dealt_none false false false u v e f = refl
dealt_none true y c u v e f = cc e
dealt_none false true c u v e f = cc f

uncut : (x c : Bool) (n : ℕ) → x ≡ false → (if x && c then 0 else n) ≡ n
uncut true c n e = cc e
uncut false c n e = refl

cut_own : (x c : Bool) (n : ℕ) → x ≡ true → (if x && c then 0 else n) ≡ (if c then 0 else n)
cut_own true c n e = refl
cut_own false c n e = cc e

pub taken : (es mid new : List Entry) (t : Taking) → t.from ≢ t.to → Beside es t [] mid → Segments es t t.first t.end mid new → Taken es new t
taken es mid new t ne p q =
    let ft = apart t.from t.to ne in
    let tf = apart t.to t.from (λ e. ne (sym e)) in
    let ff = same_number t.from in
    let tt' = same_number t.to in record {
      kept = λ b j.
          let c = asks t b j in let a = amount es t.from b j in
          let x = p.amounts t.from b j in let y = q.amounts t.from b j in
          let u = cut_own (t.from == t.from) c a ff in
          let v = dealt_from (t.from == t.from) (t.to == t.from) c (left_of true t.all a) (a - left_of true t.all a) ff tf in
          let w = left_at c t.all a in omega arith;
      given = λ b j.
          let c = asks t b j in let a = amount es t.from b j in
          let x = p.amounts t.to b j in let y = q.amounts t.to b j in
          let u = uncut (t.from == t.to) c (amount es t.to b j) ft in
          let v = dealt_to (t.from == t.to) (t.to == t.to) c (left_of true t.all a) (a - left_of true t.all a) ft tt' in
          let w = given_at c t.all (amount es t.to b j) a (left_le_all t.all a) in omega arith;
      others = λ o b j nf nt.
          let c = asks t b j in let a = amount es t.from b j in
          let x = p.amounts o b j in let y = q.amounts o b j in
          let u = uncut (t.from == o) c (amount es o b j) (apart t.from o (λ e. nf (sym e))) in
          let v = dealt_none (t.from == o) (t.to == o) c (left_of true t.all a) (a - left_of true t.all a) (apart t.from o (λ e. nf (sym e))) (apart t.to o (λ e. nt (sym e))) in omega arith;
      all = λ b j. let x = p.totals b j in let y = q.totals b j in omega arith;
      lengths = λ f m. q.lengths f m (p.lengths f tt m);
      short = λ s. q.short (p.short tt s);
    }
