-- Entries that a branch used, put back at their places.
use Rattle.std.proofs.Common.{suc, ◌≡◌, ℕ, ◌<◌, ◌≤◌, cond, List, [], ◌∷◌, ◌++◌, length, Bool, true, false, ◌&&◌, ◌||◌, nat_eq, nat_lt, Some, refl, sym, ap, ◌∙◌, arith}
use Rattle.std.proofs.lemmas.Bool.{eqb-true}
use Rattle.std.proofs.lemmas.Bool.Decides.{nat_tests}
use Rattle.rule_check.specs.Context.{Spot, Gone, is_container, is_owned, is_gone, is_among, falls, put_back, outer}
use Rattle.context_laws.specs.Stacks.{spot_in, gone_one, falls_at}
use Rattle.context_laws.proofs.StacksLemmas.{low_falls, outer_whole}
use Rattle.range_split.specs.Places.{Places, put_at}
use Rattle.range_split.proofs.OrderLemmas.{other_number, among_end}

pub put_same : (us is : List ℕ) (ss ts : List Spot) → Places us is ss → put_at is ss ts ≡ put_back us ss ts
put_same us is [] ts h = refl
put_same us is (s ∷ ss) [] h = refl
put_same us is (s ∷ ss) (t ∷ ts) h = λ i. cond (h.0 i) (falls s t ∷ put_same us is ss ts h.1 i) (s ∷ put_same us is ss (t ∷ ts) h.1 i)

put_nothing : (is : List ℕ) (ss : List Spot) → put_at is ss [] ≡ ss
put_nothing is [] = refl
put_nothing is (s ∷ ss) = refl

-- an entry that stands at none of the places stays
put_past : (is : List ℕ) (s : Spot) (ss ts : List Spot) → is_among (length ss) is ≡ false → put_at is (s ∷ ss) ts ≡ s ∷ put_at is ss ts
put_past is s ss [] e = ap (λ z. s ∷ z) (sym (put_nothing is ss))
put_past is s ss (t ∷ ts) e = ap (λ b. cond b (falls s t ∷ put_at is ss ts) (s ∷ put_at is ss (t ∷ ts))) e

-- places past all entries do not count
put_low : (is js : List ℕ) (ss ts : List Spot) → ((q : ℕ) → q < length ss → is_among q is ≡ is_among q js) → put_at is ss ts ≡ put_at js ss ts
put_low is js [] ts h = refl
put_low is js (s ∷ ss) [] h = refl
put_low is js (s ∷ ss) (t ∷ ts) h =
    let here : length ss < length (s ∷ ss) = omega arith in
    let low = λ (q : ℕ) (l : q < length ss). h q (let k : q < length (s ∷ ss) = omega arith in k) in
    λ i. cond (h (length ss) here i) (falls s t ∷ put_low is js ss ts low i) (s ∷ put_low is js ss (t ∷ ts) low i)

falls_gone : (s t : Spot) (b : Bool) → is_gone t.hold ≡ b → falls s t ≡ cond b (gone_one s) s
falls_gone s t true e = ap (λ b. cond (is_owned s.hold && (is_container s.rep && b)) (record s { hold = Gone }) s) e ∙ ap (λ b. cond b (record s { hold = Gone }) s) (both (is_owned s.hold) (is_container s.rep))
  where
    both : (x y : Bool) → (x && (y && true)) ≡ (x && y)
    both true true = refl
    both true false = refl
    both false y = refl
falls_gone s t false e = ap (λ b. cond (is_owned s.hold && (is_container s.rep && b)) (record s { hold = Gone }) s) e ∙ ap (λ b. cond b (record s { hold = Gone }) s) (never (is_owned s.hold) (is_container s.rep))
  where
    never : (x y : Bool) → (x && (y && false)) ≡ false
    never true true = refl
    never true false = refl
    never false y = refl

not_below : (is : List ℕ) (p n : ℕ) → ((q : ℕ) → is_among q is ≡ true → q < p) → p ≤ n → is_among n is ≡ false
not_below is p n h le = pick (is_among n is) refl
  where
    pick : (b : Bool) → is_among n is ≡ b → is_among n is ≡ false
    pick true e = let lt : n < p = h n e in absurd (omega arith)
    pick false e = e

-- the last place, and then the others
pub put_last : (is : List ℕ) (p : ℕ) (ss : List Spot) (t : Spot) (ts : List Spot) → ((q : ℕ) → is_among q is ≡ true → q < p) → p < length ss
    → put_at (is ++ p ∷ []) ss (t ∷ ts) ≡ put_at is (cond (is_gone t.hold) (falls_at (p ∷ []) ss) ss) ts
put_last is p [] t ts h lt = absurd (omega arith)
put_last is p (s ∷ ss) t ts h lt = pick (nat_eq (length ss) p) refl (put_last is p ss t ts h)
  where
    pick : (b : Bool) → nat_eq (length ss) p ≡ b → (p < length ss → put_at (is ++ p ∷ []) ss (t ∷ ts) ≡ put_at is (cond (is_gone t.hold) (falls_at (p ∷ []) ss) ss) ts)
        → put_at (is ++ p ∷ []) (s ∷ ss) (t ∷ ts) ≡ put_at is (cond (is_gone t.hold) (falls_at (p ∷ []) (s ∷ ss)) (s ∷ ss)) ts
    pick true e f =
        let k : length ss ≡ p = eqb-true (length ss) p e in
        let le : p ≤ length ss = omega arith in
        let low : length ss ≤ p = omega arith in
        let out : is_among (length ss) is ≡ false = not_below is p (length ss) h le in
        let yes : is_among (length ss) (is ++ p ∷ []) ≡ true = among_end is p (length ss) ∙ (λ i. out i || e i) in
        let rest : put_at (is ++ p ∷ []) ss ts ≡ put_at is ss ts = put_low (is ++ p ∷ []) is ss ts (λ q l. let m : q < p = omega arith in among_end is p q ∙ ap (λ b. is_among q is || b) (other_number q p m) ∙ or_none (is_among q is)) in
        ap (λ b. cond b (falls s t ∷ put_at (is ++ p ∷ []) ss ts) (s ∷ put_at (is ++ p ∷ []) ss (t ∷ ts))) yes
        ∙ (λ i. falls_gone s t (is_gone t.hold) refl i ∷ rest i)
        ∙ sym (ap (λ z. put_at is z ts) (top (is_gone t.hold) low) ∙ put_past is (cond (is_gone t.hold) (gone_one s) s) ss ts out)
      where
        or_none : (x : Bool) → (x || false) ≡ x
        or_none true = refl
        or_none false = refl

        top : (b : Bool) → length ss ≤ p → cond b (falls_at (p ∷ []) (s ∷ ss)) (s ∷ ss) ≡ cond b (gone_one s) s ∷ ss
        top true l = (λ i. cond (e i || false) (gone_one s) s ∷ low_falls p ss l i)
        top false l = refl
    pick false e f =
        let lo : p < length ss = grind (arith, nat_tests) in
        let le : p ≤ length ss = omega arith in
        let out : is_among (length ss) is ≡ false = not_below is p (length ss) h le in
        let no : is_among (length ss) (is ++ p ∷ []) ≡ false = among_end is p (length ss) ∙ (λ i. out i || e i) in
        put_past (is ++ p ∷ []) s ss (t ∷ ts) no ∙ ap (λ z. s ∷ z) (f lo)
        ∙ sym (ap (λ z. put_at is z ts) (top (is_gone t.hold)) ∙ put_past_any (is_gone t.hold) out)
      where
        top : (b : Bool) → cond b (falls_at (p ∷ []) (s ∷ ss)) (s ∷ ss) ≡ s ∷ cond b (falls_at (p ∷ []) ss) ss
        top true = ap (λ c. cond (c || false) (gone_one s) s ∷ falls_at (p ∷ []) ss) e
        top false = refl

        falls_length : (zs : List Spot) → length (falls_at (p ∷ []) zs) ≡ length zs
        falls_length [] = refl
        falls_length (z ∷ zs) = ap suc (falls_length zs)

        put_past_any : (b : Bool) → is_among (length ss) is ≡ false → put_at is (s ∷ cond b (falls_at (p ∷ []) ss) ss) ts ≡ s ∷ put_at is (cond b (falls_at (p ∷ []) ss) ss) ts
        put_past_any true o = put_past is s (falls_at (p ∷ []) ss) ts (ap (λ n. is_among n is) (falls_length ss) ∙ o)
        put_past_any false o = put_past is s ss ts o

pub spot_below : (ts : List Spot) (k : ℕ) (t : Spot) → spot_in ts k ≡ Some t → k < length ts
spot_below [] k t h = absurd cc
spot_below (x ∷ ts) k t h = pick (nat_eq (length ts) k) refl h (spot_below ts k t)
  where
    pick : (b : Bool) → nat_eq (length ts) k ≡ b → cond b (Some x) (spot_in ts k) ≡ Some t → (spot_in ts k ≡ Some t → k < length ts) → k < length (x ∷ ts)
    pick true e g f = let j : length ts ≡ k = eqb-true (length ts) k e in omega arith
    pick false e g f = let lt : k < length ts = f g in omega arith

-- the entries of a branch, one more
pub outer_next : (k : ℕ) (ts : List Spot) (t : Spot) → spot_in ts k ≡ Some t → outer (suc k) ts ≡ t ∷ outer k ts
outer_next k [] t h = absurd cc
outer_next k (x ∷ ts) t h = pick (nat_eq (length ts) k) refl h (outer_next k ts t)
  where
    pick : (b : Bool) → nat_eq (length ts) k ≡ b → cond b (Some x) (spot_in ts k) ≡ Some t → (spot_in ts k ≡ Some t → outer (suc k) ts ≡ t ∷ outer k ts) → outer (suc k) (x ∷ ts) ≡ t ∷ outer k (x ∷ ts)
    pick true e g f =
        let j : length ts ≡ k = eqb-true (length ts) k e in
        let y : x ≡ t = cc in
        let in1 : nat_lt (length ts) (suc k) ≡ true = grind (arith, nat_tests) in
        let in2 : nat_lt (length ts) k ≡ false = grind (arith, nat_tests) in
        let le : length ts ≤ k = omega arith in
        ap (λ b. cond b (x ∷ ts) (outer (suc k) ts)) in1 ∙ (λ i. y i ∷ ts) ∙ sym (ap (λ b. t ∷ cond b (x ∷ ts) (outer k ts)) in2 ∙ ap (λ z. t ∷ z) (outer_whole k ts le))
    pick false e g f =
        let lt : k < length ts = spot_below ts k t g in
        let in1 : nat_lt (length ts) (suc k) ≡ false = grind (arith, nat_tests) in
        let in2 : nat_lt (length ts) k ≡ false = grind (arith, nat_tests) in
        ap (λ b. cond b (x ∷ ts) (outer (suc k) ts)) in1 ∙ f g ∙ sym (ap (λ b. t ∷ cond b (x ∷ ts) (outer k ts)) in2)
