-- Amounts of tables, one entry after the other.
use Rattle.std.proofs.Common.{◌≡◌, ◌≢◌, ℕ, zero, suc, ◌+◌, ◌-◌, ◌^◌, ◌<◌, ◌≤◌, Bool, true, false, cond, length, List, [], ◌∷◌, ◌++◌, map, take, drop, get_or, refl, sym, ap, ◌∙◌, subst, arith, leb, ltb, eqb}
use Rattle.std.specs.Prelude.{Option, Some, None, ◌&&◌, ◌==◌, nat_lt, nat_le, if◌then◌else◌}
use Rattle.std.proofs.lemmas.Bool.Decides.{nat_tests, eqb_tells}
use Rattle.std.proofs.lemmas.List.{take_more}
use Rattle.share_table.specs.Amounts.{covers, share_at, amount, total, has_name, length_in, Measures, Short}
use Rattle.share_table.specs.declared.entry.Entry.{Entry}

abbrev pub none : Entry
none = record { block = 0; first = 0; count = 0; len = 0; share = 0; owner = 0 }

pub amount_append : (xs ys : List Entry) (o b j : ℕ) → amount (xs ++ ys) o b j ≡ amount xs o b j + amount ys o b j
amount_append [] ys o b j = omega arith
amount_append (x ∷ xs) ys o b j = let r = amount_append xs ys o b j in omega (arith, r)

pub total_append : (xs ys : List Entry) (b j : ℕ) → total (xs ++ ys) b j ≡ total xs b j + total ys b j
total_append [] ys b j = omega arith
total_append (x ∷ xs) ys b j = let r = total_append xs ys b j in omega (arith, r)

-- one entry more
pub amount_more : (es : List Entry) (i o b j : ℕ) → i < length es → amount (take (i + 1) es) o b j ≡ amount (take i es) o b j + amount (get_or es i none ∷ []) o b j
amount_more es i o b j lt = ap (λ xs. amount xs o b j) (take_more es i none lt) ∙ amount_append (take i es) (get_or es i none ∷ []) o b j

pub amount_prefix : (es : List Entry) (i o b j : ℕ) → amount (take i es) o b j ≤ amount es o b j
amount_prefix [] zero o b j = omega arith
amount_prefix [] (suc i) o b j = omega arith
amount_prefix (e ∷ es) zero o b j = omega arith
amount_prefix (e ∷ es) (suc i) o b j = let r = amount_prefix es i o b j in omega (arith, r)

-- one branch has no more than all
own_le : (t : Bool) (n : ℕ) → cond t n 0 ≤ n
own_le true n = omega arith
own_le false n = omega arith

pub amount_le : (es : List Entry) (o b j : ℕ) → amount es o b j ≤ total es b j
amount_le [] o b j = omega arith
amount_le (e ∷ es) o b j = let r = amount_le es o b j in let h = own_le (e.owner == o) (share_at e b j) in omega (arith, r, h)

pub measures_append : (xs ys : List Entry) (f : ℕ → ℕ) → Measures xs f → Measures ys f → Measures (xs ++ ys) f
measures_append [] ys f h k = k
measures_append (x ∷ xs) ys f h k = (h.0, measures_append xs ys f h.1 k)

pub short_append : (xs ys : List Entry) → Short xs → Short ys → Short (xs ++ ys)
short_append [] ys h k = k
short_append (x ∷ xs) ys h k = (h.0, short_append xs ys h.1 k)

-- what is so of all is so of the first ones and of each
pub short_at : (es : List Entry) (i : ℕ) → i < length es → Short es → (get_or es i none).first + (get_or es i none).count ≤ 2 ^ 62
short_at [] i lt h = absurd (omega arith)
short_at (e ∷ es) zero lt h = h.0
short_at (e ∷ es) (suc i) lt h = short_at es i (omega arith) h.1

-- two branches have no more than all
two_own : (x o p n : ℕ) → o ≢ p → cond (x == o) n 0 + cond (x == p) n 0 ≤ n
two_own x o p n ne = grind (arith, nat_tests)

pub two_le : (es : List Entry) (o p b j : ℕ) → o ≢ p → amount es o b j + amount es p b j ≤ total es b j
two_le [] o p b j ne = omega arith
two_le (e ∷ es) o p b j ne = let r = two_le es o p b j ne in let h = two_own e.owner o p (share_at e b j) ne in omega (arith, r, h)

-- the next entry's amount is added
pub amount_step : (es : List Entry) (i o b j x : ℕ) → i < length es → x ≡ amount (get_or es i none ∷ []) o b j → amount (take i es) o b j + x ≡ amount (take (i + 1) es) o b j
amount_step es i o b j x lt e = ap (λ n. amount (take i es) o b j + n) e ∙ sym (amount_more es i o b j lt)

pub some_true : (n : ℕ) → 0 < n → true ≡ nat_lt 0 n
some_true n h = grind (arith, nat_tests)
