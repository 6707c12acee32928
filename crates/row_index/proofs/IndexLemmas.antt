-- The first row that fits is the one at the key that is asked for, and a search in the index finds it.
use Rattle.std.specs.Prelude.{Option, Some, None, Result, Ok, Err, IfOk, IfErr}
use Rattle.std.specs.List.Sorted.{IsSearchInRange, IsBinarySearchResult}
use Rattle.std.specs.Ordering.{nat_cmp, ordering_index}
use Rattle.std.proofs.Common.{◌≡◌, ℕ, zero, suc, ◌+◌, ◌*◌, ◌<◌, ◌≤◌, nat_eq, nat_le, Bool, true, false, ◌&&◌, ◌||◌, not, cond, inl, inr, List, [], ◌∷◌, length, get_or, refl, sym, ap, ◌∙◌, subst, arith}
use Rattle.std.proofs.lemmas.Bool.{and_parts, cases_Bool, cases_lt, eqb-true, eq-eqb, leb-true, false≢true}
use Rattle.std.proofs.lemmas.Bool.Decides.{nat_tests}
use Rattle.std.proofs.lemmas.Cmp.{ranked}
use Rattle.std.proofs.lemmas.List.Sorted.{IsNonDecreasingBy-from_default}
use Rattle.nres_core.specs.declared.op.Op.{Op}
use Rattle.nres_core.specs.declared.op.Op.TheVariants as o
use Rattle.nres_core.specs.declared.row.Kind.{Kind}
use Rattle.nres_core.specs.declared.row.Kind.TheVariants as k
use Rattle.nres_core.specs.declared.row.Row.{Row}
use Rattle.nres_core.specs.declared.row.RowCode.TheVariants as c
use Rattle.target_code.specs.declared.tree.Rep.{Rep}
use Rattle.row_index.specs.FirstRow.{first_of, rule_of_row}
use Rattle.row_index.proofs.FirstRowLemmas.{found_fits}
use Rattle.row_index.specs.Index.{first_kind, own_kind, asked_first, asked_kind, key, rule_key, if_it_fits, row_at, row_of}
use Rattle.row_index.specs.declared.index.Entry.{Entry}
use Rattle.row_index.specs.declared.index.Form.TheVariants as form
use Rattle.row_index.specs.declared.index.TheConstants.{INDEX}
use Rattle.rule_check.specs.Rows.{rule_of}
use Rattle.rule_check.specs.Table.{Rule, Take, kind_of, kind_number, op_number, same_kind, takes_these, makes_this, one_bound, fits, row_for}
use Rattle.rule_check.specs.declared.table.TheConstants.{RULES}

-- ---- what fits has the key that is asked for

first_kinds : (ts : List Take) (xs : List Rep) → takes_these ts xs ≡ true → kind_number (first_kind ts) ≡ kind_number (asked_first xs)
first_kinds [] [] e = refl
first_kinds [] (x ∷ xs) e = absurd (false≢true e)
first_kinds (t ∷ ts) [] e = absurd (false≢true e)
first_kinds (t ∷ ts) (x ∷ xs) e = eqb-true (kind_number t.kind) (kind_number (kind_of x)) (and_parts (same_kind t.kind (kind_of x)) (takes_these ts xs) e).0

own_kinds : (m : Option Kind) (ts : List Take) (y : Option Rep) (xs : List Rep) → takes_these ts xs ≡ true → makes_this m y ≡ true → kind_number (own_kind m ts) ≡ kind_number (asked_kind y xs)
own_kinds None ts None xs e f = first_kinds ts xs e
own_kinds None ts (Some y) xs e f = absurd (false≢true f)
own_kinds (Some m) ts None xs e f = absurd (false≢true f)
own_kinds (Some m) ts (Some y) xs e f = eqb-true (kind_number m) (kind_number (kind_of y)) f

fitting_key : (t : Rule) (op : Op) (xs : List Rep) (y : Option Rep) → fits t op xs y ≡ true → rule_key t ≡ key op (asked_kind y xs)
unfolding key
fitting_key t op xs y e =
    let a = and_parts (nat_eq (op_number t.op) (op_number op)) (takes_these t.takes xs && (makes_this t.made y && one_bound xs)) e in
    let b = and_parts (takes_these t.takes xs) (makes_this t.made y && one_bound xs) a.1 in
    let c = and_parts (makes_this t.made y) (one_bound xs) b.1 in
    let same_op = eqb-true (op_number t.op) (op_number op) a.0 in
    let same_kinds = own_kinds t.made t.takes y xs b.0 c.0 in
    rw (same_op, same_kinds) refl

-- ---- rows of distinct keys

abbrev not_in : ℕ → List Row → Bool
not_in n [] = true
not_in n (x ∷ xs) = not (nat_eq (rule_key (rule_of x)) n) && not_in n xs

abbrev distinct : List Row → Bool
distinct [] = true
distinct (x ∷ xs) = not_in (rule_key (rule_of x)) xs && distinct xs

not_at : (n : ℕ) (xs : List Row) → not_in n xs ≡ true → row_at xs n ≡ None
unfolding row_at
not_at n [] e = refl
not_at n (x ∷ xs) e =
    let p = and_parts (not (nat_eq (rule_key (rule_of x)) n)) (not_in n xs) e in
    elim (cases_Bool (nat_eq (rule_key (rule_of x)) n)) [
      | inl f ↦ absurd (false≢true (subst (λ b. not b ≡ true) f p.0))
      | inr f ↦ rw f (not_at n xs p.1)
    ]

module _ (op : Op) (xs : List Rep) (y : Option Rep) where
  abbrev asked : ℕ
  asked = key op (asked_kind y xs)

  pub first_at : (rows : List Row) → distinct rows ≡ true → first_of rows op xs y ≡ if_it_fits (row_at rows asked) op xs y
  unfolding row_at
  first_at [] e = refl
  first_at (x ∷ rest) e =
      let p = and_parts (not_in (rule_key (rule_of x)) rest) (distinct rest) e in
      let later = first_at rest p.1 in
      elim (cases_Bool (nat_eq (rule_key (rule_of x)) asked)) [
        | inl f ↦ (
            let none = not_at asked rest (subst (λ n. not_in n rest ≡ true) (eqb-true (rule_key (rule_of x)) asked f) p.0) in
            let gone : first_of rest op xs y ≡ None = later ∙ rw none refl in
            rw (f, gone) refl)
        | inr f ↦ (
            elim (cases_Bool (fits (rule_of x) op xs y)) [
              | inl g ↦ absurd (false≢true (sym f ∙ eq-eqb (rule_key (rule_of x)) asked (fitting_key (rule_of x) op xs y g)))
              | inr g ↦ rw (f, g) later
            ])
      ]

rules_distinct : distinct RULES ≡ true
unfolding key
rules_distinct = refl

-- what is found at the key that is asked for, if it fits, is the first row that fits
pub found_first : (op : Op) (xs : List Rep) (y : Option Rep) → if_it_fits (row_at RULES (key op (asked_kind y xs))) op xs y ≡ first_of RULES op xs y
found_first op xs y = sym (first_at op xs y RULES rules_distinct)

pub found_rule : (op : Op) (xs : List Rep) (y : Option Rep) → rule_of_row (if_it_fits (row_at RULES (key op (asked_kind y xs))) op xs y) ≡ row_for op xs y
found_rule op xs y = ap rule_of_row (found_first op xs y) ∙ found_fits RULES op xs y

-- ---- the index

abbrev pub entry_key : Entry → ℕ
entry_key e = key e.0 e.1

-- any entry
abbrev pub some_entry : Entry
some_entry = record { 0 = o.Zeros; 1 = k.Array; 2 = form.Takes; 3 = c.Register 0 }

abbrev is_in : ℕ → List Entry → Bool
is_in n [] = false
is_in n (e ∷ es) = nat_eq (entry_key e) n || is_in n es

abbrev all_in : List Row → List Entry → Bool
all_in [] es = true
all_in (x ∷ xs) es = is_in (rule_key (rule_of x)) es && all_in xs es

abbrev all_from : ℕ → List Entry → Bool
all_from n [] = true
all_from n (e ∷ es) = nat_le n (entry_key e) && all_from n es

abbrev ascends : List Entry → Bool
ascends [] = true
ascends (e ∷ es) = all_from (entry_key e) es && ascends es

abbrev AllFound : List Row → List Entry → Type 0
AllFound rows [] = Unit {0}
AllFound rows (e ∷ es) = (row_at rows (entry_key e) ≡ Some (row_of e)) × AllFound rows es

found_at : (rows : List Row) (es : List Entry) (i : ℕ) (d : Entry) → AllFound rows es → i < length es → row_at rows (entry_key (get_or es i d)) ≡ Some (row_of (get_or es i d))
found_at rows [] i d h l = absurd (omega arith)
found_at rows (e ∷ es) zero d h l = h.0
found_at rows (e ∷ es) (suc i) d h l = found_at rows es i d h.1 (omega arith)

from : (n : ℕ) (es : List Entry) (j : ℕ) (d : Entry) → all_from n es ≡ true → j < length es → n ≤ entry_key (get_or es j d)
from n [] j d e l = absurd (omega arith)
from n (e ∷ es) zero d h l = leb-true n (entry_key e) (and_parts (nat_le n (entry_key e)) (all_from n es) h).0
from n (e ∷ es) (suc j) d h l = from n es j d (and_parts (nat_le n (entry_key e)) (all_from n es) h).1 (omega arith)

up : (es : List Entry) (i j : ℕ) (d : Entry) → ascends es ≡ true → i ≤ j → j < length es → entry_key (get_or es i d) ≤ entry_key (get_or es j d)
up [] i j d h le l = absurd (omega arith)
up (e ∷ es) zero zero d h le l = omega arith
up (e ∷ es) zero (suc j) d h le l = from (entry_key e) es j d (and_parts (all_from (entry_key e) es) (ascends es) h).0 (omega arith)
up (e ∷ es) (suc i) zero d h le l = absurd (omega arith)
up (e ∷ es) (suc i) (suc j) d h le l = up es i j d (and_parts (all_from (entry_key e) es) (ascends es) h).1 (omega arith) (omega arith)

missed : (n : ℕ) (es : List Entry) (d : Entry) → ((j : ℕ) → j < length es → nat_eq (entry_key (get_or es j d)) n ≡ false) → is_in n es ≡ false
missed n [] d h = refl
missed n (e ∷ es) d h =
    let here : nat_eq (entry_key e) n ≡ false = h 0 (omega arith) in
    rw here (missed n es d (λ j l. h (suc j) (omega arith)))

no_row : (n : ℕ) (rows : List Row) (es : List Entry) → all_in rows es ≡ true → is_in n es ≡ false → row_at rows n ≡ None
unfolding row_at
no_row n [] es h e = refl
no_row n (x ∷ xs) es h e =
    let p = and_parts (is_in (rule_key (rule_of x)) es) (all_in xs es) h in
    elim (cases_Bool (nat_eq (rule_key (rule_of x)) n)) [
      | inl f ↦ absurd (false≢true (sym e ∙ subst (λ m. is_in m es ≡ true) (eqb-true (rule_key (rule_of x)) n f) p.0))
      | inr f ↦ rw f (no_row n xs es p.1 e)
    ]

index_ascends : ascends INDEX ≡ true
unfolding key
index_ascends = refl

index_whole : all_in RULES INDEX ≡ true
unfolding key
index_whole = refl

index_found : AllFound RULES INDEX
unfolding row_at key
index_found = (refl, (refl, (refl, (refl, (refl, (refl, (refl, (refl, (refl, (refl, (refl, (refl, (refl, (refl, (refl, (refl, (refl, (refl, (refl, (refl, (refl, (refl, (refl, (refl, (refl, (refl, (refl, (refl, (refl, (refl, (refl, (refl, (refl, (refl, (refl, (refl, (refl, (refl, (refl, (refl, (refl, (refl, (refl, (refl, (refl, (refl, (refl, (refl, (refl, (refl, (refl, (refl, (refl, (refl, (refl, (refl, (refl, (refl, tt))))))))))))))))))))))))))))))))))))))))))))))))))))))))))

module _ (n : ℕ) where
  rises : (d : Entry) (i j : ℕ) → i ≤ j → j < length INDEX → ordering_index (nat_cmp (entry_key (get_or INDEX i d)) n) ≤ ordering_index (nat_cmp (entry_key (get_or INDEX j d)) n)
  rises d i j le l =
      let keys = up INDEX i j d index_ascends le l in
      higher (entry_key (get_or INDEX i d)) (entry_key (get_or INDEX j d)) keys
    where
      higher : (a b : ℕ) → a ≤ b → ordering_index (nat_cmp a n) ≤ ordering_index (nat_cmp b n)
      higher a b le = grind (arith, nat_tests)

  -- what a search for a key in the index says of the table
  pub searched : (d : Entry) (r : Result ℕ ℕ) → IsSearchInRange r (length INDEX) → IsBinarySearchResult (λ e. nat_cmp (entry_key e) n) INDEX r
      → record { found : IfOk r (λ i. row_at RULES n ≡ Some (row_of (get_or INDEX i d))); absent : IfErr r (λ i. row_at RULES n ≡ None) }
  searched d (Ok i) l equal =
      let same : entry_key (get_or INDEX i d) ≡ n = ranked (entry_key (get_or INDEX i d)) n _ (sym (equal d)) in
      record { found = subst (λ m. row_at RULES m ≡ Some (row_of (get_or INDEX i d))) same (found_at RULES INDEX i d index_found l); absent = tt }
  searched d (Err i) l parted =
      let parts = parted (IsNonDecreasingBy-from_default (λ e. ordering_index (nat_cmp (entry_key e) n)) INDEX d (rises d)) in
      record {
        found = tt;
        absent = no_row n RULES INDEX index_whole (missed n INDEX d (λ j lt.
            elim (cases_lt j i) [
              | inl before ↦ below (entry_key (get_or INDEX j d)) (ranked (entry_key (get_or INDEX j d)) n _ (sym (parts.0 j d (omega arith) before)))
              | inr behind ↦ above (entry_key (get_or INDEX j d)) (ranked (entry_key (get_or INDEX j d)) n _ (sym (parts.1 j d behind lt)))
            ]));
      }
    where
      below : (a : ℕ) → a < n → nat_eq a n ≡ false
      below a l = grind (arith, nat_tests)

      above : (a : ℕ) → n < a → nat_eq a n ≡ false
      above a l = grind (arith, nat_tests)
