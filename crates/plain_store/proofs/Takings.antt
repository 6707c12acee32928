-- What takings leave of an amount.
use Rattle.std.proofs.Common.{◌≡◌, ℕ, zero, suc, ◌+◌, ◌-◌, ◌/◌, ◌≤◌, Bool, true, false, cond, List, [], ◌∷◌, ◌++◌, map, refl, sym, ap, ◌∙◌, arith}
use Rattle.std.specs.Prelude.{◌||◌}
use Rattle.target_meaning.specs.Held.{Take, all_given, all_kept, given_share, in_part, is_among, kept, kept_share}
use Rattle.target_meaning.specs.Piece.{Piece, add, share_of}
use Rattle.target_meaning.proofs.Keeps.{share-add}
use Rattle.target_meaning.specs.Turns.{part_of}
use Rattle.target_meaning.specs.declared.frame.Part.{Part}
use Rattle.target_meaning.specs.declared.frame.Starting.{Starting}
use Rattle.branch_exec.specs.Stores.{takes_of_left, takes_of_right}
use Rattle.plain_store.specs.Cuts.{left_of, left_by, takes_where, is_in_some}

pub left_append : (xs ys : List Take) (b j n : ℕ) → left_by (xs ++ ys) b j n ≡ left_by ys b j (left_by xs b j n)
left_append [] ys b j n = refl
left_append (x ∷ xs) ys b j n = left_append xs ys b j (left_of (in_part x.part b j) x.all n)

where_all : (lent ps : List Part) → takes_where true lent ps ≡ map (λ p. record { part = p; all = true }) (map part_of ps)
where_all lent [] = refl
where_all lent (p ∷ ps) = ap (λ l. record { part = part_of p; all = true } ∷ l) (where_all lent ps)

where_half : (ps : List Part) → takes_where false [] ps ≡ map (λ p. record { part = p; all = false }) (map part_of ps)
where_half [] = refl
where_half (p ∷ ps) = ap (λ l. record { part = part_of p; all = false } ∷ l) (where_half ps)

where_right : (lent ps : List Part) → takes_where false lent ps ≡ map (λ p. record { part = p; all = is_among p (map part_of lent) }) (map part_of ps)
where_right lent [] = refl
where_right lent (p ∷ ps) = ap (λ l. record { part = part_of p; all = is_among (part_of p) (map part_of lent) } ∷ l) (where_right lent ps)

pub left_is : (l : Starting) (b j n : ℕ) → left_by (takes_where false [] l.lends.items) b j (left_by (takes_where true [] l.hands.items) b j n) ≡ left_by (takes_of_left l) b j n
left_is l b j n =
    ap (λ ts. left_by ts b j (left_by (takes_where true [] l.hands.items) b j n)) (where_half l.lends.items)
    ∙ (ap (λ ts. left_by (map (λ p. record { part = p; all = false }) (map part_of l.lends.items)) b j (left_by ts b j n)) (where_all [] l.hands.items)
    ∙ sym (left_append (map (λ p. record { part = p; all = true }) (map part_of l.hands.items)) (map (λ p. record { part = p; all = false }) (map part_of l.lends.items)) b j n))

pub right_is : (l r : Starting) (b j n : ℕ) → left_by (takes_where false l.lends.items r.lends.items) b j (left_by (takes_where true [] r.hands.items) b j n) ≡ left_by (takes_of_right l r) b j n
right_is l r b j n =
    ap (λ ts. left_by ts b j (left_by (takes_where true [] r.hands.items) b j n)) (where_right l.lends.items r.lends.items)
    ∙ (ap (λ ts. left_by (map (λ p. record { part = p; all = is_among p (map part_of l.lends.items) }) (map part_of r.lends.items)) b j (left_by ts b j n)) (where_all [] r.hands.items)
    ∙ sym (left_append (map (λ p. record { part = p; all = true }) (map part_of r.hands.items)) (map (λ p. record { part = p; all = is_among p (map part_of l.lends.items) }) (map part_of r.lends.items)) b j n))

-- no more is left than there was
half_le : (n : ℕ) → n - n / 2 ≤ n
half_le n = omega arith

left_of_le : (t all : Bool) (n : ℕ) → left_of t all n ≤ n
left_of_le false all n = omega arith
left_of_le true true n = omega arith
left_of_le true false n = half_le n

pub left_le : (ts : List Take) (b j n : ℕ) → left_by ts b j n ≤ n
left_le [] b j n = omega arith
left_le (t ∷ ts) b j n =
    let r = left_le ts b j (left_of (in_part t.part b j) t.all n) in
    let o = left_of_le (in_part t.part b j) t.all n in
    omega (arith, r, o)

left_of_none : (t all : Bool) → left_of t all 0 ≡ 0
left_of_none false all = refl
left_of_none true true = refl
left_of_none true false = refl

pub left_none : (ts : List Take) (b j : ℕ) → left_by ts b j 0 ≡ 0
left_none [] b j = refl
left_none (t ∷ ts) b j = ap (left_by ts b j) (left_of_none (in_part t.part b j) t.all) ∙ left_none ts b j

-- takings of no part in which a place lies leave all of it
not_some : (t u : Bool) → cond t true u ≡ false → (t ≡ false) × (u ≡ false)
not_some true u e = cc e
not_some false u e = (refl, e)

pub left_all : (all : Bool) (lent ps : List Part) (b j n : ℕ) → is_in_some ps b j ≡ false → left_by (takes_where all lent ps) b j n ≡ n
left_all all lent [] b j n e = refl
left_all all lent (p ∷ ps) b j n e =
    let w = not_some (in_part (part_of p) b j) (is_in_some ps b j) e in
    ap (λ t. left_by (takes_where all lent ps) b j (left_of t (all_or all (is_among (part_of p) (map part_of lent))) n)) w.0
    ∙ left_all all lent ps b j n w.1
  where
    all_or : Bool → Bool → Bool
    all_or x y = x || y

-- what a taking gives and keeps of so much of a place
kept_one : (t all : Bool) (v n : ℕ) → kept_share t all (share_of v n) ≡ share_of v (left_of t all n)
kept_one false all v n = refl
kept_one true true v n = refl
kept_one true false v zero = refl
kept_one true false v (suc k) = refl

half_left : (n : ℕ) → n / 2 ≡ n - (n - n / 2)
half_left n = omega arith

none_left : (n : ℕ) → 0 ≡ n - n
none_left n = omega arith

all_of : (n : ℕ) → n ≡ n - 0
all_of n = omega arith

given_one : (t all : Bool) (v n : ℕ) → given_share t all (share_of v n) ≡ share_of v (n - left_of t all n)
given_one false all v n = ap (share_of v) (none_left n)
given_one true true v n = ap (share_of v) (all_of n)
given_one true false v zero = refl
given_one true false v (suc k) = ap (share_of v) (half_left (suc k))

pub kept_by_takes : (ts : List Take) (p : Piece) (b j v n : ℕ) → p b j ≡ share_of v n → all_kept ts p b j ≡ share_of v (left_by ts b j n)
kept_by_takes [] p b j v n e = e
kept_by_takes (t ∷ ts) p b j v n e =
    kept_by_takes ts (kept t p) b j v (left_of (in_part t.part b j) t.all n) (ap (kept_share (in_part t.part b j) t.all) e ∙ kept_one (in_part t.part b j) t.all v n)

parts_sum : (n m k : ℕ) → k ≤ m → m ≤ n → (n - m) + (m - k) ≡ n - k
parts_sum n m k a b = omega (arith, a, b)

pub given_by_takes : (ts : List Take) (p : Piece) (b j v n : ℕ) → p b j ≡ share_of v n → all_given ts p b j ≡ share_of v (n - left_by ts b j n)
given_by_takes [] p b j v n e = ap (share_of v) (none_left n)
given_by_takes (t ∷ ts) p b j v n e =
    let i = in_part t.part b j in
    let m = left_of i t.all n in
    ap (λ x. add x (all_given ts (kept t p) b j)) (ap (given_share i t.all) e ∙ given_one i t.all v n)
    ∙ (ap (add (share_of v (n - m))) (given_by_takes ts (kept t p) b j v m (ap (kept_share i t.all) e ∙ kept_one i t.all v n))
    ∙ (share-add v (n - m) (m - left_by ts b j m) ∙ ap (share_of v) (parts_sum n m (left_by ts b j m) (left_le ts b j m) (left_of_le i t.all n))))
