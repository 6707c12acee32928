-- A name that is not among fewer than 3 to the 64th.
use Rattle.std.proofs.Common.{◌≡◌, ℕ, zero, suc, ◌+◌, ◌*◌, ◌<◌, ◌≤◌, ◌&&◌, ◌||◌, cond, Bool, true, false, nat_eq, nat_lt, nat_le, List, [], ◌∷◌, length, map, Some, None, refl, ap, ◌∙◌, arith}
use Rattle.std.specs.List.{list_all}
use Rattle.std.specs.Str.{bytes_eq}
use Rattle.std.specs.Cmp.Derive.{both_true}
use Rattle.std.proofs.lemmas.Bool.{ltb-true, ltb-false, le-leb}
use Rattle.std.proofs.lemmas.Slice.Eq.{bytes_eq-Decides}
use Rattle.target_code.specs.Reserved.{is_lower, is_proc_byte, is_proc_name}
use Rattle.target_lines.proofs.Pieces.{and_parts}
use Rattle.target_judge.specs.Numbers.{Numbers, number_of}

-- 3 to this power
pub many : ℕ → ℕ
many zero = 1
many (suc k) = 3 * many k

-- what stands behind the first byte, by that byte: `a`, `b` or another
record Split : Type 0 where
  a : List (List ℕ)
  b : List (List ℕ)
  c : List (List ℕ)

abbrev add : Bool → Bool → List ℕ → Split → Split
add true w xs s = record { a = xs ∷ s.a; b = s.b; c = s.c }
add false true xs s = record { a = s.a; b = xs ∷ s.b; c = s.c }
add false false xs s = record { a = s.a; b = s.b; c = xs ∷ s.c }

split : List (List ℕ) → Split
split [] = record { a = []; b = []; c = [] }
split ([] ∷ xss) = split xss
split ((x ∷ xs) ∷ xss) = add (nat_eq x 97) (nat_eq x 98) xs (split xss)

abbrev size : Split → ℕ
size s = length s.a + length s.b + length s.c

add_one : (v w : Bool) (xs : List ℕ) (s : Split) → size (add v w xs s) ≡ suc (size s)
add_one true w xs s = omega arith
add_one false true xs s = omega arith
add_one false false xs s = omega arith

split_size : (xss : List (List ℕ)) → size (split xss) ≤ length xss
unfolding split
split_size [] = omega arith
split_size ([] ∷ xss) = omega (arith, split_size xss)
split_size ((x ∷ xs) ∷ xss) = omega (arith, add_one (nat_eq x 97) (nat_eq x 98) xs (split xss), split_size xss)

abbrev pub Absent : List ℕ → List (List ℕ) → Type 0
Absent x [] = Unit {0}
Absent x (y ∷ ys) = (x ≡ y → ⊥) × Absent x ys

in_a : (y : ℕ) (ys xs : List ℕ) (s : Split) (rest : List (List ℕ)) → (Absent xs s.a → Absent (97 ∷ xs) rest) → (v w : Bool) → nat_eq y 97 ≡ v → Absent xs (add v w ys s).a → Absent (97 ∷ xs) ((y ∷ ys) ∷ rest)
in_a y ys xs s rest h true w e k = ((λ is. (let same : xs ≡ ys = cc in k.0 same)), h k.1)
in_a y ys xs s rest h false true e k = ((λ is. (let same : 97 ≡ y = cc in let clash : true ≡ false = ap (λ n. nat_eq n 97) same ∙ e in absurd cc)), h k)
in_a y ys xs s rest h false false e k = ((λ is. (let same : 97 ≡ y = cc in let clash : true ≡ false = ap (λ n. nat_eq n 97) same ∙ e in absurd cc)), h k)

absent_a : (xs : List ℕ) (xss : List (List ℕ)) → Absent xs (split xss).a → Absent (97 ∷ xs) xss
unfolding split
absent_a xs [] h = tt
absent_a xs ([] ∷ xss) h = ((λ is. absurd cc), absent_a xs xss h)
absent_a xs ((y ∷ ys) ∷ xss) h = in_a y ys xs (split xss) xss (absent_a xs xss) (nat_eq y 97) (nat_eq y 98) refl h

in_b : (y : ℕ) (ys xs : List ℕ) (s : Split) (rest : List (List ℕ)) → (Absent xs s.b → Absent (98 ∷ xs) rest) → (v w : Bool) → nat_eq y 97 ≡ v → nat_eq y 98 ≡ w → Absent xs (add v w ys s).b → Absent (98 ∷ xs) ((y ∷ ys) ∷ rest)
in_b y ys xs s rest h true w e f k = ((λ is. (let same : 98 ≡ y = cc in let clash : false ≡ true = ap (λ n. nat_eq n 97) same ∙ e in absurd cc)), h k)
in_b y ys xs s rest h false true e f k = ((λ is. (let same : xs ≡ ys = cc in k.0 same)), h k.1)
in_b y ys xs s rest h false false e f k = ((λ is. (let same : 98 ≡ y = cc in let clash : true ≡ false = ap (λ n. nat_eq n 98) same ∙ f in absurd cc)), h k)

absent_b : (xs : List ℕ) (xss : List (List ℕ)) → Absent xs (split xss).b → Absent (98 ∷ xs) xss
unfolding split
absent_b xs [] h = tt
absent_b xs ([] ∷ xss) h = ((λ is. absurd cc), absent_b xs xss h)
absent_b xs ((y ∷ ys) ∷ xss) h = in_b y ys xs (split xss) xss (absent_b xs xss) (nat_eq y 97) (nat_eq y 98) refl refl h

in_c : (y : ℕ) (ys xs : List ℕ) (s : Split) (rest : List (List ℕ)) → (Absent xs s.c → Absent (99 ∷ xs) rest) → (v w : Bool) → nat_eq y 97 ≡ v → nat_eq y 98 ≡ w → Absent xs (add v w ys s).c → Absent (99 ∷ xs) ((y ∷ ys) ∷ rest)
in_c y ys xs s rest h true w e f k = ((λ is. (let same : 99 ≡ y = cc in let clash : false ≡ true = ap (λ n. nat_eq n 97) same ∙ e in absurd cc)), h k)
in_c y ys xs s rest h false true e f k = ((λ is. (let same : 99 ≡ y = cc in let clash : false ≡ true = ap (λ n. nat_eq n 98) same ∙ f in absurd cc)), h k)
in_c y ys xs s rest h false false e f k = ((λ is. (let same : xs ≡ ys = cc in k.0 same)), h k.1)

absent_c : (xs : List ℕ) (xss : List (List ℕ)) → Absent xs (split xss).c → Absent (99 ∷ xs) xss
unfolding split
absent_c xs [] h = tt
absent_c xs ([] ∷ xss) h = ((λ is. absurd cc), absent_c xs xss h)
absent_c xs ((y ∷ ys) ∷ xss) h = in_c y ys xs (split xss) xss (absent_c xs xss) (nat_eq y 97) (nat_eq y 98) refl refl h

-- so many letters that are not among these
record Letters (k : ℕ) (xss : List (List ℕ)) : Type 0 where
  name : List ℕ
  long : length name ≡ k
  lower : list_all is_lower name ≡ true
  absent : Absent name xss

no_names : (xss : List (List ℕ)) → length xss < 1 → Absent [] xss
no_names [] h = tt
no_names (x ∷ xss) h = absurd (omega arith)

-- with one of three letters in front, behind which fewest stand
longer : (k : ℕ) (xss : List (List ℕ)) → length xss < 3 * many k → ((yss : List (List ℕ)) → length yss < many k → Letters k yss) → Letters (suc k) xss
longer k xss h letters = by_a (nat_lt (length s.a) (many k)) refl
  where
    s : Split
    s = split xss

    by_b : (v : Bool) → nat_lt (length s.b) (many k) ≡ v → many k ≤ length s.a → Letters (suc k) xss
    by_b true e q =
        (let rest = letters s.b (ltb-true (length s.b) (many k) e) in
        record { name = 98 ∷ rest.name; long = ap suc rest.long; lower = rest.lower; absent = absent_b rest.name xss rest.absent })
    by_b false e q =
        (let few : length s.c < many k = omega (arith, split_size xss, ltb-false (length s.b) (many k) e, q, h) in
        let rest = letters s.c few in
        record { name = 99 ∷ rest.name; long = ap suc rest.long; lower = rest.lower; absent = absent_c rest.name xss rest.absent })

    by_a : (v : Bool) → nat_lt (length s.a) (many k) ≡ v → Letters (suc k) xss
    by_a true e =
        (let rest = letters s.a (ltb-true (length s.a) (many k) e) in
        record { name = 97 ∷ rest.name; long = ap suc rest.long; lower = rest.lower; absent = absent_a rest.name xss rest.absent })
    by_a false e = by_b (nat_lt (length s.b) (many k)) refl (ltb-false (length s.a) (many k) e)

letters : (k : ℕ) (xss : List (List ℕ)) → length xss < many k → Letters k xss
unfolding many
letters zero xss h = record { name = []; long = refl; lower = refl; absent = no_names xss h }
letters (suc k) xss h = longer k xss h (letters k)

-- ---- the name of a procedure

lower_bytes : (bs : List ℕ) → list_all is_lower bs ≡ true → list_all is_proc_byte bs ≡ true
lower_bytes [] h = refl
lower_bytes (b ∷ bs) h =
    let parts = and_parts (is_lower b) (list_all is_lower bs) h in
    both_true (ap (λ v. v || (nat_le 48 b && nat_le b 57) || nat_eq b 95) parts.0) (lower_bytes bs parts.1)

names_proc : (bs : List ℕ) → length bs ≡ 64 → list_all is_lower bs ≡ true → is_proc_name bs ≡ true
names_proc [] long h = absurd (omega (arith, long))
names_proc (b ∷ bs) long h =
    let parts = and_parts (is_lower b) (list_all is_lower bs) h in
    both_true (both_true parts.0 (le-leb (length bs) 63 (omega (arith, long)))) (lower_bytes bs parts.1)

untold : (x : List ℕ) (es : Numbers) → Absent x (map (λ e. e.0) es) → number_of x es ≡ None
untold x [] h = refl
untold x (e ∷ es) h = by_name (untold x es h.1) (bytes_eq x e.0) refl
  where
    by_name : number_of x es ≡ None → (v : Bool) → bytes_eq x e.0 ≡ v → cond v (Some e.1) (number_of x es) ≡ None
    by_name rest true is = absurd (h.0 ((bytes_eq-Decides x e.0).0 is))
    by_name rest false is = rest

long_map : (es : Numbers) → length (map (λ e. e.0) es) ≡ length es
long_map [] = refl
long_map (e ∷ es) = ap suc (long_map es)

-- one of which these tell nothing
pub record FreshName (es : Numbers) : Type 0 where
  pub name : List ℕ
  pub named : is_proc_name name ≡ true
  pub untold : number_of name es ≡ None

pub fresh_name : (es : Numbers) → length es < many 64 → FreshName es
fresh_name es few =
    let found = letters 64 (map (λ (e : List ℕ × ℕ). e.0) es) (omega (arith, few, long_map es)) in
    record { name = found.name; named = names_proc found.name found.long found.lower; untold = untold found.name es found.absent }

pub many_here : 80000000000000000000000 < many 64
unfolding many
many_here = omega arith
