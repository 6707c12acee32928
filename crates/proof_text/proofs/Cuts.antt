-- A text is cut at the first of its bytes that is a given one.
use Rattle.std.proofs.Common.{◌≡◌, ℕ, ◌+◌, ◌<◌, ◌^◌, ◌%◌, nat_eq, not, Bool, true, false, List, [], ◌∷◌, ◌++◌, drop, decimal, refl, ap, sym, ◌∙◌, arith}
use Rattle.std.specs.List.{list_all}
use Rattle.std.specs.Cmp.Derive.{both_true}
use Rattle.std.proofs.lemmas.Bool.{eqb-true, eq-eqb, not-true, both_ways, and_parts}
use Rattle.std.proofs.lemmas.Fmt.{decimal_by_steps}
use Rattle.std.proofs.lemmas.List.Folds.{list_all-append}
use Rattle.target_lines.specs.Texts.{register_text}
use Rattle.target_lines.specs.Fits.{IsSmall}
use Rattle.target_lines.specs.Reading.{first}
use Rattle.proof_text.specs.Guesses.{is_not, Lacks}

not_itself : (c b : ℕ) → is_not c b ≡ true → b ≡ c → ⊥
not_itself c b h e = both_ways (nat_eq b c) (not-true (nat_eq b c) h) (eq-eqb b c e)

pub both_lack : (c : ℕ) (xs ys : List ℕ) → Lacks c xs → Lacks c ys → Lacks c (xs ++ ys)
both_lack c xs ys h k = list_all-append (is_not c) xs ys ∙ both_true h k

pub front_lacks : (c : ℕ) (xs ys : List ℕ) → Lacks c (xs ++ ys) → Lacks c xs
front_lacks c xs ys h = (and_parts (list_all (is_not c) xs) (list_all (is_not c) ys) (sym (list_all-append (is_not c) xs ys) ∙ h)).0

-- what has the byte does not lack it
pub has : (c : ℕ) (xs ys : List ℕ) → Lacks c (xs ++ (c ∷ ys)) → ⊥
has c [] ys h = not_itself c c (and_parts (is_not c c) (list_all (is_not c) ys) h).0 refl
has c (x ∷ xs) ys h = has c xs ys (and_parts (is_not c x) (list_all (is_not c) (xs ++ (c ∷ ys))) h).1

-- a text is cut in one way
pub cut_same : (c : ℕ) (xs ys us vs : List ℕ) → Lacks c xs → Lacks c us → xs ++ (c ∷ ys) ≡ us ++ (c ∷ vs) → (xs ≡ us) × (ys ≡ vs)
cut_same c [] ys [] vs h k e = (refl, ap (drop 1) e)
cut_same c [] ys (u ∷ us) vs h k e = absurd (not_itself c u (and_parts (is_not c u) (list_all (is_not c) us) k).0 (sym (ap first e)))
cut_same c (x ∷ xs) ys [] vs h k e = absurd (not_itself c x (and_parts (is_not c x) (list_all (is_not c) xs) h).0 (ap first e))
cut_same c (x ∷ xs) ys (u ∷ us) vs h k e =
    let rest = cut_same c xs ys us vs (and_parts (is_not c x) (list_all (is_not c) xs) h).1 (and_parts (is_not c u) (list_all (is_not c) us) k).1 (ap (drop 1) e) in
    (ap (λ z. z ∷ xs) (ap first e) ∙ ap (λ (zs : List ℕ). u ∷ zs) rest.0, rest.1)

-- ---- numbers

digit_lacks : (c d : ℕ) → c < 48 → Lacks c ((48 + d) ∷ [])
digit_lacks c d lt = both_true (by_test (nat_eq (48 + d) c) refl) refl
  where
    by_test : (v : Bool) → nat_eq (48 + d) c ≡ v → not v ≡ true
    by_test true e = let same : 48 + d ≡ c = eqb-true (48 + d) c e in absurd (omega arith)
    by_test false e = refl

pub register_lacks : (c : ℕ) → c < 48 → is_not c 114 ≡ true → (r : ℕ) → IsSmall r → Lacks c (register_text r)
register_lacks c lt begins r small =
    both_true begins (decimal_by_steps (λ m ds. Lacks c ds) (λ d below. digit_lacks c d lt) (λ m ds large so_far. both_lack c ds ((48 + m % 10) ∷ []) so_far (digit_lacks c (m % 10) lt)) r (omega arith))
