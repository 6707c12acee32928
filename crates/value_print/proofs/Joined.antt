-- Texts with commas between them, and lines, as one text for each thing.
use Rattle.std.proofs.Common.{◌≡◌, ℕ, ◌-◌, ◌≤◌, List, [], ◌∷◌, ◌++◌, length, take, drop, get_or, codes, decimal, ap, sym, refl, append_assoc, ◌∙◌, arith}
use Rattle.std.proofs.lemmas.List.{append-nil, take_all, take_rest}
use Rattle.std.specs.List.{flat_map}
use Rattle.nres_core.specs.declared.value.Value.{Value}
use Rattle.relations.specs.ResultLines.{listed, numbers, pairs, value_text, result_lines}

abbrev pub number_behind : ℕ → List ℕ
number_behind n = codes ", " ++ decimal n

abbrev pub pair_text : ℕ × ℕ → List ℕ
pair_text e = decimal e.0 ++ codes ": " ++ decimal e.1

abbrev pub pair_behind : ℕ × ℕ → List ℕ
pair_behind e = codes ", " ++ pair_text e

abbrev pub line_text : Value → List ℕ
line_text x = codes "= " ++ (value_text x ++ 10 ∷ [])

-- the first number, and the others each behind a comma
pub numbers_joined : (n : ℕ) (ns : List ℕ) → listed (numbers (n ∷ ns)) ≡ decimal n ++ flat_map number_behind ns
numbers_joined n [] = sym (append-nil (decimal n))
numbers_joined n (m ∷ ms) = append_assoc (decimal n) (codes ", ") (listed (numbers (m ∷ ms))) ∙ ap (λ r. decimal n ++ (codes ", " ++ r)) (numbers_joined m ms)

-- the first pair, and the others each behind a comma
pub pairs_joined : (e : ℕ × ℕ) (es : List (ℕ × ℕ)) → listed (pairs (e ∷ es)) ≡ pair_text e ++ flat_map pair_behind es
pairs_joined e [] = sym (append-nil (pair_text e))
pairs_joined e (f ∷ fs) = append_assoc (pair_text e) (codes ", ") (listed (pairs (f ∷ fs))) ∙ ap (λ r. pair_text e ++ (codes ", " ++ r)) (pairs_joined f fs)

-- when all behind the first are done, they are all that is behind it
others_whole : {A : Type 0} (x : A) (xs : List A) (i : ℕ) → length (take (length (x ∷ xs) - 1) (drop 1 (x ∷ xs))) ≤ i → take i (take (length (x ∷ xs) - 1) (drop 1 (x ∷ xs))) ≡ xs
others_whole x xs i end = take_all i (take (length (x ∷ xs) - 1) (drop 1 (x ∷ xs))) end ∙ take_rest (x ∷ xs) 1

-- when all numbers behind the first are written
pub numbers_ended : (out ns : List ℕ) (i : ℕ) → 1 ≤ length ns → length (take (length ns - 1) (drop 1 ns)) ≤ i → (out ++ decimal (get_or ns 0 0)) ++ flat_map number_behind (take i (take (length ns - 1) (drop 1 ns))) ≡ out ++ listed (numbers ns)
numbers_ended out [] i some end = absurd (omega arith)
numbers_ended out (n ∷ ns) i some end =
    append_assoc out (decimal n) _ ∙ ap (λ r. out ++ r) (ap (λ r. decimal n ++ flat_map number_behind r) (others_whole n ns i end) ∙ sym (numbers_joined n ns))

-- when all pairs behind the first are written
pub pairs_ended : (out : List ℕ) (es : List (ℕ × ℕ)) (i : ℕ) → 1 ≤ length es → length (take (length es - 1) (drop 1 es)) ≤ i → (out ++ pair_text (get_or es 0 (0, 0))) ++ flat_map pair_behind (take i (take (length es - 1) (drop 1 es))) ≡ out ++ listed (pairs es)
pairs_ended out [] i some end = absurd (omega arith)
pairs_ended out (e ∷ es) i some end =
    append_assoc out (pair_text e) _ ∙ ap (λ r. out ++ r) (ap (λ r. pair_text e ++ flat_map pair_behind r) (others_whole e es i end) ∙ sym (pairs_joined e es))

-- a line for each value
pub lines_joined : (xs : List Value) → result_lines xs ≡ flat_map line_text xs
lines_joined [] = refl
lines_joined (x ∷ xs) = ap (λ r. codes "= " ++ r) (ap (λ r. value_text x ++ 10 ∷ r) (lines_joined xs) ∙ sym (append_assoc (value_text x) (10 ∷ []) (flat_map line_text xs)))
