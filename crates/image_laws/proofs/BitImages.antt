-- The words of bits that an image has.
use Rattle.std.proofs.Common.{◌≡◌, ℕ, zero, suc, ◌+◌, ◌*◌, ◌^◌, ◌%◌, ◌/◌, ◌<◌, false, cond, List, [], ◌∷◌, length, replicate, refl, sym, ap, ◌∙◌, subst, arith, eq-eqb, ne_eqb}
use Rattle.std.proofs.lemmas.Nat.Bits.{and_pow}
use Rattle.std.specs.Int.Bits.{or_add_and}
use Rattle.std.specs.Prelude.{slice_index, slice_set, bit_and, bit_or}
use Rattle.std.specs.Int.{bit_at}
use Rattle.sequences.specs.Keys.{IsRising}
use Rattle.sequences.proofs.Places.{has_none}
use Rattle.containers.specs.Sets as sets
use Rattle.containers.proofs.SetsOfRising.{contains_has}
use Rattle.containers.proofs.SetItems.{items_rise, from_list-items}
use Rattle.relations.specs.Represents.{Set, one_if}
use Rattle.relations.specs.Images.{bit_word, bit_words}
use Rattle.op_bits.specs.Bits.{HasBits}
use Rattle.op_bits.proofs.Words.{no_bits, with_bit, word_of}

-- an element that lies in no later word
before : (x : ℕ) (xs : List ℕ) (i n : ℕ) → x / 64 < i → bit_words (x ∷ xs) i n ≡ bit_words xs i n
before x xs i zero lt = refl
before x xs i (suc n) lt =
    let h : bit_word (x ∷ xs) i ≡ bit_word xs i =
    (ap (λ b. cond b (2 ^ (x % 64)) 0 + bit_word xs i) (ne_eqb (x / 64) i (λ e. let f : ⊥ = omega (arith, lt, e) in f)) ∙ (let z : 0 + bit_word xs i ≡ bit_word xs i = omega arith in z)) in
    let r = before x xs (suc i) n (omega (arith, lt)) in
    λ j. h j ∷ r j

-- an element changes the word in which it lies
pub changes : (x : ℕ) (xs : List ℕ) (i n k : ℕ) → x / 64 ≡ i + k → bit_words (x ∷ xs) i n ≡ slice_set (bit_words xs i n) k (2 ^ (x % 64) + slice_index (bit_words xs i n) k)
changes x xs i zero k e = refl
changes x xs i (suc n) zero e =
    let h : bit_word (x ∷ xs) i ≡ 2 ^ (x % 64) + bit_word xs i = ap (λ b. cond b (2 ^ (x % 64)) 0 + bit_word xs i) (eq-eqb (x / 64) i (omega (arith, e))) in
    let r = before x xs (suc i) n (omega (arith, e)) in
    λ j. h j ∷ r j
changes x xs i (suc n) (suc k) e =
    let h : bit_word (x ∷ xs) i ≡ bit_word xs i =
    (ap (λ b. cond b (2 ^ (x % 64)) 0 + bit_word xs i) (ne_eqb (x / 64) i (λ q. let f : ⊥ = omega (arith, q, e) in f)) ∙ (let z : 0 + bit_word xs i ≡ bit_word xs i = omega arith in z)) in
    let r = changes x xs (suc i) n k (omega (arith, e)) in
    λ j. h j ∷ r j

pub no_elements : (i n : ℕ) → bit_words [] i n ≡ replicate n 0
no_elements i zero = refl
no_elements i (suc n) = ap (λ ws. 0 ∷ ws) (no_elements (suc i) n)

-- a bit that is 0 is set by a sum or by or
pub sum_or : (u x : ℕ) (s : Set) (ws : List ℕ) → HasBits u s ws → x < u → sets.contains s x ≡ false → 2 ^ (x % 64) + slice_index ws (x / 64) ≡ bit_or (slice_index ws (x / 64)) (2 ^ (x % 64))
sum_or u x s ws h lt new =
    let w = slice_index ws (x / 64) in
    let b = 2 ^ (x % 64) in
    let near = word_of u x (length ws) h.size lt in
    let zero_bit : bit_at w (x % 64) ≡ 0 = h.bits x near ∙ ap one_if new in
    let none : bit_and w b ≡ 0 = and_pow w (x % 64) ∙ ap (λ z. z * b) zero_bit ∙ (let z : 0 * b ≡ 0 = omega arith in z) in
    let sum = or_add_and w b in
    omega (arith, none, sum)

-- all numbers of a list are below a bound
abbrev pub AreUnder : ℕ → List ℕ → Type 0
AreUnder u [] = Unit {0}
AreUnder u (x ∷ xs) = (x < u) × AreUnder u xs

pub bits_all : (u : ℕ) (xs : List ℕ) → AreUnder u xs → IsRising xs → HasBits u (sets.from_list xs) (bit_words xs 0 ((u + 63) / 64))
bits_all u [] under rises = subst (HasBits u sets.empty) (sym (no_elements 0 ((u + 63) / 64))) (no_bits u)
bits_all u (x ∷ xs) under rises =
    let r = bits_all u xs under.1 rises.1 in
    let n = (u + 63) / 64 in
    let ws = bit_words xs 0 n in
    let new : sets.contains (sets.from_list xs) x ≡ false = contains_has xs x ∙ has_none x xs rises.0 in
    let one = with_bit u x (sets.from_list xs) ws r under.0 in
    let e : bit_words (x ∷ xs) 0 n ≡ slice_set ws (x / 64) (bit_or (slice_index ws (x / 64)) (2 ^ (x % 64))) =
    changes x xs 0 n (x / 64) (omega arith) ∙ ap (slice_set ws (x / 64)) (sum_or u x (sets.from_list xs) ws r under.0 new) in
    subst (HasBits u (sets.insert (sets.from_list xs) x)) (sym e) one

pub bits_encoded : (u : ℕ) (s : Set) → AreUnder u (sets.items s) → HasBits u s (bit_words (sets.items s) 0 ((u + 63) / 64))
bits_encoded u s under = subst (λ t. HasBits u t (bit_words (sets.items s) 0 ((u + 63) / 64))) (from_list-items s) (bits_all u (sets.items s) under (items_rise s))
