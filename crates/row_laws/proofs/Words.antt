-- Lists of words.
use Rattle.std.proofs.Common.{ℕ, zero, suc, ◌^◌, ◌<◌, List, [], ◌∷◌, ◌++◌, arith, replicate}
use Rattle.std.specs.Prelude.{slice_set}
use Rattle.relations.specs.Blocks.{AreWords}
use Rattle.relations.specs.Represents.{IsSmall}
use Rattle.relations.proofs.Small.{word_first}

pub no_words : AreWords []
no_words i lt = absurd (let f : ⊥ = omega (arith, lt) in f)

pub words_append : (xs ys : List ℕ) → AreWords xs → AreWords ys → AreWords (xs ++ ys)
words_append [] ys f g = g
words_append (x ∷ xs) ys f g = word_first x (xs ++ ys) (f 0 (omega arith)) (words_append xs ys (λ i lt. f (suc i) (omega (arith, lt))) g)

pub words_front : (xs ys : List ℕ) → AreWords (xs ++ ys) → AreWords xs
words_front [] ys f = no_words
words_front (x ∷ xs) ys f = word_first x xs (f 0 (omega arith)) (words_front xs ys (λ i lt. f (suc i) (omega (arith, lt))))

pub words_back : (xs ys : List ℕ) → AreWords (xs ++ ys) → AreWords ys
words_back [] ys f = f
words_back (x ∷ xs) ys f = words_back xs ys (λ i lt. f (suc i) (omega (arith, lt)))

pub words_set : (xs : List ℕ) (i w : ℕ) → w < 2 ^ 64 → AreWords xs → AreWords (slice_set xs i w)
words_set [] i w lt f = f
words_set (x ∷ xs) zero w lt f = word_first w xs lt (λ j l. f (suc j) (omega (arith, l)))
words_set (x ∷ xs) (suc i) w lt f = word_first x (slice_set xs i w) (f 0 (omega arith)) (words_set xs i w lt (λ j l. f (suc j) (omega (arith, l))))

pub words_zeros : (n : ℕ) → AreWords (replicate n 0)
words_zeros zero = no_words
words_zeros (suc n) = word_first 0 (replicate n 0) (omega arith) (words_zeros n)

pub small_word : (n : ℕ) → IsSmall n → n < 2 ^ 64
small_word n lt = omega (arith, lt)
