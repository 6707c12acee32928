-- The words behind a push.
use Rattle.std.proofs.Common.{ℕ, suc, List, [], ◌∷◌, ◌++◌, length, arith}
use Rattle.relations.specs.Blocks.{AreWords}
use Rattle.row_laws.proofs.Words.{no_words, words_back, words_zeros}
use Rattle.op_base.specs.Push.{push_rest}

pub words_rest : (xs rest : List ℕ) → AreWords (xs ++ rest) → AreWords (push_rest rest xs)
words_rest xs (r ∷ rest) f = λ i lt. words_back xs (r ∷ rest) f (suc i) (omega (arith, lt))
words_rest [] [] f = no_words
words_rest (x ∷ xs) [] f = words_zeros (length xs)
