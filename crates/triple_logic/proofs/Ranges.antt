-- Ranges of words that are held whole: the form for arrays and slices.
use Rattle.std.proofs.Common.{◌≡◌, ◌≢◌, ℕ, zero, suc, ◌+◌, ◌-◌, ◌^◌, ◌<◌, Bool, true, false, cond, ◌&&◌, List, length, refl, sym, ap, ◌∙◌, subst, arith, eqb, eq-eqb, ne_eqb, ltb-false, ⊎_elim}
use Rattle.std.proofs.lemmas.Bool.{cond_both, cond-true, cond-false}
use Rattle.std.proofs.lemmas.Bool.Decides.{eqb_tells}
use Rattle.std.proofs.Math.Path.{fun_ext}
use Rattle.std.specs.Prelude.{slice_get, slice_set, slice_index, nat_lt}
use Rattle.target_meaning.specs.Machine.{Heap}
use Rattle.target_meaning.specs.Piece.{whole, Nil, Some_of, add, plus, Holds}
use Rattle.target_meaning.specs.Held.{stored}
use Rattle.target_meaning.specs.Piece.{IsWhole}
use Rattle.target_meaning.proofs.Shares.{add-nil}
use Rattle.target_meaning.proofs.Lists.{get-set_same, get-set_other}
use Rattle.triple_logic.proofs.Rules.{place_bound}
use Rattle.triple_logic.specs.Blocks.{held_word, block_share, block, range_share, range, name_share, name_of}
use Rattle.triple_logic.proofs.Sample.{stored_whole}
use Rattle.triple_logic.proofs.Blocks.{get_some}

range_word : (off : ℕ) (xs : List ℕ) (i : ℕ) → range_share off xs (suc (off + i)) ≡ held_word (slice_get xs i)
range_word off xs i =
    cond-false (nat_lt (off + i) off) _ _ (let e : nat_lt (off + i) off ≡ false = grind arith in e) ∙
    ap (λ z. held_word (slice_get xs z)) (let e : off + i - off ≡ i = omega arith in e)

module _ (b off : ℕ) (xs : List ℕ) where
  pub range_at : (i : ℕ) → i < length xs → range b off xs b (suc (off + i)) ≡ Some_of (slice_index xs i) (whole - 1)
  range_at i lt = cond-true (eqb b b) _ _ (eq-eqb b b refl) ∙ range_word off xs i ∙ ap held_word (get_some xs i lt)

  pub range_whole : (i : ℕ) → i < length xs → IsWhole (range b off xs b (suc (off + i)))
  range_whole i lt = subst IsWhole (sym (range_at i lt)) refl

  set_share : (i v j : ℕ) → i < length xs → cond (eqb j (suc (off + i))) (Some_of v (whole - 1)) (range_share off xs j) ≡ range_share off (slice_set xs i v) j
  set_share i v zero lt = let ne : 0 ≢ suc (off + i) = omega arith in cond-false (eqb 0 (suc (off + i))) _ _ (ne_eqb 0 (suc (off + i)) ne)
  set_share i v (suc m) lt =
      ⊎_elim
      (λ e. cond-true (eqb (suc m) (suc (off + i))) _ _ (eq-eqb (suc m) (suc (off + i)) (ap suc e.1)) ∙
      sym (ap (λ z. range_share off (slice_set xs i v) (suc z)) e.1 ∙ range_word off (slice_set xs i v) i ∙ ap held_word (get-set_same xs i v lt)))
      (λ e. cond-false (eqb (suc m) (suc (off + i))) _ _ (ne_eqb (suc m) (suc (off + i)) (omega (arith, e.1))) ∙
      cond_both (nat_lt m off) Nil (held_word (slice_get xs (m - off))) (λ y. y ≡ range_share off (slice_set xs i v) (suc m))
      (λ d. sym (cond-true (nat_lt m off) _ _ d))
      (λ d. let le = ltb-false m off d in let ne : m - off ≢ i = omega (arith, le, e.1) in
      sym (cond-false (nat_lt m off) _ _ d ∙ ap held_word (get-set_other xs i (m - off) v ne))))
      (eqb_tells m (off + i))

  pub range_set : (i v : ℕ) → i < length xs → stored (range b off xs) b (off + i) v ≡ range b off (slice_set xs i v)
  range_set i v lt = stored_whole (range b off xs) b (off + i) v (range_whole i lt) ∙ fun_ext (λ c. fun_ext (λ j. at c j (eqb c b) refl))
    where
      at : (c j : ℕ) (e : Bool) → eqb c b ≡ e → cond (eqb c b && eqb j (suc (off + i))) (Some_of v (whole - 1)) (range b off xs c j) ≡ range b off (slice_set xs i v) c j
      at c j true e =
          ap (λ y. cond (y && eqb j (suc (off + i))) (Some_of v (whole - 1)) (cond y (range_share off xs j) Nil)) e ∙ set_share i v j lt ∙
          sym (ap (λ y. cond y (range_share off (slice_set xs i v) j) Nil) e)
      at c j false e =
          ap (λ y. cond (y && eqb j (suc (off + i))) (Some_of v (whole - 1)) (cond y (range_share off xs j) Nil)) e ∙
          sym (ap (λ y. cond y (range_share off (slice_set xs i v) j) Nil) e)

  pub range_bound : (h : Heap) (i : ℕ) → Holds (range b off xs) h → i < length xs → suc (off + i) < 2 ^ 64
  range_bound h i hs lt = place_bound (range b off xs) h b (suc (off + i)) (slice_index xs i) (whole - 1) hs (range_at i lt)

-- an array is its range and its name
pub block_parts : (b : ℕ) (xs : List ℕ) → block b xs ≡ plus (range b 0 xs) (name_of b (length xs))
block_parts b xs = fun_ext (λ c. fun_ext (λ j. cond_both (eqb c b) (block_share xs j) Nil (λ y. y ≡ plus (range b 0 xs) (name_of b (length xs)) c j)
    (λ e. at j ∙ sym (ap (λ y. add (cond y (range_share 0 xs j) Nil) (cond y (name_share (length xs) j) Nil)) e))
    (λ e. sym (ap (λ y. add (cond y (range_share 0 xs j) Nil) (cond y (name_share (length xs) j) Nil)) e))))
  where
    at : (j : ℕ) → block_share xs j ≡ add (range_share 0 xs j) (name_share (length xs) j)
    at zero = refl
    at (suc i) = sym (add-nil (range_share 0 xs (suc i)) ∙ ap (range_share 0 xs) (let e : suc i ≡ suc (0 + i) = omega arith in e) ∙ range_word 0 xs i)
