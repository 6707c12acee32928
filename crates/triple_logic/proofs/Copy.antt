-- `lib_copy` copies words into a new block.
use Rattle.std.proofs.Common.{◌≡◌, ℕ, suc, ◌+◌, ◌*◌, ◌^◌, ◌<◌, ◌≤◌, List, [], ◌∷◌, ◌++◌, length, replicate, refl, sym, ap, ◌∙◌, subst, arith, append_assoc, append-nil}
use Rattle.std.proofs.lemmas.List.{length-append, length-replicate, replicate-append-replicate}
use Rattle.std.proofs.Math.Seq.{set-append_seam, get_or-append_seam}
use Rattle.std.specs.Prelude.{slice_index, slice_set, nat_lt}
use Rattle.target_code.specs.declared.tree.Proc.{Proc}
use Rattle.target_meaning.specs.Piece.{Piece, plus}
use Rattle.triple_logic.specs.Weakest.{Assertion, Meets, turns, wp}
use Rattle.triple_logic.specs.Blocks.{block, Reads, Apart}
use Rattle.triple_logic.specs.Copy.{copy_test, copy_turn, copy_text, lib_copy, Makes, CopyLaw}
use Rattle.triple_logic.proofs.Sound.{does}
use Rattle.triple_logic.proofs.Blocks.{own_new, own_set, own_whole, reads_beside, reads_bound, read_word, adds, flag, lt_on, lt_off}

module _ (T : List Proc) (B b off size x : ℕ) (a xs pads : List ℕ) (k : Piece) (r : Reads b off xs k) (free : Apart x k) (small : (i : ℕ) → i < length xs → suc (off + i) < 2 ^ 64) (Q : Assertion) where
  abbrev copy_regs : (i t u v : ℕ) → List ℕ
  copy_regs i t u v = b ∷ off ∷ length xs ∷ size ∷ x ∷ 1 ∷ i ∷ t ∷ u ∷ v ∷ []

  -- what is copied, what is still to come, and the words that it replaces
  copy_turns : (rest zs done : List ℕ) → length zs ≡ length rest → xs ≡ done ++ rest → (s t u v : ℕ) → ((n t u v : ℕ) → n ≤ s + 6 * length rest + 2 → Q n a (copy_regs (length xs) t u v) (plus (block x (xs ++ pads)) k)) → turns (wp T B copy_test) (wp T B copy_turn) 7 (suc (length rest)) Q s a (copy_regs (length done) t u v) (plus (block x (done ++ (zs ++ pads))) k)
  copy_turns [] [] done l e s t u v q =
      let all : xs ≡ done = e ∙ append-nil done in (
        flag (nat_lt (length done) (length xs)),
        refl,
        (
          λ z. subst (λ y. Q (suc (suc s)) a (copy_regs (length y) (flag (nat_lt (length done) (length xs))) u v) (plus (block x (y ++ pads)) k)) all (q (suc (suc s)) _ u v (omega arith)),
          λ o. absurd (let f : ⊥ = omega (arith, lt_on (length done) (length xs) o, ap length all) in f),
        ),
      )
  copy_turns [] (z ∷ zs) done l e s t u v q = absurd (let f : ⊥ = omega (arith, l) in f)
  copy_turns (y ∷ rest) [] done l e s t u v q = absurd (let f : ⊥ = omega (arith, l) in f)
  copy_turns (y ∷ rest) (z ∷ zs) done l e s t u v q =
      let len : length xs ≡ length done + suc (length rest) = ap length e ∙ length-append done (y ∷ rest) in
      let lt : length done < length xs = omega (arith, len) in
      let val : slice_index xs (length done) ≡ y = ap (λ z. slice_index z (length done)) e ∙ get_or-append_seam done y rest 0 in
      let near : suc (off + length done) < 2 ^ 64 = small (length done) lt in
      let room : length done < length (done ++ z ∷ (zs ++ pads)) = omega (arith, length-append done (z ∷ (zs ++ pads))) in
      let w = read_word b off xs (plus (block x (done ++ z ∷ (zs ++ pads))) k) (length done) (off + length done) (reads_beside b off xs k x (done ++ z ∷ (zs ++ pads)) r free) lt refl in
      let set : slice_set (done ++ z ∷ (zs ++ pads)) (length done) (slice_index xs (length done)) ≡ (done ++ y ∷ []) ++ (zs ++ pads) =
      ap (slice_set (done ++ z ∷ (zs ++ pads)) (length done)) val ∙ set-append_seam done z (zs ++ pads) y ∙ sym (append_assoc done (y ∷ []) (zs ++ pads)) in
      let step : length done + 1 ≡ length (done ++ y ∷ []) = sym (length-append done (y ∷ [])) in (
        flag (nat_lt (length done) (length xs)),
        refl,
        (
          λ o. absurd (let f : ⊥ = omega (arith, lt_off (length done) (length xs) o, lt) in f),
          λ o. (
            off + length done,
            adds off (length done) _ refl (omega (arith, near)),
            (
              slice_index xs (length done),
              w.0,
              w.1,
              (
                plus (block x ((done ++ y ∷ []) ++ (zs ++ pads))) k,
                own_whole x (done ++ z ∷ (zs ++ pads)) k free (length done) room,
                own_set x (done ++ z ∷ (zs ++ pads)) k free (length done) (slice_index xs (length done)) room ∙ ap (λ z. plus (block x z) k) set,
                (
                  length (done ++ y ∷ []),
                  adds (length done) 1 _ step (omega (arith, near, step)),
                  copy_turns rest zs (done ++ y ∷ []) (omega (arith, l)) (e ∙ sym (append_assoc done (y ∷ []) rest)) (suc (suc (suc (suc (suc (suc s))))))
                      (flag (nat_lt (length done) (length xs))) (off + length done) (slice_index xs (length done))
                      (λ n t u v le. q n t u v (omega (arith, le))),
                ),
              ),
            ),
          ),
        ),
      )

pub copy_law : CopyLaw
copy_law T b off size pad w ws xs k r e le =
    let E = Makes (λ x. x ∷ []) (xs ++ replicate pad 0) k ws in
    does T (6 * length xs + 6) lib_copy copy_text refl E (w ∷ ws) (b ∷ off ∷ length xs ∷ size ∷ []) k
    (λ h hs. (
      omega arith,
      (
        le,
        λ x free. (
          plus (block x (replicate (length xs) 0 ++ replicate pad 0)) k,
          own_new k x size free ∙ ap (λ z. plus (block x z) k) (ap (λ z. replicate z 0) (sym e) ∙ sym (replicate-append-replicate (length xs) pad 0)),
          λ g hg. (
            suc (length xs),
            copy_turns T (6 * length xs + 6) b off size x ws xs (replicate pad 0) k r free (λ i. reads_bound b off xs k h i hs r) (Meets (6 * length xs + 6) E (4 ∷ [])) xs (replicate (length xs) 0) [] (length-replicate (length xs) 0) refl 3 0 0 0
                (λ n t u v le. (omega (arith, le), λ g' hg'. (x, refl, refl, refl))),
          ),
        ),
      ),
    ))
