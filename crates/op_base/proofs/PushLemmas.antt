-- `lib_push` puts a number behind the first words of a block.
use Rattle.std.proofs.Common.{◌≡◌, ℕ, suc, ◌+◌, ◌*◌, ◌^◌, ◌<◌, ◌≤◌, List, [], ◌∷◌, ◌++◌, length, replicate, refl, sym, ap, ◌∙◌, subst, arith, append_assoc, append-nil}
use Rattle.std.proofs.lemmas.List.{length-append, length-replicate}
use Rattle.std.proofs.Math.Seq.{set-append_seam}
use Rattle.std.specs.Prelude.{slice_set, nat_lt}
use Rattle.target_code.specs.declared.tree.Proc.{Proc}
use Rattle.target_meaning.specs.Machine.{Heap}
use Rattle.target_meaning.specs.Piece.{Piece, plus, Holds}
use Rattle.triple_logic.specs.Text.{Free, Mov}
use Rattle.triple_logic.specs.Weakest.{Does, Meets, wp}
use Rattle.triple_logic.specs.Blocks.{block, Apart}
use Rattle.triple_logic.specs.Copy.{lib_copy}
use Rattle.triple_logic.proofs.Ends.{by_law}
use Rattle.triple_logic.proofs.Sound.{does}
use Rattle.triple_logic.proofs.Copy.{copy_law}
use Rattle.triple_logic.proofs.Blocks.{own_set, own_whole, reads_own, drop_second, apart, adds, flag, lt_on, lt_off}
use Rattle.op_base.specs.Push.{VecAt, push_tail, push_text, lib_push, PushLaw}

module _ (T : List Proc) (B b v cap : ℕ) (ws xs rest : List ℕ) (k : Piece) (lt : length xs < 2 ^ 32) where
  push_store : (r t u s : ℕ) → Apart b k → cap ≡ length (xs ++ r ∷ rest) → suc (suc (suc (suc s))) ≤ B → wp T B push_tail (Meets B (VecAt (xs ++ v ∷ []) rest k ws) (0 ∷ 1 ∷ 2 ∷ [])) s ws (b ∷ length xs ∷ cap ∷ v ∷ t ∷ u ∷ 0 ∷ []) (plus (block b (xs ++ r ∷ rest)) k)
  push_store r t u s free e le =
      let room : length xs < length (xs ++ r ∷ rest) = omega (arith, length-append xs (r ∷ rest)) in
      let set : slice_set (xs ++ r ∷ rest) (length xs) v ≡ (xs ++ v ∷ []) ++ rest = set-append_seam xs r rest v ∙ sym (append_assoc xs (v ∷ []) rest) in
      let n : length xs + 1 ≡ length (xs ++ v ∷ []) = sym (length-append xs (v ∷ [])) in
      let c : cap ≡ length ((xs ++ v ∷ []) ++ rest) = omega (arith, e, length-append xs (r ∷ rest), n, length-append (xs ++ v ∷ []) rest) in (
        plus (block b ((xs ++ v ∷ []) ++ rest)) k,
        own_whole b (xs ++ r ∷ rest) k free (length xs) room,
        own_set b (xs ++ r ∷ rest) k free (length xs) v room ∙ ap (λ z. plus (block b z) k) set,
        (
          length (xs ++ v ∷ []),
          adds (length xs) 1 _ n (omega (arith, n, lt)),
          (omega (arith, le), λ h hs. (b, refl, ap (λ z. b ∷ length (xs ++ v ∷ []) ∷ z ∷ []) c, refl)),
        ),
      )

-- after the copy to a greater block
grown : (T : List Proc) (B b v cap : ℕ) (ws xs : List ℕ) (k : Piece) → length xs < 2 ^ 32 → (r : ℕ) (ys : List ℕ) (x t s : ℕ) → cap ≡ length (xs ++ r ∷ ys) → suc (suc (suc (suc (suc (suc s))))) ≤ B → (g : Heap) → Holds (plus (block x (xs ++ r ∷ ys)) (plus (block b xs) k)) g → wp T B (Free 0 (Mov 0 5 push_tail)) (Meets B (VecAt (xs ++ v ∷ []) ys k ws) (0 ∷ 1 ∷ 2 ∷ [])) s ws (b ∷ length xs ∷ cap ∷ v ∷ t ∷ x ∷ 0 ∷ []) (plus (block x (xs ++ r ∷ ys)) (plus (block b xs) k))
grown T B b v cap ws xs k lt r ys x t s e le g hg =
    let d = drop_second x (xs ++ r ∷ ys) b xs k g hg in
    (plus (block x (xs ++ r ∷ ys)) k, d.0, d.1, push_store T B x v cap ws xs ys k lt r t x (suc (suc s)) d.2 e le)

pub push_law : PushLaw
push_law T b v ws xs (r ∷ rest) k found lt some =
    let B = 6 * length xs + 16 in
    let cap = length (xs ++ r ∷ rest) in
    does T B lib_push push_text refl (VecAt (xs ++ v ∷ []) rest k ws) ws (b ∷ length xs ∷ cap ∷ v ∷ []) (plus (block b (xs ++ r ∷ rest)) k)
    (λ h hs. (
      flag (nat_lt (length xs) cap),
      refl,
      (
        λ o. push_store T B b v cap ws xs rest k lt r (flag (nat_lt (length xs) cap)) 0 2 (apart b (xs ++ r ∷ rest) k h hs) refl (omega arith),
        λ z. absurd (let f : ⊥ = omega (arith, lt_off (length xs) cap z, length-append xs (r ∷ rest)) in f),
      ),
    ))
push_law T b v ws [] [] k found lt some = absurd (let f : ⊥ = omega (arith, some) in f)
push_law T b v ws (y ∷ ys) [] k found lt some =
    let n = length (y ∷ ys) in
    let B = 6 * n + 16 in
    subst (λ z. Does T lib_push (VecAt ((y ∷ ys) ++ v ∷ []) (replicate (length ys) 0) k ws) B ((n + n) ∷ ws) (b ∷ n ∷ length z ∷ v ∷ []) (plus (block b z) k)) (sym (append-nil (y ∷ ys)))
    (does T B lib_push push_text refl (VecAt ((y ∷ ys) ++ v ∷ []) (replicate (length ys) 0) k ws) ((n + n) ∷ ws) (b ∷ n ∷ n ∷ v ∷ []) (plus (block b (y ∷ ys)) k)
    (λ h hs. (
      flag (nat_lt n n),
      refl,
      (
        λ o. absurd (let f : ⊥ = omega (arith, lt_on n n o) in f),
        λ z. (
          n + n,
          adds n n _ refl (omega (arith, lt)),
          (
            lib_copy,
            found,
            6 * n + 6,
            omega arith,
            by_law T ℕ _ _ _ _ _ _ _ _ (copy_law T b 0 (n + n) n (n + n) ws (y ∷ ys) (plus (block b (y ∷ ys)) k) (reads_own b (y ∷ ys) k (apart b (y ∷ ys) k h hs)) refl (omega arith))
                (λ x g hg. grown T B b v (n + n) ws (y ∷ ys) k lt 0 (replicate (length ys) 0) x (flag (nat_lt n n)) (4 + (6 * n + 6)) (sym (length-append (y ∷ ys) (replicate n 0) ∙ ap (λ z. n + z) (length-replicate n 0))) (omega arith) g hg),
          ),
        ),
      ),
    )))
