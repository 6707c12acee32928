-- Sifting up.
use Rattle.std.proofs.Common.{◌≡◌, ◌≢◌, ℕ, zero, suc, ◌+◌, ◌*◌, ◌-◌, ◌^◌, ◌/◌, ◌<◌, ◌≤◌, min, List, [], ◌∷◌, ◌++◌, length, refl, sym, ap, ◌∙◌, subst, arith, eqb, ⊎_elim, ◌⊎◌}
use Rattle.std.proofs.lemmas.Bool.Decides.{eqb_tells}
use Rattle.std.proofs.lemmas.List.{length-append, length-set, get_or-set_same, get_or-set_other, get_or_append_left}
use Rattle.std.proofs.Math.Seq.{get_or-append_seam}
use Rattle.std.specs.Prelude.{slice_index, slice_set, nat_lt}
use Rattle.relations.specs.Blocks.{AreWords}
use Rattle.relations.specs.Represents.{one_if}
use Rattle.target_code.specs.declared.tree.Proc.{Proc}
use Rattle.target_meaning.specs.Leaf.{Is}
use Rattle.target_meaning.specs.Piece.{whole, Piece, plus}
use Rattle.triple_logic.specs.Weakest.{End_fact, Ended, Assertion, Meets, turns, wp}
use Rattle.triple_logic.specs.Blocks.{block, Apart}
use Rattle.triple_logic.proofs.Ends.{by_law}
use Rattle.triple_logic.proofs.Sound.{does}
use Rattle.triple_logic.proofs.Blocks.{own_set, own_whole, own_at, own_bound, apart, subs, flag, lt_on, lt_off}
use Rattle.op_base.specs.Push.{lib_push, push_claims, push_rest}
use Rattle.op_base.proofs.CountsLemmas.{count_same, count_set}
use Rattle.op_base.proofs.PushLemmas.{push_law}
use Rattle.relations.proofs.Small.{word_first}
use Rattle.row_laws.proofs.Words.{no_words, words_append, words_front, words_set}
use Rattle.op_base.proofs.Words.{words_rest}
use Rattle.op_heap.specs.Heap.{times, parent, Ordered, up_test, up_turn, add_text, heap_add, Added, AddLaw}
use Rattle.op_heap.proofs.Bags.{added_times}

pub times_set : (n i v y : ℕ) (ws : List ℕ) → i < n → i < length ws → times n (slice_set ws i v) y + one_if (eqb (slice_index ws i) y) ≡ times n ws y + one_if (eqb v y)
times_set n i v y ws lt room =
    let r = count_set n i (λ j. eqb (slice_index ws j) y) (λ j. eqb (slice_index (slice_set ws i v) j) y) lt (λ j ne. ap (λ z. eqb z y) (get_or-set_other ws i j v 0 ne)) in
    let e = ap (λ z. one_if (eqb z y)) (get_or-set_same ws i v 0 room) in omega (arith, r, e)

-- all is in order but word i and its parent
record Rising (n i : ℕ) (ws : List ℕ) : Type 0 where
  others : (j : ℕ) → 0 < j → j < n → j ≢ i → slice_index ws (parent j) ≤ slice_index ws j
  below : (j : ℕ) → 0 < j → j < n → 0 < i → parent j ≡ i → slice_index ws (parent i) ≤ slice_index ws j

module _ (n i x : ℕ) (ws : List ℕ) (r : Rising n i ws) (lt : i < n) (len : n ≤ length ws) (at : slice_index ws i ≡ x) where
  in_order : (0 < i → slice_index ws (parent i) ≤ x) → Ordered n ws
  in_order up j pos lj = ⊎_elim (λ e. let z = up (omega (arith, pos, e.1)) in subst (λ y. slice_index ws (parent y) ≤ slice_index ws y) (sym e.1) (omega (arith, z, at))) (λ e. r.others j pos lj e.1) (eqb_tells j i)

  module _ (pos : 0 < i) (less : x < slice_index ws (parent i)) where
    abbrev swapped : List ℕ
    swapped = slice_set (slice_set ws i (slice_index ws (parent i))) (parent i) x

    p_ne : parent i ≢ i
    p_ne = omega (arith, pos)

    p_in : parent i < length (slice_set ws i (slice_index ws (parent i)))
    p_in = omega (arith, len, lt, length-set ws i (slice_index ws (parent i)))

    at_p : slice_index swapped (parent i) ≡ x
    at_p = get_or-set_same (slice_set ws i (slice_index ws (parent i))) (parent i) x 0 p_in

    at_i : slice_index swapped i ≡ slice_index ws (parent i)
    at_i = get_or-set_other (slice_set ws i (slice_index ws (parent i))) (parent i) i x 0 (λ e. p_ne (sym e)) ∙ get_or-set_same ws i (slice_index ws (parent i)) 0 (omega (arith, len, lt))

    at_other : (j : ℕ) → j ≢ i → j ≢ parent i → slice_index swapped j ≡ slice_index ws j
    at_other j ni np = get_or-set_other (slice_set ws i (slice_index ws (parent i))) (parent i) j x 0 np ∙ get_or-set_other ws i j (slice_index ws (parent i)) 0 ni

    times_swapped : (y : ℕ) → times n swapped y ≡ times n ws y
    times_swapped y =
        let a = times_set n i (slice_index ws (parent i)) y ws lt (omega (arith, len, lt)) in
        let b = times_set n (parent i) x y (slice_set ws i (slice_index ws (parent i))) (omega (arith, lt)) p_in in
        let c = ap (λ z. one_if (eqb z y)) at in
        let d = ap (λ z. one_if (eqb z y)) (get_or-set_other ws i (parent i) (slice_index ws (parent i)) 0 p_ne) in
        omega (arith, a, b, c, d)

    risen : Rising n (parent i) swapped
    risen = record {
      others = λ j pj lj nj.
          ⊎_elim
          (λ e. subst (λ y. slice_index swapped (parent y) ≤ slice_index swapped y) (sym e.1) (omega (arith, at_p, at_i, less)))
          (λ e. ⊎_elim
          (λ c. let b = r.below j pj lj pos c.1 in let a = ap (slice_index swapped) c.1 ∙ at_i in let d = at_other j e.1 nj in omega (arith, a, b, d))
          (λ c. ⊎_elim
          (λ d. let b = r.others j pj lj e.1 in let a = ap (slice_index swapped) d.1 ∙ at_p in let g = ap (slice_index ws) d.1 in let o = at_other j e.1 nj in omega (arith, a, b, less, g, o))
          (λ d. let b = r.others j pj lj e.1 in let a = at_other (parent j) c.1 d.1 in let o = at_other j e.1 nj in omega (arith, a, b, o))
          (eqb_tells (parent j) (parent i)))
          (eqb_tells (parent j) i))
          (eqb_tells j i);
      below = λ j pj lj pp e.
          let up = r.others (parent i) pp (omega (arith, lt)) p_ne in
          let a = at_other (parent (parent i)) (let ne : parent (parent i) ≢ i = omega (arith, pos) in ne) (let ne : parent (parent i) ≢ parent i = omega (arith, pp) in ne) in
          ⊎_elim
          (λ c. let o = ap (slice_index swapped) c.1 ∙ at_i in omega (arith, a, o, up))
          (λ c. let np : j ≢ parent i = (λ z. let w = ap parent z in let o : ⊥ = omega (arith, w, e, pp) in o) in
          let b = r.others j pj lj c.1 in let g = ap (slice_index ws) e in let o = at_other j c.1 np in omega (arith, a, up, b, g, o))
          (eqb_tells j i);
    }

module _ (T : List Proc) (B E b n cap x : ℕ) (a : List ℕ) (k : Piece) (free : Apart b k) (cnt : ℕ → ℕ) (small : cap < 2 ^ 64) (n_is : n ≤ cap) (word : x < 2 ^ 64) (Q : Assertion) where
  abbrev up_regs : (i p e f : ℕ) → List ℕ
  up_regs i p e f = b ∷ n ∷ cap ∷ x ∷ i ∷ 1 ∷ 2 ∷ p ∷ e ∷ f ∷ []

  abbrev Ups : Type 0
  Ups = (s : ℕ) (i p e f : ℕ) (ws : List ℕ) → s ≤ E → length ws ≡ cap → Ordered n ws → ((y : ℕ) → times n ws y ≡ cnt y) → AreWords ws → Q s a (up_regs i p e f) (plus (block b ws) k)

  up_head : (m i s : ℕ) (ws : List ℕ) → i < n → length ws ≡ cap → Rising n i ws → slice_index ws i ≡ x → ((y : ℕ) → times n ws y ≡ cnt y) → AreWords ws → s + 6 ≤ E → (p e f : ℕ) → Ups → (0 < i → x < slice_index ws (parent i) → wp T B up_turn (turns (wp T B up_test) (wp T B up_turn) 9 m Q) (suc (suc (suc (suc (suc (suc s)))))) a (up_regs i (parent i) (slice_index ws (parent i)) (flag (nat_lt x (slice_index ws (parent i))))) (plus (block b ws) k)) → turns (wp T B up_test) (wp T B up_turn) 9 (suc m) Q s a (up_regs i p e f) (plus (block b ws) k)
  up_head m i s ws lt len r at same aw le p e f q go =
      let room : parent i < length ws = omega (arith, lt, len, n_is) in (
        min i 1,
        refl,
        (
          i - min i 1,
          subs i (min i 1) (i - min i 1) (omega arith) (omega (arith, lt, n_is, small)),
          (
            parent i,
            ap Is (let z : (i - min i 1) / 2 ≡ parent i = omega arith in z),
            (
              slice_index ws (parent i),
              whole - 1,
              own_at b ws k free (parent i) room,
              (
                flag (nat_lt x (slice_index ws (parent i))),
                refl,
                (
                  λ z. q (suc (suc (suc (suc (suc (suc s)))))) i (parent i) (slice_index ws (parent i)) (flag (nat_lt x (slice_index ws (parent i)))) ws (omega (arith, le)) len
                      (in_order n i x ws r lt (omega (arith, len, n_is)) at (λ pos. lt_off x (slice_index ws (parent i)) z)) same aw,
                  λ o. let less = lt_on x (slice_index ws (parent i)) o in
                      go (⊎_elim (λ c. let w : slice_index ws (parent i) ≡ slice_index ws i = ap (slice_index ws) (let v : parent i ≡ i = omega (arith, c) in v) in absurd (let f : ⊥ = omega (arith, w, at, less) in f)) (λ c. c) (let o : (i ≡ 0) ⊎ (0 < i) = grind arith in o)) less,
                ),
              ),
            ),
          ),
        ),
      )

  up_turns : (m i s : ℕ) (ws : List ℕ) → i ≤ m → i < n → length ws ≡ cap → Rising n i ws → slice_index ws i ≡ x → ((y : ℕ) → times n ws y ≡ cnt y) → AreWords ws → s + 9 * m + 6 ≤ E → (p e f : ℕ) → Ups → turns (wp T B up_test) (wp T B up_turn) 9 (suc m) Q s a (up_regs i p e f) (plus (block b ws) k)
  up_turns zero i s ws im lt len r at same aw le p e f q =
      up_head zero i s ws lt len r at same aw (omega (arith, le)) p e f q (λ pos less. absurd (let o : ⊥ = omega (arith, pos, im) in o))
  up_turns (suc m) i s ws im lt len r at same aw le p e f q =
      up_head (suc m) i s ws lt len r at same aw (omega (arith, le)) p e f q
      (λ pos less.
      let w0 : List ℕ = slice_set ws i (slice_index ws (parent i)) in
      let l0 : i < length ws = omega (arith, lt, len, n_is) in
      let l1 : parent i < length (slice_set ws i (slice_index ws (parent i))) = omega (arith, l0, length-set ws i (slice_index ws (parent i))) in
      let sw : List ℕ = slice_set (slice_set ws i (slice_index ws (parent i))) (parent i) x in (
        plus (block b w0) k,
        own_whole b ws k free i l0,
        own_set b ws k free i (slice_index ws (parent i)) l0,
        (
          plus (block b sw) k,
          own_whole b w0 k free (parent i) l1,
          own_set b w0 k free (parent i) x l1,
          up_turns m (parent i) (suc (suc (suc (suc (suc (suc (suc (suc (suc s))))))))) sw (omega (arith, im, pos)) (omega (arith, lt)) (length-set w0 (parent i) x ∙ length-set ws i (slice_index ws (parent i)) ∙ len)
              (risen n i x ws r lt (omega (arith, len, n_is)) at pos less) (at_p n i x ws r lt (omega (arith, len, n_is)) at pos less) (λ y. times_swapped n i x ws r lt (omega (arith, len, n_is)) at pos less y ∙ same y)
              (words_set w0 (parent i) x word (words_set ws i (slice_index ws (parent i)) (aw (parent i) (omega (arith, l0))) aw)) (omega (arith, le)) (parent i) (slice_index ws (parent i)) (flag (nat_lt x (slice_index ws (parent i)))) q,
        ),
      ))

-- after a push the last word rises
module _ (v : ℕ) (xs rest : List ℕ) (o : Ordered (length xs) xs) where
  abbrev pushed : List ℕ
  pushed = (xs ++ v ∷ []) ++ rest

  long : length (xs ++ v ∷ []) ≡ suc (length xs)
  long = length-append xs (v ∷ []) ∙ (let z : length xs + 1 ≡ suc (length xs) = omega arith in z)

  old_word : (j : ℕ) → j < length xs → slice_index pushed j ≡ slice_index xs j
  old_word j lt = get_or_append_left (xs ++ v ∷ []) rest 0 j (omega (arith, long, lt)) ∙ get_or_append_left xs (v ∷ []) 0 j lt

  new_last : slice_index pushed (length xs) ≡ v
  new_last = get_or_append_left (xs ++ v ∷ []) rest 0 (length xs) (omega (arith, long)) ∙ get_or-append_seam xs v [] 0

  rises : Rising (suc (length xs)) (length xs) pushed
  rises = record {
    others = λ j pj lj nj.
        let lt : j < length xs = omega (arith, lj, nj) in
        let a = old_word j lt in let c = old_word (parent j) (omega (arith, lt, pj)) in let d = o j pj lt in omega (arith, a, c, d);
    below = λ j pj lj pos e. absurd (let f : ⊥ = omega (arith, pj, lj, pos, e) in f);
  }

  times_pushed : (y : ℕ) → times (suc (length xs)) pushed y ≡ one_if (eqb v y) + times (length xs) xs y
  times_pushed y =
      let a = ap (λ z. one_if (eqb z y)) new_last in
      let c = count_same (length xs) (λ i. eqb (slice_index xs i) y) (λ i. eqb (slice_index pushed i) y) (λ j lt. ap (λ z. eqb z y) (old_word j lt)) in
      omega (arith, a, c)

pub add_law : AddLaw
add_law T b v ws xs rest k found f2 lt some o aw vw =
    let B = 15 * length xs + 40 in
    let n = length xs in
    let End : End_fact = Ended (Added v xs) (λ o. ws) (λ o. o.name ∷ suc (length xs) ∷ length o.words ∷ []) (λ o. plus (block o.name o.words) k) in
    does T B heap_add add_text refl End (push_claims n rest ws) (b ∷ n ∷ length (xs ++ rest) ∷ v ∷ []) (plus (block b (xs ++ rest)) k)
    (λ h hs. (
      lib_push,
      f2,
      6 * n + 16,
      omega arith,
      by_law T ℕ _ _ _ _ _ _ _ _ (push_law T b v ws xs rest k found lt some)
          (λ x g hg.
          let ys = pushed v xs (push_rest rest xs) o in
          let l = long v xs (push_rest rest xs) o in
          let bound = own_bound x ((xs ++ v ∷ []) ++ (push_rest rest xs)) k g hg in
          let room : suc n ≤ length ((xs ++ v ∷ []) ++ (push_rest rest xs)) = omega (arith, l, length-append (xs ++ v ∷ []) (push_rest rest xs)) in (
            suc n,
            subst (λ y. turns (wp T B up_test) (wp T B up_turn) 9 (suc n) (Meets B End (0 ∷ 1 ∷ 2 ∷ [])) (suc (suc (suc (suc (suc 0) + (6 * n + 16))))) ws (x ∷ y ∷ length ((xs ++ v ∷ []) ++ (push_rest rest xs)) ∷ v ∷ n ∷ 1 ∷ 2 ∷ 0 ∷ 0 ∷ 0 ∷ []) (plus (block x ((xs ++ v ∷ []) ++ (push_rest rest xs))) k)) (sym l)
                (up_turns T B (suc (15 * n + 30)) x (suc n) (length ((xs ++ v ∷ []) ++ (push_rest rest xs))) v ws k (apart x ((xs ++ v ∷ []) ++ (push_rest rest xs)) k g hg) (λ y. one_if (eqb v y) + times n xs y) (omega (arith, bound)) room vw (Meets B End (0 ∷ 1 ∷ 2 ∷ []))
                n n _ ((xs ++ v ∷ []) ++ (push_rest rest xs)) (omega arith) (omega arith) refl (rises v xs (push_rest rest xs) o) (new_last v xs (push_rest rest xs) o) (times_pushed v xs (push_rest rest xs) o)
                (words_append (xs ++ v ∷ []) (push_rest rest xs) (words_append xs (v ∷ []) (words_front xs rest aw) (word_first v [] vw no_words)) (words_rest xs rest aw)) (omega arith) 0 0 0
                (λ s i p e f us ls len ord same uw. (omega (arith, ls), λ g' hg'. (record { name = x; words = us; fits = omega (arith, room, len); order = ord; are_words = uw; short = omega (arith, len, bound); same = added_times v xs us (omega (arith, room, len)) same }, refl, ap (λ z. x ∷ suc n ∷ z ∷ []) (sym len), refl)))),
          )),
    ))
