-- A block is given up.
use Rattle.std.proofs.Common.{◌≡◌, ◌≢◌, ◌⊎◌, inl, inr, ℕ, zero, suc, ◌+◌, ◌-◌, ◌<◌, ◌≤◌, ◌^◌, Bool, true, false, cond, List, length, refl, sym, ap, ◌∙◌, subst, arith, eqb, eq-eqb, ne_eqb, le-leb, ⊎_elim}
use Rattle.std.proofs.lemmas.Bool.{cond-true, cond-false, and_parts}
use Rattle.std.proofs.lemmas.Bool.Decides.{eqb_tells}
use Rattle.std.proofs.lemmas.List.{length-set}
use Rattle.std.proofs.Math.Path.{fun_ext}
use Rattle.std.specs.Prelude.{Some, slice_get, slice_set, nat_le}
use Rattle.target_meaning.specs.Held.{without}
use Rattle.target_meaning.specs.Piece.{Share, Nil, share_of, whole}
use Rattle.branch_exec.specs.Stores.{is_whole, words_whole}
use Rattle.plain_store.specs.Cells.{share_in, amount_from, top_of, IsPlaced}
use Rattle.plain_store.specs.Changed.{AreCleared, cleared}
use Rattle.plain_store.specs.declared.cells.Cell.{Cell}
use Rattle.plain_store.proofs.Gets.{set_other}
use Rattle.plain_store.proofs.Puts.{held_cell}
use Rattle.plain_store.proofs.SwapSteps.{set_at}
use Rattle.plain_store.proofs.Widened.{by_cell}

-- each of the words is held whole
pub word_whole : (at : ℕ → Share) (n j : ℕ) → words_whole at n ≡ true → 0 < j → j ≤ n → is_whole (at j) ≡ true
word_whole at zero j e p le = absurd (let z : ⊥ = omega (arith, p, le) in z)
word_whole at (suc n) j e p le =
    let w = and_parts (is_whole (at (suc n))) (words_whole at n) e in
    ⊎_elim
    (λ (q : j ≡ suc n). ap (λ k. is_whole (at k)) q ∙ w.0)
    (λ (q : j ≤ n). word_whole at n j w.1 p q)
    (let o : (j ≡ suc n) ⊎ (j ≤ n) = grind (arith, le) in o)

whole_is : (n : ℕ) → is_whole (share_of n (2 ^ 64)) ≡ true
whole_is n = refl

pub place_whole : (at : ℕ → Share) (n j : ℕ) → words_whole at n ≡ true → at 0 ≡ share_of n (2 ^ 64) → j ≤ n → is_whole (at j) ≡ true
place_whole at n zero e name le = ap is_whole name ∙ whole_is n
place_whole at n (suc j) e name le = word_whole at n (suc j) e (let z : 0 < suc j = omega arith in z) le

-- the cells from b up to k are cleared, of a block held whole
pub record ClearedTo (old new : List Cell) (border b n k : ℕ) : Type 0 where
  pub len : length new ≡ length old
  pub cleared : (i : ℕ) → b ≤ i → i < k → (c : Cell) × (slice_get old i ≡ Some c) × (c.home ≡ b) × (border ≤ c.stamp) × (c.amount ≡ whole) × (slice_get new i ≡ Some (cleared c))
  pub same : (i : ℕ) → (i < b) ⊎ (k ≤ i) → slice_get new i ≡ slice_get old i

pub cleared_none : (cells : List Cell) (border b n : ℕ) → ClearedTo cells cells border b n b
cleared_none cells border b n = record { len = refl; cleared = λ i lo hi. absurd (let z : ⊥ = omega (arith, lo, hi) in z); same = λ i w. refl }

-- the next cell of the block
pub next_held : (old : List Cell) (border b n k : ℕ) → words_whole (top_of old border b) n ≡ true → top_of old border b 0 ≡ share_of n (2 ^ 64) → b ≤ k → k ≤ b + n →
    (c : Cell) × (slice_get old k ≡ Some c) × (c.home ≡ b) × (border ≤ c.stamp) × (c.amount ≡ whole)
next_held old border b n k e name lo hi =
    let j : b + (k - b) ≡ k = omega (arith, lo) in
    let w = held_cell b border (slice_get old (b + (k - b))) (place_whole (top_of old border b) n (k - b) e name (omega (arith, hi))) in
    (w.0, ap (slice_get old) (sym j) ∙ w.1, w.2, w.3, w.4)

pub cleared_next : (old new next : List Cell) (border b n k : ℕ) → words_whole (top_of old border b) n ≡ true → top_of old border b 0 ≡ share_of n (2 ^ 64) → b ≤ k → k ≤ b + n →
    ((c : Cell) → slice_get new k ≡ Some c → next ≡ slice_set new k (cleared c)) → ClearedTo old new border b n k → ClearedTo old next border b n (k + 1)
cleared_next old new next border b n k e name lo hi set t =
    let w = next_held old border b n k e name lo hi in
    let at : slice_get new k ≡ Some w.0 = t.same k (inr (let z : k ≤ k = omega arith in z)) ∙ w.1 in
    subst (λ x. ClearedTo old x border b n (k + 1)) (sym (set w.0 at)) (record {
      len = length-set new k (cleared w.0) ∙ t.len;
      cleared = λ i l h.
          ⊎_elim
          (λ q. (w.0, ap (slice_get old) q.1 ∙ w.1, w.2, w.3, w.4, set_at new k i w.0 (cleared w.0) at q.1))
          (λ q. let ne = q.1 in let x = t.cleared i l (below i ne h) in (x.0, x.1, x.2, x.3, x.4, set_other new k i (cleared w.0) ne ∙ x.5))
          (eqb_tells i k);
      same = λ i o. set_other new k i (cleared w.0) (outside i o) ∙ t.same i (⊎_elim (λ x. inl x) (λ x. inr (let z : k ≤ i = omega (arith, x) in z)) o);
    })
  where
    below : (i : ℕ) → i ≢ k → i < k + 1 → i < k
    below i ne h = ⊎_elim (λ (q : i < k). q) (λ (q : i ≡ k). absurd (ne q)) (let o : (i < k) ⊎ (i ≡ k) = grind (arith, h) in o)

    outside : (i : ℕ) → (i < b) ⊎ (k + 1 ≤ i) → i ≢ k
    outside i (inl x) q = absurd (let z : ⊥ = omega (arith, x, q, lo) in z)
    outside i (inr x) q = absurd (let z : ⊥ = omega (arith, x, q) in z)

pub cleared_all : (old new : List Cell) (border b n : ℕ) → ClearedTo old new border b n (b + n + 1) → AreCleared old new border b n
cleared_all old new border b n t = record {
  len = t.len;
  cleared = λ i lo hi. t.cleared i lo (omega (arith, hi));
  same = λ i o. t.same i (⊎_elim (λ x. inl x) (λ x. inr (let z : b + n + 1 ≤ i = omega (arith, x) in z)) o);
}

-- the piece without the block
some_value : (v n k : ℕ) → share_of v (suc k) ≡ share_of n (suc k) → v ≡ n
some_value v n k e = cc e

elsewhere : (b n : ℕ) (c : Cell) → c.home ≢ b → share_in b n (Some c) ≡ Nil
elsewhere b n c ne = cond-false (eqb c.home b) (share_of c.value n) Nil (ne_eqb c.home b ne)

nothing_of : (border b : ℕ) (c : Cell) → share_in b (amount_from border (Some (cleared c))) (Some (cleared c)) ≡ Nil
nothing_of border b c = both (eqb c.home b) (nat_le border c.stamp) c.value
  where
    both : (t u : Bool) (v : ℕ) → cond t (share_of v (cond u zero zero)) Nil ≡ Nil
    both true true v = refl
    both true false v = refl
    both false u v = refl

module _ (old new : List Cell) (border b n : ℕ) (placed : IsPlaced old) (name : top_of old border b 0 ≡ share_of n (2 ^ 64)) (a : AreCleared old new border b n) where
  name_cell : (c : Cell) × (slice_get old b ≡ Some c) × (c.home ≡ b) × (c.value ≡ n)
  name_cell =
      let w = held_cell b border (slice_get old (b + 0)) (ap is_whole name ∙ whole_is n) in
      let at : slice_get old b ≡ Some w.0 = ap (slice_get old) (let z : b ≡ b + 0 = omega arith in z) ∙ w.1 in
      let share : share_in b (amount_from border (Some w.0)) (Some w.0) ≡ share_of w.0.value (2 ^ 64) =
      cond-true (eqb w.0.home b) (share_of w.0.value (amount_from border (Some w.0))) Nil (eq-eqb w.0.home b w.2)
      ∙ ap (share_of w.0.value) (cond-true (nat_le border w.0.stamp) w.0.amount 0 (le-leb border w.0.stamp w.3) ∙ w.4) in
      (w.0, at, w.2, some_value w.0.value n (2 ^ 64 - 1) (sym share ∙ (ap (λ o. share_in b (amount_from border o) o) (sym w.1) ∙ name)))

  behind : (j : ℕ) → b + n < b + j → share_in b (amount_from border (slice_get old (b + j))) (slice_get old (b + j)) ≡ Nil
  behind j lt =
      by_cell (share_in b (amount_from border (slice_get old (b + j))) (slice_get old (b + j)) ≡ Nil) old (b + j)
      (λ c at. ap (λ o. share_in b (amount_from border o) o) at ∙ elsewhere b (amount_from border (Some c)) c (λ h.
      let w = name_cell in
      let r = placed (b + j) c w.0 at (ap (slice_get old) h ∙ w.1) (w.2 ∙ sym h) in
      let v = w.3 in
      let z : ⊥ = omega (arith, r, v, h, lt) in z))
      (λ gone. ap (λ o. share_in b (amount_from border o) o) gone)

  clear_at : (x j : ℕ) → top_of new border x j ≡ without (top_of old border) b x j
  clear_at x j =
      ⊎_elim
      (λ o.
      ap (λ c. share_in x (amount_from border c) c) (a.same (x + j) o)
      ∙ ⊎_elim
      (λ e. ap (λ y. share_in y (amount_from border (slice_get old (y + j))) (slice_get old (y + j))) e.1
      ∙ (behind j (past_end j (subst (λ y. (y + j < b) ⊎ (b + n < y + j)) e.1 o)) ∙ sym (cond-true (eqb x b) Nil (top_of old border x j) e.0)))
      (λ e. sym (cond-false (eqb x b) Nil (top_of old border x j) e.0))
      (eqb_tells x b))
      (λ w.
      let c = a.cleared (x + j) w.0 w.1 in
      ap (λ o. share_in x (amount_from border o) o) c.5
      ∙ (nothing_of border x c.0
      ∙ ⊎_elim
      (λ e. sym (cond-true (eqb x b) Nil (top_of old border x j) e.0))
      (λ e. sym (cond-false (eqb x b) Nil (top_of old border x j) e.0 ∙ (ap (λ o. share_in x (amount_from border o) o) c.1 ∙ elsewhere x (amount_from border (Some c.0)) c.0 (λ h. e.1 (sym h ∙ c.2)))))
      (eqb_tells x b)))
      (where_is (x + j))
    where
      past_end : (j : ℕ) → (b + j < b) ⊎ (b + n < b + j) → b + n < b + j
      past_end j (inl q) = absurd (let z : ⊥ = omega (arith, q) in z)
      past_end j (inr q) = q

      where_is : (i : ℕ) → ((i < b) ⊎ (b + n < i)) ⊎ ((b ≤ i) × (i ≤ b + n))
      where_is i =
          ⊎_elim
          (λ (w : i < b). inl (inl w))
          (λ (w : b ≤ i). ⊎_elim (λ (v : b + n < i). inl (inr v)) (λ (v : i ≤ b + n). inr (w, v)) (let o : (b + n < i) ⊎ (i ≤ b + n) = grind arith in o))
          (let o : (i < b) ⊎ (b ≤ i) = grind arith in o)

  pub clear_piece : top_of new border ≡ without (top_of old border) b
  clear_piece = fun_ext (λ x. fun_ext (λ j. clear_at x j))
