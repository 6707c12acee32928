-- Reads and writes of blocks that are held whole, beside anything else.
use Rattle.std.proofs.Common.{◌≡◌, ◌≢◌, ℕ, zero, suc, ◌+◌, ◌-◌, ◌*◌, ◌%◌, ◌^◌, ◌<◌, ◌≤◌, Bool, true, false, cond, ◌&&◌, List, [], ◌∷◌, length, replicate, refl, sym, ap, ◌∙◌, subst, arith, eqb, eqb-true, eq-eqb, ne_eqb, ltb-true, ltb-false, ⊎_elim}
use Rattle.std.proofs.lemmas.Bool.{cond_both, cond-true, cond-false}
use Rattle.std.proofs.lemmas.Bool.Decides.{eqb_tells}
use Rattle.std.proofs.lemmas.List.{length-set, length-replicate}
use Rattle.std.proofs.Math.Path.{fun_ext}
use Rattle.std.specs.Prelude.{Some, slice_get, slice_set, slice_index, nat_lt, unwrap_or}
use Rattle.target_code.specs.declared.tree.Calc.TheVariants.{Add, Sub, Mul}
use Rattle.target_meaning.specs.Leaf.{calc_of, Is}
use Rattle.target_meaning.specs.Machine.{Heap, Cell, Never, Live, Freed}
use Rattle.target_meaning.specs.Piece.{whole, Share, Nil, Some_of, add, Piece, none, plus, at_place, Fits, Holds}
use Rattle.target_meaning.specs.Held.{block_of, stored, with_new, without, AllWhole}
use Rattle.target_meaning.specs.Piece.{IsWhole}
use Rattle.triple_logic.specs.Sample.{HasValue}
use Rattle.target_meaning.proofs.Shares.{add-nil, plus-comm, plus-assoc, fits_left}
use Rattle.target_meaning.proofs.Lists.{get-set_same, get-set_other, get-replicate, get_past}
use Rattle.triple_logic.proofs.Sample.{value_of, no_wrap, stored_whole}
use Rattle.target_meaning.proofs.Races.{cut_alone}
use Rattle.triple_logic.proofs.Rules.{place_bound}
use Rattle.triple_logic.specs.Blocks.{held_word, block_share, block, Reads, Apart}
use Rattle.triple_logic.proofs.Ends.{live_of, nil_right}

pub get_some : (ws : List ℕ) (i : ℕ) → i < length ws → slice_get ws i ≡ Some (slice_index ws i)
get_some [] i h = absurd (let f : ⊥ = omega arith in f)
get_some (w ∷ ws) zero h = refl
get_some (w ∷ ws) (suc i) h = get_some ws i (omega arith)

-- ---- one block

pub block_same : (b : ℕ) (ws : List ℕ) (j : ℕ) → block b ws b j ≡ block_share ws j
block_same b ws j = cond-true (eqb b b) (block_share ws j) Nil (eq-eqb b b refl)

pub block_other : (b : ℕ) (ws : List ℕ) (c j : ℕ) → c ≢ b → block b ws c j ≡ Nil
block_other b ws c j ne = cond-false (eqb c b) (block_share ws j) Nil (ne_eqb c b ne)

block_word : (ws : List ℕ) (i : ℕ) → i < length ws → block_share ws (suc i) ≡ Some_of (slice_index ws i) (whole - 1)
block_word ws i lt = ap held_word (get_some ws i lt)

block_whole : (b : ℕ) (ws : List ℕ) → AllWhole (block b ws b 0) (block b ws b)
block_whole b ws =
    subst (λ y. AllWhole y (block b ws b)) (sym (block_same b ws 0))
    (refl, λ i lt. subst IsWhole (sym (block_same b ws (suc i) ∙ block_word ws i lt)) refl)

-- nothing else has anything of a block that is held whole
pub apart : (b : ℕ) (ws : List ℕ) (k : Piece) (h : Heap) → Holds (plus (block b ws) k) h → Apart b k
apart b ws k h hs j =
    cut_alone (block b ws) k h b j (h.cells b) refl
    (live_of (block b ws b 0) (block b ws b) (h.cells b) (block_whole b ws) (fits_left (block b ws b 0) (k b 0) _ (hs.places b 0)))
    (block_whole b ws) hs

module _ (b : ℕ) (ws : List ℕ) (k : Piece) (ap_k : Apart b k) where
  at_block : (j : ℕ) → plus (block b ws) k b j ≡ block_share ws j
  at_block j = ap (add (block b ws b j)) (ap_k j) ∙ add-nil (block b ws b j) ∙ block_same b ws j

  pub own_at : (i : ℕ) → i < length ws → plus (block b ws) k b (suc i) ≡ Some_of (slice_index ws i) (whole - 1)
  own_at i lt = at_block (suc i) ∙ block_word ws i lt

  pub own_whole : (i : ℕ) → i < length ws → IsWhole (plus (block b ws) k b (suc i))
  own_whole i lt = subst IsWhole (sym (own_at i lt)) refl

  pub own_all : AllWhole (plus (block b ws) k b 0) (plus (block b ws) k b)
  own_all = subst (λ y. AllWhole y (plus (block b ws) k b)) (sym (at_block 0)) (refl, own_whole)

  pub own_free : without (plus (block b ws) k) b ≡ k
  own_free = fun_ext (λ c. fun_ext (λ j.
      cond_both (eqb c b) Nil (add (block b ws c j) (k c j)) (λ y. y ≡ k c j)
      (λ e. sym (rw (eqb-true c b e) (ap_k j)))
      (λ e. ap (λ y. add (cond y (block_share ws j) Nil) (k c j)) e)))

  -- a store
  set_share : (i v j : ℕ) → i < length ws → cond (eqb j (suc i)) (Some_of v (whole - 1)) (block_share ws j) ≡ block_share (slice_set ws i v) j
  set_share i v zero lt =
      let ne : 0 ≢ suc i = omega arith in
      cond-false (eqb 0 (suc i)) _ _ (ne_eqb 0 (suc i) ne) ∙ ap (λ y. Some_of y (whole - 1)) (sym (length-set ws i v))
  set_share i v (suc m) lt =
      ⊎_elim
      (λ e. cond-true (eqb (suc m) (suc i)) _ _ (eq-eqb (suc m) (suc i) (ap suc e.1)) ∙ sym (ap held_word (ap (slice_get (slice_set ws i v)) e.1 ∙ get-set_same ws i v lt)))
      (λ e. cond-false (eqb (suc m) (suc i)) _ _ (ne_eqb (suc m) (suc i) (omega (arith, e.1))) ∙ sym (ap held_word (get-set_other ws i m v e.1)))
      (eqb_tells m i)

  pub own_set : (i v : ℕ) → i < length ws → stored (plus (block b ws) k) b i v ≡ plus (block b (slice_set ws i v)) k
  own_set i v lt = stored_whole (plus (block b ws) k) b i v (own_whole i lt) ∙ fun_ext (λ c. fun_ext (λ j. at c j (eqb c b) refl))
    where
      at : (c j : ℕ) (e : Bool) → eqb c b ≡ e → cond (eqb c b && eqb j (suc i)) (Some_of v (whole - 1)) (plus (block b ws) k c j) ≡ plus (block b (slice_set ws i v)) k c j
      at c j true e =
          let here : c ≡ b = eqb-true c b e in
          ap (λ y. cond (y && eqb j (suc i)) (Some_of v (whole - 1)) (plus (block b ws) k c j)) e ∙
          ap (cond (eqb j (suc i)) (Some_of v (whole - 1))) (ap (λ y. plus (block b ws) k y j) here ∙ at_block j) ∙
          set_share i v j lt ∙ sym (ap (λ y. plus (block b (slice_set ws i v)) k y j) here ∙ ap (add (block b (slice_set ws i v) b j)) (ap_k j) ∙ add-nil _ ∙ block_same b (slice_set ws i v) j)
      at c j false e =
          ap (λ y. cond (y && eqb j (suc i)) (Some_of v (whole - 1)) (plus (block b ws) k c j)) e ∙
          ap (λ y. add (cond y (block_share ws j) Nil) (k c j)) e ∙ sym (ap (λ y. add (cond y (block_share (slice_set ws i v) j) Nil) (k c j)) e)

-- a new block
new_share : (n j : ℕ) → block_of n j ≡ block_share (replicate n 0) j
new_share n zero = ap (λ y. Some_of y (whole - 1)) (sym (length-replicate n 0))
new_share n (suc i) =
    cond_both (nat_lt i n) (Some_of 0 (whole - 1)) Nil (λ y. y ≡ held_word (slice_get (replicate n 0) i))
    (λ e. sym (ap held_word (get-replicate n i 0 (ltb-true i n e))))
    (λ e. sym (ap held_word (get_past (replicate n 0) i (omega (arith, ltb-false i n e, length-replicate {A = ℕ} n 0)))))

pub own_new : (k : Piece) (x n : ℕ) → Apart x k → with_new k x n ≡ plus (block x (replicate n 0)) k
own_new k x n free = fun_ext (λ c. fun_ext (λ j.
    cond_both (eqb c x) (block_of n j) (k c j) (λ y. y ≡ plus (block x (replicate n 0)) k c j)
    (λ e. let here : c ≡ x = eqb-true c x e in new_share n j ∙ sym (ap (λ y. plus (block x (replicate n 0)) k y j) here ∙ ap (add (block x (replicate n 0) x j)) (free j) ∙ add-nil _ ∙ block_same x (replicate n 0) j))
    (λ e. sym (ap (λ y. add (cond y (block_share (replicate n 0) j) Nil) (k c j)) e))))

-- ---- what else is held

pub beside : (b : ℕ) (ws : List ℕ) (k : Piece) (c j : ℕ) → c ≢ b → plus (block b ws) k c j ≡ k c j
beside b ws k c j ne = ap (λ y. add y (k c j)) (block_other b ws c j ne)

held_not : (x : Share) (v : ℕ) → HasValue x v → x ≡ Nil → ⊥
held_not x v hv e = subst (λ y. HasValue y v) e hv

-- a block that is read is none that is held apart
pub reads_ne : (c off : ℕ) (xs : List ℕ) (k : Piece) (b i : ℕ) → Reads c off xs k → Apart b k → i < length xs → c ≢ b
reads_ne c off xs k b i r a lt e = held_not (k c (suc (off + i))) _ (r i lt) (ap (λ y. k y (suc (off + i))) e ∙ a (suc (off + i)))

-- reads go on beside a block
pub reads_beside : (c off : ℕ) (xs : List ℕ) (k : Piece) (b : ℕ) (ws : List ℕ) → Reads c off xs k → Apart b k → Reads c off xs (plus (block b ws) k)
reads_beside c off xs k b ws r a i lt = subst (λ y. HasValue y (slice_index xs i)) (sym (beside b ws k c (suc (off + i)) (reads_ne c off xs k b i r a lt))) (r i lt)

pub reads_own : (b : ℕ) (ws : List ℕ) (k : Piece) → Apart b k → Reads b 0 ws (plus (block b ws) k)
reads_own b ws k a i lt = subst (λ y. HasValue y (slice_index ws i)) (sym (ap (plus (block b ws) k b) (let e : suc (0 + i) ≡ suc i = omega arith in e) ∙ own_at b ws k a i lt)) refl

pub read_word : (c off : ℕ) (xs : List ℕ) (p : Piece) (i m : ℕ) → Reads c off xs p → i < length xs → m ≡ off + i → (l : ℕ) × (p c (suc m) ≡ Some_of (slice_index xs i) l)
read_word c off xs p i m r lt e = let v = value_of (p c (suc (off + i))) (slice_index xs i) (r i lt) in (v.0, ap (λ y. p c (suc y)) e ∙ v.1)

-- an index in a block is a word
pub reads_bound : (c off : ℕ) (xs : List ℕ) (p : Piece) (h : Heap) (i : ℕ) → Holds p h → Reads c off xs p → i < length xs → suc (off + i) < 2 ^ 64
reads_bound c off xs p h i hs r lt = let v = value_of (p c (suc (off + i))) (slice_index xs i) (r i lt) in place_bound p h c (suc (off + i)) (slice_index xs i) v.0 hs v.1

length_bound : (c : Cell) (h : Heap) (b n : ℕ) → h.cells b ≡ c → Holds none h → at_place c 0 ≡ Some n → suc n < 2 ^ 64
length_bound Never h b n e hs a = cc a
length_bound Freed h b n e hs a = cc a
length_bound (Live ws) h b n e hs a = let z : length ws ≡ n = ap (λ o. unwrap_or o 0) a in omega (arith, hs.heap.short b ws e, hs.heap.word, z)

pub own_bound : (b : ℕ) (ws : List ℕ) (k : Piece) (h : Heap) → Holds (plus (block b ws) k) h → suc (length ws) < 2 ^ 64
own_bound b ws k h hs =
    length_bound (h.cells b) h b (length ws) refl (record { places = λ c j. tt; heap = hs.heap })
    (let f : Fits (Some_of (length ws) (whole - 1)) (at_place (h.cells b) 0) = subst (λ y. Fits y (at_place (h.cells b) 0)) (block_same b ws 0) (fits_left (block b ws b 0) (k b 0) _ (hs.places b 0)) in f.0)

-- two blocks
pub swap_blocks : (a b k : Piece) → plus a (plus b k) ≡ plus b (plus a k)
swap_blocks a b k = sym (plus-assoc a b k) ∙ ap (λ y. plus y k) (plus-comm a b) ∙ plus-assoc b a k

-- a block that was moved is freed
pub drop_second : (x : ℕ) (xs : List ℕ) (b : ℕ) (bs : List ℕ) (k : Piece) (h : Heap) → Holds (plus (block x xs) (plus (block b bs) k)) h → AllWhole (plus (block x xs) (plus (block b bs) k) b 0) (plus (block x xs) (plus (block b bs) k) b) × (without (plus (block x xs) (plus (block b bs) k)) b ≡ plus (block x xs) k) × Apart x k
drop_second x xs b bs k h hs =
    let e = swap_blocks (block x xs) (block b bs) k in
    let free : Apart b (plus (block x xs) k) = apart b bs (plus (block x xs) k) h (subst (λ y. Holds y h) e hs) in (
      subst (λ y. AllWhole (y b 0) (y b)) (sym e) (own_all b bs (plus (block x xs) k) free),
      ap (λ y. without y b) e ∙ own_free b bs (plus (block x xs) k) free,
      λ j. nil_right (block b bs x j) (k x j) (apart x xs (plus (block b bs) k) h hs j),
    )

-- ---- numbers

pub adds : (x y v : ℕ) → x + y ≡ v → v < 2 ^ 64 → calc_of Add x y ≡ Is v
adds x y v e lt = ap (λ z. Is (z % 2 ^ 64)) e ∙ ap Is (no_wrap v lt)

pub subs : (x y v : ℕ) → x ≡ v + y → x < 2 ^ 64 → calc_of Sub x y ≡ Is v
subs x y v e lt = ap Is (let z : (x + 2 ^ 64 - y) % 2 ^ 64 ≡ v = omega (arith, e, lt) in z)

pub muls : (x y v : ℕ) → x * y ≡ v → v < 2 ^ 64 → calc_of Mul x y ≡ Is v
muls x y v e lt = ap (λ z. Is (z % 2 ^ 64)) e ∙ ap Is (no_wrap v lt)

abbrev pub flag : Bool → ℕ
flag b = cond b 1 0

pub lt_on : (x y : ℕ) → (flag (nat_lt x y) ≡ 0 → ⊥) → x < y
lt_on x y = cond_both {A = ℕ} (nat_lt x y) 1 0 (λ z. (z ≡ 0 → ⊥) → x < y) (λ e o. ltb-true x y e) (λ e o. absurd (o refl))

pub lt_off : (x y : ℕ) → flag (nat_lt x y) ≡ 0 → y ≤ x
lt_off x y = cond_both {A = ℕ} (nat_lt x y) 1 0 (λ z. z ≡ 0 → y ≤ x) (λ e o. absurd (let k : ⊥ = omega (arith, o) in k)) (λ e o. ltb-false x y e)

pub eq_on : (x y : ℕ) → (flag (eqb x y) ≡ 0 → ⊥) → x ≡ y
eq_on x y = cond_both {A = ℕ} (eqb x y) 1 0 (λ z. (z ≡ 0 → ⊥) → x ≡ y) (λ e o. eqb-true x y e) (λ e o. absurd (o refl))

pub eq_off : (x y : ℕ) → flag (eqb x y) ≡ 0 → x ≢ y
eq_off x y o e = let k : ⊥ = omega (arith, ap (λ z. cond z 1 0) (sym (eq-eqb x y e)) ∙ o) in k
