-- A new block behind the others.
use Rattle.std.proofs.Common.{◌≡◌, ◌≢◌, ℕ, zero, suc, ◌+◌, ◌-◌, ◌<◌, ◌≤◌, List, [], ◌∷◌, ◌++◌, length, replicate, refl, sym, ap, ◌∙◌, subst, arith}
use Rattle.std.proofs.Common.{Bool, true, false, cond}
use Rattle.std.proofs.Common.{◌⊎◌, eqb, eq-eqb, ne_eqb, le-leb, lt-ltb, ⊎_elim}
use Rattle.std.proofs.lemmas.Bool.{cond-true, cond-false}
use Rattle.std.proofs.lemmas.Bool.Decides.{eqb_tells}
use Rattle.std.proofs.Math.Path.{fun_ext}
use Rattle.std.specs.Prelude.{Result, Ok, Err, is_ok, is_err}
use Rattle.plain_store.specs.declared.cells.Drawn.{Drawn}
use Rattle.std.proofs.lemmas.List.{length-set, length-replicate}
use Rattle.std.specs.Prelude.{Some, slice_get, slice_set, take, nat_le, nat_lt}
use Rattle.target_meaning.specs.Held.{with_new, block_of}
use Rattle.target_meaning.specs.Piece.{Nil, Some_of, share_of, whole}
use Rattle.run_stores.specs.Rows.{IsInRow}
use Rattle.plain_store.specs.declared.cells.Cell.{Cell}
use Rattle.plain_store.specs.Cells.{share_in, amount_from, top_of, new_name, new_word, blocks_of}
use Rattle.plain_store.specs.Changed.{HasGrown}
use Rattle.plain_store.proofs.Gets.{set_same, set_other, past, in_front, behind, of_same, take_all}

length_all : (xs ys : List Cell) → length (xs ++ ys) ≡ length xs + length ys
length_all [] ys = let e : length ys ≡ 0 + length ys = omega arith in e
length_all (x ∷ xs) ys = let e = length_all xs ys in omega arith

pub grown : (old all : List Cell) (x n border : ℕ) → x ≡ length old → all ≡ old ++ replicate (n + 1) (new_word x border) → HasGrown old (slice_set all x (new_name x n border)) border n
grown old all x n border is eq =
    let len : length all ≡ length old + (n + 1) = ap length eq ∙ (length_all old (replicate (n + 1) (new_word x border)) ∙ ap (λ k. length old + k) (length-replicate (n + 1) (new_word x border))) in
    let len2 : length (slice_set all x (new_name x n border)) ≡ length all = length-set all x (new_name x n border) in
    record {
      len = omega (arith, len, len2);
      front = λ k lt. set_other all x k (new_name x n border) (let z : k ≢ x = omega (arith, lt, is) in z) ∙ (ap (λ l. slice_get l k) eq ∙ in_front old (replicate (n + 1) (new_word x border)) k lt);
      name = ap (slice_get (slice_set all x (new_name x n border))) (sym is) ∙ (set_same all x (new_name x n border) (omega (arith, len, is)) ∙ ap (λ k. Some (new_name k n border)) is);
      words = λ k lt le. set_other all x k (new_name x n border) (let z : k ≢ x = omega (arith, lt, is) in z)
          ∙ (ap (λ l. slice_get l k) eq
          ∙ (behind old (replicate (n + 1) (new_word x border)) k (k - length old) (omega (arith, lt))
          ∙ (of_same (n + 1) (k - length old) (new_word x border) (omega (arith, lt, le)) ∙ ap (λ m. Some (new_word m border)) is)));
    }

pub resized : (old all : List Cell) (m v k : ℕ) (w : Cell) (b : Bool) → all ≡ cond b (take m old ++ replicate (m - v) w) old → b ≡ true → v ≡ length old → m ≡ v + k → all ≡ old ++ replicate k w
resized old all m v k w b e t f g =
    let i : m - v ≡ k = omega arith in
    let j : length old ≤ m = omega arith in
    e ∙ (cond-true b _ old t ∙ (ap (λ l. l ++ replicate (m - v) w) (take_all m old j) ∙ ap (λ n. old ++ replicate n w) i))

pub is_fine : {A B : Type 0} (r : Result A B) → is_err r ≡ false → is_ok r ≡ true
is_fine (Ok x) e = refl
is_fine (Err x) e = cc e

pub pushed : (xs : List Drawn) (d : Drawn) → blocks_of (xs ++ d ∷ []) ≡ blocks_of xs ++ (d.name, d.len) ∷ []
pushed [] d = refl
pushed (x ∷ xs) d = ap (λ l. (x.name, x.len) ∷ l) (pushed xs d)

-- the piece with the block
elsewhere : (b n : ℕ) (c : Cell) → c.home ≢ b → share_in b n (Some c) ≡ Nil
elsewhere b n c ne = cond-false (eqb c.home b) (share_of c.value n) Nil (ne_eqb c.home b ne)

new_share : (x border v : ℕ) → share_in x (amount_from border (Some (record { home = x; value = v; amount = whole; stamp = border }))) (Some (record { home = x; value = v; amount = whole; stamp = border })) ≡ Some_of v (whole - 1)
new_share x border v =
    cond-true (eqb x x) (share_of v (cond (nat_le border border) whole 0)) Nil (eq-eqb x x refl)
    ∙ ap (share_of v) (cond-true (nat_le border border) whole 0 (le-leb border border (let z : border ≤ border = omega arith in z)))

module _ (old new : List Cell) (border n : ℕ) (g : HasGrown old new border n) where
  -- a new cell is of no other block
  new_else : (b k : ℕ) → b ≢ length old → length old ≤ k → share_in b (amount_from border (slice_get new k)) (slice_get new k) ≡ Nil
  new_else b k ne le =
      ⊎_elim
      (λ e. ap (λ o. share_in b (amount_from border o) o) (ap (slice_get new) e.1 ∙ g.name) ∙ elsewhere b (amount_from border (Some (new_name (length old) n border))) (new_name (length old) n border) (λ q. ne (sym q)))
      (λ e. let ne2 = e.1 in
      ⊎_elim
      (λ (w : k ≤ length old + n). ap (λ o. share_in b (amount_from border o) o) (g.words k (let z : length old < k = lt_ne (length old) k le (λ q. ne2 (sym q)) in z) w) ∙ elsewhere b (amount_from border (Some (new_word (length old) border))) (new_word (length old) border) (λ q. ne (sym q)))
      (λ (w : length old + n < k). let l = g.len in ap (λ o. share_in b (amount_from border o) o) (past new k (omega (arith, w, l))))
      (let o : (k ≤ length old + n) ⊎ (length old + n < k) = grind arith in o))
      (eqb_tells k (length old))
    where
      lt_ne : (a d : ℕ) → a ≤ d → (a ≢ d) → a < d
      lt_ne a d l m = ⊎_elim (λ (q : a < d). q) (λ (q : a ≡ d). absurd (m q)) (let o : (a < d) ⊎ (a ≡ d) = grind arith in o)

  share_same : (b j : ℕ) → b ≢ length old → top_of new border b j ≡ top_of old border b j
  share_same b j ne =
      ⊎_elim
      (λ (w : b + j < length old). ap (λ o. share_in b (amount_from border o) o) (g.front (b + j) w))
      (λ (w : length old ≤ b + j). new_else b (b + j) ne w ∙ sym (ap (λ o. share_in b (amount_from border o) o) (past old (b + j) w)))
      (let o : (b + j < length old) ⊎ (length old ≤ b + j) = grind arith in o)

  new_place : (j : ℕ) → top_of new border (length old) j ≡ block_of n j
  new_place zero =
      ap (λ o. share_in (length old) (amount_from border o) o) (ap (slice_get new) (let z : length old + 0 ≡ length old = omega arith in z) ∙ g.name) ∙ new_share (length old) border n
  new_place (suc i) =
      ⊎_elim
      (λ (w : i < n). ap (λ o. share_in (length old) (amount_from border o) o) (g.words (length old + suc i) (omega arith) (omega (arith, w))) ∙ (new_share (length old) border 0 ∙ sym (cond-true (nat_lt i n) (Some_of 0 (whole - 1)) Nil (lt-ltb i n w))))
      (λ (w : n ≤ i). let l = g.len in ap (λ o. share_in (length old) (amount_from border o) o) (past new (length old + suc i) (omega (arith, w, l))) ∙ sym (cond-false (nat_lt i n) (Some_of 0 (whole - 1)) Nil (not_lt i n w)))
      (let o : (i < n) ⊎ (n ≤ i) = grind arith in o)
    where
      not_lt : (a d : ℕ) → d ≤ a → nat_lt a d ≡ false
      not_lt a d l = grind arith

  grown_at : (b j : ℕ) → top_of new border b j ≡ with_new (top_of old border) (length old) n b j
  grown_at b j =
      ⊎_elim
      (λ e. ap (λ z. top_of new border z j) e.1 ∙ (new_place j ∙ sym (cond-true (eqb b (length old)) (block_of n j) (top_of old border b j) e.0)))
      (λ e. share_same b j e.1 ∙ sym (cond-false (eqb b (length old)) (block_of n j) (top_of old border b j) e.0))
      (eqb_tells b (length old))

  pub grown_piece : top_of new border ≡ with_new (top_of old border) (length old) n
  grown_piece = fun_ext (λ b. fun_ext (λ j. grown_at b j))

-- the blocks lie one behind the other
row_more : (ds : List Drawn) (low high end : ℕ) (d : Drawn) → IsInRow low (blocks_of ds) high → d.name ≡ high + 1 → end ≡ high + 1 + d.len → IsInRow low (blocks_of ds ++ (d.name, d.len) ∷ []) end
row_more [] low high end d l e f = (e ∙ sym l, (let z : low + d.len + 1 ≡ end + 1 = omega (arith, l, f) in z))
row_more (x ∷ ds) low high end d l e f = (l.0, row_more ds (low + x.len + 1) high end d l.1 e f)

pub drawn_row : (ds all : List Drawn) (low high end : ℕ) (d : Drawn) → all ≡ ds ++ d ∷ [] → IsInRow low (blocks_of ds) high → d.name ≡ high + 1 → end ≡ high + 1 + d.len → IsInRow low (blocks_of all) end
drawn_row ds all low high end d is l e f =
    subst (λ bs. IsInRow low bs end) (sym (ap blocks_of is ∙ pushed ds d)) (row_more ds low high end d l e f)
