-- The words of a block, one after the other.
use Rattle.std.proofs.Common.{◌≡◌, ◌≢◌, ℕ, zero, suc, ◌+◌, ◌-◌, ◌^◌, ◌<◌, ◌≤◌, ◌⊎◌, inl, inr, ⊎_elim, Bool, true, false, cond, ◌&&◌, List, [], ◌∷◌, ◌++◌, length, refl, sym, ap, ◌∙◌, subst, arith, eqb, eq-eqb, eqb-true, ne_eqb, lt-ltb, ltb-true, le-leb, leb-true}
use Rattle.std.proofs.lemmas.Bool.{cond-true, cond-false}
use Rattle.std.proofs.lemmas.Bool.Decides.{eqb_tells}
use Rattle.std.proofs.Math.Path.{fun_ext}
use Rattle.std.proofs.lemmas.Option.{slice_get_past}
use Rattle.std.specs.Prelude.{◌==◌, Option, Some, None, nat_lt, nat_le, slice_get, if◌then◌else◌}
use Rattle.target_meaning.specs.Machine.{Heap, Cell, Never, Live, with_words, put_cell}
use Rattle.target_meaning.specs.Piece.{Share, Nil, Some_of, Clash, Piece, Holds, Fits, IsHeap, at_place, whole}
use Rattle.target_meaning.specs.Held.{block_of, stored, valued, with_new}
use Rattle.branch_exec.specs.Stores.{Kept, IsWon, with_top, writes, after_write, is_outside, is_whole}
use Rattle.branch_exec.specs.declared.store.Written.{Written}
use Rattle.branch_exec.specs.declared.store.Written.TheVariants as written
use Rattle.store_blocks.specs.Blocks.{IsPut, block_with, whole_word, with_block}

-- the block when so many words stand in it
abbrev pub word_at : List ℕ → ℕ → ℕ → ℕ
word_at [] n i = 0
word_at (w ∷ ws) zero i = 0
word_at (w ∷ ws) (suc n) zero = w
word_at (w ∷ ws) (suc n) (suc i) = word_at ws n i

abbrev pub half_share : List ℕ → ℕ → ℕ → Share
half_share ws n zero = Some_of (length ws) (whole - 1)
half_share ws n (suc i) = if nat_lt i (length ws) then Some_of (word_at ws n i) (whole - 1) else Nil

abbrev pub half_block : Piece → ℕ → List ℕ → ℕ → Piece
half_block p x ws n c j = if c == x then half_share ws n j else p c j

word_none : (ws : List ℕ) (i : ℕ) → word_at ws 0 i ≡ 0
word_none [] i = refl
word_none (w ∷ ws) i = refl

word_same : (ws : List ℕ) (n : ℕ) (v : ℕ) → slice_get ws n ≡ Some v → word_at ws (suc n) n ≡ v
word_same [] n v e = absurd (let z : ⊥ = cc e in z)
word_same (w ∷ ws) zero v e = cc e
word_same (w ∷ ws) (suc n) v e = word_same ws n v e

word_other : (ws : List ℕ) (n i : ℕ) → i ≢ n → word_at ws (suc n) i ≡ word_at ws n i
word_other [] n i ne = refl
word_other (w ∷ ws) zero zero ne = absurd (ne refl)
word_other (w ∷ ws) zero (suc i) ne = word_none ws i
word_other (w ∷ ws) (suc n) zero ne = refl
word_other (w ∷ ws) (suc n) (suc i) ne = word_other ws n i (λ e. ne (ap suc e))

word_got : (ws : List ℕ) (n i : ℕ) → length ws ≤ n → i < length ws → slice_get ws i ≡ Some (word_at ws n i)
word_got [] n i le lt = absurd (let z : ⊥ = omega arith in z)
word_got (w ∷ ws) zero i le lt = absurd (let z : ⊥ = omega arith in z)
word_got (w ∷ ws) (suc n) zero le lt = refl
word_got (w ∷ ws) (suc n) (suc i) le lt = word_got ws n i (omega arith) (omega arith)

not_lt : (i n : ℕ) → n ≤ i → nat_lt i n ≡ false
not_lt i n le = grind arith

word_all : (ws : List ℕ) (n i : ℕ) → length ws ≤ n → (if nat_lt i (length ws) then Some_of (word_at ws n i) (whole - 1) else Nil) ≡ whole_word (slice_get ws i)
word_all ws n i le =
    ⊎_elim
    (λ (lt : i < length ws). cond-true (nat_lt i (length ws)) (Some_of (word_at ws n i) (whole - 1)) Nil (lt-ltb i (length ws) lt) ∙ sym (ap whole_word (word_got ws n i le lt)))
    (λ (ge : length ws ≤ i). cond-false (nat_lt i (length ws)) (Some_of (word_at ws n i) (whole - 1)) Nil (not_lt i (length ws) ge) ∙ sym (ap whole_word (slice_get_past ws i ge)))
    (let o : (i < length ws) ⊎ (length ws ≤ i) = grind arith in o)

block_first : (ws : List ℕ) (j : ℕ) → block_of (length ws) j ≡ half_share ws 0 j
block_first ws zero = refl
block_first ws (suc i) = ap (λ v. if nat_lt i (length ws) then Some_of v (whole - 1) else Nil) (sym (word_none ws i))

pub first_half : (p : Piece) (x : ℕ) (ws : List ℕ) → with_new p x (length ws) ≡ half_block p x ws 0
first_half p x ws = fun_ext (λ c. fun_ext (λ j. ap (λ s. if c == x then s else p c j) (block_first ws j)))

pub last_half : (p : Piece) (x : ℕ) (ws : List ℕ) (n : ℕ) → length ws ≤ n → half_block p x ws n ≡ with_block p x ws
last_half p x ws n le = fun_ext (λ c. fun_ext (λ j. ap (λ s. if c == x then s else p c j) (go j)))
  where
    go : (j : ℕ) → half_share ws n j ≡ block_with ws j
    go zero = refl
    go (suc i) = word_all ws n i le

-- a word more
share_next : (ws : List ℕ) (n v : ℕ) (j : ℕ) → n < length ws → slice_get ws n ≡ Some v → (if eqb j (suc n) then valued (half_share ws n j) v else half_share ws n j) ≡ half_share ws (suc n) j
share_next ws n v zero lt e = cond-false (eqb 0 (suc n)) (valued (half_share ws n 0) v) (half_share ws n 0) (ne_eqb 0 (suc n) (let z : 0 ≢ suc n = omega arith in z))
share_next ws n v (suc i) lt e =
    ⊎_elim
    (λ t.
    let q : i ≡ n = let z = t.1 in omega arith in
    cond-true (eqb (suc i) (suc n)) (valued (half_share ws n (suc i)) v) (half_share ws n (suc i)) t.0
    ∙ (ap (λ b. valued (if b then Some_of (word_at ws n i) (whole - 1) else Nil) v) (lt-ltb i (length ws) (omega arith))
    ∙ (ap (λ w. Some_of w (whole - 1)) (sym (ap (word_at ws (suc n)) q ∙ word_same ws n v e))
    ∙ ap (λ b. if b then Some_of (word_at ws (suc n) i) (whole - 1) else Nil) (sym (lt-ltb i (length ws) (omega arith))))))
    (λ t.
    let q : i ≢ n = λ z. t.1 (ap suc z) in
    cond-false (eqb (suc i) (suc n)) (valued (half_share ws n (suc i)) v) (half_share ws n (suc i)) t.0
    ∙ ap (λ w. if nat_lt i (length ws) then Some_of w (whole - 1) else Nil) (sym (word_other ws n i q)))
    (eqb_tells (suc i) (suc n))

pub next_half : (p : Piece) (x : ℕ) (ws : List ℕ) (n v : ℕ) → n < length ws → slice_get ws n ≡ Some v → stored (half_block p x ws n) x n v ≡ half_block p x ws (suc n)
next_half p x ws n v lt e = fun_ext (λ c. fun_ext (λ j. go c j (eqb c x) refl))
  where
    go : (c j : ℕ) (b : Bool) → eqb c x ≡ b → stored (half_block p x ws n) x n v c j ≡ half_block p x ws (suc n) c j
    go c j true q =
        ap (λ b. if b && eqb j (suc n) then valued (if b then half_share ws n j else p c j) v else (if b then half_share ws n j else p c j)) q
        ∙ (share_next ws n v j lt e ∙ sym (ap (λ b. if b then half_share ws (suc n) j else p c j) q))
    go c j false q =
        ap (λ b. if b && eqb j (suc n) then valued (if b then half_share ws n j else p c j) v else (if b then half_share ws n j else p c j)) q
        ∙ sym (ap (λ b. if b then half_share ws (suc n) j else p c j) q)

-- the word can be written
pub can_write : (p : Piece) (x : ℕ) (ws : List ℕ) (n : ℕ) → n < length ws → writes (half_block p x ws n) x n ≡ written.Done
can_write p x ws n lt =
    ap (λ b. writes_by (if b then half_share ws n 0 else p x 0) (if b then half_share ws n (suc n) else p x (suc n))) (eq-eqb x x refl)
    ∙ (ap (λ b. if b then written.Outside else (if is_whole (half_share ws n (suc n)) then written.Done else written.Unowned)) (short (length ws) n lt)
    ∙ ap (λ b. if is_whole (if b then Some_of (word_at ws n n) (whole - 1) else Nil) then written.Done else written.Unowned) (lt-ltb n (length ws) lt))
  where
    writes_by : Share → Share → Written
    writes_by name word = if is_outside name n then written.Outside else (if is_whole word then written.Done else written.Unowned)

    short : (m i : ℕ) → i < m → nat_le m i ≡ false
    short m i h = grind arith

-- the store after one more word
pub written_on : (s t : Kept) (p : Piece) (x : ℕ) (ws : List ℕ) (n v : ℕ) (w : Written) (u : Kept) → n < length ws → slice_get ws n ≡ Some v → s ≡ with_top u (half_block p x ws n) → w ≡ writes s.top x n → t ≡ with_top s (after_write w s.top x n v) → t ≡ with_top u (half_block p x ws (n + 1))
written_on s t p x ws n v w u lt e is a b =
    let one : suc n ≡ n + 1 = omega arith in
    let top : s.top ≡ half_block p x ws n = ap (λ (k : Kept). k.top) is in
    let done : w ≡ written.Done = a ∙ (ap (λ q. writes q x n) top ∙ can_write p x ws n lt) in
    b ∙ (ap (λ z. with_top s (after_write z s.top x n v)) done
    ∙ (ap (λ q. with_top s (stored q x n v)) top
    ∙ (ap (with_top s) (next_half p x ws n v lt e)
    ∙ (ap (λ (k : Kept). with_top k (half_block p x ws (suc n))) is
    ∙ ap (λ k. with_top u (half_block p x ws k)) one))))

-- a claim, and then the words
pub put_done : (s m t : Kept) (x : ℕ) (ws : List ℕ) (n : ℕ) → IsWon s m x (length ws) → length ws ≤ n → t ≡ with_top m (half_block s.top x ws n) → IsPut s t x ws
put_done s m t x ws n w le e = subst (λ z. IsPut s z x ws) (sym e) (record {
  new = w.new;
  fits = w.fits;
  reached = w.reached;
  below = w.same;
  top = last_half s.top x ws n le;
  drawn = w.drawn;
  cap = w.cap;
  place = w.place;
  weight = w.weight;
})

pub put_begun : (s m : Kept) (x : ℕ) (ws : List ℕ) → IsWon s m x (length ws) → m ≡ with_top m (half_block s.top x ws 0)
put_begun s m x ws w = ap (with_top m) (w.top ∙ first_half s.top x ws)

-- the heap
word_fits : (o : Option ℕ) → Fits (whole_word o) o
word_fits None = tt
word_fits (Some v) = (refl, (let z : whole - 1 < whole = omega arith in z))

block_fits : (ws : List ℕ) (j : ℕ) → Fits (block_with ws j) (at_place (Live ws) j)
block_fits ws zero = (refl, (let z : whole - 1 < whole = omega arith in z))
block_fits ws (suc i) = word_fits (slice_get ws i)

pub put_held : (s t : Kept) (x : ℕ) (ws : List ℕ) (h : Heap) → IsPut s t x ws → Holds s.top h → h.cap ≡ s.cap → h.cells x ≡ Never → Holds t.top (with_words h x ws)
put_held s t x ws h w hs c n =
    subst (λ p. Holds p (with_words h x ws)) (sym w.top) (record {
      places = λ b j. place b j (eqb b x) refl;
      heap = record {
        word = hs.heap.word;
        short = λ b us e. short b us (eqb b x) refl e;
        named = λ b us e. named b us (eqb b x) refl e;
      };
    })
  where
    place : (b j : ℕ) (q : Bool) → eqb b x ≡ q → Fits (with_block s.top x ws b j) (at_place (put_cell h x (Live ws) b) j)
    place b j true e = subst (λ z. Fits (if z then block_with ws j else s.top b j) (at_place (if z then Live ws else h.cells b) j)) (sym e) (block_fits ws j)
    place b j false e = subst (λ z. Fits (if z then block_with ws j else s.top b j) (at_place (if z then Live ws else h.cells b) j)) (sym e) (hs.places b j)

    short : (b : ℕ) (us : List ℕ) (q : Bool) → eqb b x ≡ q → put_cell h x (Live ws) b ≡ Live us → length us < h.cap
    short b us true e f =
        let g : Live ws ≡ Live us = subst (λ z. (if z then Live ws else h.cells b) ≡ Live us) e f in
        let k : ws ≡ us = cc g in
        let l : length ws ≡ length us = ap length k in
        let fi = w.fits in let ne = w.new in omega arith
    short b us false e f = hs.heap.short b us (subst (λ z. (if z then Live ws else h.cells b) ≡ Live us) e f)

    named : (b : ℕ) (us : List ℕ) (q : Bool) → eqb b x ≡ q → put_cell h x (Live ws) b ≡ Live us → b ≤ h.cap
    named b us true e f = let k = eqb-true b x e in let fi = w.fits in omega arith
    named b us false e f = hs.heap.named b us (subst (λ z. (if z then Live ws else h.cells b) ≡ Live us) e f)
