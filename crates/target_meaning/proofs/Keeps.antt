-- A step keeps what is held, by the tree and by the rest of the world.
use Rattle.std.proofs.Common.{◌≡◌, ◌≢◌, ℕ, zero, suc, ◌+◌, ◌-◌, ◌/◌, ◌<◌, ◌≤◌, Bool, true, false, ◌&&◌, List, [], ◌∷◌, length, replicate, refl, sym, ap, ◌∙◌, subst, arith, eqb, eq-eqb, ⊎_elim, lit<}
use Rattle.std.proofs.Common.{◌⊎◌, ne_eqb, ltb-true, leb-true}
use Rattle.std.proofs.lemmas.Bool.{cond_both, and_parts, cond-true, cond-false, and_left, and_right}
use Rattle.std.proofs.lemmas.Bool.Decides.{eqb_tells}
use Rattle.std.proofs.lemmas.List.{length-set, length-replicate}
use Rattle.std.proofs.Math.Path.{fun_ext}
use Rattle.std.specs.Prelude.{Option, Some, None, slice_get, slice_set, slice_index, nat_lt, nat_le, unwrap_or}
use Rattle.target_code.specs.declared.tree.Proc.{Proc}
use Rattle.target_meaning.specs.declared.path.Side.{Side}
use Rattle.target_meaning.specs.declared.answer.Reason.TheVariants.{Index}
use Rattle.target_meaning.specs.declared.path.Side.TheVariants.{Left, Right}
use Rattle.target_meaning.specs.Leaf.{Stack, Run, End, Wait, Act, Go, Read, Write, Make, Cut, Split, Over, Bad, act}
use Rattle.target_meaning.specs.Machine.{Heap, Cell, Never, Live, Freed, Tree, Leaf, Fork, Moved, Stuck, Full, NameUsed, put_cell, with_cell, is_never, is_new, with_block, Room, has_room, any_room, no_blocks, IsSized, read_cell, write_cell, cut_cell, perform, join_ends, join_both, move}
use Rattle.target_meaning.specs.Piece.{whole, Share, Nil, Some_of, Clash, add_if, add, Piece, plus, at_place, Fits, IsHeap, Holds, share_of, half, rest, IsWhole}
use Rattle.target_meaning.specs.Held.{Take, in_part, given_share, kept_share, given, kept, all_given, all_kept, left_takes, right_takes, block_of, valued, stored, held_after, holdings, total, AllWhole, Fine, AllFine}
use Rattle.target_meaning.specs.Runs.{OnMoved}
use Rattle.target_meaning.proofs.Shares.{add-nil, add_same, plus-comm, plus-assoc, fits_left, fits_right}
use Rattle.target_meaning.proofs.Lists.{get-set_same, get-set_other, get-replicate, get_past}
use Rattle.target_meaning.proofs.Moved.{moved_map, moved_inside, moved_if}

-- parts taken and what is left make the whole
pub share-add : (v a b : ℕ) → add (share_of v a) (share_of v b) ≡ share_of v (a + b)
share-add v zero b = ap (share_of v) (let e : b ≡ 0 + b = omega arith in e)
share-add v (suc a) zero = ap (share_of v) (let e : suc a ≡ suc a + 0 = omega arith in e)
share-add v (suc a) (suc b) = add_same v a b ∙ ap (share_of v) (let e : suc (suc (a + b)) ≡ suc a + suc b = omega arith in e)

half-rest : (x : Share) → add (half x) (rest x) ≡ x
half-rest Nil = refl
half-rest (Some_of v k) = share-add v (suc k / 2) (suc k - suc k / 2) ∙ ap (share_of v) (let e : suc k / 2 + (suc k - suc k / 2) ≡ suc k = omega arith in e)
half-rest Clash = refl

given-kept : (b all : Bool) (x : Share) → add (given_share b all x) (kept_share b all x) ≡ x
given-kept false all x = refl
given-kept true true x = add-nil x
given-kept true false x = half-rest x

pub take_sum : (t : Take) (p : Piece) → plus (given t p) (kept t p) ≡ p
take_sum t p = fun_ext (λ b. fun_ext (λ j. given-kept (in_part t.part b j) t.all (p b j)))

pub takes_sum : (ts : List Take) (p : Piece) → plus (all_given ts p) (all_kept ts p) ≡ p
takes_sum [] p = refl
takes_sum (t ∷ ts) p =
    plus-assoc (given t p) (all_given ts (kept t p)) (all_kept ts (kept t p)) ∙
    ap (plus (given t p)) (takes_sum ts (kept t p)) ∙ take_sum t p

-- a fork keeps the total
pub fork_sum : (p : Piece) (ls rs : List Take) → plus (all_kept rs (all_kept ls p)) (plus (all_given ls p) (all_given rs (all_kept ls p))) ≡ p
fork_sum p ls rs =
    plus-comm (all_kept rs (all_kept ls p)) (plus (all_given ls p) (all_given rs (all_kept ls p))) ∙ plus-assoc (all_given ls p) (all_given rs (all_kept ls p)) (all_kept rs (all_kept ls p)) ∙
    ap (plus (all_given ls p)) (takes_sum rs (all_kept ls p)) ∙ takes_sum ls p

-- nothing else holds what is held whole
whole_if : (e : Bool) (u k j : ℕ) (o : Option ℕ) → suc k ≡ whole → Fits (add_if e u k j) o → ⊥
whole_if true u k j o w f = let g : ⊥ = omega (arith, f.1, w) in g
whole_if false u k j o w f = f

pub whole_alone : (a b : Share) (o : Option ℕ) → IsWhole a → Fits (add a b) o → b ≡ Nil
whole_alone Nil b o w f = absurd w
whole_alone Clash b o w f = absurd w
whole_alone (Some_of u k) Nil o w f = refl
whole_alone (Some_of u k) Clash o w f = absurd f
whole_alone (Some_of u k) (Some_of x j) o w f = absurd (whole_if (eqb u x) u k j o w f)

pub some_same : (a b : ℕ) → Some a ≡ Some b → a ≡ b
some_same a b e = ap (λ o. unwrap_or o 0) e

pub none_here : (a : Share) → Fits a None → a ≡ Nil
none_here Nil f = refl
none_here (Some_of v k) f = absurd (let g : ⊥ = cc f.0 in g)
none_here Clash f = absurd f

-- a whole share of another value is whole
pub valued_whole : (a : Share) (v : ℕ) → IsWhole a → valued a v ≡ Some_of v (whole - 1)
valued_whole Nil v w = absurd w
valued_whole (Some_of u k) v w = ap (Some_of v) (let e : k ≡ whole - 1 = omega (arith, w) in e)
valued_whole Clash v w = absurd w

pub valued_still : (a : Share) (v : ℕ) → IsWhole a → IsWhole (valued a v)
valued_still Nil v w = w
valued_still (Some_of u k) v w = w
valued_still Clash v w = w

-- a piece after a store to a word that is held whole
pub stored_word : (p : Piece) (b i v : ℕ) → IsWhole (p b (suc i)) → stored p b i v b (suc i) ≡ Some_of v (whole - 1)
stored_word p b i v w = rw (eq-eqb b b refl, eq-eqb (suc i) (suc i) refl) (valued_whole (p b (suc i)) v w)

-- a cell after a write
pub cell_same : (h : Heap) (b : ℕ) (c : Cell) → put_cell h b c b ≡ c
cell_same h b c = cond-true (eqb b b) c (h.cells b) (eq-eqb b b refl)

pub cell_other : (h : Heap) (b x : ℕ) (c : Cell) → eqb x b ≡ false → put_cell h b c x ≡ h.cells x
cell_other h b x c e = cond-false (eqb x b) c (h.cells x) e

-- a heap with one cell changed
pub heap_with : (h : Heap) (b : ℕ) (c : Cell) → IsHeap h → ((ws : List ℕ) → c ≡ Live ws → (length ws < h.cap) × (b ≤ h.cap)) → IsHeap (with_cell h b c)
heap_with h b c ok f = record {
  word = ok.word;
  short = λ x ws e.
      ⊎_elim
      (λ k. (f ws (sym (cond-true (eqb x b) c (h.cells x) k.0) ∙ e)).0)
      (λ k. ok.short x ws (sym (cond-false (eqb x b) c (h.cells x) k.0) ∙ e))
      (eqb_tells x b);
  named = λ x ws e.
      ⊎_elim
      (λ k. subst (λ z. z ≤ h.cap) (sym k.1) (f ws (sym (cond-true (eqb x b) c (h.cells x) k.0) ∙ e)).1)
      (λ k. ok.named x ws (sym (cond-false (eqb x b) c (h.cells x) k.0) ∙ e))
      (eqb_tells x b);
}

module _ (p q : Piece) (h : Heap) (b : ℕ) where
  -- a store
  module _ (i v : ℕ) (s : Stack) (x : ℕ) (ws : List ℕ) where
    write_same : IsWhole (p b (suc i)) → i < length ws → Fits (add (p b (suc i)) (q b (suc i))) (slice_get ws i) → Fits (add (held_after p (Write b i v s) x b (suc i)) (q b (suc i))) (slice_get (slice_set ws i v) i)
    write_same w lt f =
        let bit : held_after p (Write b i v s) x b (suc i) ≡ Some_of v (whole - 1) = stored_word p b i v w in
        rw (bit, whole_alone (p b (suc i)) (q b (suc i)) (slice_get ws i) w f) (get-set_same ws i v lt, lit< tt)

    write_other : (c j : ℕ) → (eqb c b && eqb j (suc i)) ≡ false → held_after p (Write b i v s) x c j ≡ p c j
    write_other c j e = cond-false (eqb c b && eqb j (suc i)) _ _ e

    write_place : (j : ℕ) → IsWhole (p b (suc i)) → i < length ws → ((j : ℕ) → Fits (add (p b j) (q b j)) (at_place (Live ws) j)) → Fits (add (held_after p (Write b i v s) x b j) (q b j)) (at_place (Live (slice_set ws i v)) j)
    write_place zero w lt f =
        let ne : 0 ≢ suc i = omega arith in
        rw (write_other b 0 (and_right (eqb b b) (eqb 0 (suc i)) (ne_eqb 0 (suc i) ne)), length-set ws i v) (f 0)
    write_place (suc m) w lt f =
        ⊎_elim
        (λ e. subst (λ n. Fits (add (held_after p (Write b i v s) x b (suc n)) (q b (suc n))) (slice_get (slice_set ws i v) n)) (sym e.1) (write_same w lt (f (suc i))))
        (λ e. let ne : suc m ≢ suc i = omega (arith, e.1) in
        rw (write_other b (suc m) (and_right (eqb b b) (eqb (suc m) (suc i)) (ne_eqb (suc m) (suc i) ne)), get-set_other ws i m v e.1) (f (suc m)))
        (eqb_tells m i)

    write_places : h.cells b ≡ Live ws → IsWhole (p b (suc i)) → i < length ws → Holds (plus p q) h → (c j : ℕ) → Fits (add (held_after p (Write b i v s) x c j) (q c j)) (at_place (put_cell h b (Live (slice_set ws i v)) c) j)
    write_places e w lt hs c j =
        ⊎_elim
        (λ k. subst (λ y. Fits (add (held_after p (Write b i v s) x y j) (q y j)) (at_place (put_cell h b (Live (slice_set ws i v)) y) j)) (sym k.1)
        (rw (cell_same h b (Live (slice_set ws i v))) (write_place j w lt (λ n. subst (λ y. Fits (add (p b n) (q b n)) (at_place y n)) e (hs.places b n)))))
        (λ k. rw (write_other c j (and_left (eqb c b) (eqb j (suc i)) k.0), cell_other h b c (Live (slice_set ws i v)) k.0) (hs.places c j))
        (eqb_tells c b)

    pub write_keeps : h.cells b ≡ Live ws → IsWhole (p b (suc i)) → i < length ws → Holds (plus p q) h → Holds (plus (held_after p (Write b i v s) x) q) (with_cell h b (Live (slice_set ws i v)))
    write_keeps e w lt hs = record {
      places = write_places e w lt hs;
      heap = heap_with h b (Live (slice_set ws i v)) hs.heap (λ us d. let k : slice_set ws i v ≡ us = cc d in (omega (arith, hs.heap.short b ws e, length-set ws i v, ap length k), hs.heap.named b ws e));
    }

  -- a block that is freed
  module _ (s : Stack) (x : ℕ) (ws : List ℕ) where
    cut_word : (n k i : ℕ) → AllWhole (Some_of n k) (p b) → n ≡ length ws → Fits (add (p b (suc i)) (q b (suc i))) (slice_get ws i) → q b (suc i) ≡ Nil
    cut_word n k i w e f =
        ⊎_elim
        (λ lt. whole_alone (p b (suc i)) (q b (suc i)) (slice_get ws i) (w.1 i (omega (arith, e, lt))) f)
        (λ le. none_here (q b (suc i)) (fits_right (p b (suc i)) (q b (suc i)) None (subst (Fits (add (p b (suc i)) (q b (suc i)))) (get_past ws i le) f)))
        (let o : (i < length ws) ⊎ (length ws ≤ i) = grind arith in o)

    pub cut_place : (a : Share) (j : ℕ) → p b 0 ≡ a → AllWhole a (p b) → ((j : ℕ) → Fits (add (p b j) (q b j)) (at_place (Live ws) j)) → q b j ≡ Nil
    cut_place Nil j e w f = absurd w
    cut_place Clash j e w f = absurd w
    cut_place (Some_of n k) zero e w f = whole_alone (p b 0) (q b 0) _ (subst IsWhole (sym e) w.0) (f 0)
    cut_place (Some_of n k) (suc i) e w f =
        let name : Fits (Some_of n k) (Some (length ws)) = subst (λ y. Fits y (Some (length ws))) e (fits_left (p b 0) (q b 0) (Some (length ws)) (f 0)) in
        cut_word n k i w (sym (some_same (length ws) n name.0)) (f (suc i))

    cut_places : h.cells b ≡ Live ws → AllWhole (p b 0) (p b) → Holds (plus p q) h → (c j : ℕ) → Fits (add (held_after p (Cut b s) x c j) (q c j)) (at_place (put_cell h b Freed c) j)
    cut_places e w hs c j =
        ⊎_elim
        (λ k. subst (λ y. Fits (add (held_after p (Cut b s) x y j) (q y j)) (at_place (put_cell h b Freed y) j)) (sym k.1)
        (let bit : held_after p (Cut b s) x b j ≡ Nil = cond-true (eqb b b) Nil (p b j) (eq-eqb b b refl) in
        rw (bit, cut_place (p b 0) j refl w (λ n. subst (λ y. Fits (add (p b n) (q b n)) (at_place y n)) e (hs.places b n))) tt))
        (λ k. let bit : held_after p (Cut b s) x c j ≡ p c j = cond-false (eqb c b) Nil (p c j) k.0 in
        rw (bit, cell_other h b c Freed k.0) (hs.places c j))
        (eqb_tells c b)

    pub cut_keeps : h.cells b ≡ Live ws → AllWhole (p b 0) (p b) → Holds (plus p q) h → Holds (plus (held_after p (Cut b s) x) q) (with_cell h b Freed)
    cut_keeps e w hs = record { places = cut_places e w hs; heap = heap_with h b Freed hs.heap (λ us d. absurd (let f : ⊥ = cc d in f)) }

-- a block that is made
block_fits : (n j : ℕ) → Fits (block_of n j) (at_place (Live (replicate n 0)) j)
block_fits n zero = (ap Some (length-replicate n 0), lit< tt)
block_fits n (suc i) =
    cond_both (nat_lt i n) (Some_of 0 (whole - 1)) Nil (λ y. Fits y (slice_get (replicate n 0) i))
    (λ e. (get-replicate n i 0 (ltb-true i n e), lit< tt)) (λ e. tt)

pub never_is : (c : Cell) → is_never c ≡ true → c ≡ Never
never_is Never e = refl
never_is (Live ws) e = absurd (let f : ⊥ = cc e in f)
never_is Freed e = absurd (let f : ⊥ = cc e in f)

pub new_below : (h : Heap) (x : ℕ) → is_new h x ≡ true → x ≤ h.cap
new_below h x e = leb-true x h.cap (and_parts (nat_lt 0 x) (nat_le x h.cap) (and_parts (nat_lt 0 x && nat_le x h.cap) (is_never (h.cells x)) e).0).1

pub new_is : (h : Heap) (x : ℕ) → is_new h x ≡ true → h.cells x ≡ Never
new_is h x e = never_is (h.cells x) (and_parts (nat_lt 0 x && nat_le x h.cap) (is_never (h.cells x)) e).1

make_places : (p q : Piece) (h : Heap) (n x : ℕ) (k : ℕ → Stack) → h.cells x ≡ Never → Holds (plus p q) h → (c j : ℕ) → Fits (add (held_after p (Make n k) x c j) (q c j)) (at_place (put_cell h x (Live (replicate n 0)) c) j)
make_places p q h n x k e hs c j =
    ⊎_elim
    (λ w. subst (λ y. Fits (add (held_after p (Make n k) x y j) (q y j)) (at_place (put_cell h x (Live (replicate n 0)) y) j)) (sym w.1)
    (let bit : held_after p (Make n k) x x j ≡ block_of n j = cond-true (eqb x x) (block_of n j) (p x j) (eq-eqb x x refl) in
    let free : q x j ≡ Nil = none_here (q x j) (fits_right (p x j) (q x j) None (subst (λ y. Fits (add (p x j) (q x j)) (at_place y j)) e (hs.places x j))) in
    rw (bit, free, add-nil (block_of n j), cell_same h x (Live (replicate n 0))) (block_fits n j)))
    (λ w. let bit : held_after p (Make n k) x c j ≡ p c j = cond-false (eqb c x) (block_of n j) (p c j) w.0 in
    rw (bit, cell_other h x c (Live (replicate n 0)) w.0) (hs.places c j))
    (eqb_tells c x)

pub make_keeps : (p q : Piece) (h : Heap) (n x : ℕ) (k : ℕ → Stack) → h.cells x ≡ Never → n < h.cap → x ≤ h.cap → Holds (plus p q) h → Holds (plus (held_after p (Make n k) x) q) (with_block h x n)
make_keeps p q h n x k e room name hs = record {
  places = make_places p q h n x k e hs;
  heap = record {
    word = hs.heap.word;
    short = made.short;
    named = made.named;
  };
}
  where
    made : IsHeap (with_cell h x (Live (replicate n 0)))
    made = heap_with h x (Live (replicate n 0)) hs.heap (λ us d. let l : replicate n 0 ≡ us = cc d in (omega (arith, room, length-replicate {A = ℕ} n 0, ap length l), name))

-- an `alloc` that fits makes a block that is shorter than the capacity
pub room_sized : IsSized has_room
room_sized h n e = omega (arith, leb-true (h.claimed + n + 1) h.cap e)

-- and one that is not tested may be of any length
pub any_unsized : IsSized any_room → ⊥
any_unsized sized = omega (arith, sized (no_blocks 0) 0 refl)

-- one step of a leaf
abbrev pub Kept : Piece → Tree Piece → Heap → Type 0
Kept q t h = Holds (plus (total t) q) h

module _ (room : Room) (sized : IsSized room) (p q : Piece) (h : Heap) (x : ℕ) (hs : Holds (plus p q) h) where
  read_step : (c : Cell) (i : ℕ) (k : ℕ → Stack) → OnMoved (read_cell holdings c i p k h) (Kept q)
  read_step Never i k = tt
  read_step Freed i k = tt
  read_step (Live ws) i k = moved_if (nat_lt i (length ws)) (Moved (Leaf p (k (slice_index ws i))) h) (Stuck Index) (Kept q) (λ e. hs) (λ e. tt)

  write_step : (c : Cell) (b i v : ℕ) (s : Stack) → h.cells b ≡ c → IsWhole (p b (suc i)) → OnMoved (write_cell holdings c b i v (held_after p (Write b i v s) x) s h) (Kept q)
  write_step Never b i v s e w = tt
  write_step Freed b i v s e w = tt
  write_step (Live ws) b i v s e w =
      moved_if (nat_lt i (length ws)) (Moved (Leaf (held_after p (Write b i v s) x) s) (with_cell h b (Live (slice_set ws i v)))) (Stuck Index) (Kept q)
      (λ lt. write_keeps p q h b i v s x ws e w (ltb-true i (length ws) lt) hs) (λ e. tt)

  cut_step : (c : Cell) (b : ℕ) (s : Stack) → h.cells b ≡ c → AllWhole (p b 0) (p b) → OnMoved (cut_cell holdings c b (held_after p (Cut b s) x) s h) (Kept q)
  cut_step Never b s e w = tt
  cut_step Freed b s e w = tt
  cut_step (Live ws) b s e w = cut_keeps p q h b s x ws e w hs

  pub leaf_keeps : (f : ℕ) (a : Act) → Fine f a p → OnMoved (perform holdings room p a h x) (Kept q)
  leaf_keeps f (Go s) w = hs
  leaf_keeps f (Read b i k) w = read_step (h.cells b) i k
  leaf_keeps f (Write b i v s) w = write_step (h.cells b) b i v s refl w
  leaf_keeps f (Make n k) w =
      moved_if (room h n) _ Full (Kept q)
      (λ e. moved_if (is_new h x) (Moved (Leaf (held_after p (Make n k) x) (k x)) (with_block h x n)) NameUsed (Kept q)
      (λ d. make_keeps p q h n x k (new_is h x d) (sized h n e) (new_below h x d) hs) (λ d. tt))
      (λ e. tt)
  leaf_keeps f (Cut b s) w = cut_step (h.cells b) b s refl w
  leaf_keeps f (Split l r w') w =
      subst (λ y. Holds (plus y q) h) (sym (fork_sum p (left_takes l) (right_takes l r))) hs
  leaf_keeps f Over w = tt
  leaf_keeps f (Bad r) w = tt

  join_ends_keeps : (k : Piece) (w : Wait) (a b : Piece) (s t : Stack) → p ≡ plus k (plus a b) → OnMoved (join_ends holdings k w a b s t h) (Kept q)
  join_ends_keeps k w a b (End xs) (End ys) e = subst (λ y. Holds (plus y q) h) e hs
  join_ends_keeps k w a b (End xs) (Run f cs) e = tt
  join_ends_keeps k w a b (Run f cs) t e = tt

  join_keeps : (k : Piece) (w : Wait) (l r : Tree Piece) → p ≡ plus k (plus (total l) (total r)) → OnMoved (join_both holdings k w l r h) (Kept q)
  join_keeps k w (Leaf a s) (Leaf b t) e = join_ends_keeps k w a b s t e
  join_keeps k w (Leaf a s) (Fork b v x y) e = tt
  join_keeps k w (Fork a v x y) r e = tt

-- from a part of a fork to the whole of it, and back
pub left_out : (k l r q : Piece) → plus (plus k (plus l r)) q ≡ plus l (plus (plus k r) q)
left_out k l r q =
    ap (λ y. plus y q) (sym (plus-assoc k l r) ∙ ap (λ y. plus y r) (plus-comm k l) ∙ plus-assoc l k r) ∙ plus-assoc l (plus k r) q

pub right_out : (k l r q : Piece) → plus (plus k (plus l r)) q ≡ plus r (plus (plus k l) q)
right_out k l r q = ap (λ y. plus (plus k y) q) (plus-comm l r) ∙ left_out k r l q

-- a step of a tree whose leaves are fine
module _ (room : Room) (sized : IsSized room) where
  pub keeps : (T : List Proc) (f : ℕ) (t : Tree Piece) (q : Piece) (h : Heap) (path : List Side) (x : ℕ) → AllFine T f t → Holds (plus (total t) q) h → OnMoved (move holdings room T t h path x) (Kept q)
  keeps T f (Leaf p s) q h [] x fine hs = leaf_keeps room sized p q h x hs f (act T s) fine
  keeps T f (Leaf p s) q h (d ∷ ds) x fine hs = tt
  keeps T f (Fork k w l r) q h [] x fine hs = join_keeps room sized (plus k (plus (total l) (total r))) q h x hs k w l r refl
  keeps T f (Fork k w l r) q h (Left ∷ ds) x fine hs =
      moved_inside holdings (move holdings room T l h ds x) (λ u. Fork k w u r) (Kept q)
      (moved_map (move holdings room T l h ds x) (Kept (plus (plus k (total r)) q)) _
      (λ u g m. subst (λ y. Holds y g) (sym (left_out k (total u) (total r) q)) m)
      (keeps T (suc f) l (plus (plus k (total r)) q) h ds x fine.0 (subst (λ y. Holds y h) (left_out k (total l) (total r) q) hs)))
  keeps T f (Fork k w l r) q h (Right ∷ ds) x fine hs =
      moved_inside holdings (move holdings room T r h ds x) (λ u. Fork k w l u) (Kept q)
      (moved_map (move holdings room T r h ds x) (Kept (plus (plus k (total l)) q)) _
      (λ u g m. subst (λ y. Holds y g) (sym (right_out k (total l) (total u) q)) m)
      (keeps T (suc f) r (plus (plus k (total l)) q) h ds x fine.1 (subst (λ y. Holds y h) (right_out k (total l) (total r) q) hs)))
