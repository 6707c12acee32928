-- Whatever is live is held whole.
use Rattle.std.proofs.Common.{◌≡◌, ◌≢◌, ℕ, zero, suc, ◌-◌, ◌<◌, true, false, cond, ◌&&◌, List, [], ◌∷◌, length, replicate, refl, sym, ap, ◌∙◌, subst, arith, eqb, eqb-true, eq-eqb, lt-ltb, ⊎_elim}
use Rattle.std.proofs.Math.Path.{fun_ext}
use Rattle.std.proofs.lemmas.Bool.{cond_both, cond-true, cond-false, and_parts}
use Rattle.std.proofs.lemmas.Bool.Decides.{eqb_tells}
use Rattle.std.proofs.lemmas.List.{length-replicate}
use Rattle.std.proofs.lemmas.Option.{slice_get_within}
use Rattle.std.specs.Prelude.{Some, None, slice_set, slice_index, nat_lt}
use Rattle.target_code.specs.declared.tree.Proc.{Proc}
use Rattle.target_meaning.specs.declared.path.Side.{Side}
use Rattle.target_meaning.specs.declared.path.Side.TheVariants.{Left, Right}
use Rattle.target_meaning.specs.declared.answer.Reason.TheVariants.{Index}
use Rattle.target_meaning.specs.Leaf.{Stack, Run, End, Wait, Act, Go, Read, Write, Make, Cut, Split, Over, Bad, act}
use Rattle.target_meaning.specs.Machine.{Heap, Cell, Never, Live, Freed, Tree, Leaf, Fork, Moved, Stuck, Full, NameUsed, Room, put_cell, with_cell, is_new, with_block, read_cell, write_cell, cut_cell, perform, join_ends, join_both, move}
use Rattle.target_meaning.specs.Piece.{whole, Share, Nil, Some_of, add, Piece, plus, at_place, Fits, Holds, IsWhole, Covers}
use Rattle.target_meaning.specs.Held.{left_takes, right_takes, block_of, valued, stored, with_new, without, held_after, holdings, total, AllWhole, Fine, AllFine}
use Rattle.target_meaning.specs.Runs.{OnMoved}
use Rattle.target_meaning.proofs.Shares.{add-nil, fits_right}
use Rattle.target_meaning.proofs.Lists.{get-set_other}
use Rattle.target_meaning.proofs.Moved.{moved_map, moved_inside, moved_if}
use Rattle.target_meaning.proofs.Keeps.{fork_sum, whole_alone, none_here, new_is, cell_same, cell_other, valued_still, left_out, right_out}
use Rattle.target_meaning.proofs.Races.{cut_alone}

pub write_framed : (p q : Piece) (h : Heap) (b i v x : ℕ) (s : Stack) → Holds (plus p q) h → IsWhole (p b (suc i)) → held_after (plus p q) (Write b i v s) x ≡ plus (held_after p (Write b i v s) x) q
write_framed p q h b i v x s hs w = fun_ext (λ c. fun_ext (λ j. at c j))
  where
    alone : q b (suc i) ≡ Nil
    alone = whole_alone (p b (suc i)) (q b (suc i)) _ w (hs.places b (suc i))

    at : (c j : ℕ) → held_after (plus p q) (Write b i v s) x c j ≡ add (held_after p (Write b i v s) x c j) (q c j)
    at c j =
        cond_both (eqb c b && eqb j (suc i)) (valued (p c j) v) (p c j)
        (λ y. cond (eqb c b && eqb j (suc i)) (valued (add (p c j) (q c j)) v) (add (p c j) (q c j)) ≡ add y (q c j))
        (λ e. let both = and_parts (eqb c b) (eqb j (suc i)) e in
        let bit : q c j ≡ Nil = rw (eqb-true c b both.0, eqb-true j (suc i) both.1) alone in
        cond-true (eqb c b && eqb j (suc i)) _ _ e ∙ ap (λ y. valued (add (p c j) y) v) bit ∙ ap (λ y. valued y v) (add-nil (p c j)) ∙ sym (ap (add (valued (p c j) v)) bit ∙ add-nil (valued (p c j) v)))
        (λ e. cond-false (eqb c b && eqb j (suc i)) _ _ e)

pub make_framed : (p q : Piece) (h : Heap) (n x : ℕ) (k : ℕ → Stack) → Holds (plus p q) h → h.cells x ≡ Never → held_after (plus p q) (Make n k) x ≡ plus (held_after p (Make n k) x) q
make_framed p q h n x k hs e = fun_ext (λ c. fun_ext (λ j. at c j))
  where
    alone : (j : ℕ) → q x j ≡ Nil
    alone j = none_here (q x j) (fits_right (p x j) (q x j) None (subst (λ y. Fits (add (p x j) (q x j)) (at_place y j)) e (hs.places x j)))

    at : (c j : ℕ) → held_after (plus p q) (Make n k) x c j ≡ add (held_after p (Make n k) x c j) (q c j)
    at c j =
        cond_both (eqb c x) (block_of n j) (p c j)
        (λ y. cond (eqb c x) (block_of n j) (add (p c j) (q c j)) ≡ add y (q c j))
        (λ d. let bit : q c j ≡ Nil = rw (eqb-true c x d) (alone j) in cond-true (eqb c x) _ _ d ∙ sym (ap (add (block_of n j)) bit ∙ add-nil (block_of n j)))
        (λ d. cond-false (eqb c x) _ _ d)

pub cut_framed : (p q : Piece) (h : Heap) (b x : ℕ) (s : Stack) (ws : List ℕ) → Holds (plus p q) h → h.cells b ≡ Live ws → AllWhole (p b 0) (p b) → held_after (plus p q) (Cut b s) x ≡ plus (held_after p (Cut b s) x) q
cut_framed p q h b x s ws hs e w = fun_ext (λ c. fun_ext (λ j. at c j))
  where
    at : (c j : ℕ) → held_after (plus p q) (Cut b s) x c j ≡ add (held_after p (Cut b s) x c j) (q c j)
    at c j =
        cond_both (eqb c b) Nil (p c j)
        (λ y. cond (eqb c b) Nil (add (p c j) (q c j)) ≡ add y (q c j))
        (λ d. let bit : q c j ≡ Nil = rw (eqb-true c b d) (cut_alone p q h b j (Live ws) e tt w hs) in cond-true (eqb c b) _ _ d ∙ sym bit)
        (λ d. cond-false (eqb c b) _ _ d)

-- what stands elsewhere after a store
place_same : (h : Heap) (b i v c j : ℕ) (ws : List ℕ) (u : ℕ) → h.cells b ≡ Live ws → (eqb c b && eqb j (suc i)) ≡ false → at_place (put_cell h b (Live (slice_set ws i v)) c) j ≡ Some u → (z : ℕ) × (at_place (h.cells c) j ≡ Some z)
place_same h b i v c j ws u e d at =
    ⊎_elim
    (λ k. same_block k.1 (subst (λ y. at_place y j ≡ Some u) (ap (put_cell h b (Live (slice_set ws i v))) k.1 ∙ cell_same h b (Live (slice_set ws i v))) at))
    (λ k. (u, subst (λ y. at_place y j ≡ Some u) (cell_other h b c (Live (slice_set ws i v)) k.0) at))
    (eqb_tells c b)
  where
    here : (m : ℕ) → (c ≡ b) → (j ≡ m) → at_place (Live (slice_set ws i v)) m ≡ Some u → (z : ℕ) × (at_place (Live ws) m ≡ Some z)
    here zero k l a = (length ws, refl)
    here (suc m) k l a =
        let ne : m ≢ i = λ s. let t : true ≡ false = sym (rw (eq-eqb c b k, l, s, eq-eqb (suc i) (suc i) refl) refl) ∙ d in let z : ⊥ = cc t in z in
        (u, sym (get-set_other ws i m v ne) ∙ a)

    same_block : c ≡ b → at_place (Live (slice_set ws i v)) j ≡ Some u → (z : ℕ) × (at_place (h.cells c) j ≡ Some z)
    same_block k a = subst (λ y. (z : ℕ) × (at_place y j ≡ Some z)) (sym (ap h.cells k ∙ e)) (here j k refl a)

module _ (r : Piece) (h : Heap) (cv : Covers r h) where
  write_covers : (b i v : ℕ) (ws : List ℕ) → IsWhole (r b (suc i)) → h.cells b ≡ Live ws → Covers (stored r b i v) (with_cell h b (Live (slice_set ws i v)))
  write_covers b i v ws w e c j u at =
      cond_both {A = Share} (eqb c b && eqb j (suc i)) (valued (r c j) v) (r c j) IsWhole
      (λ d. let both = and_parts (eqb c b) (eqb j (suc i)) d in rw (eqb-true c b both.0, eqb-true j (suc i) both.1) (valued_still (r b (suc i)) v w))
      (λ d. let z = place_same h b i v c j ws u e d at in cv c j z.0 z.1)

  block_whole : (n j u : ℕ) → at_place (Live (replicate n 0)) j ≡ Some u → IsWhole (block_of n j)
  block_whole n zero u at = refl
  block_whole n (suc i) u at =
      let lt : i < n = omega (arith, slice_get_within (replicate n 0) i u at, length-replicate {A = ℕ} n 0) in
      subst IsWhole (sym (cond-true {A = Share} (nat_lt i n) (Some_of 0 (whole - 1)) Nil (lt-ltb i n lt))) refl

  make_covers : (x n : ℕ) → Covers (with_new r x n) (with_block h x n)
  make_covers x n c j u at =
      cond_both {A = Share} (eqb c x) (block_of n j) (r c j) IsWhole
      (λ d. block_whole n j u (subst (λ y. at_place y j ≡ Some u) (cond-true (eqb c x) (Live (replicate n 0)) (h.cells c) d) at))
      (λ d. cv c j u (subst (λ y. at_place y j ≡ Some u) (cell_other h x c (Live (replicate n 0)) d) at))

  cut_covers : (b : ℕ) → Covers (without r b) (with_cell h b Freed)
  cut_covers b c j u at =
      cond_both {A = Share} (eqb c b) Nil (r c j) IsWhole
      (λ d. let e : None ≡ Some u = subst (λ y. at_place y j ≡ Some u) (cond-true (eqb c b) Freed (h.cells c) d) at in cc e)
      (λ d. cv c j u (subst (λ y. at_place y j ≡ Some u) (cell_other h b c Freed d) at))

abbrev pub Covered : Piece → Tree Piece → Heap → Type 0
Covered q t h = Covers (plus (total t) q) h

module _ (room : Room) (p q : Piece) (h : Heap) (x : ℕ) (hs : Holds (plus p q) h) (cv : Covers (plus p q) h) where
  read_covers : (c : Cell) (i : ℕ) (k : ℕ → Stack) → OnMoved (read_cell holdings c i p k h) (Covered q)
  read_covers Never i k = tt
  read_covers Freed i k = tt
  read_covers (Live ws) i k = moved_if (nat_lt i (length ws)) (Moved (Leaf p (k (slice_index ws i))) h) (Stuck Index) (Covered q) (λ e. cv) (λ e. tt)

  store_covers : (c : Cell) (b i v : ℕ) (s : Stack) → h.cells b ≡ c → IsWhole (p b (suc i)) → OnMoved (write_cell holdings c b i v (stored p b i v) s h) (Covered q)
  store_covers Never b i v s e w = tt
  store_covers Freed b i v s e w = tt
  store_covers (Live ws) b i v s e w =
      moved_if (nat_lt i (length ws)) (Moved (Leaf (stored p b i v) s) (with_cell h b (Live (slice_set ws i v)))) (Stuck Index) (Covered q)
      (λ lt. subst (λ y. Covers y (with_cell h b (Live (slice_set ws i v)))) (write_framed p q h b i v x s hs w) (write_covers (plus p q) h cv b i v ws all e)) (λ e. tt)
    where
      all : IsWhole (add (p b (suc i)) (q b (suc i)))
      all = subst IsWhole (sym (ap (add (p b (suc i))) (whole_alone (p b (suc i)) (q b (suc i)) _ w (hs.places b (suc i))) ∙ add-nil (p b (suc i)))) w

  free_covers : (c : Cell) (b : ℕ) (s : Stack) → h.cells b ≡ c → AllWhole (p b 0) (p b) → OnMoved (cut_cell holdings c b (without p b) s h) (Covered q)
  free_covers Never b s e w = tt
  free_covers Freed b s e w = tt
  free_covers (Live ws) b s e w = subst (λ y. Covers y (with_cell h b Freed)) (cut_framed p q h b x s ws hs e w) (cut_covers (plus p q) h cv b)

  leaf_covers : (f : ℕ) (a : Act) → Fine f a p → OnMoved (perform holdings room p a h x) (Covered q)
  leaf_covers f (Go s) w = cv
  leaf_covers f (Read b i k) w = read_covers (h.cells b) i k
  leaf_covers f (Write b i v s) w = store_covers (h.cells b) b i v s refl w
  leaf_covers f (Make n k) w =
      moved_if (room h n) _ Full (Covered q)
      (λ e. moved_if (is_new h x) (Moved (Leaf (with_new p x n) (k x)) (with_block h x n)) NameUsed (Covered q)
      (λ d. subst (λ y. Covers y (with_block h x n)) (make_framed p q h n x k hs (new_is h x d)) (make_covers (plus p q) h cv x n)) (λ d. tt))
      (λ e. tt)
  leaf_covers f (Cut b s) w = free_covers (h.cells b) b s refl w
  leaf_covers f (Split l r v) w = subst (λ y. Covers (plus y q) h) (sym (fork_sum p (left_takes l) (right_takes l r))) cv
  leaf_covers f Over w = tt
  leaf_covers f (Bad r) w = tt

  ends_cover : (k : Piece) (w : Wait) (a b : Piece) (s t : Stack) → p ≡ plus k (plus a b) → OnMoved (join_ends holdings k w a b s t h) (Covered q)
  ends_cover k w a b (End xs) (End ys) e = subst (λ y. Covers (plus y q) h) e cv
  ends_cover k w a b (End xs) (Run f cs) e = tt
  ends_cover k w a b (Run f cs) t e = tt

  join_covers : (k : Piece) (w : Wait) (l r : Tree Piece) → p ≡ plus k (plus (total l) (total r)) → OnMoved (join_both holdings k w l r h) (Covered q)
  join_covers k w (Leaf a s) (Leaf b t) e = ends_cover k w a b s t e
  join_covers k w (Leaf a s) (Fork b v y z) e = tt
  join_covers k w (Fork a v y z) r e = tt

pub covers_kept : (room : Room) (T : List Proc) (f : ℕ) (t : Tree Piece) (q : Piece) (h : Heap) (path : List Side) (x : ℕ) → AllFine T f t → Holds (plus (total t) q) h → Covers (plus (total t) q) h → OnMoved (move holdings room T t h path x) (Covered q)
covers_kept room T f (Leaf p s) q h [] x fine hs cv = leaf_covers room p q h x hs cv f (act T s) fine
covers_kept room T f (Leaf p s) q h (d ∷ ds) x fine hs cv = tt
covers_kept room T f (Fork k w l r) q h [] x fine hs cv = join_covers room (plus k (plus (total l) (total r))) q h x hs cv k w l r refl
covers_kept room T f (Fork k w l r) q h (Left ∷ ds) x fine hs cv =
    moved_inside holdings (move holdings room T l h ds x) (λ u. Fork k w u r) (Covered q)
    (moved_map (move holdings room T l h ds x) (Covered (plus (plus k (total r)) q)) _
    (λ u g m. subst (λ y. Covers y g) (sym (left_out k (total u) (total r) q)) m)
    (covers_kept room T (suc f) l (plus (plus k (total r)) q) h ds x fine.0 (subst (λ y. Holds y h) (left_out k (total l) (total r) q) hs) (subst (λ y. Covers y h) (left_out k (total l) (total r) q) cv)))
covers_kept room T f (Fork k w l r) q h (Right ∷ ds) x fine hs cv =
    moved_inside holdings (move holdings room T r h ds x) (λ u. Fork k w l u) (Covered q)
    (moved_map (move holdings room T r h ds x) (Covered (plus (plus k (total l)) q)) _
    (λ u g m. subst (λ y. Covers y g) (sym (right_out k (total l) (total u) q)) m)
    (covers_kept room T (suc f) r (plus (plus k (total l)) q) h ds x fine.1 (subst (λ y. Holds y h) (right_out k (total l) (total r) q) hs) (subst (λ y. Covers y h) (right_out k (total l) (total r) q) cv)))

-- a block of which nothing is held is not live
pub not_live : (p : Piece) (h : Heap) (b : ℕ) (ws : List ℕ) → Covers p h → p b 0 ≡ Nil → h.cells b ≡ Live ws → ⊥
not_live p h b ws cv e l = subst IsWhole e (cv b 0 (length ws) (ap (λ y. at_place y 0) l))
