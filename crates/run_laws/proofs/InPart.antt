-- What is held in part stays as it is.
use Rattle.std.proofs.Common.{◌≡◌, ℕ, zero, suc, ◌+◌, ◌-◌, ◌<◌, ◌≤◌, ◌⊎◌, inl, inr, ◌&&◌, List, [], ◌∷◌, length, refl, sym, ap, ◌∙◌, subst, arith, eqb, eqb-true, ⊎_elim}
use Rattle.std.proofs.lemmas.Bool.{cond_both, and_parts}
use Rattle.std.proofs.Math.Path.{fun_ext}
use Rattle.std.specs.Prelude.{Option, Some, slice_set, slice_index, nat_lt}
use Rattle.target_code.specs.declared.tree.Proc.{Proc}
use Rattle.target_meaning.specs.declared.path.Side.{Side}
use Rattle.target_meaning.specs.declared.path.Side.TheVariants.{Left, Right}
use Rattle.target_meaning.specs.declared.answer.Reason.TheVariants.{Index}
use Rattle.target_meaning.specs.Leaf.{Stack, Run, End, Wait, Act, Go, Read, Write, Make, Cut, Split, Over, Bad, act}
use Rattle.target_meaning.specs.Machine.{Heap, Cell, Never, Live, Freed, Tree, Leaf, Fork, Answer, Moved, Stuck, Full, NoSuchLeaf, NameUsed, Room, with_cell, is_new, with_block, read_cell, write_cell, cut_cell, perform, join_ends, join_both, move, depth}
use Rattle.target_meaning.specs.Piece.{whole, Share, Nil, Some_of, Clash, add, Piece, none, plus, at_place, Fits, Holds, share_of, IsWhole, AreDisjoint}
use Rattle.target_meaning.specs.Held.{left_takes, right_takes, stored, with_new, without, holdings, total, AllWhole, Fine, AllFine}
use Rattle.target_meaning.specs.Runs.{OnMoved}
use Rattle.target_meaning.proofs.Shares.{add-nil, add_same, plus-comm, plus-assoc, plus-none, holds_left}
use Rattle.target_meaning.proofs.Lists.{get_past}
use Rattle.target_meaning.proofs.Moved.{moved_map, moved_inside, moved_if, moved_all, moved_both}
use Rattle.target_meaning.proofs.Keeps.{fork_sum, whole_alone, none_here, new_is, some_same, left_out, right_out}
use Rattle.target_meaning.proofs.Races.{cut_alone}
use Rattle.triple_logic.specs.Safe.{Halt, Steps, Safe}
use Rattle.triple_logic.specs.Bounded.{Bounded}
use Rattle.triple_logic.specs.Laws.{End_fact, Beside}
use Rattle.triple_logic.proofs.Par.{root_map, weaker}
use Rattle.triple_logic.proofs.Frame.{frame_safe}
use Rattle.triple_logic.proofs.Bounded.{framed_bounded}
use Rattle.triple_logic.proofs.BoundedRules.{weaker_bounded}
use Rattle.run_laws.specs.InPart.{IsPart, IsInPart, whole_share, whole_of, GivesBack}

-- ---- one place of which less than the whole share is held

-- it is not held whole by any part of what holds it
whole_or_part : (x : Share) → IsWhole x → IsPart x → ⊥
whole_or_part Nil w i = w
whole_or_part (Some_of v k) w i = omega (arith, w, i)
whole_or_part Clash w i = w

not_whole : (x y : Share) (o : Option ℕ) → IsWhole x → Fits (add x y) o → IsPart (add x y) → ⊥
not_whole x y o w f i = whole_or_part x w (subst IsPart (ap (add x) (whole_alone x y o w f) ∙ add-nil x) i)

not_nil : (x : Share) → x ≡ Nil → IsPart x → ⊥
not_nil x e i = subst IsPart e i

-- a place of a block that is held whole is so, or nothing is held of it
module _ (p : Piece) (h : Heap) (b : ℕ) (ws : List ℕ) (e : h.cells b ≡ Live ws) (hs : Holds p h) where
  fits_here : (j : ℕ) → Fits (p b j) (at_place (Live ws) j)
  fits_here j = subst (λ y. Fits (p b j) (at_place y j)) e (hs.places b j)

  word_whole : (n k i : ℕ) → p b 0 ≡ Some_of n k → AllWhole (Some_of n k) (p b) → (p b (suc i) ≡ Nil) ⊎ IsWhole (p b (suc i))
  word_whole n k i d w =
      let name : Fits (Some_of n k) (Some (length ws)) = subst (λ y. Fits y (Some (length ws))) d (fits_here 0) in
      let m : length ws ≡ n = some_same (length ws) n name.0 in
      ⊎_elim
      (λ lt. inr (w.1 i lt))
      (λ le. inl (none_here (p b (suc i)) (subst (Fits (p b (suc i))) (get_past ws i (omega (arith, le, m))) (fits_here (suc i)))))
      (let o : (i < n) ⊎ (n ≤ i) = grind arith in o)

  place_whole : (x : Share) (j : ℕ) → p b 0 ≡ x → AllWhole x (p b) → (p b j ≡ Nil) ⊎ IsWhole (p b j)
  place_whole Nil j d w = absurd w
  place_whole Clash j d w = absurd w
  place_whole (Some_of n k) zero d w = inr (subst IsWhole (sym d) w.0)
  place_whole (Some_of n k) (suc i) d w = word_whole n k i d w

-- no step of a leaf changes it
module _ (c j : ℕ) (p q : Piece) (h : Heap) (hs : Holds (plus p q) h) (part : IsPart (plus p q c j)) where
  abbrev Same : Tree Piece → Heap → Type 0
  Same u g = total u c j ≡ p c j

  stored_same : (b i v : ℕ) → IsWhole (p b (suc i)) → stored p b i v c j ≡ p c j
  stored_same b i v w =
      cond_both (eqb c b && eqb j (suc i)) _ (p c j) (λ y. y ≡ p c j)
      (λ e. let at = and_parts (eqb c b) (eqb j (suc i)) e in
      let here : IsWhole (p c j) = rw (eqb-true c b at.0, eqb-true j (suc i) at.1) w in
      absurd (not_whole (p c j) (q c j) _ here (hs.places c j) part))
      (λ e. refl)

  made_same : (n x : ℕ) → h.cells x ≡ Never → with_new p x n c j ≡ p c j
  made_same n x d =
      cond_both (eqb c x) _ (p c j) (λ y. y ≡ p c j)
      (λ e. let here : h.cells c ≡ Never = ap h.cells (eqb-true c x e) ∙ d in
      absurd (not_nil (plus p q c j) (none_here (plus p q c j) (subst (λ y. Fits (plus p q c j) (at_place y j)) here (hs.places c j))) part))
      (λ e. refl)

  freed_same : (b : ℕ) (ws : List ℕ) → h.cells b ≡ Live ws → AllWhole (p b 0) (p b) → without p b c j ≡ p c j
  freed_same b ws d w =
      cond_both (eqb c b) _ (p c j) (λ y. y ≡ p c j)
      (λ e. absurd (at (eqb-true c b e)))
      (λ e. refl)
    where
      alone : q b j ≡ Nil
      alone = cut_alone p q h b j (Live ws) d tt w hs

      at : c ≡ b → ⊥
      at e =
          let here : IsPart (plus p q b j) = subst (λ y. IsPart (plus p q y j)) e part in
          ⊎_elim
          (λ z. not_nil (plus p q b j) (ap (λ y. add y (q b j)) z ∙ alone) here)
          (λ z. not_whole (p b j) (q b j) _ z (hs.places b j) here)
          (place_whole p h b ws d (holds_left p q h hs) (p b 0) j refl w)

  read_same : (e : Cell) (i : ℕ) (k : ℕ → Stack) → OnMoved (read_cell holdings e i p k h) Same
  read_same Never i k = tt
  read_same Freed i k = tt
  read_same (Live ws) i k = moved_if (nat_lt i (length ws)) (Moved (Leaf p (k (slice_index ws i))) h) (Stuck Index) Same (λ e. refl) (λ e. tt)

  write_same : (e : Cell) (b i v : ℕ) (s : Stack) → IsWhole (p b (suc i)) → OnMoved (write_cell holdings e b i v (stored p b i v) s h) Same
  write_same Never b i v s w = tt
  write_same Freed b i v s w = tt
  write_same (Live ws) b i v s w =
      moved_if (nat_lt i (length ws)) (Moved (Leaf (stored p b i v) s) (with_cell h b (Live (slice_set ws i v)))) (Stuck Index) Same (λ e. stored_same b i v w) (λ e. tt)

  cut_same : (e : Cell) (b : ℕ) (s : Stack) → h.cells b ≡ e → AllWhole (p b 0) (p b) → OnMoved (cut_cell holdings e b (without p b) s h) Same
  cut_same Never b s d w = tt
  cut_same Freed b s d w = tt
  cut_same (Live ws) b s d w = freed_same b ws d w

  leaf_same : (room : Room) (x f : ℕ) (a : Act) → Fine f a p → OnMoved (perform holdings room p a h x) Same
  leaf_same room x f (Go s) w = refl
  leaf_same room x f (Read b i k) w = read_same (h.cells b) i k
  leaf_same room x f (Write b i v s) w = write_same (h.cells b) b i v s w
  leaf_same room x f (Make n k) w =
      moved_if (room h n) _ Full Same
      (λ e. moved_if (is_new h x) (Moved (Leaf (with_new p x n) (k x)) (with_block h x n)) NameUsed Same (λ d. made_same n x (new_is h x d)) (λ d. tt))
      (λ e. tt)
  leaf_same room x f (Cut b s) w = cut_same (h.cells b) b s refl w
  leaf_same room x f (Split l r v) w = ap (λ (y : Piece). y c j) (fork_sum p (left_takes l) (right_takes l r))
  leaf_same room x f Over w = tt
  leaf_same room x f (Bad r) w = tt

-- nor does a step of a tree
module _ (c j : ℕ) where
  ends_same : (k p q : Piece) (w : Wait) (s t : Stack) (h : Heap) → OnMoved (join_ends holdings k w p q s t h) (λ u g. total u c j ≡ plus k (plus p q) c j)
  ends_same k p q w (End xs) (End ys) h = refl
  ends_same k p q w (End xs) (Run f cs) h = tt
  ends_same k p q w (Run f cs) t h = tt

  join_same : (k : Piece) (w : Wait) (l r : Tree Piece) (h : Heap) → OnMoved (join_both holdings k w l r h) (λ u g. total u c j ≡ plus k (plus (total l) (total r)) c j)
  join_same k w (Leaf p s) (Leaf q t) h = ends_same k p q w s t h
  join_same k w (Leaf p s) (Fork q v x y) h = tt
  join_same k w (Fork p v x y) r h = tt

  part_same : (room : Room) (T : List Proc) (f : ℕ) (t : Tree Piece) (q : Piece) (h : Heap) (path : List Side) (x : ℕ) → AllFine T f t → Holds (plus (total t) q) h → IsPart (plus (total t) q c j) → OnMoved (move holdings room T t h path x) (λ u g. total u c j ≡ total t c j)
  part_same room T f (Leaf p s) q h [] x fine hs part = leaf_same c j p q h hs part room x f (act T s) fine
  part_same room T f (Leaf p s) q h (d ∷ ds) x fine hs part = tt
  part_same room T f (Fork k w l r) q h [] x fine hs part = join_same k w l r h
  part_same room T f (Fork k w l r) q h (Left ∷ ds) x fine hs part =
      let e = left_out k (total l) (total r) q in
      moved_inside holdings (move holdings room T l h ds x) (λ u. Fork k w u r) _
      (moved_map (move holdings room T l h ds x) (λ u g. total u c j ≡ total l c j) _
      (λ u g m. ap (λ y. add (k c j) (add y (total r c j))) m)
      (part_same room T (suc f) l (plus (plus k (total r)) q) h ds x fine.0 (subst (λ y. Holds y h) e hs) (subst (λ y. IsPart (y c j)) e part)))
  part_same room T f (Fork k w l r) q h (Right ∷ ds) x fine hs part =
      let e = right_out k (total l) (total r) q in
      moved_inside holdings (move holdings room T r h ds x) (λ u. Fork k w l u) _
      (moved_map (move holdings room T r h ds x) (λ u g. total u c j ≡ total r c j) _
      (λ u g m. ap (λ y. add (k c j) (add (total l c j) y)) m)
      (part_same room T (suc f) r (plus (plus k (total l)) q) h ds x fine.1 (subst (λ y. Holds y h) e hs) (subst (λ y. IsPart (y c j)) e part)))

-- ---- a piece that is held in part

moved_always : (a : Answer Piece) (P : Tree Piece → Heap → Type 0) → ((t : Tree Piece) (h : Heap) → P t h) → OnMoved a P
moved_always (Moved t h) P f = f t h
moved_always (Stuck r) P f = tt
moved_always Full P f = tt
moved_always NoSuchLeaf P f = tt
moved_always NameUsed P f = tt

-- what is held where p has nothing
abbrev other_share : Share → Share → Share
other_share Nil y = y
other_share (Some_of v k) y = Nil
other_share Clash y = Nil

other_sum : (x y : Share) → (x ≡ Nil) ⊎ (y ≡ x) → y ≡ add x (other_share x y)
other_sum Nil y o = refl
other_sum (Some_of v k) y o = ⊎_elim (λ e. absurd (let f : ⊥ = cc e in f)) (λ e. e) o
other_sum Clash y o = ⊎_elim (λ e. absurd (let f : ⊥ = cc e in f)) (λ e. e) o

other_apart : (x y : Share) → (x ≡ Nil) ⊎ (other_share x y ≡ Nil)
other_apart Nil y = inl refl
other_apart (Some_of v k) y = inr refl
other_apart Clash y = inr refl

module _ (T : List Proc) (halt : Halt) (Q : End_fact) (p : Piece) (part : IsInPart p) where
  -- of each of its places a tree has that share and no more
  abbrev Stays : Tree Piece → Type 0
  Stays t = (b j : ℕ) → (p b j ≡ Nil) ⊎ (total t b j ≡ p b j)

  place_stays : (room : Room) (f : ℕ) (t : Tree Piece) (h : Heap) (path : List Side) (x : ℕ) → AllFine T f t → Holds (total t) h → (b j : ℕ) → (p b j ≡ Nil) ⊎ (total t b j ≡ p b j) → (p b j ≡ Nil) ⊎ IsPart (p b j) → OnMoved (move holdings room T t h path x) (λ u g. (p b j ≡ Nil) ⊎ (total u b j ≡ p b j))
  place_stays room f t h path x fine hs b j (inl e) w = moved_always (move holdings room T t h path x) _ (λ u g. inl e)
  place_stays room f t h path x fine hs b j (inr e) (inl d) = moved_always (move holdings room T t h path x) _ (λ u g. inl d)
  place_stays room f t h path x fine hs b j (inr e) (inr w) =
      let same = sym (plus-none (total t)) in
      moved_map (move holdings room T t h path x) (λ u g. total u b j ≡ total t b j) _ (λ u g m. inr (m ∙ e))
      (part_same b j room T f t none h path x fine (subst (λ y. Holds y h) same hs) (subst (λ y. IsPart (y b j)) same (subst IsPart (sym e) w)))

  tree_stays : (room : Room) (f : ℕ) (t : Tree Piece) (h : Heap) (path : List Side) (x : ℕ) → AllFine T f t → Holds (total t) h → Stays t → OnMoved (move holdings room T t h path x) (λ u g. Stays u)
  tree_stays room f t h path x fine hs st =
      moved_all (move holdings room T t h path x) (λ b u g. (j : ℕ) → (p b j ≡ Nil) ⊎ (total u b j ≡ p b j))
      (λ b. moved_all (move holdings room T t h path x) (λ j u g. (p b j ≡ Nil) ⊎ (total u b j ≡ p b j))
      (λ j. place_stays room f t h path x fine hs b j (st b j) (part b j)))

  end_back : (vs : List ℕ) (q : Piece) (s : Stack) → Stays (Leaf q s) → Q vs q → GivesBack Q p p vs q
  end_back vs q s st m =
      let sum : q ≡ plus p (λ b j. other_share (p b j) (q b j)) = fun_ext (λ b. fun_ext (λ j. other_sum (p b j) (q b j) (st b j))) in
      ((λ b j. other_share (p b j) (q b j)), sum, (λ b j. other_apart (p b j) (q b j)), subst (Q vs) sum m)

  steps_back : (S R : Tree Piece → Type 0) (f : ℕ) (t : Tree Piece) (h : Heap) → AllFine T f t → Holds (total t) h → Stays t → ((u : Tree Piece) → Stays u → S u → R u) → Steps T f t h S → Steps T f t h R
  steps_back S R f t h fine hs st next steps room path x =
      moved_both (move holdings room T t h path x) (λ u g. Stays u) (λ u g. f + depth u ≤ 64 → S u) _ (λ u g m v d. next u m (v d)) (tree_stays room f t h path x fine hs st) (steps room path x)

  back_safe : (n f : ℕ) (t : Tree Piece) → Stays t → Safe T halt Q n f t → Safe T halt (GivesBack Q p p) n f t
  unfolding Safe
  back_safe zero f t st s = tt
  back_safe (suc n) f (Leaf q s) st sf = λ h hs.
      root_map (halt s) _ _ _ _ (λ vs m. end_back vs q s st m)
      (λ g. (g.0, steps_back (Safe T halt Q n f) (Safe T halt (GivesBack Q p p) n f) f (Leaf q s) h g.0 hs st (λ u su. back_safe n f u su) g.1))
      (sf h hs)
  back_safe (suc n) f (Fork k w l r) st sf = λ h hs.
      let g = sf h hs in
      (g.0, steps_back (Safe T halt Q n f) (Safe T halt (GivesBack Q p p) n f) f (Fork k w l r) h g.0 hs st (λ u su. back_safe n f u su) g.1)

  back_bounded : (n f : ℕ) (t : Tree Piece) → Stays t → Bounded T halt Q n f t → Bounded T halt (GivesBack Q p p) n f t
  unfolding Bounded
  back_bounded zero f (Leaf q s) st w = λ h hs. root_map (halt s) _ _ _ _ (λ vs m. end_back vs q s st m) (λ g. g) (w h hs)
  back_bounded zero f (Fork k v l r) st w = w
  back_bounded (suc n) f (Leaf q s) st w = λ h hs.
      root_map (halt s) _ _ _ _ (λ vs m. end_back vs q s st m)
      (λ g. (g.0, steps_back (Bounded T halt Q n f) (Bounded T halt (GivesBack Q p p) n f) f (Leaf q s) h g.0 hs st (λ u su. back_bounded n f u su) g.1))
      (w h hs)
  back_bounded (suc n) f (Fork k v l r) st w = λ h hs.
      let g = w h hs in
      (g.0, steps_back (Bounded T halt Q n f) (Bounded T halt (GivesBack Q p p) n f) f (Fork k v l r) h g.0 hs st (λ u su. back_bounded n f u su) g.1)

  begin_stays : (k : Piece) (s : Stack) → AreDisjoint p k → Stays (Leaf (plus p k) s)
  begin_stays k s apart b j = ⊎_elim (λ e. inl e) (λ e. inr (ap (add (p b j)) e ∙ add-nil (p b j))) (apart b j)

  -- it is given back as it was
  pub gives_back : (n f : ℕ) (k : Piece) (s : Stack) → AreDisjoint p k → Safe T halt Q n f (Leaf (plus p k) s) → Safe T halt (GivesBack Q p p) n f (Leaf (plus p k) s)
  gives_back n f k s apart sf = back_safe n f (Leaf (plus p k) s) (begin_stays k s apart) sf

  pub bounded_back : (n f : ℕ) (k : Piece) (s : Stack) → AreDisjoint p k → Bounded T halt Q n f (Leaf (plus p k) s) → Bounded T halt (GivesBack Q p p) n f (Leaf (plus p k) s)
  bounded_back n f k s apart w = back_bounded n f (Leaf (plus p k) s) (begin_stays k s apart) w

  swap_last : (a b c : Piece) → plus (plus a b) c ≡ plus (plus a c) b
  swap_last a b c = plus-assoc a b c ∙ ap (plus a) (plus-comm b c) ∙ sym (plus-assoc a c b)

  -- also where more of it is held
  more_back : (r : Piece) (vs : List ℕ) (u : Piece) → Beside (GivesBack Q p p) r vs u → GivesBack Q p (plus p r) vs u
  more_back r vs u m = let w = m.2 in (w.0, m.1 ∙ ap (λ y. plus y r) w.1 ∙ swap_last p w.0 r, w.2, w.3)

  pub gives_more : (n f : ℕ) (r k : Piece) (s : Stack) → AreDisjoint p k → Safe T halt Q n f (Leaf (plus p k) s) → Safe T halt (GivesBack Q p (plus p r)) n f (Leaf (plus (plus p r) k) s)
  gives_more n f r k s apart sf =
      subst (λ y. Safe T halt (GivesBack Q p (plus p r)) n f (Leaf y s)) (swap_last p k r)
      (weaker T halt (Beside (GivesBack Q p p) r) (GivesBack Q p (plus p r)) (λ vs u h hs m. more_back r vs u m) n f (Leaf (plus (plus p k) r) s)
      (frame_safe T halt (GivesBack Q p p) r n f (plus p k) s (gives_back n f k s apart sf)))

  pub bounded_more : (n f : ℕ) (r k : Piece) (s : Stack) → AreDisjoint p k → Bounded T halt Q n f (Leaf (plus p k) s) → Bounded T halt (GivesBack Q p (plus p r)) n f (Leaf (plus (plus p r) k) s)
  bounded_more n f r k s apart w =
      subst (λ y. Bounded T halt (GivesBack Q p (plus p r)) n f (Leaf y s)) (swap_last p k r)
      (weaker_bounded T halt (Beside (GivesBack Q p p) r) (GivesBack Q p (plus p r)) (λ vs u h hs m. more_back r vs u m) n f (Leaf (plus (plus p k) r) s)
      (framed_bounded T halt (GivesBack Q p p) r n f (Leaf (plus p k) s) r refl (bounded_back n f k s apart w)))

-- ---- up to the whole

abbrev lacking_share : Share → Share
lacking_share Nil = Nil
lacking_share (Some_of v k) = share_of v (whole - suc k)
lacking_share Clash = Nil

lacking_sum : (v k m : ℕ) → suc k < whole → whole - suc k ≡ m → add (Some_of v k) (share_of v m) ≡ Some_of v (whole - 1)
lacking_sum v k zero lt e = absurd (let f : ⊥ = omega (arith, lt, e) in f)
lacking_sum v k (suc m) lt e = add_same v k m ∙ ap (Some_of v) (let d : suc (k + m) ≡ whole - 1 = omega (arith, lt, e) in d)

whole_sum : (x : Share) → (x ≡ Nil) ⊎ IsPart x → add x (lacking_share x) ≡ whole_share x
whole_sum Nil o = refl
whole_sum (Some_of v k) o = ⊎_elim (λ e. absurd (let f : ⊥ = cc e in f)) (λ w. lacking_sum v k (whole - suc k) w refl) o
whole_sum Clash o = refl

module _ (p : Piece) (part : IsInPart p) where
  abbrev lacking : Piece
  lacking b j = lacking_share (p b j)

  up_to_whole : plus p lacking ≡ whole_of p
  up_to_whole = fun_ext (λ b. fun_ext (λ j. whole_sum (p b j) (part b j)))

  pub gives_whole : (T : List Proc) (halt : Halt) (Q : End_fact) (n f : ℕ) (k : Piece) (s : Stack) → AreDisjoint p k → Safe T halt Q n f (Leaf (plus p k) s) → Safe T halt (GivesBack Q p (whole_of p)) n f (Leaf (plus (whole_of p) k) s)
  gives_whole T halt Q n f k s apart sf = subst (λ y. Safe T halt (GivesBack Q p y) n f (Leaf (plus y k) s)) up_to_whole (gives_more T halt Q p part n f lacking k s apart sf)

  pub bounded_whole : (T : List Proc) (halt : Halt) (Q : End_fact) (n f : ℕ) (k : Piece) (s : Stack) → AreDisjoint p k → Bounded T halt Q n f (Leaf (plus p k) s) → Bounded T halt (GivesBack Q p (whole_of p)) n f (Leaf (plus (whole_of p) k) s)
  bounded_whole T halt Q n f k s apart w = subst (λ y. Bounded T halt (GivesBack Q p y) n f (Leaf (plus y k) s)) up_to_whole (bounded_more T halt Q p part n f lacking k s apart w)
