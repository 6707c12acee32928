-- Two readers of one array are safe side by side.
use denote.Hole.Carrier
use Rattle.std.proofs.Common.{◌≡◌, ℕ, zero, suc, ◌+◌, ◌-◌, ◌/◌, ◌%◌, ◌^◌, ◌<◌, ◌≤◌, inl, inr, Option, true, false, List, [], ◌∷◌, length, refl, sym, ap, ◌∙◌, subst, arith, eq-eqb}
use Rattle.std.specs.Prelude.{slice_index}
use Rattle.target_code.specs.declared.tree.Instr.{out-Instr}
use Rattle.target_code.specs.declared.tree.Proc.{Proc}
use Rattle.target_code.specs.declared.tree.Instr.TheVariants.{Calc, Store}
use Rattle.target_code.specs.declared.tree.Calc.TheVariants.{Add}
use Rattle.target_meaning.specs.Leaf.{Part, Item, Do, Stack, Run, Wait, Write, act, begin, put_all}
use Rattle.target_meaning.specs.Lines.{lines_of}
use Rattle.target_meaning.specs.declared.path.Side.TheVariants.{Left}
use Rattle.target_meaning.specs.Machine.{Heap, Tree, Leaf, Fork, has_room, nothing}
use Rattle.target_meaning.specs.Piece.{Share, Nil, Some_of, Clash, Piece, none, plus, Fits, Holds, share_of, half, rest, IsWhole}
use Rattle.target_meaning.specs.Held.{Take, given, kept, is_among, CanHalve, total}
use Rattle.target_meaning.specs.Samples.{array_get}
use Rattle.target_meaning.specs.Unowned.{IsPast, IsUnowned}
use Rattle.target_meaning.specs.Runs.{reach, Race}
use Rattle.target_meaning.proofs.Moved.{moved_map}
use Rattle.target_meaning.proofs.Shares.{plus-none}
use Rattle.target_meaning.proofs.Keeps.{take_sum, fork_sum}
use Rattle.triple_logic.specs.Safe.{at_end, Safe}
use Rattle.triple_logic.specs.Reached.{Good, IsReached}
use Rattle.triple_logic.specs.Parts.{Inside, half_of, rest_of}
use Rattle.triple_logic.specs.Sample.{array_set, HasValue, IsSlice}
use Rattle.triple_logic.proofs.Runs.{run_safe, on_machine, calm_bare}
use Rattle.triple_logic.proofs.Rules.{go, over_safe, par_by, place_bound}
use Rattle.triple_logic.proofs.Parts.{hand_given, hand_kept, lend_given, lend_kept, rest_inside}
use Rattle.triple_logic.proofs.Pair.{span_part, inside_slice}
use Rattle.triple_logic.proofs.Sample.{get_law, no_wrap, value_of}
use Rattle.triple_logic.proofs.Teeth.{unowned_tree}
use Rattle.run_laws.specs.Readers.{reader, two_readers, program, start, writer_and_reader, spoiling, spoiling_start, Given, BothRead, ReadersLaw, ReadersAreCalm}

-- ---- halves of a slice are slices

share_value : (u n v : ℕ) → u ≡ v → 0 < n → HasValue (share_of u n) v
share_value u zero v e lt = absurd (let f : ⊥ = omega (arith, lt) in f)
share_value u (suc n) v e lt = e

half_value : (x : Share) (v : ℕ) → HasValue x v → CanHalve false x → HasValue (half x) v
half_value Nil v h w = absurd h
half_value Clash v h w = absurd h
half_value (Some_of u k) v h w = share_value u (suc k / 2) v h (omega (arith, w))

rest_value : (x : Share) (v : ℕ) → HasValue x v → CanHalve false x → HasValue (rest x) v
rest_value Nil v h w = absurd h
rest_value Clash v h w = absurd h
rest_value (Some_of u k) v h w = share_value u (suc k - suc k / 2) v h (omega (arith, w))

share_given : (v n : ℕ) → 0 < n → CanHalve true (share_of v n)
share_given v zero lt = absurd (let f : ⊥ = omega (arith, lt) in f)
share_given v (suc n) lt = tt

rest_given : (x : Share) → CanHalve false x → CanHalve true (rest x)
rest_given Nil w = w
rest_given Clash w = w
rest_given (Some_of v k) w = share_given v (suc k - suc k / 2) (omega (arith, w))

module _ (xs : List ℕ) (b off i j : ℕ) (p : Piece) (g : Given xs b off i j p) where
  part_slice : (part : Share → Share) → part Nil ≡ Nil → ((x : Share) (v : ℕ) → HasValue x v → CanHalve false x → HasValue (part x) v) → IsSlice xs b off (λ c m. part (p c m))
  part_slice part nil value = record {
    words = λ m lt. value (p b (suc (off + m))) (slice_index xs m) (g.slice.words m lt) (g.lends m lt);
    no_name = ap part g.slice.no_name ∙ nil;
    before = λ m lt. ap part (g.slice.before m lt) ∙ nil;
    after = λ m le. ap part (g.slice.after m le) ∙ nil;
    others = λ c m ne. ap part (g.slice.others c m ne) ∙ nil;
  }

  half_slice : IsSlice xs b off (half_of p)
  half_slice = part_slice half refl half_value

  rest_slice : IsSlice xs b off (rest_of p)
  rest_slice = part_slice rest refl rest_value

  -- ---- what is lent to the left branch, and then to the right one

  abbrev lent : Part
  lent = span_part b off (length xs)

  abbrev by_half : Take
  by_half = record { part = lent; all = false }

  abbrev again : Take
  again = record { part = lent; all = is_among lent (lent ∷ []) }

  abbrev by_all : Take
  by_all = record { part = lent; all = true }

  inside : Inside lent p
  inside = inside_slice xs b off p g.slice

  left_is : given by_half p ≡ half_of p
  left_is = ap (given by_half) (sym (plus-none p)) ∙ lend_given lent p none inside (λ c m e. refl)

  left_leaves : kept by_half p ≡ rest_of p
  left_leaves = ap (kept by_half) (sym (plus-none p)) ∙ lend_kept lent p none inside (λ c m e. refl) ∙ plus-none (rest_of p)

  is_again : is_among lent (lent ∷ []) ≡ true
  is_again = rw (eq-eqb b b refl, eq-eqb off off refl, eq-eqb (length xs) (length xs) refl) refl

  right_is : given again (kept by_half p) ≡ rest_of p
  right_is =
      ap (given again) left_leaves ∙ ap (λ a. given (record { part = lent; all = a }) (rest_of p)) is_again ∙
      ap (given by_all) (sym (plus-none (rest_of p))) ∙ hand_given lent (rest_of p) none (rest_inside lent p inside) (λ c m e. refl)

  right_leaves : kept again (kept by_half p) ≡ none
  right_leaves =
      ap (kept again) left_leaves ∙ ap (λ a. kept (record { part = lent; all = a }) (rest_of p)) is_again ∙
      ap (kept by_all) (sym (plus-none (rest_of p))) ∙ hand_kept lent (rest_of p) none (rest_inside lent p inside) (λ c m e. refl)

  halves : plus (half_of p) (rest_of p) ≡ p
  halves = sym (ap (λ y. plus y (kept by_half p)) left_is ∙ ap (plus (half_of p)) left_leaves) ∙ take_sum by_half p

  left_can : (m : ℕ) → off ≤ m → m < off + length xs → CanHalve false (p b (suc m))
  left_can m lo hi =
      let e : off + (m - off) ≡ m = omega (arith, lo) in
      subst (λ y. CanHalve false (p b (suc y))) e (g.lends (m - off) (omega (arith, lo, hi)))

  right_can : (m : ℕ) → off ≤ m → m < off + length xs → CanHalve (is_among lent (lent ∷ [])) (kept by_half p b (suc m))
  right_can m lo hi =
      subst (λ (y : Piece). CanHalve (is_among lent (lent ∷ [])) (y b (suc m))) (sym left_leaves)
      (subst (λ a. CanHalve a (rest_of p b (suc m))) (sym is_again) (rest_given (p b (suc m)) (left_can m lo hi)))

abbrev Got : List ℕ → ℕ → Piece → List ℕ → Piece → Type 0
Got xs i p vs q = (vs ≡ slice_index xs i ∷ []) × (q ≡ p)

abbrev registers : List ℕ → (b off i j x y : ℕ) → List ℕ
registers xs b off i j x y = b ∷ off ∷ length xs ∷ i ∷ j ∷ x ∷ y ∷ []

pub readers_law : ReadersLaw
unfolding out-Instr Carrier.out
readers_law n xs b off i j p g =
    par_by program at_end (Got xs i (half_of p)) (Got xs j (rest_of p)) (BothRead xs i j p) [] (registers xs b off i j 0 0) two_readers [] (reader 5 3) (reader 6 4) array_get array_get
    n 0 p none (half_of p) (rest_of p) 1 _ refl refl refl refl
    (right_leaves xs b off i j p g)
    (plus-none (given (by_half xs b off i j p g) p) ∙ left_is xs b off i j p g)
    (plus-none (given (again xs b off i j p g) (kept (by_half xs b off i j p g) p)) ∙ right_is xs b off i j p g)
    (λ lt. ((left_can xs b off i j p g, tt), (right_can xs b off i j p g, tt), (tt, tt), (tt, tt)))
    (get_law program n 1 xs b off i (half_of p) g.first (half_slice xs b off i j p g))
    (get_law program n 1 xs b off j (rest_of p) g.second (rest_slice xs b off i j p g))
    (λ m le us ws a d h hs ma md.
    subst (λ y. Safe program at_end (BothRead xs i j p) m 0 (Leaf (plus none (plus a d)) (Run (record { proc = two_readers; items = []; regs = put_all (6 ∷ []) ws (put_all (5 ∷ []) y (registers xs b off i j 0 0)) }) []))) (sym ma.0)
    (subst (λ y. Safe program at_end (BothRead xs i j p) m 0 (Leaf (plus none (plus a d)) (Run (record { proc = two_readers; items = []; regs = put_all (6 ∷ []) y (put_all (5 ∷ []) (slice_index xs i ∷ []) (registers xs b off i j 0 0)) }) []))) (sym md.0)
    (go program at_end (BothRead xs i j p) m 0 (plus none (plus a d)) _ _ refl refl
    (over_safe program at_end (BothRead xs i j p) m 0 (plus none (plus a d)) _ _ refl
    (refl, ap (λ y. plus y d) ma.1 ∙ ap (plus (half_of p)) md.1 ∙ halves xs b off i j p g)))))

pub readers_calm : ReadersAreCalm
readers_calm room sized es h xs b off i j p g hs w =
    let Q = BothRead xs i j p in
    let s = start xs b off i j in
    moved_map (reach nothing room program es (Leaf tt s) h) (IsReached (Good room program Q)) (λ u k. Race program k u → ⊥) (λ u k m. calm_bare room program Q u k m)
    (on_machine room program p s h (Good room program Q) es (run_safe room program Q sized es (Leaf p s) h hs (λ n. readers_law n xs b off i j p g)) w)

-- ---- a writer in place of a reader

half_not_whole : (x : Share) (o : Option ℕ) → Fits x o → IsWhole (half x) → ⊥
half_not_whole Nil o f w = w
half_not_whole Clash o f w = w
half_not_whole (Some_of v k) o f w = at (suc k / 2) refl w
  where
    at : (n : ℕ) → suc k / 2 ≡ n → IsWhole (share_of v n) → ⊥
    at zero e z = z
    at (suc m) e z = let g : ⊥ = omega (arith, e, z, f.1) in g

-- a left branch that stores to a word that it does not hold whole
left_unowned : (T : List Proc) (Q : List ℕ → Piece → Type 0) (k a : Piece) (w : Wait) (s : Stack) (r : Tree Piece) (h : Heap) (b m v : ℕ) (next : Stack) → Holds (plus k (plus a (total r))) h → act T s ≡ Write b m v next → (IsPast (a b 0) m → ⊥) → (IsWhole (a b (suc m)) → ⊥) → Safe T at_end Q 1 0 (Fork k w (Leaf a s) r) → ⊥
left_unowned T Q k a w s r h b m v next hs e past held sf =
    let u : IsUnowned 1 (Write b m v next) a = inr (inl (past, held)) in
    unowned_tree T Q 0 (Fork k w (Leaf a s) r) h hs (inl (subst (λ y. IsUnowned 1 y a) (sym e) u)) sf

module _ (xs : List ℕ) (b off i j : ℕ) (p : Piece) (g : Given xs b off i j p) (h : Heap) (hs : Holds p h) where
  -- what the left branch holds of the array, and where it stores
  abbrev left : Piece
  left = plus (given (by_half xs b off i j p g) p) none

  left_half : left ≡ half_of p
  left_half = plus-none (given (by_half xs b off i j p g) p) ∙ left_is xs b off i j p g

  in_block : (m : ℕ) → IsPast (left b 0) m → ⊥
  in_block m w = subst (λ y. IsPast y m) (ap (λ (y : Piece). y b 0) left_half ∙ ap half g.slice.no_name) w

  not_held : IsWhole (left b (suc ((off + i) % 2 ^ 64))) → ⊥
  not_held w =
      let v = value_of (p b (suc (off + i))) (slice_index xs i) (g.slice.words i g.first) in
      let e : (off + i) % 2 ^ 64 ≡ off + i = no_wrap (off + i) (omega (arith, place_bound p h b (suc (off + i)) (slice_index xs i) v.0 hs v.1)) in
      half_not_whole (p b (suc (off + i))) _ (hs.places b (suc (off + i))) (subst (λ y. IsWhole (y b (suc (off + i)))) left_half (subst (λ y. IsWhole (left b (suc y))) e w))

  -- the writer with these items left, once it has the place
  abbrev writing : List Item → Stack
  writing items = Run (record { proc = array_set; items = items; regs = b ∷ off ∷ length xs ∷ i ∷ j ∷ (off + i) % 2 ^ 64 ∷ [] }) []

  abbrev to_store : List Item
  to_store = Do (1 + lines_of (Calc 5 Add 1 3)) (Store 0 5 4) ∷ []

  abbrev waiting : Wait
  waiting = record { frame = record { proc = writer_and_reader; items = []; regs = registers xs b off i j 0 0 }; callers = []; left = 0 ∷ 1 ∷ 2 ∷ []; right = 6 ∷ [] }

  abbrev right : Piece
  right = plus (given (again xs b off i j p g) (kept (by_half xs b off i j p g) p)) none

  abbrev right_leaf : Tree Piece
  right_leaf = Leaf right (Run (begin array_get (b ∷ off ∷ length xs ∷ j ∷ [])) [])

  pub spoiling_unsafe : (Q : List ℕ → Piece → Type 0) → Safe spoiling at_end Q 3 0 (Leaf p (spoiling_start xs b off i j)) → ⊥
  unfolding Safe out-Instr Carrier.out
  spoiling_unsafe Q s =
      let forked = (s h hs).1 has_room [] 0 (omega arith) in
      let there : Holds (plus (kept (again xs b off i j p g) (kept (by_half xs b off i j p g) p)) (plus left right)) h =
      subst (λ y. Holds y h) (sym (fork_sum p (by_half xs b off i j p g ∷ []) (again xs b off i j p g ∷ []))) hs in
      let added = (forked h there).1 has_room (Left ∷ []) 0 (omega arith) in
      left_unowned spoiling Q (kept (again xs b off i j p g) (kept (by_half xs b off i j p g) p)) left waiting (writing to_store) right_leaf h b ((off + i) % 2 ^ 64) j (writing []) there refl (in_block ((off + i) % 2 ^ 64)) not_held added
