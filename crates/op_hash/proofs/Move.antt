-- Growth of a table: the full slots move, in order, to a new one.
use Rattle.std.proofs.Common.{◌≡◌, ◌≢◌, ℕ, zero, suc, ◌+◌, ◌*◌, ◌^◌, ◌<◌, ◌≤◌, Bool, true, false, cond, List, [], ◌∷◌, length, replicate, refl, sym, ap, ◌∙◌, subst, arith, eqb, eqb-true, eq-eqb, ne_eqb, ⊎_elim}
use Rattle.std.proofs.lemmas.Bool.{cond_both}
use Rattle.std.proofs.lemmas.Bool.Decides.{eqb_tells}
use Rattle.std.proofs.lemmas.List.{length-set}
use Rattle.std.proofs.Math.Path.{fun_ext}
use Rattle.std.specs.Prelude.{nat_lt}
use Rattle.relations.specs.Blocks.{AreWords}
use Rattle.row_laws.proofs.Words.{words_set, words_zeros}
use Rattle.relations.specs.Represents.{one_if, count, state, key, value, is_full, IsTable}
use Rattle.target_code.specs.declared.tree.Calc.TheVariants.{Add}
use Rattle.target_code.specs.declared.tree.Proc.{Proc}
use Rattle.target_meaning.specs.Piece.{Piece, plus}
use Rattle.triple_logic.specs.Text.{Text, Op, Stop}
use Rattle.triple_logic.specs.Weakest.{End_fact, Ended, Assertion, Meets, turns, wp}
use Rattle.triple_logic.specs.Blocks.{block, Reads, Apart}
use Rattle.triple_logic.proofs.Ends.{by_law}
use Rattle.triple_logic.proofs.Sound.{does}
use Rattle.triple_logic.proofs.Blocks.{own_new, own_set, own_whole, reads_own, reads_beside, reads_bound, read_word, adds, muls, flag, lt_on, lt_off, eq_on, eq_off}
use Rattle.op_base.specs.Counts.{Test, put}
use Rattle.op_base.proofs.CountsLemmas.{put_other, count_grows}
use Rattle.op_hash.specs.Tables.{walk, Found, Values, put_value, HasValues, NewTable}
use Rattle.op_hash.specs.Texts.{lib_find, move_test, move_key, move_pair, move_turn, move_text, lib_hset_move, lib_hmap_move}
use Rattle.op_hash.specs.Laws.{HasFind, find_steps, move_steps, MoveLaw}
use Rattle.op_hash.proofs.TablesLemmas.{slot_in, state_in, walk_in, empty_table, no_values, put_same_value, one_set, two_set, in_zero, in_one_set, two_state, two_key, two_table, two_values, in_two, value_set, value_table, value_values}
use Rattle.op_hash.proofs.Walk.{find_law, grow}

-- ---- the keys of the first i slots

module _ (w : ℕ) (ws : List ℕ) where
  abbrev pub moved : ℕ → Test
  moved zero = λ y. false
  moved (suc i) = cond (is_full w ws i) (put (moved i) (key w ws i)) (moved i)

  From : ℕ → ℕ → Type 0
  From i y = (j : ℕ) × (j < i) × (state w ws j ≡ 1) × (key w ws j ≡ y)

  moved_from : (i y : ℕ) → moved i y ≡ true → From i y
  unfolding From
  moved_from zero y e = absurd (let o : ⊥ = cc e in o)
  moved_from (suc i) y e =
      cond_both (is_full w ws i) (put (moved i) (key w ws i)) (moved i) (λ z. z y ≡ true → From (suc i) y)
      (λ f g. ⊎_elim (λ d. (i, omega arith, eqb-true (state w ws i) 1 f, sym d.1)) (λ d. let r = moved_from i y (sym (put_other (moved i) (key w ws i) y d.1) ∙ g) in (r.0, omega (arith, r.1), r.2, r.3)) (eqb_tells y (key w ws i)))
      (λ f g. let r = moved_from i y g in (r.0, omega (arith, r.1), r.2, r.3)) e

  moved_to : (i j : ℕ) → j < i → state w ws j ≡ 1 → moved i (key w ws j) ≡ true
  moved_to zero j lt f = absurd (let o : ⊥ = omega (arith, lt) in o)
  moved_to (suc i) j lt f =
      cond_both (is_full w ws i) (put (moved i) (key w ws i)) (moved i) (λ z. z (key w ws j) ≡ true)
      (λ d. cond_both (eqb (key w ws j) (key w ws i)) true (moved i (key w ws j)) (λ z. z ≡ true) (λ e. refl)
      (λ e. moved_to i j (let ne : j ≢ i = λ z. (let o : ⊥ = cc (eq-eqb (key w ws j) (key w ws i) (ap (key w ws) z), e) in o) in omega (arith, lt, ne)) f))
      (λ d. moved_to i j (let ne : j ≢ i = λ z. (let o : ⊥ = cc (eq-eqb (state w ws i) 1 (ap (state w ws) (sym z) ∙ f), d) in o) in omega (arith, lt, ne)) f)

  module _ (cap n used : ℕ) (has : Test) (t : IsTable w ws has cap n used) where
    pub moved_all : moved cap ≡ has
    unfolding From
    moved_all = fun_ext (λ y. at y (has y) refl (moved cap y) refl)
      where
        at : (y : ℕ) (b : Bool) → has y ≡ b → (c : Bool) → moved cap y ≡ c → moved cap y ≡ has y
        at y true e c d = let pl = t.reached y e in sym (ap (moved cap) pl.same) ∙ moved_to cap (walk cap y pl.steps) (walk_in w cap n used ws has t y pl.steps) pl.full ∙ sym e
        at y false e true d = let r = moved_from cap y d in absurd (let o : ⊥ = cc (sym (t.keys r.0 r.1 r.2) ∙ ap has r.3 ∙ e) in o)
        at y false e false d = d ∙ sym e

    pub not_yet : (i : ℕ) → i < cap → state w ws i ≡ 1 → moved i (key w ws i) ≡ false
    unfolding From
    not_yet i li f = at (moved i (key w ws i)) refl
      where
        at : (c : Bool) → moved i (key w ws i) ≡ c → moved i (key w ws i) ≡ false
        at false e = e
        at true e = let r = moved_from i (key w ws i) e in
            let same = t.once r.0 i (omega (arith, r.1, li)) li r.2 f r.3 in absurd (let o : ⊥ = omega (arith, same, r.1) in o)

mul_less : (m c : ℕ) → suc m * c ≡ c + m * c
mul_less m c = omega arith

-- ---- the loop; `tail` are the registers that a map has more

module _ (T : List Proc) (B C E w b cap n used ncap x len : ℕ) (rest ws : List ℕ) (has : Test) (get : Values) (k : Piece) (found : HasFind T) (wide : 2 ≤ w) (r : Reads b 0 ws k) (t : IsTable w ws has cap n used) (vals : HasValues w ws cap get) (words : AreWords ws) (free : Apart x k) (small : (i : ℕ) → i < length ws → suc (0 + i) < 2 ^ 64) (fits : n < ncap) (most : w * ncap < 2 ^ 64) (c_is : C ≡ 24 * ncap + 40) (e_is : suc E ≤ B) (full_text : Text) (tail : ℕ → List ℕ) (Q : Assertion) where
  abbrev F : Test
  F = is_full w ws

  abbrev move_regs : (i r8 r9 r10 r11 r12 r13 : ℕ) → List ℕ
  move_regs i r8 r9 r10 r11 r12 r13 = b ∷ cap ∷ ncap ∷ w ∷ len ∷ x ∷ 1 ∷ i ∷ r8 ∷ r9 ∷ r10 ∷ r11 ∷ r12 ∷ tail r13

  abbrev Part : ℕ → List ℕ → Type 0
  Part i us = IsTable w us (moved w ws i) ncap (count F i) (count F i) × HasValues w us ncap get × AreWords us

  abbrev Loop : ℕ → Assertion
  Loop m = turns (wp T B move_test) (wp T B (move_turn full_text)) 8 m Q

  abbrev Moves : ℕ → ℕ → ℕ → Type 0
  Moves m i s = (us : List ℕ) → Part i us → s + m * C + 2 ≤ E → (r8 r9 r10 r11 r12 r13 : ℕ) → Loop (suc m) s rest (move_regs i r8 r9 r10 r11 r12 r13) (plus (block x us) k)

  abbrev Stops : Type 0
  Stops = (s : ℕ) (us : List ℕ) (r8 r9 r10 r11 r12 r13 : ℕ) → s ≤ E → IsTable w us has ncap n n → HasValues w us ncap get → AreWords us → Q s rest (move_regs cap r8 r9 r10 r11 r12 r13) (plus (block x us) k)

  -- what is to be shown of a full slot
  abbrev KeyMoves : Type 0
  KeyMoves =
      (m i s : ℕ) (us : List ℕ) (r8 r10 r11 r12 r13 : ℕ) → i < cap → state w ws i ≡ 1 → Part i us → s + find_steps ncap + 12 ≤ B →
      ((us : List ℕ) → Part (suc i) us → (s2 r8 r9 r10 r11 r12 r13 : ℕ) → s2 ≤ s + find_steps ncap + 11 → Loop m s2 rest (move_regs (suc i) r8 r9 r10 r11 r12 r13) (plus (block x us) k)) →
      wp T B full_text (wp T B (Op 7 Add 7 6 Stop) (Loop m)) s rest (move_regs i r8 (w * i) r10 r11 r12 r13) (plus (block x us) k)

  more_part : (i : ℕ) (us : List ℕ) → F i ≡ true → IsTable w us (put (moved w ws i) (key w ws i)) ncap (suc (count F i)) (suc (count F i)) → IsTable w us (moved w ws (suc i)) ncap (count F (suc i)) (count F (suc i))
  more_part i us on_i tab =
      let c : suc (count F i) ≡ count F (suc i) = (let z = ap one_if on_i in omega (arith, z)) in
      subst (λ y. IsTable w us (moved w ws (suc i)) ncap y y) c (subst (λ y. IsTable w us y ncap (suc (count F i)) (suc (count F i))) (sym (ap (λ y. cond y (put (moved w ws i) (key w ws i)) (moved w ws i)) on_i)) tab)

  same_part : (i : ℕ) (us : List ℕ) → F i ≡ false → Part i us → Part (suc i) us
  same_part i us none p =
      let c : count F i ≡ count F (suc i) = (let z = ap one_if none in omega (arith, z)) in
      (subst (λ y. IsTable w us (moved w ws (suc i)) ncap y y) c (subst (λ y. IsTable w us y ncap (count F i) (count F i)) (sym (ap (λ y. cond y (put (moved w ws i) (key w ws i)) (moved w ws i)) none)) p.0), p.1, p.2)

  room_for : (i : ℕ) → i < cap → state w ws i ≡ 1 → suc (count F i) < ncap
  room_for i li full =
      let on_i : F i ≡ true = eq-eqb (state w ws i) 1 full in
      let g = count_grows (suc i) cap F (omega (arith, li)) in
      let z = ap one_if on_i in omega (arith, g, z, t.full_are, fits)

  move_turns : KeyMoves → Stops → (m i s : ℕ) → i + m ≡ cap → Moves m i s
  move_turns km q zero i s e us tab le r8 r9 r10 r11 r12 r13 =
      let all : i ≡ cap = omega (arith, e) in
      let full : Part cap us = subst (λ y. Part y us) all tab in (
        flag (nat_lt i cap),
        refl,
        (
          λ z. subst (λ y. Q (suc (suc s)) rest (move_regs y (flag (nat_lt i cap)) r9 r10 r11 r12 r13) (plus (block x us) k)) (sym all)
              (q (suc (suc s)) us (flag (nat_lt i cap)) r9 r10 r11 r12 r13 (omega (arith, le))
              (subst (λ y. IsTable w us has ncap y y) (sym t.full_are) (subst (λ y. IsTable w us y ncap (count F cap) (count F cap)) (moved_all w ws cap n used has t) full.0)) full.1 full.2),
          λ o. absurd (let f : ⊥ = omega (arith, lt_on i cap o, all) in f),
        ),
      )
  move_turns km q (suc m) i s e us tab le r8 r9 r10 r11 r12 r13 =
      let lt : i < cap = omega (arith, e) in
      let l0 = state_in w cap n used ws has t i lt wide in
      let s0 = small (w * i) l0 in
      let gr = grow i w wide in
      let v0 = read_word b 0 ws (plus (block x us) k) (w * i) (w * i) (reads_beside b 0 ws k x us r free) l0 (omega arith) in
      let g = mul_less m C in (
        flag (nat_lt i cap),
        refl,
        (
          λ z. absurd (let f : ⊥ = omega (arith, lt_off i cap z, lt) in f),
          λ o. (
            w * i,
            muls i w (w * i) (omega arith) (omega (arith, s0)),
            (
              state w ws i,
              v0.0,
              v0.1,
              (
                flag (eqb (state w ws i) 1),
                refl,
                (
                  λ on. km (suc m) i (suc (suc (suc (suc (suc (suc s)))))) us (flag (eqb (state w ws i) 1)) r10 r11 r12 r13 lt (eq_on (state w ws i) 1 on) tab (omega (arith, le, g, c_is, e_is))
                      (λ us tab s2 r8 r9 r10 r11 r12 r13 l2. move_turns km q m (suc i) s2 (omega (arith, e)) us tab (omega (arith, le, g, c_is, l2)) r8 r9 r10 r11 r12 r13),
                  λ off. (
                    suc i,
                    adds i 1 _ (omega arith) (omega (arith, s0, gr)),
                    move_turns km q m (suc i) (suc (suc (suc (suc (suc (suc (suc s))))))) (omega (arith, e)) us (same_part i us (ne_eqb (state w ws i) 1 (eq_off (state w ws i) 1 off)) tab) (omega (arith, le, g, c_is)) (flag (eqb (state w ws i) 1)) (w * i) r10 r11 r12 r13,
                  ),
                ),
              ),
            ),
          ),
        ),
      )

  -- the key's slot in the new table, and two stores
  two_more : (i : ℕ) (us : List ℕ) (li : i < cap) (full : state w ws i ≡ 1) (p : Part i us) (o : Found w ncap (key w ws i) (moved w ws i) us) → IsTable w (two_set w ncap (count F i) (count F i) (key w ws i) us (moved w ws i) wide p.0 o) (moved w ws (suc i)) ncap (count F (suc i)) (count F (suc i))
  two_more i us li full p o =
      more_part i _ (eq-eqb (state w ws i) 1 full)
      (two_table w ncap (count F i) (count F i) (key w ws i) us (moved w ws i) wide p.0 o (not_yet w ws cap n used has t i li full) (room_for i li full))

  -- a slot of two words
  set_moves : w < 3 → full_text ≡ move_key → KeyMoves
  set_moves narrow is m i s us r8 r10 r11 r12 r13 li full p le next =
      subst (λ y. wp T B y (wp T B (Op 7 Add 7 6 Stop) (Loop m)) s rest (move_regs i r8 (w * i) r10 r11 r12 r13) (plus (block x us) k)) (sym is)
      (let c = count F i in
      let y = key w ws i in
      let l1 = slot_in w cap n used ws has t i 1 li (omega (arith, wide)) in
      let s1 = small (w * i + 1) l1 in
      let gr = grow i w wide in
      let v1 = read_word b 0 ws (plus (block x us) k) (w * i + 1) (w * i + 1) (reads_beside b 0 ws k x us r free) l1 (omega arith) in (
        w * i + 1,
        adds (w * i) 1 (w * i + 1) refl (omega (arith, s1)),
        (
          key w ws i,
          v1.0,
          v1.1,
          (
            lib_find,
            found,
            find_steps ncap,
            omega (arith, le),
            by_law T (Found w ncap (key w ws i) (moved w ws i) us) _ _ _ _ _ _ _ _ (find_law T w x ncap (count F i) (count F i) (key w ws i) rest us (moved w ws i) (plus (block x us) k) wide (reads_own x us k free) p.0)
                (λ o g hg.
                let i0 = in_zero w ncap c c y us (moved w ws i) wide p.0 o in
                let i1 = in_one_set w ncap c c y us (moved w ws i) wide p.0 o in
                let u1 = one_set w ncap c c y us (moved w ws i) wide p.0 o in
                let u2 = two_set w ncap c c y us (moved w ws i) wide p.0 o in
                let words_two : AreWords (two_set w ncap c c y us (moved w ws i) wide p.0 o) = words_set u1 (w * o.slot + 1) y (words (w * i + 1) l1) (words_set us (w * o.slot) 1 (omega arith) p.2) in (
                  plus (block x u1) k,
                  own_whole x us k free (w * o.slot) i0,
                  own_set x us k free (w * o.slot) 1 i0,
                  (
                    w * o.slot + 1,
                    adds (w * o.slot) 1 _ refl (omega (arith, i1, length-set us (w * o.slot) 1, p.0.size, most)),
                    (
                      plus (block x u2) k,
                      own_whole x u1 k free (w * o.slot + 1) i1,
                      own_set x u1 k free (w * o.slot + 1) (key w ws i) i1,
                      (
                        suc i,
                        adds i 1 _ (omega arith) (omega (arith, s1, gr)),
                        next u2 (two_more i us li full p o, λ three. absurd (let f : ⊥ = omega (arith, narrow, three) in f), words_two) _ r8 (w * i + 1) (key w ws i) (w * o.slot + 1) (one_if (moved w ws i (key w ws i))) r13 (omega arith),
                      ),
                    ),
                  ),
                )),
          ),
        ),
      ))

pub set_move_law : MoveLaw 2 lib_hset_move
set_move_law T b cap n used ncap m rest ws has get k found r t vals words e pw fits most le =
    let B = move_steps cap ncap in
    let C = 24 * ncap + 40 in
    let End : End_fact = Ended (NewTable 2 ncap n n has get) (λ o. rest) (λ o. o.name ∷ []) (λ o. plus (block o.name o.words) k) in
    let some : 0 < ncap = omega (arith, fits) in
    let wide : 2 ≤ 2 = omega arith in
    does T B lib_hset_move (move_text 2 move_key) refl End (m ∷ rest) (b ∷ cap ∷ ncap ∷ []) k
    (λ h hs. (
      2 * ncap,
      muls ncap 2 (2 * ncap) (omega arith) most,
      (
        (let z : 3 ≤ cap * (24 * ncap + 40) + 8 = omega arith in z),
        (
          le,
          λ x free. (
            plus (block x (replicate (2 * ncap) 0)) k,
            own_new k x (2 * ncap) free,
            λ g hg. (
              suc cap,
              move_turns T B C (suc (cap * C + 6)) 2 b cap n used ncap x (2 * ncap) rest ws has get k found wide r t vals words free (λ i. reads_bound b 0 ws k h i hs r) fits most refl (omega arith) move_key (λ v. []) (Meets B End (5 ∷ []))
                  (set_moves T B C (suc (cap * C + 6)) 2 b cap n used ncap x (2 * ncap) rest ws has get k found wide r t vals words free (λ i. reads_bound b 0 ws k h i hs r) fits most refl (omega arith) move_key (λ v. []) (Meets B End (5 ∷ [])) (omega arith) refl)
                  (λ s us r8 r9 r10 r11 r12 r13 ls tab va uw. (omega (arith, ls), λ g hg. (record { name = x; words = us; table = tab; values = va; are_words = uw; short = omega (arith, tab.size, most) }, refl, refl, refl)))
                  cap 0 5 (omega arith) (replicate (2 * ncap) 0) (empty_table 2 ncap e pw some, no_values 2 ncap get, words_zeros (2 * ncap)) (omega arith) 0 0 0 0 0 0,
            ),
          ),
        ),
      ),
    ))

-- ---- a slot of three words

module _ (T : List Proc) (B C E w b cap n used ncap x len : ℕ) (rest ws : List ℕ) (has : Test) (get : Values) (k : Piece) (found : HasFind T) (wide : 2 ≤ w) (r : Reads b 0 ws k) (t : IsTable w ws has cap n used) (vals : HasValues w ws cap get) (words : AreWords ws) (free : Apart x k) (small : (i : ℕ) → i < length ws → suc (0 + i) < 2 ^ 64) (fits : n < ncap) (most : w * ncap < 2 ^ 64) (c_is : C ≡ 24 * ncap + 40) (e_is : suc E ≤ B) (Q : Assertion) where
  abbrev G : Test
  G = is_full w ws

  pair_moves : 3 ≤ w → KeyMoves T B C E w b cap n used ncap x len rest ws has get k found wide r t vals words free small fits most c_is e_is move_pair (λ v. v ∷ []) Q
  pair_moves three m i s us r8 r10 r11 r12 r13 li full p le next =
      let c = count G i in
      let y = key w ws i in
      let l1 = slot_in w cap n used ws has t i 1 li (omega (arith, wide)) in
      let l2 = slot_in w cap n used ws has t i 2 li (omega (arith, three)) in
      let s2 = small (w * i + 2) l2 in
      let gr = grow i w wide in
      let reads = reads_beside b 0 ws k x us r free in
      let v1 = read_word b 0 ws (plus (block x us) k) (w * i + 1) (w * i + 1) reads l1 (omega arith) in
      let v2 = read_word b 0 ws (plus (block x us) k) (w * i + 2) (w * i + 2) reads l2 (omega arith) in (
        w * i + 1,
        adds (w * i) 1 (w * i + 1) refl (omega (arith, s2)),
        (
          key w ws i,
          v1.0,
          v1.1,
          (
            w * i + 2,
            adds (w * i + 1) 1 (w * i + 2) (omega arith) (omega (arith, s2)),
            (
              value w ws i,
              v2.0,
              v2.1,
              (
                lib_find,
                found,
                find_steps ncap,
                omega (arith, le),
                by_law T (Found w ncap (key w ws i) (moved w ws i) us) _ _ _ _ _ _ _ _ (find_law T w x ncap (count G i) (count G i) (key w ws i) rest us (moved w ws i) (plus (block x us) k) wide (reads_own x us k free) p.0)
                    (λ o g hg.
                    let i0 = in_zero w ncap c c y us (moved w ws i) wide p.0 o in
                    let i1 = in_one_set w ncap c c y us (moved w ws i) wide p.0 o in
                    let u1 = one_set w ncap c c y us (moved w ws i) wide p.0 o in
                    let u2 = two_set w ncap c c y us (moved w ws i) wide p.0 o in
                    let words_two : AreWords (two_set w ncap c c y us (moved w ws i) wide p.0 o) = words_set u1 (w * o.slot + 1) y (words (w * i + 1) l1) (words_set us (w * o.slot) 1 (omega arith) p.2) in
                    let tab = two_more T B C E w b cap n used ncap x len rest ws has get k found wide r t vals words free small fits most c_is e_is move_pair (λ v. v ∷ []) Q i us li full p o in
                    let full2 = two_state w ncap c c y us (moved w ws i) wide p.0 o in
                    let key2 = two_key w ncap c c y us (moved w ws i) wide p.0 o in
                    let others = two_values w ncap c c y us (moved w ws i) wide p.0 o get p.1 in
                    let n2 = count G (suc i) in
                    let i2 = in_two w ncap n2 n2 y (value w ws i) o.slot u2 (moved w ws (suc i)) get three tab o.within full2 key2 others in
                    let u3 = value_set w ncap n2 n2 y (value w ws i) o.slot u2 (moved w ws (suc i)) get three tab o.within full2 key2 others in
                    let tab3 = value_table w ncap n2 n2 y (value w ws i) o.slot u2 (moved w ws (suc i)) get three tab o.within full2 key2 others in
                    let vals3 = value_values w ncap n2 n2 y (value w ws i) o.slot u2 (moved w ws (suc i)) get three tab o.within full2 key2 others in (
                      plus (block x u1) k,
                      own_whole x us k free (w * o.slot) i0,
                      own_set x us k free (w * o.slot) 1 i0,
                      (
                        w * o.slot + 1,
                        adds (w * o.slot) 1 _ refl (omega (arith, i1, length-set us (w * o.slot) 1, p.0.size, most)),
                        (
                          plus (block x u2) k,
                          own_whole x u1 k free (w * o.slot + 1) i1,
                          own_set x u1 k free (w * o.slot + 1) (key w ws i) i1,
                          (
                            w * o.slot + 2,
                            adds (w * o.slot + 1) 1 (w * o.slot + 2) (omega arith) (omega (arith, i2, tab.size, most)),
                            (
                              plus (block x u3) k,
                              own_whole x u2 k free (w * o.slot + 2) i2,
                              own_set x u2 k free (w * o.slot + 2) (value w ws i) i2,
                              (
                                suc i,
                                adds i 1 _ (omega arith) (omega (arith, s2, gr)),
                                next u3 (tab3, same_values u3 vals3, words_set u2 (w * o.slot + 2) (value w ws i) (words (w * i + 2) l2) words_two) _ r8 (w * i + 2) (key w ws i) (w * o.slot + 2) (one_if (moved w ws i (key w ws i))) (value w ws i) (omega arith),
                              ),
                            ),
                          ),
                        ),
                      ),
                    )),
              ),
            ),
          ),
        ),
      )
    where
      -- the value at the key was this one before
      same_values : (us : List ℕ) → HasValues w us ncap (put_value get (key w ws i) (value w ws i)) → HasValues w us ncap get
      same_values us va = subst (λ g. HasValues w us ncap g) (put_same_value get (key w ws i) (value w ws i) (vals three i li full)) va

pub map_move_law : MoveLaw 3 lib_hmap_move
map_move_law T b cap n used ncap m rest ws has get k found r t vals words e pw fits most le =
    let B = move_steps cap ncap in
    let C = 24 * ncap + 40 in
    let End : End_fact = Ended (NewTable 3 ncap n n has get) (λ o. rest) (λ o. o.name ∷ []) (λ o. plus (block o.name o.words) k) in
    let some : 0 < ncap = omega (arith, fits) in
    let wide : 2 ≤ 3 = omega arith in
    does T B lib_hmap_move (move_text 3 move_pair) refl End (m ∷ rest) (b ∷ cap ∷ ncap ∷ []) k
    (λ h hs. (
      3 * ncap,
      muls ncap 3 (3 * ncap) (omega arith) most,
      (
        (let z : 3 ≤ cap * (24 * ncap + 40) + 8 = omega arith in z),
        (
          le,
          λ x free. (
            plus (block x (replicate (3 * ncap) 0)) k,
            own_new k x (3 * ncap) free,
            λ g hg. (
              suc cap,
              move_turns T B C (suc (cap * C + 6)) 3 b cap n used ncap x (3 * ncap) rest ws has get k found wide r t vals words free (λ i. reads_bound b 0 ws k h i hs r) fits most refl (omega arith) move_pair (λ v. v ∷ []) (Meets B End (5 ∷ []))
                  (pair_moves T B C (suc (cap * C + 6)) 3 b cap n used ncap x (3 * ncap) rest ws has get k found wide r t vals words free (λ i. reads_bound b 0 ws k h i hs r) fits most refl (omega arith) (Meets B End (5 ∷ [])) (omega arith))
                  (λ s us r8 r9 r10 r11 r12 r13 ls tab va uw. (omega (arith, ls), λ g hg. (record { name = x; words = us; table = tab; values = va; are_words = uw; short = omega (arith, tab.size, most) }, refl, refl, refl)))
                  cap 0 5 (omega arith) (replicate (3 * ncap) 0) (empty_table 3 ncap e pw some, no_values 3 ncap get, words_zeros (3 * ncap)) (omega arith) 0 0 0 0 0 0,
            ),
          ),
        ),
      ),
    ))
