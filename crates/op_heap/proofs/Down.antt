-- Sifting down.
use Rattle.std.proofs.Common.{◌≡◌, ◌≢◌, ℕ, zero, suc, ◌+◌, ◌*◌, ◌-◌, ◌^◌, ◌<◌, ◌≤◌, Bool, true, false, List, [], ◌∷◌, length, refl, sym, ap, ◌∙◌, subst, arith, eqb, ltb-true, ltb-false, ⊎_elim, ◌⊎◌}
use Rattle.std.proofs.lemmas.Bool.Decides.{eqb_tells}
use Rattle.std.proofs.lemmas.List.{length-set, get_or-set_same, get_or-set_other}
use Rattle.std.specs.Prelude.{slice_index, slice_set, nat_lt}
use Rattle.relations.specs.Blocks.{AreWords}
use Rattle.relations.specs.Represents.{one_if}
use Rattle.row_laws.proofs.Words.{words_set}
use Rattle.target_code.specs.declared.tree.Proc.{Proc}
use Rattle.target_meaning.specs.Piece.{whole, Piece, plus}
use Rattle.triple_logic.specs.Weakest.{End_fact, Ended, Assertion, Meets, turns, wp}
use Rattle.triple_logic.specs.Blocks.{block, Apart}
use Rattle.triple_logic.proofs.Sound.{does}
use Rattle.triple_logic.proofs.Blocks.{own_set, own_whole, own_at, apart, adds, subs, flag, lt_on, lt_off}
use Rattle.op_heap.specs.Heap.{times, parent, Ordered, down_less, down_test, down_turn, take_text, heap_take_min, Taken, TakeLaw}
use Rattle.op_heap.proofs.Bags.{root_least, taken_times}
use Rattle.op_heap.proofs.Up.{times_set}

-- all is in order but the children of word i
record Falling (n i : ℕ) (ws : List ℕ) : Type 0 where
  others : (j : ℕ) → 0 < j → j < n → parent j ≢ i → slice_index ws (parent j) ≤ slice_index ws j
  below : (j : ℕ) → 0 < j → j < n → 0 < i → parent j ≡ i → slice_index ws (parent i) ≤ slice_index ws j

-- the lesser child, if there is one
record Chosen (n i c : ℕ) (ws : List ℕ) : Type 0 where
  child : parent c ≡ i
  some : 0 < c
  least : c < n → (j : ℕ) → 0 < j → j < n → parent j ≡ i → slice_index ws c ≤ slice_index ws j
  past : n ≤ c → (j : ℕ) → 0 < j → parent j ≡ i → n ≤ j

module _ (n i x c : ℕ) (ws : List ℕ) (r : Falling n i ws) (len : n ≤ length ws) (at : slice_index ws i ≡ x) (ch : Chosen n i c ws) where
  down_order : (c < n → x ≤ slice_index ws c) → Ordered n ws
  down_order stop j pos lj =
      ⊎_elim
      (λ e. let z = ap (slice_index ws) e.1 in ⊎_elim (λ lt. let a = stop lt in let b = ch.least lt j pos lj e.1 in omega (arith, z, a, b, at)) (λ ge. let b = ch.past ge j pos e.1 in absurd (let f : ⊥ = omega (arith, b, lj) in f)) (let o : (c < n) ⊎ (n ≤ c) = grind arith in o))
      (λ e. r.others j pos lj e.1) (eqb_tells (parent j) i)

  module _ (lt : c < n) (less : slice_index ws c < x) where
    abbrev sunk : List ℕ
    sunk = slice_set (slice_set ws i (slice_index ws c)) c x

    c_ne : c ≢ i
    c_ne = let a = ch.child in let b = ch.some in omega (arith, a, b)

    i_in : i < length ws
    i_in = let a = ch.child in let b = ch.some in omega (arith, a, b, lt, len)

    c_in : c < length (slice_set ws i (slice_index ws c))
    c_in = omega (arith, lt, len, length-set ws i (slice_index ws c))

    at_c : slice_index sunk c ≡ x
    at_c = get_or-set_same (slice_set ws i (slice_index ws c)) c x 0 c_in

    at_i : slice_index sunk i ≡ slice_index ws c
    at_i = get_or-set_other (slice_set ws i (slice_index ws c)) c i x 0 (λ e. c_ne (sym e)) ∙ get_or-set_same ws i (slice_index ws c) 0 i_in

    at_other : (j : ℕ) → j ≢ i → j ≢ c → slice_index sunk j ≡ slice_index ws j
    at_other j ni nc = get_or-set_other (slice_set ws i (slice_index ws c)) c j x 0 nc ∙ get_or-set_other ws i j (slice_index ws c) 0 ni

    times_sunk : (y : ℕ) → times n sunk y ≡ times n ws y
    times_sunk y =
        let i_n : i < n = (let a = ch.child in let b = ch.some in omega (arith, a, b, lt)) in
        let a = times_set n i (slice_index ws c) y ws i_n i_in in
        let b = times_set n c x y (slice_set ws i (slice_index ws c)) lt c_in in
        let d = ap (λ z. one_if (eqb z y)) at in
        let e = ap (λ z. one_if (eqb z y)) (get_or-set_other ws i c (slice_index ws c) 0 c_ne) in
        omega (arith, a, b, d, e)

    fallen : Falling n c sunk
    fallen = record {
      others = λ j pj lj np.
          ⊎_elim
          (λ e. let p = ap (slice_index sunk) (ap parent e.1 ∙ ch.child) ∙ at_i in let q = ap (slice_index sunk) e.1 ∙ at_c in omega (arith, p, q, less))
          (λ e. ⊎_elim
          (λ d. let p = ap (slice_index sunk) d.1 ∙ at_i in let m = ch.least lt j pj lj d.1 in
          let ni : j ≢ i = (let z = d.1 in omega (arith, z, pj)) in let q = at_other j ni e.1 in omega (arith, p, q, m))
          (λ d. let o = at_other (parent j) d.1 np in
          ⊎_elim
          (λ f. let q = ap (slice_index sunk) f.1 ∙ at_i in let g = f.1 in let m = r.below c ch.some lt (omega (arith, g, pj)) ch.child in
          let z = ap (λ y. slice_index ws (parent y)) f.1 in omega (arith, o, q, m, z))
          (λ f. let q = at_other j f.1 e.1 in let m = r.others j pj lj d.1 in omega (arith, o, q, m))
          (eqb_tells j i))
          (eqb_tells (parent j) i))
          (eqb_tells j c);
      below = λ j pj lj pc e.
          let p = ap (slice_index sunk) ch.child ∙ at_i in
          let child = ch.child in
          let ni : j ≢ i = omega (arith, e, child, pc, pj) in
          let nc : j ≢ c = omega (arith, e, pj) in
          let q = at_other j ni nc in
          let m = r.others j pj lj (λ z. c_ne (sym e ∙ z)) in
          let z = ap (slice_index ws) e in omega (arith, p, q, m, z);
    }

child_is : (i j : ℕ) → 0 < j → parent j ≡ i → (j ≡ i + i + 1) ⊎ (j ≡ i + i + 1 + 1)
child_is i j pos e = grind (arith, pos, e)

-- two children, and one
chosen_two : (n i : ℕ) (ws : List ℕ) (c : Bool) → nat_lt (slice_index ws (i + i + 1 + 1)) (slice_index ws (i + i + 1)) ≡ c → i + i + 1 + 1 < n → Chosen n i (i + i + 1 + flag c) ws
chosen_two n i ws true e lt = record {
  child = omega arith;
  some = omega arith;
  least = λ l j pos lj p. let z = ltb-true _ _ e in ⊎_elim (λ w. let a = ap (slice_index ws) w in omega (arith, a, z)) (λ w. let a = ap (slice_index ws) w in omega (arith, a)) (child_is i j pos p);
  past = λ ge j pos p. absurd (let f : ⊥ = omega (arith, ge, lt) in f);
}
chosen_two n i ws false e lt =
    subst (λ y. Chosen n i y ws) (let z : i + i + 1 ≡ i + i + 1 + 0 = omega arith in z) (record {
      child = omega arith;
      some = omega arith;
      least = λ l j pos lj p. let z = ltb-false _ _ e in ⊎_elim (λ w. let a = ap (slice_index ws) w in omega (arith, a)) (λ w. let a = ap (slice_index ws) w in omega (arith, a, z)) (child_is i j pos p);
      past = λ ge j pos p. absurd (let f : ⊥ = omega (arith, ge, lt) in f);
    })

chosen_one : (n i : ℕ) (ws : List ℕ) → n ≤ i + i + 1 + 1 → Chosen n i (i + i + 1) ws
chosen_one n i ws ge = record {
  child = omega arith;
  some = omega arith;
  least = λ l j pos lj p. ⊎_elim (λ w. let a = ap (slice_index ws) w in omega (arith, a)) (λ w. absurd (let f : ⊥ = omega (arith, w, lj, ge) in f)) (child_is i j pos p);
  past = λ g j pos p. ⊎_elim (λ w. omega (arith, w, g)) (λ w. omega (arith, w, g)) (child_is i j pos p);
}

module _ (T : List Proc) (B E b n cap x low : ℕ) (a : List ℕ) (k : Piece) (free : Apart b k) (cnt : ℕ → ℕ) (small : n + n + 4 < 2 ^ 64) (n_is : n ≤ cap) (word : x < 2 ^ 64) (Q : Assertion) where
  abbrev down_regs : (i c r f e : ℕ) → List ℕ
  down_regs i c r f e = b ∷ n ∷ cap ∷ low ∷ 1 ∷ x ∷ i ∷ c ∷ r ∷ f ∷ e ∷ []

  abbrev Downs : Type 0
  Downs = (s : ℕ) (i c r f e : ℕ) (ws : List ℕ) → s ≤ E → length ws ≡ cap → Ordered n ws → ((y : ℕ) → times n ws y ≡ cnt y) → AreWords ws → Q s a (down_regs i c r f e) (plus (block b ws) k)

  abbrev Tested : ℕ → Assertion
  Tested m s a regs p = (slice_index regs 9 ≡ 0 → Q (suc s) a regs p) × ((slice_index regs 9 ≡ 0 → ⊥) → wp T B down_turn (turns (wp T B down_test) (wp T B down_turn) 9 m Q) (suc s) a regs p)

  -- where the lesser child is known
  after_choice : (m i s c r f e : ℕ) (ws : List ℕ) → length ws ≡ cap → Falling n i ws → slice_index ws i ≡ x → ((y : ℕ) → times n ws y ≡ cnt y) → AreWords ws → s + 5 ≤ E → Chosen n i c ws → Downs → (c < n → slice_index ws c < x → (f : ℕ) → wp T B down_turn (turns (wp T B down_test) (wp T B down_turn) 9 m Q) (suc (suc (suc (suc (suc s))))) a (down_regs i c r f (slice_index ws c)) (plus (block b ws) k)) → wp T B down_less (Tested m) s a (down_regs i c r f e) (plus (block b ws) k)
  after_choice m i s c r f e ws len fl at same aw le ch q go = (
    flag (nat_lt c n),
    refl,
    (
      λ on.
          let lt = lt_on c n on in (
            slice_index ws c,
            whole - 1,
            own_at b ws k free c (omega (arith, lt, len, n_is)),
            (
              flag (nat_lt (slice_index ws c) x),
              refl,
              (
                λ z. q (suc (suc (suc (suc (suc s))))) i c r (flag (nat_lt (slice_index ws c) x)) (slice_index ws c) ws (omega (arith, le)) len (down_order n i x c ws fl (omega (arith, len, n_is)) at ch (λ l. lt_off (slice_index ws c) x z)) same aw,
                λ o. go lt (lt_on (slice_index ws c) x o) (flag (nat_lt (slice_index ws c) x)),
              ),
            ),
          ),
      λ off.
          let ge = lt_off c n off in (
            λ z. q (suc (suc (suc s))) i c r (flag (nat_lt c n)) e ws (omega (arith, le)) len (down_order n i x c ws fl (omega (arith, len, n_is)) at ch (λ l. absurd (let o : ⊥ = omega (arith, l, ge) in o))) same aw,
            λ o. absurd (o off),
          ),
    ),
  )

  -- the test, and what follows where it goes on
  down_head : (m i s c r f e : ℕ) (ws : List ℕ) → i ≤ n → length ws ≡ cap → Falling n i ws → slice_index ws i ≡ x → ((y : ℕ) → times n ws y ≡ cnt y) → AreWords ws → s + 14 ≤ E → Downs → ((s2 c r f : ℕ) → s2 ≤ s + 14 → Chosen n i c ws → c < n → slice_index ws c < x → wp T B down_turn (turns (wp T B down_test) (wp T B down_turn) 9 m Q) s2 a (down_regs i c r f (slice_index ws c)) (plus (block b ws) k)) → turns (wp T B down_test) (wp T B down_turn) 9 (suc m) Q s a (down_regs i c r f e) (plus (block b ws) k)
  down_head m i s c r f e ws ii len fl at same aw le q go = (
    i + i,
    adds i i _ refl (omega (arith, ii, small)),
    (
      i + i + 1,
      adds (i + i) 1 _ refl (omega (arith, ii, small)),
      (
        i + i + 1 + 1,
        adds (i + i + 1) 1 _ refl (omega (arith, ii, small)),
        (
          flag (nat_lt (i + i + 1 + 1) n),
          refl,
          (
            λ on.
                let lt = lt_on (i + i + 1 + 1) n on in
                let b0 = nat_lt (slice_index ws (i + i + 1 + 1)) (slice_index ws (i + i + 1)) in (
                  slice_index ws (i + i + 1 + 1),
                  whole - 1,
                  own_at b ws k free (i + i + 1 + 1) (omega (arith, lt, len, n_is)),
                  (
                    slice_index ws (i + i + 1),
                    whole - 1,
                    own_at b ws k free (i + i + 1) (omega (arith, lt, len, n_is)),
                    (
                      flag b0,
                      refl,
                      (
                        i + i + 1 + flag b0,
                        adds (i + i + 1) (flag b0) _ refl (omega (arith, ii, small, flag_most b0)),
                        after_choice m i (suc (suc (suc (suc (suc (suc (suc (suc (suc s))))))))) (i + i + 1 + flag b0) (i + i + 1 + 1) (flag b0) (slice_index ws (i + i + 1)) ws len fl at same aw (omega (arith, le)) (chosen_two n i ws b0 refl lt) q
                            (λ cl less f. go _ (i + i + 1 + flag b0) (i + i + 1 + 1) f (omega arith) (chosen_two n i ws b0 refl lt) cl less),
                      ),
                    ),
                  ),
                ),
            λ off.
                let ge = lt_off (i + i + 1 + 1) n off in
                after_choice m i (suc (suc (suc (suc (suc s))))) (i + i + 1) (i + i + 1 + 1) (flag (nat_lt (i + i + 1 + 1) n)) e ws len fl at same aw (omega (arith, le)) (chosen_one n i ws ge) q
                (λ cl less f. go _ (i + i + 1) (i + i + 1 + 1) f (omega arith) (chosen_one n i ws ge) cl less),
          ),
        ),
      ),
    ),
  )
    where
      flag_most : (b : Bool) → flag b ≤ 1
      flag_most true = omega arith
      flag_most false = omega arith

  down_turns : (m i s c r f e : ℕ) (ws : List ℕ) → n ≤ m + i → i ≤ n → length ws ≡ cap → Falling n i ws → slice_index ws i ≡ x → ((y : ℕ) → times n ws y ≡ cnt y) → AreWords ws → s + 17 * m + 14 ≤ E → Downs → turns (wp T B down_test) (wp T B down_turn) 9 (suc m) Q s a (down_regs i c r f e) (plus (block b ws) k)
  down_turns zero i s c r f e ws mi ii len fl at same aw le q =
      down_head zero i s c r f e ws ii len fl at same aw (omega (arith, le)) q
      (λ s2 c r f l ch lt less. absurd (let a = ch.child in let p = ch.some in let o : ⊥ = omega (arith, a, p, lt, mi) in o))
  down_turns (suc m) i s c r f e ws mi ii len fl at same aw le q =
      down_head (suc m) i s c r f e ws ii len fl at same aw (omega (arith, le)) q
      (λ s2 c r f l ch lt less.
      let le_n : n ≤ length ws = omega (arith, len, n_is) in
      let w0 : List ℕ = slice_set ws i (slice_index ws c) in
      let sw : List ℕ = slice_set (slice_set ws i (slice_index ws c)) c x in
      let l0 = i_in n i x c ws fl le_n at ch lt less in
      let l1 = c_in n i x c ws fl le_n at ch lt less in
      let child = ch.child in
      let some = ch.some in (
        plus (block b w0) k,
        own_whole b ws k free i l0,
        own_set b ws k free i (slice_index ws c) l0,
        (
          plus (block b sw) k,
          own_whole b w0 k free c l1,
          own_set b w0 k free c x l1,
          down_turns m c (suc (suc (suc s2))) c r f (slice_index ws c) sw (omega (arith, mi, child, some)) (omega (arith, lt)) (length-set w0 c x ∙ length-set ws i (slice_index ws c) ∙ len)
              (fallen n i x c ws fl le_n at ch lt less) (at_c n i x c ws fl le_n at ch lt less) (λ y. times_sunk n i x c ws fl le_n at ch lt less y ∙ same y)
              (words_set w0 c x word (words_set ws i (slice_index ws c) (aw c (omega (arith, lt, le_n))) aw)) (omega (arith, le, l)) q,
        ),
      ))

-- the last word in the place of the first
module _ (n : ℕ) (ws : List ℕ) (len : suc n ≤ length ws) (o : Ordered (suc n) ws) where
  abbrev moved_last : List ℕ
  moved_last = slice_set ws 0 (slice_index ws n)

  first_in : 0 < length ws
  first_in = omega (arith, len)

  falls : Falling n 0 moved_last
  falls = record {
    others = λ j pj lj np.
        let a = get_or-set_other ws 0 j (slice_index ws n) 0 (let ne : j ≢ 0 = omega (arith, pj) in ne) in
        let b = get_or-set_other ws 0 (parent j) (slice_index ws n) 0 np in
        let c = o j pj (omega (arith, lj)) in omega (arith, a, b, c);
    below = λ j pj lj pos e. absurd (let f : ⊥ = omega (arith, pos) in f);
  }

  times_moved : (y : ℕ) → times n moved_last y + one_if (eqb (slice_index ws 0) y) ≡ times (suc n) ws y
  times_moved y = ⊎_elim
      (λ e. at_zero_n e) (λ pos. let a = times_set n 0 (slice_index ws n) y ws pos first_in in omega (arith, a)) (let c : (n ≡ 0) ⊎ (0 < n) = grind arith in c)
    where
      at_zero_n : n ≡ 0 → times n moved_last y + one_if (eqb (slice_index ws 0) y) ≡ times (suc n) ws y
      at_zero_n e =
          let a = ap (λ z. times z moved_last y) e in
          let b = ap (λ z. times z ws y) e in
          let c = ap (λ z. one_if (eqb (slice_index ws z) y)) e in omega (arith, a, b, c)

pub take_law : TakeLaw
take_law T b n a ws k small len o aw =
    let B = 17 * n + 40 in
    let End : End_fact = Ended (Taken n ws) (λ o. a) (λ o. slice_index ws 0 ∷ b ∷ n ∷ length ws ∷ []) (λ o. plus (block b o.words) k) in
    does T B heap_take_min take_text refl End a (b ∷ suc n ∷ length ws ∷ []) (plus (block b ws) k)
    (λ h hs.
    let free = apart b ws k h hs in
    let i0 = first_in n ws len o in
    let us = moved_last n ws len o in (
      slice_index ws 0,
      whole - 1,
      own_at b ws k free 0 i0,
      (
        n,
        subs (suc n) 1 n (omega arith) (omega (arith, small)),
        (
          slice_index ws n,
          whole - 1,
          own_at b ws k free n (omega (arith, len)),
          (
            plus (block b us) k,
            own_whole b ws k free 0 i0,
            own_set b ws k free 0 (slice_index ws n) i0,
            (
              suc n,
              down_turns T B (suc (17 * n + 30)) b n (length ws) (slice_index ws n) (slice_index ws 0) a k free (λ y. times n us y) (omega (arith, small)) (omega (arith, len)) (aw n (omega (arith, len))) (Meets B End (3 ∷ 0 ∷ 1 ∷ 2 ∷ []))
                  n 0 6 0 0 0 0 us (omega arith) (omega arith) (length-set ws 0 (slice_index ws n)) (falls n ws len o) (get_or-set_same ws 0 (slice_index ws n) 0 i0) (λ y. refl) (words_set ws 0 (slice_index ws n) (aw n (omega (arith, len))) aw) (omega arith)
                  (λ s i c r f e vs ls lv ord same vw. (omega (arith, ls), λ g hg. (record { words = vs; len = lv; order = ord; are_words = vw; first = taken_times n ws vs len (omega (arith, len, lv)) (root_least (suc n) ws o) (λ y. (let z = same y in let w = times_moved n ws len o y in omega (arith, z, w))) }, refl, refl, refl))),
            ),
          ),
        ),
      ),
    )
    )
