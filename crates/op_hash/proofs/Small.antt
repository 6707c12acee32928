-- The procedures of tables that have no loop of their own, but for the one that picks.
use Rattle.std.proofs.Common.{◌≡◌, ◌≢◌, ℕ, zero, suc, ◌+◌, ◌*◌, ◌-◌, ◌^◌, ◌<◌, ◌≤◌, false, List, [], ◌∷◌, length, replicate, refl, sym, ap, ◌∙◌, subst, arith, eqb, eqb-true, eq-eqb, ne_eqb, append-nil, ⊎_elim}
use Rattle.std.proofs.lemmas.Bool.{cond-false}
use Rattle.std.proofs.lemmas.Bool.Decides.{eqb_tells}
use Rattle.std.proofs.lemmas.List.{length-set, length-replicate, get_or-set_same}
use Rattle.std.specs.Prelude.{None, slice_set, not}
use Rattle.row_laws.proofs.Words.{words_set, words_zeros}
use Rattle.relations.specs.Represents.{one_if, count, state, key, value, is_full, IsTable}
use Rattle.target_code.specs.declared.tree.Calc.TheVariants.{Add}
use Rattle.target_code.specs.declared.tree.Proc.{Proc}
use Rattle.target_meaning.specs.Piece.{Piece, plus}
use Rattle.triple_logic.specs.Text.{Op, Load, Stop}
use Rattle.triple_logic.specs.Weakest.{End_fact, Ended, Assertion, Meets, turns, wp}
use Rattle.triple_logic.specs.Blocks.{block, Reads}
use Rattle.triple_logic.specs.Copy.{lib_copy, Makes}
use Rattle.triple_logic.proofs.Ends.{by_law}
use Rattle.triple_logic.proofs.Sound.{does}
use Rattle.triple_logic.proofs.Copy as copies
use Rattle.triple_logic.proofs.Blocks.{own_new, own_set, own_whole, own_bound, reads_own, reads_bound, read_word, apart, adds, subs, muls, flag}
use Rattle.op_base.specs.Counts.{Test}
use Rattle.op_base.proofs.CountsLemmas.{bit_on, bit_off, count_most, del_none, find_true}
use Rattle.op_hash.specs.Tables.{Found, Values, del_value, HasValues, NewTable, keys_of}
use Rattle.op_hash.specs.Texts.{lib_find, lib_keys, empty_text, hset_empty, hmap_empty, has_text, hset_has, hmap_has, lookup_text, hmap_lookup, del_text, hset_remove, hmap_del, pick_test, pick_text, hset_pick, elems_text, hset_elems, hmap_keys, copy_text, hset_copy, hmap_copy}
use Rattle.op_hash.specs.Laws.{find_steps, keys_steps, EmptyLaw, HasLaw, Removed, RemoveLaw, CopyLaw, ElemsLaw, Picked, PickLaw, Looked, LookupLaw}
use Rattle.op_hash.proofs.TablesLemmas.{slot_in, state_in, in_zero, empty_table, no_values, state_state, key_state, value_state, counts, del_table, del_values}
use Rattle.op_hash.proofs.Walk.{find_law, grow}
use Rattle.op_hash.proofs.Keys.{keys_law}

pub hset_empty_law : EmptyLaw 2 hset_empty
hset_empty_law T m rest k le =
    let End : End_fact = Ended (NewTable 2 8 0 0 (λ x. false) (λ x. None)) (λ o. rest) (λ o. o.name ∷ 8 ∷ 0 ∷ 0 ∷ []) (λ o. plus (block o.name o.words) k) in
    does T 4 hset_empty (empty_text 2) refl End (m ∷ rest) [] k
    (λ h hs. (
      omega arith,
      (
        le,
        λ x free. (
          plus (block x (replicate (2 * 8) 0)) k,
          own_new k x (2 * 8) free,
          λ g hg. (omega arith, λ g' hg'. (record { name = x; words = replicate (2 * 8) 0; table = empty_table 2 8 0 refl (omega arith); values = no_values 2 8 (λ x. None); are_words = words_zeros (2 * 8); short = omega (arith, length-replicate {A = ℕ} (2 * 8) 0) }, refl, refl, refl)),
        ),
      ),
    ))

pub hmap_empty_law : EmptyLaw 3 hmap_empty
hmap_empty_law T m rest k le =
    let End : End_fact = Ended (NewTable 3 8 0 0 (λ x. false) (λ x. None)) (λ o. rest) (λ o. o.name ∷ 8 ∷ 0 ∷ 0 ∷ []) (λ o. plus (block o.name o.words) k) in
    does T 4 hmap_empty (empty_text 3) refl End (m ∷ rest) [] k
    (λ h hs. (
      omega arith,
      (
        le,
        λ x free. (
          plus (block x (replicate (3 * 8) 0)) k,
          own_new k x (3 * 8) free,
          λ g hg. (omega arith, λ g' hg'. (record { name = x; words = replicate (3 * 8) 0; table = empty_table 3 8 0 refl (omega arith); values = no_values 3 8 (λ x. None); are_words = words_zeros (3 * 8); short = omega (arith, length-replicate {A = ℕ} (3 * 8) 0) }, refl, refl, refl)),
        ),
      ),
    ))

pub hset_has_law : HasLaw 2 hset_has
hset_has_law T b cap n used x a ws has p found r t =
    does T (find_steps cap + 3) hset_has (has_text 2) refl (Ended (Unit {0}) (λ o. a) (λ o. one_if (has x) ∷ []) (λ o. p)) a (b ∷ cap ∷ n ∷ used ∷ x ∷ []) p
    (λ h hs. (
      lib_find,
      found,
      find_steps cap,
      omega arith,
      by_law T (Found 2 cap x has ws) _ _ _ _ _ _ _ _ (find_law T 2 b cap n used x a ws has p (omega arith) r t)
          (λ o g hg. (omega arith, λ g' hg'. (tt, refl, refl, refl))),
    ))

pub hmap_has_law : HasLaw 3 hmap_has
hmap_has_law T b cap n used x a ws has p found r t =
    does T (find_steps cap + 3) hmap_has (has_text 3) refl (Ended (Unit {0}) (λ o. a) (λ o. one_if (has x) ∷ []) (λ o. p)) a (b ∷ cap ∷ n ∷ used ∷ x ∷ []) p
    (λ h hs. (
      lib_find,
      found,
      find_steps cap,
      omega arith,
      by_law T (Found 3 cap x has ws) _ _ _ _ _ _ _ _ (find_law T 3 b cap n used x a ws has p (omega arith) r t)
          (λ o g hg. (omega arith, λ g' hg'. (tt, refl, refl, refl))),
    ))

pub lookup_law : LookupLaw hmap_lookup
lookup_law T b cap n used x a ws has get p found r t vals there aw =
    does T (find_steps cap + 6) hmap_lookup lookup_text refl (Ended (Looked x get) (λ o. a) (λ o. o.value ∷ []) (λ o. p)) a (b ∷ cap ∷ n ∷ used ∷ x ∷ []) p
    (λ h hs. (
      lib_find,
      found,
      find_steps cap,
      omega arith,
      by_law T (Found 3 cap x has ws) _ _ _ _ _ _ _ _ (find_law T 3 b cap n used x a ws has p (omega arith) r t)
          (λ o g hg.
          let f = o.on there in
          let three : 3 ≤ 3 = omega arith in
          let l2 = slot_in 3 cap n used ws has t o.slot 2 o.within (omega arith) in
          let s2 = reads_bound b 0 ws p h (3 * o.slot + 2) hs r l2 in
          let v2 = read_word b 0 ws p (3 * o.slot + 2) (3 * o.slot + 2) r l2 (omega arith) in (
            3 * o.slot + 2,
            adds (3 * o.slot) 2 (3 * o.slot + 2) refl (omega (arith, s2)),
            (
              value 3 ws o.slot,
              v2.0,
              v2.1,
              (omega arith, λ g' hg'. (record { value = value 3 ws o.slot; at_key = ap get (sym f.1) ∙ vals three o.slot o.within f.0; is_word = aw (3 * o.slot + 2) l2 }, refl, refl, refl)),
            ),
          )),
    ))

-- ---- remove

del_value_none : (get : Values) (w cap n used x : ℕ) (ws : List ℕ) (has : Test) → IsTable w ws has cap n used → has x ≡ false → HasValues w ws cap get → HasValues w ws cap (del_value get x)
del_value_none get w cap n used x ws has t new vals three i li f =
    let ne : key w ws i ≢ x = (λ e. let o : ⊥ = cc (sym (t.keys i li f) ∙ ap has e ∙ new) in o) in
    cond-false (eqb (key w ws i) x) _ _ (ne_eqb (key w ws i) x ne) ∙ vals three i li f

pub hset_remove_law : RemoveLaw 2 hset_remove
hset_remove_law T b cap n used x a ws has get k found t vals aw =
    let E : End_fact = Ended (Removed 2 cap n used x has get) (λ o. a) (λ o. b ∷ cap ∷ o.keys ∷ used ∷ []) (λ o. plus (block b o.words) k) in
    let wide : 2 ≤ 2 = omega arith in
    does T (find_steps cap + 7) hset_remove (del_text 2) refl E a (b ∷ cap ∷ n ∷ used ∷ x ∷ []) (plus (block b ws) k)
    (λ h hs.
    let free = apart b ws k h hs in (
      lib_find,
      found,
      find_steps cap,
      omega arith,
      by_law T (Found 2 cap x has ws) _ _ _ _ _ _ _ _ (find_law T 2 b cap n used x a ws has (plus (block b ws) k) wide (reads_own b ws k free) t)
          (λ o g hg. (
            λ on.
                let old = bit_on (has x) on in
                let f = o.on old in
                let one = ap one_if old in
                let i0 = in_zero 2 cap n used x ws has wide t o in
                let us : List ℕ = slice_set ws (2 * o.slot) 2 in
                let len = length-set ws (2 * o.slot) 2 in
                let st = state_state 2 ws o.slot 2 wide in
                let ky = key_state 2 ws o.slot 2 wide in
                let gone : state 2 (slice_set ws (2 * o.slot) 2) o.slot ≡ 2 = get_or-set_same ws (2 * o.slot) 2 0 i0 in
                let c = counts 2 cap n used x o.slot ws us has t o.within f.0 f.1 len gone st ky in
                let gr = grow cap 2 wide in (
                  plus (block b us) k,
                  own_whole b ws k free (2 * o.slot) i0,
                  own_set b ws k free (2 * o.slot) 2 i0,
                  (
                    count (is_full 2 us) cap,
                    subs n (one_if (has x)) (count (is_full 2 us) cap) (omega (arith, c, one)) (omega (arith, c, gr, count_most cap (is_full 2 us), t.size, own_bound b ws k h hs)),
                    (
                      omega arith,
                      λ g' hg'. (
                        record {
                          keys = count (is_full 2 us) cap;
                          words = us;
                          table = del_table 2 cap n used x o.slot ws us has t o.within f.0 f.1 len gone st ky;
                          counted = omega (arith, c, one);
                          values = del_values 2 cap n used x o.slot ws us has t o.within f.0 f.1 len gone st ky get (λ three i. value_state 2 ws o.slot 2 wide i three) vals;
                          are_words = words_set ws (2 * o.slot) 2 (omega arith) aw;
                        },
                        refl,
                        refl,
                        refl,
                      ),
                    ),
                  ),
                ),
            λ off.
                let new = bit_off (has x) off in
                (omega arith, λ g' hg'. (record { keys = n; words = ws; table = subst (λ y. IsTable 2 ws y cap n used) (sym (del_none has x new)) t; counted = omega (arith, off); values = del_value_none get 2 cap n used x ws has t new vals; are_words = aw }, refl, refl, refl)),
          )),
    ))

pub hmap_del_law : RemoveLaw 3 hmap_del
hmap_del_law T b cap n used x a ws has get k found t vals aw =
    let E : End_fact = Ended (Removed 3 cap n used x has get) (λ o. a) (λ o. b ∷ cap ∷ o.keys ∷ used ∷ []) (λ o. plus (block b o.words) k) in
    let wide : 2 ≤ 3 = omega arith in
    does T (find_steps cap + 7) hmap_del (del_text 3) refl E a (b ∷ cap ∷ n ∷ used ∷ x ∷ []) (plus (block b ws) k)
    (λ h hs.
    let free = apart b ws k h hs in (
      lib_find,
      found,
      find_steps cap,
      omega arith,
      by_law T (Found 3 cap x has ws) _ _ _ _ _ _ _ _ (find_law T 3 b cap n used x a ws has (plus (block b ws) k) wide (reads_own b ws k free) t)
          (λ o g hg. (
            λ on.
                let old = bit_on (has x) on in
                let f = o.on old in
                let one = ap one_if old in
                let i0 = in_zero 3 cap n used x ws has wide t o in
                let us : List ℕ = slice_set ws (3 * o.slot) 2 in
                let len = length-set ws (3 * o.slot) 2 in
                let st = state_state 3 ws o.slot 2 wide in
                let ky = key_state 3 ws o.slot 2 wide in
                let gone : state 3 (slice_set ws (3 * o.slot) 2) o.slot ≡ 2 = get_or-set_same ws (3 * o.slot) 2 0 i0 in
                let c = counts 3 cap n used x o.slot ws us has t o.within f.0 f.1 len gone st ky in
                let gr = grow cap 3 wide in (
                  plus (block b us) k,
                  own_whole b ws k free (3 * o.slot) i0,
                  own_set b ws k free (3 * o.slot) 2 i0,
                  (
                    count (is_full 3 us) cap,
                    subs n (one_if (has x)) (count (is_full 3 us) cap) (omega (arith, c, one)) (omega (arith, c, gr, count_most cap (is_full 3 us), t.size, own_bound b ws k h hs)),
                    (
                      omega arith,
                      λ g' hg'. (
                        record {
                          keys = count (is_full 3 us) cap;
                          words = us;
                          table = del_table 3 cap n used x o.slot ws us has t o.within f.0 f.1 len gone st ky;
                          counted = omega (arith, c, one);
                          values = del_values 3 cap n used x o.slot ws us has t o.within f.0 f.1 len gone st ky get (λ three i. value_state 3 ws o.slot 2 wide i three) vals;
                          are_words = words_set ws (3 * o.slot) 2 (omega arith) aw;
                        },
                        refl,
                        refl,
                        refl,
                      ),
                    ),
                  ),
                ),
            λ off.
                let new = bit_off (has x) off in
                (omega arith, λ g' hg'. (record { keys = n; words = ws; table = subst (λ y. IsTable 3 ws y cap n used) (sym (del_none has x new)) t; counted = omega (arith, off); values = del_value_none get 3 cap n used x ws has t new vals; are_words = aw }, refl, refl, refl)),
          )),
    ))

-- ---- copy, and keys

pub hset_copy_law : CopyLaw 2 hset_copy
hset_copy_law T b cap n used m rest ws k found r size some le =
    let B = 6 * length ws + 10 in
    does T B hset_copy (copy_text 2) refl (Makes (λ x. x ∷ cap ∷ n ∷ used ∷ []) ws k rest) (m ∷ rest) (b ∷ cap ∷ n ∷ used ∷ []) k
    (λ h hs.
    let s = reads_bound b 0 ws k h (2 * cap - 1) hs r (omega (arith, size, some)) in (
      length ws,
      muls cap 2 (length ws) (omega (arith, size)) (omega (arith, s, size, some)),
      (
        lib_copy,
        found,
        6 * length ws + 6,
        omega arith,
        by_law T ℕ _ _ _ _ _ _ _ _ (copies.copy_law T b 0 (length ws) 0 m rest ws k r (omega arith) (omega (arith, le, size)))
            (λ x g hg. (omega arith, λ g' hg'. (x, refl, refl, ap (λ z. plus (block x z) k) (append-nil ws)))),
      ),
    ))

pub hmap_copy_law : CopyLaw 3 hmap_copy
hmap_copy_law T b cap n used m rest ws k found r size some le =
    let B = 6 * length ws + 10 in
    does T B hmap_copy (copy_text 3) refl (Makes (λ x. x ∷ cap ∷ n ∷ used ∷ []) ws k rest) (m ∷ rest) (b ∷ cap ∷ n ∷ used ∷ []) k
    (λ h hs.
    let s = reads_bound b 0 ws k h (3 * cap - 1) hs r (omega (arith, size, some)) in (
      length ws,
      muls cap 3 (length ws) (omega (arith, size)) (omega (arith, s, size, some)),
      (
        lib_copy,
        found,
        6 * length ws + 6,
        omega arith,
        by_law T ℕ _ _ _ _ _ _ _ _ (copies.copy_law T b 0 (length ws) 0 m rest ws k r (omega arith) (omega (arith, le, size)))
            (λ x g hg. (omega arith, λ g' hg'. (x, refl, refl, ap (λ z. plus (block x z) k) (append-nil ws)))),
      ),
    ))

pub hset_elems_law : ElemsLaw 2 hset_elems
hset_elems_law T b cap n used m rest ws has k found r t le =
    does T (keys_steps cap + 3) hset_elems (elems_text 2) refl (Makes (λ x. x ∷ 0 ∷ n ∷ []) (keys_of 2 ws cap) k rest) (m ∷ rest) (b ∷ cap ∷ n ∷ used ∷ []) k
    (λ h hs. (
      lib_keys,
      found,
      keys_steps cap,
      omega arith,
      by_law T ℕ _ _ _ _ _ _ _ _ (keys_law T 2 b cap n used m rest ws has k (omega arith) r t le)
          (λ x g hg. (omega arith, λ g' hg'. (x, refl, refl, refl))),
    ))

pub hmap_keys_law : ElemsLaw 3 hmap_keys
hmap_keys_law T b cap n used m rest ws has k found r t le =
    does T (keys_steps cap + 3) hmap_keys (elems_text 3) refl (Makes (λ x. x ∷ 0 ∷ n ∷ []) (keys_of 3 ws cap) k rest) (m ∷ rest) (b ∷ cap ∷ n ∷ used ∷ []) k
    (λ h hs. (
      lib_keys,
      found,
      keys_steps cap,
      omega arith,
      by_law T ℕ _ _ _ _ _ _ _ _ (keys_law T 3 b cap n used m rest ws has k (omega arith) r t le)
          (λ x g hg. (omega arith, λ g' hg'. (x, refl, refl, refl))),
    ))

-- ---- pick

module _ (T : List Proc) (B E b cap n used : ℕ) (a ws : List ℕ) (has : Test) (p : Piece) (r : Reads b 0 ws p) (t : IsTable 2 ws has cap n used) (small : (i : ℕ) → i < length ws → suc (0 + i) < 2 ^ 64) (Q : Assertion) where
  abbrev pick_regs : (p q : ℕ) → List ℕ
  pick_regs p q = b ∷ cap ∷ n ∷ used ∷ 2 ∷ 1 ∷ p ∷ q ∷ []

  abbrev Stops : Type 0
  Stops = (s i q : ℕ) → s ≤ E → i < cap → state 2 ws i ≡ 1 → Q s a (pick_regs (2 * i) q) p

  -- the test, and what follows where it goes on
  pick_head : Stops → (m i s q : ℕ) → i < cap → s + 3 ≤ E → ((state 2 ws i ≢ 1) → (q : ℕ) → wp T B (Op 6 Add 6 4 Stop) (turns (wp T B pick_test) (wp T B (Op 6 Add 6 4 Stop)) 7 m Q) (suc (suc (suc s))) a (pick_regs (2 * i) q) p) → turns (wp T B pick_test) (wp T B (Op 6 Add 6 4 Stop)) 7 (suc m) Q s a (pick_regs (2 * i) q) p
  pick_head st m i s q li le go =
      let l0 = state_in 2 cap n used ws has t i li (omega arith) in
      let v0 = read_word b 0 ws p (2 * i) (2 * i) r l0 (omega arith) in (
        state 2 ws i,
        v0.0,
        v0.1,
        (
          flag (not (eqb (state 2 ws i) 1)),
          refl,
          (
            λ z. st (suc (suc (suc s))) i (flag (not (eqb (state 2 ws i) 1))) (omega (arith, le)) li (is_one (state 2 ws i) z),
            λ o. go (is_other (state 2 ws i) o) (flag (not (eqb (state 2 ws i) 1))),
          ),
        ),
      )
    where
      is_one : (v : ℕ) → flag (not (eqb v 1)) ≡ 0 → v ≡ 1
      is_one v z = ⊎_elim (λ d. d.1) (λ d. absurd (let e = ap (λ y. flag (not y)) d.0 in let f : ⊥ = omega (arith, z, e) in f)) (eqb_tells v 1)

      is_other : (v : ℕ) → (flag (not (eqb v 1)) ≡ 0 → ⊥) → v ≢ 1
      is_other v o e = o (ap (λ y. flag (not y)) (eq-eqb v 1 e))

  -- a full slot is m slots on
  pick_turns : Stops → (m i s q : ℕ) → m + i < cap → state 2 ws (m + i) ≡ 1 → s + 4 * m + 3 ≤ E → turns (wp T B pick_test) (wp T B (Op 6 Add 6 4 Stop)) 7 (suc m) Q s a (pick_regs (2 * i) q) p
  pick_turns st zero i s q lt full le =
      pick_head st zero i s q (omega (arith, lt)) (omega (arith, le)) (λ ne q. absurd (ne (ap (state 2 ws) (let z : i ≡ 0 + i = omega arith in z) ∙ full)))
  pick_turns st (suc m) i s q lt full le =
      pick_head st (suc m) i s q (omega (arith, lt)) (omega (arith, le))
      (λ ne q. let s1 = small (2 * i + 1) (slot_in 2 cap n used ws has t i 1 (omega (arith, lt)) (omega arith)) in (
        2 * suc i,
        adds (2 * i) 2 (2 * suc i) (omega arith) (omega (arith, s1)),
        pick_turns st m (suc i) (suc (suc (suc (suc s)))) q (omega (arith, lt)) (ap (state 2 ws) (let z : m + suc i ≡ suc m + i = omega arith in z) ∙ full) (omega (arith, le)),
      ))

pub pick_law : PickLaw hset_pick
pick_law T b cap n used a ws has p r t some aw =
    let B = 5 * cap + 6 in
    let End : End_fact = Ended (Picked has) (λ o. a) (λ o. o.picked ∷ []) (λ o. p) in
    let f = find_true cap (is_full 2 ws) (omega (arith, some, t.full_are)) in
    let f1 = f.1 in
    does T B hset_pick pick_text refl End a (b ∷ cap ∷ n ∷ used ∷ []) p
    (λ h hs. (
      suc f.0,
      pick_turns T B (4 * cap + 3) b cap n used a ws has p r t (λ i. reads_bound b 0 ws p h i hs r) (wp T B (Op 6 Add 6 5 (Load 7 0 6 Stop)) (Meets B End (7 ∷ [])))
          (λ s i q ls li full.
          let l1 = slot_in 2 cap n used ws has t i 1 li (omega arith) in
          let s1 = reads_bound b 0 ws p h (2 * i + 1) hs r l1 in
          let v1 = read_word b 0 ws p (2 * i + 1) (2 * i + 1) r l1 (omega arith) in (
            2 * i + 1,
            adds (2 * i) 1 (2 * i + 1) refl (omega (arith, s1)),
            (
              key 2 ws i,
              v1.0,
              v1.1,
              (omega (arith, ls), λ g hg. (record { picked = key 2 ws i; there = t.keys i li full; is_word = aw (2 * i + 1) l1 }, refl, refl, refl)),
            ),
          ))
          f.0 0 3 0 (omega (arith, f1)) (ap (state 2 ws) (let z : f.0 + 0 ≡ f.0 = omega arith in z) ∙ eqb-true (state 2 ws f.0) 1 f.2) (omega (arith, f1)),
    ))
