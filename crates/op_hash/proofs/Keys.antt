-- The keys of a table in the order of its slots.
use Rattle.std.proofs.Common.{◌≡◌, ℕ, zero, suc, ◌+◌, ◌*◌, ◌^◌, ◌<◌, ◌≤◌, Bool, true, false, List, [], ◌∷◌, ◌++◌, length, replicate, refl, sym, ap, ◌∙◌, subst, arith, eqb, eqb-true, eq-eqb, ne_eqb, append_assoc, append-nil, ⊎_elim, ◌⊎◌}
use Rattle.std.proofs.lemmas.Bool.{cond_both, cond-true, cond-false}
use Rattle.std.proofs.lemmas.Bool.Decides.{eqb_tells}
use Rattle.std.proofs.lemmas.List.{length-append, length-replicate, get_or_append_left}
use Rattle.std.proofs.Math.Seq.{set-append_seam, get_or-append_seam}
use Rattle.std.specs.Prelude.{slice_index, slice_set, nat_lt}
use Rattle.relations.specs.Blocks.{AreWords}
use Rattle.relations.proofs.Small.{word_first}
use Rattle.row_laws.proofs.Words.{no_words, words_append}
use Rattle.relations.specs.Represents.{one_if, count, state, key, is_full, IsTable}
use Rattle.target_code.specs.declared.tree.Proc.{Proc}
use Rattle.target_meaning.specs.Piece.{Piece, plus}
use Rattle.triple_logic.specs.Text.{Op, Stop}
use Rattle.triple_logic.specs.Weakest.{End_fact, Assertion, Meets, turns, wp}
use Rattle.triple_logic.specs.Blocks.{block, Reads, Apart}
use Rattle.triple_logic.specs.Copy.{Makes}
use Rattle.triple_logic.proofs.Sound.{does}
use Rattle.triple_logic.proofs.Blocks.{own_new, own_set, own_whole, reads_beside, reads_bound, read_word, adds, muls, flag, lt_on, lt_off, eq_on, eq_off}
use Rattle.target_code.specs.declared.tree.Calc.TheVariants.{Add}
use Rattle.op_base.specs.Counts.{Test}
use Rattle.op_base.proofs.CountsLemmas.{count_grows, count_most}
use Rattle.op_hash.specs.Tables.{walk, keys_of}
use Rattle.op_hash.specs.Texts.{keys_test, keys_take, keys_turn, keys_text, lib_keys}
use Rattle.op_hash.specs.Laws.{keys_steps, KeysLaw, KeyWordsLaw, EachLaw}
use Rattle.op_hash.proofs.TablesLemmas.{slot_in, state_in, walk_in}
use Rattle.op_hash.proofs.Walk.{grow}

-- ---- the list

module _ (w : ℕ) (ws : List ℕ) where
  abbrev F : Test
  F = is_full w ws

  pub with_key : (i : ℕ) → F i ≡ true → keys_of w ws (suc i) ≡ keys_of w ws i ++ key w ws i ∷ []
  with_key i e = cond-true (F i) _ _ e

  pub without_key : (i : ℕ) → F i ≡ false → keys_of w ws (suc i) ≡ keys_of w ws i
  without_key i e = cond-false (F i) _ _ e

  pub keys_length : (i : ℕ) → length (keys_of w ws i) ≡ count F i
  keys_length zero = refl
  keys_length (suc i) =
      let r = keys_length i in
      cond_both (F i) (keys_of w ws i ++ key w ws i ∷ []) (keys_of w ws i) (λ z. length z ≡ one_if (F i) + count F i)
      (λ e. let a = ap one_if e in let b = length-append (keys_of w ws i) (key w ws i ∷ []) in omega (arith, a, b, r))
      (λ e. let a = ap one_if e in omega (arith, a, r))

  -- the key of a full slot stands where as many full slots are before it
  At : ℕ → ℕ → Type 0
  At i s = (count F s < length (keys_of w ws i)) × (slice_index (keys_of w ws i) (count F s) ≡ key w ws s)

  keys_at : (i s : ℕ) → s < i → F s ≡ true → At i s
  unfolding At
  keys_at zero s lt f = absurd (let o : ⊥ = omega (arith, lt) in o)
  keys_at (suc i) s lt f =
      ⊎_elim
      (λ e. subst (At (suc i)) (sym e.1) (last i (sym (ap F e.1) ∙ f)))
      (λ e. more i (keys_at i s (omega (arith, lt, e.1)) f))
      (eqb_tells s i)
    where
      last : (i : ℕ) → F i ≡ true → At (suc i) i
      last i f =
          let n = keys_length i in
          let l = with_key i f in
          let m = length-append (keys_of w ws i) (key w ws i ∷ []) in
          let k = ap length l in (
            omega (arith, n, m, k),
            ap (λ z. slice_index z (count F i)) l ∙ ap (slice_index (keys_of w ws i ++ key w ws i ∷ [])) (sym n) ∙ get_or-append_seam (keys_of w ws i) (key w ws i) [] 0,
          )

      more : (i : ℕ) → At i s → At (suc i) s
      more i a =
          cond_both (F i) (keys_of w ws i ++ key w ws i ∷ []) (keys_of w ws i) (λ z. (count F s < length z) × (slice_index z (count F s) ≡ key w ws s))
          (λ e. (omega (arith, a.0, length-append (keys_of w ws i) (key w ws i ∷ [])), get_or_append_left (keys_of w ws i) (key w ws i ∷ []) 0 (count F s) a.0 ∙ a.1))
          (λ e. a)

  -- and each place of the list is that of a full slot
  From : ℕ → ℕ → Type 0
  From i j = (s : ℕ) × (s < i) × (F s ≡ true) × (count F s ≡ j)

  earlier : (i j : ℕ) → From i j → From (suc i) j
  unfolding From
  earlier i j r = (r.0, omega (arith, r.1), r.2, r.3)

  keys_from : (i j : ℕ) → j < count F i → From i j
  unfolding From
  keys_from zero j lt = absurd (let o : ⊥ = omega (arith, lt) in o)
  keys_from (suc i) j lt = by (F i) refl (keys_from i j)
    where
      by : (b : Bool) → F i ≡ b → (j < count F i → From i j) → From (suc i) j
      by false e r = let a = ap one_if e in earlier i j (r (omega (arith, lt, a)))
      by true e r = let a = ap one_if e in
          ⊎_elim (λ l. earlier i j (r l)) (λ g. (i, omega arith, e, g)) (let o : (j < count F i) ⊎ (count F i ≡ j) = grind (arith, lt, a) in o)

pub each_law : EachLaw
unfolding At From
each_law w cap n used ws has t =
    let len : length (keys_of w ws cap) ≡ n = keys_length w ws cap ∙ sym t.full_are in
    let from : (j : ℕ) → j < length (keys_of w ws cap) → (s : ℕ) × (s < cap) × (is_full w ws s ≡ true) × (count (is_full w ws) s ≡ j) × (slice_index (keys_of w ws cap) j ≡ key w ws s) =
    (λ j lt. let r = keys_from w ws cap j (let z = keys_length w ws cap in omega (arith, lt, z)) in (r.0, r.1, r.2, r.3, ap (slice_index (keys_of w ws cap)) (sym r.3) ∙ (keys_at w ws cap r.0 r.1 r.2).1)) in (
      len,
      record {
        pass = λ i lt. let f = from i lt in ap has f.4 ∙ t.keys f.0 f.1 (eqb-true (state w ws f.0) 1 f.2);
        all = λ x e.
            let pl = t.reached x e in
            let s = walk cap x pl.steps in
            let a = keys_at w ws cap s (walk_in w cap n used ws has t x pl.steps) (eq-eqb (state w ws s) 1 pl.full) in
            (count (is_full w ws) s, a.0, a.1 ∙ pl.same);
        once = λ i j li lj e.
            let f = from i li in
            let g = from j lj in
            let same : f.0 ≡ g.0 = t.once f.0 g.0 f.1 g.1 (eqb-true (state w ws f.0) 1 f.2) (eqb-true (state w ws g.0) 1 g.2) (sym f.4 ∙ e ∙ g.4) in
            sym f.3 ∙ ap (count (is_full w ws)) same ∙ g.3;
      },
    )

key_words : (w cap n used : ℕ) (ws : List ℕ) (has : Test) → 2 ≤ w → IsTable w ws has cap n used → AreWords ws → (i : ℕ) → i ≤ cap → AreWords (keys_of w ws i)
key_words w cap n used ws has wide t aw zero le = no_words
key_words w cap n used ws has wide t aw (suc i) le =
    let r = key_words w cap n used ws has wide t aw i (omega (arith, le)) in
    let k = aw (w * i + 1) (slot_in w cap n used ws has t i 1 (omega (arith, le)) (omega (arith, wide))) in
    cond_both (is_full w ws i) (keys_of w ws i ++ key w ws i ∷ []) (keys_of w ws i) (λ z. AreWords z)
    (λ e. words_append (keys_of w ws i) (key w ws i ∷ []) r (word_first (key w ws i) [] k no_words)) (λ e. r)

pub key_words_law : KeyWordsLaw
key_words_law w cap n used ws has wide t aw = key_words w cap n used ws has wide t aw cap (omega arith)

-- ---- the procedure

module _ (T : List Proc) (B E w b cap n used x : ℕ) (rest ws : List ℕ) (has : Test) (k : Piece) (wide : 2 ≤ w) (r : Reads b 0 ws k) (t : IsTable w ws has cap n used) (free : Apart x k) (small : (i : ℕ) → i < length ws → suc (0 + i) < 2 ^ 64) (Q : Assertion) where
  abbrev keys_regs : (i j r9 r10 : ℕ) → List ℕ
  keys_regs i j r9 r10 = b ∷ cap ∷ w ∷ n ∷ x ∷ 1 ∷ i ∷ j ∷ 0 ∷ r9 ∷ r10 ∷ []

  abbrev Stops : Type 0
  Stops = (s j r9 r10 : ℕ) → s ≤ E → Q s rest (keys_regs cap j r9 r10) (plus (block x (keys_of w ws cap)) k)

  abbrev Turns : ℕ → ℕ → ℕ → Type 0
  Turns m i s = (r9 r10 : ℕ) (done zs : List ℕ) → keys_of w ws i ≡ done → length done + length zs ≡ n → turns (wp T B keys_test) (wp T B keys_turn) 9 (suc m) Q s rest (keys_regs i (length done) r9 r10) (plus (block x (done ++ zs)) k)

  -- a full slot: its key is stored
  take_key : (m i s : ℕ) (r9 : ℕ) (done zs : List ℕ) → i < cap → state w ws i ≡ 1 → keys_of w ws i ≡ done → length done + length zs ≡ n → Turns m (suc i) (suc (suc (suc (suc (suc s))))) → wp T B keys_take (wp T B (Op 6 Add 6 5 Stop) (turns (wp T B keys_test) (wp T B keys_turn) 9 (suc m) Q)) s rest (keys_regs i (length done) r9 (w * i)) (plus (block x (done ++ zs)) k)
  take_key m i s r9 done [] li full e len next =
      let f : is_full w ws i ≡ true = eq-eqb (state w ws i) 1 full in
      let a = ap one_if f in
      let g = count_grows (suc i) cap (is_full w ws) (omega (arith, li)) in
      let l = keys_length w ws i in
      let d = ap length e in
      absurd (let o : ⊥ = omega (arith, a, g, l, d, len, t.full_are) in o)
  take_key m i s r9 done (z ∷ zs) li full e len next =
      let f : is_full w ws i ≡ true = eq-eqb (state w ws i) 1 full in
      let l1 = slot_in w cap n used ws has t i 1 li (omega (arith, wide)) in
      let s1 = small (w * i + 1) l1 in
      let ne : i < w * i + 1 = (let g = grow i w wide in omega (arith, g)) in
      let v1 = read_word b 0 ws (plus (block x (done ++ z ∷ zs)) k) (w * i + 1) (w * i + 1) (reads_beside b 0 ws k x (done ++ z ∷ zs) r free) l1 (omega arith) in
      let room : length done < length (done ++ z ∷ zs) = omega (arith, length-append done (z ∷ zs)) in
      let set : slice_set (done ++ z ∷ zs) (length done) (key w ws i) ≡ (done ++ key w ws i ∷ []) ++ zs = set-append_seam done z zs (key w ws i) ∙ sym (append_assoc done (key w ws i ∷ []) zs) in
      let step : length done + 1 ≡ length (done ++ key w ws i ∷ []) = sym (length-append done (key w ws i ∷ [])) in
      let few : length done ≤ i = (let l = keys_length w ws i in let d = ap length e in let m = at_most i in omega (arith, l, d, m)) in (
        w * i + 1,
        adds (w * i) 1 (w * i + 1) refl (omega (arith, s1)),
        (
          key w ws i,
          v1.0,
          v1.1,
          (
            plus (block x ((done ++ key w ws i ∷ []) ++ zs)) k,
            own_whole x (done ++ z ∷ zs) k free (length done) room,
            own_set x (done ++ z ∷ zs) k free (length done) (key w ws i) room ∙ ap (λ y. plus (block x y) k) set,
            (
              length (done ++ key w ws i ∷ []),
              adds (length done) 1 _ step (omega (arith, s1, step, few, ne)),
              (
                suc i,
                adds i 1 _ (omega arith) (omega (arith, s1, ne)),
                next r9 (key w ws i) (done ++ key w ws i ∷ []) zs (with_key w ws i f ∙ ap (λ y. y ++ key w ws i ∷ []) e) (omega (arith, len, step)),
              ),
            ),
          ),
        ),
      )
    where
      at_most : (i : ℕ) → count (is_full w ws) i ≤ i
      at_most i = count_most i (is_full w ws)

  keys_turns : Stops → (m i s : ℕ) → i + m ≡ cap → s + 11 * m + 2 ≤ E → Turns m i s
  keys_turns q zero i s e le r9 r10 done [] ks len =
      let all : i ≡ cap = omega (arith, e) in (
        flag (nat_lt i cap),
        refl,
        (
          λ z. subst (λ y. Q (suc (suc s)) rest (keys_regs y (length done) (flag (nat_lt i cap)) r10) (plus (block x (done ++ [])) k)) (sym all)
              (subst (λ y. Q (suc (suc s)) rest (keys_regs cap (length done) (flag (nat_lt i cap)) r10) (plus (block x y) k)) (sym (ap (keys_of w ws) all) ∙ ks ∙ sym (append-nil done))
              (q (suc (suc s)) (length done) (flag (nat_lt i cap)) r10 (omega (arith, le)))),
          λ o. absurd (let f : ⊥ = omega (arith, lt_on i cap o, all) in f),
        ),
      )
  keys_turns q zero i s e le r9 r10 done (z ∷ zs) ks len =
      let all : i ≡ cap = omega (arith, e) in
      let d = ap length (sym (ap (keys_of w ws) all) ∙ ks) in
      let l = keys_length w ws cap in
      absurd (let f : ⊥ = omega (arith, d, l, len, t.full_are) in f)
  keys_turns q (suc m) i s e le r9 r10 done zs ks len =
      let lt : i < cap = omega (arith, e) in
      let l0 = state_in w cap n used ws has t i lt wide in
      let s0 = small (w * i) l0 in
      let g = grow i w wide in
      let v0 = read_word b 0 ws (plus (block x (done ++ zs)) k) (w * i) (w * i) (reads_beside b 0 ws k x (done ++ zs) r free) l0 (omega arith) in (
        flag (nat_lt i cap),
        refl,
        (
          λ z. absurd (let f : ⊥ = omega (arith, lt_off i cap z, lt) in f),
          λ o. (
            w * i,
            muls i w (w * i) (omega arith) (omega (arith, s0)),
            (
              state w ws i,
              v0.0,
              v0.1,
              (
                flag (eqb (state w ws i) 1),
                refl,
                (
                  λ on. take_key m i (suc (suc (suc (suc (suc (suc s)))))) (flag (eqb (state w ws i) 1)) done zs lt (eq_on (state w ws i) 1 on) ks len
                      (keys_turns q m (suc i) (suc (suc (suc (suc (suc (suc (suc (suc (suc (suc (suc s))))))))))) (omega (arith, e)) (omega (arith, le))),
                  λ off. (
                    suc i,
                    adds i 1 _ (omega arith) (omega (arith, s0, g)),
                    keys_turns q m (suc i) (suc (suc (suc (suc (suc (suc (suc s))))))) (omega (arith, e)) (omega (arith, le)) (flag (eqb (state w ws i) 1)) (w * i) done zs (without_key w ws i (ne_eqb (state w ws i) 1 (eq_off (state w ws i) 1 off)) ∙ ks) len,
                  ),
                ),
              ),
            ),
          ),
        ),
      )

pub keys_law : KeysLaw
keys_law T w b cap n used m rest ws has k wide r t le =
    let B = keys_steps cap in
    let End : End_fact = Makes (λ x. x ∷ []) (keys_of w ws cap) k rest in
    does T B lib_keys keys_text refl End (m ∷ rest) (b ∷ cap ∷ w ∷ n ∷ []) k
    (λ h hs. (
      omega arith,
      (
        le,
        λ x free. (
          plus (block x (replicate n 0)) k,
          own_new k x n free,
          λ g hg. (
            suc cap,
            keys_turns T B (11 * cap + 5) w b cap n used x rest ws has k wide r t free (λ i. reads_bound b 0 ws k h i hs r) (Meets B End (4 ∷ []))
                (λ s j r9 r10 ls. (omega (arith, ls), λ g hg. (x, refl, refl, refl)))
                cap 0 3 (omega arith) (omega arith) 0 0 [] (replicate n 0) refl (omega (arith, length-replicate {A = ℕ} n 0)),
          ),
        ),
      ),
    ))
