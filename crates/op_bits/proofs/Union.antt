-- Loops over sets of bits: the union, and the least element.
use Rattle.std.proofs.Common.{◌≡◌, ◌≢◌, ℕ, zero, suc, ◌+◌, ◌*◌, ◌^◌, ◌<◌, ◌≤◌, true, false, cond, List, [], ◌∷◌, refl, sym, ap, ◌∙◌, subst, arith}
use Rattle.std.specs.Prelude.{nat_lt}
use Rattle.containers.specs.Sets as sets
use Rattle.target_code.specs.declared.tree.Proc.{Proc}
use Rattle.target_meaning.specs.Piece.{Piece, plus}
use Rattle.triple_logic.specs.Blocks.{block, Reads, Apart}
use Rattle.triple_logic.specs.Weakest.{Assertion, Meets, turns, wp}
use Rattle.triple_logic.proofs.Blocks.{reads_beside, apart, adds, flag, lt_on, lt_off}
use Rattle.triple_logic.proofs.Ends.{by_law}
use Rattle.triple_logic.proofs.Sound.{does}
use Rattle.relations.specs.Represents.{Set, one_if}
use Rattle.op_bits.specs.Bits.{HasBits, GivesBits, GivesMember, bits_has, HasHas, bits_insert, HasInsert, pick_test, pick_turn, pick_text, bits_pick, PickLaw, union_test, union_turn, union_text, bits_union, UnionLaw}
use Rattle.op_bits.proofs.BitsLemmas.{has_law, insert_law}
use Rattle.op_bits.proofs.Merged.{merged, merged_all, merged_len}
use Rattle.op_bits.proofs.Words.{bit_on, bit_off}

module _ (T : List Proc) (B u b c m : ℕ) (a ks : List ℕ) (d e : Set) (k : Piece) (f1 : HasHas T) (f2 : HasInsert T) (small : u < 2 ^ 32) (most : sets.len (merged d e u) < 2 ^ 32) (r : Reads c 0 ks k) (free : Apart b k) (es : HasBits u e ks) (Q : Assertion) where
  abbrev union_regs : ℕ → ℕ → ℕ → List ℕ
  union_regs n i t = u ∷ b ∷ n ∷ c ∷ m ∷ i ∷ 1 ∷ t ∷ []

  union_turns : (l i : ℕ) → i + l ≡ u → (ws : List ℕ) → HasBits u (merged d e i) ws → (s t : ℕ) → s + 28 * l + 2 ≤ B → ((n t : ℕ) (ws : List ℕ) → HasBits u (merged d e u) ws → n ≤ s + 28 * l + 2 → Q n a (union_regs (sets.len (merged d e u)) u t) (plus (block b ws) k)) → turns (wp T B union_test) (wp T B union_turn) 7 (suc l) Q s a (union_regs (sets.len (merged d e i)) i t) (plus (block b ws) k)
  union_turns zero i z ws is s t le q =
      let all : i ≡ u = omega (arith, z) in (
        flag (nat_lt i u),
        refl,
        (
          λ o. subst (λ y. Q (suc (suc s)) a (union_regs (sets.len (merged d e y)) y (flag (nat_lt i u))) (plus (block b ws) k)) (sym all) (q (suc (suc s)) (flag (nat_lt i u)) ws (subst (λ y. HasBits u (merged d e y) ws) all is) (omega arith)),
          λ o. absurd (let f : ⊥ = omega (arith, lt_on i u o, all) in f),
        ),
      )
  union_turns (suc l) i z ws is s t le q =
      let lt : i < u = omega (arith, z) in (
        flag (nat_lt i u),
        refl,
        (
          λ o. absurd (let f : ⊥ = omega (arith, lt_off i u o, lt) in f),
          λ o. (
            bits_has,
            f1,
            10,
            omega (arith, le),
            by_law T (Unit {0}) _ _ _ _ _ _ _ _ (has_law T u c m i a ks e (plus (block b ws) k) (reads_beside c 0 ks k b ws r free) es)
                (λ x h hs. (
                  λ on.
                      let yes : sets.contains e i ≡ true = bit_on (sets.contains e i) on in (
                        bits_insert,
                        f2,
                        12,
                        omega (arith, le),
                        by_law T ((ws : List ℕ) × HasBits u (sets.insert (merged d e i) i) ws) _ _ _ _ _ _ _ _ (insert_law T u b i a ws (merged d e i) k lt (omega (arith, most, merged_len d e (suc l) i u z)) is)
                            (λ x h hs.
                            let same : sets.insert (merged d e i) i ≡ merged d e (suc i) = sym (ap (λ y. cond y (sets.insert (merged d e i) i) (merged d e i)) yes) in (
                              suc i,
                              adds i 1 _ (omega arith) (omega (arith, lt, small)),
                              subst (λ y. turns (wp T B union_test) (wp T B union_turn) 7 (suc l) Q (suc (suc (suc (suc (suc (suc s)) + 10)) + 12)) a (union_regs (sets.len y) (suc i) (one_if (sets.contains e i))) (plus (block b x.0) k)) (sym same)
                                  (union_turns l (suc i) (omega (arith, z)) x.0 (subst (λ y. HasBits u y x.0) same x.1) (suc (suc (suc (suc (suc (suc s)) + 10)) + 12)) (one_if (sets.contains e i)) (omega (arith, le)) (λ n t ws is le. q n t ws is (omega (arith, le)))),
                            )),
                      ),
                  λ off.
                      let no : sets.contains e i ≡ false = bit_off (sets.contains e i) off in
                      let same : merged d e i ≡ merged d e (suc i) = sym (ap (λ y. cond y (sets.insert (merged d e i) i) (merged d e i)) no) in (
                        suc i,
                        adds i 1 _ (omega arith) (omega (arith, lt, small)),
                        subst (λ y. turns (wp T B union_test) (wp T B union_turn) 7 (suc l) Q (suc (suc (suc (suc (suc s)) + 10))) a (union_regs (sets.len y) (suc i) (one_if (sets.contains e i))) (plus (block b ws) k)) (sym same)
                            (union_turns l (suc i) (omega (arith, z)) ws (subst (λ y. HasBits u y ws) same is) (suc (suc (suc (suc (suc s)) + 10))) (one_if (sets.contains e i)) (omega (arith, le)) (λ n t ws is le. q n t ws is (omega (arith, le)))),
                      ),
                )),
          ),
        ),
      )

pub union_law : UnionLaw
union_law T u b c m a ws ks d e k f1 f2 small most ds r es =
    let all = merged_all d e u es.bounded in
    let B = 28 * u + 5 in
    does T B bits_union union_text refl (GivesBits u (sets.union d e) b k a) a (u ∷ b ∷ sets.len d ∷ c ∷ m ∷ []) (plus (block b ws) k)
    (λ h hs. (
      suc u,
      union_turns T B u b c m a ks d e k f1 f2 small (subst (λ y. sets.len y < 2 ^ 32) (sym all) most) r (apart b ws k h hs) es (Meets B (GivesBits u (sets.union d e) b k a) (1 ∷ 2 ∷ [])) u 0 (omega arith) ws ds 2 0 (omega arith)
          (λ n t ws is le. (omega (arith, le), λ g hg. ((ws, subst (λ y. HasBits u y ws) all is), refl, ap (λ y. b ∷ sets.len y ∷ []) all, refl))),
    ))

-- ---- the first number that is an element

module _ (T : List Proc) (B u b n x : ℕ) (a ws : List ℕ) (st : Set) (k : Piece) (found : HasHas T) (small : u < 2 ^ 32) (there : sets.contains st x ≡ true) (r : Reads b 0 ws k) (bs : HasBits u st ws) (Q : Assertion) where
  abbrev pick_regs : ℕ → ℕ → List ℕ
  pick_regs i t = u ∷ b ∷ n ∷ i ∷ 1 ∷ t ∷ []

  abbrev test_of : ℕ → ℕ
  test_of i = flag (nat_lt (one_if (sets.contains st i)) 1)

  stays : (i : ℕ) → test_of i ≡ 0 → sets.contains st i ≡ true
  stays i o = bit_on (sets.contains st i) (λ z. let le : 1 ≤ one_if (sets.contains st i) = lt_off (one_if (sets.contains st i)) 1 o in let f : ⊥ = omega (arith, le, z) in f)

  goes_on : (i : ℕ) → (test_of i ≡ 0 → ⊥) → sets.contains st i ≡ false
  goes_on i o = bit_off (sets.contains st i) (let lt = lt_on (one_if (sets.contains st i)) 1 o in let z : one_if (sets.contains st i) ≡ 0 = omega (arith, lt) in z)

  is_other : (i : ℕ) → sets.contains st i ≡ false → i ≢ x
  is_other i e d = let f : true ≡ false = sym there ∙ ap (sets.contains st) (sym d) ∙ e in cc f

  pick_turns : (l i : ℕ) → i + l ≡ x → (s t : ℕ) → s + 14 * l + 14 ≤ B → ((n t y : ℕ) → sets.contains st y ≡ true → n ≤ s + 14 * l + 13 → Q n a (pick_regs y t) k) → turns (wp T B pick_test) (wp T B pick_turn) 5 (suc l) Q s a (pick_regs i t) k
  pick_turns zero i z s t le q = (
    bits_has,
    found,
    10,
    omega (arith, le),
    by_law T (Unit {0}) _ _ _ _ _ _ _ _ (has_law T u b n i a ws st k r bs)
        (λ o h hs. (
          test_of i,
          refl,
          (
            λ e. q (suc (suc (suc s + 10))) (test_of i) i (stays i e) (omega arith),
            λ e. absurd (let f : i ≡ x → ⊥ = is_other i (goes_on i e) in f (omega (arith, z))),
          ),
        )),
  )
  pick_turns (suc l) i z s t le q = (
    bits_has,
    found,
    10,
    omega (arith, le),
    by_law T (Unit {0}) _ _ _ _ _ _ _ _ (has_law T u b n i a ws st k r bs)
        (λ o h hs. (
          test_of i,
          refl,
          (
            λ e. q (suc (suc (suc s + 10))) (test_of i) i (stays i e) (omega arith),
            λ e.
                let lt = bs.bounded x there in (
                  suc i,
                  adds i 1 _ (omega arith) (omega (arith, z, lt, small)),
                  pick_turns l (suc i) (omega (arith, z)) (suc (suc (suc (suc s + 10)))) (test_of i) (omega (arith, le)) (λ n t y c le. q n t y c (omega (arith, le))),
                ),
          ),
        )),
  )

pub pick_law : PickLaw
pick_law T u b n x a ws st k found small there r bs =
    let B = 14 * u + 20 in
    let lt = bs.bounded x there in
    does T B bits_pick pick_text refl (GivesMember st k a) a (u ∷ b ∷ n ∷ []) k
    (λ h hs. (
      suc x,
      pick_turns T B u b n x a ws st k found small there r bs (Meets B (GivesMember st k a) (3 ∷ [])) x 0 (omega arith) 2 0 (omega (arith, lt))
          (λ n t y c le. (omega (arith, le, lt), λ g hg. ((y, c), refl, refl, refl))),
    ))
