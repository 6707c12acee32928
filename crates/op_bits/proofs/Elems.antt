-- The elements of a set of bits, into a new block.
use Rattle.std.proofs.Common.{◌≡◌, ℕ, zero, suc, ◌+◌, ◌*◌, ◌^◌, ◌<◌, ◌≤◌, cond, List, [], ◌∷◌, ◌++◌, length, replicate, refl, sym, ap, ◌∙◌, subst, arith, append_assoc, append-nil}
use Rattle.std.proofs.Math.Seq.{set-append_seam}
use Rattle.std.proofs.lemmas.List.{length-append, length-replicate, nil_from_length}
use Rattle.std.specs.Prelude.{nat_lt, slice_set}
use Rattle.containers.specs.Sets as sets
use Rattle.target_code.specs.declared.tree.Proc.{Proc}
use Rattle.target_meaning.specs.Machine.{Heap}
use Rattle.target_meaning.specs.Piece.{Piece, plus, Holds}
use Rattle.triple_logic.specs.Blocks.{block, Reads, Apart}
use Rattle.triple_logic.specs.Copy.{Makes}
use Rattle.triple_logic.specs.Weakest.{Assertion, Meets, turns, wp}
use Rattle.triple_logic.proofs.Blocks.{own_new, own_set, own_whole, reads_beside, own_bound, adds, flag, lt_on, lt_off}
use Rattle.triple_logic.proofs.Ends.{by_law}
use Rattle.triple_logic.proofs.Sound.{does}
use Rattle.relations.specs.Represents.{Set, one_if}
use Rattle.op_bits.specs.Bits.{HasBits, bits_has, HasHas, union_test, elems_turn, elems_text, bits_elems, ElemsLaw}
use Rattle.op_bits.proofs.BitsLemmas.{has_law}
use Rattle.op_bits.proofs.Members.{members, set_members, members_length, len_items}
use Rattle.op_bits.proofs.Words.{bit_on, bit_off}

-- the next word is replaced by an element
pub filled : (done zs next : List ℕ) (i : ℕ) → done ++ i ∷ [] ≡ next → 0 < length zs → (ys : List ℕ) × (slice_set (done ++ zs) (length done) i ≡ next ++ ys) × (length zs ≡ suc (length ys))
filled done [] next i e lt = absurd (let f : ⊥ = omega (arith, lt) in f)
filled done (w ∷ ys) next i e lt = (ys, set-append_seam done w ys i ∙ sym (append_assoc done (i ∷ []) ys) ∙ ap (λ z. z ++ ys) e, refl)

module _ (T : List Proc) (B u b x n : ℕ) (a ws : List ℕ) (st : Set) (k : Piece) (found : HasHas T) (small : u < 2 ^ 32) (r : Reads b 0 ws k) (free : Apart x k) (bs : HasBits u st ws) (all : n ≡ length (members (sets.contains st) u)) (most : n < 2 ^ 64) (Q : Assertion) where
  abbrev elems_regs : ℕ → ℕ → ℕ → List ℕ
  elems_regs i j t = u ∷ b ∷ n ∷ x ∷ 1 ∷ i ∷ j ∷ t ∷ 0 ∷ []

  abbrev Turns : ℕ → ℕ → ℕ → List ℕ → ℕ → ℕ → Type 0
  Turns l s i ys j t = turns (wp T B union_test) (wp T B elems_turn) 7 (suc l) Q s a (elems_regs i j t) (plus (block x ys) k)

  elems_turns : (l i : ℕ) → i + l ≡ u → (zs : List ℕ) → length (members (sets.contains st) i) + length zs ≡ n → (s t : ℕ) → s + 17 * l + 2 ≤ B → ((m j t : ℕ) → m ≤ s + 17 * l + 2 → Q m a (elems_regs u j t) (plus (block x (members (sets.contains st) u)) k)) → Turns l s i (members (sets.contains st) i ++ zs) (length (members (sets.contains st) i)) t
  elems_turns zero i z zs len s t le q =
      let e : i ≡ u = omega (arith, z) in
      let same = ap (λ y. length (members (sets.contains st) y)) e in
      let none : zs ≡ [] = nil_from_length zs (omega (arith, len, all, same)) in
      let words : members (sets.contains st) i ++ zs ≡ members (sets.contains st) u = ap (λ y. members (sets.contains st) i ++ y) none ∙ append-nil (members (sets.contains st) i) ∙ ap (members (sets.contains st)) e in (
        flag (nat_lt i u),
        refl,
        (
          λ o. subst (λ y. Q (suc (suc s)) a (elems_regs y (length (members (sets.contains st) i)) (flag (nat_lt i u))) (plus (block x (members (sets.contains st) i ++ zs)) k)) (sym e)
              (subst (λ y. Q (suc (suc s)) a (elems_regs u (length (members (sets.contains st) i)) (flag (nat_lt i u))) (plus (block x y) k)) (sym words) (q (suc (suc s)) (length (members (sets.contains st) i)) (flag (nat_lt i u)) (omega arith))),
          λ o. absurd (let f : ⊥ = omega (arith, lt_on i u o, e) in f),
        ),
      )
  elems_turns (suc l) i z zs len s t le q =
      let lt : i < u = omega (arith, z) in (
        flag (nat_lt i u),
        refl,
        (
          λ o. absurd (let f : ⊥ = omega (arith, lt_off i u o, lt) in f),
          λ o. (
            bits_has,
            found,
            10,
            omega (arith, le),
            by_law T (Unit {0}) _ _ _ _ _ _ _ _ (has_law T u b n i a ws st (plus (block x (members (sets.contains st) i ++ zs)) k) (reads_beside b 0 ws k x (members (sets.contains st) i ++ zs) r free) bs)
                (λ y h hs. (
                  λ on.
                      let same : members (sets.contains st) i ++ i ∷ [] ≡ members (sets.contains st) (suc i) = sym (ap (λ y. cond y (members (sets.contains st) i ++ i ∷ []) (members (sets.contains st) i)) (bit_on (sets.contains st i) on)) in
                      let next : length (members (sets.contains st) i) + 1 ≡ length (members (sets.contains st) (suc i)) = sym (length-append (members (sets.contains st) i) (i ∷ [])) ∙ ap length same in
                      let some : 0 < length zs = omega (arith, next, all, len, members_length (sets.contains st) l (suc i) u (omega (arith, z))) in
                      let f = filled (members (sets.contains st) i) zs (members (sets.contains st) (suc i)) i same some in
                      let room : length (members (sets.contains st) i) < length (members (sets.contains st) i ++ zs) = omega (arith, some, length-append (members (sets.contains st) i) zs) in (
                        plus (block x (members (sets.contains st) (suc i) ++ f.0)) k,
                        own_whole x (members (sets.contains st) i ++ zs) k free (length (members (sets.contains st) i)) room,
                        own_set x (members (sets.contains st) i ++ zs) k free (length (members (sets.contains st) i)) i room ∙ ap (λ y. plus (block x y) k) f.1,
                        (
                          length (members (sets.contains st) (suc i)),
                          adds (length (members (sets.contains st) i)) 1 _ next (omega (arith, next, len, some, most)),
                          (
                            suc i,
                            adds i 1 _ (omega arith) (omega (arith, lt, small)),
                            elems_turns l (suc i) (omega (arith, z)) f.0 (omega (arith, next, len, f.2)) (suc (suc (suc (suc (suc (suc (suc s)) + 10))))) (one_if (sets.contains st i)) (omega (arith, le)) (λ m j t le. q m j t (omega (arith, le))),
                          ),
                        ),
                      ),
                  λ off.
                      let same : members (sets.contains st) i ≡ members (sets.contains st) (suc i) = sym (ap (λ y. cond y (members (sets.contains st) i ++ i ∷ []) (members (sets.contains st) i)) (bit_off (sets.contains st i) off)) in (
                        suc i,
                        adds i 1 _ (omega arith) (omega (arith, lt, small)),
                        subst (λ y. Turns l (suc (suc (suc (suc (suc s)) + 10))) (suc i) (y ++ zs) (length y) (one_if (sets.contains st i))) (sym same)
                            (elems_turns l (suc i) (omega (arith, z)) zs (ap (λ y. length y + length zs) (sym same) ∙ len) (suc (suc (suc (suc (suc s)) + 10))) (one_if (sets.contains st i)) (omega (arith, le)) (λ m j t le. q m j t (omega (arith, le)))),
                      ),
                )),
          ),
        ),
      )

pub word_length : (x n : ℕ) (k : Piece) (g : Heap) → Holds (plus (block x (replicate n 0)) k) g → n < 2 ^ 64
word_length x n k g hg = omega (arith, own_bound x (replicate n 0) k g hg, length-replicate {A = ℕ} n 0)

pub elems_law : ElemsLaw
elems_law T u b w a ws st k found small r bs le =
    let B = 17 * u + 6 in
    let n = sets.len st in
    let items = set_members st u bs.bounded in
    let all : n ≡ length (members (sets.contains st) u) = len_items st ∙ ap length (sym items) in
    let E = Makes (λ x. x ∷ 0 ∷ sets.len st ∷ []) (sets.items st) k a in
    does T B bits_elems elems_text refl E (w ∷ a) (u ∷ b ∷ sets.len st ∷ []) k
    (λ h hs. (
      omega arith,
      (
        le,
        λ x free. (
          plus (block x (replicate (sets.len st) 0)) k,
          own_new k x (sets.len st) free,
          λ g hg. (
            suc u,
            elems_turns T B u b x (sets.len st) a ws st k found small r free bs all (word_length x (sets.len st) k g hg) (Meets B E (3 ∷ 8 ∷ 2 ∷ [])) u 0 (omega arith) (replicate (sets.len st) 0) (let z : 0 + length (replicate {A = ℕ} (sets.len st) 0) ≡ sets.len st = omega (arith, length-replicate {A = ℕ} (sets.len st) 0) in z) 3 0 (omega arith)
                (λ m j t le. (omega (arith, le), λ g' hg'. (x, refl, refl, ap (λ y. plus (block x y) k) items))),
          ),
        ),
      ),
    ))
