-- A slice that is cut in two, and two slices that are joined, as representations.
use Rattle.std.proofs.Common.{◌≡◌, ℕ, zero, suc, ◌+◌, ◌-◌, ◌^◌, ◌<◌, ◌≤◌, ◌⊎◌, ⊎_elim, List, [], ◌∷◌, ◌++◌, length, refl, sym, ap, ◌∙◌, subst, arith}
use Rattle.std.proofs.lemmas.List.{length-take, length-drop, length-append}
use Rattle.std.proofs.lemmas.List.{get_or-take, get_or-drop, get_or_append_left, get_or-append-add}
use Rattle.std.specs.Prelude.{take, drop, slice_index}
use Rattle.nres_core.specs.declared.value.Value.TheVariants as v
use Rattle.target_code.specs.declared.tree.Rep.TheVariants as rep
use Rattle.target_meaning.specs.Machine.{Heap}
use Rattle.target_meaning.specs.Piece.{Piece, plus, Holds}
use Rattle.triple_logic.specs.Parts.{front, back}
use Rattle.relations.specs.Blocks.{AreWords, range, Exactly}
use Rattle.relations.specs.Represents.{Represents}
use Rattle.relations.proofs.Small.{word_first}
use Rattle.triple_logic.proofs.Blocks.{reads_bound}
use Rattle.layout_facts.proofs.Contents.{range_reads}
use Rattle.layout_facts.proofs.Ranges.{front_exact, back_exact, join_exact}

first_words : (k : ℕ) (xs : List ℕ) → AreWords xs → AreWords (take k xs)
first_words k xs w i lt =
    let n = length-take k xs in
    let lk : i < k = omega (arith, lt, n) in
    let lx : i < length xs = omega (arith, lt, n) in
    subst (λ y. y < 2 ^ 64) (sym (get_or-take k xs i 0 lk)) (w i lx)

last_words : (k : ℕ) (xs : List ℕ) → AreWords xs → AreWords (drop k xs)
last_words k xs w i lt =
    let n = length-drop k xs in
    subst (λ y. y < 2 ^ 64) (sym (get_or-drop k xs i 0)) (w (k + i) (omega (arith, lt, n)))

both_words : (xs ys : List ℕ) → AreWords xs → AreWords ys → AreWords (xs ++ ys)
both_words xs ys w z i lt =
    let n = length-append xs ys in
    ⊎_elim (λ l. subst (λ y. y < 2 ^ 64) (sym (get_or_append_left xs ys 0 i l)) (w i l))
    (λ g. let e : i ≡ length xs + (i - length xs) = omega (arith, g) in
    subst (λ y. y < 2 ^ 64) (sym (ap (slice_index (xs ++ ys)) e ∙ get_or-append-add xs ys (i - length xs) 0)) (z (i - length xs) (omega (arith, g, lt, n))))
    (let o : (i < length xs) ⊎ (length xs ≤ i) = grind arith in o)

three_words : (a b c : ℕ) → a < 2 ^ 64 → b < 2 ^ 64 → c < 2 ^ 64 → AreWords (a ∷ b ∷ c ∷ [])
three_words a b c la lb lc = word_first a (b ∷ c ∷ []) la (word_first b (c ∷ []) lb (word_first c [] lc (λ i lt. absurd (let z : ⊥ = omega (arith, lt) in z))))

module _ (b off len : ℕ) (xs : List ℕ) (p : Piece) (r : Represents rep.Slice (v.List xs) (b ∷ off ∷ len ∷ []) p) where
  -- the places of a slice that a heap has are below 2^64
  end_is_word : (h : Heap) → Holds p h → off + length xs < 2 ^ 64
  end_is_word h hs = by (length xs) refl
    where
      by : (n : ℕ) → length xs ≡ n → off + length xs < 2 ^ 64
      by zero e = let w : off < 2 ^ 64 = r.registers 1 (omega arith) in omega (arith, w, e)
      by (suc n) e = let w = reads_bound b off xs p h n hs (range_reads b off xs p r.layout.piece) (omega (arith, e)) in omega (arith, w, e)

  module _ (k : ℕ) (le : k ≤ length xs) where
    pub front_slice_is : Represents rep.Slice (v.List (take k xs)) (b ∷ off ∷ k ∷ []) (front b (suc (off + k)) p)
    front_slice_is =
        let n : length (take k xs) ≡ k = omega (arith, length-take k xs, le) in
        let small = r.layout.small in
        record {
          registers = three_words b off k (r.registers 0 (omega arith)) (r.registers 1 (omega arith)) (omega (arith, small, le));
          layout = record { piece = front_exact b off k xs p le r.layout.piece; words = first_words k xs r.layout.words; count = sym n; small = omega (arith, n, small, le) };
        }

    pub back_slice_is : (h : Heap) → Holds p h → Represents rep.Slice (v.List (drop k xs)) (b ∷ (off + k) ∷ (length xs - k) ∷ []) (back b (suc (off + k)) p)
    back_slice_is h hs =
        let n : length (drop k xs) ≡ length xs - k = length-drop k xs in
        let small = r.layout.small in
        let end = end_is_word h hs in
        record {
          registers = three_words b (off + k) (length xs - k) (r.registers 0 (omega arith)) (omega (arith, end, le)) (omega (arith, small));
          layout = record { piece = back_exact b off k xs p le r.layout.piece; words = last_words k xs r.layout.words; count = sym n; small = omega (arith, n, small) };
        }

pub joined_slice_is : (b off m n : ℕ) (xs ys : List ℕ) (p q : Piece) (h : Heap) → Holds (plus p q) h → length xs + length ys < 2 ^ 32 → Represents rep.Slice (v.List xs) (b ∷ off ∷ m ∷ []) p → Represents rep.Slice (v.List ys) (b ∷ (off + m) ∷ n ∷ []) q → Represents rep.Slice (v.List (xs ++ ys)) (b ∷ off ∷ (m + n) ∷ []) (plus p q)
joined_slice_is b off m n xs ys p q h hs small r s =
    let l = length-append xs ys in
    let cm = r.layout.count in
    let cn = s.layout.count in
    record {
      registers = three_words b off (m + n) (r.registers 0 (omega arith)) (r.registers 1 (omega arith)) (omega (arith, small, cm, cn));
      layout = record {
        piece = join_exact b off xs ys p q h hs r.layout.piece (subst (λ y. Exactly (range b (off + y) ys) q) cm s.layout.piece);
        words = both_words xs ys r.layout.words s.layout.words;
        count = omega (arith, l, cm, cn);
        small = omega (arith, l, small);
      };
    }
