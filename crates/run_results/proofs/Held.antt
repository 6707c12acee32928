-- Blocks that are held whole.
use Rattle.std.proofs.Common.{◌≡◌, ◌≢◌, ℕ, zero, suc, ◌+◌, ◌-◌, ◌<◌, ◌≤◌, ◌⊎◌, inl, inr, ⊎_elim, Bool, true, false, cond, ◌&&◌, List, [], ◌∷◌, ◌++◌, length, refl, sym, ap, ◌∙◌, subst, arith, eqb, eq-eqb, eqb-true}
use Rattle.std.proofs.Math.Seq.{get_or-append_seam}
use Rattle.std.proofs.lemmas.List.{length-append, get_or_append_left}
use Rattle.std.specs.Prelude.{Option, Some, None, nat_le, slice_index, if◌then◌else◌, ◌==◌}
use Rattle.target_meaning.specs.Piece.{Share, Nil, Some_of, Clash, Piece, whole}
use Rattle.branch_exec.specs.Stores.{is_whole, words_whole, block_whole, is_outside, word_seen, sees}
use Rattle.branch_exec.specs.declared.store.Seen.{Seen}
use Rattle.branch_exec.specs.declared.store.Seen.TheVariants as seen
use Rattle.run_stores.specs.Rows.{length_in, whole_length}
use Rattle.run_results.specs.Results.{HoldsBlock, IsBlock}

-- words that are held whole pass the test
all_whole : (at : ℕ → Share) (n : ℕ) → ((i : ℕ) → i < n → is_whole (at (suc i)) ≡ true) → words_whole at n ≡ true
all_whole at zero h = refl
all_whole at (suc n) h = (λ i. h n (omega arith) i && all_whole at n (λ k lt. h k (omega arith)) i)

-- and those that pass it are held whole
both_true : (a b : Bool) → (a && b) ≡ true → (a ≡ true) × (b ≡ true)
both_true true b e = (refl, e)
both_true false b e = absurd (let z : ⊥ = cc e in z)

one_whole : (at : ℕ → Share) (n : ℕ) → words_whole at n ≡ true → (i : ℕ) → i < n → is_whole (at (suc i)) ≡ true
one_whole at zero h i lt = absurd (let z : ⊥ = omega arith in z)
one_whole at (suc n) h i lt =
    let b = both_true (is_whole (at (suc n))) (words_whole at n) h in
    ⊎_elim
    (λ (l : i < n). one_whole at n b.1 i l)
    (λ (e : i ≡ n). subst (λ k. is_whole (at (suc k)) ≡ true) (sym e) b.0)
    (let o : (i < n) ⊎ (i ≡ n) = grind arith in o)

-- a whole share has a value
has_value : (s : Share) → is_whole s ≡ true → (v : ℕ) × (s ≡ Some_of v (whole - 1))
has_value Nil e = absurd (let z : ⊥ = cc e in z)
has_value (Some_of v k) e =
    let q : suc k ≡ whole = eqb-true (suc k) whole e in
    (v, ap (Some_of v) (let z : k ≡ whole - 1 = omega arith in z))
has_value Clash e = absurd (let z : ⊥ = cc e in z)

share_whole : (v : ℕ) → is_whole (Some_of v (whole - 1)) ≡ true
share_whole v = eq-eqb (suc (whole - 1)) whole (omega arith)

-- a block that is held whole has the length that is told
pub length_told : (p : Piece) (b : ℕ) (ws : List ℕ) → HoldsBlock p b ws → whole_length p b ≡ Some (length ws)
length_told p b ws h =
    let n = length ws in
    let words : words_whole (p b) n ≡ true = all_whole (p b) n (λ i lt. ap is_whole (h.words i lt) ∙ share_whole (slice_index ws i)) in
    ap (λ s. if block_whole s (p b) then length_in s else None) h.name
    ∙ ap (λ c. if c && words_whole (p b) n then Some n else None) (share_whole n)
    ∙ ap (λ c. if c then Some n else None) words

-- what the length tells of a block
pub record Told (p : Piece) (b n : ℕ) : Type 0 where
  pub name : p b 0 ≡ Some_of n (whole - 1)
  pub words : (i : ℕ) → i < n → is_whole (p b (suc i)) ≡ true

told_by : (p : Piece) (b n : ℕ) (s : Share) → p b 0 ≡ s → (if block_whole s (p b) then length_in s else None) ≡ Some n → Told p b n
told_by p b n Nil is e = absurd (let z : ⊥ = cc e in z)
told_by p b n (Some_of m k) is e = by (block_whole (Some_of m k) (p b)) refl
  where
    by : (c : Bool) → block_whole (Some_of m k) (p b) ≡ c → Told p b n
    by true q =
        let f : Some m ≡ Some n = subst (λ c. (if c then Some m else None) ≡ Some n) q e in
        let same : m ≡ n = cc f in
        let both = both_true (suc k == whole) (words_whole (p b) m) q in
        let top : suc k ≡ whole = eqb-true (suc k) whole both.0 in
        let less : k ≡ whole - 1 = omega arith in
        subst (λ l. Told p b l) same (record {
          name = is ∙ ap (Some_of m) less;
          words = one_whole (p b) m both.1;
        })
    by false q = absurd (let z : ⊥ = let f = subst (λ c. (if c then Some m else None) ≡ Some n) q e in cc f in z)
told_by p b n Clash is e = absurd (let z : ⊥ = cc e in z)

pub told : (p : Piece) (b n : ℕ) → whole_length p b ≡ Some n → Told p b n
told p b n e = told_by p b n (p b 0) refl e

-- where no length is told, no block is held whole
pub none_held : (p : Piece) (b : ℕ) (o : Option ℕ) → o ≡ whole_length p b → o ≡ None → IsBlock p b None
none_held p b o a e ws h =
    let z : None ≡ Some (length ws) = sym e ∙ a ∙ length_told p b ws h in cc z

-- a word of such a block is seen
pub word_seen_whole : (p : Piece) (b n i : ℕ) → Told p b n → i < n → (v : ℕ) × (p b (suc i) ≡ Some_of v (whole - 1)) × (sees p b i ≡ seen.Word v)
word_seen_whole p b n i t lt =
    let v = has_value (p b (suc i)) (t.words i lt) in
    let short : nat_le n i ≡ false = grind arith in (
      v.0,
      v.1,
      ap (λ s. if is_outside s i then seen.Outside else word_seen (p b (suc i))) t.name
          ∙ ap (λ c. if c then seen.Outside else word_seen (p b (suc i))) short
          ∙ ap word_seen v.1,
    )

-- the first words of a block
pub record Begun (p : Piece) (b n : ℕ) (ws : List ℕ) (i : ℕ) : Type 0 where
  pub count : length ws ≡ i
  pub within : i ≤ n
  pub words : (k : ℕ) → k < i → p b (suc k) ≡ Some_of (slice_index ws k) (whole - 1)

pub nothing_yet : (p : Piece) (b n : ℕ) → Begun p b n [] 0
nothing_yet p b n = record { count = refl; within = omega arith; words = λ k lt. absurd (let z : ⊥ = omega arith in z) }

same_word : (v w : ℕ) → seen.Word v ≡ seen.Word w → v ≡ w
same_word v w e = cc e

-- one word more
pub next_word : (p : Piece) (b n : ℕ) (ws : List ℕ) (i w : ℕ) → Some n ≡ whole_length p b → i < n → seen.Word w ≡ sees p b i → Begun p b n ws i → Begun p b n (ws ++ w ∷ []) (i + 1)
next_word p b n ws i w len lt is h =
    let v = word_seen_whole p b n i (told p b n (sym len)) lt in
    let same : w ≡ v.0 = same_word w v.0 (is ∙ v.2) in
    let c : length ws ≡ i = h.count in
    record {
      count = let l : length (ws ++ w ∷ []) ≡ length ws + 1 = length-append ws (w ∷ []) in omega (arith, l, c);
      within = omega (arith, lt);
      words = λ k less. at k less (lower_or_last k less);
    }
  where
    lower_or_last : (k : ℕ) → k < i + 1 → (k < i) ⊎ (k ≡ i)
    lower_or_last k less = grind arith

    at : (k : ℕ) → k < i + 1 → (k < i) ⊎ (k ≡ i) → p b (suc k) ≡ Some_of (slice_index (ws ++ w ∷ []) k) (whole - 1)
    at k less (inl l) =
        let c : length ws ≡ i = h.count in
        h.words k l ∙ ap (λ z. Some_of z (whole - 1)) (sym (get_or_append_left ws (w ∷ []) 0 k (omega (arith, l, c))))
    at k less (inr e) =
        let c : length ws ≡ i = h.count in
        let v = word_seen_whole p b n i (told p b n (sym len)) lt in
        let same : w ≡ v.0 = same_word w v.0 (is ∙ v.2) in
        let spot : k ≡ length ws = e ∙ sym c in
        ap (λ q. p b (suc q)) e ∙ v.1 ∙ ap (λ z. Some_of z (whole - 1)) (sym same ∙ sym (ap (λ q. slice_index (ws ++ w ∷ []) q) spot ∙ get_or-append_seam ws w [] 0))

-- all of them
pub all_words : (p : Piece) (b n : ℕ) (ws : List ℕ) (i : ℕ) → Some n ≡ whole_length p b → n ≤ i → Begun p b n ws i → HoldsBlock p b ws
all_words p b n ws i len le h =
    let c = h.count in
    let w = h.within in
    let full : n ≡ length ws = omega (arith, c, w, le) in
    record {
      name = (told p b n (sym len)).name ∙ ap (λ k. Some_of k (whole - 1)) full;
      words = λ k lt. h.words k (omega (arith, lt, c));
    }

-- no other answer comes
pub no_outside : (p : Piece) (b n i : ℕ) (a : Seen) → Some n ≡ whole_length p b → i < n → a ≡ sees p b i → ((v : ℕ) → a ≡ seen.Word v → ⊥) → ⊥
no_outside p b n i a len lt is other =
    let v = word_seen_whole p b n i (told p b n (sym len)) lt in other v.0 (is ∙ v.2)

-- the words of a block that is held whole are one list
some_same : (n k m j : ℕ) → Some_of n k ≡ Some_of m j → n ≡ m
some_same n k m j e = cc e

same_list : (xs ys : List ℕ) → length xs ≡ length ys → ((i : ℕ) → i < length xs → slice_index xs i ≡ slice_index ys i) → xs ≡ ys
same_list [] [] l h = refl
same_list [] (y ∷ ys) l h = absurd (let z : ⊥ = omega arith in z)
same_list (x ∷ xs) [] l h = absurd (let z : ⊥ = omega arith in z)
same_list (x ∷ xs) (y ∷ ys) l h =
    let first : x ≡ y = h 0 (omega arith) in
    let rest : xs ≡ ys = same_list xs ys (omega arith) (λ i lt. h (suc i) (omega arith)) in
    (λ i. first i ∷ rest i)

pub one_block : (p : Piece) (b : ℕ) (xs ys : List ℕ) → HoldsBlock p b xs → HoldsBlock p b ys → xs ≡ ys
one_block p b xs ys h g =
    let l : length xs ≡ length ys = some_same (length xs) (whole - 1) (length ys) (whole - 1) (sym h.name ∙ g.name) in
    same_list xs ys l (λ i lt. some_same (slice_index xs i) (whole - 1) (slice_index ys i) (whole - 1) (sym (h.words i lt) ∙ g.words i (omega (arith, lt, l))))
