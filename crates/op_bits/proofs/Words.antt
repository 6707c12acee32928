-- The words of a set of bits, and what becomes of them when one bit changes.
use Rattle.std.proofs.Common.{◌≡◌, ◌≢◌, ℕ, ◌+◌, ◌*◌, ◌^◌, ◌/◌, ◌%◌, ◌<◌, ◌≤◌, max, Bool, true, false, not, ◌&&◌, ◌||◌, List, length, replicate, refl, sym, ap, ◌∙◌, subst, arith, eq-eqb, ne_eqb, ⊎_elim}
use Rattle.std.proofs.Math.Pow.{pow-lt}
use Rattle.std.proofs.lemmas.Bool.{cond_both, cond-false}
use Rattle.std.proofs.lemmas.Bool.Decides.{eqb_tells}
use Rattle.std.proofs.lemmas.List.{length-set, length-replicate, get_or-set_same, get_or-set_other, get_or-replicate}
use Rattle.std.proofs.lemmas.Nat.{or_lt, xor_lt, pow_pos}
use Rattle.std.proofs.lemmas.Nat.Bits.{bit_at_or, bit_at_xor, bit_at-pow_same, bit_at-pow_other, and_pow, bit_at-lt, bit_at-zero}
use Rattle.std.specs.Cmp.{nat_cmp_total, unsigned_tied}
use Rattle.std.specs.Int.{bit_at}
use Rattle.std.specs.Ordering.{nat_cmp}
use Rattle.std.specs.Prelude.{slice_index, slice_set, bit_and, bit_or, bit_xor}
use Rattle.containers.specs.Sets as sets
use Rattle.relations.specs.Represents.{Set, one_if}
use Rattle.op_bits.specs.Bits.{HasBits}

-- ---- members

pub insert_here : (s : Set) (x : ℕ) → sets.contains (sets.insert s x) x ≡ true
insert_here s x = sets.contains-insert nat_cmp_total s x x ∙ ap (λ b. b || sets.contains s x) (unsigned_tied x x ∙ eq-eqb x x refl)

pub insert_other : (s : Set) (x y : ℕ) → y ≢ x → sets.contains (sets.insert s x) y ≡ sets.contains s y
insert_other s x y ne = sets.contains-insert nat_cmp_total s x y ∙ ap (λ b. b || sets.contains s y) (unsigned_tied y x ∙ ne_eqb y x ne)

pub remove_here : (s : Set) (x : ℕ) → sets.contains (sets.remove s x) x ≡ false
remove_here s x = sets.contains-remove nat_cmp_total s x x ∙ ap (λ b. not b && sets.contains s x) (unsigned_tied x x ∙ eq-eqb x x refl)

pub remove_other : (s : Set) (x y : ℕ) → y ≢ x → sets.contains (sets.remove s x) y ≡ sets.contains s y
remove_other s x y ne = sets.contains-remove nat_cmp_total s x y ∙ ap (λ b. not b && sets.contains s y) (unsigned_tied y x ∙ ne_eqb y x ne)

pub same : (s t : Set) → ((q : ℕ) → sets.contains s q ≡ sets.contains t q) → s ≡ t
same s t e = sets.same_set nat_cmp_total sets.nat_cmp-IsAntisymmetric s t e

pub insert_there : (s : Set) (x : ℕ) → sets.contains s x ≡ true → sets.insert s x ≡ s
insert_there s x e = same (sets.insert s x) s (λ q. ⊎_elim (λ d. ap (sets.contains (sets.insert s x)) d.1 ∙ insert_here s x ∙ sym (ap (sets.contains s) d.1 ∙ e)) (λ d. insert_other s x q d.1) (eqb_tells q x))

pub remove_missing : (s : Set) (x : ℕ) → sets.contains s x ≡ false → sets.remove s x ≡ s
remove_missing s x e = same (sets.remove s x) s (λ q. ⊎_elim (λ d. ap (sets.contains (sets.remove s x)) d.1 ∙ remove_here s x ∙ sym (ap (sets.contains s) d.1 ∙ e)) (λ d. remove_other s x q d.1) (eqb_tells q x))

pub len_more : (s : Set) (x : ℕ) → sets.contains s x ≡ false → sets.len (sets.insert s x) ≡ sets.len s + 1
len_more s x e = sets.len-insert nat_cmp_total s x ∙ cond-false (sets.contains s x) _ _ e

put_back : (s : Set) (x : ℕ) → sets.contains s x ≡ true → sets.insert (sets.remove s x) x ≡ s
put_back s x e =
    same (sets.insert (sets.remove s x) x) s
    (λ q. ⊎_elim (λ d. ap (sets.contains (sets.insert (sets.remove s x) x)) d.1 ∙ insert_here (sets.remove s x) x ∙ sym (ap (sets.contains s) d.1 ∙ e)) (λ d. insert_other (sets.remove s x) x q d.1 ∙ remove_other s x q d.1) (eqb_tells q x))

-- a set has one element less without one of them
pub len_less : (s : Set) (x : ℕ) → sets.contains s x ≡ true → sets.len s ≡ sets.len (sets.remove s x) + 1
len_less s x e = sym (ap sets.len (put_back s x e)) ∙ len_more (sets.remove s x) x (remove_here s x)

pub len_grows : (s : Set) (x : ℕ) → sets.len s ≤ sets.len (sets.insert s x)
len_grows s x = subst (λ z. sets.len s ≤ z) (sym (sets.len-insert nat_cmp_total s x)) (cond_both (sets.contains s x) (sets.len s) (sets.len s + 1) (λ z. sets.len s ≤ z) (λ e. omega arith) (λ e. omega arith))

-- ---- numbers of bits

pub bit_on : (b : Bool) → (one_if b ≡ 0 → ⊥) → b ≡ true
bit_on true o = refl
bit_on false o = absurd (o refl)

pub bit_off : (b : Bool) → one_if b ≡ 0 → b ≡ false
bit_off true o = absurd (let f : ⊥ = omega (arith, o) in f)
bit_off false o = refl

-- the word of x
pub word_of : (u x n : ℕ) → n ≡ (u + 63) / 64 → x < u → x / 64 < n
word_of u x n e lt = omega (arith, e, lt)

-- ---- one bit changes

module _ (u x : ℕ) (s t : Set) (ws : List ℕ) (h : HasBits u s ws) (lt : x < u) where
  pub near : x / 64 < length ws
  near = word_of u x (length ws) h.size lt

  abbrev pub old : ℕ
  old = slice_index ws (x / 64)

  abbrev pub bit : ℕ
  bit = 2 ^ (x % 64)

  module _ (w : ℕ) (word : w < 2 ^ 64) (others : (j : ℕ) → j ≢ x % 64 → bit_at w j ≡ bit_at old j) (here : bit_at w (x % 64) ≡ one_if (sets.contains t x)) (rest : (y : ℕ) → y ≢ x → sets.contains t y ≡ sets.contains s y) where
    changed_bits : (y : ℕ) → y / 64 < length (slice_set ws (x / 64) w) → bit_at (slice_index (slice_set ws (x / 64) w) (y / 64)) (y % 64) ≡ one_if (sets.contains t y)
    changed_bits y ly =
        let ly' : y / 64 < length ws = omega (arith, ly, length-set ws (x / 64) w) in
        ⊎_elim
        (λ d. ap (λ z. bit_at z (y % 64)) (ap (slice_index (slice_set ws (x / 64) w)) d.1 ∙ get_or-set_same ws (x / 64) w 0 near)
        ∙ ⊎_elim
        (λ c. let e : y ≡ x = omega (arith, c.1, d.1) in ap (bit_at w) c.1 ∙ here ∙ sym (ap (λ z. one_if (sets.contains t z)) e))
        (λ c. let ne : y ≢ x = λ z. c.1 (ap (λ v. v % 64) z) in
        others (y % 64) c.1 ∙ ap (λ z. bit_at (slice_index ws z) (y % 64)) (sym d.1) ∙ h.bits y ly' ∙ sym (ap one_if (rest y ne)))
        (eqb_tells (y % 64) (x % 64)))
        (λ d. let ne : y ≢ x = λ z. d.1 (ap (λ v. v / 64) z) in
        ap (λ z. bit_at z (y % 64)) (get_or-set_other ws (x / 64) (y / 64) w 0 d.1) ∙ h.bits y ly' ∙ sym (ap one_if (rest y ne)))
        (eqb_tells (y / 64) (x / 64))

    pub changed : HasBits u t (slice_set ws (x / 64) w)
    changed = record {
      size = length-set ws (x / 64) w ∙ h.size;
      bits = changed_bits;
      bounded = λ y e. ⊎_elim (λ d. subst (λ z. z < u) (sym d.1) lt) (λ d. h.bounded y (sym (rest y d.1) ∙ e)) (eqb_tells y x);
      words = λ i li. let li' : i < length ws = omega (arith, li, length-set ws (x / 64) w) in
          ⊎_elim
          (λ d. subst (λ z. z < 2 ^ 64) (sym (ap (slice_index (slice_set ws (x / 64) w)) d.1 ∙ get_or-set_same ws (x / 64) w 0 near)) word)
          (λ d. subst (λ z. z < 2 ^ 64) (sym (get_or-set_other ws (x / 64) i w 0 d.1)) (h.words i li'))
          (eqb_tells i (x / 64));
    }

bit_word : (x : ℕ) → 2 ^ (x % 64) < 2 ^ 64
bit_word x = pow-lt (let j : x % 64 < 64 = omega arith in j)

-- a bit is set
or_other : (a j k : ℕ) → k ≢ j → bit_at (bit_or a (2 ^ j)) k ≡ bit_at a k
or_other a j k ne =
    let none : bit_at (2 ^ j) k ≡ 0 = bit_at-pow_other j k ne in
    bit_at_or a (2 ^ j) k ∙ (let m : max (bit_at a k) (bit_at (2 ^ j) k) ≡ bit_at a k = omega (arith, none) in m)

or_here : (a j : ℕ) → bit_at (bit_or a (2 ^ j)) j ≡ 1
or_here a j =
    let one : bit_at (2 ^ j) j ≡ 1 = bit_at-pow_same j in
    bit_at_or a (2 ^ j) j ∙ (let m : max (bit_at a j) (bit_at (2 ^ j) j) ≡ 1 = omega (arith, one, bit_at-lt a j) in m)

-- a bit is taken back
xor_other : (a j k : ℕ) → k ≢ j → bit_at (bit_xor a (2 ^ j)) k ≡ bit_at a k
xor_other a j k ne =
    let none : bit_at (2 ^ j) k ≡ 0 = bit_at-pow_other j k ne in
    bit_at_xor a (2 ^ j) k ∙ (let m : (bit_at a k + bit_at (2 ^ j) k) % 2 ≡ bit_at a k = omega (arith, none, bit_at-lt a k) in m)

xor_here : (a j : ℕ) → bit_at a j ≡ 1 → bit_at (bit_xor a (2 ^ j)) j ≡ 0
xor_here a j e =
    let one : bit_at (2 ^ j) j ≡ 1 = bit_at-pow_same j in
    bit_at_xor a (2 ^ j) j ∙ (let m : (bit_at a j + bit_at (2 ^ j) j) % 2 ≡ 0 = omega (arith, one, e) in m)

module _ (u x : ℕ) (s : Set) (ws : List ℕ) (h : HasBits u s ws) (lt : x < u) where
  abbrev word : ℕ
  word = slice_index ws (x / 64)

  at_word : x / 64 < length ws
  at_word = word_of u x (length ws) h.size lt

  pub with_bit : HasBits u (sets.insert s x) (slice_set ws (x / 64) (bit_or (slice_index ws (x / 64)) (2 ^ (x % 64))))
  with_bit =
      changed u x s (sets.insert s x) ws h lt (bit_or word (2 ^ (x % 64))) (or_lt 64 word (2 ^ (x % 64)) (h.words (x / 64) at_word) (bit_word x))
      (or_other word (x % 64)) (or_here word (x % 64) ∙ sym (ap one_if (insert_here s x))) (insert_other s x)

  pub without_bit : sets.contains s x ≡ true → HasBits u (sets.remove s x) (slice_set ws (x / 64) (bit_xor (slice_index ws (x / 64)) (2 ^ (x % 64))))
  without_bit e =
      changed u x s (sets.remove s x) ws h lt (bit_xor word (2 ^ (x % 64))) (xor_lt 64 word (2 ^ (x % 64)) (h.words (x / 64) at_word) (bit_word x))
      (xor_other word (x % 64)) (xor_here word (x % 64) (h.bits x at_word ∙ ap one_if e) ∙ sym (ap one_if (remove_here s x))) (remove_other s x)

  mask_tells : (b : Bool) → sets.contains s x ≡ b → bit_and word (2 ^ (x % 64)) ≡ one_if b * 2 ^ (x % 64)
  mask_tells b e = and_pow word (x % 64) ∙ ap (λ z. z * 2 ^ (x % 64)) (h.bits x at_word ∙ ap one_if e)

  pub mask_on : (bit_and (slice_index ws (x / 64)) (2 ^ (x % 64)) ≡ 0 → ⊥) → sets.contains s x ≡ true
  mask_on o = at (sets.contains s x) refl
    where
      at : (b : Bool) → sets.contains s x ≡ b → sets.contains s x ≡ true
      at true e = e
      at false e = absurd (o (mask_tells false e ∙ (let z : 0 * 2 ^ (x % 64) ≡ 0 = omega arith in z)))

  pub mask_off : bit_and (slice_index ws (x / 64)) (2 ^ (x % 64)) ≡ 0 → sets.contains s x ≡ false
  mask_off o = at (sets.contains s x) refl
    where
      at : (b : Bool) → sets.contains s x ≡ b → sets.contains s x ≡ false
      at false e = e
      at true e =
          let p : 0 < 2 ^ (x % 64) = pow_pos (x % 64) in
          let q = mask_tells true e in
          absurd (let f : ⊥ = omega (arith, p, q, o) in f)

-- ---- no bit

pub no_bits : (u : ℕ) → HasBits u sets.empty (replicate ((u + 63) / 64) 0)
no_bits u = record {
  size = length-replicate {A = ℕ} ((u + 63) / 64) 0;
  bits = λ x lt. ap (λ z. bit_at z (x % 64)) (get_or-replicate ((u + 63) / 64) (x / 64) 0 0 (omega (arith, lt, length-replicate {A = ℕ} ((u + 63) / 64) 0))) ∙ bit_at-zero (x % 64) ∙ sym (ap one_if (sets.contains-empty nat_cmp x));
  bounded = λ x e. absurd (let d : false ≡ true = sym (sets.contains-empty nat_cmp x) ∙ e in cc d);
  words = λ i lt. subst (λ z. z < 2 ^ 64) (sym (get_or-replicate ((u + 63) / 64) i 0 0 (omega (arith, lt, length-replicate {A = ℕ} ((u + 63) / 64) 0)))) (omega arith);
}
