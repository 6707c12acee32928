-- The sets and maps below a bound that stand in the words of a block.
use Rattle.std.proofs.Common.{◌≡◌, ℕ, zero, suc, ◌+◌, ◌*◌, ◌%◌, ◌/◌, ◌<◌, ◌≤◌, Bool, true, false, cond, ◌||◌, not, List, length, refl, sym, ap, ◌∙◌, arith, eqb, eq-eqb, ne_eqb, leb-true, ltb-true, nat_lt, nat_le, Option, Some, None, ⊎_elim, ◌⊎◌}
use Rattle.std.proofs.lemmas.Bool.{cond_both, cond-true, cond-false, lt-ltb, le-leb}
use Rattle.std.proofs.lemmas.Bool.Decides.{eqb_tells}
use Rattle.std.proofs.lemmas.Nat.Bits.{bit_at-lt}
use Rattle.std.specs.Int.{bit_at}
use Rattle.std.specs.FinMap as maps
use Rattle.std.specs.Option.{is_some}
use Rattle.std.specs.Ordering.{nat_cmp}
use Rattle.std.specs.Prelude.{slice_index}
use Rattle.containers.specs.Sets as sets
use Rattle.relations.specs.Blocks.{AreWords}
use Rattle.relations.specs.Represents.{Set, Map, one_if}
use Rattle.op_bits.specs.Bits.{HasBits}
use Rattle.op_bits.specs.Maps.{HasKeys}
use Rattle.op_base.specs.Counts.{put}
use Rattle.image_laws.specs.Held.{has_bit, bits_below, bounded_bits, marks_below, are_marks}
use Rattle.op_base.proofs.CountsLemmas.{put_here, put_other}
use Rattle.op_bits.proofs.MapWords.{put_here as get_here, put_other as get_other}
use Rattle.image_laws.proofs.SlotKeys.{in_insert, same_sets, same_maps}
use Rattle.image_laws.proofs.Tests.{every_at, every_all, implied, implies, not_true}

-- ---- bits

module _ (ws : List ℕ) where
  pub bit_out : (n x : ℕ) → n ≤ x → sets.contains (bits_below ws n) x ≡ false
  bit_out zero x le = sets.contains-empty nat_cmp x
  bit_out (suc n) x le =
      cond_both (has_bit ws n) (sets.insert (bits_below ws n) n) (bits_below ws n) (λ z. sets.contains z x ≡ false)
      (λ d. in_insert (bits_below ws n) n x ∙ put_other (sets.contains (bits_below ws n)) n x (λ e. let f : ⊥ = omega (arith, le, e) in f) ∙ bit_out n x (omega (arith, le)))
      (λ d. bit_out n x (omega (arith, le)))

  pub bit_in : (n x : ℕ) → x < n → sets.contains (bits_below ws n) x ≡ has_bit ws x
  bit_in zero x lt = absurd (let f : ⊥ = omega (arith, lt) in f)
  bit_in (suc n) x lt =
      cond_both (has_bit ws n) (sets.insert (bits_below ws n) n) (bits_below ws n) (λ z. sets.contains z x ≡ has_bit ws x)
      (λ d. in_insert (bits_below ws n) n x ∙ ⊎_elim
      (λ e. ap (put (sets.contains (bits_below ws n)) n) e.1 ∙ put_here (sets.contains (bits_below ws n)) n ∙ sym (ap (has_bit ws) e.1 ∙ d))
      (λ e. put_other (sets.contains (bits_below ws n)) n x e.1 ∙ bit_in n x (omega (arith, lt, e.1))) (eqb_tells x n))
      (λ d. ⊎_elim
      (λ e. ap (sets.contains (bits_below ws n)) e.1 ∙ bit_out n n (omega arith) ∙ sym (ap (has_bit ws) e.1 ∙ d))
      (λ e. bit_in n x (omega (arith, lt, e.1))) (eqb_tells x n))

bit_value : (b : ℕ) → b < 2 → b ≡ one_if (eqb b 1)
bit_value zero lt = refl
bit_value (suc zero) lt = refl
bit_value (suc (suc b)) lt = absurd (let f : ⊥ = omega (arith, lt) in f)

one_tells : (b : ℕ) (c : Bool) → b ≡ one_if c → eqb b 1 ≡ c
one_tells b true e = eq-eqb b 1 e
one_tells b false e = ne_eqb b 1 (λ d. let f : ⊥ = omega (arith, d, e) in f)

module _ (u : ℕ) (ws : List ℕ) where
  abbrev bits : Set
  bits = bits_below ws (64 * length ws)

  -- words of the right number, without a bit from the bound on, have the bits of their set
  pub bits_are : length ws ≡ (u + 63) / 64 → bounded_bits u ws ≡ true → AreWords ws → HasBits u bits ws
  bits_are size bounded words = record {
    size = size;
    bits = λ x lt. bit_value (bit_at (slice_index ws (x / 64)) (x % 64)) (bit_at-lt (slice_index ws (x / 64)) (x % 64)) ∙ ap one_if (sym (bit_in ws (64 * length ws) x (omega (arith, lt))));
    bounded = λ x e. ⊎_elim
        (λ lt. ltb-true x u (implied (has_bit ws x) (nat_lt x u) (every_at (λ x. not (has_bit ws x) || nat_lt x u) (64 * length ws) x bounded lt) (sym (bit_in ws (64 * length ws) x lt) ∙ e)))
        (λ le. absurd (let f : ⊥ = cc (bit_out ws (64 * length ws) x le, e) in f))
        (let o : (x < 64 * length ws) ⊎ (64 * length ws ≤ x) = grind arith in o);
    words = words;
  }

  module _ (s : Set) (h : HasBits u s ws) where
    -- a bit of words that have the bits of a set
    bit_of : (x : ℕ) → x < 64 * length ws → has_bit ws x ≡ sets.contains s x
    bit_of x lt = one_tells (bit_at (slice_index ws (x / 64)) (x % 64)) (sets.contains s x) (h.bits x (omega (arith, lt)))

    pub bits_bounded : bounded_bits u ws ≡ true
    bits_bounded = every_all (λ x. not (has_bit ws x) || nat_lt x u) (64 * length ws) (λ x lt. implies (has_bit ws x) (nat_lt x u) (λ e. lt-ltb x u (h.bounded x (sym (bit_of x lt) ∙ e))))

    pub bits_same : bits ≡ s
    bits_same = same_sets bits s (λ x. ⊎_elim
        (λ lt. bit_in ws (64 * length ws) x lt ∙ bit_of x lt)
        (λ le. bit_out ws (64 * length ws) x le ∙ sym (not_true (sets.contains s x) (λ e. let lt = h.bounded x e in let f : ⊥ = omega (arith, lt, le, h.size) in f)))
        (let o : (x < 64 * length ws) ⊎ (64 * length ws ≤ x) = grind arith in o))

-- ---- marks

module _ (ws : List ℕ) where
  abbrev mark : ℕ → ℕ
  mark k = slice_index ws (2 * k)

  abbrev val : ℕ → ℕ
  val k = slice_index ws (2 * k + 1)

  pub mark_out : (n x : ℕ) → n ≤ x → maps.get (marks_below ws n) x ≡ None
  mark_out zero x le = maps.get-empty nat_cmp x
  mark_out (suc n) x le =
      cond_both (eqb (mark n) 1) (maps.insert (marks_below ws n) n (val n)) (marks_below ws n) (λ z. maps.get z x ≡ None)
      (λ d. get_other (marks_below ws n) n (val n) x (λ e. let f : ⊥ = omega (arith, le, e) in f) ∙ mark_out n x (omega (arith, le)))
      (λ d. mark_out n x (omega (arith, le)))

  -- what stands at a key
  abbrev entry : ℕ → Option ℕ
  entry x = cond (eqb (mark x) 1) (Some (val x)) None

  pub mark_in : (n x : ℕ) → x < n → maps.get (marks_below ws n) x ≡ entry x
  mark_in zero x lt = absurd (let f : ⊥ = omega (arith, lt) in f)
  mark_in (suc n) x lt =
      cond_both (eqb (mark n) 1) (maps.insert (marks_below ws n) n (val n)) (marks_below ws n) (λ z. maps.get z x ≡ entry x)
      (λ d. ⊎_elim
      (λ e. ap (maps.get (maps.insert (marks_below ws n) n (val n))) e.1 ∙ get_here (marks_below ws n) n (val n) ∙ sym (ap entry e.1 ∙ cond-true (eqb (mark n) 1) _ _ d))
      (λ e. get_other (marks_below ws n) n (val n) x e.1 ∙ mark_in n x (omega (arith, lt, e.1))) (eqb_tells x n))
      (λ d. ⊎_elim
      (λ e. ap (maps.get (marks_below ws n)) e.1 ∙ mark_out n n (omega arith) ∙ sym (ap entry e.1 ∙ cond-false (eqb (mark n) 1) _ _ d))
      (λ e. mark_in n x (omega (arith, lt, e.1))) (eqb_tells x n))

some_entry : (b : Bool) (v x : ℕ) → cond b (Some v) None ≡ Some x → v ≡ x
some_entry true v x e = cc e
some_entry false v x e = absurd (let d : None ≡ Some x = e in cc d)

is_entry : (b : Bool) (v : ℕ) → is_some {T = ℕ} (cond b (Some v) None) ≡ b
is_entry true v = refl
is_entry false v = refl

mark_value : (b : ℕ) → b ≤ 1 → b ≡ one_if (eqb b 1)
mark_value b le = bit_value b (omega (arith, le))

module _ (u : ℕ) (ws : List ℕ) where
  abbrev pub marks : Map
  marks = marks_below ws u

  pub marks_are : length ws ≡ 2 * u → are_marks u ws ≡ true → AreWords ws → HasKeys u marks ws
  marks_are size all words = record {
    size = size;
    marks = λ k lt.
        mark_value (mark ws k) (leb-true (mark ws k) 1 (every_at (λ k. nat_le (mark ws k) 1) u k all lt))
        ∙ ap one_if (sym (ap (λ (o : Option ℕ). is_some o) (mark_in ws u k lt) ∙ is_entry (eqb (mark ws k) 1) (val ws k)));
    values = λ k x lt e. some_entry (eqb (mark ws k) 1) (val ws k) x (sym (mark_in ws u k lt) ∙ e);
    bounded = λ k e. ⊎_elim
        (λ lt. lt)
        (λ le. absurd (let f : false ≡ true = sym (ap (λ (o : Option ℕ). is_some o) (mark_out ws u k le)) ∙ e in cc f))
        (let o : (k < u) ⊎ (u ≤ k) = grind arith in o);
    words = words;
  }

  module _ (m : Map) (h : HasKeys u m ws) where
    pub marks_pass : are_marks u ws ≡ true
    marks_pass = every_all (λ k. nat_le (mark ws k) 1) u (λ k lt. le-leb (mark ws k) 1 (small (maps.contains_key m k) (mark ws k) (h.marks k lt)))
      where
        small : (b : Bool) (x : ℕ) → x ≡ one_if b → x ≤ 1
        small true x e = omega (arith, e)
        small false x e = omega (arith, e)

    at_key : (k : ℕ) → k < u → entry ws k ≡ maps.get m k
    at_key k lt = by (maps.get m k) (one_tells (mark ws k) (maps.contains_key m k) (h.marks k lt)) (λ x e. h.values k x lt e)
      where
        by : (o : Option ℕ) → eqb (mark ws k) 1 ≡ is_some o → ((x : ℕ) → o ≡ Some x → val ws k ≡ x) → entry ws k ≡ o
        by None e f = cond-false (eqb (mark ws k) 1) _ _ e
        by (Some x) e f = cond-true (eqb (mark ws k) 1) _ _ e ∙ ap Some (f x refl)

    pub marks_same : marks ≡ m
    marks_same = same_maps marks m (λ k. ⊎_elim
        (λ lt. mark_in ws u k lt ∙ at_key k lt)
        (λ le. mark_out ws u k le ∙ sym (none (maps.get m k) (λ e. let lt = h.bounded k e in let f : ⊥ = omega (arith, lt, le) in f)))
        (let o : (k < u) ⊎ (u ≤ k) = grind arith in o))
      where
        none : (o : Option ℕ) → (is_some o ≡ true → ⊥) → o ≡ None
        none None f = refl
        none (Some x) f = absurd (f refl)
