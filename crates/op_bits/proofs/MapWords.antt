-- The words of a map below a bound, and what becomes of them when one key changes.
use Rattle.std.proofs.Common.{◌≡◌, ◌≢◌, ℕ, ◌+◌, ◌*◌, ◌-◌, ◌^◌, ◌<◌, ◌≤◌, Bool, true, false, cond, List, length, replicate, refl, sym, ap, ◌∙◌, subst, arith, eq-eqb, ne_eqb, ⊎_elim, Option, Some, None}
use Rattle.std.proofs.lemmas.Bool.Decides.{eqb_tells}
use Rattle.std.proofs.lemmas.List.{length-set, length-replicate, get_or-set_same, get_or-set_other, get_or-replicate}
use Rattle.std.specs.Cmp.{nat_cmp_total, unsigned_tied}
use Rattle.std.specs.FinMap as maps
use Rattle.std.specs.Option.{is_some}
use Rattle.std.specs.Ordering.{nat_cmp}
use Rattle.std.specs.Prelude.{slice_index, slice_set}
use Rattle.relations.specs.Blocks.{AreWords}
use Rattle.relations.specs.Represents.{Map, one_if}
use Rattle.row_laws.proofs.Words.{words_set, words_zeros}
use Rattle.op_bits.specs.Maps.{HasKeys}

-- ---- keys

pub put_here : (m : Map) (x y : ℕ) → maps.get (maps.insert m x y) x ≡ Some y
put_here m x y = maps.get-insert nat_cmp_total m x y x ∙ ap (λ b. cond b (Some y) (maps.get m x)) (unsigned_tied x x ∙ eq-eqb x x refl)

pub put_other : (m : Map) (x y k : ℕ) → k ≢ x → maps.get (maps.insert m x y) k ≡ maps.get m k
put_other m x y k ne = maps.get-insert nat_cmp_total m x y k ∙ ap (λ b. cond b (Some y) (maps.get m k)) (unsigned_tied k x ∙ ne_eqb k x ne)

pub del_here : (m : Map) (x : ℕ) → maps.get (maps.remove m x) x ≡ None
del_here m x = maps.get-remove nat_cmp_total m x x ∙ ap (λ b. cond b None (maps.get m x)) (unsigned_tied x x ∙ eq-eqb x x refl)

pub del_other : (m : Map) (x k : ℕ) → k ≢ x → maps.get (maps.remove m x) k ≡ maps.get m k
del_other m x k ne = maps.get-remove nat_cmp_total m x k ∙ ap (λ b. cond b None (maps.get m k)) (unsigned_tied k x ∙ ne_eqb k x ne)

pub count_put : (m : Map) (x y : ℕ) → maps.len m + (1 - one_if (maps.contains_key m x)) ≡ maps.len (maps.insert m x y)
count_put m x y = at (maps.contains_key m x) ∙ sym (maps.len-insert nat_cmp_total m x y)
  where
    at : (b : Bool) → maps.len m + (1 - one_if b) ≡ cond b (maps.len m) (maps.len m + 1)
    at true = omega arith
    at false = refl

some_key : (m : Map) (x : ℕ) → maps.contains_key m x ≡ true → 1 ≤ maps.len m
some_key m x e = ⊎_elim
    (λ z. absurd (let f : false ≡ true = sym (ap (λ (o : Option ℕ). is_some o) (maps.get-empty nat_cmp x)) ∙ ap (λ y. maps.contains_key y x) (sym (maps.empty_of_len m z.1)) ∙ e in cc f))
    (λ z. omega (arith, z.1)) (eqb_tells (maps.len m) 0)

pub count_del : (m : Map) (x : ℕ) → maps.len m ≡ maps.len (maps.remove m x) + one_if (maps.contains_key m x)
count_del m x = at (maps.contains_key m x) refl ∙ ap (λ z. z + one_if (maps.contains_key m x)) (sym (maps.len-remove nat_cmp_total m x))
  where
    at : (b : Bool) → maps.contains_key m x ≡ b → maps.len m ≡ cond (maps.contains_key m x) (maps.len m - 1) (maps.len m) + one_if (maps.contains_key m x)
    at true e = let l = some_key m x e in rw e (omega (arith, l))
    at false e = rw e (omega arith)

-- ---- one key changes

module _ (u x : ℕ) (m n : Map) (ws us : List ℕ) (h : HasKeys u m ws) (lt : x < u) where
  pub mark_near : 2 * x < length ws
  mark_near = omega (arith, h.size, lt)

  pub value_near : 2 * x + 1 < length ws
  value_near = omega (arith, h.size, lt)

  module _ (size : length us ≡ length ws) (others : (j : ℕ) → j ≢ 2 * x → j ≢ 2 * x + 1 → slice_index us j ≡ slice_index ws j) (mark : slice_index us (2 * x) ≡ one_if (maps.contains_key n x)) (value : (y : ℕ) → maps.get n x ≡ Some y → slice_index us (2 * x + 1) ≡ y) (rest : (k : ℕ) → k ≢ x → maps.get n k ≡ maps.get m k) (words : AreWords us) where
    pub changed : HasKeys u n us
    changed = record {
      size = size ∙ h.size;
      marks = λ k kt. ⊎_elim
          (λ d. subst (λ z. slice_index us (2 * z) ≡ one_if (maps.contains_key n z)) (sym d.1) mark)
          (λ d. others (2 * k) (let a : 2 * k ≢ 2 * x = omega (arith, d.1) in a) (let a : 2 * k ≢ 2 * x + 1 = omega arith in a) ∙ h.marks k kt ∙ sym (ap (λ (o : Option ℕ). one_if (is_some o)) (rest k d.1)))
          (eqb_tells k x);
      values = λ k y kt e. ⊎_elim
          (λ d. ap (λ z. slice_index us (2 * z + 1)) d.1 ∙ value y (sym (ap (maps.get n) d.1) ∙ e))
          (λ d. others (2 * k + 1) (let a : 2 * k + 1 ≢ 2 * x = omega arith in a) (let a : 2 * k + 1 ≢ 2 * x + 1 = omega (arith, d.1) in a) ∙ h.values k y kt (sym (rest k d.1) ∙ e))
          (eqb_tells k x);
      bounded = λ k e. ⊎_elim (λ d. subst (λ z. z < u) (sym d.1) lt) (λ d. h.bounded k (sym (ap (λ (o : Option ℕ). is_some o) (rest k d.1)) ∙ e)) (eqb_tells k x);
      words = words;
    }

module _ (u x : ℕ) (m : Map) (ws : List ℕ) (h : HasKeys u m ws) (lt : x < u) where
  near : 2 * x < length ws
  near = omega (arith, h.size, lt)

  pub with_key : (y : ℕ) → y < 2 ^ 64 → HasKeys u (maps.insert m x y) (slice_set (slice_set ws (2 * x) 1) (2 * x + 1) y)
  with_key y word =
      let ne : 2 * x ≢ 2 * x + 1 = omega arith in
      let len = length-set ws (2 * x) 1 in
      let second : 2 * x + 1 < length (slice_set ws (2 * x) 1) = omega (arith, h.size, lt, len) in
      changed u x m (maps.insert m x y) ws (slice_set (slice_set ws (2 * x) 1) (2 * x + 1) y) h lt (length-set (slice_set ws (2 * x) 1) (2 * x + 1) y ∙ len)
      (λ j a b. get_or-set_other (slice_set ws (2 * x) 1) (2 * x + 1) j y 0 b ∙ get_or-set_other ws (2 * x) j 1 0 a)
      (get_or-set_other (slice_set ws (2 * x) 1) (2 * x + 1) (2 * x) y 0 ne ∙ get_or-set_same ws (2 * x) 1 0 near ∙ sym (ap (λ (o : Option ℕ). one_if (is_some o)) (put_here m x y)))
      (λ z e. get_or-set_same (slice_set ws (2 * x) 1) (2 * x + 1) y 0 second ∙ (let d : Some y ≡ Some z = sym (put_here m x y) ∙ e in cc d))
      (put_other m x y) (words_set (slice_set ws (2 * x) 1) (2 * x + 1) y word (words_set ws (2 * x) 1 (omega arith) h.words))

  pub without_key : HasKeys u (maps.remove m x) (slice_set ws (2 * x) 0)
  without_key =
      changed u x m (maps.remove m x) ws (slice_set ws (2 * x) 0) h lt (length-set ws (2 * x) 0)
      (λ j a b. get_or-set_other ws (2 * x) j 0 0 a) (get_or-set_same ws (2 * x) 0 0 near ∙ sym (ap (λ (o : Option ℕ). one_if (is_some o)) (del_here m x)))
      (λ z e. absurd (let d : None ≡ Some z = sym (del_here m x) ∙ e in cc d)) (del_other m x) (words_set ws (2 * x) 0 (omega arith) h.words)

pub no_key : (m : Map) (x : ℕ) → maps.contains_key m x ≡ false → maps.remove m x ≡ m
no_key m x e = maps.same_map nat_cmp_total maps.nat_cmp-IsAntisymmetric (maps.remove m x) m (λ k. ⊎_elim
    (λ d. ap (maps.get (maps.remove m x)) d.1 ∙ del_here m x ∙ sym (ap (maps.get m) d.1 ∙ none (maps.get m x) e))
    (λ d. del_other m x k d.1) (eqb_tells k x))
  where
    none : (o : Option ℕ) → is_some o ≡ false → o ≡ None
    none None e = refl
    none (Some y) e = absurd (let f : true ≡ false = e in cc f)

pub no_keys : (u : ℕ) → HasKeys u maps.empty (replicate (2 * u) 0)
no_keys u = record {
  size = length-replicate {A = ℕ} (2 * u) 0;
  marks = λ k lt. get_or-replicate (2 * u) (2 * k) 0 0 (omega (arith, lt)) ∙ sym (ap (λ (o : Option ℕ). one_if (is_some o)) (maps.get-empty nat_cmp k));
  values = λ k x lt e. absurd (let d : None ≡ Some x = sym (maps.get-empty nat_cmp k) ∙ e in cc d);
  bounded = λ k e. absurd (let d : false ≡ true = sym (ap (λ (o : Option ℕ). is_some o) (maps.get-empty nat_cmp k)) ∙ e in cc d);
  words = words_zeros (2 * u);
}
