-- The test of a table tells whether its words are a table.
use Rattle.std.proofs.Common.{◌≡◌, ℕ, ◌+◌, ◌*◌, ◌^◌, ◌<◌, ◌≤◌, true, ◌||◌, not, List, length, refl, sym, ◌∙◌, subst, arith, eqb, eqb-true, eq-eqb, leb-true, ltb-true, nat_le, nat_lt, ⊎_elim, ◌⊎◌}
use Rattle.std.proofs.lemmas.Bool.{and_parts, le-leb, lt-ltb}
use Rattle.std.proofs.lemmas.Nat.{pow_pos}
use Rattle.std.proofs.Math.Nat.{mod-lt, pow-le-pow_right}
use Rattle.containers.specs.Sets as sets
use Rattle.relations.specs.Represents.{count, state, key, is_full, is_used, IsTable}
use Rattle.image_laws.specs.Held.{every, run, behind, is_slot, is_size, is_capacity, is_table, slot_keys}
use Rattle.op_base.specs.Counts.{Test}
use Rattle.op_hash.specs.Tables.{walk}
use Rattle.image_laws.proofs.Tests.{both, implied, implies, every_at, every_all, some_at, some_by}
use Rattle.image_laws.proofs.Runs.{reached_by, behind_most}
use Rattle.image_laws.proofs.SlotKeys.{Slot, Once}

-- ---- the number of slots

pub capacity_power : (cap : ℕ) → is_capacity cap ≡ true → (e : ℕ) × (cap ≡ 8 * 2 ^ e)
capacity_power cap e = let r = some_at (is_size cap) 61 e in (r.0, sym (eqb-true (8 * 2 ^ r.0) cap r.2))

pub power_capacity : (cap e : ℕ) → cap ≡ 8 * 2 ^ e → cap < 2 ^ 64 → is_capacity cap ≡ true
power_capacity cap e p lt = some_by (is_size cap) 61 e less (eq-eqb (8 * 2 ^ e) cap (sym p))
  where
    less : e < 61
    less = ⊎_elim (λ a. a)
        (λ a. let m : 2 ^ 61 ≤ 2 ^ e = pow-le-pow_right {n = 2} (omega arith) {i = 61} {j = e} a in absurd (let f : ⊥ = omega (arith, m, p, lt) in f))
        (let o : (e < 61) ⊎ (61 ≤ e) = grind arith in o)

pub some_capacity : (cap : ℕ) → is_capacity cap ≡ true → 0 < cap
some_capacity cap e = let r = capacity_power cap e in let p = pow_pos r.0 in let q = r.1 in omega (arith, p, q)

module _ (w cap n used : ℕ) (ws : List ℕ) where
  -- what the test says, part by part
  pub record Tested : Type 0 where
    pub capacity : is_capacity cap ≡ true
    pub size : length ws ≡ w * cap
    pub states : (i : ℕ) → i < cap → state w ws i ≤ 2
    pub near : (i : ℕ) → i < cap → state w ws i ≡ 1 → behind cap i (key w ws i) ≤ run w cap ws (cap + i)
    pub full_are : n ≡ count (is_full w ws) cap
    pub used_are : used ≡ count (is_used w ws) cap
    pub open_slot : used < cap

  pub tested : is_table w cap n used ws ≡ true → Tested
  tested e =
      let a = and_parts (is_capacity cap) _ e in
      let b = and_parts (eqb (length ws) (w * cap)) _ a.1 in
      let c = and_parts (every (is_slot w cap ws) cap) _ b.1 in
      let d = and_parts (eqb n (count (is_full w ws) cap)) _ c.1 in
      let f = and_parts (eqb used (count (is_used w ws) cap)) _ d.1 in
      let slot : (i : ℕ) → i < cap → (nat_le (state w ws i) 2 ≡ true) × ((not (is_full w ws i) || nat_le (behind cap i (key w ws i)) (run w cap ws (cap + i))) ≡ true) =
      (λ i li. and_parts (nat_le (state w ws i) 2) _ (every_at (is_slot w cap ws) cap i c.0 li)) in
      record {
        capacity = a.0;
        size = eqb-true (length ws) (w * cap) b.0;
        states = λ i li. leb-true (state w ws i) 2 (slot i li).0;
        near = λ i li fi. leb-true (behind cap i (key w ws i)) (run w cap ws (cap + i)) (implied (is_full w ws i) _ (slot i li).1 (eq-eqb (state w ws i) 1 fi));
        full_are = eqb-true n (count (is_full w ws) cap) d.0;
        used_are = eqb-true used (count (is_used w ws) cap) f.0;
        open_slot = ltb-true used cap f.1;
      }

  pub passes : Tested → is_table w cap n used ws ≡ true
  passes t =
      both (is_capacity cap) _ t.capacity
      (both (eqb (length ws) (w * cap)) _ (eq-eqb (length ws) (w * cap) t.size)
      (both (every (is_slot w cap ws) cap) _
      (every_all (is_slot w cap ws) cap
      (λ i li. both (nat_le (state w ws i) 2) _ (le-leb (state w ws i) 2 (t.states i li))
      (implies (is_full w ws i) _ (λ f. le-leb (behind cap i (key w ws i)) (run w cap ws (cap + i)) (t.near i li (eqb-true (state w ws i) 1 f))))))
      (both (eqb n (count (is_full w ws) cap)) _ (eq-eqb n (count (is_full w ws) cap) t.full_are)
      (both (eqb used (count (is_used w ws) cap)) (nat_lt used cap) (eq-eqb used (count (is_used w ws) cap) t.used_are) (lt-ltb used cap t.open_slot)))))

  -- words that pass are a table of the keys that stand in full slots, where none stands twice
  pub is_a_table : (has : Test) → Tested → Once w ws cap → ((x : ℕ) → sets.contains (slot_keys w ws cap) x ≡ has x)
      → ((n x : ℕ) → sets.contains (slot_keys w ws n) x ≡ true → Slot w ws n x) → ((n x : ℕ) → Slot w ws n x → sets.contains (slot_keys w ws n) x ≡ true) → IsTable w ws has cap n used
  is_a_table has t once are from into = record {
    power = capacity_power cap t.capacity;
    size = t.size;
    states = t.states;
    keys = λ i li fi. sym (are (key w ws i)) ∙ into cap (key w ws i) (record { at = i; below = li; full = fi; same = refl });
    once = once;
    reached = λ x e. let s = from cap x (are x ∙ e) in
        reached_by w cap ws s.at x s.below s.full s.same (subst (λ z. behind cap s.at z ≤ run w cap ws (cap + s.at)) s.same (t.near s.at s.below s.full));
    full_are = t.full_are;
    used_are = t.used_are;
    open_slot = t.open_slot;
  }

  -- and a table passes
  pub table_passes : (has : Test) → IsTable w ws has cap n used → cap < 2 ^ 64 → Tested
  table_passes has t word = record {
    capacity = power_capacity cap t.power.0 t.power.1 word;
    size = t.size;
    states = t.states;
    near = λ i li fi.
        let r = t.reached (key w ws i) (t.keys i li fi) in
        let same : walk cap (key w ws i) r.steps ≡ i = t.once (walk cap (key w ws i) r.steps) i (mod-lt _ (omega (arith, li))) li r.full fi r.same in
        behind_most w cap ws i (key w ws i) li r.steps same r.way;
    full_are = t.full_are;
    used_are = t.used_are;
    open_slot = t.open_slot;
  }
