-- The keys of full slots.
use Rattle.std.proofs.Common.{◌≡◌, ℕ, zero, suc, ◌+◌, ◌%◌, ◌<◌, ◌≤◌, Bool, true, false, cond, List, refl, sym, ap, ◌∙◌, subst, arith, eqb, eqb-true, eq-eqb, ne_eqb, ⊎_elim, ◌⊎◌, inl, inr}
use Rattle.std.proofs.lemmas.Bool.{cond_both, cond-true, cond-false}
use Rattle.std.proofs.lemmas.Bool.Decides.{eqb_tells}
use Rattle.std.proofs.Math.Nat.{mod-lt}
use Rattle.std.specs.Cmp.{nat_cmp_total}
use Rattle.std.specs.FinMap as maps
use Rattle.std.specs.Option.{is_some}
use Rattle.std.specs.Ordering.{nat_cmp}
use Rattle.std.specs.Prelude.{Option, Some}
use Rattle.containers.specs.Sets as sets
use Rattle.relations.specs.Represents.{Set, Map, one_if, count, state, key, value, is_full, IsTable}
use Rattle.image_laws.specs.Held.{slot_keys, slot_entries}
use Rattle.op_base.specs.Counts.{Test, put}
use Rattle.op_hash.specs.Tables.{walk}
use Rattle.op_base.proofs.CountsLemmas.{put_here, put_other, true_false}
use Rattle.image_laws.proofs.Tests.{same_test, not_true}
use Rattle.op_hash.proofs.Values.{sets_as_tests, maps_as_tests}

-- ---- sets as tests

pub in_insert : (s : Set) (x y : ℕ) → sets.contains (sets.insert s x) y ≡ put (sets.contains s) x y
in_insert s x y = ap (λ f. f y) (sets_as_tests.more s x)

pub in_map : (m : Map) (x v y : ℕ) → maps.contains_key (maps.insert m x v) y ≡ put (maps.contains_key m) x y
in_map m x v y = ap (λ f. f y) (maps_as_tests.more m x v)

pub same_sets : (s t : Set) → ((q : ℕ) → sets.contains s q ≡ sets.contains t q) → s ≡ t
same_sets s t e = sets.same_set nat_cmp_total sets.nat_cmp-IsAntisymmetric s t e

pub same_maps : (m n : Map) → ((q : ℕ) → maps.get m q ≡ maps.get n q) → m ≡ n
same_maps m n e = maps.same_map nat_cmp_total maps.nat_cmp-IsAntisymmetric m n e

-- a key that is put is the one or was there
pub put_cases : (has : Test) (x y : ℕ) → put has x y ≡ true → (y ≡ x) ⊎ (has y ≡ true)
put_cases has x y e = ⊎_elim (λ d. inl d.1) (λ d. inr (sym (put_other has x y d.1) ∙ e)) (eqb_tells y x)

pub put_still : (has : Test) (x y : ℕ) → has y ≡ true → put has x y ≡ true
put_still has x y e = cond_both (eqb y x) true (has y) (λ z. z ≡ true) (λ d. refl) (λ d. e)

module _ (w : ℕ) (ws : List ℕ) where
  abbrev F : Test
  F = is_full w ws

  -- a slot among the first so many that is full and has this key
  pub record Slot (n x : ℕ) : Type 0 where
    pub at : ℕ
    pub below : at < n
    pub full : state w ws at ≡ 1
    pub same : key w ws at ≡ x

  later : (n x : ℕ) → Slot n x → Slot (suc n) x
  later n x s = record { at = s.at; below = (let lt = s.below in omega (arith, lt)); full = s.full; same = s.same }

  pub slot_in_keys : (n x : ℕ) → sets.contains (slot_keys w ws n) x ≡ true → Slot n x
  slot_in_keys zero x e = absurd (let f : ⊥ = cc (sets.contains-empty nat_cmp x, e) in f)
  slot_in_keys (suc n) x e =
      let by : (b : Bool) → F n ≡ b → sets.contains (cond b (sets.insert (slot_keys w ws n) (key w ws n)) (slot_keys w ws n)) x ≡ true → Slot (suc n) x =
      (λ b d h. elim b as (λ b. F n ≡ b → sets.contains (cond b (sets.insert (slot_keys w ws n) (key w ws n)) (slot_keys w ws n)) x ≡ true → Slot (suc n) x) [
        | true ↦ λ d h. ⊎_elim
            (λ q. record { at = n; below = omega arith; full = eqb-true (state w ws n) 1 d; same = sym q })
            (λ q. later n x (slot_in_keys n x q))
            (put_cases (sets.contains (slot_keys w ws n)) (key w ws n) x (sym (in_insert (slot_keys w ws n) (key w ws n) x) ∙ h))
        | false ↦ λ d h. later n x (slot_in_keys n x h)
      ] d h) in
      by (F n) refl e

  pub in_slot_keys : (n x : ℕ) → Slot n x → sets.contains (slot_keys w ws n) x ≡ true
  in_slot_keys zero x s = absurd (let lt = s.below in let f : ⊥ = omega (arith, lt) in f)
  in_slot_keys (suc n) x s =
      let lt = s.below in
      cond_both (F n) (sets.insert (slot_keys w ws n) (key w ws n)) (slot_keys w ws n) (λ z. sets.contains z x ≡ true)
      (λ d. in_insert (slot_keys w ws n) (key w ws n) x ∙ ⊎_elim
      (λ q. subst (λ z. put (sets.contains (slot_keys w ws n)) z x ≡ true) (sym (ap (key w ws) (sym q.1) ∙ s.same)) (put_here (sets.contains (slot_keys w ws n)) x))
      (λ q. put_still (sets.contains (slot_keys w ws n)) (key w ws n) x (in_slot_keys n x (record { at = s.at; below = omega (arith, lt, q.1); full = s.full; same = s.same })))
      (eqb_tells s.at n))
      (λ d. ⊎_elim
      (λ q. absurd (let f : ⊥ = cc (sym d ∙ eq-eqb (state w ws n) 1 (ap (state w ws) (sym q.1) ∙ s.full)) in f))
      (λ q. in_slot_keys n x (record { at = s.at; below = omega (arith, lt, q.1); full = s.full; same = s.same }))
      (eqb_tells s.at n))

  -- no key stands in two full slots
  abbrev pub Once : ℕ → Type 0
  Once n = (i j : ℕ) → i < n → j < n → state w ws i ≡ 1 → state w ws j ≡ 1 → key w ws i ≡ key w ws j → i ≡ j

  len_insert : (s : Set) (x : ℕ) → sets.len (sets.insert s x) ≡ cond (sets.contains s x) (sets.len s) (sets.len s + 1)
  len_insert s x = sets.len-insert nat_cmp_total s x

  pub keys_most : (n : ℕ) → sets.len (slot_keys w ws n) ≤ count F n
  keys_most zero = let e = sets.len-empty nat_cmp in omega (arith, e)
  keys_most (suc n) =
      let r = keys_most n in
      cond_both (F n) (sets.insert (slot_keys w ws n) (key w ws n)) (slot_keys w ws n) (λ z. sets.len z ≤ one_if (F n) + count F n)
      (λ d. let o = ap one_if d in subst (λ z. z ≤ one_if (F n) + count F n) (sym (len_insert (slot_keys w ws n) (key w ws n)))
      (cond_both (sets.contains (slot_keys w ws n) (key w ws n)) (sets.len (slot_keys w ws n)) (sets.len (slot_keys w ws n) + 1) (λ z. z ≤ one_if (F n) + count F n) (λ c. omega (arith, r)) (λ c. omega (arith, r, o))))
      (λ d. omega (arith, r))

  -- where there are as many keys as full slots, none was there before
  tight : (n : ℕ) → sets.len (slot_keys w ws (suc n)) ≡ count F (suc n) → (sets.len (slot_keys w ws n) ≡ count F n) × (F n ≡ true → sets.contains (slot_keys w ws n) (key w ws n) ≡ false)
  tight n e = by (F n) refl e
    where
      r : sets.len (slot_keys w ws n) ≤ count F n
      r = keys_most n

      S : Set
      S = slot_keys w ws n

      by : (b : Bool) → F n ≡ b → sets.len (cond b (sets.insert S (key w ws n)) S) ≡ one_if b + count F n → (sets.len S ≡ count F n) × (F n ≡ true → sets.contains S (key w ws n) ≡ false)
      by false d e = ((let q : sets.len S ≡ count F n = omega (arith, e) in q), λ t. true_false (F n) t d)
      by true d e = new (sets.contains S (key w ws n)) refl (sym (len_insert S (key w ws n)) ∙ e)
        where
          new : (c : Bool) → sets.contains S (key w ws n) ≡ c → cond c (sets.len S) (sets.len S + 1) ≡ 1 + count F n → (sets.len S ≡ count F n) × (F n ≡ true → sets.contains S (key w ws n) ≡ false)
          new true h e = absurd (let f : ⊥ = omega (arith, r, e) in f)
          new false h e = (omega (arith, e), λ t. h)

  pub once_by : (n : ℕ) → sets.len (slot_keys w ws n) ≡ count F n → Once n
  once_by zero e i j li lj fi fj same = absurd (let f : ⊥ = omega (arith, li) in f)
  once_by (suc n) e i j li lj fi fj same =
      let t = tight n e in
      let other : (k : ℕ) → k < n → state w ws k ≡ 1 → key w ws k ≡ key w ws n → state w ws n ≡ 1 → ⊥ =
      (λ k lk fk same fn. true_false (sets.contains (slot_keys w ws n) (key w ws n)) (in_slot_keys n (key w ws n) (record { at = k; below = lk; full = fk; same = same })) (t.1 (eq-eqb (state w ws n) 1 fn))) in
      ⊎_elim
      (λ a. ⊎_elim (λ b. a.1 ∙ sym b.1)
      (λ b. absurd (other j (omega (arith, lj, b.1)) fj (sym same ∙ ap (key w ws) a.1) (ap (state w ws) (sym a.1) ∙ fi))) (eqb_tells j n))
      (λ a. ⊎_elim
      (λ b. absurd (other i (omega (arith, li, a.1)) fi (same ∙ ap (key w ws) b.1) (ap (state w ws) (sym b.1) ∙ fj)))
      (λ b. once_by n t.0 i j (omega (arith, li, a.1)) (omega (arith, lj, b.1)) fi fj same) (eqb_tells j n))
      (eqb_tells i n)

  -- and where no key stands twice, there are as many keys as full slots
  fewer : (n : ℕ) → Once (suc n) → Once n
  fewer n o i j li lj = o i j (omega (arith, li)) (omega (arith, lj))

  pub not_before : (n : ℕ) → Once (suc n) → F n ≡ true → sets.contains (slot_keys w ws n) (key w ws n) ≡ false
  not_before n o d =
      not_true (sets.contains (slot_keys w ws n) (key w ws n))
      (λ h. let s = slot_in_keys n (key w ws n) h in let lt = s.below in
      let same : s.at ≡ n = o s.at n (omega (arith, lt)) (omega arith) s.full (eqb-true (state w ws n) 1 d) s.same in let f : ⊥ = omega (arith, lt, same) in f)

  pub keys_all : (n : ℕ) → Once n → sets.len (slot_keys w ws n) ≡ count F n
  keys_all zero o = sets.len-empty nat_cmp
  keys_all (suc n) o =
      let r = keys_all n (fewer n o) in
      cond_both (F n) (sets.insert (slot_keys w ws n) (key w ws n)) (slot_keys w ws n) (λ z. sets.len z ≡ one_if (F n) + count F n)
      (λ d. let i = ap one_if d in len_insert (slot_keys w ws n) (key w ws n) ∙ cond-false (sets.contains (slot_keys w ws n) (key w ws n)) _ _ (not_before n o d) ∙ (let q : sets.len (slot_keys w ws n) + 1 ≡ one_if (F n) + count F n = omega (arith, r, i) in q))
      (λ d. let i = ap one_if d in (let q : sets.len (slot_keys w ws n) ≡ one_if (F n) + count F n = omega (arith, r, i) in q))

  -- a table of the keys that pass a test has these keys
  pub table_keys : (cap n used : ℕ) (has : Test) → IsTable w ws has cap n used → 0 < cap → (x : ℕ) → sets.contains (slot_keys w ws cap) x ≡ has x
  table_keys cap n used has t some x =
      same_test (sets.contains (slot_keys w ws cap) x) (has x)
      (λ e. let s = slot_in_keys cap x e in ap has (sym s.same) ∙ t.keys s.at s.below s.full)
      (λ e. let r = t.reached x e in in_slot_keys cap x (record { at = walk cap x r.steps; below = mod_in (x % cap + r.steps); full = r.full; same = r.same }))
    where
      mod_in : (y : ℕ) → y % cap < cap
      mod_in y = mod-lt y some

-- ---- maps

module _ (ws : List ℕ) where
  -- the keys of the entries are the keys of the slots
  pub entry_keys : (n x : ℕ) → maps.contains_key (slot_entries ws n) x ≡ sets.contains (slot_keys 3 ws n) x
  entry_keys zero x = ap (λ (o : Option ℕ). is_some o) (maps.get-empty nat_cmp x) ∙ sym (sets.contains-empty nat_cmp x)
  entry_keys (suc n) x = by (is_full 3 ws n) (entry_keys n x)
    where
      by : (b : Bool) → maps.contains_key (slot_entries ws n) x ≡ sets.contains (slot_keys 3 ws n) x → maps.contains_key (cond b (maps.insert (slot_entries ws n) (key 3 ws n) (value 3 ws n)) (slot_entries ws n)) x ≡ sets.contains (cond b (sets.insert (slot_keys 3 ws n) (key 3 ws n)) (slot_keys 3 ws n)) x
      by false r = r
      by true r = in_map (slot_entries ws n) (key 3 ws n) (value 3 ws n) x ∙ ap (λ z. cond (eqb x (key 3 ws n)) true z) r ∙ sym (in_insert (slot_keys 3 ws n) (key 3 ws n) x)

  pub entries_len : (n : ℕ) → maps.len (slot_entries ws n) ≡ sets.len (slot_keys 3 ws n)
  entries_len zero = maps.len-empty nat_cmp ℕ ∙ sym (sets.len-empty nat_cmp)
  entries_len (suc n) = by (is_full 3 ws n) (entries_len n) (entry_keys n (key 3 ws n))
    where
      by : (b : Bool) → maps.len (slot_entries ws n) ≡ sets.len (slot_keys 3 ws n) → maps.contains_key (slot_entries ws n) (key 3 ws n) ≡ sets.contains (slot_keys 3 ws n) (key 3 ws n) → maps.len (cond b (maps.insert (slot_entries ws n) (key 3 ws n) (value 3 ws n)) (slot_entries ws n)) ≡ sets.len (cond b (sets.insert (slot_keys 3 ws n) (key 3 ws n)) (slot_keys 3 ws n))
      by false r k = r
      by true r k =
          maps.len-insert nat_cmp_total (slot_entries ws n) (key 3 ws n) (value 3 ws n)
          ∙ (λ i. cond (k i) (r i) (r i + 1))
          ∙ sym (sets.len-insert nat_cmp_total (slot_keys 3 ws n) (key 3 ws n))

  -- the value in a full slot is that at its key
  pub entry_values : (n : ℕ) → Once 3 ws n → (i : ℕ) → i < n → state 3 ws i ≡ 1 → maps.get (slot_entries ws n) (key 3 ws i) ≡ Some (value 3 ws i)
  entry_values zero o i lt f = absurd (let f : ⊥ = omega (arith, lt) in f)
  entry_values (suc n) o i lt f =
      cond_both (is_full 3 ws n) (maps.insert (slot_entries ws n) (key 3 ws n) (value 3 ws n)) (slot_entries ws n) (λ z. maps.get z (key 3 ws i) ≡ Some (value 3 ws i))
      (λ d. ap (λ f. f (key 3 ws i)) (maps_as_tests.more_values (slot_entries ws n) (key 3 ws n) (value 3 ws n)) ∙ ⊎_elim
      (λ q. cond-true (eqb (key 3 ws i) (key 3 ws n)) _ _ (eq-eqb (key 3 ws i) (key 3 ws n) (ap (key 3 ws) q.1)) ∙ ap (λ z. Some (value 3 ws z)) (sym q.1))
      (λ q. cond-false (eqb (key 3 ws i) (key 3 ws n)) _ _ (ne_eqb (key 3 ws i) (key 3 ws n) (λ e. q.1 (o i n lt (omega arith) f (eqb-true (state 3 ws n) 1 d) e)))
      ∙ entry_values n (λ a b la lb. o a b (omega (arith, la)) (omega (arith, lb))) i (omega (arith, lt, q.1)) f)
      (eqb_tells i n))
      (λ d. ⊎_elim
      (λ q. absurd (let f : ⊥ = cc (sym d ∙ eq-eqb (state 3 ws n) 1 (ap (state 3 ws) (sym q.1) ∙ f)) in f))
      (λ q. entry_values n (λ a b la lb. o a b (omega (arith, la)) (omega (arith, lb))) i (omega (arith, lt, q.1)) f)
      (eqb_tells i n))
