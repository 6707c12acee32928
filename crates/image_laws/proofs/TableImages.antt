-- Keys that are inserted into a table one after the other, as images say it.
use Rattle.std.proofs.Common.{◌≡◌, ℕ, zero, suc, ◌+◌, ◌-◌, ◌*◌, ◌^◌, ◌%◌, ◌/◌, ◌<◌, ◌≤◌, true, false, List, [], ◌∷◌, length, refl, sym, ap, ◌∙◌, subst, arith, eqb, ⊎_elim, ◌⊎◌, leb-true, leb-false}
use Rattle.std.proofs.lemmas.Bool.{cond_both, cond-true, cond-false}
use Rattle.std.proofs.lemmas.Bool.Decides.{eqb_tells}
use Rattle.std.proofs.Math.Nat.{add-mul-mod_self_left, mod-lt, mod-add-div, mod-eq_of_lt, two-pow-succ}
use Rattle.std.specs.Prelude.{slice_set, nat_le}
use Rattle.std.specs.FinMap as maps
use Rattle.containers.specs.Sets as sets
use Rattle.sequences.specs.Keys.{AllAbove, IsRising}
use Rattle.relations.specs.Blocks.{AreWords}
use Rattle.relations.specs.Represents.{Set, Map, state, IsTable}
use Rattle.relations.specs.Images.{slots, slots_from, open_slot, written, inserted, set_entries, map_entries, keys_of}
use Rattle.op_base.specs.Counts.{Test, put}
use Rattle.image_laws.specs.Laws.{AreEntries}
use Rattle.op_hash.specs.Tables.{walk, NoEmpty, Found, HasValues}
use Rattle.op_base.proofs.CountsLemmas.{true_false}
use Rattle.op_hash.proofs.TablesLemmas.{some_slots, an_empty, two_set, two_state, two_key, two_table, two_values, value_table, value_values}
use Rattle.op_hash.proofs.Values.{sets_as_tests, maps_as_tests}
use Rattle.row_laws.proofs.Words.{words_set}

-- ---- the first open slot

walk_next : (cap x l : ℕ) → (walk cap x l + 1) % cap ≡ walk cap x (suc l)
walk_next cap x l =
    let e : (x % cap + l) % cap + 1 + cap * ((x % cap + l) / cap) ≡ x % cap + suc l = omega (arith, mod-add-div (x % cap + l) cap) in
    sym (add-mul-mod_self_left ((x % cap + l) % cap + 1) cap ((x % cap + l) / cap)) ∙ ap (λ z. z % cap) e

pub walk_first : (cap x : ℕ) → 0 < cap → walk cap x 0 ≡ x % cap
walk_first cap x some = ap (λ z. z % cap) (let e : x % cap + 0 ≡ x % cap = omega arith in e) ∙ mod-eq_of_lt (mod-lt x some)

-- each slot is met by the walk, within as many steps as there are slots
pub walk_to : (cap x e : ℕ) → e < cap → (m : ℕ) × (m < cap) × (walk cap x m ≡ e)
walk_to cap x e lt =
    let r : x % cap < cap = mod-lt x (omega (arith, lt)) in
    ⊎_elim
    (λ le. let q : x % cap + (e - x % cap) ≡ e = omega (arith, le) in (e - x % cap, omega (arith, lt), ap (λ z. z % cap) q ∙ mod-eq_of_lt lt))
    (λ less.
    let q : x % cap + (e + (cap - x % cap)) ≡ e + cap * 1 = omega (arith, r) in
    (e + (cap - x % cap), omega (arith, less, r), ap (λ z. z % cap) q ∙ add-mul-mod_self_left e cap 1 ∙ mod-eq_of_lt lt))
    (let o : (x % cap ≤ e) ⊎ (e < x % cap) = grind arith in o)

module _ (w cap x : ℕ) (ws : List ℕ) where
  -- where an open slot is met within some turns, the first is found, and none before it is empty
  pub record Opened (turns l : ℕ) : Type 0 where
    pub steps : ℕ
    pub same : open_slot w cap ws (walk cap x l) turns ≡ walk cap x steps
    pub empty : state w ws (walk cap x steps) ≡ 0
    pub path : NoEmpty w ws cap x steps

  pub opened : (turns l m : ℕ) → NoEmpty w ws cap x l → m < turns → state w ws (walk cap x (m + l)) ≡ 0 → Opened turns l
  opened zero l m path lt e = absurd (let f : ⊥ = omega (arith, lt) in f)
  opened (suc turns) l m path lt e =
      ⊎_elim
      (λ d. record { steps = l; same = cond-true (eqb (state w ws (walk cap x l)) 0) _ _ d.0; empty = d.1; path = path })
      (λ d. later m lt e d.0 d.1 (λ more k k_lt k_e. opened turns (suc l) k more k_lt k_e))
      (eqb_tells (state w ws (walk cap x l)) 0)
    where
      later : (m : ℕ) → m < suc turns → state w ws (walk cap x (m + l)) ≡ 0 → eqb (state w ws (walk cap x l)) 0 ≡ false → (state w ws (walk cap x l) ≡ 0 → ⊥)
          → (NoEmpty w ws cap x (suc l) → (k : ℕ) → k < turns → state w ws (walk cap x (k + suc l)) ≡ 0 → Opened turns (suc l)) → Opened (suc turns) l
      later zero lt e d ne go = absurd (ne (ap (λ y. state w ws (walk cap x y)) (let z : l ≡ 0 + l = omega arith in z) ∙ e))
      later (suc m) lt e d ne go =
          let more : NoEmpty w ws cap x (suc l) = λ k k_lt. ⊎_elim (λ i. subst (λ y. state w ws (walk cap x y) ≡ 0 → ⊥) (sym i.1) ne) (λ i. path k (omega (arith, k_lt, i.1))) (eqb_tells k l) in
          let r = go more m (omega (arith, lt)) (ap (λ y. state w ws (walk cap x y)) (let z : m + suc l ≡ suc m + l = omega arith in z) ∙ e) in
          record {
            steps = r.steps;
            same = cond-false (eqb (state w ws (walk cap x l)) 0) _ _ d ∙ ap (λ y. open_slot w cap ws y turns) (walk_next cap x l) ∙ r.same;
            empty = r.empty;
            path = r.path;
          }

module _ (w cap n used x : ℕ) (ws : List ℕ) (has : Test) (t : IsTable w ws has cap n used) (new : has x ≡ false) where
  pub open_found : (o : Found w cap x has ws) × (open_slot w cap ws (x % cap) cap ≡ o.slot)
  open_found =
      let e = an_empty w cap n used ws has t in
      let m = walk_to cap x e.0 e.1 in
      let some = some_slots w cap n used ws has t in
      let r = opened w cap x ws cap 0 m.0 (λ k lt. absurd (let f : ⊥ = omega (arith, lt) in f)) m.1 (ap (λ y. state w ws (walk cap x y)) (let z : m.0 + 0 ≡ m.0 = omega arith in z) ∙ ap (state w ws) m.2 ∙ e.2) in (
        record { slot = walk cap x r.steps; within = mod-lt _ some; on = λ a. true_false (has x) a new; off = λ a. (r.steps, refl, r.empty, r.path) },
        ap (λ y. open_slot w cap ws y cap) (sym (walk_first cap x some)) ∙ r.same,
      )

-- ---- sets

-- a set with these numbers, one after the other
abbrev pub with_all : Set → List ℕ → Set
with_all s [] = s
with_all s (x ∷ xs) = with_all (sets.insert s x) xs

-- all elements are below these numbers
abbrev pub AreBelow : Test → List ℕ → Type 0
AreBelow has xs = (y : ℕ) → has y ≡ true → AllAbove y xs

not_yet : (has : Test) (x : ℕ) (xs : List ℕ) → AreBelow has (x ∷ xs) → has x ≡ false
not_yet has x xs below = at (has x) refl
  where
    at : (b : _) → has x ≡ b → b ≡ false
    at true e = absurd (let lt = (below x e).0 in let f : ⊥ = omega (arith, lt) in f)
    at false e = refl

still_below : (has : Test) (x : ℕ) (xs : List ℕ) → AreBelow has (x ∷ xs) → AllAbove x xs → AreBelow (put has x) xs
still_below has x xs below above y =
    cond_both (eqb y x) true (has y) (λ z. z ≡ true → AllAbove y xs)
    (λ e h. subst (λ z. AllAbove z xs) (sym (⊎_elim (λ d. d.1) (λ d. absurd (let f : ⊥ = cc (e, d.0) in f)) (eqb_tells y x))) above)
    (λ e h. (below y h).1)

pub record SetTable (cap n : ℕ) (s : Set) (ws : List ℕ) : Type 0 where
  pub table : IsTable 2 ws (sets.contains s) cap n n
  pub are_words : AreWords ws

set_step : (cap n x : ℕ) (s : Set) (ws : List ℕ) → SetTable cap n s ws → sets.contains s x ≡ false → suc n < cap → x < 2 ^ 64
    → SetTable cap (suc n) (sets.insert s x) (written ws (2 * open_slot 2 cap ws (x % cap) cap) (1 ∷ x ∷ []))
set_step cap n x s ws t new room word =
    let has = sets.contains s in
    let f = open_found 2 cap n n x ws has t.table new in
    let wide : 2 ≤ 2 = omega arith in
    let next : 2 * f.0.slot + 1 ≡ suc (2 * f.0.slot) = omega arith in
    subst (λ y. SetTable cap (suc n) (sets.insert s x) (written ws (2 * y) (1 ∷ x ∷ []))) (sym f.1)
    (subst (λ y. SetTable cap (suc n) (sets.insert s x) (slice_set (slice_set ws (2 * f.0.slot) 1) y x)) next
    (record {
      table = subst (λ g. IsTable 2 (two_set 2 cap n n x ws has wide t.table f.0) g cap (suc n) (suc n)) (sym (sets_as_tests.more s x)) (two_table 2 cap n n x ws has wide t.table f.0 new room);
      are_words = words_set (slice_set ws (2 * f.0.slot) 1) (2 * f.0.slot + 1) x word (words_set ws (2 * f.0.slot) 1 (omega arith) t.are_words);
    }))

pub set_inserted : (cap : ℕ) (xs : List ℕ) (n : ℕ) (s : Set) (ws : List ℕ) → SetTable cap n s ws → AreBelow (sets.contains s) xs → IsRising xs → n + length xs < cap → AreWords xs
    → SetTable cap (n + length xs) (with_all s xs) (inserted 2 cap ws (set_entries xs))
set_inserted cap [] n s ws t below rises room words = subst (λ m. SetTable cap m s ws) (let e : n ≡ n + 0 = omega arith in e) t
set_inserted cap (x ∷ xs) n s ws t below rises room words =
    let new = not_yet (sets.contains s) x xs below in
    let one = set_step cap n x s ws t new (omega (arith, room)) (words 0 (omega arith)) in
    let r = set_inserted cap xs (suc n) (sets.insert s x) (written ws (2 * open_slot 2 cap ws (x % cap) cap) (1 ∷ x ∷ [])) one
    (subst (λ g. AreBelow g xs) (sym (sets_as_tests.more s x)) (still_below (sets.contains s) x xs below rises.0)) rises.1 (omega (arith, room)) (λ i lt. words (suc i) (omega (arith, lt))) in
    subst (λ m. SetTable cap m (with_all (sets.insert s x) xs) (inserted 2 cap ws (set_entries (x ∷ xs)))) (let e : suc n + length xs ≡ n + suc (length xs) = omega arith in e) r

-- ---- maps

-- a map with these entries, one after the other
abbrev pub with_entries : Map → List (ℕ × ℕ) → Map
with_entries m [] = m
with_entries m (e ∷ es) = with_entries (maps.insert m e.0 e.1) es

pub record MapTable (cap n : ℕ) (m : Map) (ws : List ℕ) : Type 0 where
  pub table : IsTable 3 ws (maps.contains_key m) cap n n
  pub values : HasValues 3 ws cap (maps.get m)
  pub are_words : AreWords ws

map_step : (cap n x v : ℕ) (m : Map) (ws : List ℕ) → MapTable cap n m ws → maps.contains_key m x ≡ false → suc n < cap → x < 2 ^ 64 → v < 2 ^ 64
    → MapTable cap (suc n) (maps.insert m x v) (written ws (3 * open_slot 3 cap ws (x % cap) cap) (1 ∷ x ∷ v ∷ []))
map_step cap n x v m ws t new room word word_v =
    let has = maps.contains_key m in
    let get = maps.get m in
    let f = open_found 3 cap n n x ws has t.table new in
    let wide : 2 ≤ 3 = omega arith in
    let three : 3 ≤ 3 = omega arith in
    let us = two_set 3 cap n n x ws has wide t.table f.0 in
    let t2 = two_table 3 cap n n x ws has wide t.table f.0 new room in
    let full = two_state 3 cap n n x ws has wide t.table f.0 in
    let is_x = two_key 3 cap n n x ws has wide t.table f.0 in
    let others = two_values 3 cap n n x ws has wide t.table f.0 get t.values in
    let next : 3 * f.0.slot + 1 ≡ suc (3 * f.0.slot) = omega arith in
    let third : 3 * f.0.slot + 2 ≡ suc (suc (3 * f.0.slot)) = omega arith in
    subst (λ y. MapTable cap (suc n) (maps.insert m x v) (written ws (3 * y) (1 ∷ x ∷ v ∷ []))) (sym f.1)
    (subst (λ y. MapTable cap (suc n) (maps.insert m x v) (slice_set (slice_set (slice_set ws (3 * f.0.slot) 1) y x) (suc (suc (3 * f.0.slot))) v)) next
    (subst (λ y. MapTable cap (suc n) (maps.insert m x v) (slice_set us y v)) third
    (record {
      table = subst (λ g. IsTable 3 (slice_set us (3 * f.0.slot + 2) v) g cap (suc n) (suc n)) (sym (maps_as_tests.more m x v)) (value_table 3 cap (suc n) (suc n) x v f.0.slot us (put has x) get three t2 f.0.within full is_x others);
      values = subst (λ g. HasValues 3 (slice_set us (3 * f.0.slot + 2) v) cap g) (sym (maps_as_tests.more_values m x v)) (value_values 3 cap (suc n) (suc n) x v f.0.slot us (put has x) get three t2 f.0.within full is_x others);
      are_words = words_set us (3 * f.0.slot + 2) v word_v (words_set (slice_set ws (3 * f.0.slot) 1) (3 * f.0.slot + 1) x word (words_set ws (3 * f.0.slot) 1 (omega arith) t.are_words));
    })))

pub map_inserted : (cap : ℕ) (es : List (ℕ × ℕ)) (n : ℕ) (m : Map) (ws : List ℕ) → MapTable cap n m ws → AreBelow (maps.contains_key m) (keys_of es) → IsRising (keys_of es) → n + length es < cap → AreEntries es
    → MapTable cap (n + length es) (with_entries m es) (inserted 3 cap ws (map_entries es))
map_inserted cap [] n m ws t below rises room words = subst (λ k. MapTable cap k m ws) (let e : n ≡ n + 0 = omega arith in e) t
map_inserted cap (e ∷ es) n m ws t below rises room words =
    let new = not_yet (maps.contains_key m) e.0 (keys_of es) below in
    let one = map_step cap n e.0 e.1 m ws t new (omega (arith, room)) words.0.0 words.0.1 in
    let r = map_inserted cap es (suc n) (maps.insert m e.0 e.1) (written ws (3 * open_slot 3 cap ws (e.0 % cap) cap) (1 ∷ e.0 ∷ e.1 ∷ [])) one
    (subst (λ g. AreBelow g (keys_of es)) (sym (maps_as_tests.more m e.0 e.1)) (still_below (maps.contains_key m) e.0 (keys_of es) below rises.0)) rises.1 (omega (arith, room)) words.1 in
    subst (λ k. MapTable cap k (with_entries (maps.insert m e.0 e.1) es) (inserted 3 cap ws (map_entries (e ∷ es)))) (let q : suc n + length es ≡ n + suc (length es) = omega arith in q) r

-- ---- the slots

pub record Slots (n : ℕ) (cap : ℕ) : Type 0 where
  pub power : (e : ℕ) × (cap ≡ 8 * 2 ^ e)
  pub room : n < cap
  pub most : n < 2 ^ 32 → cap < 2 ^ 35

slots_power : (turns e cap n : ℕ) → cap ≡ 8 * 2 ^ e → (f : ℕ) × (slots_from turns cap n ≡ 8 * 2 ^ f)
slots_power zero e cap n p = (e, p)
slots_power (suc turns) e cap n p =
    cond_both (nat_le (4 * n) (3 * cap)) cap (slots_from turns (2 * cap) n) (λ z. (f : ℕ) × (z ≡ 8 * 2 ^ f))
    (λ d. (e, p))
    (λ d. slots_power turns (suc e) (2 * cap) n (let s = two-pow-succ e in omega (arith, p, s)))

-- as many turns as keys are enough
slots_room : (turns c n : ℕ) → 8 ≤ c → 4 * n ≤ 3 * c + 4 * turns → n < slots_from turns c n
slots_room zero c n big le = omega (arith, big, le)
slots_room (suc turns) c n big le =
    cond_both (nat_le (4 * n) (3 * c)) c (slots_from turns (2 * c) n) (λ z. n < z)
    (λ d. let h : 4 * n ≤ 3 * c = leb-true (4 * n) (3 * c) d in omega (arith, big, h))
    (λ d. slots_room turns (2 * c) n (omega (arith, big)) (omega (arith, big, le)))

slots_most : (turns c n k : ℕ) → c ≤ k → 8 * n ≤ 3 * k → slots_from turns c n ≤ k
slots_most zero c n k le most = le
slots_most (suc turns) c n k le most =
    cond_both (nat_le (4 * n) (3 * c)) c (slots_from turns (2 * c) n) (λ z. z ≤ k)
    (λ d. le)
    (λ d. let h : 3 * c < 4 * n = leb-false (4 * n) (3 * c) d in slots_most turns (2 * c) n k (omega (arith, h, most)) most)

pub slots_are : (n : ℕ) → Slots n (slots n)
slots_are n = record {
  power = slots_power n 0 8 n refl;
  room = slots_room n 8 n (omega arith) (omega arith);
  most = λ small. let m : slots n ≤ 2 ^ 34 = slots_most n 8 n (2 ^ 34) (omega arith) (omega (arith, small)) in omega (arith, m);
}
