-- Values whose numbers are words.
use Rattle.std.proofs.Common.{◌≡◌, ◌≢◌, ℕ, zero, suc, ◌+◌, ◌^◌, ◌<◌, ◌≤◌, Bool, true, false, cond, ◌||◌, List, [], ◌∷◌, length, get_or, refl, sym, ap, ◌∙◌, subst, arith, eqb, eqb-true, eq-eqb, ne_eqb, ⊎_elim}
use Rattle.std.proofs.lemmas.Bool.{cond-true, cond-false}
use Rattle.std.proofs.lemmas.Bool.Decides.{eqb_tells}
use Rattle.std.specs.Prelude.{Option, Some, None, nat_le, slice_index}
use Rattle.std.specs.Cmp.{nat_cmp_total, unsigned_tied}
use Rattle.std.specs.FinMap as maps
use Rattle.std.specs.Ordering.{eq_by_cmp, nat_cmp}
use Rattle.sequences.specs.Keys.{AllAbove, IsRising, has}
use Rattle.containers.specs.Bag.{Bag, bag_of, place, sorted_list}
use Rattle.containers.specs.Sets as sets
use Rattle.containers.proofs.SetItems.{has_items}
use Rattle.containers.proofs.SetsOfRising.{contains_has}
use Rattle.nres_core.specs.Texts.{put_all}
use Rattle.relations.specs.Blocks.{AreWords}
use Rattle.relations.specs.Images.{keys_of}
use Rattle.image_laws.specs.Laws.{AreEntries}
use Rattle.image_laws.proofs.MapEntries.{entries_rise}

-- each is a word
abbrev pub Below : List ℕ → Type 0
Below [] = Unit {0}
Below (n ∷ ns) = (n < 2 ^ 64) × Below ns

pub below_words : (ns : List ℕ) → Below ns → AreWords ns
below_words [] b i lt = absurd (let z : ⊥ = omega arith in z)
below_words (n ∷ ns) b zero lt = b.0
below_words (n ∷ ns) b (suc i) lt = below_words ns b.1 i (omega arith)

-- ---- sets

has_below : (ns : List ℕ) (q : ℕ) → Below ns → has q ns ≡ true → q < 2 ^ 64
has_below [] q b h = absurd (let z : ⊥ = cc h in z)
has_below (n ∷ ns) q b h =
    ⊎_elim
    (λ t. let e : q ≡ n = eqb-true q n t.0 in let f = b.0 in omega (arith, e, f))
    (λ t. has_below ns q b.1 (subst (λ c. (c || has q ns) ≡ true) t.0 h))
    (eqb_tells q n)

all_below : (xs : List ℕ) → ((q : ℕ) → has q xs ≡ true → q < 2 ^ 64) → Below xs
all_below [] h = tt
all_below (x ∷ xs) h =
    (h x (ap (λ c. c || has x xs) (eq-eqb x x refl)), all_below xs (λ q e. h q (or_true (eqb q x) (has q xs) e)))
  where
    or_true : (a b : Bool) → b ≡ true → (a || b) ≡ true
    or_true true b e = refl
    or_true false b e = e

pub set_words : (ns : List ℕ) → Below ns → AreWords (sets.items (sets.from_list ns))
set_words ns b =
    below_words (sets.items (sets.from_list ns))
    (all_below (sets.items (sets.from_list ns)) (λ q e. has_below ns q b (sym (contains_has ns q) ∙ sym (has_items (sets.from_list ns) q) ∙ e)))

cond_less : (b : Bool) (n m : ℕ) → n ≤ m → cond b n (n + 1) ≤ suc m
cond_less true n m le = omega arith
cond_less false n m le = omega arith

pub set_small : (ns : List ℕ) → sets.len (sets.from_list {R = nat_cmp} ns) ≤ length ns
set_small [] = let e = sets.len-empty nat_cmp in omega (arith, e)
set_small (n ∷ ns) =
    subst (λ k. k ≤ suc (length ns)) (sym (sets.len-insert nat_cmp_total (sets.from_list ns) n))
    (cond_less (sets.contains (sets.from_list {R = nat_cmp} ns) n) (sets.len (sets.from_list {R = nat_cmp} ns)) (length ns) (set_small ns))

-- ---- multisets

place_below : (n : ℕ) (xs : List ℕ) → n < 2 ^ 64 → Below xs → Below (place n xs)
place_below n [] lt b = (lt, tt)
place_below n (x ∷ xs) lt b = by (nat_le n x) (place_below n xs lt b.1)
  where
    by : (c : Bool) → Below (place n xs) → Below (cond c (n ∷ x ∷ xs) (x ∷ place n xs))
    by true rest = (lt, b)
    by false rest = (b.0, rest)

sorted_below : (ns : List ℕ) → Below ns → Below (sorted_list ns)
sorted_below [] b = tt
sorted_below (n ∷ ns) b = place_below n (sorted_list ns) b.0 (sorted_below ns b.1)

pub bag_words : (ns : List ℕ) → Below ns → AreWords (bag_of ns).list
unfolding bag_of
bag_words ns b = below_words (sorted_list ns) (sorted_below ns b)

place_length : (n : ℕ) (xs : List ℕ) → length (place n xs) ≡ suc (length xs)
place_length n [] = refl
place_length n (x ∷ xs) = by (nat_le n x) (place_length n xs)
  where
    by : (c : Bool) → length (place n xs) ≡ suc (length xs) → length (cond c (n ∷ x ∷ xs) (x ∷ place n xs)) ≡ suc (suc (length xs))
    by true rest = refl
    by false rest = ap suc rest

sorted_length : (ns : List ℕ) → length (sorted_list ns) ≡ length ns
sorted_length [] = refl
sorted_length (n ∷ ns) = place_length n (sorted_list ns) ∙ ap suc (sorted_length ns)

pub bag_small : (ns : List ℕ) → length (bag_of ns).list ≡ length ns
unfolding bag_of
bag_small ns = sorted_length ns

-- ---- maps

abbrev pub PairsBelow : List (ℕ × ℕ) → Type 0
PairsBelow [] = Unit {0}
PairsBelow (e ∷ es) = ((e.0 < 2 ^ 64) × (e.1 < 2 ^ 64)) × PairsBelow es

-- what is found in a map
abbrev pub MapBelow : maps.FinMap nat_cmp ℕ → Type 0
MapBelow m = (q x : ℕ) → maps.get m q ≡ Some x → (q < 2 ^ 64) × (x < 2 ^ 64)

insert_below : (m : maps.FinMap nat_cmp ℕ) (k v : ℕ) → k < 2 ^ 64 → v < 2 ^ 64 → MapBelow m → MapBelow (maps.insert m k v)
insert_below m k v lk lv b q x e = by (eqb q k) refl
  where
    found : cond (eqb q k) (Some v) (maps.get m q) ≡ Some x
    found = ap (λ c. cond c (Some v) (maps.get m q)) (sym (unsigned_tied q k)) ∙ sym (maps.get-insert nat_cmp_total m k v q) ∙ e

    same : (a c : ℕ) → Some a ≡ Some c → a ≡ c
    same a c f = cc f

    by : (c : Bool) → eqb q k ≡ c → (q < 2 ^ 64) × (x < 2 ^ 64)
    by true t =
        let is_key : q ≡ k = eqb-true q k t in
        let value : v ≡ x = same v x (subst (λ c. cond c (Some v) (maps.get m q) ≡ Some x) t found) in
        (omega (arith, is_key, lk), omega (arith, value, lv))
    by false t = b q x (subst (λ c. cond c (Some v) (maps.get m q) ≡ Some x) t found)

put_below : (es : List (ℕ × ℕ)) (m : maps.FinMap nat_cmp ℕ) → PairsBelow es → MapBelow m → MapBelow (put_all m es)
put_below [] m p b = b
put_below (e ∷ es) m p b = put_below es (maps.insert m e.0 e.1) p.1 (insert_below m e.0 e.1 p.0.0 p.0.1 b)

none_above : (k : ℕ) (es : List (ℕ × ℕ)) → AllAbove k (keys_of es) → maps.find nat_cmp k es ≡ None
none_above k [] a = refl
none_above k (e ∷ es) a =
    cond-false (eq_by_cmp nat_cmp k e.0) (Some e.1) (maps.find nat_cmp k es) (unsigned_tied k e.0 ∙ ne_eqb k e.0 (λ q. let lt = a.0 in let f : ⊥ = omega (arith, lt, q) in f)) ∙ none_above k es a.1

found_below : (es : List (ℕ × ℕ)) → IsRising (keys_of es) → ((q x : ℕ) → maps.find nat_cmp q es ≡ Some x → (q < 2 ^ 64) × (x < 2 ^ 64)) → AreEntries es
found_below [] r h = tt
found_below (e ∷ es) r h = (
  h e.0 e.1 (cond-true (eq_by_cmp nat_cmp e.0 e.0) (Some e.1) (maps.find nat_cmp e.0 es) (unsigned_tied e.0 e.0 ∙ eq-eqb e.0 e.0 refl)),
  found_below es r.1 (λ q x f. h q x
      (cond-false (eq_by_cmp nat_cmp q e.0) (Some e.1) (maps.find nat_cmp q es) (unsigned_tied q e.0 ∙ ne_eqb q e.0 (λ z.
      let g : None ≡ Some x = sym (none_above e.0 es r.0) ∙ ap (λ k. maps.find nat_cmp k es) (sym z) ∙ f in let y : ⊥ = cc g in y)) ∙ f)),
)

none_in_empty : MapBelow maps.empty
none_in_empty q x e = let f : None ≡ Some x = sym (maps.get-empty nat_cmp q) ∙ e in absurd (let z : ⊥ = cc f in z)

pub map_words : (es : List (ℕ × ℕ)) → PairsBelow es → AreEntries (maps.entries (put_all maps.empty es))
map_words es p =
    found_below (maps.entries (put_all maps.empty es)) (entries_rise (put_all maps.empty es))
    (λ q x f. put_below es maps.empty p none_in_empty q x (maps.get-entries (put_all maps.empty es) q ∙ f))

put_small : (es : List (ℕ × ℕ)) (m : maps.FinMap nat_cmp ℕ) → maps.len (put_all m es) ≤ maps.len m + length es
put_small [] m = omega arith
put_small (e ∷ es) m =
    let rest = put_small es (maps.insert m e.0 e.1) in
    let one : maps.len (maps.insert m e.0 e.1) ≤ suc (maps.len m) =
    subst (λ k. k ≤ suc (maps.len m)) (sym (maps.len-insert nat_cmp_total m e.0 e.1)) (cond_less (maps.contains_key m e.0) (maps.len m) (maps.len m) (omega arith)) in
    omega (arith, rest, one)

pub map_small : (es : List (ℕ × ℕ)) → maps.len (put_all maps.empty es) ≤ length es
map_small es = let r = put_small es maps.empty in let e : maps.len (maps.empty {X = ℕ} {R = nat_cmp}) ≡ 0 = maps.len-empty nat_cmp ℕ in omega (arith, r, e)

pub no_entries : AreEntries (maps.entries (maps.empty {X = ℕ} {R = nat_cmp}))
no_entries = map_words [] tt

pub empty_small : maps.len (maps.empty {X = ℕ} {R = nat_cmp}) ≤ 0
empty_small = map_small []
