-- The image of each value represents it; it has one exactly where no element or key is too large.
use Rattle.std.proofs.Common.{◌≡◌, ℕ, ◌+◌, ◌*◌, ◌/◌, ◌^◌, ◌<◌, ◌≤◌, Bool, true, false, cond, ◌&&◌, ◌||◌, List, [], ◌∷◌, length, replicate, refl, sym, ap, ◌∙◌, subst, arith, eqb, eqb-true, eq-eqb, ltb-true, nat_lt, Option, Some, None, ⊎_elim}
use Rattle.std.proofs.lemmas.Bool.Decides.{eqb_tells}
use Rattle.std.proofs.lemmas.Bool.{cond_both, cond-false, and_parts, le-ltb, ltb-false}
use Rattle.std.specs.FinMap as maps
use Rattle.std.specs.List.{list_all}
use Rattle.std.specs.Option.{is_some}
use Rattle.std.specs.Ordering.{nat_cmp, eq_by_cmp}
use Rattle.std.specs.Cmp.{unsigned_tied}
use Rattle.sequences.specs.Keys.{IsRising, AllAbove, has}
use Rattle.containers.specs.Sets as sets
use Rattle.containers.proofs.SetItems.{items_rise, has_items, from_list-items}
use Rattle.containers.proofs.SetsOfRising.{len_rising}
use Rattle.nres_core.specs.declared.value.Value.{Value}
use Rattle.nres_core.specs.declared.value.Value.TheVariants as v
use Rattle.target_code.specs.declared.tree.Rep.{Rep}
use Rattle.target_code.specs.declared.tree.Rep.TheVariants as rep
use Rattle.relations.specs.Blocks.{AreWords, block}
use Rattle.relations.specs.Images.{Image, image, number, of_block, roomy, bounded, hset_image, hmap_image, bit_words, marked, slots, inserted, set_entries, map_entries, keys_of, placed, held}
use Rattle.relations.specs.Represents.{Represents, Set, Map, IsSmall, IsTable, one_if}
use Rattle.relations.specs.Laws.{IsEncoded}
use Rattle.relations.proofs.Encoded as encoded
use Rattle.relations.proofs.Layouts.{whole_exact}
use Rattle.op_hash.proofs.HsetRows.{four}
use Rattle.op_hash.proofs.TablesLemmas.{empty_table, no_values}
use Rattle.op_hash.proofs.Values.{sets_as_tests, maps_as_tests}
use Rattle.row_laws.proofs.Results.{two_words}
use Rattle.row_laws.proofs.Words.{words_zeros}
use Rattle.image_laws.specs.Laws.{AreEntries, ImagesRepresent, IsLeastFrom, AllHaveImages}
use Rattle.image_laws.proofs.BitImages.{AreUnder, bits_encoded}
use Rattle.image_laws.proofs.MapEntries.{entries_rise, with_all_entries, marks_encoded}
use Rattle.image_laws.proofs.SlotKeys.{same_sets, in_insert}
use Rattle.image_laws.proofs.TableImages.{SetTable, MapTable, AreBelow, with_all, with_entries, set_inserted, map_inserted, slots_are}
use Rattle.image_laws.proofs.Tests.{not_true}

some_same : {A : Type 0} (a b : A) → Some a ≡ Some b → a ≡ b
some_same a b e = cc e

-- ---- lengths

pub items_length : (s : Set) → sets.len s ≡ length (sets.items s)
items_length s = ap sets.len (sym (from_list-items s)) ∙ len_rising (sets.items s) (items_rise s)

-- ---- the set with all its elements

or_both : (a b : Bool) → (a || b) ≡ (b || a)
or_both true true = refl
or_both true false = refl
or_both false true = refl
or_both false false = refl

or_cond : (a b c : Bool) → (cond a true b || c) ≡ (b || (a || c))
or_cond true true c = refl
or_cond true false c = refl
or_cond false b c = refl

all_has : (xs : List ℕ) (s : Set) (q : ℕ) → sets.contains (with_all s xs) q ≡ (sets.contains s q || has q xs)
all_has [] s q = or_false (sets.contains s q)
  where
    or_false : (a : Bool) → a ≡ (a || false)
    or_false true = refl
    or_false false = refl
all_has (x ∷ xs) s q = all_has xs (sets.insert s x) q ∙ ap (λ b. b || has q xs) (in_insert s x q) ∙ or_cond (eqb q x) (sets.contains s q) (has q xs)

with_all_items : (s : Set) → with_all sets.empty (sets.items s) ≡ s
with_all_items s = same_sets (with_all sets.empty (sets.items s)) s (λ q.
    all_has (sets.items s) sets.empty q ∙ ap (λ b. b || has q (sets.items s)) (sets.contains-empty nat_cmp q) ∙ has_items s q)

-- ---- hash tables

none_below : (xs : List ℕ) → AreBelow (sets.contains {R = nat_cmp} sets.empty) xs
none_below xs y e = absurd (let f : ⊥ = cc (sets.contains-empty nat_cmp y, e) in f)

no_key_below : (xs : List ℕ) → AreBelow (maps.contains_key {R = nat_cmp} (maps.empty {X = ℕ})) xs
no_key_below xs y e = absurd (let z : maps.contains_key {R = nat_cmp} (maps.empty {X = ℕ}) y ≡ false = ap (λ f. f y) maps_as_tests.none in let f : ⊥ = cc (z, e) in f)

set_table : (s : Set) → AreWords (sets.items s) → let n = length (sets.items s) in SetTable (slots n) n s (inserted 2 (slots n) (replicate (2 * slots n) 0) (set_entries (sets.items s)))
set_table s words =
    let xs = sets.items s in
    let n = length xs in
    let c = slots_are n in
    let room = c.room in
    let empty : SetTable (slots n) 0 sets.empty (replicate (2 * slots n) 0) = record {
      table = subst (λ f. IsTable 2 (replicate (2 * slots n) 0) f (slots n) 0 0) (sym sets_as_tests.none) (empty_table 2 (slots n) c.power.0 c.power.1 (omega (arith, room)));
      are_words = words_zeros (2 * slots n);
    } in
    let r = set_inserted (slots n) xs 0 sets.empty (replicate (2 * slots n) 0) empty (none_below xs) (items_rise s) (omega (arith, room)) words in
    subst (λ t. SetTable (slots n) n t (inserted 2 (slots n) (replicate (2 * slots n) 0) (set_entries xs))) (with_all_items s)
    (subst (λ k. SetTable (slots n) k (with_all sets.empty xs) (inserted 2 (slots n) (replicate (2 * slots n) 0) (set_entries xs))) (let e : 0 + n ≡ n = omega arith in e) r)

map_table : (m : Map) → AreEntries (maps.entries m) → let n = length (maps.entries m) in MapTable (slots n) n m (inserted 3 (slots n) (replicate (3 * slots n) 0) (map_entries (maps.entries m)))
map_table m words =
    let es = maps.entries m in
    let n = length es in
    let c = slots_are n in
    let room = c.room in
    let empty : MapTable (slots n) 0 maps.empty (replicate (3 * slots n) 0) = record {
      table = subst (λ f. IsTable 3 (replicate (3 * slots n) 0) f (slots n) 0 0) (sym maps_as_tests.none) (empty_table 3 (slots n) c.power.0 c.power.1 (omega (arith, room)));
      values = no_values 3 (slots n) (maps.get maps.empty);
      are_words = words_zeros (3 * slots n);
    } in
    let r = map_inserted (slots n) es 0 maps.empty (replicate (3 * slots n) 0) empty (no_key_below (keys_of es)) (entries_rise m) (omega (arith, room)) words in
    subst (λ t. MapTable (slots n) n t (inserted 3 (slots n) (replicate (3 * slots n) 0) (map_entries es))) (with_all_entries m)
    (subst (λ k. MapTable (slots n) k (with_entries maps.empty es) (inserted 3 (slots n) (replicate (3 * slots n) 0) (map_entries es))) (let e : 0 + n ≡ n = omega arith in e) r)

hset_represents : (s : Set) (b : ℕ) → AreWords (sets.items s) → IsSmall (sets.len s) → b < 2 ^ 64 → Represents rep.Hset (v.Set s) (placed b (hset_image (sets.items s))) (held b (hset_image (sets.items s)).block)
hset_represents s b words small name =
    let n = length (sets.items s) in
    let t = set_table s words in
    let c = slots_are n in
    let len = items_length s in
    let most : slots n < 2 ^ 35 = c.most (omega (arith, small, len)) in
    let fits : n < 2 ^ 64 = omega (arith, small, len) in
    record {
      registers = four b (slots n) n n name (omega (arith, most)) fits fits;
      layout = record { block_words = _; piece = whole_exact (block b _); words = t.are_words; table = t.table; small = small };
    }

hmap_represents : (m : Map) (b : ℕ) → AreEntries (maps.entries m) → IsSmall (maps.len m) → b < 2 ^ 64 → Represents rep.Hmap (v.Map m) (placed b (hmap_image (maps.entries m))) (held b (hmap_image (maps.entries m)).block)
hmap_represents m b words small name =
    let n = length (maps.entries m) in
    let t = map_table m words in
    let c = slots_are n in
    let len = maps.len-entries m in
    let most : slots n < 2 ^ 35 = c.most (omega (arith, small, len)) in
    let fits : n < 2 ^ 64 = omega (arith, small, len) in
    record {
      registers = four b (slots n) n n name (omega (arith, most)) fits fits;
      layout = record { block_words = _; piece = whole_exact (block b _); words = t.are_words; table = t.table; values = t.values (omega arith); small = small };
    }

-- ---- sets and maps below a bound

all_under : (u : ℕ) (xs : List ℕ) → list_all (λ x. nat_lt x u) xs ≡ true → AreUnder u xs
all_under u [] e = tt
all_under u (x ∷ xs) e = let p = and_parts (nat_lt x u) (list_all (λ x. nat_lt x u) xs) e in (ltb-true x u p.0, all_under u xs p.1)

-- what an image with a bound tells
bounded_by : (u : ℕ) (xs : List ℕ) (i j : Image) → bounded u xs i ≡ Some j → AreUnder u xs × (i ≡ j)
bounded_by u xs i j = cond_both (list_all (λ x. nat_lt x u) xs) (Some i) None (λ z. z ≡ Some j → AreUnder u xs × (i ≡ j))
    (λ e d. (all_under u xs e, some_same i j d))
    (λ e d. absurd (let f : ⊥ = cc d in f))

bits_represents : (u : ℕ) (s : Set) (b : ℕ) → AreUnder u (sets.items s) → IsSmall (sets.len s) → b < 2 ^ 64
    → Represents (rep.Bits u) (v.Set s) (b ∷ length (sets.items s) ∷ []) (held b (Some (bit_words (sets.items s) 0 ((u + 63) / 64))))
bits_represents u s b under small name =
    let h = bits_encoded u s under in
    let len = items_length s in
    record {
      registers = two_words b (length (sets.items s)) name (omega (arith, small, len));
      layout = record { block_words = _; piece = whole_exact (block b _); words = h.words; size = h.size; bits = h.bits; bounded = h.bounded; count = sym len; small = small };
    }

amap_represents : (u : ℕ) (m : Map) (b : ℕ) → AreUnder u (keys_of (maps.entries m)) → AreEntries (maps.entries m) → IsSmall (maps.len m) → b < 2 ^ 64
    → Represents (rep.Amap u) (v.Map m) (b ∷ length (maps.entries m) ∷ []) (held b (Some (marked (replicate (2 * u) 0) (maps.entries m))))
amap_represents u m b under words small name =
    let h = marks_encoded u m under words in
    let len = maps.len-entries m in
    record {
      registers = two_words b (length (maps.entries m)) name (omega (arith, small, len));
      layout = record { block_words = _; piece = whole_exact (block b _); words = h.words; size = h.size; marks = h.marks; values = h.values; bounded = h.bounded; count = sym len; small = small };
    }

-- ---- all of them

by_image : (r : Rep) (x : Value) (i j : Image) (b : ℕ) → Some i ≡ Some j → Represents r x (placed b i) (held b i.block) → Represents r x (placed b j) (held b j.block)
by_image r x i j b e = subst (λ k. Represents r x (placed b k) (held b k.block)) (some_same i j e)

by_encoded : (r : Rep) (x : Value) → IsEncoded r x → (i : Image) (b : ℕ) → image r x ≡ Some i → b < 2 ^ 64 → Represents r x (placed b i) (held b i.block)
by_encoded r x h i b e name = by_image r x h.has i b (sym h.same ∙ e) (h.represents b name)

pub images_represent : ImagesRepresent
images_represent rep.Word (v.Nat n) i b words small e name = by_encoded rep.Word (v.Nat n) (encoded.images_represent.number n words) i b e name
images_represent rep.Flag (v.Bool t) i b words small e name = by_encoded rep.Flag (v.Bool t) (encoded.images_represent.truth t) i b e name
images_represent rep.Array (v.List xs) i b words small e name = by_encoded rep.Array (v.List xs) (encoded.images_represent.array xs words small) i b e name
images_represent rep.Vec (v.List xs) i b words small e name = by_encoded rep.Vec (v.List xs) (encoded.images_represent.vec xs words small) i b e name
images_represent rep.Heap (v.Bag h) i b words small e name = by_encoded rep.Heap (v.Bag h) (encoded.images_represent.heap h words small) i b e name
images_represent rep.Hset (v.Set s) i b words small e name = by_image rep.Hset (v.Set s) (hset_image (sets.items s)) i b e (hset_represents s b words small name)
images_represent rep.Hmap (v.Map m) i b words small e name = by_image rep.Hmap (v.Map m) (hmap_image (maps.entries m)) i b e (hmap_represents m b words small name)
images_represent (rep.Bits u) (v.Set s) i b words small e name =
    let p = bounded_by u (sets.items s) (of_block (length (sets.items s) ∷ []) (bit_words (sets.items s) 0 ((u + 63) / 64))) i e in
    subst (λ k. Represents (rep.Bits u) (v.Set s) (placed b k) (held b k.block)) p.1 (bits_represents u s b p.0 small name)
images_represent (rep.Amap u) (v.Map m) i b words small e name =
    let p = bounded_by u (keys_of (maps.entries m)) (of_block (length (maps.entries m) ∷ []) (marked (replicate (2 * u) 0) (maps.entries m))) i e in
    subst (λ k. Represents (rep.Amap u) (v.Map m) (placed b k) (held b k.block)) p.1 (amap_represents u m b p.0 words small name)
images_represent r x i b words small e name = absurd (let d : None ≡ Some i = e in cc d)

-- ---- too large elements and keys

-- the first element that is not below a bound
first_large : (u : ℕ) (xs : List ℕ) → IsRising xs → list_all (λ x. nat_lt x u) xs ≡ false → (y : ℕ) × IsLeastFrom u (λ q. has q xs) y
first_large u [] rises e = absurd (let f : ⊥ = cc e in f)
first_large u (x ∷ xs) rises e = at (nat_lt x u) refl e (first_large u xs rises.1)
  where
    no_less : (ys : List ℕ) (y : ℕ) → AllAbove x ys → has y ys ≡ true → x ≤ y
    no_less [] y a h = absurd (let f : ⊥ = cc h in f)
    no_less (z ∷ zs) y a h = cond_both (eqb y z) true (has y zs) (λ q. q ≡ true → x ≤ y) (λ d t. (let lt = a.0 in omega (arith, lt, eqb-true y z d))) (λ d t. no_less zs y a.1 t) (or_is (eqb y z) (has y zs) h)
      where
        or_is : (a b : Bool) → (a || b) ≡ true → cond a true b ≡ true
        or_is true b e = refl
        or_is false b e = e

    there : (y : ℕ) → has y (x ∷ xs) ≡ true → (y ≡ x → ⊥) → has y xs ≡ true
    there y h ne = ap (λ b. b || has y xs) (sym (not_true (eqb y x) (λ d. ne (eqb-true y x d)))) ∙ h

    into : (y : ℕ) → has y xs ≡ true → has y (x ∷ xs) ≡ true
    into y h = or_right (eqb y x) (has y xs) h
      where
        or_right : (a b : Bool) → b ≡ true → (a || b) ≡ true
        or_right true b e = refl
        or_right false b e = e

    at : (b : Bool) → nat_lt x u ≡ b → (b && list_all (λ x. nat_lt x u) xs) ≡ false → (list_all (λ x. nat_lt x u) xs ≡ false → (y : ℕ) × IsLeastFrom u (λ q. has q xs) y) → (y : ℕ) × IsLeastFrom u (λ q. has q (x ∷ xs)) y
    at true d e go =
        let r = go e in
        let less : x < u = ltb-true x u d in (
          r.0,
          record {
            there = into r.0 r.1.there;
            above = r.1.above;
            least = λ y h le. r.1.least y (there y h (λ q. let f : ⊥ = omega (arith, less, q, le) in f)) le;
          },
        )
    at false d e go =
        let more : u ≤ x = ltb-false x u d in (
          x,
          record {
            there = ap (λ b. b || has x xs) (eq-eqb x x refl);
            above = more;
            least = λ y h le. ⊎_elim (λ q. (let s = q.1 in omega (arith, s))) (λ q. no_less xs y rises.0 (ap (λ b. b || has y xs) (sym q.0) ∙ h)) (eqb_tells y x);
          },
        )

not_all : (u : ℕ) (xs : List ℕ) (y : ℕ) → has y xs ≡ true → u ≤ y → list_all (λ x. nat_lt x u) xs ≡ false
not_all u [] y h le = absurd (let f : ⊥ = cc h in f)
not_all u (x ∷ xs) y h le = at (eqb y x) refl h (not_all u xs y)
  where
    and_false : (a b : Bool) → b ≡ false → (a && b) ≡ false
    and_false true b e = e
    and_false false b e = refl

    at : (b : Bool) → eqb y x ≡ b → (b || has y xs) ≡ true → (has y xs ≡ true → u ≤ y → list_all (λ x. nat_lt x u) xs ≡ false) → list_all (λ x. nat_lt x u) (x ∷ xs) ≡ false
    at true d h go = ap (λ b. b && list_all (λ x. nat_lt x u) xs) (le-ltb x u (let s = eqb-true y x d in omega (arith, s, le)))
    at false d h go = and_false (nat_lt x u) (list_all (λ x. nat_lt x u) xs) (go h le)

none_bounded : (u : ℕ) (xs : List ℕ) (i : Image) → bounded u xs i ≡ None → list_all (λ x. nat_lt x u) xs ≡ false
none_bounded u xs i = cond_both (list_all (λ x. nat_lt x u) xs) (Some i) None (λ z. z ≡ None → list_all (λ x. nat_lt x u) xs ≡ false) (λ e d. absurd (let f : ⊥ = cc d in f)) (λ e d. e)

is_none : (u : ℕ) (xs : List ℕ) (i : Image) → list_all (λ x. nat_lt x u) xs ≡ false → bounded u xs i ≡ None
is_none u xs i e = cond-false (list_all (λ x. nat_lt x u) xs) (Some i) None e

pub same_least : (u : ℕ) (f g : ℕ → Bool) (y : ℕ) → ((q : ℕ) → f q ≡ g q) → IsLeastFrom u f y → IsLeastFrom u g y
same_least u f g y e l = record { there = sym (e y) ∙ l.there; above = l.above; least = λ q h le. l.least q (e q ∙ h) le }

pub key_there : (m : Map) (q : ℕ) → has q (keys_of (maps.entries m)) ≡ maps.contains_key m q
key_there m q = among (maps.entries m) ∙ sym (ap (λ (o : Option ℕ). is_some o) (maps.get-entries m q))
  where
    some_or : (b : Bool) (w : ℕ) (o : Option ℕ) → is_some (cond b (Some w) o) ≡ (b || is_some o)
    some_or true w o = refl
    some_or false w o = refl

    among : (es : List (ℕ × ℕ)) → has q (keys_of es) ≡ is_some {T = ℕ} (maps.find nat_cmp q es)
    among [] = refl
    among (e ∷ es) = ap (λ b. b || has q (keys_of es)) (sym (unsigned_tied q e.0)) ∙ ap (λ b. eq_by_cmp nat_cmp q e.0 || b) (among es) ∙ sym (some_or (eq_by_cmp nat_cmp q e.0) e.1 (maps.find nat_cmp q es))

pub values_have_images : AllHaveImages
values_have_images rep.Word (v.Nat n) t = record { one = λ e. absurd (let d : Some (number n) ≡ None = e in cc d); other = λ y l. absurd l }
values_have_images rep.Flag (v.Bool b) t = record { one = λ e. absurd (let d : Some (number (one_if b)) ≡ None = e in cc d); other = λ y l. absurd l }
values_have_images rep.Array (v.List xs) t = record { one = λ e. absurd (let d : Some (of_block (0 ∷ length xs ∷ []) xs) ≡ None = e in cc d); other = λ y l. absurd l }
values_have_images rep.Vec (v.List xs) t = record { one = λ e. absurd (let d : Some (roomy xs) ≡ None = e in cc d); other = λ y l. absurd l }
values_have_images rep.Heap (v.Bag h) t = record { one = λ e. absurd (let d : Some (roomy h.list) ≡ None = e in cc d); other = λ y l. absurd l }
values_have_images rep.Hset (v.Set s) t = record { one = λ e. absurd (let d : Some (hset_image (sets.items s)) ≡ None = e in cc d); other = λ y l. absurd l }
values_have_images rep.Hmap (v.Map m) t = record { one = λ e. absurd (let d : Some (hmap_image (maps.entries m)) ≡ None = e in cc d); other = λ y l. absurd l }
values_have_images (rep.Bits u) (v.Set s) t =
    let i = of_block (length (sets.items s) ∷ []) (bit_words (sets.items s) 0 ((u + 63) / 64)) in
    record {
      one = λ e. let r = first_large u (sets.items s) (items_rise s) (none_bounded u (sets.items s) i e) in (r.0, same_least u (λ q. has q (sets.items s)) (sets.contains s) r.0 (has_items s) r.1);
      other = λ y l. is_none u (sets.items s) i (not_all u (sets.items s) y (has_items s y ∙ l.there) l.above);
    }
values_have_images (rep.Amap u) (v.Map m) t =
    let es = maps.entries m in
    let i = of_block (length es ∷ []) (marked (replicate (2 * u) 0) es) in
    record {
      one = λ e. let r = first_large u (keys_of es) (entries_rise m) (none_bounded u (keys_of es) i e) in (r.0, same_least u (λ q. has q (keys_of es)) (maps.contains_key m) r.0 (key_there m) r.1);
      other = λ y l. is_none u (keys_of es) i (not_all u (keys_of es) y (key_there m y ∙ l.there) l.above);
    }
values_have_images r x t = absurd t
