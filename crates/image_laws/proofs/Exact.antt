-- What registers and a whole block are read as is what they represent.
use Rattle.std.proofs.Common.{◌≡◌, ℕ, zero, suc, ◌+◌, ◌-◌, ◌*◌, ◌/◌, ◌^◌, ◌<◌, ◌≤◌, Bool, true, false, cond, ◌&&◌, ◌||◌, List, [], ◌∷◌, length, take, refl, sym, ap, ◌∙◌, subst, arith, eqb, eqb-true, eq-eqb, leb-true, ltb-true, nat_le, Option, Some, None}
use Rattle.std.proofs.lemmas.Bool.{cond-true, and_parts, le-leb, lt-ltb, ne_eqb}
use Rattle.std.specs.FinMap as maps
use Rattle.std.specs.Option.{is_some}
use Rattle.std.specs.Prelude.{slice_index}
use Rattle.containers.specs.Bag.{bag_of}
use Rattle.containers.specs.Sets as sets
use Rattle.nres_core.specs.declared.value.Value.{Value}
use Rattle.nres_core.specs.declared.value.Value.TheVariants as v
use Rattle.target_code.specs.Reps.{width}
use Rattle.target_code.specs.declared.tree.Rep.{Rep}
use Rattle.target_code.specs.declared.tree.Rep.TheVariants as rep
use Rattle.target_meaning.specs.Piece.{whole, Nil, Some_of, none}
use Rattle.layout_facts.specs.Footprints.{first_word}
use Rattle.layout_facts.proofs.Facts.{width_is}
use Rattle.relations.specs.Blocks.{AreWords, nothing, block, Has, Exactly, wholly, whole_piece}
use Rattle.relations.specs.Images.{Image, image, placed, named, held}
use Rattle.relations.specs.Represents.{Represents, IsSmall, IsTable, state, key, value, one_if}
use Rattle.relations.proofs.Layouts.{one_block, whole_exact, block_here}
use Rattle.op_bits.specs.Bits.{HasBits}
use Rattle.op_bits.specs.Maps.{HasKeys}
use Rattle.op_hash.specs.Tables.{walk}
use Rattle.op_hash.proofs.TablesLemmas.{some_slots, walk_in}
use Rattle.image_laws.specs.Held.{is_small, in_front, in_order, is_heap, bits_below, bounded_bits, marks_below, are_marks, slot_keys, slot_entries, is_table}
use Rattle.image_laws.specs.Reads.{only_if, flag_of, reads}
use Rattle.image_laws.specs.Laws.{AreBlockWords, IsRead, ReadingIsExact, ImagesAreRead}
use Rattle.image_laws.proofs.Tests.{both, every_at, every_all}
use Rattle.image_laws.proofs.SlotKeys.{same_sets, same_maps, slot_in_keys, in_slot_keys, once_by, keys_all, table_keys, entry_keys, entries_len, entry_values}
use Rattle.image_laws.proofs.TableReads.{tested, passes, is_a_table, table_passes}
use Rattle.image_laws.proofs.BoundedReads.{bits_are, bits_bounded, bits_same, marks_are, marks_pass, marks_same}
use Rattle.image_laws.proofs.Encodes.{images_represent}

-- ---- a value where a test passes

only_some : (c : Bool) (y x : Value) → only_if c y ≡ Some x → (c ≡ true) × (y ≡ x)
only_some true y x e = (refl, cc e)
only_some false y x e = absurd (let d : None ≡ Some x = e in cc d)

only_yes : (c : Bool) (y x : Value) → c ≡ true → y ≡ x → only_if c y ≡ Some x
only_yes c y x e same = cond-true c (Some y) None e ∙ ap Some same

-- ---- blocks

same_words : (b : ℕ) (us ws : List ℕ) → Exactly (block b us) (whole_piece (block b ws)) → us ≡ ws
same_words b us ws e = one_block b us ws (whole_piece (block b ws)) e (whole_exact (block b ws))

not_nothing : (b : ℕ) (ws : List ℕ) → Exactly nothing (whole_piece (block b ws)) → ⊥
not_nothing b ws e =
    let here : wholly (block b ws b 0) ≡ Nil = e b 0 in
    let d : Some_of (length ws) (whole - 1) ≡ Nil = sym (ap wholly (block_here b ws 0)) ∙ here in cc d

no_block : (b : ℕ) (us : List ℕ) → Exactly (block b us) none → ⊥
no_block b us e =
    let h : Has Nil (Some (length us)) = subst (Has Nil) (block_here b us 0) (e b 0) in
    let d : Nil ≡ Some_of (length us) h.0 = h.2 in cc d

-- ---- registers of a width

module _ (P : List ℕ → Type 0) where
  one_reg : ((a : ℕ) → P (a ∷ [])) → (regs : List ℕ) → length regs ≡ 1 → P regs
  one_reg f (a ∷ []) e = f a
  one_reg f [] e = absurd (let o : ⊥ = omega (arith, e) in o)
  one_reg f (a ∷ b ∷ regs) e = absurd (let o : ⊥ = omega (arith, e) in o)

  two_regs : ((a b : ℕ) → P (a ∷ b ∷ [])) → (regs : List ℕ) → length regs ≡ 2 → P regs
  two_regs f (a ∷ b ∷ []) e = f a b
  two_regs f [] e = absurd (let o : ⊥ = omega (arith, e) in o)
  two_regs f (a ∷ []) e = absurd (let o : ⊥ = omega (arith, e) in o)
  two_regs f (a ∷ b ∷ c ∷ regs) e = absurd (let o : ⊥ = omega (arith, e) in o)

  three_regs : ((a b c : ℕ) → P (a ∷ b ∷ c ∷ [])) → (regs : List ℕ) → length regs ≡ 3 → P regs
  three_regs f (a ∷ b ∷ c ∷ []) e = f a b c
  three_regs f [] e = absurd (let o : ⊥ = omega (arith, e) in o)
  three_regs f (a ∷ []) e = absurd (let o : ⊥ = omega (arith, e) in o)
  three_regs f (a ∷ b ∷ []) e = absurd (let o : ⊥ = omega (arith, e) in o)
  three_regs f (a ∷ b ∷ c ∷ d ∷ regs) e = absurd (let o : ⊥ = omega (arith, e) in o)

  four_regs : ((a b c d : ℕ) → P (a ∷ b ∷ c ∷ d ∷ [])) → (regs : List ℕ) → length regs ≡ 4 → P regs
  four_regs f (a ∷ b ∷ c ∷ d ∷ []) e = f a b c d
  four_regs f [] e = absurd (let o : ⊥ = omega (arith, e) in o)
  four_regs f (a ∷ []) e = absurd (let o : ⊥ = omega (arith, e) in o)
  four_regs f (a ∷ b ∷ []) e = absurd (let o : ⊥ = omega (arith, e) in o)
  four_regs f (a ∷ b ∷ c ∷ []) e = absurd (let o : ⊥ = omega (arith, e) in o)
  four_regs f (a ∷ b ∷ c ∷ d ∷ x ∷ regs) e = absurd (let o : ⊥ = omega (arith, e) in o)

-- what is read is represented
abbrev Sound : Rep → Option (List ℕ) → Value → List ℕ → Type 0
Sound r block x regs = AreWords regs → AreBlockWords block → reads r regs block ≡ Some x → IsRead r regs block x

-- what is represented is read
abbrev Complete : Rep → Option (List ℕ) → Value → List ℕ → Type 0
Complete r block x regs = IsRead r regs block x → reads r regs block ≡ Some x

-- ---- numbers and truth values

word_sound : (x : Value) (a : ℕ) → Sound rep.Word None x (a ∷ [])
word_sound x a aw bw e =
    subst (IsRead rep.Word (a ∷ []) None) (let d : v.Nat a ≡ x = cc e in d)
    (record { whole = λ d. cc d; represents = record { registers = aw; layout = record { same = refl; word = aw 0 (omega arith); empty = λ c j. refl } } })

word_complete : (x : Value) (a : ℕ) → Complete rep.Word None x (a ∷ [])
word_complete (v.Nat n) a h = ap (λ z. Some (v.Nat z)) h.represents.layout.same
word_complete x a h = absurd h.represents.layout

flag_sound : (x : Value) (a : ℕ) → Sound rep.Flag None x (a ∷ [])
flag_sound x zero aw bw e =
    subst (IsRead rep.Flag (0 ∷ []) None) (let d : v.Bool false ≡ x = cc e in d)
    (record { whole = λ d. cc d; represents = record { registers = aw; layout = record { same = refl; empty = λ c j. refl } } })
flag_sound x (suc zero) aw bw e =
    subst (IsRead rep.Flag (1 ∷ []) None) (let d : v.Bool true ≡ x = cc e in d)
    (record { whole = λ d. cc d; represents = record { registers = aw; layout = record { same = refl; empty = λ c j. refl } } })
flag_sound x (suc (suc a)) aw bw e =
    let zero_not : eqb (suc (suc a)) 0 ≡ false = ne_eqb (suc (suc a)) 0 (λ q. let f : ⊥ = omega (arith, q) in f) in
    let one_not : eqb (suc (suc a)) 1 ≡ false = ne_eqb (suc (suc a)) 1 (λ q. let f : ⊥ = omega (arith, q) in f) in
    absurd (let d : None ≡ Some x = sym ((λ i. cond (zero_not i) (Some (v.Bool false)) (cond (one_not i) (Some (v.Bool true)) None))) ∙ e in cc d)

flag_at : (t : Bool) (a : ℕ) → a ≡ one_if t → flag_of a ≡ Some (v.Bool t)
flag_at true a e = ap flag_of e
flag_at false a e = ap flag_of e

flag_complete : (x : Value) (a : ℕ) → Complete rep.Flag None x (a ∷ [])
flag_complete (v.Bool t) a h = flag_at t a h.represents.layout.same
flag_complete x a h = absurd h.represents.layout

-- ---- lists and multisets

array_sound : (x : Value) (ws : List ℕ) (b off len : ℕ) → Sound rep.Array (Some ws) x (b ∷ off ∷ len ∷ [])
array_sound x ws b off len aw bw e =
    let p = only_some (eqb off 0 && (eqb len (length ws) && is_small len)) (v.List ws) x e in
    let q = and_parts (eqb off 0) (eqb len (length ws) && is_small len) p.0 in
    let r = and_parts (eqb len (length ws)) (is_small len) q.1 in
    let count = eqb-true len (length ws) r.0 in
    let small : len < 2 ^ 32 = ltb-true len (2 ^ 32) r.1 in
    subst (IsRead rep.Array (b ∷ off ∷ len ∷ []) (Some ws)) p.1
    (record {
      whole = λ d. cc d;
      represents = record { registers = aw; layout = record { piece = whole_exact (block b ws); words = bw; offset = eqb-true off 0 q.0; count = count; small = omega (arith, count, small) } };
    })

array_complete : (x : Value) (ws : List ℕ) (b off len : ℕ) → Complete rep.Array (Some ws) x (b ∷ off ∷ len ∷ [])
array_complete (v.List xs) ws b off len h =
    let l = h.represents.layout in
    let e = same_words b xs ws l.piece in
    let count = l.count in
    let small = l.small in
    only_yes (eqb off 0 && (eqb len (length ws) && is_small len)) (v.List ws) (v.List xs)
    (both (eqb off 0) (eqb len (length ws) && is_small len) (eq-eqb off 0 l.offset)
    (both (eqb len (length ws)) (is_small len) (eq-eqb len (length ws) (l.count ∙ ap (λ (zs : List ℕ). length zs) e)) (lt-ltb len (2 ^ 32) (omega (arith, count, small)))))
    (ap v.List (sym e))
array_complete x ws b off len h = absurd h.represents.layout

-- what stands in front of a block
record Front (len cap : ℕ) (ws : List ℕ) : Type 0 where
  capacity : cap ≡ length ws
  room : 1 ≤ cap
  fits : len ≤ cap
  small : IsSmall len

front_of : (len cap : ℕ) (ws : List ℕ) → in_front len cap ws ≡ true → Front len cap ws
front_of len cap ws e =
    let p = and_parts (eqb cap (length ws)) (nat_le 1 cap && (nat_le len cap && is_small len)) e in
    let q = and_parts (nat_le 1 cap) (nat_le len cap && is_small len) p.1 in
    let r = and_parts (nat_le len cap) (is_small len) q.1 in
    record { capacity = eqb-true cap (length ws) p.0; room = leb-true 1 cap q.0; fits = leb-true len cap r.0; small = ltb-true len (2 ^ 32) r.1 }

to_front : (len cap : ℕ) (ws : List ℕ) → Front len cap ws → in_front len cap ws ≡ true
to_front len cap ws f =
    both (eqb cap (length ws)) (nat_le 1 cap && (nat_le len cap && is_small len)) (eq-eqb cap (length ws) f.capacity)
    (both (nat_le 1 cap) (nat_le len cap && is_small len) (le-leb 1 cap f.room)
    (both (nat_le len cap) (is_small len) (le-leb len cap f.fits) (lt-ltb len (2 ^ 32) f.small)))

vec_sound : (x : Value) (ws : List ℕ) (b len cap : ℕ) → Sound rep.Vec (Some ws) x (b ∷ len ∷ cap ∷ [])
vec_sound x ws b len cap aw bw e =
    let p = only_some (in_front len cap ws) (v.List (take len ws)) x e in
    let f = front_of len cap ws p.0 in
    subst (IsRead rep.Vec (b ∷ len ∷ cap ∷ []) (Some ws)) p.1
    (record {
      whole = λ d. cc d;
      represents = record {
        registers = aw;
        layout = record { block_words = ws; piece = whole_exact (block b ws); words = bw; capacity = f.capacity; room = f.room; fits = f.fits; elements = refl; small = f.small };
      };
    })

vec_complete : (x : Value) (ws : List ℕ) (b len cap : ℕ) → Complete rep.Vec (Some ws) x (b ∷ len ∷ cap ∷ [])
vec_complete (v.List xs) ws b len cap h =
    let l = h.represents.layout in
    let e = same_words b l.block_words ws l.piece in
    only_yes (in_front len cap ws) (v.List (take len ws)) (v.List xs)
    (to_front len cap ws (record { capacity = l.capacity ∙ ap (λ (zs : List ℕ). length zs) e; room = l.room; fits = l.fits; small = l.small }))
    (ap v.List (ap (take len) (sym e) ∙ l.elements))
vec_complete x ws b len cap h = absurd h.represents.layout

heap_sound : (x : Value) (ws : List ℕ) (b len cap : ℕ) → Sound rep.Heap (Some ws) x (b ∷ len ∷ cap ∷ [])
heap_sound x ws b len cap aw bw e =
    let p = only_some (in_front len cap ws && is_heap len ws) (v.Bag (bag_of (take len ws))) x e in
    let q = and_parts (in_front len cap ws) (is_heap len ws) p.0 in
    let f = front_of len cap ws q.0 in
    subst (IsRead rep.Heap (b ∷ len ∷ cap ∷ []) (Some ws)) p.1
    (record {
      whole = λ d. cc d;
      represents = record {
        registers = aw;
        layout = record {
          block_words = ws;
          piece = whole_exact (block b ws);
          words = bw;
          capacity = f.capacity;
          room = f.room;
          fits = f.fits;
          elements = refl;
          order = λ i low lt. leb-true (slice_index ws ((i - 1) / 2)) (slice_index ws i) (second i low (every_at (in_order ws) len i q.1 lt));
          small = f.small;
        };
      };
    })
  where
    second : (i : ℕ) → 1 ≤ i → in_order ws i ≡ true → nat_le (slice_index ws ((i - 1) / 2)) (slice_index ws i) ≡ true
    second i low e = ap (λ z. z || nat_le (slice_index ws ((i - 1) / 2)) (slice_index ws i)) (sym (ne_eqb i 0 (λ d. let f : ⊥ = omega (arith, low, d) in f))) ∙ e

heap_complete : (x : Value) (ws : List ℕ) (b len cap : ℕ) → Complete rep.Heap (Some ws) x (b ∷ len ∷ cap ∷ [])
heap_complete (v.Bag a) ws b len cap h =
    let l = h.represents.layout in
    let e = same_words b l.block_words ws l.piece in
    only_yes (in_front len cap ws && is_heap len ws) (v.Bag (bag_of (take len ws))) (v.Bag a)
    (both (in_front len cap ws) (is_heap len ws)
    (to_front len cap ws (record { capacity = l.capacity ∙ ap (λ (zs : List ℕ). length zs) e; room = l.room; fits = l.fits; small = l.small }))
    (every_all (in_order ws) len (ordered (subst (λ (zs : List ℕ). (i : ℕ) → 1 ≤ i → i < len → slice_index zs ((i - 1) / 2) ≤ slice_index zs i) e l.order))))
    (ap v.Bag (ap (λ (zs : List ℕ). bag_of (take len zs)) (sym e) ∙ l.elements))
  where
    ordered : ((i : ℕ) → 1 ≤ i → i < len → slice_index ws ((i - 1) / 2) ≤ slice_index ws i) → (i : ℕ) → i < len → in_order ws i ≡ true
    ordered f zero lt = refl
    ordered f (suc i) lt = or_right (eqb (suc i) 0) _ (le-leb (slice_index ws ((suc i - 1) / 2)) (slice_index ws (suc i)) (f (suc i) (omega arith) lt))
      where
        or_right : (a b : Bool) → b ≡ true → (a || b) ≡ true
        or_right true b e = refl
        or_right false b e = e
heap_complete x ws b len cap h = absurd h.represents.layout

-- ---- sets and maps below a bound

bits_sound : (u : ℕ) (x : Value) (ws : List ℕ) (b n : ℕ) → Sound (rep.Bits u) (Some ws) x (b ∷ n ∷ [])
bits_sound u x ws b n aw bw e =
    let s = bits_below ws (64 * length ws) in
    let p = only_some (eqb (length ws) ((u + 63) / 64) && (bounded_bits u ws && (eqb n (sets.len s) && is_small n))) (v.Set s) x e in
    let q = and_parts (eqb (length ws) ((u + 63) / 64)) _ p.0 in
    let r = and_parts (bounded_bits u ws) _ q.1 in
    let t = and_parts (eqb n (sets.len s)) (is_small n) r.1 in
    let h = bits_are u ws (eqb-true (length ws) ((u + 63) / 64) q.0) r.0 bw in
    let count = eqb-true n (sets.len s) t.0 in
    let small : n < 2 ^ 32 = ltb-true n (2 ^ 32) t.1 in
    subst (IsRead (rep.Bits u) (b ∷ n ∷ []) (Some ws)) p.1
    (record {
      whole = λ d. cc d;
      represents = record {
        registers = aw;
        layout = record { block_words = ws; piece = whole_exact (block b ws); words = bw; size = h.size; bits = h.bits; bounded = h.bounded; count = count; small = omega (arith, count, small) };
      };
    })

bits_complete : (u : ℕ) (x : Value) (ws : List ℕ) (b n : ℕ) → Complete (rep.Bits u) (Some ws) x (b ∷ n ∷ [])
bits_complete u (v.Set s) ws b n h =
    let l = h.represents.layout in
    let has : HasBits u s l.block_words = record { size = l.size; bits = l.bits; bounded = l.bounded; words = l.words } in
    let k = subst (HasBits u s) (same_words b l.block_words ws l.piece) has in
    let same = bits_same u ws s k in
    let count = l.count in
    let small = l.small in
    only_yes (eqb (length ws) ((u + 63) / 64) && (bounded_bits u ws && (eqb n (sets.len (bits_below ws (64 * length ws))) && is_small n))) (v.Set (bits_below ws (64 * length ws))) (v.Set s)
    (both (eqb (length ws) ((u + 63) / 64)) _ (eq-eqb (length ws) ((u + 63) / 64) k.size)
    (both (bounded_bits u ws) _ (bits_bounded u ws s k)
    (both (eqb n (sets.len (bits_below ws (64 * length ws)))) (is_small n) (eq-eqb n (sets.len (bits_below ws (64 * length ws))) (l.count ∙ sym (ap sets.len same))) (lt-ltb n (2 ^ 32) (omega (arith, count, small))))))
    (ap v.Set same)
bits_complete u x ws b n h = absurd h.represents.layout

amap_sound : (u : ℕ) (x : Value) (ws : List ℕ) (b n : ℕ) → Sound (rep.Amap u) (Some ws) x (b ∷ n ∷ [])
amap_sound u x ws b n aw bw e =
    let m = marks_below ws u in
    let p = only_some (eqb (length ws) (2 * u) && (are_marks u ws && (eqb n (maps.len m) && is_small n))) (v.Map m) x e in
    let q = and_parts (eqb (length ws) (2 * u)) _ p.0 in
    let r = and_parts (are_marks u ws) _ q.1 in
    let t = and_parts (eqb n (maps.len m)) (is_small n) r.1 in
    let h = marks_are u ws (eqb-true (length ws) (2 * u) q.0) r.0 bw in
    let count = eqb-true n (maps.len m) t.0 in
    let small : n < 2 ^ 32 = ltb-true n (2 ^ 32) t.1 in
    subst (IsRead (rep.Amap u) (b ∷ n ∷ []) (Some ws)) p.1
    (record {
      whole = λ d. cc d;
      represents = record {
        registers = aw;
        layout = record { block_words = ws; piece = whole_exact (block b ws); words = bw; size = h.size; marks = h.marks; values = h.values; bounded = h.bounded; count = count; small = omega (arith, count, small) };
      };
    })

amap_complete : (u : ℕ) (x : Value) (ws : List ℕ) (b n : ℕ) → Complete (rep.Amap u) (Some ws) x (b ∷ n ∷ [])
amap_complete u (v.Map m) ws b n h =
    let l = h.represents.layout in
    let has : HasKeys u m l.block_words = record { size = l.size; marks = l.marks; values = l.values; bounded = l.bounded; words = l.words } in
    let k = subst (HasKeys u m) (same_words b l.block_words ws l.piece) has in
    let same = marks_same u ws m k in
    let count = l.count in
    let small = l.small in
    only_yes (eqb (length ws) (2 * u) && (are_marks u ws && (eqb n (maps.len (marks_below ws u)) && is_small n))) (v.Map (marks_below ws u)) (v.Map m)
    (both (eqb (length ws) (2 * u)) _ (eq-eqb (length ws) (2 * u) k.size)
    (both (are_marks u ws) _ (marks_pass u ws m k)
    (both (eqb n (maps.len (marks_below ws u))) (is_small n) (eq-eqb n (maps.len (marks_below ws u)) (l.count ∙ sym (ap maps.len same))) (lt-ltb n (2 ^ 32) (omega (arith, count, small))))))
    (ap v.Map same)
amap_complete u x ws b n h = absurd h.represents.layout

-- ---- hash tables

hset_sound : (x : Value) (ws : List ℕ) (b cap n used : ℕ) → Sound rep.Hset (Some ws) x (b ∷ cap ∷ n ∷ used ∷ [])
hset_sound x ws b cap n used aw bw e =
    let s = slot_keys 2 ws cap in
    let p = only_some (is_table 2 cap n used ws && (eqb n (sets.len s) && is_small n)) (v.Set s) x e in
    let q = and_parts (is_table 2 cap n used ws) _ p.0 in
    let r = and_parts (eqb n (sets.len s)) (is_small n) q.1 in
    let t = tested 2 cap n used ws q.0 in
    let count = eqb-true n (sets.len s) r.0 in
    let small : n < 2 ^ 32 = ltb-true n (2 ^ 32) r.1 in
    let once = once_by 2 ws cap (sym count ∙ t.full_are) in
    subst (IsRead rep.Hset (b ∷ cap ∷ n ∷ used ∷ []) (Some ws)) p.1
    (record {
      whole = λ d. cc d;
      represents = record {
        registers = aw;
        layout = record {
          block_words = ws;
          piece = whole_exact (block b ws);
          words = bw;
          table = is_a_table 2 cap n used ws (sets.contains s) t once (λ y. refl) (slot_in_keys 2 ws) (in_slot_keys 2 ws);
          small = omega (arith, count, small);
        };
      };
    })

hset_complete : (x : Value) (ws : List ℕ) (b cap n used : ℕ) → Complete rep.Hset (Some ws) x (b ∷ cap ∷ n ∷ used ∷ [])
hset_complete (v.Set s) ws b cap n used h =
    let l = h.represents.layout in
    let t = subst (λ (zs : List ℕ). IsTable 2 zs (sets.contains s) cap n used) (same_words b l.block_words ws l.piece) l.table in
    let same : slot_keys 2 ws cap ≡ s = same_sets (slot_keys 2 ws cap) s (table_keys 2 ws cap n used (sets.contains s) t (some_slots 2 cap n used ws (sets.contains s) t)) in
    let count : n ≡ sets.len (slot_keys 2 ws cap) = t.full_are ∙ sym (keys_all 2 ws cap t.once) in
    let len : sets.len (slot_keys 2 ws cap) ≡ sets.len s = ap sets.len same in
    let small = l.small in
    only_yes (is_table 2 cap n used ws && (eqb n (sets.len (slot_keys 2 ws cap)) && is_small n)) (v.Set (slot_keys 2 ws cap)) (v.Set s)
    (both (is_table 2 cap n used ws) _ (passes 2 cap n used ws (table_passes 2 cap n used ws (sets.contains s) t (h.represents.registers 1 (omega arith))))
    (both (eqb n (sets.len (slot_keys 2 ws cap))) (is_small n) (eq-eqb n (sets.len (slot_keys 2 ws cap)) count) (lt-ltb n (2 ^ 32) (omega (arith, count, len, small)))))
    (ap v.Set same)
hset_complete x ws b cap n used h = absurd h.represents.layout

hmap_sound : (x : Value) (ws : List ℕ) (b cap n used : ℕ) → Sound rep.Hmap (Some ws) x (b ∷ cap ∷ n ∷ used ∷ [])
hmap_sound x ws b cap n used aw bw e =
    let m = slot_entries ws cap in
    let p = only_some (is_table 3 cap n used ws && (eqb n (maps.len m) && is_small n)) (v.Map m) x e in
    let q = and_parts (is_table 3 cap n used ws) _ p.0 in
    let r = and_parts (eqb n (maps.len m)) (is_small n) q.1 in
    let t = tested 3 cap n used ws q.0 in
    let count = eqb-true n (maps.len m) r.0 in
    let small : n < 2 ^ 32 = ltb-true n (2 ^ 32) r.1 in
    let once = once_by 3 ws cap (sym (entries_len ws cap) ∙ sym count ∙ t.full_are) in
    subst (IsRead rep.Hmap (b ∷ cap ∷ n ∷ used ∷ []) (Some ws)) p.1
    (record {
      whole = λ d. cc d;
      represents = record {
        registers = aw;
        layout = record {
          block_words = ws;
          piece = whole_exact (block b ws);
          words = bw;
          table = is_a_table 3 cap n used ws (maps.contains_key m) t once (λ y. sym (entry_keys ws cap y)) (slot_in_keys 3 ws) (in_slot_keys 3 ws);
          values = entry_values ws cap once;
          small = omega (arith, count, small);
        };
      };
    })

hmap_complete : (x : Value) (ws : List ℕ) (b cap n used : ℕ) → Complete rep.Hmap (Some ws) x (b ∷ cap ∷ n ∷ used ∷ [])
hmap_complete (v.Map m) ws b cap n used h =
    let l = h.represents.layout in
    let e = same_words b l.block_words ws l.piece in
    let t = subst (λ (zs : List ℕ). IsTable 3 zs (maps.contains_key m) cap n used) e l.table in
    let vals = subst (λ (zs : List ℕ). (i : ℕ) → i < cap → state 3 zs i ≡ 1 → maps.get m (key 3 zs i) ≡ Some (value 3 zs i)) e l.values in
    let some = some_slots 3 cap n used ws (maps.contains_key m) t in
    let same : slot_entries ws cap ≡ m = same_maps (slot_entries ws cap) m (λ q. at t vals some q (maps.contains_key m q) refl) in
    let count : n ≡ maps.len (slot_entries ws cap) = t.full_are ∙ sym (entries_len ws cap ∙ keys_all 3 ws cap t.once) in
    let len : maps.len (slot_entries ws cap) ≡ maps.len m = ap maps.len same in
    let small = l.small in
    only_yes (is_table 3 cap n used ws && (eqb n (maps.len (slot_entries ws cap)) && is_small n)) (v.Map (slot_entries ws cap)) (v.Map m)
    (both (is_table 3 cap n used ws) _ (passes 3 cap n used ws (table_passes 3 cap n used ws (maps.contains_key m) t (h.represents.registers 1 (omega arith))))
    (both (eqb n (maps.len (slot_entries ws cap))) (is_small n) (eq-eqb n (maps.len (slot_entries ws cap)) count) (lt-ltb n (2 ^ 32) (omega (arith, count, len, small)))))
    (ap v.Map same)
  where
    none : (o : Option ℕ) → is_some o ≡ false → o ≡ None
    none None d = refl
    none (Some y) d = absurd (let f : true ≡ false = d in cc f)

    at : (t : IsTable 3 ws (maps.contains_key m) cap n used) → ((i : ℕ) → i < cap → state 3 ws i ≡ 1 → maps.get m (key 3 ws i) ≡ Some (value 3 ws i)) → 0 < cap → (q : ℕ) (c : Bool) → maps.contains_key m q ≡ c → maps.get (slot_entries ws cap) q ≡ maps.get m q
    at t vals some q false d =
        none (maps.get (slot_entries ws cap) q) (entry_keys ws cap q ∙ table_keys 3 ws cap n used (maps.contains_key m) t some q ∙ d) ∙ sym (none (maps.get m q) d)
    at t vals some q true d =
        let r = t.reached q d in
        let i = walk cap q r.steps in
        let li = walk_in 3 cap n used ws (maps.contains_key m) t q r.steps in
        ap (maps.get (slot_entries ws cap)) (sym r.same) ∙ entry_values ws cap t.once i li r.full ∙ sym (vals i li r.full) ∙ ap (maps.get m) r.same
hmap_complete x ws b cap n used h = absurd h.represents.layout

-- ---- all of them

no_value : (x : Value) → None ≡ Some x → ⊥
no_value x e = cc e

pub sound : (r : Rep) (regs : List ℕ) (blk : Option (List ℕ)) (x : Value) → length regs ≡ width r → Sound r blk x regs
sound rep.Word regs None x wide = one_reg (Sound rep.Word None x) (word_sound x) regs wide
sound rep.Flag regs None x wide = one_reg (Sound rep.Flag None x) (flag_sound x) regs wide
sound rep.Array regs (Some ws) x wide = three_regs (Sound rep.Array (Some ws) x) (array_sound x ws) regs wide
sound rep.Vec regs (Some ws) x wide = three_regs (Sound rep.Vec (Some ws) x) (vec_sound x ws) regs wide
sound (rep.Bits u) regs (Some ws) x wide = two_regs (Sound (rep.Bits u) (Some ws) x) (bits_sound u x ws) regs wide
sound rep.Hset regs (Some ws) x wide = four_regs (Sound rep.Hset (Some ws) x) (hset_sound x ws) regs wide
sound (rep.Amap u) regs (Some ws) x wide = two_regs (Sound (rep.Amap u) (Some ws) x) (amap_sound u x ws) regs wide
sound rep.Hmap regs (Some ws) x wide = four_regs (Sound rep.Hmap (Some ws) x) (hmap_sound x ws) regs wide
sound rep.Heap regs (Some ws) x wide = three_regs (Sound rep.Heap (Some ws) x) (heap_sound x ws) regs wide
sound rep.Word regs (Some ws) x wide = λ aw bw e. absurd (no_value x e)
sound rep.Flag regs (Some ws) x wide = λ aw bw e. absurd (no_value x e)
sound rep.Slice regs None x wide = λ aw bw e. absurd (no_value x e)
sound rep.Slice regs (Some ws) x wide = λ aw bw e. absurd (no_value x e)
sound rep.Array regs None x wide = λ aw bw e. absurd (no_value x e)
sound rep.Vec regs None x wide = λ aw bw e. absurd (no_value x e)
sound (rep.Bits u) regs None x wide = λ aw bw e. absurd (no_value x e)
sound rep.Hset regs None x wide = λ aw bw e. absurd (no_value x e)
sound (rep.Amap u) regs None x wide = λ aw bw e. absurd (no_value x e)
sound rep.Hmap regs None x wide = λ aw bw e. absurd (no_value x e)
sound rep.Heap regs None x wide = λ aw bw e. absurd (no_value x e)

word_block : (x : Value) (ws : List ℕ) (a : ℕ) → Complete rep.Word (Some ws) x (a ∷ [])
word_block (v.Nat n) ws a h = absurd (not_nothing a ws h.represents.layout.empty)
word_block x ws a h = absurd h.represents.layout

flag_block : (x : Value) (ws : List ℕ) (a : ℕ) → Complete rep.Flag (Some ws) x (a ∷ [])
flag_block (v.Bool t) ws a h = absurd (not_nothing a ws h.represents.layout.empty)
flag_block x ws a h = absurd h.represents.layout

array_none : (x : Value) (b off len : ℕ) → Complete rep.Array None x (b ∷ off ∷ len ∷ [])
array_none (v.List xs) b off len h = absurd (no_block b xs h.represents.layout.piece)
array_none x b off len h = absurd h.represents.layout

vec_none : (x : Value) (b len cap : ℕ) → Complete rep.Vec None x (b ∷ len ∷ cap ∷ [])
vec_none (v.List xs) b len cap h = absurd (no_block b h.represents.layout.block_words h.represents.layout.piece)
vec_none x b len cap h = absurd h.represents.layout

heap_none : (x : Value) (b len cap : ℕ) → Complete rep.Heap None x (b ∷ len ∷ cap ∷ [])
heap_none (v.Bag a) b len cap h = absurd (no_block b h.represents.layout.block_words h.represents.layout.piece)
heap_none x b len cap h = absurd h.represents.layout

bits_none : (u : ℕ) (x : Value) (b n : ℕ) → Complete (rep.Bits u) None x (b ∷ n ∷ [])
bits_none u (v.Set s) b n h = absurd (no_block b h.represents.layout.block_words h.represents.layout.piece)
bits_none u x b n h = absurd h.represents.layout

amap_none : (u : ℕ) (x : Value) (b n : ℕ) → Complete (rep.Amap u) None x (b ∷ n ∷ [])
amap_none u (v.Map m) b n h = absurd (no_block b h.represents.layout.block_words h.represents.layout.piece)
amap_none u x b n h = absurd h.represents.layout

hset_none : (x : Value) (b cap n used : ℕ) → Complete rep.Hset None x (b ∷ cap ∷ n ∷ used ∷ [])
hset_none (v.Set s) b cap n used h = absurd (no_block b h.represents.layout.block_words h.represents.layout.piece)
hset_none x b cap n used h = absurd h.represents.layout

hmap_none : (x : Value) (b cap n used : ℕ) → Complete rep.Hmap None x (b ∷ cap ∷ n ∷ used ∷ [])
hmap_none (v.Map m) b cap n used h = absurd (no_block b h.represents.layout.block_words h.represents.layout.piece)
hmap_none x b cap n used h = absurd h.represents.layout

pub complete : (r : Rep) (regs : List ℕ) (blk : Option (List ℕ)) (x : Value) → length regs ≡ width r → Complete r blk x regs
complete rep.Word regs None x wide = one_reg (Complete rep.Word None x) (word_complete x) regs wide
complete rep.Word regs (Some ws) x wide = one_reg (Complete rep.Word (Some ws) x) (word_block x ws) regs wide
complete rep.Flag regs None x wide = one_reg (Complete rep.Flag None x) (flag_complete x) regs wide
complete rep.Flag regs (Some ws) x wide = one_reg (Complete rep.Flag (Some ws) x) (flag_block x ws) regs wide
complete rep.Array regs (Some ws) x wide = three_regs (Complete rep.Array (Some ws) x) (array_complete x ws) regs wide
complete rep.Array regs None x wide = three_regs (Complete rep.Array None x) (array_none x) regs wide
complete rep.Vec regs (Some ws) x wide = three_regs (Complete rep.Vec (Some ws) x) (vec_complete x ws) regs wide
complete rep.Vec regs None x wide = three_regs (Complete rep.Vec None x) (vec_none x) regs wide
complete (rep.Bits u) regs (Some ws) x wide = two_regs (Complete (rep.Bits u) (Some ws) x) (bits_complete u x ws) regs wide
complete (rep.Bits u) regs None x wide = two_regs (Complete (rep.Bits u) None x) (bits_none u x) regs wide
complete rep.Hset regs (Some ws) x wide = four_regs (Complete rep.Hset (Some ws) x) (hset_complete x ws) regs wide
complete rep.Hset regs None x wide = four_regs (Complete rep.Hset None x) (hset_none x) regs wide
complete (rep.Amap u) regs (Some ws) x wide = two_regs (Complete (rep.Amap u) (Some ws) x) (amap_complete u x ws) regs wide
complete (rep.Amap u) regs None x wide = two_regs (Complete (rep.Amap u) None x) (amap_none u x) regs wide
complete rep.Hmap regs (Some ws) x wide = four_regs (Complete rep.Hmap (Some ws) x) (hmap_complete x ws) regs wide
complete rep.Hmap regs None x wide = four_regs (Complete rep.Hmap None x) (hmap_none x) regs wide
complete rep.Heap regs (Some ws) x wide = three_regs (Complete rep.Heap (Some ws) x) (heap_complete x ws) regs wide
complete rep.Heap regs None x wide = three_regs (Complete rep.Heap None x) (heap_none x) regs wide
complete rep.Slice regs blk x wide = λ h. absurd (h.whole refl)

pub reading_is_exact : ReadingIsExact
reading_is_exact r regs blk x wide aw bw = (sound r regs blk x wide aw bw, complete r regs blk x wide)

-- ---- images

no_slice : (x : Value) (i : Image) → image rep.Slice x ≡ Some i → ⊥
no_slice (v.Nat n) i e = let d : None ≡ Some i = e in cc d
no_slice (v.Bool t) i e = let d : None ≡ Some i = e in cc d
no_slice (v.List xs) i e = let d : None ≡ Some i = e in cc d
no_slice (v.Set s) i e = let d : None ≡ Some i = e in cc d
no_slice (v.Map m) i e = let d : None ≡ Some i = e in cc d
no_slice (v.Bag h) i e = let d : None ≡ Some i = e in cc d

held_first : (b : ℕ) (blk : Option (List ℕ)) (regs : List ℕ) → held (first_word (named b blk regs)) blk ≡ held b blk
held_first b None regs = refl
held_first b (Some ws) regs = refl

pub images_are_read : ImagesAreRead
images_are_read r x i b words small e name =
    let h = images_represent r x i b words small e name in
    complete r (placed b i) i.block x (width_is r x (placed b i) (held b i.block) h)
    (record {
      whole = λ d. no_slice x i (ap (λ q. image q x) (sym d) ∙ e);
      represents = subst (Represents r x (placed b i)) (sym (held_first b i.block i.regs)) h;
    })
