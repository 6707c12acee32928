-- Layouts that no encoding makes.
use Rattle.std.proofs.Common.{◌≡◌, ℕ, zero, suc, ◌+◌, ◌*◌, ◌/◌, ◌%◌, ◌<◌, ◌≤◌, Bool, true, false, cond, ◌||◌, not, List, [], ◌∷◌, length, refl, sym, ap, ◌∙◌, subst, arith, eqb, eqb-true, eq-eqb, leb-true, nat_le, ⊎_elim, lit<, slice_index}
use Rattle.std.proofs.Math.Path.{fun_ext}
use Rattle.std.proofs.lemmas.Bool.{cond-false}
use Rattle.std.specs.Cmp.{nat_cmp_total}
use Rattle.std.specs.FinMap as maps
use Rattle.std.specs.FinSet as sets
use Rattle.std.specs.Int.{bit_at}
use Rattle.std.specs.List.{list_any}
use Rattle.std.specs.Option.{is_some}
use Rattle.std.specs.Ordering.{nat_cmp, eq_by_cmp}
use Rattle.std.specs.Prelude.{◌-◌, Option, Some, None}
use Rattle.containers.specs.Bag as bags
use Rattle.containers.specs.Bag.{bag_of}
use Rattle.relations.specs.Blocks.{block, range, whole_piece}
use Rattle.relations.specs.Represents.{Set, Map, one_if, state, key, value, IsTable, IsReached}
use Rattle.relations.specs.Samples.{set_of, map_of, pair_words}
use Rattle.relations.specs.Laws.{OtherLayoutsSeen, NoHeap, NoBits}
use Rattle.relations.proofs.Layouts.{one_block, whole_exact}
use Rattle.relations.proofs.Small.{every_at, words_tested, word_first}
use Rattle.relations.proofs.Tables.{is_equal, one_of_two, implied}

-- ---- bits

abbrev bit_words : List ℕ
bit_words = 8 ∷ 32 ∷ []

abbrev two : Set
two = set_of (3 ∷ 69 ∷ [])

abbrev is_two : ℕ → Bool
is_two x = list_any (eq_by_cmp nat_cmp x) (3 ∷ 69 ∷ [])

two_is : (x : ℕ) → sets.contains two x ≡ is_two x
two_is x = sets.contains-from_list nat_cmp_total (3 ∷ 69 ∷ []) x

below_128 : (x : ℕ) → x / 64 < 2 → x < 128
below_128 x h = omega (arith, h)

bits : (x : ℕ) → x / 64 < 2 → bit_at (slice_index bit_words (x / 64)) (x % 64) ≡ one_if (sets.contains two x)
bits x h =
    eqb-true _ _ (every_at (λ x. eqb (bit_at (slice_index bit_words (x / 64)) (x % 64)) (one_if (is_two x))) 128 x refl (below_128 x h))
    ∙ ap one_if (sym (two_is x))

below_70 : (x : ℕ) → sets.contains two x ≡ true → x < 70
below_70 x e =
    ⊎_elim
    (λ z. let y = is_equal x 3 z in omega (arith, y))
    (λ z. let y = is_equal x 69 z in omega (arith, y))
    (one_of_two (eq_by_cmp nat_cmp x 3) (eq_by_cmp nat_cmp x 69) (sym (two_is x) ∙ e))

len_one : (k : ℕ) → sets.len (set_of (k ∷ [])) ≡ 1
len_one k =
    sets.len-insert nat_cmp_total sets.empty k
    ∙ cond-false (sets.contains (sets.empty {R = nat_cmp}) k) _ _ (sets.contains-empty nat_cmp k)
    ∙ ap (λ n. n + 1) (sets.len-empty nat_cmp)

len_two : sets.len two ≡ 2
len_two =
    sets.len-insert nat_cmp_total (set_of (69 ∷ [])) 3
    ∙ cond-false (sets.contains (set_of (69 ∷ [])) 3) _ _ (sets.contains-from_list nat_cmp_total (69 ∷ []) 3)
    ∙ ap (λ n. n + 1) (len_one 69)

-- ---- a map

abbrev pairs : List (ℕ × ℕ)
pairs = (1, 5) ∷ []

abbrev one_pair : Map
one_pair = map_of pairs

get_is : (k : ℕ) → maps.get one_pair k ≡ maps.find nat_cmp k pairs
get_is k = maps.get-from_entries nat_cmp_total pairs k

marks : (k : ℕ) → k < 2 → slice_index (0 ∷ 9 ∷ 1 ∷ 5 ∷ []) (2 * k) ≡ one_if (maps.contains_key one_pair k)
marks zero h = sym (ap (λ (o : Option ℕ). one_if (is_some o)) (get_is 0))
marks (suc zero) h = sym (ap (λ (o : Option ℕ). one_if (is_some o)) (get_is 1))
marks (suc (suc k)) h = absurd (let d : ⊥ = omega (arith, h) in d)

values : (k x : ℕ) → k < 2 → maps.get one_pair k ≡ Some x → slice_index (0 ∷ 9 ∷ 1 ∷ 5 ∷ []) (2 * k + 1) ≡ x
values zero x h e = absurd (let d : None ≡ Some x = sym (get_is 0) ∙ e in cc d)
values (suc zero) x h e = let d : Some 5 ≡ Some x = sym (get_is 1) ∙ e in cc d
values (suc (suc k)) x h e = absurd (let d : ⊥ = omega (arith, h) in d)

some_of : (b : Bool) → is_some {T = ℕ} (cond b (Some 5) None) ≡ true → b ≡ true
some_of true e = refl
some_of false e = e

below_2 : (k : ℕ) → maps.contains_key one_pair k ≡ true → k < 2
below_2 k e =
    let y = is_equal k 1 (some_of (eq_by_cmp nat_cmp k 1) (sym (ap (λ (o : Option ℕ). is_some o) (get_is k)) ∙ e)) in
    omega (arith, y)

len_pair : maps.len one_pair ≡ 1
len_pair =
    maps.len-insert nat_cmp_total maps.empty 1 5
    ∙ cond-false (maps.contains_key (maps.empty {R = nat_cmp}) 1) _ _ (ap (λ (o : Option ℕ). is_some o) (maps.get-empty nat_cmp 1))
    ∙ ap (λ n. n + 1) (maps.len-empty nat_cmp ℕ)

-- ---- a heap

order : (i : ℕ) → 1 ≤ i → i < 3 → slice_index (1 ∷ 3 ∷ 2 ∷ []) ((i - 1) / 2) ≤ slice_index (1 ∷ 3 ∷ 2 ∷ []) i
order zero l h = absurd (let d : ⊥ = omega (arith, l) in d)
order (suc zero) l h = omega arith
order (suc (suc zero)) l h = omega arith
order (suc (suc (suc i))) l h = absurd (let d : ⊥ = omega (arith, h) in d)

same_elements : bag_of (1 ∷ 3 ∷ 2 ∷ []) ≡ bag_of (3 ∷ 1 ∷ 2 ∷ [])
unfolding bags.bag_of
same_elements = bags.same_bag _ _ refl

-- ---- a map in a hash table

abbrev entry : List (ℕ × ℕ)
entry = (8, 4) ∷ []

abbrev has_entry : ℕ → Bool
has_entry k = is_some {T = ℕ} (maps.find nat_cmp k entry)

entry_is : (k : ℕ) → maps.get (map_of entry) k ≡ maps.find nat_cmp k entry
entry_is k = maps.get-from_entries nat_cmp_total entry k

keys_are : maps.contains_key (map_of entry) ≡ has_entry
keys_are = fun_ext (λ k. ap (λ (o : Option ℕ). is_some o) (entry_is k))

some_key : (b : Bool) → is_some {T = ℕ} (cond b (Some 4) None) ≡ true → b ≡ true
some_key true e = refl
some_key false e = e

abbrev full : ℕ → Bool
full i = eqb (state 3 pair_words i) 1

first_full : (i : ℕ) → i < 8 → state 3 pair_words i ≡ 1 → i ≡ 0
first_full i h e = eqb-true i 0 (implied _ _ (every_at (λ i. not (full i) || eqb i 0) 8 i refl h) (eq-eqb _ _ e))

at_8 : IsReached 3 pair_words 8 8
at_8 = record { steps = 0; full = refl; same = refl; way = λ i h e. omega (arith, h) }

table : IsTable 3 pair_words has_entry 8 1 2
table = record {
  power = (0, refl);
  size = refl;
  states = λ i h. leb-true (state 3 pair_words i) 2 (every_at (λ i. nat_le (state 3 pair_words i) 2) 8 i refl h);
  keys = λ i h e. subst (λ j. has_entry (key 3 pair_words j) ≡ true) (sym (first_full i h e)) refl;
  once = λ i j h k a b c. first_full i h a ∙ sym (first_full j k b);
  reached = λ x e. subst (IsReached 3 pair_words 8) (sym (is_equal x 8 (some_key (eq_by_cmp nat_cmp x 8) e))) at_8;
  full_are = refl;
  used_are = refl;
  open_slot = lit< tt;
}

len_entry : maps.len (map_of entry) ≡ 1
len_entry =
    maps.len-insert nat_cmp_total maps.empty 8 4
    ∙ cond-false (maps.contains_key (maps.empty {R = nat_cmp}) 8) _ _ (ap (λ (o : Option ℕ). is_some o) (maps.get-empty nat_cmp 8))
    ∙ ap (λ n. n + 1) (maps.len-empty nat_cmp ℕ)

hmap_values : (i : ℕ) → i < 8 → state 3 pair_words i ≡ 1 → maps.get (map_of entry) (key 3 pair_words i) ≡ Some (value 3 pair_words i)
hmap_values i h e = subst (λ j. maps.get (map_of entry) (key 3 pair_words j) ≡ Some (value 3 pair_words j)) (sym (first_full i h e)) (entry_is 8)

pub other_layouts : OtherLayoutsSeen
other_layouts b lt = record {
  flag = record { registers = words_tested (1 ∷ []) refl; layout = record { same = refl; empty = λ c j. refl } };
  vec = record {
    registers = word_first b (2 ∷ 3 ∷ []) lt (words_tested (2 ∷ 3 ∷ []) refl);
    layout = record {
      block_words = 3 ∷ 1 ∷ 9 ∷ [];
      piece = whole_exact (block b (3 ∷ 1 ∷ 9 ∷ []));
      words = words_tested (3 ∷ 1 ∷ 9 ∷ []) refl;
      capacity = refl;
      room = omega arith;
      fits = omega arith;
      elements = refl;
      small = lit< tt;
    };
  };
  bits = record {
    registers = word_first b (2 ∷ []) lt (words_tested (2 ∷ []) refl);
    layout = record {
      block_words = bit_words;
      piece = whole_exact (block b bit_words);
      words = words_tested bit_words refl;
      size = refl;
      bits = bits;
      bounded = below_70;
      count = sym len_two;
      small = omega (arith, len_two);
    };
  };
  amap = record {
    registers = word_first b (1 ∷ []) lt (words_tested (1 ∷ []) refl);
    layout = record {
      block_words = 0 ∷ 9 ∷ 1 ∷ 5 ∷ [];
      piece = whole_exact (block b (0 ∷ 9 ∷ 1 ∷ 5 ∷ []));
      words = words_tested (0 ∷ 9 ∷ 1 ∷ 5 ∷ []) refl;
      size = refl;
      marks = marks;
      values = values;
      bounded = below_2;
      count = sym len_pair;
      small = omega (arith, len_pair);
    };
  };
  slice = record {
    registers = word_first b (5 ∷ 2 ∷ []) lt (words_tested (5 ∷ 2 ∷ []) refl);
    layout = record { piece = whole_exact (range b 5 (3 ∷ 1 ∷ [])); words = words_tested (3 ∷ 1 ∷ []) refl; count = refl; small = lit< tt };
  };
  hmap = record {
    registers = word_first b (8 ∷ 1 ∷ 2 ∷ []) lt (words_tested (8 ∷ 1 ∷ 2 ∷ []) refl);
    layout = record {
      block_words = pair_words;
      piece = whole_exact (block b pair_words);
      words = words_tested pair_words refl;
      table = subst (λ f. IsTable 3 pair_words f 8 1 2) (sym keys_are) table;
      values = hmap_values;
      small = omega (arith, len_entry);
    };
  };
  heap = record {
    registers = word_first b (3 ∷ 3 ∷ []) lt (words_tested (3 ∷ 3 ∷ []) refl);
    layout = record {
      block_words = 1 ∷ 3 ∷ 2 ∷ [];
      piece = whole_exact (block b (1 ∷ 3 ∷ 2 ∷ []));
      words = words_tested (1 ∷ 3 ∷ 2 ∷ []) refl;
      capacity = refl;
      room = omega arith;
      fits = omega arith;
      elements = same_elements;
      order = order;
      small = lit< tt;
    };
  };
}

-- ---- what is no layout

pub no_heap : NoHeap
no_heap b h r =
    let words = one_block b r.layout.block_words (2 ∷ 3 ∷ 1 ∷ []) (whole_piece (block b (2 ∷ 3 ∷ 1 ∷ []))) r.layout.piece (whole_exact (block b (2 ∷ 3 ∷ 1 ∷ []))) in
    let e : 2 ≤ 1 = subst (λ (ws : List ℕ). slice_index ws 0 ≤ slice_index ws 2) words (r.layout.order 2 (omega arith) (omega arith)) in
    omega (arith, e)

not_three : (c : Bool) → (c ≡ true → 3 < 3) → 1 ≡ one_if c → ⊥
not_three true h e = let d = h refl in omega (arith, d)
not_three false h e = omega (arith, e)

pub no_bits : NoBits
no_bits b n s r =
    let words = one_block b r.layout.block_words (8 ∷ []) (whole_piece (block b (8 ∷ []))) r.layout.piece (whole_exact (block b (8 ∷ []))) in
    let bits : (x : ℕ) → x / 64 < 1 → bit_at (slice_index (8 ∷ []) (x / 64)) (x % 64) ≡ one_if (sets.contains s x) =
    subst (λ (ws : List ℕ). (x : ℕ) → x / 64 < length ws → bit_at (slice_index ws (x / 64)) (x % 64) ≡ one_if (sets.contains s x)) words r.layout.bits in
    not_three (sets.contains s 3) (r.layout.bounded 3) (bits 3 (lit< tt))
