-- Images represent their values.
use Rattle.std.proofs.Common.{◌/◌, nat_le, leb-true, ◌≡◌, ℕ, zero, suc, ◌+◌, ◌<◌, ◌≤◌, Bool, true, false, List, [], ◌∷◌, ◌++◌, length, take, refl, sym, ap, ◌∙◌, arith, lit<}
use Rattle.std.proofs.Math.Nat.{le-max_left, le-max_right, max-le}
use Rattle.std.proofs.Math.Seq.{take-append_seam}
use Rattle.std.proofs.lemmas.List.{length-append, length-replicate}
use Rattle.std.specs.Prelude.{◌-◌, ◌^◌, max, replicate, slice_index, T}
use Rattle.std.proofs.lemmas.Bool.{and_parts, cond-true}
use Rattle.containers.specs.Bag as bags
use Rattle.containers.specs.Bag.{Bag, bag_of, rises_from, place, sorted_list}
use Rattle.nres_core.specs.declared.value.Value.TheVariants as v
use Rattle.target_code.specs.declared.tree.Rep.TheVariants as rep
use Rattle.relations.specs.Blocks.{AreWords, block}
use Rattle.relations.specs.Images.{number, of_block, room, roomy}
use Rattle.relations.specs.Laws.{IsEncoded, ImagesRepresent}
use Rattle.relations.specs.Represents.{IsSmall, one_if}
use Rattle.relations.proofs.Layouts.{whole_exact}
use Rattle.relations.proofs.Small.{words_tested, word_first}

no_words : AreWords []
no_words = words_tested [] refl

zeros : (n : ℕ) → AreWords (replicate n 0)
zeros zero = no_words
zeros (suc n) = word_first 0 (replicate n 0) (lit< tt) (zeros n)

then_zeros : (xs : List ℕ) (n : ℕ) → AreWords xs → AreWords (xs ++ replicate n 0)
then_zeros [] n h = zeros n
then_zeros (x ∷ xs) n h = word_first x (xs ++ replicate n 0) (h 0 (omega arith)) (then_zeros xs n (λ i l. h (suc i) (omega (arith, l))))

three : (a b c : ℕ) → a < 2 ^ 64 → b < 2 ^ 64 → c < 2 ^ 64 → AreWords (a ∷ b ∷ c ∷ [])
three a b c p q r = word_first a (b ∷ c ∷ []) p (word_first b (c ∷ []) q (word_first c [] r no_words))

of_number : (n : ℕ) → n < 2 ^ 64 → IsEncoded rep.Word (v.Nat n)
of_number n lt = record {
  has = number n;
  same = refl;
  represents = λ b h. record { registers = word_first n [] lt no_words; layout = record { same = refl; word = lt; empty = λ c j. refl } };
}

one_word : (b : Bool) → one_if b < 2 ^ 64
one_word true = lit< tt
one_word false = lit< tt

of_truth : (b : Bool) → IsEncoded rep.Flag (v.Bool b)
of_truth t = record {
  has = number (one_if t);
  same = refl;
  represents = λ b h. record { registers = word_first (one_if t) [] (one_word t) no_words; layout = record { same = refl; empty = λ c j. refl } };
}

of_array : (xs : List ℕ) → AreWords xs → IsSmall (length xs) → IsEncoded rep.Array (v.List xs)
of_array xs words small = record {
  has = of_block (0 ∷ length xs ∷ []) xs;
  same = refl;
  represents = λ b h. record {
    registers = three b 0 (length xs) h (lit< tt) (omega (arith, small));
    layout = record { piece = whole_exact (block b xs); words = words; offset = refl; count = refl; small = small };
  };
}

all_room : (xs : List ℕ) → room (length xs) ≡ length (xs ++ replicate (room (length xs) - length xs) 0)
all_room xs =
    let le = le-max_right 4 (length xs) in
    let sum : length xs + (room (length xs) - length xs) ≡ room (length xs) = omega (arith, le) in
    sym (length-append xs (replicate (room (length xs) - length xs) 0) ∙ ap (λ n. length xs + n) (length-replicate (room (length xs) - length xs) 0) ∙ sum)

wide : (n : ℕ) → n < 2 ^ 32 → n < 2 ^ 64
wide n h = omega (arith, h)

some_room : (n : ℕ) → 1 ≤ room n
some_room n = let left = le-max_left 4 n in omega (arith, left)

small_room : (n : ℕ) → n < 2 ^ 32 → room n < 2 ^ 64
small_room n h = let k : max 4 n ≤ 2 ^ 32 = max-le {a = 4} {b = n} {k = 2 ^ 32} (omega arith) (omega (arith, h)) in omega (arith, k)

of_vec : (xs : List ℕ) → AreWords xs → IsSmall (length xs) → IsEncoded rep.Vec (v.List xs)
of_vec xs words small =
    let ws = xs ++ replicate (room (length xs) - length xs) 0 in
    record {
      has = roomy xs;
      same = refl;
      represents = λ b h. record {
        registers = three b (length xs) (room (length xs)) h (wide (length xs) small) (small_room (length xs) small);
        layout = record {
          block_words = ws;
          piece = whole_exact (block b ws);
          words = then_zeros xs (room (length xs) - length xs) words;
          capacity = all_room xs;
          room = some_room (length xs);
          fits = le-max_right 4 (length xs);
          elements = take-append_seam xs (replicate (room (length xs) - length xs) 0);
          small = small;
        };
      };
    }

-- ---- the elements of a multiset, ascending, are in heap order

is_true : (b : Bool) → T b → b ≡ true
is_true true t = refl
is_true false t = absurd t

placed_first : (n : ℕ) (xs : List ℕ) → rises_from n xs ≡ true → place n xs ≡ n ∷ xs
placed_first n [] e = refl
placed_first n (x ∷ xs) e = cond-true (nat_le n x) (n ∷ x ∷ xs) (x ∷ place n xs) (and_parts (nat_le n x) (rises_from x xs) e).0

sorted_is : (n : ℕ) (xs : List ℕ) → rises_from n xs ≡ true → sorted_list xs ≡ xs
sorted_is n [] e = refl
sorted_is n (x ∷ xs) e =
    let rest = (and_parts (nat_le n x) (rises_from x xs) e).1 in
    ap (place x) (sorted_is x xs rest) ∙ placed_first x xs rest

least : (n : ℕ) (xs : List ℕ) (i : ℕ) → rises_from n xs ≡ true → i < length xs → n ≤ slice_index xs i
least n [] i e h = absurd (let f : ⊥ = omega (arith, h) in f)
least n (x ∷ xs) zero e h = leb-true n x (and_parts (nat_le n x) (rises_from x xs) e).0
least n (x ∷ xs) (suc i) e h =
    let both = and_parts (nat_le n x) (rises_from x xs) e in
    let first : n ≤ x = leb-true n x both.0 in
    let rest : x ≤ slice_index xs i = least x xs i both.1 (omega (arith, h)) in
    omega (arith, first, rest)

rising : (n : ℕ) (xs : List ℕ) (i j : ℕ) → rises_from n xs ≡ true → i ≤ j → j < length xs → slice_index xs i ≤ slice_index xs j
rising n [] i j e le h = absurd (let f : ⊥ = omega (arith, h) in f)
rising n (x ∷ xs) zero zero e le h = omega arith
rising n (x ∷ xs) zero (suc j) e le h = least x xs j (and_parts (nat_le n x) (rises_from x xs) e).1 (omega (arith, h))
rising n (x ∷ xs) (suc i) zero e le h = absurd (let f : ⊥ = omega (arith, le) in f)
rising n (x ∷ xs) (suc i) (suc j) e le h = rising x xs i j (and_parts (nat_le n x) (rises_from x xs) e).1 (omega (arith, le)) (omega (arith, h))

in_front : (xs ys : List ℕ) (i : ℕ) → i < length xs → slice_index (xs ++ ys) i ≡ slice_index xs i
in_front [] ys i h = absurd (let f : ⊥ = omega (arith, h) in f)
in_front (x ∷ xs) ys zero h = refl
in_front (x ∷ xs) ys (suc i) h = in_front xs ys i (omega (arith, h))

heap_order : (xs ys : List ℕ) → rises_from 0 xs ≡ true → (i : ℕ) → 1 ≤ i → i < length xs → slice_index (xs ++ ys) ((i - 1) / 2) ≤ slice_index (xs ++ ys) i
heap_order xs ys e i low h =
    let half : (i - 1) / 2 ≤ i = omega (arith, low) in
    let here : slice_index (xs ++ ys) ((i - 1) / 2) ≡ slice_index xs ((i - 1) / 2) = in_front xs ys ((i - 1) / 2) (omega (arith, half, h)) in
    let there : slice_index (xs ++ ys) i ≡ slice_index xs i = in_front xs ys i h in
    let both : slice_index xs ((i - 1) / 2) ≤ slice_index xs i = rising 0 xs ((i - 1) / 2) i e half h in
    omega (arith, here, there, both)

same_elements : (h : Bag) (ws : List ℕ) → ws ≡ h.list → bag_of ws ≡ h
unfolding bags.bag_of
same_elements h ws e = bags.same_bag (bag_of ws) h (ap sorted_list e ∙ sorted_is 0 h.list (is_true _ h.sorted))

of_heap : (h : Bag) → AreWords h.list → IsSmall (length h.list) → IsEncoded rep.Heap (v.Bag h)
of_heap h words small =
    let zs = replicate (room (length h.list) - length h.list) 0 in
    record {
      has = roomy h.list;
      same = refl;
      represents = λ b lt. record {
        registers = three b (length h.list) (room (length h.list)) lt (wide (length h.list) small) (small_room (length h.list) small);
        layout = record {
          block_words = h.list ++ zs;
          piece = whole_exact (block b (h.list ++ zs));
          words = then_zeros h.list (room (length h.list) - length h.list) words;
          capacity = all_room h.list;
          room = some_room (length h.list);
          fits = le-max_right 4 (length h.list);
          elements = same_elements h (take (length h.list) (h.list ++ zs)) (take-append_seam h.list zs);
          order = heap_order h.list zs (is_true _ h.sorted);
          small = small;
        };
      };
    }

pub images_represent : ImagesRepresent
images_represent = record { number = of_number; truth = of_truth; array = of_array; vec = of_vec; heap = of_heap }
