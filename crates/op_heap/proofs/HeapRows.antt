-- The rows of heaps.
use Rattle.std.proofs.Common.{◌≡◌, ℕ, suc, ◌+◌, ◌*◌, ◌-◌, ◌/◌, ◌^◌, ◌<◌, ◌≤◌, List, [], ◌∷◌, ◌++◌, length, replicate, refl, sym, ap, ◌∙◌, subst, arith, leb-false}
use Rattle.std.proofs.lemmas.List.{length-append, length-replicate, take_at, get_or_append_left}
use Rattle.std.specs.Prelude.{slice_index, nat_le, take, Some, None}
use Rattle.containers.specs.Bag.{Bag, bag_of, added, same_bag}
use Rattle.containers.proofs.BagsOfAscending.{list_is}
use Rattle.containers.proofs.BagsOfAscending as bags
use Rattle.nres_core.specs.Ops.{op_out, least, taken}
use Rattle.nres_core.specs.Runs as runs
use Rattle.nres_core.specs.Runs.{Gives, Fails}
use Rattle.nres_core.specs.declared.op.Op.TheVariants as o
use Rattle.nres_core.specs.declared.value.Value.{Value}
use Rattle.nres_core.specs.declared.value.Value.TheVariants as v
use Rattle.target_code.specs.declared.tree.Proc.{Proc}
use Rattle.target_code.specs.declared.tree.Rep.TheVariants as rep
use Rattle.target_meaning.specs.Piece.{Piece, none, plus, IsAllWhole}
use Rattle.target_meaning.proofs.Shares.{plus-none}
use Rattle.triple_logic.specs.Blocks.{block, Reads}
use Rattle.triple_logic.specs.Sample.{HasValue}
use Rattle.triple_logic.specs.Weakest.{Ended, Does}
use Rattle.relations.specs.Blocks.{AreWords}
use Rattle.relations.specs.Represents.{Represents, IsSmall, IsVec, IsHeap}
use Rattle.layout_facts.proofs.Contents.{block_reads}
use Rattle.row_laws.specs.Rows.{Thing, thing, RowLaw, RegisterLaw, Call}
use Rattle.row_laws.proofs.Arguments.{Claim, on_word, first_word, whole_block, vec_rest, vec_all, vec_len, vec_cap}
use Rattle.row_laws.proofs.FromProcedures.{call_by, few_steps, passes, beside}
use Rattle.row_laws.proofs.Results.{is_word, three, none_whole, block_exact, block_whole, name_word, length_word}
use Rattle.row_laws.proofs.Words.{small_word, words_append, words_front, words_zeros}
use Rattle.op_base.specs.Library.{HasCopy}
use Rattle.op_base.specs.Push.{HasPush}
use Rattle.op_base.proofs.Claims.{room_for, claims_are, claim_is}
use Rattle.op_heap.specs.Heap.{Ordered, Added, Least, Taken, heap_add}
use Rattle.op_heap.specs.Rules as rule
use Rattle.op_heap.specs.Rules.{HeapRows, AllHeapRows}
use Rattle.op_heap.proofs.Bags.{size_law}
use Rattle.op_heap.proofs.Up.{add_law}
use Rattle.op_heap.proofs.Down.{take_law}
use Rattle.op_heap.proofs.Small.{empty_law, minimum_law, copy_law}

-- ---- heaps as arguments and as results: the elements stand in front, as those of a vec

abbrev as_vec : (g : Bag) (b len cap : ℕ) (p : Piece) (h : IsHeap g b len cap p) → IsVec (take len h.block_words) b len cap p
as_vec g b len cap p h = record { block_words = h.block_words; piece = h.piece; words = h.words; capacity = h.capacity; room = h.room; fits = h.fits; elements = refl; small = h.small }

module _ (g : Bag) (b len cap : ℕ) (p : Piece) (h : IsHeap g b len cap p) where
  abbrev front : List ℕ
  front = take len h.block_words

  abbrev behind : List ℕ
  behind = vec_rest (take len h.block_words) b len cap p (as_vec g b len cap p h)

  all_words : h.block_words ≡ front ++ behind
  all_words = vec_all (take len h.block_words) b len cap p (as_vec g b len cap p h)

  front_len : len ≡ length front
  front_len = vec_len (take len h.block_words) b len cap p (as_vec g b len cap p h)

  block_len : cap ≡ length (front ++ behind)
  block_len = vec_cap (take len h.block_words) b len cap p (as_vec g b len cap p h)

  elements_are : bag_of front ≡ g
  elements_are = h.elements

  in_order : Ordered (length front) (front ++ behind)
  in_order = subst (Ordered (length front)) all_words (subst (λ n. Ordered n h.block_words) front_len h.order)

abbrev heap_regs : (b : ℕ) (xs rest : List ℕ) → List ℕ
heap_regs b xs rest = b ∷ length xs ∷ length (xs ++ rest) ∷ []

on_heap : (x : Value) (regs : List ℕ) (p : Piece) → Represents rep.Heap x regs p → IsAllWhole p → (P : Claim) → ((b : ℕ) (xs rest : List ℕ) → b < 2 ^ 64 → AreWords (xs ++ rest) → 1 ≤ length (xs ++ rest) → IsSmall (length xs) → Ordered (length xs) (xs ++ rest) → P (v.Bag (bag_of xs)) (heap_regs b xs rest) (block b (xs ++ rest))) → P x regs p
on_heap (v.Bag g) (b ∷ len ∷ cap ∷ []) p h w P f =
    let xs = front g b len cap p h.layout in
    let rest = behind g b len cap p h.layout in
    let all = all_words g b len cap p h.layout in
    let ln = front_len g b len cap p h.layout in
    let cp = block_len g b len cap p h.layout in
    subst (λ y. P (v.Bag y) (b ∷ len ∷ cap ∷ []) p) (elements_are g b len cap p h.layout)
    (subst (λ y. P (v.Bag (bag_of (front g b len cap p h.layout))) (b ∷ y ∷ cap ∷ []) p) (sym ln)
    (subst (λ y. P (v.Bag (bag_of (front g b len cap p h.layout))) (b ∷ length (front g b len cap p h.layout) ∷ y ∷ []) p) (sym cp)
    (subst (P (v.Bag (bag_of (front g b len cap p h.layout))) (heap_regs b (front g b len cap p h.layout) (behind g b len cap p h.layout))) (sym (whole_block b h.layout.block_words p h.layout.piece w ∙ ap (block b) all))
    (f b xs rest (first_word b (len ∷ cap ∷ []) h.registers) (subst AreWords all h.layout.words) (subst (λ y. 1 ≤ y) cp h.layout.room) (subst IsSmall ln h.layout.small) (in_order g b len cap p h.layout)))))
on_heap x regs p h w P f = absurd h.layout

on_kept_heap : (x : Value) (regs : List ℕ) (p : Piece) → Represents rep.Heap x regs p → (P : Claim) → ((b : ℕ) (xs rest : List ℕ) → Reads b 0 (xs ++ rest) p → AreWords (xs ++ rest) → 1 ≤ length (xs ++ rest) → IsSmall (length xs) → Ordered (length xs) (xs ++ rest) → P (v.Bag (bag_of xs)) (heap_regs b xs rest) p) → P x regs p
on_kept_heap (v.Bag g) (b ∷ len ∷ cap ∷ []) p h P f =
    let xs = front g b len cap p h.layout in
    let rest = behind g b len cap p h.layout in
    let all = all_words g b len cap p h.layout in
    let ln = front_len g b len cap p h.layout in
    let cp = block_len g b len cap p h.layout in
    subst (λ y. P (v.Bag y) (b ∷ len ∷ cap ∷ []) p) (elements_are g b len cap p h.layout)
    (subst (λ y. P (v.Bag (bag_of (front g b len cap p h.layout))) (b ∷ y ∷ cap ∷ []) p) (sym ln)
    (subst (λ y. P (v.Bag (bag_of (front g b len cap p h.layout))) (b ∷ length (front g b len cap p h.layout) ∷ y ∷ []) p) (sym cp)
    (f b xs rest (subst (λ y. Reads b 0 y p) all (block_reads b h.layout.block_words p h.layout.piece)) (subst AreWords all h.layout.words) (subst (λ y. 1 ≤ y) cp h.layout.room) (subst IsSmall ln h.layout.small) (in_order g b len cap p h.layout))))
on_kept_heap x regs p h P f = absurd h.layout

is_heap : (g : Bag) (b len cap : ℕ) (ws : List ℕ) → b < 2 ^ 64 → cap < 2 ^ 64 → cap ≡ length ws → 1 ≤ cap → len ≤ cap → bag_of (take len ws) ≡ g → Ordered len ws → AreWords ws → IsSmall len → Represents rep.Heap (v.Bag g) (b ∷ len ∷ cap ∷ []) (block b ws)
is_heap g b len cap ws name c same room fits elements order words small = record {
  registers = three b len cap name (small_word len small) c;
  layout = record { block_words = ws; piece = block_exact b ws; words = words; capacity = same; room = room; fits = fits; elements = elements; order = order; small = small };
}

-- ---- lists in front of others

front_index : (xs rest : List ℕ) (i : ℕ) → i < length xs → slice_index (xs ++ rest) i ≡ slice_index xs i
front_index xs rest i lt = get_or_append_left xs rest 0 i lt

above : (j : ℕ) → 1 ≤ j → (j - 1) / 2 ≤ j
above j le = omega arith

front_order : (xs rest : List ℕ) → Ordered (length xs) (xs ++ rest) → Ordered (length xs) xs
front_order xs rest order j le lt =
    let up : (j - 1) / 2 < length xs = omega (arith, above j le, lt) in
    subst (λ y. y ≤ slice_index xs j) (front_index xs rest ((j - 1) / 2) up)
    (subst (λ y. slice_index (xs ++ rest) ((j - 1) / 2) ≤ y) (front_index xs rest j lt) (order j le lt))

more_order : (xs rest : List ℕ) → Ordered (length xs) xs → Ordered (length xs) (xs ++ rest)
more_order xs rest order j le lt =
    let up : (j - 1) / 2 < length xs = omega (arith, above j le, lt) in
    subst (λ y. y ≤ slice_index (xs ++ rest) j) (sym (front_index xs rest ((j - 1) / 2) up))
    (subst (λ y. slice_index xs ((j - 1) / 2) ≤ y) (sym (front_index xs rest j lt)) (order j le lt))

front_reads : (b : ℕ) (xs rest : List ℕ) (p : Piece) → Reads b 0 (xs ++ rest) p → Reads b 0 xs p
front_reads b xs rest p reads i lt = subst (HasValue (p b (suc (0 + i)))) (front_index xs rest i lt) (reads i (omega (arith, lt, length-append xs rest)))

no_elements : (bag_of []).list ≡ []
no_elements = ap (λ (g : Bag). g.list) bags.none

bag_again : (g : Bag) → bag_of g.list ≡ g
bag_again g = same_bag (bag_of g.list) g (list_is g.list g.sorted)

module _ (T : List Proc) where
  abbrev heap : (b : ℕ) (xs rest : List ℕ) → Thing
  heap b xs rest = thing (v.Bag (bag_of xs)) (heap_regs b xs rest) (block b (xs ++ rest))

  abbrev num : ℕ → Thing
  num i = thing (v.Nat i) (i ∷ []) none

  -- ---- no elements

  empty_at : Call T rule.empty []
  empty_at ok known =
      call_by T rule.empty [] ℕ _ _ _ 3 (Some 4) none refl refl (few_steps 3 (0 + 4) (omega arith)) (empty_law T 4 [] none (omega arith))
      (λ x h hs. record {
        outs = thing (v.Bag (bag_of [])) (x ∷ 0 ∷ 4 ∷ []) (block x (replicate 4 0)) ∷ [];
        outcome = ap (λ (y : Bag). v.Bag y ∷ []) (sym bags.none);
        related = (is_heap (bag_of []) x 0 4 (replicate 4 0) (name_word x (replicate 4 0) none h hs) (omega arith) refl (omega arith) (omega arith) refl (λ j le lt. absurd (let f : ⊥ = omega (arith, lt) in f)) (words_zeros 4) (omega arith), block_whole x (replicate 4 0), tt);
        registers = refl;
        piece = sym (plus-none (plus (block x (replicate 4 0)) none));
      })

  empty_row : RowLaw T rule.empty
  empty_row [] held = empty_at
  empty_row (t ∷ ts) held = absurd held

  -- ---- one element more

  add_at : HasCopy T → HasPush T → (b : ℕ) (xs rest : List ℕ) → b < 2 ^ 64 → AreWords (xs ++ rest) → 1 ≤ length (xs ++ rest) → IsSmall (length xs) → Ordered (length xs) (xs ++ rest) → (w : ℕ) → w < 2 ^ 64 → Call T rule.add (heap b xs rest ∷ num w ∷ [])
  add_at copy push b xs rest name words room small order w lw ok known =
      let pass = passes (nat_le (2 ^ 32) (length (bag_of xs).list + 1)) (v.Bag (added (bag_of xs) w) ∷ []) ok in
      let size = size_law xs in
      let lt : length (bag_of xs).list + 1 < 2 ^ 32 = leb-false (2 ^ 32) (length (bag_of xs).list + 1) pass.0 in
      call_by T rule.add (heap b xs rest ∷ num w ∷ []) (Added w xs) _ _ _ (15 * length xs + 40) (room_for (length xs) rest) (plus (block b (xs ++ rest)) none)
      (claim_is (v.Bag (bag_of xs) ∷ v.Nat w ∷ []) b xs rest (w ∷ []))
      (plus-none (plus (block b (xs ++ rest)) none)) (few_steps (15 * length xs + 40) _ (omega (arith, length-append xs rest)))
      (subst (λ a. Does T heap_add (Ended (Added w xs) (λ o. []) (λ o. o.name ∷ suc (length xs) ∷ length o.words ∷ []) (λ o. plus (block o.name o.words) none)) (15 * length xs + 40) a (b ∷ length xs ∷ length (xs ++ rest) ∷ w ∷ []) (plus (block b (xs ++ rest)) none))
      (claims_are (length xs) rest) (add_law T b w [] xs rest none copy push small room (front_order xs rest order) words lw))
      (λ x h hs. record {
        outs = thing (v.Bag (added (bag_of xs) w)) (x.name ∷ suc (length xs) ∷ length x.words ∷ []) (block x.name x.words) ∷ [];
        outcome = pass.1;
        related = (
          is_heap (added (bag_of xs) w) x.name (suc (length xs)) (length x.words) x.words (name_word x.name x.words none h hs) x.short refl (omega (arith, x.fits)) x.fits x.same x.order x.are_words (omega (arith, lt, size)),
          block_whole x.name x.words,
          tt,
        );
        registers = refl;
        piece = sym (plus-none (plus (block x.name x.words) none));
      })

  add_row : HasCopy T → HasPush T → RowLaw T rule.add
  add_row copy push (t ∷ u ∷ []) held =
      on_heap t.value t.words t.piece held.0 held.1 (λ x regs p. Call T rule.add (thing x regs p ∷ u ∷ []))
      (λ b xs rest name words room small order. on_word u.value u.words u.piece held.2.0 (λ y rs q. Call T rule.add (heap b xs rest ∷ thing y rs q ∷ [])) (add_at copy push b xs rest name words room small order))
  add_row copy push [] held = absurd held
  add_row copy push (t ∷ []) held = absurd held.2
  add_row copy push (t ∷ u ∷ s ∷ ts) held = absurd held.2.2

  -- ---- the least element

  minimum_at : (b : ℕ) (xs rest : List ℕ) (p : Piece) → Reads b 0 (xs ++ rest) p → AreWords (xs ++ rest) → 1 ≤ length (xs ++ rest) → IsSmall (length xs) → Ordered (length xs) (xs ++ rest) → Call T rule.minimum (thing (v.Bag (bag_of xs)) (heap_regs b xs rest) p ∷ [])
  minimum_at b [] rest p reads words room small order ok known = absurd (ok (subst (λ y. Fails (least y)) (sym no_elements) tt))
  minimum_at b (y ∷ ys) rest p reads words room small order ok known =
      let xs = y ∷ ys in
      call_by T rule.minimum (thing (v.Bag (bag_of (y ∷ ys))) (heap_regs b (y ∷ ys) rest) p ∷ []) (Least (y ∷ ys)) _ _ _ 2 None p refl (plus-none p) (few_steps 2 _ (omega arith))
      (minimum_law T b (length (xs ++ rest)) [] xs p (front_reads b xs rest p reads) (omega arith) (front_order xs rest order) (words_front xs rest words))
      (λ x h hs. record {
        outs = thing (v.Nat x.least) (x.least ∷ []) none ∷ [];
        outcome = subst (λ z. Gives (least z) (v.Nat x.least ∷ [])) (sym x.first) refl;
        related = (is_word x.least x.is_word, none_whole, tt);
        registers = refl;
        piece = sym (plus-none p);
      })

  minimum_row : RowLaw T rule.minimum
  minimum_row (t ∷ []) held = on_kept_heap t.value t.words t.piece held.0 (λ x regs p. Call T rule.minimum (thing x regs p ∷ [])) (λ b xs rest. minimum_at b xs rest t.piece)
  minimum_row [] held = absurd held
  minimum_row (t ∷ u ∷ ts) held = absurd held.2

  take_at_least : (b : ℕ) (xs rest : List ℕ) → b < 2 ^ 64 → AreWords (xs ++ rest) → 1 ≤ length (xs ++ rest) → IsSmall (length xs) → Ordered (length xs) (xs ++ rest) → Call T rule.take_min (heap b xs rest ∷ [])
  take_at_least b [] rest name words room small order ok known = absurd (ok (subst (λ y. Fails (taken y)) (sym no_elements) tt))
  take_at_least b (y ∷ ys) rest name words room small order ok known =
      let n = length ys in
      let xs = y ∷ ys in
      let cap = length (xs ++ rest) in
      let here : slice_index (xs ++ rest) 0 < 2 ^ 64 = words 0 (omega (arith, length-append xs rest)) in
      call_by T rule.take_min (heap b xs rest ∷ []) (Taken n (xs ++ rest)) _ _ _ (17 * n + 40) None (plus (block b (xs ++ rest)) none) refl
      (plus-none (plus (block b (xs ++ rest)) none)) (few_steps (17 * n + 40) _ (omega (arith, length-append xs rest)))
      (take_law T b n [] (xs ++ rest) none (omega (arith, small)) (omega (arith, length-append xs rest)) order words)
      (λ x h hs.
      let front_is : take (suc n) (xs ++ rest) ≡ xs = take_at xs rest (suc n) refl in
      let first : (bag_of xs).list ≡ y ∷ (bag_of (take n x.words)).list = subst (λ z. (bag_of z).list ≡ y ∷ (bag_of (take n x.words)).list) front_is x.first in
      let same : length (xs ++ rest) ≡ length x.words = sym x.len in
      record {
        outs = thing (v.Nat y) (y ∷ []) none ∷ thing (v.Bag (bag_of (take n x.words))) (b ∷ n ∷ cap ∷ []) (block b x.words) ∷ [];
        outcome = subst (λ z. Gives (taken z) (v.Nat y ∷ v.Bag (bag_of (take n x.words)) ∷ [])) (sym first) (ap (λ (z : Bag). v.Nat y ∷ v.Bag z ∷ []) (bag_again (bag_of (take n x.words))));
        related = (
          is_word y here,
          none_whole,
          (
            is_heap (bag_of (take n x.words)) b n cap x.words name (omega (arith, same, length_word b x.words none h hs)) same room (omega (arith, length-append xs rest)) refl x.order x.are_words (omega (arith, small)),
            block_whole b x.words,
            tt,
          ),
        );
        registers = refl;
        piece = sym (plus-none (plus (block b x.words) none));
      })

  take_row : RowLaw T rule.take_min
  take_row (t ∷ []) held = on_heap t.value t.words t.piece held.0 held.1 (λ x regs p. Call T rule.take_min (thing x regs p ∷ [])) take_at_least
  take_row [] held = absurd held
  take_row (t ∷ u ∷ ts) held = absurd held.2

  -- ---- a new block

  copy_at : HasCopy T → (b : ℕ) (xs rest : List ℕ) (p : Piece) → Reads b 0 (xs ++ rest) p → AreWords (xs ++ rest) → 1 ≤ length (xs ++ rest) → IsSmall (length xs) → Ordered (length xs) (xs ++ rest) → Call T rule.copy (thing (v.Bag (bag_of xs)) (heap_regs b xs rest) p ∷ [])
  copy_at found b xs rest p reads words room small order ok known =
      let n = length xs in
      let cap = length (xs ++ rest) in
      let pad : List ℕ = replicate (length rest) 0 in
      let all : cap ≡ length (xs ++ pad) = length-append xs rest ∙ ap (λ z. n + z) (sym (length-replicate {A = ℕ} (length rest) 0)) ∙ sym (length-append xs pad) in
      call_by T rule.copy (thing (v.Bag (bag_of xs)) (heap_regs b xs rest) p ∷ []) ℕ _ _ _ (6 * n + 8) (Some cap) p refl (plus-none p)
      (few_steps (6 * n + 8) _ (omega (arith, length-append xs rest))) (copy_law T b cap (length rest) cap [] xs p found (front_reads b xs rest p reads) (sym (length-append xs rest)) (omega arith))
      (λ x h hs. record {
        outs = thing (v.Bag (bag_of xs)) (x ∷ n ∷ cap ∷ []) (block x (xs ++ pad)) ∷ [];
        outcome = refl;
        related = (
          is_heap (bag_of xs) x n cap (xs ++ pad) (name_word x (xs ++ pad) p h hs) (omega (arith, all, length_word x (xs ++ pad) p h hs)) all room (omega (arith, length-append xs rest)) (ap bag_of (take_at xs pad n refl)) (more_order xs pad (front_order xs rest order)) (words_append xs pad (words_front xs rest words) (words_zeros (length rest))) small,
          block_whole x (xs ++ pad),
          tt,
        );
        registers = refl;
        piece = beside (block x (xs ++ pad)) p;
      })

  copy_row : HasCopy T → RowLaw T rule.copy
  copy_row found (t ∷ []) held = on_kept_heap t.value t.words t.piece held.0 (λ x regs p. Call T rule.copy (thing x regs p ∷ [])) (λ b xs rest. copy_at found b xs rest t.piece)
  copy_row found [] held = absurd held
  copy_row found (t ∷ u ∷ ts) held = absurd held.2

heap_size : RegisterLaw o.SizeBag rep.Heap 1
heap_size t h = on_kept_heap t.value t.words t.piece h (λ x regs p. op_out o.SizeBag (x ∷ []) ≡ runs.Done (v.Nat (slice_index regs 1) ∷ [])) (λ b xs rest r w m s q. ap (λ n. runs.Done (v.Nat n ∷ [])) (size_law xs))

pub heap_rows : AllHeapRows
heap_rows T copy push = record { empty = empty_row T; size = heap_size; add = add_row T copy push; minimum = minimum_row T; take_min = take_row T; copy = copy_row T copy }
