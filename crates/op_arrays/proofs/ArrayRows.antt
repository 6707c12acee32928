-- The rows of arrays and slices.
use Rattle.std.proofs.Common.{◌≡◌, ℕ, zero, suc, ◌+◌, ◌*◌, ◌^◌, ◌<◌, ◌||◌, List, [], ◌∷◌, length, replicate, refl, sym, ap, ◌∙◌, subst, arith, leb-false}
use Rattle.std.proofs.lemmas.Bool.{or_parts}
use Rattle.std.proofs.lemmas.List.{length-set, length-replicate}
use Rattle.std.specs.Prelude.{slice_index, slice_set, nat_le, Some, None}
use Rattle.nres_core.specs.Ops.{op_out, zeros_of}
use Rattle.nres_core.specs.Runs as runs
use Rattle.nres_core.specs.declared.op.Op.TheVariants as o
use Rattle.nres_core.specs.declared.value.Value.{Value}
use Rattle.nres_core.specs.declared.value.Value.TheVariants as v
use Rattle.target_code.specs.declared.tree.Proc.{Proc}
use Rattle.target_code.specs.declared.tree.Rep.{Rep}
use Rattle.target_code.specs.declared.tree.Rep.TheVariants as rep
use Rattle.target_meaning.specs.Leaf.{Run, begin}
use Rattle.target_meaning.specs.Piece.{Piece, none, plus}
use Rattle.target_meaning.proofs.Shares.{plus-none}
use Rattle.triple_logic.specs.Blocks.{block, range, name_of, Reads}
use Rattle.triple_logic.specs.Safe.{at_end}
use Rattle.triple_logic.specs.Weakest.{Does, Beside}
use Rattle.triple_logic.proofs.Ends.{ends_frame, ends_weaker}
use Rattle.triple_logic.proofs.Ranges.{block_parts}
use Rattle.relations.specs.Blocks.{AreWords}
use Rattle.relations.specs.Represents.{Represents, IsSmall}
use Rattle.row_laws.specs.Rows.{Thing, thing, Rule, RowLaw, RegisterLaw, Call, block_size}
use Rattle.row_laws.proofs.Arguments.{on_word, on_array, on_kept_array, on_slice, on_kept_slice}
use Rattle.row_laws.proofs.FromProcedures.{call_by, few_steps, passes}
use Rattle.row_laws.proofs.Results.{is_word, is_array, is_slice, none_whole, block_whole, range_whole, name_word}
use Rattle.row_laws.proofs.Words.{words_set, words_zeros}
use Rattle.op_base.specs.Library.{HasCopy, Gives}
use Rattle.op_arrays.specs.Arrays.{swapped, array_set, array_swap}
use Rattle.op_arrays.specs.Rules as rule
use Rattle.op_arrays.specs.Rules.{ArrayRows, SliceRows}
use Rattle.op_arrays.proofs.ArraysLemmas.{zeros_law, get_law, set_law, swap_law, copy_words_law}

-- ---- n zeros

zeros_are : (n : ℕ) → zeros_of n ≡ replicate n 0
zeros_are zero = refl
zeros_are (suc n) = ap (λ z. 0 ∷ z) (zeros_are n)

module _ (T : List Proc) where
  zeros_at : (n : ℕ) → n < 2 ^ 64 → Call T rule.zeros (thing (v.Nat n) (n ∷ []) none ∷ [])
  zeros_at n word ok known =
      let pass = passes (nat_le (2 ^ 32) n) (v.List (zeros_of n) ∷ []) ok in
      let small : n < 2 ^ 32 = leb-false (2 ^ 32) n pass.0 in
      let len : length (replicate {A = ℕ} n 0) ≡ n = length-replicate {A = ℕ} n 0 in
      call_by T rule.zeros (thing (v.Nat n) (n ∷ []) none ∷ []) ℕ _ _ _ 2 (Some n) none refl refl (few_steps 2 (0 + 0 + n) (omega arith)) (zeros_law T n n [] none (omega arith))
      (λ x h hs. record {
        outs = thing (v.List (replicate n 0)) (x ∷ 0 ∷ length (replicate n 0) ∷ []) (block x (replicate n 0)) ∷ [];
        outcome = subst (λ y. runs.Gives (op_out o.Zeros (v.Nat n ∷ [])) (v.List y ∷ [])) (zeros_are n) pass.1;
        related = (is_array x (replicate n 0) (name_word x (replicate n 0) none h hs) (words_zeros n) (subst IsSmall (sym len) small), block_whole x (replicate n 0), tt);
        registers = ap (λ y. x ∷ 0 ∷ y ∷ []) (sym len);
        piece = sym (plus-none (plus (block x (replicate n 0)) none));
      })

  pub zeros_row : RowLaw T rule.zeros
  zeros_row (t ∷ []) held = on_word t.value t.words t.piece held.0 (λ x regs p. Call T rule.zeros (thing x regs p ∷ [])) zeros_at
  zeros_row [] held = absurd held
  zeros_row (t ∷ u ∷ ts) held = absurd held.2

  -- ---- an element

  get_at : (r : Rep) → (b off : ℕ) (xs : List ℕ) (p : Piece) → Reads b off xs p → AreWords xs → (i : ℕ) → i < 2 ^ 64 → Call T (rule.get r) (thing (v.List xs) (b ∷ off ∷ length xs ∷ []) p ∷ thing (v.Nat i) (i ∷ []) none ∷ [])
  get_at r b off xs p reads words i word ok known =
      let pass = passes (nat_le (length xs) i) (v.Nat (slice_index xs i) ∷ []) ok in
      let lt : i < length xs = leb-false (length xs) i pass.0 in
      call_by T (rule.get r) (thing (v.List xs) (b ∷ off ∷ length xs ∷ []) p ∷ thing (v.Nat i) (i ∷ []) none ∷ []) (Unit {0}) _ _ _ 3 None p refl (plus-none p)
      (few_steps 3 _ (omega arith)) (get_law T b off i [] xs p lt reads)
      (λ x h hs. record {
        outs = thing (v.Nat (slice_index xs i)) (slice_index xs i ∷ []) none ∷ [];
        outcome = pass.1;
        related = (is_word (slice_index xs i) (words i lt), none_whole, tt);
        registers = refl;
        piece = sym (plus-none p);
      })

  abbrev At : Rule → Value → List ℕ → Piece → Value → List ℕ → Piece → Type 0
  At R x regs p y rs q = Call T R (thing x regs p ∷ thing y rs q ∷ [])

  pub array_get_row : RowLaw T (rule.get rep.Array)
  array_get_row (t ∷ u ∷ []) held =
      on_kept_array t.value t.words t.piece held.0 (λ x regs p. At (rule.get rep.Array) x regs p u.value u.words u.piece)
      (λ b off xs reads words small. on_word u.value u.words u.piece held.2.0 (At (rule.get rep.Array) (v.List xs) (b ∷ off ∷ length xs ∷ []) t.piece) (get_at rep.Array b off xs t.piece reads words))
  array_get_row [] held = absurd held
  array_get_row (t ∷ []) held = absurd held.2
  array_get_row (t ∷ u ∷ s ∷ ts) held = absurd held.2.2

  pub slice_get_row : RowLaw T (rule.get rep.Slice)
  slice_get_row (t ∷ u ∷ []) held =
      on_kept_slice t.value t.words t.piece held.0 (λ x regs p. At (rule.get rep.Slice) x regs p u.value u.words u.piece)
      (λ b off xs reads words small. on_word u.value u.words u.piece held.2.0 (At (rule.get rep.Slice) (v.List xs) (b ∷ off ∷ length xs ∷ []) t.piece) (get_at rep.Slice b off xs t.piece reads words))
  slice_get_row [] held = absurd held
  slice_get_row (t ∷ []) held = absurd held.2
  slice_get_row (t ∷ u ∷ s ∷ ts) held = absurd held.2.2

  -- ---- a new block of the elements

  copy_at : HasCopy T → (r : Rep) → (b off : ℕ) (xs : List ℕ) (p : Piece) → Reads b off xs p → AreWords xs → IsSmall (length xs) → Call T (rule.copy r) (thing (v.List xs) (b ∷ off ∷ length xs ∷ []) p ∷ [])
  copy_at found r b off xs p reads words small ok known =
      let n = length xs in
      call_by T (rule.copy r) (thing (v.List xs) (b ∷ off ∷ length xs ∷ []) p ∷ []) ℕ _ _ _ (6 * n + 8) (Some n) p refl (plus-none p)
      (few_steps (6 * n + 8) (block_size r (b ∷ off ∷ n ∷ []) + 0 + n) (omega arith)) (copy_words_law T b off n [] xs p found reads (omega arith))
      (λ x h hs. record {
        outs = thing (v.List xs) (x ∷ 0 ∷ n ∷ []) (block x xs) ∷ [];
        outcome = refl;
        related = (is_array x xs (name_word x xs p h hs) words small, block_whole x xs, tt);
        registers = refl;
        piece = ap (λ y. plus y p) (sym (plus-none (block x xs))) ∙ ap (plus (plus (block x xs) none)) (sym (plus-none p));
      })

  pub array_copy_row : HasCopy T → RowLaw T (rule.copy rep.Array)
  array_copy_row found (t ∷ []) held = on_kept_array t.value t.words t.piece held.0 (λ x regs p. Call T (rule.copy rep.Array) (thing x regs p ∷ [])) (λ b off xs. copy_at found rep.Array b off xs t.piece)
  array_copy_row found [] held = absurd held
  array_copy_row found (t ∷ u ∷ ts) held = absurd held.2

  pub slice_copy_row : HasCopy T → RowLaw T (rule.copy rep.Slice)
  slice_copy_row found (t ∷ []) held = on_kept_slice t.value t.words t.piece held.0 (λ x regs p. Call T (rule.copy rep.Slice) (thing x regs p ∷ [])) (λ b off xs. copy_at found rep.Slice b off xs t.piece)
  slice_copy_row found [] held = absurd held
  slice_copy_row found (t ∷ u ∷ ts) held = absurd held.2

  -- ---- elements set and exchanged: a slice is its range, an array the range and the name beside it

  in_block : (g : Proc) (n b : ℕ) (a args vs xs ys : List ℕ) → length ys ≡ length xs → Does T g (Gives a vs (range b 0 ys)) n a args (range b 0 xs) → Does T g (Gives a vs (block b ys)) n a args (block b xs)
  in_block g n b a args vs xs ys len law =
      subst (Does T g (Gives a vs (block b ys)) n a args) (sym (block_parts b xs))
      (ends_weaker T at_end (Beside (Gives a vs (range b 0 ys)) (name_of b (length xs))) (Gives a vs (block b ys))
      (λ c us q h hs m. (tt, m.2.1, m.2.2, m.1 ∙ ap (λ y. plus y (name_of b (length xs))) m.2.3 ∙ ap (λ y. plus (range b 0 ys) (name_of b y)) (sym len) ∙ sym (block_parts b ys)))
      n a (Run (begin g args) []) (plus (range b 0 xs) (name_of b (length xs)))
      (ends_frame (name_of b (length xs)) T at_end (Gives a vs (range b 0 ys)) n a (Run (begin g args) []) (range b 0 xs) law))

  abbrev pub With : Rule → Value → List ℕ → Piece → ℕ → ℕ → Type 0
  With R x regs p i j = Call T R (thing x regs p ∷ thing (v.Nat i) (i ∷ []) none ∷ thing (v.Nat j) (j ∷ []) none ∷ [])

  -- a rule that takes a list and two numbers, by what it does on them
  pub two_words : (R : Rule) (x : Value) (regs : List ℕ) (p : Piece) (t u : Thing) → Represents rep.Word t.value t.words t.piece → Represents rep.Word u.value u.words u.piece → ((i : ℕ) → i < 2 ^ 64 → (j : ℕ) → j < 2 ^ 64 → With R x regs p i j) → Call T R (thing x regs p ∷ t ∷ u ∷ [])
  two_words R x regs p t u ht hu f =
      on_word t.value t.words t.piece ht (λ y rs q. Call T R (thing x regs p ∷ thing y rs q ∷ u ∷ []))
      (λ i li. on_word u.value u.words u.piece hu (λ y rs q. Call T R (thing x regs p ∷ thing (v.Nat i) (i ∷ []) none ∷ thing y rs q ∷ [])) (f i li))

  array_set_at : (b : ℕ) (xs : List ℕ) → b < 2 ^ 64 → AreWords xs → IsSmall (length xs) → (i : ℕ) → i < 2 ^ 64 → (w : ℕ) → w < 2 ^ 64 → With (rule.set rep.Array) (v.List xs) (b ∷ 0 ∷ length xs ∷ []) (block b xs) i w
  array_set_at b xs name words small i li w lw ok known =
      let pass = passes (nat_le (length xs) i) (v.List (slice_set xs i w) ∷ []) ok in
      let lt : i < length xs = leb-false (length xs) i pass.0 in
      let len : length (slice_set xs i w) ≡ length xs = length-set xs i w in
      call_by T (rule.set rep.Array) (thing (v.List xs) (b ∷ 0 ∷ length xs ∷ []) (block b xs) ∷ thing (v.Nat i) (i ∷ []) none ∷ thing (v.Nat w) (w ∷ []) none ∷ []) (Unit {0}) _ _ _ 3 None (block b xs) refl
      (plus-none (plus (block b xs) none) ∙ plus-none (block b xs)) (few_steps 3 _ (omega arith))
      (in_block array_set 3 b [] (b ∷ 0 ∷ length xs ∷ i ∷ w ∷ []) (b ∷ 0 ∷ length xs ∷ []) xs (slice_set xs i w) len (set_law T b 0 i w [] xs lt))
      (λ x h hs. record {
        outs = thing (v.List (slice_set xs i w)) (b ∷ 0 ∷ length (slice_set xs i w) ∷ []) (block b (slice_set xs i w)) ∷ [];
        outcome = pass.1;
        related = (is_array b (slice_set xs i w) name (words_set xs i w lw words) (subst IsSmall (sym len) small), block_whole b (slice_set xs i w), tt);
        registers = ap (λ y. b ∷ 0 ∷ y ∷ []) (sym len);
        piece = sym (plus-none (plus (block b (slice_set xs i w)) none) ∙ plus-none (block b (slice_set xs i w)));
      })

  slice_set_at : (b off : ℕ) (xs : List ℕ) → b < 2 ^ 64 → off < 2 ^ 64 → AreWords xs → IsSmall (length xs) → (i : ℕ) → i < 2 ^ 64 → (w : ℕ) → w < 2 ^ 64 → With (rule.set rep.Slice) (v.List xs) (b ∷ off ∷ length xs ∷ []) (range b off xs) i w
  slice_set_at b off xs name lo words small i li w lw ok known =
      let pass = passes (nat_le (length xs) i) (v.List (slice_set xs i w) ∷ []) ok in
      let lt : i < length xs = leb-false (length xs) i pass.0 in
      let len : length (slice_set xs i w) ≡ length xs = length-set xs i w in
      call_by T (rule.set rep.Slice) (thing (v.List xs) (b ∷ off ∷ length xs ∷ []) (range b off xs) ∷ thing (v.Nat i) (i ∷ []) none ∷ thing (v.Nat w) (w ∷ []) none ∷ []) (Unit {0}) _ _ _ 3 None (range b off xs) refl
      (plus-none (plus (range b off xs) none) ∙ plus-none (range b off xs)) (few_steps 3 _ (omega arith))
      (set_law T b off i w [] xs lt)
      (λ x h hs. record {
        outs = thing (v.List (slice_set xs i w)) (b ∷ off ∷ length (slice_set xs i w) ∷ []) (range b off (slice_set xs i w)) ∷ [];
        outcome = pass.1;
        related = (is_slice b off (slice_set xs i w) name lo (words_set xs i w lw words) (subst IsSmall (sym len) small), range_whole b off (slice_set xs i w), tt);
        registers = ap (λ y. b ∷ off ∷ y ∷ []) (sym len);
        piece = sym (plus-none (plus (range b off (slice_set xs i w)) none) ∙ plus-none (range b off (slice_set xs i w)));
      })

  swap_words : (xs : List ℕ) (i j : ℕ) → i < length xs → j < length xs → AreWords xs → AreWords (swapped xs i j)
  swap_words xs i j li lj words = words_set (slice_set xs i (slice_index xs j)) j (slice_index xs i) (words i li) (words_set xs i (slice_index xs j) (words j lj) words)

  swap_length : (xs : List ℕ) (i j : ℕ) → length (swapped xs i j) ≡ length xs
  swap_length xs i j = length-set (slice_set xs i (slice_index xs j)) j (slice_index xs i) ∙ length-set xs i (slice_index xs j)

  array_swap_at : (b : ℕ) (xs : List ℕ) → b < 2 ^ 64 → AreWords xs → IsSmall (length xs) → (i : ℕ) → i < 2 ^ 64 → (j : ℕ) → j < 2 ^ 64 → With (rule.swap rep.Array) (v.List xs) (b ∷ 0 ∷ length xs ∷ []) (block b xs) i j
  array_swap_at b xs name words small i li j lj ok known =
      let pass = passes (nat_le (length xs) i || nat_le (length xs) j) (v.List (swapped xs i j) ∷ []) ok in
      let both = or_parts (nat_le (length xs) i) (nat_le (length xs) j) pass.0 in
      let lt : i < length xs = leb-false (length xs) i both.0 in
      let lu : j < length xs = leb-false (length xs) j both.1 in
      let len : length (swapped xs i j) ≡ length xs = swap_length xs i j in
      call_by T (rule.swap rep.Array) (thing (v.List xs) (b ∷ 0 ∷ length xs ∷ []) (block b xs) ∷ thing (v.Nat i) (i ∷ []) none ∷ thing (v.Nat j) (j ∷ []) none ∷ []) (Unit {0}) _ _ _ 7 None (block b xs) refl
      (plus-none (plus (block b xs) none) ∙ plus-none (block b xs)) (few_steps 7 _ (omega arith))
      (in_block array_swap 7 b [] (b ∷ 0 ∷ length xs ∷ i ∷ j ∷ []) (b ∷ 0 ∷ length xs ∷ []) xs (swapped xs i j) len (swap_law T b 0 i j [] xs lt lu))
      (λ x h hs. record {
        outs = thing (v.List (swapped xs i j)) (b ∷ 0 ∷ length (swapped xs i j) ∷ []) (block b (swapped xs i j)) ∷ [];
        outcome = pass.1;
        related = (is_array b (swapped xs i j) name (swap_words xs i j lt lu words) (subst IsSmall (sym len) small), block_whole b (swapped xs i j), tt);
        registers = ap (λ y. b ∷ 0 ∷ y ∷ []) (sym len);
        piece = sym (plus-none (plus (block b (swapped xs i j)) none) ∙ plus-none (block b (swapped xs i j)));
      })

  slice_swap_at : (b off : ℕ) (xs : List ℕ) → b < 2 ^ 64 → off < 2 ^ 64 → AreWords xs → IsSmall (length xs) → (i : ℕ) → i < 2 ^ 64 → (j : ℕ) → j < 2 ^ 64 → With (rule.swap rep.Slice) (v.List xs) (b ∷ off ∷ length xs ∷ []) (range b off xs) i j
  slice_swap_at b off xs name lo words small i li j lj ok known =
      let pass = passes (nat_le (length xs) i || nat_le (length xs) j) (v.List (swapped xs i j) ∷ []) ok in
      let both = or_parts (nat_le (length xs) i) (nat_le (length xs) j) pass.0 in
      let lt : i < length xs = leb-false (length xs) i both.0 in
      let lu : j < length xs = leb-false (length xs) j both.1 in
      let len : length (swapped xs i j) ≡ length xs = swap_length xs i j in
      call_by T (rule.swap rep.Slice) (thing (v.List xs) (b ∷ off ∷ length xs ∷ []) (range b off xs) ∷ thing (v.Nat i) (i ∷ []) none ∷ thing (v.Nat j) (j ∷ []) none ∷ []) (Unit {0}) _ _ _ 7 None (range b off xs) refl
      (plus-none (plus (range b off xs) none) ∙ plus-none (range b off xs)) (few_steps 7 _ (omega arith))
      (swap_law T b off i j [] xs lt lu)
      (λ x h hs. record {
        outs = thing (v.List (swapped xs i j)) (b ∷ off ∷ length (swapped xs i j) ∷ []) (range b off (swapped xs i j)) ∷ [];
        outcome = pass.1;
        related = (is_slice b off (swapped xs i j) name lo (swap_words xs i j lt lu words) (subst IsSmall (sym len) small), range_whole b off (swapped xs i j), tt);
        registers = ap (λ y. b ∷ off ∷ y ∷ []) (sym len);
        piece = sym (plus-none (plus (range b off (swapped xs i j)) none) ∙ plus-none (range b off (swapped xs i j)));
      })

  pub array_set_row : RowLaw T (rule.set rep.Array)
  array_set_row (t ∷ u ∷ s ∷ []) held =
      on_array t.value t.words t.piece held.0 held.1 (λ x regs p. Call T (rule.set rep.Array) (thing x regs p ∷ u ∷ s ∷ []))
      (λ b xs name words small. two_words (rule.set rep.Array) (v.List xs) _ _ u s held.2.0 held.2.2.0 (array_set_at b xs name words small))
  array_set_row [] held = absurd held
  array_set_row (t ∷ []) held = absurd held.2
  array_set_row (t ∷ u ∷ []) held = absurd held.2.2
  array_set_row (t ∷ u ∷ s ∷ o ∷ ts) held = absurd held.2.2.2

  pub slice_set_row : RowLaw T (rule.set rep.Slice)
  slice_set_row (t ∷ u ∷ s ∷ []) held =
      on_slice t.value t.words t.piece held.0 held.1 (λ x regs p. Call T (rule.set rep.Slice) (thing x regs p ∷ u ∷ s ∷ []))
      (λ b off xs name lo words small. two_words (rule.set rep.Slice) (v.List xs) _ _ u s held.2.0 held.2.2.0 (slice_set_at b off xs name lo words small))
  slice_set_row [] held = absurd held
  slice_set_row (t ∷ []) held = absurd held.2
  slice_set_row (t ∷ u ∷ []) held = absurd held.2.2
  slice_set_row (t ∷ u ∷ s ∷ o ∷ ts) held = absurd held.2.2.2

  pub array_swap_row : RowLaw T (rule.swap rep.Array)
  array_swap_row (t ∷ u ∷ s ∷ []) held =
      on_array t.value t.words t.piece held.0 held.1 (λ x regs p. Call T (rule.swap rep.Array) (thing x regs p ∷ u ∷ s ∷ []))
      (λ b xs name words small. two_words (rule.swap rep.Array) (v.List xs) _ _ u s held.2.0 held.2.2.0 (array_swap_at b xs name words small))
  array_swap_row [] held = absurd held
  array_swap_row (t ∷ []) held = absurd held.2
  array_swap_row (t ∷ u ∷ []) held = absurd held.2.2
  array_swap_row (t ∷ u ∷ s ∷ o ∷ ts) held = absurd held.2.2.2

  pub slice_swap_row : RowLaw T (rule.swap rep.Slice)
  slice_swap_row (t ∷ u ∷ s ∷ []) held =
      on_slice t.value t.words t.piece held.0 held.1 (λ x regs p. Call T (rule.swap rep.Slice) (thing x regs p ∷ u ∷ s ∷ []))
      (λ b off xs name lo words small. two_words (rule.swap rep.Slice) (v.List xs) _ _ u s held.2.0 held.2.2.0 (slice_swap_at b off xs name lo words small))
  slice_swap_row [] held = absurd held
  slice_swap_row (t ∷ []) held = absurd held.2
  slice_swap_row (t ∷ u ∷ []) held = absurd held.2.2
  slice_swap_row (t ∷ u ∷ s ∷ o ∷ ts) held = absurd held.2.2.2

-- ---- the length is in a register
pub array_len : RegisterLaw o.Len rep.Array 2
array_len t h = on_kept_array t.value t.words t.piece h (λ x regs p. op_out o.Len (x ∷ []) ≡ runs.Done (v.Nat (slice_index regs 2) ∷ [])) (λ b off xs r w s. refl)

pub slice_len : RegisterLaw o.Len rep.Slice 2
slice_len t h = on_kept_slice t.value t.words t.piece h (λ x regs p. op_out o.Len (x ∷ []) ≡ runs.Done (v.Nat (slice_index regs 2) ∷ [])) (λ b off xs r w s. refl)

pub array_rows : (T : List Proc) → HasCopy T → ArrayRows T
array_rows T found = record { zeros = zeros_row T; len = array_len; get = array_get_row T; set = array_set_row T; swap = array_swap_row T; copy = array_copy_row T found }

pub slice_rows : (T : List Proc) → HasCopy T → SliceRows T
slice_rows T found = record { len = slice_len; get = slice_get_row T; set = slice_set_row T; swap = slice_swap_row T; copy = slice_copy_row T found }
