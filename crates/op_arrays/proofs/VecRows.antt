-- The rows of vecs.
use Rattle.std.proofs.Common.{◌≡◌, ℕ, suc, ◌+◌, ◌*◌, ◌^◌, ◌<◌, ◌≤◌, ◌||◌, List, [], ◌∷◌, ◌++◌, length, replicate, refl, sym, ap, ◌∙◌, subst, arith, leb-false}
use Rattle.std.proofs.lemmas.Bool.{or_parts}
use Rattle.std.proofs.lemmas.List.{length-append, length-set, length-replicate, take_at, take-append-le, set-append_left, get_or_append_left}
use Rattle.std.specs.Prelude.{slice_index, slice_set, nat_le, take, Some, None}
use Rattle.nres_core.specs.Ops.{op_out}
use Rattle.nres_core.specs.Runs as runs
use Rattle.nres_core.specs.declared.op.Op.TheVariants as o
use Rattle.nres_core.specs.declared.value.Value.TheVariants as v
use Rattle.target_code.specs.declared.tree.Proc.{Proc}
use Rattle.target_code.specs.declared.tree.Rep.TheVariants as rep
use Rattle.target_meaning.specs.Piece.{Piece, none, plus}
use Rattle.target_meaning.proofs.Shares.{plus-none}
use Rattle.triple_logic.specs.Blocks.{block, Reads}
use Rattle.triple_logic.specs.Sample.{HasValue}
use Rattle.triple_logic.specs.Weakest.{Does}
use Rattle.relations.specs.Blocks.{AreWords}
use Rattle.relations.specs.Represents.{Represents, IsSmall}
use Rattle.relations.proofs.Small.{word_first}
use Rattle.row_laws.specs.Rows.{Thing, thing, RowLaw, RegisterLaw, Call}
use Rattle.row_laws.proofs.Arguments.{on_word, on_vec, on_kept_vec}
use Rattle.row_laws.proofs.FromProcedures.{call_by, few_steps, passes}
use Rattle.row_laws.proofs.Results.{is_word, is_vec, none_whole, block_whole, name_word, length_word}
use Rattle.row_laws.proofs.Words.{no_words, words_set, words_zeros, words_append, words_front, words_back}
use Rattle.op_base.specs.Library.{HasCopy, Gives}
use Rattle.op_base.specs.Push.{HasPush, VecAt, push_rest}
use Rattle.op_base.proofs.Claims.{room_for, claims_are, claim_is}
use Rattle.op_base.proofs.Words.{words_rest}
use Rattle.op_arrays.specs.Arrays.{swapped}
use Rattle.op_arrays.specs.Vecs.{vec_swap, vec_push}
use Rattle.op_arrays.specs.Rules as rule
use Rattle.op_arrays.specs.Rules.{VecRows}
use Rattle.op_arrays.proofs.ArrayRows.{With, two_words}
use Rattle.op_arrays.proofs.VecsLemmas.{nil_law, get_law, set_law, swap_law, pop_law, vec_push_law, copy_elements_law}

-- ---- lists in front of others

front_index : (xs rest : List ℕ) (i : ℕ) → i < length xs → slice_index (xs ++ rest) i ≡ slice_index xs i
front_index xs rest i lt = get_or_append_left xs rest 0 i lt

front_set : (xs rest : List ℕ) (i w : ℕ) → i < length xs → slice_set (xs ++ rest) i w ≡ slice_set xs i w ++ rest
front_set xs rest i w lt = set-append_left xs rest i w lt

front_swap : (xs rest : List ℕ) (i j : ℕ) → i < length xs → j < length xs → swapped (xs ++ rest) i j ≡ swapped xs i j ++ rest
front_swap xs rest i j li lj =
    let y = front_index xs rest j lj in
    let x = front_index xs rest i li in
    let lt : j < length (slice_set xs i (slice_index xs j)) = omega (arith, lj, length-set xs i (slice_index xs j)) in
    ap (λ z. slice_set (slice_set (xs ++ rest) i z) j (slice_index (xs ++ rest) i)) y
    ∙ ap (λ z. slice_set (slice_set (xs ++ rest) i (slice_index xs j)) j z) x
    ∙ ap (λ z. slice_set z j (slice_index xs i)) (front_set xs rest i (slice_index xs j) li)
    ∙ front_set (slice_set xs i (slice_index xs j)) rest j (slice_index xs i) lt

inside : (xs rest : List ℕ) (i : ℕ) → i < length xs → i < length (xs ++ rest)
inside xs rest i lt = omega (arith, lt, length-append xs rest)

front_reads : (b : ℕ) (xs rest : List ℕ) (p : Piece) → Reads b 0 (xs ++ rest) p → Reads b 0 xs p
front_reads b xs rest p reads i lt = subst (HasValue (p b (suc (0 + i)))) (front_index xs rest i lt) (reads i (inside xs rest i lt))

module _ (T : List Proc) where
  -- a vec whose elements are replaced by as many
  abbrev vec : (b : ℕ) (xs rest : List ℕ) → Thing
  vec b xs rest = thing (v.List xs) (b ∷ length xs ∷ length (xs ++ rest) ∷ []) (block b (xs ++ rest))

  same_vec : (b : ℕ) (xs rest ys : List ℕ) → b < 2 ^ 64 → length (xs ++ rest) < 2 ^ 64 → length ys ≡ length xs → AreWords (ys ++ rest) → 1 ≤ length (xs ++ rest) → IsSmall (length xs) → Represents rep.Vec (v.List ys) (b ∷ length xs ∷ length (xs ++ rest) ∷ []) (block b (ys ++ rest))
  same_vec b xs rest ys name cap len words room small =
      is_vec b (length xs) (length (xs ++ rest)) ys (ys ++ rest) name cap (length-append xs rest ∙ ap (λ z. z + length rest) (sym len) ∙ sym (length-append ys rest)) room (omega (arith, length-append xs rest)) (take_at ys rest (length xs) len) words small

  nil_at : Call T rule.vec_nil []
  nil_at ok known =
      call_by T rule.vec_nil [] ℕ _ _ _ 3 (Some 4) none refl refl (few_steps 3 (0 + 4) (omega arith)) (nil_law T 4 [] none (omega arith))
      (λ x h hs. record {
        outs = thing (v.List []) (x ∷ 0 ∷ 4 ∷ []) (block x (replicate 4 0)) ∷ [];
        outcome = refl;
        related = (is_vec x 0 4 [] (replicate 4 0) (name_word x (replicate 4 0) none h hs) (omega arith) refl (omega arith) (omega arith) refl (words_zeros 4) (omega arith), block_whole x (replicate 4 0), tt);
        registers = refl;
        piece = sym (plus-none (plus (block x (replicate 4 0)) none));
      })

  nil_row : RowLaw T rule.vec_nil
  nil_row [] held = nil_at
  nil_row (t ∷ ts) held = absurd held

  get_at : (b : ℕ) (xs rest : List ℕ) (p : Piece) → Reads b 0 (xs ++ rest) p → AreWords (xs ++ rest) → (i : ℕ) → i < 2 ^ 64 → Call T rule.vec_get (thing (v.List xs) (b ∷ length xs ∷ length (xs ++ rest) ∷ []) p ∷ thing (v.Nat i) (i ∷ []) none ∷ [])
  get_at b xs rest p reads words i word ok known =
      let pass = passes (nat_le (length xs) i) (v.Nat (slice_index xs i) ∷ []) ok in
      let lt : i < length xs = leb-false (length xs) i pass.0 in
      let same = front_index xs rest i lt in
      call_by T rule.vec_get (thing (v.List xs) (b ∷ length xs ∷ length (xs ++ rest) ∷ []) p ∷ thing (v.Nat i) (i ∷ []) none ∷ []) (Unit {0}) _ _ _ 2 None p refl (plus-none p)
      (few_steps 2 _ (omega arith)) (get_law T b (length xs) (length (xs ++ rest)) i [] (xs ++ rest) p (inside xs rest i lt) reads)
      (λ x h hs. record {
        outs = thing (v.Nat (slice_index xs i)) (slice_index xs i ∷ []) none ∷ [];
        outcome = pass.1;
        related = (is_word (slice_index xs i) (words_front xs rest words i lt), none_whole, tt);
        registers = ap (λ y. y ∷ []) same;
        piece = sym (plus-none p);
      })

  get_row : RowLaw T rule.vec_get
  get_row (t ∷ u ∷ []) held =
      on_kept_vec t.value t.words t.piece held.0 (λ x regs p. Call T rule.vec_get (thing x regs p ∷ u ∷ []))
      (λ b xs rest reads words room small. on_word u.value u.words u.piece held.2.0 (λ y rs q. Call T rule.vec_get (thing (v.List xs) (b ∷ length xs ∷ length (xs ++ rest) ∷ []) t.piece ∷ thing y rs q ∷ [])) (get_at b xs rest t.piece reads words))
  get_row [] held = absurd held
  get_row (t ∷ []) held = absurd held.2
  get_row (t ∷ u ∷ s ∷ ts) held = absurd held.2.2

  set_at : (b : ℕ) (xs rest : List ℕ) → b < 2 ^ 64 → AreWords (xs ++ rest) → 1 ≤ length (xs ++ rest) → IsSmall (length xs) → (i : ℕ) → i < 2 ^ 64 → (w : ℕ) → w < 2 ^ 64 → With T rule.vec_set (v.List xs) (b ∷ length xs ∷ length (xs ++ rest) ∷ []) (block b (xs ++ rest)) i w
  set_at b xs rest name words room small i li w lw ok known =
      let pass = passes (nat_le (length xs) i) (v.List (slice_set xs i w) ∷ []) ok in
      let lt : i < length xs = leb-false (length xs) i pass.0 in
      let same = front_set xs rest i w lt in
      let cap = length (xs ++ rest) in
      let len : length (slice_set xs i w) ≡ length xs = length-set xs i w in
      let all : length (slice_set (xs ++ rest) i w) ≡ cap = length-set (xs ++ rest) i w in
      call_by T rule.vec_set (vec b xs rest ∷ thing (v.Nat i) (i ∷ []) none ∷ thing (v.Nat w) (w ∷ []) none ∷ []) (Unit {0}) _ _ _ 2 None (plus (block b (xs ++ rest)) none) refl
      (plus-none (plus (block b (xs ++ rest)) none)) (few_steps 2 _ (omega arith))
      (set_law T b (length xs) cap i w [] (xs ++ rest) none (inside xs rest i lt))
      (λ x h hs.
      let most : cap < 2 ^ 64 = omega (arith, all, length_word b (slice_set (xs ++ rest) i w) none h hs) in record {
        outs = thing (v.List (slice_set xs i w)) (b ∷ length xs ∷ cap ∷ []) (block b (slice_set xs i w ++ rest)) ∷ [];
        outcome = pass.1;
        related = (same_vec b xs rest (slice_set xs i w) name most len (subst AreWords same (words_set (xs ++ rest) i w lw words)) room small, block_whole b (slice_set xs i w ++ rest), tt);
        registers = refl;
        piece = ap (λ y. plus (block b y) none) same ∙ sym (plus-none (plus (block b (slice_set xs i w ++ rest)) none));
      })

  swap_at : (b : ℕ) (xs rest : List ℕ) → b < 2 ^ 64 → AreWords (xs ++ rest) → 1 ≤ length (xs ++ rest) → IsSmall (length xs) → (i : ℕ) → i < 2 ^ 64 → (j : ℕ) → j < 2 ^ 64 → With T rule.vec_swap (v.List xs) (b ∷ length xs ∷ length (xs ++ rest) ∷ []) (block b (xs ++ rest)) i j
  swap_at b xs rest name words room small i li j lj ok known =
      let pass = passes (nat_le (length xs) i || nat_le (length xs) j) (v.List (swapped xs i j) ∷ []) ok in
      let both = or_parts (nat_le (length xs) i) (nat_le (length xs) j) pass.0 in
      let lt : i < length xs = leb-false (length xs) i both.0 in
      let lu : j < length xs = leb-false (length xs) j both.1 in
      let same = front_swap xs rest i j lt lu in
      let cap = length (xs ++ rest) in
      let ws = words_front xs rest words in
      let len : length (swapped xs i j) ≡ length xs = length-set (slice_set xs i (slice_index xs j)) j (slice_index xs i) ∙ length-set xs i (slice_index xs j) in
      let all : length (swapped xs i j ++ rest) ≡ cap = length-append (swapped xs i j) rest ∙ ap (λ z. z + length rest) len ∙ sym (length-append xs rest) in
      call_by T rule.vec_swap (vec b xs rest ∷ thing (v.Nat i) (i ∷ []) none ∷ thing (v.Nat j) (j ∷ []) none ∷ []) (Unit {0}) _ _ _ 5 None (plus (block b (xs ++ rest)) none) refl
      (plus-none (plus (block b (xs ++ rest)) none)) (few_steps 5 _ (omega arith))
      (subst (λ y. Does T vec_swap (Gives [] (b ∷ length xs ∷ cap ∷ []) (plus (block b y) none)) 5 [] (b ∷ length xs ∷ cap ∷ i ∷ j ∷ []) (plus (block b (xs ++ rest)) none)) same (swap_law T b (length xs) cap i j [] (xs ++ rest) none (inside xs rest i lt) (inside xs rest j lu)))
      (λ x h hs.
      let most : cap < 2 ^ 64 = omega (arith, all, length_word b (swapped xs i j ++ rest) none h hs) in record {
        outs = thing (v.List (swapped xs i j)) (b ∷ length xs ∷ cap ∷ []) (block b (swapped xs i j ++ rest)) ∷ [];
        outcome = pass.1;
        related = (same_vec b xs rest (swapped xs i j) name most len (words_append (swapped xs i j) rest (words_set (slice_set xs i (slice_index xs j)) j (slice_index xs i) (ws i lt) (words_set xs i (slice_index xs j) (ws j lu) ws)) (words_back xs rest words)) room small, block_whole b (swapped xs i j ++ rest), tt);
        registers = refl;
        piece = sym (plus-none (plus (block b (swapped xs i j ++ rest)) none));
      })

  set_row : RowLaw T rule.vec_set
  set_row (t ∷ u ∷ s ∷ []) held =
      on_vec t.value t.words t.piece held.0 held.1 (λ x regs p. Call T rule.vec_set (thing x regs p ∷ u ∷ s ∷ []))
      (λ b xs rest name words room small. two_words T rule.vec_set (v.List xs) _ _ u s held.2.0 held.2.2.0 (set_at b xs rest name words room small))
  set_row [] held = absurd held
  set_row (t ∷ []) held = absurd held.2
  set_row (t ∷ u ∷ []) held = absurd held.2.2
  set_row (t ∷ u ∷ s ∷ o ∷ ts) held = absurd held.2.2.2

  swap_row : RowLaw T rule.vec_swap
  swap_row (t ∷ u ∷ s ∷ []) held =
      on_vec t.value t.words t.piece held.0 held.1 (λ x regs p. Call T rule.vec_swap (thing x regs p ∷ u ∷ s ∷ []))
      (λ b xs rest name words room small. two_words T rule.vec_swap (v.List xs) _ _ u s held.2.0 held.2.2.0 (swap_at b xs rest name words room small))
  swap_row [] held = absurd held
  swap_row (t ∷ []) held = absurd held.2
  swap_row (t ∷ u ∷ []) held = absurd held.2.2
  swap_row (t ∷ u ∷ s ∷ o ∷ ts) held = absurd held.2.2.2

  -- ---- the last element

  pop_at : (b : ℕ) (xs rest : List ℕ) → b < 2 ^ 64 → AreWords (xs ++ rest) → 1 ≤ length (xs ++ rest) → IsSmall (length xs) → Call T rule.vec_pop (vec b xs rest ∷ [])
  pop_at b [] rest name words room small ok known = absurd (ok tt)
  pop_at b (y ∷ ys) rest name words room small ok known =
      let n = length ys in
      let xs = y ∷ ys in
      let cap = length (xs ++ rest) in
      let same = front_index xs rest n (omega arith) in
      call_by T rule.vec_pop (vec b xs rest ∷ []) (Unit {0}) _ _ _ 4 None (plus (block b (xs ++ rest)) none) refl
      (plus-none (plus (block b (xs ++ rest)) none)) (few_steps 4 _ (omega arith))
      (pop_law T b n cap [] (xs ++ rest) none (inside xs rest n (omega arith)))
      (λ x h hs. record {
        outs = thing (v.Nat (slice_index xs n)) (slice_index xs n ∷ []) none ∷ thing (v.List (take n xs)) (b ∷ n ∷ cap ∷ []) (block b (xs ++ rest)) ∷ [];
        outcome = refl;
        related = (
          is_word (slice_index xs n) (words_front xs rest words n (omega arith)),
          none_whole,
          (
            is_vec b n cap (take n xs) (xs ++ rest) name (length_word b (xs ++ rest) none h hs) refl room (omega (arith, length-append xs rest)) (take-append-le n xs rest (omega arith)) words (omega (arith, small)),
            block_whole b (xs ++ rest),
            tt,
          ),
        );
        registers = ap (λ z. z ∷ b ∷ n ∷ cap ∷ []) same;
        piece = sym (plus-none (plus (block b (xs ++ rest)) none));
      })

  pop_row : RowLaw T rule.vec_pop
  pop_row (t ∷ []) held = on_vec t.value t.words t.piece held.0 held.1 (λ x regs p. Call T rule.vec_pop (thing x regs p ∷ [])) pop_at
  pop_row [] held = absurd held
  pop_row (t ∷ u ∷ ts) held = absurd held.2

  -- ---- one element more

  push_at : HasCopy T → HasPush T → (b : ℕ) (xs rest : List ℕ) → b < 2 ^ 64 → AreWords (xs ++ rest) → 1 ≤ length (xs ++ rest) → IsSmall (length xs) → (w : ℕ) → w < 2 ^ 64 → Call T rule.vec_push (vec b xs rest ∷ thing (v.Nat w) (w ∷ []) none ∷ [])
  push_at copy push b xs rest name words room small w lw ok known =
      let ys = xs ++ w ∷ [] in
      let tail = push_rest rest xs in
      let pass = passes (nat_le (2 ^ 32) (length xs + 1)) (v.List ys ∷ []) ok in
      let lt : length xs + 1 < 2 ^ 32 = leb-false (2 ^ 32) (length xs + 1) pass.0 in
      let len : length ys ≡ length xs + 1 = length-append xs (w ∷ []) in
      let ws = words_append ys tail (words_append xs (w ∷ []) (words_front xs rest words) (word_first w [] lw no_words)) (words_rest xs rest words) in
      call_by T rule.vec_push (vec b xs rest ∷ thing (v.Nat w) (w ∷ []) none ∷ []) ℕ _ _ _ (6 * length xs + 18) (room_for (length xs) rest) (plus (block b (xs ++ rest)) none) (claim_is (v.List xs ∷ v.Nat w ∷ []) b xs rest (w ∷ []))
      (plus-none (plus (block b (xs ++ rest)) none)) (few_steps (6 * length xs + 18) _ (omega (arith, length-append xs rest)))
      (subst (λ a. Does T vec_push (VecAt ys (push_rest rest xs) none []) (6 * length xs + 18) a (b ∷ length xs ∷ length (xs ++ rest) ∷ w ∷ []) (plus (block b (xs ++ rest)) none)) (claims_are (length xs) rest) (vec_push_law T b w [] xs rest none copy push (omega (arith, lt)) room))
      (λ x h hs. record {
        outs = thing (v.List ys) (x ∷ length ys ∷ length (ys ++ tail) ∷ []) (block x (ys ++ tail)) ∷ [];
        outcome = pass.1;
        related = (
          is_vec x (length ys) (length (ys ++ tail)) ys (ys ++ tail) (name_word x (ys ++ tail) none h hs) (length_word x (ys ++ tail) none h hs) refl (omega (arith, len, length-append ys tail)) (omega (arith, length-append ys tail)) (take_at ys tail (length ys) refl) ws (omega (arith, lt, len)),
          block_whole x (ys ++ tail),
          tt,
        );
        registers = refl;
        piece = sym (plus-none (plus (block x (ys ++ tail)) none));
      })

  push_row : HasCopy T → HasPush T → RowLaw T rule.vec_push
  push_row copy push (t ∷ u ∷ []) held =
      on_vec t.value t.words t.piece held.0 held.1 (λ x regs p. Call T rule.vec_push (thing x regs p ∷ u ∷ []))
      (λ b xs rest name words room small. on_word u.value u.words u.piece held.2.0 (λ y rs q. Call T rule.vec_push (vec b xs rest ∷ thing y rs q ∷ [])) (push_at copy push b xs rest name words room small))
  push_row copy push [] held = absurd held
  push_row copy push (t ∷ []) held = absurd held.2
  push_row copy push (t ∷ u ∷ s ∷ ts) held = absurd held.2.2

  -- ---- a new block

  copy_at : HasCopy T → (b : ℕ) (xs rest : List ℕ) (p : Piece) → Reads b 0 (xs ++ rest) p → AreWords (xs ++ rest) → 1 ≤ length (xs ++ rest) → IsSmall (length xs) → Call T rule.vec_copy (thing (v.List xs) (b ∷ length xs ∷ length (xs ++ rest) ∷ []) p ∷ [])
  copy_at found b xs rest p reads words room small ok known =
      let n = length xs in
      let cap = length (xs ++ rest) in
      let pad : List ℕ = replicate (length rest) 0 in
      let all : cap ≡ length (xs ++ pad) = length-append xs rest ∙ ap (λ z. n + z) (sym (length-replicate {A = ℕ} (length rest) 0)) ∙ sym (length-append xs pad) in
      call_by T rule.vec_copy (thing (v.List xs) (b ∷ n ∷ cap ∷ []) p ∷ []) ℕ _ _ _ (6 * n + 8) (Some cap) p refl (plus-none p)
      (few_steps (6 * n + 8) _ (omega (arith, length-append xs rest))) (copy_elements_law T b cap (length rest) cap [] xs p found (front_reads b xs rest p reads) (sym (length-append xs rest)) (omega arith))
      (λ x h hs. record {
        outs = thing (v.List xs) (x ∷ n ∷ cap ∷ []) (block x (xs ++ pad)) ∷ [];
        outcome = refl;
        related = (
          is_vec x n cap xs (xs ++ pad) (name_word x (xs ++ pad) p h hs) (omega (arith, all, length_word x (xs ++ pad) p h hs)) all room (omega (arith, length-append xs rest)) (take_at xs pad n refl) (words_append xs pad (words_front xs rest words) (words_zeros (length rest))) small,
          block_whole x (xs ++ pad),
          tt,
        );
        registers = refl;
        piece = ap (λ y. plus y p) (sym (plus-none (block x (xs ++ pad)))) ∙ ap (plus (plus (block x (xs ++ pad)) none)) (sym (plus-none p));
      })

  copy_row : HasCopy T → RowLaw T rule.vec_copy
  copy_row found (t ∷ []) held = on_kept_vec t.value t.words t.piece held.0 (λ x regs p. Call T rule.vec_copy (thing x regs p ∷ [])) (λ b xs rest. copy_at found b xs rest t.piece)
  copy_row found [] held = absurd held
  copy_row found (t ∷ u ∷ ts) held = absurd held.2

vec_len : RegisterLaw o.Len rep.Vec 1
vec_len t h = on_kept_vec t.value t.words t.piece h (λ x regs p. op_out o.Len (x ∷ []) ≡ runs.Done (v.Nat (slice_index regs 1) ∷ [])) (λ b xs rest r w m s. refl)

pub vec_rows : (T : List Proc) → HasCopy T → HasPush T → VecRows T
vec_rows T copy push = record { nil = nil_row T; len = vec_len; get = get_row T; set = set_row T; swap = swap_row T; push = push_row T copy push; pop = pop_row T; copy = copy_row T copy }
