-- The rows of sets of bits.
use Rattle.std.proofs.Common.{◌≡◌, ℕ, ◌+◌, ◌*◌, ◌^◌, ◌/◌, ◌<◌, true, List, [], ◌∷◌, length, replicate, refl, sym, ap, ◌∙◌, subst, arith, leb-false}
use Rattle.std.specs.Ordering.{nat_cmp}
use Rattle.std.specs.Prelude.{slice_index, nat_le, Some, None}
use Rattle.containers.specs.Sets as sets
use Rattle.containers.proofs.SetItems.{has_items}
use Rattle.nres_core.specs.Ops.{op_out}
use Rattle.nres_core.specs.Runs as runs
use Rattle.nres_core.specs.Runs.{Gives, Fails}
use Rattle.nres_core.specs.declared.op.Op.TheVariants as o
use Rattle.nres_core.specs.declared.value.Value.{Value}
use Rattle.nres_core.specs.declared.value.Value.TheVariants as v
use Rattle.target_code.specs.declared.tree.Proc.{Proc}
use Rattle.target_code.specs.declared.tree.Rep.TheVariants as rep
use Rattle.target_meaning.specs.Piece.{Piece, none, plus, IsAllWhole}
use Rattle.target_meaning.proofs.Shares.{plus-none}
use Rattle.triple_logic.specs.Blocks.{block, Reads}
use Rattle.relations.specs.Blocks.{AreWords}
use Rattle.relations.specs.Represents.{Represents, Set, IsSmall, IsBits, one_if}
use Rattle.row_laws.specs.Rows.{Thing, thing, values_of, Rule, kept, AreGiven, Given, RowLaw, RegisterLaw, Call}
use Rattle.row_laws.proofs.Arguments.{Claim, on_word, first_word, whole_block}
use Rattle.layout_facts.proofs.Contents.{block_reads}
use Rattle.row_laws.proofs.FromProcedures.{call_by, few_steps, passes, beside}
use Rattle.row_laws.proofs.Outcomes.{pick_some, gives_one, gives_order, is_item, fewer_elements, contains_at}
use Rattle.row_laws.proofs.Results.{is_word, is_flag, is_array, two_words, none_whole, block_exact, block_whole, name_word}
use Rattle.row_laws.proofs.Words.{small_word}
use Rattle.op_base.specs.Library.{HasCopy}
use Rattle.op_bits.specs.Bits.{HasBits, HasHas, HasInsert}
use Rattle.op_bits.specs.BitsRules as rule
use Rattle.op_bits.specs.BitsRules.{BitsRows, AllBitsRows}
use Rattle.op_bits.proofs.BitsLemmas.{empty_law, has_law, insert_law, remove_law, copy_words_law}
use Rattle.op_bits.proofs.Elems.{elems_law}
use Rattle.op_bits.proofs.Members.{len_items}
use Rattle.op_bits.proofs.Union.{pick_law, union_law}
use Rattle.op_bits.proofs.Words.{no_bits}

-- ---- sets as arguments and as results

bits_of : (u : ℕ) (s : Set) (b n : ℕ) (p : Piece) (h : IsBits u s b n p) → HasBits u s h.block_words
bits_of u s b n p h = record { size = h.size; bits = h.bits; bounded = h.bounded; words = h.words }

module _ (u : ℕ) where
  on_bits : (x : Value) (regs : List ℕ) (p : Piece) → Represents (rep.Bits u) x regs p → IsAllWhole p → (P : Claim) → ((b : ℕ) (s : Set) (ws : List ℕ) → b < 2 ^ 64 → HasBits u s ws → IsSmall (sets.len s) → P (v.Set s) (b ∷ sets.len s ∷ []) (block b ws)) → P x regs p
  on_bits (v.Set s) (b ∷ n ∷ []) p h w P f =
      subst (λ y. P (v.Set s) (b ∷ y ∷ []) p) (sym h.layout.count)
      (subst (P (v.Set s) (b ∷ sets.len s ∷ [])) (sym (whole_block b h.layout.block_words p h.layout.piece w)) (f b s h.layout.block_words (first_word b (n ∷ []) h.registers) (bits_of u s b n p h.layout) h.layout.small))
  on_bits x regs p h w P f = absurd h.layout

  on_kept_bits : (x : Value) (regs : List ℕ) (p : Piece) → Represents (rep.Bits u) x regs p → (P : Claim) → ((b : ℕ) (s : Set) (ws : List ℕ) → Reads b 0 ws p → HasBits u s ws → IsSmall (sets.len s) → P (v.Set s) (b ∷ sets.len s ∷ []) p) → P x regs p
  on_kept_bits (v.Set s) (b ∷ n ∷ []) p h P f =
      subst (λ y. P (v.Set s) (b ∷ y ∷ []) p) (sym h.layout.count) (f b s h.layout.block_words (block_reads b h.layout.block_words p h.layout.piece) (bits_of u s b n p h.layout) h.layout.small)
  on_kept_bits x regs p h P f = absurd h.layout

  is_bits : (b : ℕ) (s : Set) (ws : List ℕ) → b < 2 ^ 64 → HasBits u s ws → IsSmall (sets.len s) → Represents (rep.Bits u) (v.Set s) (b ∷ sets.len s ∷ []) (block b ws)
  is_bits b s ws name h small = record {
    registers = two_words b (sets.len s) name (small_word (sets.len s) small);
    layout = record { block_words = ws; piece = block_exact b ws; words = h.words; size = h.size; bits = h.bits; bounded = h.bounded; count = refl; small = small };
  }

item_words : (s : Set) (u : ℕ) → ((y : ℕ) → sets.contains s y ≡ true → y < u) → u < 2 ^ 32 → AreWords (sets.items s)
item_words s u bounded most i lt =
    let y = slice_index (sets.items s) i in
    let below = bounded (slice_index (sets.items s) i) (sym (has_items s (slice_index (sets.items s) i)) ∙ contains_at (sets.items s) i lt) in
    omega (arith, below, most)

module _ (T : List Proc) (u : ℕ) (most : u < 2 ^ 32) where
  abbrev set_of : (b : ℕ) (s : Set) → Piece → Thing
  set_of b s p = thing (v.Set s) (b ∷ sets.len s ∷ []) p

  abbrev num : ℕ → Thing
  num i = thing (v.Nat i) (i ∷ []) none

  empty_at : Call T (rule.empty u) []
  empty_at ok known =
      let n = (u + 63) / 64 in
      let zero_len : sets.len (sets.empty {R = nat_cmp}) ≡ 0 = sets.len-empty nat_cmp in
      call_by T (rule.empty u) [] ℕ _ _ _ 6 (Some ((u + 63) / 64)) none refl refl (few_steps 6 _ (omega arith)) (empty_law T u ((u + 63) / 64) [] none most (omega arith))
      (λ x h hs. record {
        outs = set_of x sets.empty (block x (replicate ((u + 63) / 64) 0)) ∷ [];
        outcome = refl;
        related = (is_bits u x sets.empty (replicate ((u + 63) / 64) 0) (name_word x (replicate ((u + 63) / 64) 0) none h hs) (no_bits u) (subst (λ z. z < 2 ^ 32) (sym zero_len) (omega arith)), block_whole x (replicate ((u + 63) / 64) 0), tt);
        registers = ap (λ z. x ∷ z ∷ []) (sym zero_len);
        piece = sym (plus-none (plus (block x (replicate ((u + 63) / 64) 0)) none));
      })

  empty_row : RowLaw T (rule.empty u)
  empty_row [] held = empty_at
  empty_row (t ∷ ts) held = absurd held

  has_at : (b : ℕ) (s : Set) (ws : List ℕ) (p : Piece) → Reads b 0 ws p → HasBits u s ws → (i : ℕ) → i < 2 ^ 64 → Call T (rule.has u) (set_of b s p ∷ num i ∷ [])
  has_at b s ws p reads bs i word ok known =
      call_by T (rule.has u) (set_of b s p ∷ num i ∷ []) (Unit {0}) _ _ _ 10 None p refl (plus-none p) (few_steps 10 _ (omega arith)) (has_law T u b (sets.len s) i [] ws s p reads bs)
      (λ x h hs. record {
        outs = thing (v.Bool (sets.contains s i)) (one_if (sets.contains s i) ∷ []) none ∷ [];
        outcome = refl;
        related = (is_flag (sets.contains s i), none_whole, tt);
        registers = refl;
        piece = sym (plus-none p);
      })

  has_row : RowLaw T (rule.has u)
  has_row (t ∷ y ∷ []) held =
      on_kept_bits u t.value t.words t.piece held.0 (λ x regs p. Call T (rule.has u) (thing x regs p ∷ y ∷ []))
      (λ b s ws reads bs small. on_word y.value y.words y.piece held.2.0 (λ z rs q. Call T (rule.has u) (set_of b s t.piece ∷ thing z rs q ∷ [])) (has_at b s ws t.piece reads bs))
  has_row [] held = absurd held
  has_row (t ∷ []) held = absurd held.2
  has_row (t ∷ y ∷ z ∷ ts) held = absurd held.2.2

  -- the set that is given back, in its own block
  in_place : (R : Rule) (things : List Thing) (b : ℕ) (s : Set) (ws : List ℕ) (q : Piece) → b < 2 ^ 64 → HasBits u s ws → IsSmall (sets.len s) → Gives (op_out R.op (values_of things)) (v.Set s ∷ []) → R.gives ≡ rep.Bits u ∷ [] → q ≡ plus (plus (block b ws) none) (kept R.takes things) → Given R things (b ∷ sets.len s ∷ []) q
  in_place R things b s ws q name bs small outcome gives piece = record {
    outs = set_of b s (block b ws) ∷ [];
    outcome = outcome;
    related = subst (λ y. AreGiven y (set_of b s (block b ws) ∷ [])) (sym gives) (is_bits u b s ws name bs small, block_whole b ws, tt);
    registers = refl;
    piece = piece;
  }

  insert_at : (b : ℕ) (s : Set) (ws : List ℕ) → b < 2 ^ 64 → HasBits u s ws → IsSmall (sets.len s) → (i : ℕ) → i < 2 ^ 64 → Call T (rule.insert u) (set_of b s (block b ws) ∷ num i ∷ [])
  insert_at b s ws name bs small i word ok known =
      let pass = passes (nat_le (2 ^ 32) (sets.len (sets.insert s i))) (v.Set (sets.insert s i) ∷ []) ok in
      let lt : sets.len (sets.insert s i) < 2 ^ 32 = leb-false (2 ^ 32) (sets.len (sets.insert s i)) pass.0 in
      call_by T (rule.insert u) (set_of b s (block b ws) ∷ num i ∷ []) ((ws : List ℕ) × HasBits u (sets.insert s i) ws) _ _ _ 12 None (plus (block b ws) none) refl (plus-none (plus (block b ws) none)) (few_steps 12 _ (omega arith)) (insert_law T u b i [] ws s none known small bs)
      (λ x h hs. in_place (rule.insert u) (set_of b s (block b ws) ∷ num i ∷ []) b (sets.insert s i) x.0 (plus (block b x.0) none) name x.1 lt pass.1 refl (sym (plus-none (plus (block b x.0) none))))

  insert_row : RowLaw T (rule.insert u)
  insert_row (t ∷ y ∷ []) held =
      on_bits u t.value t.words t.piece held.0 held.1 (λ x regs p. Call T (rule.insert u) (thing x regs p ∷ y ∷ []))
      (λ b s ws name bs small. on_word y.value y.words y.piece held.2.0 (λ z rs q. Call T (rule.insert u) (set_of b s (block b ws) ∷ thing z rs q ∷ [])) (insert_at b s ws name bs small))
  insert_row [] held = absurd held
  insert_row (t ∷ []) held = absurd held.2
  insert_row (t ∷ y ∷ z ∷ ts) held = absurd held.2.2

  remove_at : HasHas T → (b : ℕ) (s : Set) (ws : List ℕ) → b < 2 ^ 64 → HasBits u s ws → IsSmall (sets.len s) → (i : ℕ) → i < 2 ^ 64 → Call T (rule.remove u) (set_of b s (block b ws) ∷ num i ∷ [])
  remove_at found b s ws name bs small i word ok known =
      call_by T (rule.remove u) (set_of b s (block b ws) ∷ num i ∷ []) ((ws : List ℕ) × HasBits u (sets.remove s i) ws) _ _ _ 22 None (plus (block b ws) none) refl (plus-none (plus (block b ws) none)) (few_steps 22 _ (omega arith)) (remove_law T u b i [] ws s none found small bs)
      (λ x h hs. in_place (rule.remove u) (set_of b s (block b ws) ∷ num i ∷ []) b (sets.remove s i) x.0 (plus (block b x.0) none) name x.1 (fewer_elements s i small) refl refl (sym (plus-none (plus (block b x.0) none))))

  remove_row : HasHas T → RowLaw T (rule.remove u)
  remove_row found (t ∷ y ∷ []) held =
      on_bits u t.value t.words t.piece held.0 held.1 (λ x regs p. Call T (rule.remove u) (thing x regs p ∷ y ∷ []))
      (λ b s ws name bs small. on_word y.value y.words y.piece held.2.0 (λ z rs q. Call T (rule.remove u) (set_of b s (block b ws) ∷ thing z rs q ∷ [])) (remove_at found b s ws name bs small))
  remove_row found [] held = absurd held
  remove_row found (t ∷ []) held = absurd held.2
  remove_row found (t ∷ y ∷ z ∷ ts) held = absurd held.2.2

  pick_at : HasHas T → (b : ℕ) (s : Set) (ws : List ℕ) (p : Piece) → Reads b 0 ws p → HasBits u s ws → Call T (rule.pick u) (set_of b s p ∷ [])
  pick_at found b s ws p reads bs ok known =
      let y = pick_some (sets.items s) ok in
      let there : sets.contains s y.0 ≡ true = sym (has_items s y.0) ∙ y.1 in
      call_by T (rule.pick u) (set_of b s p ∷ []) ((x : ℕ) × (sets.contains s x ≡ true)) _ _ _ (14 * u + 20) None p refl (plus-none p) (few_steps (14 * u + 20) _ (omega (arith, most))) (pick_law T u b (sets.len s) y.0 [] ws s p found most there reads bs)
      (λ x h hs. record {
        outs = thing (v.Nat x.0) (x.0 ∷ []) none ∷ [];
        outcome = gives_one (sets.items s) x.0 (is_item s x.0 x.1);
        related = (is_word x.0 (omega (arith, bs.bounded x.0 x.1, most)), none_whole, tt);
        registers = refl;
        piece = sym (plus-none p);
      })

  pick_row : HasHas T → RowLaw T (rule.pick u)
  pick_row found (t ∷ []) held = on_kept_bits u t.value t.words t.piece held.0 (λ x regs p. Call T (rule.pick u) (thing x regs p ∷ [])) (λ b s ws reads bs small. pick_at found b s ws t.piece reads bs)
  pick_row found [] held = absurd held
  pick_row found (t ∷ y ∷ ts) held = absurd held.2

  union_at : HasHas T → HasInsert T → (b : ℕ) (s : Set) (ws : List ℕ) → b < 2 ^ 64 → HasBits u s ws → (c : ℕ) (t : Set) (us : List ℕ) (k : Piece) → Reads c 0 us k → HasBits u t us → Call T (rule.union u) (set_of b s (block b ws) ∷ set_of c t k ∷ [])
  union_at has insert b s ws name bs c t us k reads cs ok known =
      let pass = passes (nat_le (2 ^ 32) (sets.len (sets.union s t))) (v.Set (sets.union s t) ∷ []) ok in
      let lt : sets.len (sets.union s t) < 2 ^ 32 = leb-false (2 ^ 32) (sets.len (sets.union s t)) pass.0 in
      call_by T (rule.union u) (set_of b s (block b ws) ∷ set_of c t k ∷ []) ((ws : List ℕ) × HasBits u (sets.union s t) ws) _ _ _ (28 * u + 5) None (plus (block b ws) k) refl (sym (beside (block b ws) k)) (few_steps (28 * u + 5) _ (omega (arith, most)))
      (union_law T u b c (sets.len t) [] ws us s t k has insert most lt bs reads cs)
      (λ x h hs. in_place (rule.union u) (set_of b s (block b ws) ∷ set_of c t k ∷ []) b (sets.union s t) x.0 (plus (block b x.0) k) name x.1 lt pass.1 refl (beside (block b x.0) k))

  union_row : HasHas T → HasInsert T → RowLaw T (rule.union u)
  union_row has insert (t ∷ y ∷ []) held =
      on_bits u t.value t.words t.piece held.0 held.1 (λ x regs p. Call T (rule.union u) (thing x regs p ∷ y ∷ []))
      (λ b s ws name bs small. on_kept_bits u y.value y.words y.piece held.2.0 (λ z rs q. Call T (rule.union u) (set_of b s (block b ws) ∷ thing z rs q ∷ [])) (λ c t us reads cs less. union_at has insert b s ws name bs c t us y.piece reads cs))
  union_row has insert [] held = absurd held
  union_row has insert (t ∷ []) held = absurd held.2
  union_row has insert (t ∷ y ∷ z ∷ ts) held = absurd held.2.2

  elems_at : HasHas T → (b : ℕ) (s : Set) (ws : List ℕ) (p : Piece) → Reads b 0 ws p → HasBits u s ws → IsSmall (sets.len s) → Call T (rule.elems u) (set_of b s p ∷ [])
  elems_at found b s ws p reads bs small ok known =
      let len = len_items s in
      let xs : List ℕ = sets.items s in
      let lt : length (sets.items s) < 2 ^ 32 = subst (λ z. z < 2 ^ 32) len small in
      call_by T (rule.elems u) (set_of b s p ∷ []) ℕ _ _ _ (17 * u + 6) (Some (sets.len s)) p refl (plus-none p) (few_steps (17 * u + 6) _ (omega (arith, most))) (elems_law T u b (sets.len s) [] ws s p found most reads bs (omega arith))
      (λ x h hs. record {
        outs = thing (v.List (sets.items s)) (x ∷ 0 ∷ length (sets.items s) ∷ []) (block x (sets.items s)) ∷ [];
        outcome = gives_order (sets.items s) lt;
        related = (is_array x (sets.items s) (name_word x (sets.items s) p h hs) (item_words s u bs.bounded most) lt, block_whole x (sets.items s), tt);
        registers = ap (λ z. x ∷ 0 ∷ z ∷ []) len;
        piece = beside (block x (sets.items s)) p;
      })

  elems_row : HasHas T → RowLaw T (rule.elems u)
  elems_row found (t ∷ []) held = on_kept_bits u t.value t.words t.piece held.0 (λ x regs p. Call T (rule.elems u) (thing x regs p ∷ [])) (λ b s ws reads bs small. elems_at found b s ws t.piece reads bs small)
  elems_row found [] held = absurd held
  elems_row found (t ∷ y ∷ ts) held = absurd held.2

  copy_at : HasCopy T → (b : ℕ) (s : Set) (ws : List ℕ) (p : Piece) → Reads b 0 ws p → HasBits u s ws → IsSmall (sets.len s) → Call T (rule.copy u) (set_of b s p ∷ [])
  copy_at found b s ws p reads bs small ok known =
      call_by T (rule.copy u) (set_of b s p ∷ []) ℕ _ _ _ (6 * length ws + 12) (Some ((u + 63) / 64)) p refl (plus-none p) (few_steps (6 * length ws + 12) _ (omega (arith, bs.size))) (copy_words_law T u b (sets.len s) ((u + 63) / 64) [] ws p found most reads bs.size (omega (arith, bs.size)))
      (λ x h hs. record {
        outs = set_of x s (block x ws) ∷ [];
        outcome = refl;
        related = (is_bits u x s ws (name_word x ws p h hs) bs small, block_whole x ws, tt);
        registers = refl;
        piece = beside (block x ws) p;
      })

  copy_row : HasCopy T → RowLaw T (rule.copy u)
  copy_row found (t ∷ []) held = on_kept_bits u t.value t.words t.piece held.0 (λ x regs p. Call T (rule.copy u) (thing x regs p ∷ [])) (λ b s ws reads bs small. copy_at found b s ws t.piece reads bs small)
  copy_row found [] held = absurd held
  copy_row found (t ∷ y ∷ ts) held = absurd held.2

bits_size : (u : ℕ) → RegisterLaw o.SizeSet (rep.Bits u) 1
bits_size u t h = on_kept_bits u t.value t.words t.piece h (λ x regs p. op_out o.SizeSet (x ∷ []) ≡ runs.Done (v.Nat (slice_index regs 1) ∷ [])) (λ b s ws r bs small. refl)

pub bits_rows : AllBitsRows
bits_rows T copy has insert u most = record {
  empty = empty_row T u most;
  size = bits_size u;
  has = has_row T u most;
  insert = insert_row T u most;
  remove = remove_row T u most has;
  pick = pick_row T u most has;
  union = union_row T u most has insert;
  elems = elems_row T u most has;
  copy = copy_row T u most copy;
}
