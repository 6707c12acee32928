-- The rows of maps below a bound.
use Rattle.std.proofs.Common.{◌≡◌, ℕ, ◌+◌, ◌*◌, ◌^◌, ◌<◌, true, List, [], ◌∷◌, length, replicate, refl, sym, ap, ◌∙◌, subst, arith, leb-false, Option, Some, None}
use Rattle.std.specs.FinMap as maps
use Rattle.std.specs.Option.{is_some}
use Rattle.std.specs.Ordering.{nat_cmp}
use Rattle.std.specs.Prelude.{slice_index, nat_le}
use Rattle.nres_core.specs.Ops.{op_out, found}
use Rattle.nres_core.specs.Runs as runs
use Rattle.nres_core.specs.Runs.{Gives, Fails}
use Rattle.nres_core.specs.declared.op.Op.TheVariants as o
use Rattle.nres_core.specs.declared.value.Value.{Value}
use Rattle.nres_core.specs.declared.value.Value.TheVariants as v
use Rattle.target_code.specs.declared.tree.Proc.{Proc}
use Rattle.target_code.specs.declared.tree.Rep.TheVariants as rep
use Rattle.target_meaning.specs.Piece.{Piece, none, plus, IsAllWhole}
use Rattle.target_meaning.proofs.Shares.{plus-none}
use Rattle.triple_logic.specs.Blocks.{block, Reads}
use Rattle.relations.specs.Blocks.{AreWords}
use Rattle.relations.specs.Represents.{Represents, Map, IsSmall, IsAmap, one_if}
use Rattle.row_laws.specs.Rows.{Thing, thing, values_of, Rule, kept, AreGiven, Given, RowLaw, RegisterLaw, Call}
use Rattle.row_laws.proofs.Arguments.{Claim, on_word, first_word, whole_block}
use Rattle.layout_facts.proofs.Contents.{block_reads}
use Rattle.row_laws.proofs.FromProcedures.{call_by, few_steps, passes, beside}
use Rattle.row_laws.proofs.Outcomes.{some_found, gives_order, fewer_keys, contains_at}
use Rattle.row_laws.proofs.Results.{is_word, is_flag, is_array, two_words, none_whole, block_exact, block_whole, name_word}
use Rattle.row_laws.proofs.Words.{small_word}
use Rattle.op_base.specs.Library.{HasCopy}
use Rattle.op_bits.specs.Maps.{HasKeys}
use Rattle.op_bits.specs.MapRules as rule
use Rattle.op_bits.specs.MapRules.{MapRows, AllMapRows}
use Rattle.op_bits.proofs.MapsLemmas.{empty_law, has_law, lookup_law, put_law, del_law, keys_law, copy_words_law}
use Rattle.op_bits.proofs.MapWords.{no_keys}
use Rattle.op_bits.proofs.Members.{len_keys, has_keys}

keys_in : (u : ℕ) (m : Map) (b n : ℕ) (p : Piece) (h : IsAmap u m b n p) → HasKeys u m h.block_words
keys_in u m b n p h = record { size = h.size; marks = h.marks; values = h.values; bounded = h.bounded; words = h.words }

module _ (u : ℕ) where
  on_map : (x : Value) (regs : List ℕ) (p : Piece) → Represents (rep.Amap u) x regs p → IsAllWhole p → (P : Claim) → ((b : ℕ) (m : Map) (ws : List ℕ) → b < 2 ^ 64 → HasKeys u m ws → IsSmall (maps.len m) → P (v.Map m) (b ∷ maps.len m ∷ []) (block b ws)) → P x regs p
  on_map (v.Map m) (b ∷ n ∷ []) p h w P f =
      subst (λ y. P (v.Map m) (b ∷ y ∷ []) p) (sym h.layout.count)
      (subst (P (v.Map m) (b ∷ maps.len m ∷ [])) (sym (whole_block b h.layout.block_words p h.layout.piece w)) (f b m h.layout.block_words (first_word b (n ∷ []) h.registers) (keys_in u m b n p h.layout) h.layout.small))
  on_map x regs p h w P f = absurd h.layout

  on_kept_map : (x : Value) (regs : List ℕ) (p : Piece) → Represents (rep.Amap u) x regs p → (P : Claim) → ((b : ℕ) (m : Map) (ws : List ℕ) → Reads b 0 ws p → HasKeys u m ws → IsSmall (maps.len m) → P (v.Map m) (b ∷ maps.len m ∷ []) p) → P x regs p
  on_kept_map (v.Map m) (b ∷ n ∷ []) p h P f =
      subst (λ y. P (v.Map m) (b ∷ y ∷ []) p) (sym h.layout.count) (f b m h.layout.block_words (block_reads b h.layout.block_words p h.layout.piece) (keys_in u m b n p h.layout) h.layout.small)
  on_kept_map x regs p h P f = absurd h.layout

  is_map : (b : ℕ) (m : Map) (ws : List ℕ) → b < 2 ^ 64 → HasKeys u m ws → IsSmall (maps.len m) → Represents (rep.Amap u) (v.Map m) (b ∷ maps.len m ∷ []) (block b ws)
  is_map b m ws name h small = record {
    registers = two_words b (maps.len m) name (small_word (maps.len m) small);
    layout = record { block_words = ws; piece = block_exact b ws; words = h.words; size = h.size; marks = h.marks; values = h.values; bounded = h.bounded; count = refl; small = small };
  }

key_words : (m : Map) (u : ℕ) → ((y : ℕ) → maps.contains_key m y ≡ true → y < u) → u < 2 ^ 32 → AreWords (maps.keys m)
key_words m u bounded most i lt =
    let below = bounded (slice_index (maps.keys m) i) (sym (has_keys m (slice_index (maps.keys m) i)) ∙ contains_at (maps.keys m) i lt) in
    omega (arith, below, most)

module _ (T : List Proc) (u : ℕ) (most : u < 2 ^ 32) where
  abbrev map_of : (b : ℕ) (m : Map) → Piece → Thing
  map_of b m p = thing (v.Map m) (b ∷ maps.len m ∷ []) p

  abbrev num : ℕ → Thing
  num i = thing (v.Nat i) (i ∷ []) none

  empty_at : Call T (rule.empty u) []
  empty_at ok known =
      let zero_len : maps.len (maps.empty {X = ℕ} {R = nat_cmp}) ≡ 0 = maps.len-empty nat_cmp ℕ in
      call_by T (rule.empty u) [] ℕ _ _ _ 3 (Some (2 * u)) none refl refl (few_steps 3 _ (omega arith)) (empty_law T u (2 * u) [] none most (omega arith))
      (λ x h hs. record {
        outs = map_of x maps.empty (block x (replicate (2 * u) 0)) ∷ [];
        outcome = refl;
        related = (is_map u x maps.empty (replicate (2 * u) 0) (name_word x (replicate (2 * u) 0) none h hs) (no_keys u) (subst (λ z. z < 2 ^ 32) (sym zero_len) (omega arith)), block_whole x (replicate (2 * u) 0), tt);
        registers = ap (λ z. x ∷ z ∷ []) (sym zero_len);
        piece = sym (plus-none (plus (block x (replicate (2 * u) 0)) none));
      })

  empty_row : RowLaw T (rule.empty u)
  empty_row [] held = empty_at
  empty_row (t ∷ ts) held = absurd held

  has_at : (b : ℕ) (m : Map) (ws : List ℕ) (p : Piece) → Reads b 0 ws p → HasKeys u m ws → (i : ℕ) → i < 2 ^ 64 → Call T (rule.has u) (map_of b m p ∷ num i ∷ [])
  has_at b m ws p reads ks i word ok known =
      call_by T (rule.has u) (map_of b m p ∷ num i ∷ []) (Unit {0}) _ _ _ 5 None p refl (plus-none p) (few_steps 5 _ (omega arith)) (has_law T u b (maps.len m) i [] ws m p most reads ks)
      (λ x h hs. record {
        outs = thing (v.Bool (maps.contains_key m i)) (one_if (maps.contains_key m i) ∷ []) none ∷ [];
        outcome = refl;
        related = (is_flag (maps.contains_key m i), none_whole, tt);
        registers = refl;
        piece = sym (plus-none p);
      })

  has_row : RowLaw T (rule.has u)
  has_row (t ∷ y ∷ []) held =
      on_kept_map u t.value t.words t.piece held.0 (λ x regs p. Call T (rule.has u) (thing x regs p ∷ y ∷ []))
      (λ b m ws reads ks small. on_word y.value y.words y.piece held.2.0 (λ z rs q. Call T (rule.has u) (map_of b m t.piece ∷ thing z rs q ∷ [])) (has_at b m ws t.piece reads ks))
  has_row [] held = absurd held
  has_row (t ∷ []) held = absurd held.2
  has_row (t ∷ y ∷ z ∷ ts) held = absurd held.2.2

  lookup_at : (b : ℕ) (m : Map) (ws : List ℕ) (p : Piece) → Reads b 0 ws p → HasKeys u m ws → (i : ℕ) → i < 2 ^ 64 → Call T (rule.lookup u) (map_of b m p ∷ num i ∷ [])
  lookup_at b m ws p reads ks i word ok known =
      let y = some_found (maps.get m i) ok in
      let lt : i < u = ks.bounded i (ap (λ (o : Option ℕ). is_some o) y.1) in
      let value : slice_index ws (2 * i + 1) ≡ y.0 = ks.values i y.0 lt y.1 in
      let small : y.0 < 2 ^ 64 = subst (λ z. z < 2 ^ 64) value (ks.words (2 * i + 1) (omega (arith, ks.size, lt))) in
      call_by T (rule.lookup u) (map_of b m p ∷ num i ∷ []) (Unit {0}) _ _ _ 5 None p refl (plus-none p) (few_steps 5 _ (omega arith)) (lookup_law T u b (maps.len m) i y.0 [] ws m p most y.1 reads ks)
      (λ x h hs. record {
        outs = thing (v.Nat y.0) (y.0 ∷ []) none ∷ [];
        outcome = subst (λ z. Gives (found z) (v.Nat y.0 ∷ [])) (sym y.1) refl;
        related = (is_word y.0 small, none_whole, tt);
        registers = refl;
        piece = sym (plus-none p);
      })

  lookup_row : RowLaw T (rule.lookup u)
  lookup_row (t ∷ y ∷ []) held =
      on_kept_map u t.value t.words t.piece held.0 (λ x regs p. Call T (rule.lookup u) (thing x regs p ∷ y ∷ []))
      (λ b m ws reads ks small. on_word y.value y.words y.piece held.2.0 (λ z rs q. Call T (rule.lookup u) (map_of b m t.piece ∷ thing z rs q ∷ [])) (lookup_at b m ws t.piece reads ks))
  lookup_row [] held = absurd held
  lookup_row (t ∷ []) held = absurd held.2
  lookup_row (t ∷ y ∷ z ∷ ts) held = absurd held.2.2

  -- the map that is given back, in its own block
  in_place : (R : Rule) (things : List Thing) (b : ℕ) (m : Map) (ws : List ℕ) → b < 2 ^ 64 → HasKeys u m ws → IsSmall (maps.len m) → Gives (op_out R.op (values_of things)) (v.Map m ∷ []) → R.gives ≡ rep.Amap u ∷ [] → plus (block b ws) none ≡ plus (plus (block b ws) none) (kept R.takes things) → Given R things (b ∷ maps.len m ∷ []) (plus (block b ws) none)
  in_place R things b m ws name ks small outcome gives piece = record {
    outs = map_of b m (block b ws) ∷ [];
    outcome = outcome;
    related = subst (λ y. AreGiven y (map_of b m (block b ws) ∷ [])) (sym gives) (is_map u b m ws name ks small, block_whole b ws, tt);
    registers = refl;
    piece = piece;
  }

  put_at : (b : ℕ) (m : Map) (ws : List ℕ) → b < 2 ^ 64 → HasKeys u m ws → IsSmall (maps.len m) → (i : ℕ) → i < 2 ^ 64 → (y : ℕ) → y < 2 ^ 64 → Call T (rule.put u) (map_of b m (block b ws) ∷ num i ∷ num y ∷ [])
  put_at b m ws name ks small i word y wide ok known =
      let pass = passes (nat_le (2 ^ 32) (maps.len (maps.insert m i y))) (v.Map (maps.insert m i y) ∷ []) ok in
      let lt : maps.len (maps.insert m i y) < 2 ^ 32 = leb-false (2 ^ 32) (maps.len (maps.insert m i y)) pass.0 in
      call_by T (rule.put u) (map_of b m (block b ws) ∷ num i ∷ num y ∷ []) ((ws : List ℕ) × HasKeys u (maps.insert m i y) ws) _ _ _ 9 None (plus (block b ws) none) refl (plus-none (plus (block b ws) none)) (few_steps 9 _ (omega arith)) (put_law T u b i y [] ws m none most known wide small ks)
      (λ x h hs. in_place (rule.put u) (map_of b m (block b ws) ∷ num i ∷ num y ∷ []) b (maps.insert m i y) x.0 name x.1 lt pass.1 refl (sym (plus-none (plus (block b x.0) none))))

  put_row : RowLaw T (rule.put u)
  put_row (t ∷ y ∷ z ∷ []) held =
      on_map u t.value t.words t.piece held.0 held.1 (λ x regs p. Call T (rule.put u) (thing x regs p ∷ y ∷ z ∷ []))
      (λ b m ws name ks small. on_word y.value y.words y.piece held.2.0 (λ e rs q. Call T (rule.put u) (map_of b m (block b ws) ∷ thing e rs q ∷ z ∷ []))
      (λ i li. on_word z.value z.words z.piece held.2.2.0 (λ e rs q. Call T (rule.put u) (map_of b m (block b ws) ∷ num i ∷ thing e rs q ∷ [])) (put_at b m ws name ks small i li)))
  put_row [] held = absurd held
  put_row (t ∷ []) held = absurd held.2
  put_row (t ∷ y ∷ []) held = absurd held.2.2
  put_row (t ∷ y ∷ z ∷ e ∷ ts) held = absurd held.2.2.2

  del_at : (b : ℕ) (m : Map) (ws : List ℕ) → b < 2 ^ 64 → HasKeys u m ws → IsSmall (maps.len m) → (i : ℕ) → i < 2 ^ 64 → Call T (rule.del u) (map_of b m (block b ws) ∷ num i ∷ [])
  del_at b m ws name ks small i word ok known =
      call_by T (rule.del u) (map_of b m (block b ws) ∷ num i ∷ []) ((ws : List ℕ) × HasKeys u (maps.remove m i) ws) _ _ _ 7 None (plus (block b ws) none) refl (plus-none (plus (block b ws) none)) (few_steps 7 _ (omega arith)) (del_law T u b i [] ws m none most small ks)
      (λ x h hs. in_place (rule.del u) (map_of b m (block b ws) ∷ num i ∷ []) b (maps.remove m i) x.0 name x.1 (fewer_keys m i small) refl refl (sym (plus-none (plus (block b x.0) none))))

  del_row : RowLaw T (rule.del u)
  del_row (t ∷ y ∷ []) held =
      on_map u t.value t.words t.piece held.0 held.1 (λ x regs p. Call T (rule.del u) (thing x regs p ∷ y ∷ []))
      (λ b m ws name ks small. on_word y.value y.words y.piece held.2.0 (λ e rs q. Call T (rule.del u) (map_of b m (block b ws) ∷ thing e rs q ∷ [])) (del_at b m ws name ks small))
  del_row [] held = absurd held
  del_row (t ∷ []) held = absurd held.2
  del_row (t ∷ y ∷ z ∷ ts) held = absurd held.2.2

  keys_at : (b : ℕ) (m : Map) (ws : List ℕ) (p : Piece) → Reads b 0 ws p → HasKeys u m ws → IsSmall (maps.len m) → Call T (rule.keys u) (map_of b m p ∷ [])
  keys_at b m ws p reads ks small ok known =
      let len = len_keys m in
      let lt : length (maps.keys m) < 2 ^ 32 = subst (λ z. z < 2 ^ 32) len small in
      call_by T (rule.keys u) (map_of b m p ∷ []) ℕ _ _ _ (8 * u + 6) (Some (maps.len m)) p refl (plus-none p) (few_steps (8 * u + 6) _ (omega arith)) (keys_law T u b (maps.len m) [] ws m p most reads ks (omega arith))
      (λ x h hs. record {
        outs = thing (v.List (maps.keys m)) (x ∷ 0 ∷ length (maps.keys m) ∷ []) (block x (maps.keys m)) ∷ [];
        outcome = gives_order (maps.keys m) lt;
        related = (is_array x (maps.keys m) (name_word x (maps.keys m) p h hs) (key_words m u ks.bounded most) lt, block_whole x (maps.keys m), tt);
        registers = ap (λ z. x ∷ 0 ∷ z ∷ []) len;
        piece = beside (block x (maps.keys m)) p;
      })

  keys_row : RowLaw T (rule.keys u)
  keys_row (t ∷ []) held = on_kept_map u t.value t.words t.piece held.0 (λ x regs p. Call T (rule.keys u) (thing x regs p ∷ [])) (λ b m ws reads ks small. keys_at b m ws t.piece reads ks small)
  keys_row [] held = absurd held
  keys_row (t ∷ y ∷ ts) held = absurd held.2

  copy_at : HasCopy T → (b : ℕ) (m : Map) (ws : List ℕ) (p : Piece) → Reads b 0 ws p → HasKeys u m ws → IsSmall (maps.len m) → Call T (rule.copy u) (map_of b m p ∷ [])
  copy_at found b m ws p reads ks small ok known =
      call_by T (rule.copy u) (map_of b m p ∷ []) ℕ _ _ _ (6 * length ws + 9) (Some (2 * u)) p refl (plus-none p) (few_steps (6 * length ws + 9) _ (omega (arith, ks.size))) (copy_words_law T u b (maps.len m) (2 * u) [] ws p found most reads ks.size (omega (arith, ks.size)))
      (λ x h hs. record {
        outs = map_of x m (block x ws) ∷ [];
        outcome = refl;
        related = (is_map u x m ws (name_word x ws p h hs) ks small, block_whole x ws, tt);
        registers = refl;
        piece = beside (block x ws) p;
      })

  copy_row : HasCopy T → RowLaw T (rule.copy u)
  copy_row found (t ∷ []) held = on_kept_map u t.value t.words t.piece held.0 (λ x regs p. Call T (rule.copy u) (thing x regs p ∷ [])) (λ b m ws reads ks small. copy_at found b m ws t.piece reads ks small)
  copy_row found [] held = absurd held
  copy_row found (t ∷ y ∷ ts) held = absurd held.2

map_size : (u : ℕ) → RegisterLaw o.SizeMap (rep.Amap u) 1
map_size u t h = on_kept_map u t.value t.words t.piece h (λ x regs p. op_out o.SizeMap (x ∷ []) ≡ runs.Done (v.Nat (slice_index regs 1) ∷ [])) (λ b m ws r ks small. refl)

pub map_rows : AllMapRows
map_rows T copy u most = record {
  empty = empty_row T u most;
  size = map_size u;
  has = has_row T u most;
  lookup = lookup_row T u most;
  put = put_row T u most;
  del = del_row T u most;
  keys = keys_row T u most;
  copy = copy_row T u most copy;
}
