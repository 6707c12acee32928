-- The rows of maps in hash tables.
use Rattle.std.proofs.Common.{◌≡◌, ℕ, ◌+◌, ◌*◌, ◌^◌, ◌<◌, true, false, List, [], ◌∷◌, length, refl, sym, ap, subst, arith, leb-false}
use Rattle.std.proofs.lemmas.List.Sorted.{length_permutation}
use Rattle.std.specs.FinMap as maps
use Rattle.std.specs.Ordering.{nat_cmp}
use Rattle.std.specs.Prelude.{slice_index, nat_le, Option, Some, None, is_some}
use Rattle.nres_core.specs.Ops.{op_out, found}
use Rattle.nres_core.specs.Runs as runs
use Rattle.nres_core.specs.Runs.{Gives}
use Rattle.nres_core.specs.declared.op.Op.TheVariants as o
use Rattle.nres_core.specs.declared.value.Value.{Value}
use Rattle.nres_core.specs.declared.value.Value.TheVariants as v
use Rattle.target_code.specs.declared.tree.Proc.{Proc}
use Rattle.target_code.specs.declared.tree.Rep.TheVariants as rep
use Rattle.target_meaning.specs.Piece.{Piece, none, plus, IsAllWhole}
use Rattle.target_meaning.proofs.Shares.{plus-none}
use Rattle.triple_logic.specs.Blocks.{block, Reads}
use Rattle.relations.specs.Blocks.{AreWords}
use Rattle.relations.specs.Represents.{Represents, Map, IsSmall, IsTable, one_if}
use Rattle.layout_facts.proofs.Contents.{block_reads}
use Rattle.row_laws.specs.Rows.{Thing, thing, RowLaw, RegisterLaw, Call}
use Rattle.row_laws.proofs.Arguments.{Claim, on_word, first_word, whole_block}
use Rattle.row_laws.proofs.FromProcedures.{call_by, few_steps, passes, beside}
use Rattle.row_laws.proofs.Outcomes.{some_found, gives_any_order, fewer_keys}
use Rattle.row_laws.proofs.Results.{is_word, is_flag, is_array, none_whole, block_exact, block_whole, name_word, length_word}
use Rattle.row_laws.proofs.Words.{small_word}
use Rattle.op_base.specs.Library.{HasCopy}
use Rattle.op_hash.specs.Tables.{HasValues, NewTable, Inserted, put_value, keys_of}
use Rattle.op_hash.specs.Laws.{HasFind, HasKeys, Removed, Looked, find_steps, keys_steps, insert_steps}
use Rattle.op_hash.specs.Rules as rule
use Rattle.op_hash.specs.Rules.{growth, HmapRows, AllHmapRows, HasMapMove}
use Rattle.op_hash.proofs.Insert.{put_law}
use Rattle.op_hash.proofs.Keys.{each_law, key_words_law}
use Rattle.op_hash.proofs.Sizes.{map_keys_law}
use Rattle.op_hash.proofs.Small.{hmap_empty_law, hmap_has_law, lookup_law, hmap_del_law, hmap_copy_law, hmap_keys_law}
use Rattle.op_hash.proofs.Values.{maps_as_tests}
use Rattle.op_hash.proofs.HsetRows.{four, slots_most, growth_claims, many_steps}

-- ---- maps as arguments and as results

-- a table of the keys, each with its value
record IsMapTable (m : Map) (cap n used : ℕ) (ws : List ℕ) : Type 0 where
  words : AreWords ws
  table : IsTable 3 ws (maps.contains_key m) cap n used
  values : HasValues 3 ws cap (maps.get m)
  small : IsSmall (maps.len m)

on_hmap : (x : Value) (regs : List ℕ) (p : Piece) → Represents rep.Hmap x regs p → IsAllWhole p → (P : Claim) → ((b cap n used : ℕ) (m : Map) (ws : List ℕ) → b < 2 ^ 64 → IsMapTable m cap n used ws → P (v.Map m) (b ∷ cap ∷ n ∷ used ∷ []) (block b ws)) → P x regs p
on_hmap (v.Map m) (b ∷ cap ∷ n ∷ used ∷ []) p h w P f =
    subst (P (v.Map m) (b ∷ cap ∷ n ∷ used ∷ [])) (sym (whole_block b h.layout.block_words p h.layout.piece w))
    (f b cap n used m h.layout.block_words (first_word b (cap ∷ n ∷ used ∷ []) h.registers) (record { words = h.layout.words; table = h.layout.table; values = λ three i li full. h.layout.values i li full; small = h.layout.small }))
on_hmap x regs p h w P f = absurd h.layout

on_kept_hmap : (x : Value) (regs : List ℕ) (p : Piece) → Represents rep.Hmap x regs p → (P : Claim) → ((b cap n used : ℕ) (m : Map) (ws : List ℕ) → Reads b 0 ws p → IsMapTable m cap n used ws → P (v.Map m) (b ∷ cap ∷ n ∷ used ∷ []) p) → P x regs p
on_kept_hmap (v.Map m) (b ∷ cap ∷ n ∷ used ∷ []) p h P f =
    f b cap n used m h.layout.block_words (block_reads b h.layout.block_words p h.layout.piece) (record { words = h.layout.words; table = h.layout.table; values = λ three i li full. h.layout.values i li full; small = h.layout.small })
on_kept_hmap x regs p h P f = absurd h.layout

is_hmap : (m : Map) (b cap n used : ℕ) (ws : List ℕ) → b < 2 ^ 64 → length ws < 2 ^ 64 → IsMapTable m cap n used ws → Represents rep.Hmap (v.Map m) (b ∷ cap ∷ n ∷ used ∷ []) (block b ws)
is_hmap m b cap n used ws name short h =
    let most = slots_most 3 cap n used ws (maps.contains_key m) (omega arith) h.table in
    let len : n ≡ maps.len m = (map_keys_law m 3 cap n used ws h.table).1 in
    record {
      registers = four b cap n used name (omega (arith, most, short)) (subst (λ y. y < 2 ^ 64) (sym len) (small_word (maps.len m) h.small)) (omega (arith, most, short, h.table.open_slot));
      layout = record { block_words = ws; piece = block_exact b ws; words = h.words; table = h.table; values = λ i li full. h.values (omega arith) i li full; small = h.small };
    }

module _ (T : List Proc) where
  abbrev map_of : (b cap n used : ℕ) (m : Map) → Piece → Thing
  map_of b cap n used m p = thing (v.Map m) (b ∷ cap ∷ n ∷ used ∷ []) p

  abbrev num : ℕ → Thing
  num i = thing (v.Nat i) (i ∷ []) none

  empty_at : Call T rule.map_empty []
  empty_at ok known =
      let zero_len : maps.len (maps.empty {X = ℕ} {R = nat_cmp}) ≡ 0 = maps.len-empty nat_cmp ℕ in
      call_by T rule.map_empty [] (NewTable 3 8 0 0 (λ x. false) (λ x. None)) _ _ _ 4 (Some 24) none refl refl (few_steps 4 (0 + 24) (omega arith)) (hmap_empty_law T 24 [] none (omega arith))
      (λ x h hs. record {
        outs = map_of x.name 8 0 0 maps.empty (block x.name x.words) ∷ [];
        outcome = refl;
        related = (
          is_hmap maps.empty x.name 8 0 0 x.words (name_word x.name x.words none h hs) x.short (record {
            words = x.are_words;
            table = subst (λ f. IsTable 3 x.words f 8 0 0) (sym maps_as_tests.none) x.table;
            values = subst (λ f. HasValues 3 x.words 8 f) (sym maps_as_tests.no_value) x.values;
            small = subst (λ z. z < 2 ^ 32) (sym zero_len) (omega arith);
          }),
          block_whole x.name x.words,
          tt,
        );
        registers = refl;
        piece = sym (plus-none (plus (block x.name x.words) none));
      })

  empty_row : RowLaw T rule.map_empty
  empty_row [] held = empty_at
  empty_row (t ∷ ts) held = absurd held

  has_at : HasFind T → (b cap n used : ℕ) (m : Map) (ws : List ℕ) (p : Piece) → Reads b 0 ws p → IsMapTable m cap n used ws → (i : ℕ) → i < 2 ^ 64 → Call T rule.map_has (map_of b cap n used m p ∷ num i ∷ [])
  has_at find b cap n used m ws p reads is i word ok known =
      call_by T rule.map_has (map_of b cap n used m p ∷ num i ∷ []) (Unit {0}) _ _ _ (find_steps cap + 3) None p refl (plus-none p) (few_steps (find_steps cap + 3) _ (omega arith)) (hmap_has_law T b cap n used i [] ws (maps.contains_key m) p find reads is.table)
      (λ x h hs. record {
        outs = thing (v.Bool (maps.contains_key m i)) (one_if (maps.contains_key m i) ∷ []) none ∷ [];
        outcome = refl;
        related = (is_flag (maps.contains_key m i), none_whole, tt);
        registers = refl;
        piece = sym (plus-none p);
      })

  has_row : HasFind T → RowLaw T rule.map_has
  has_row find (t ∷ y ∷ []) held =
      on_kept_hmap t.value t.words t.piece held.0 (λ x regs p. Call T rule.map_has (thing x regs p ∷ y ∷ []))
      (λ b cap n used m ws reads is. on_word y.value y.words y.piece held.2.0 (λ z rs q. Call T rule.map_has (map_of b cap n used m t.piece ∷ thing z rs q ∷ [])) (has_at find b cap n used m ws t.piece reads is))
  has_row find [] held = absurd held
  has_row find (t ∷ []) held = absurd held.2
  has_row find (t ∷ y ∷ z ∷ ts) held = absurd held.2.2

  lookup_at : HasFind T → (b cap n used : ℕ) (m : Map) (ws : List ℕ) (p : Piece) → Reads b 0 ws p → IsMapTable m cap n used ws → (i : ℕ) → i < 2 ^ 64 → Call T rule.map_lookup (map_of b cap n used m p ∷ num i ∷ [])
  lookup_at find b cap n used m ws p reads is i word ok known =
      let y = some_found (maps.get m i) ok in
      let there : maps.contains_key m i ≡ true = ap (λ (o : Option ℕ). is_some o) y.1 in
      call_by T rule.map_lookup (map_of b cap n used m p ∷ num i ∷ []) (Looked i (maps.get m)) _ _ _ (find_steps cap + 6) None p refl (plus-none p) (few_steps (find_steps cap + 6) _ (omega arith))
      (lookup_law T b cap n used i [] ws (maps.contains_key m) (maps.get m) p find reads is.table is.values there is.words)
      (λ x h hs. record {
        outs = thing (v.Nat x.value) (x.value ∷ []) none ∷ [];
        outcome = subst (λ z. Gives (found z) (v.Nat x.value ∷ [])) (sym x.at_key) refl;
        related = (is_word x.value x.is_word, none_whole, tt);
        registers = refl;
        piece = sym (plus-none p);
      })

  lookup_row : HasFind T → RowLaw T rule.map_lookup
  lookup_row find (t ∷ y ∷ []) held =
      on_kept_hmap t.value t.words t.piece held.0 (λ x regs p. Call T rule.map_lookup (thing x regs p ∷ y ∷ []))
      (λ b cap n used m ws reads is. on_word y.value y.words y.piece held.2.0 (λ z rs q. Call T rule.map_lookup (map_of b cap n used m t.piece ∷ thing z rs q ∷ [])) (lookup_at find b cap n used m ws t.piece reads is))
  lookup_row find [] held = absurd held
  lookup_row find (t ∷ []) held = absurd held.2
  lookup_row find (t ∷ y ∷ z ∷ ts) held = absurd held.2.2

  put_at : HasFind T → HasMapMove T → (b cap n used : ℕ) (m : Map) (ws : List ℕ) → IsMapTable m cap n used ws → (i : ℕ) → i < 2 ^ 64 → (y : ℕ) → y < 2 ^ 64 → Call T rule.map_put (map_of b cap n used m (block b ws) ∷ num i ∷ num y ∷ [])
  put_at find move b cap n used m ws is i word y wide ok known =
      let pass = passes (nat_le (2 ^ 32) (maps.len (maps.insert m i y))) (v.Map (maps.insert m i y) ∷ []) ok in
      let lt : maps.len (maps.insert m i y) < 2 ^ 32 = leb-false (2 ^ 32) (maps.len (maps.insert m i y)) pass.0 in
      let len : n ≡ maps.len m = (map_keys_law m 3 cap n used ws is.table).1 in
      call_by T rule.map_put (map_of b cap n used m (block b ws) ∷ num i ∷ num y ∷ []) (Inserted 3 n i (maps.contains_key m) (put_value (maps.get m) i y)) _ _ _ (insert_steps cap) (growth 3 (maps.contains_key m i) (b ∷ cap ∷ n ∷ used ∷ i ∷ y ∷ [])) (plus (block b ws) none) refl
      (plus-none (plus (block b ws) none)) (many_steps cap _ (omega arith))
      (put_law T b cap n used i y _ [] ws (maps.contains_key m) (maps.get m) none find move is.table is.values (subst (λ z. z < 2 ^ 32) (sym len) is.small) is.words word wide (growth_claims 3 cap used i (maps.contains_key m) b n (i ∷ y ∷ [])))
      (λ x h hs. record {
        outs = map_of x.name x.cap x.keys x.used (maps.insert m i y) (block x.name x.words) ∷ [];
        outcome = pass.1;
        related = (
          is_hmap (maps.insert m i y) x.name x.cap x.keys x.used x.words (name_word x.name x.words none h hs) x.short (record {
            words = x.are_words;
            table = subst (λ f. IsTable 3 x.words f x.cap x.keys x.used) (sym (maps_as_tests.more m i y)) x.table;
            values = subst (λ f. HasValues 3 x.words x.cap f) (sym (maps_as_tests.more_values m i y)) x.values;
            small = lt;
          }),
          block_whole x.name x.words,
          tt,
        );
        registers = refl;
        piece = sym (plus-none (plus (block x.name x.words) none));
      })

  put_row : HasFind T → HasMapMove T → RowLaw T rule.map_put
  put_row find move (t ∷ y ∷ z ∷ []) held =
      on_hmap t.value t.words t.piece held.0 held.1 (λ x regs p. Call T rule.map_put (thing x regs p ∷ y ∷ z ∷ []))
      (λ b cap n used m ws name is. on_word y.value y.words y.piece held.2.0 (λ e rs q. Call T rule.map_put (map_of b cap n used m (block b ws) ∷ thing e rs q ∷ z ∷ []))
      (λ i li. on_word z.value z.words z.piece held.2.2.0 (λ e rs q. Call T rule.map_put (map_of b cap n used m (block b ws) ∷ num i ∷ thing e rs q ∷ [])) (put_at find move b cap n used m ws is i li)))
  put_row find move [] held = absurd held
  put_row find move (t ∷ []) held = absurd held.2
  put_row find move (t ∷ y ∷ []) held = absurd held.2.2
  put_row find move (t ∷ y ∷ z ∷ e ∷ ts) held = absurd held.2.2.2

  del_at : HasFind T → (b cap n used : ℕ) (m : Map) (ws : List ℕ) → b < 2 ^ 64 → IsMapTable m cap n used ws → (i : ℕ) → i < 2 ^ 64 → Call T rule.map_del (map_of b cap n used m (block b ws) ∷ num i ∷ [])
  del_at find b cap n used m ws name is i word ok known =
      call_by T rule.map_del (map_of b cap n used m (block b ws) ∷ num i ∷ []) (Removed 3 cap n used i (maps.contains_key m) (maps.get m)) _ _ _ (find_steps cap + 7) None (plus (block b ws) none) refl
      (plus-none (plus (block b ws) none)) (few_steps (find_steps cap + 7) _ (omega arith))
      (hmap_del_law T b cap n used i [] ws (maps.contains_key m) (maps.get m) none find is.table is.values is.words)
      (λ x h hs. record {
        outs = map_of b cap x.keys used (maps.remove m i) (block b x.words) ∷ [];
        outcome = refl;
        related = (
          is_hmap (maps.remove m i) b cap x.keys used x.words name (length_word b x.words none h hs) (record {
            words = x.are_words;
            table = subst (λ f. IsTable 3 x.words f cap x.keys used) (sym (maps_as_tests.less m i)) x.table;
            values = subst (λ f. HasValues 3 x.words cap f) (sym (maps_as_tests.fewer_values m i)) x.values;
            small = fewer_keys m i is.small;
          }),
          block_whole b x.words,
          tt,
        );
        registers = refl;
        piece = sym (plus-none (plus (block b x.words) none));
      })

  del_row : HasFind T → RowLaw T rule.map_del
  del_row find (t ∷ y ∷ []) held =
      on_hmap t.value t.words t.piece held.0 held.1 (λ x regs p. Call T rule.map_del (thing x regs p ∷ y ∷ []))
      (λ b cap n used m ws name is. on_word y.value y.words y.piece held.2.0 (λ z rs q. Call T rule.map_del (map_of b cap n used m (block b ws) ∷ thing z rs q ∷ [])) (del_at find b cap n used m ws name is))
  del_row find [] held = absurd held
  del_row find (t ∷ []) held = absurd held.2
  del_row find (t ∷ y ∷ z ∷ ts) held = absurd held.2.2

  keys_at : HasKeys T → (b cap n used : ℕ) (m : Map) (ws : List ℕ) (p : Piece) → Reads b 0 ws p → IsMapTable m cap n used ws → Call T rule.map_keys (map_of b cap n used m p ∷ [])
  keys_at found b cap n used m ws p reads is ok known =
      let perm = (map_keys_law m 3 cap n used ws is.table).0 in
      let same = length_permutation (maps.keys m) (keys_of 3 ws cap) perm in
      let len : length (keys_of 3 ws cap) ≡ n = (each_law 3 cap n used ws (maps.contains_key m) is.table).0 in
      let size : n ≡ maps.len m = (map_keys_law m 3 cap n used ws is.table).1 in
      let lt : length (keys_of 3 ws cap) < 2 ^ 32 = omega (arith, len, size, is.small) in
      call_by T rule.map_keys (map_of b cap n used m p ∷ []) ℕ _ _ _ (keys_steps cap + 3) (Some n) p refl (plus-none p) (few_steps (keys_steps cap + 3) _ (omega arith))
      (hmap_keys_law T b cap n used n [] ws (maps.contains_key m) p found reads is.table (omega arith))
      (λ x h hs. record {
        outs = thing (v.List (keys_of 3 ws cap)) (x ∷ 0 ∷ length (keys_of 3 ws cap) ∷ []) (block x (keys_of 3 ws cap)) ∷ [];
        outcome = gives_any_order (maps.keys m) (keys_of 3 ws cap) perm (omega (arith, lt, same));
        related = (
          is_array x (keys_of 3 ws cap) (name_word x (keys_of 3 ws cap) p h hs) (key_words_law 3 cap n used ws (maps.contains_key m) (omega arith) is.table is.words) lt,
          block_whole x (keys_of 3 ws cap),
          tt,
        );
        registers = ap (λ z. x ∷ 0 ∷ z ∷ []) (sym len);
        piece = beside (block x (keys_of 3 ws cap)) p;
      })

  keys_row : HasKeys T → RowLaw T rule.map_keys
  keys_row found (t ∷ []) held = on_kept_hmap t.value t.words t.piece held.0 (λ x regs p. Call T rule.map_keys (thing x regs p ∷ [])) (λ b cap n used m ws. keys_at found b cap n used m ws t.piece)
  keys_row found [] held = absurd held
  keys_row found (t ∷ y ∷ ts) held = absurd held.2

  copy_at : HasCopy T → (b cap n used : ℕ) (m : Map) (ws : List ℕ) (p : Piece) → Reads b 0 ws p → IsMapTable m cap n used ws → Call T rule.map_copy (map_of b cap n used m p ∷ [])
  copy_at found b cap n used m ws p reads is ok known =
      call_by T rule.map_copy (map_of b cap n used m p ∷ []) ℕ _ _ _ (6 * length ws + 10) (Some (3 * cap)) p refl (plus-none p) (few_steps (6 * length ws + 10) _ (omega (arith, is.table.size)))
      (hmap_copy_law T b cap n used (3 * cap) [] ws p found reads is.table.size (omega (arith, is.table.open_slot)) (omega arith))
      (λ x h hs. record {
        outs = map_of x cap n used m (block x ws) ∷ [];
        outcome = refl;
        related = (is_hmap m x cap n used ws (name_word x ws p h hs) (length_word x ws p h hs) is, block_whole x ws, tt);
        registers = refl;
        piece = beside (block x ws) p;
      })

  copy_row : HasCopy T → RowLaw T rule.map_copy
  copy_row found (t ∷ []) held = on_kept_hmap t.value t.words t.piece held.0 (λ x regs p. Call T rule.map_copy (thing x regs p ∷ [])) (λ b cap n used m ws. copy_at found b cap n used m ws t.piece)
  copy_row found [] held = absurd held
  copy_row found (t ∷ y ∷ ts) held = absurd held.2

map_size : RegisterLaw o.SizeMap rep.Hmap 2
map_size t h =
    on_kept_hmap t.value t.words t.piece h (λ x regs p. op_out o.SizeMap (x ∷ []) ≡ runs.Done (v.Nat (slice_index regs 2) ∷ []))
    (λ b cap n used m ws r is. ap (λ y. runs.Done (v.Nat y ∷ [])) (sym (map_keys_law m 3 cap n used ws is.table).1))

pub hmap_rows : AllHmapRows
hmap_rows T copy find keys move = record {
  empty = empty_row T;
  size = map_size;
  has = has_row T find;
  lookup = lookup_row T find;
  put = put_row T find move;
  del = del_row T find;
  keys = keys_row T keys;
  copy = copy_row T copy;
}
