-- The rows of sets in hash tables, and what those of maps share with them.
use Rattle.std.proofs.Common.{◌≡◌, ℕ, ◌+◌, ◌*◌, ◌/◌, ◌^◌, ◌<◌, ◌≤◌, Bool, false, List, [], ◌∷◌, length, refl, sym, ap, ◌∙◌, subst, arith, leb-false, le-ltb}
use Rattle.std.proofs.Math.Nat.{mul-le-mul_left, mul-le-mul_right}
use Rattle.std.proofs.lemmas.Bool.{cond-true, cond-false, lt-ltb}
use Rattle.std.proofs.lemmas.List.Sorted.{length_permutation}
use Rattle.std.specs.Ordering.{nat_cmp}
use Rattle.std.specs.Prelude.{slice_index, nat_le, nat_lt, Option, Some, None, option_to_list}
use Rattle.containers.specs.Sets as sets
use Rattle.nres_core.specs.Ops.{op_out, one_of}
use Rattle.nres_core.specs.Runs as runs
use Rattle.nres_core.specs.Runs.{Gives, Fails}
use Rattle.nres_core.specs.declared.op.Op.TheVariants as o
use Rattle.nres_core.specs.declared.value.Value.{Value}
use Rattle.nres_core.specs.declared.value.Value.TheVariants as v
use Rattle.target_code.specs.declared.tree.Proc.{Proc}
use Rattle.target_code.specs.declared.tree.Rep.TheVariants as rep
use Rattle.target_meaning.specs.Piece.{Piece, none, plus, IsAllWhole}
use Rattle.target_meaning.proofs.Shares.{plus-none}
use Rattle.triple_logic.specs.Blocks.{block, Reads}
use Rattle.relations.specs.Blocks.{AreWords}
use Rattle.relations.specs.Represents.{Represents, Set, IsSmall, IsTable, one_if}
use Rattle.relations.proofs.Small.{word_first}
use Rattle.layout_facts.proofs.Contents.{block_reads}
use Rattle.row_laws.specs.Rows.{Thing, thing, RowLaw, RegisterLaw, Call, most_steps}
use Rattle.row_laws.proofs.Arguments.{Claim, on_word, first_word, whole_block}
use Rattle.row_laws.proofs.FromProcedures.{call_by, few_steps, passes, beside}
use Rattle.row_laws.proofs.Outcomes.{gives_one, gives_any_order, is_item, fewer_elements}
use Rattle.row_laws.proofs.Results.{is_word, is_flag, is_array, none_whole, block_exact, block_whole, name_word, length_word}
use Rattle.row_laws.proofs.Words.{no_words, small_word}
use Rattle.op_base.specs.Library.{HasCopy}
use Rattle.op_hash.specs.Tables.{NewTable, Inserted, keys_of}
use Rattle.op_hash.specs.Laws.{HasFind, HasKeys, Claims, Removed, Picked, find_steps, keys_steps, insert_steps}
use Rattle.op_hash.specs.Rules as rule
use Rattle.op_hash.specs.Rules.{growth, HsetRows, AllHsetRows, HasSetMove}
use Rattle.op_hash.proofs.Insert.{insert_law}
use Rattle.op_hash.proofs.Keys.{each_law, key_words_law}
use Rattle.op_hash.proofs.Sizes.{set_keys_law}
use Rattle.op_hash.proofs.Small.{hset_empty_law, hset_has_law, hset_remove_law, hset_copy_law, hset_elems_law, pick_law}
use Rattle.op_hash.proofs.Values.{sets_as_tests}

-- ---- registers

pub four : (a b c d : ℕ) → a < 2 ^ 64 → b < 2 ^ 64 → c < 2 ^ 64 → d < 2 ^ 64 → AreWords (a ∷ b ∷ c ∷ d ∷ [])
four a b c d x y z w = word_first a (b ∷ c ∷ d ∷ []) x (word_first b (c ∷ d ∷ []) y (word_first c (d ∷ []) z (word_first d [] w no_words)))

-- a table's slots are no more than its words
pub slots_most : (w cap n used : ℕ) (ws : List ℕ) (has : ℕ → Bool) → 1 ≤ w → IsTable w ws has cap n used → cap ≤ length ws
slots_most w cap n used ws has le table =
    let more : 1 * cap ≤ w * cap = mul-le-mul_right cap le in
    omega (arith, more, table.size)

-- ---- the growth of a table, as the rows say it

module _ (w cap used x : ℕ) (has : ℕ → Bool) (b n : ℕ) (regs : List ℕ) where
  abbrev grown : Bool → Option ℕ
  grown there = growth w there (b ∷ cap ∷ n ∷ used ∷ regs)

  pub growth_claims : Claims w cap used x has (option_to_list (grown (has x))) []
  growth_claims = record {
    old = λ e. ap option_to_list (cond-true (has x) None _ e);
    room = λ e lt. ap option_to_list (cond-false (has x) None _ e ∙ cond-true (nat_lt used (3 * (cap / 4))) None _ (lt-ltb used (3 * (cap / 4)) lt));
    grow = λ e le. ap option_to_list (cond-false (has x) None _ e ∙ cond-false (nat_lt used (3 * (cap / 4))) None _ (le-ltb used (3 * (cap / 4)) le));
  }

-- the steps of an insertion are within the square
pub many_steps : (cap w : ℕ) → 2 * cap ≤ w → insert_steps cap ≤ most_steps w
many_steps cap w le =
    let up : cap + 1 ≤ w + 1 = omega (arith, le) in
    let left : (cap + 1) * (cap + 1) ≤ (cap + 1) * (w + 1) = mul-le-mul_left (cap + 1) up in
    let right : (cap + 1) * (w + 1) ≤ (w + 1) * (w + 1) = mul-le-mul_right (w + 1) up in
    let square : (cap + 1) * (cap + 1) ≡ cap * cap + 2 * cap + 1 = omega arith in
    let steps : cap * (48 * cap + 40) + 72 * cap + 110 ≡ 48 * (cap * cap) + 112 * cap + 110 = omega arith in
    omega (arith, left, right, square, steps)

-- ---- sets as arguments and as results

on_hset : (x : Value) (regs : List ℕ) (p : Piece) → Represents rep.Hset x regs p → IsAllWhole p → (P : Claim) → ((b cap n used : ℕ) (s : Set) (ws : List ℕ) → b < 2 ^ 64 → AreWords ws → IsTable 2 ws (sets.contains s) cap n used → IsSmall (sets.len s) → P (v.Set s) (b ∷ cap ∷ n ∷ used ∷ []) (block b ws)) → P x regs p
on_hset (v.Set s) (b ∷ cap ∷ n ∷ used ∷ []) p h w P f =
    subst (P (v.Set s) (b ∷ cap ∷ n ∷ used ∷ [])) (sym (whole_block b h.layout.block_words p h.layout.piece w))
    (f b cap n used s h.layout.block_words (first_word b (cap ∷ n ∷ used ∷ []) h.registers) h.layout.words h.layout.table h.layout.small)
on_hset x regs p h w P f = absurd h.layout

on_kept_hset : (x : Value) (regs : List ℕ) (p : Piece) → Represents rep.Hset x regs p → (P : Claim) → ((b cap n used : ℕ) (s : Set) (ws : List ℕ) → Reads b 0 ws p → AreWords ws → IsTable 2 ws (sets.contains s) cap n used → IsSmall (sets.len s) → P (v.Set s) (b ∷ cap ∷ n ∷ used ∷ []) p) → P x regs p
on_kept_hset (v.Set s) (b ∷ cap ∷ n ∷ used ∷ []) p h P f =
    f b cap n used s h.layout.block_words (block_reads b h.layout.block_words p h.layout.piece) h.layout.words h.layout.table h.layout.small
on_kept_hset x regs p h P f = absurd h.layout

is_hset : (s : Set) (b cap n used : ℕ) (ws : List ℕ) → b < 2 ^ 64 → AreWords ws → length ws < 2 ^ 64 → IsTable 2 ws (sets.contains s) cap n used → IsSmall (sets.len s) → Represents rep.Hset (v.Set s) (b ∷ cap ∷ n ∷ used ∷ []) (block b ws)
is_hset s b cap n used ws name words short table small =
    let most = slots_most 2 cap n used ws (sets.contains s) (omega arith) table in
    let len : n ≡ sets.len s = (set_keys_law s 2 cap n used ws table).1 in
    record {
      registers = four b cap n used name (omega (arith, most, short)) (subst (λ y. y < 2 ^ 64) (sym len) (small_word (sets.len s) small)) (omega (arith, most, short, table.open_slot));
      layout = record { block_words = ws; piece = block_exact b ws; words = words; table = table; small = small };
    }

pub some_one : (xs : List ℕ) → ¬ Fails (one_of xs) → 1 ≤ length xs
some_one [] ok = absurd (ok tt)
some_one (x ∷ xs) ok = omega arith

module _ (T : List Proc) where
  abbrev set_of : (b cap n used : ℕ) (s : Set) → Piece → Thing
  set_of b cap n used s p = thing (v.Set s) (b ∷ cap ∷ n ∷ used ∷ []) p

  abbrev num : ℕ → Thing
  num i = thing (v.Nat i) (i ∷ []) none

  abbrev no_values : ℕ → Option ℕ
  no_values y = None

  empty_at : Call T rule.set_empty []
  empty_at ok known =
      let zero_len : sets.len (sets.empty {R = nat_cmp}) ≡ 0 = sets.len-empty nat_cmp in
      call_by T rule.set_empty [] (NewTable 2 8 0 0 (λ x. false) no_values) _ _ _ 4 (Some 16) none refl refl (few_steps 4 (0 + 16) (omega arith)) (hset_empty_law T 16 [] none (omega arith))
      (λ x h hs. record {
        outs = set_of x.name 8 0 0 sets.empty (block x.name x.words) ∷ [];
        outcome = refl;
        related = (
          is_hset sets.empty x.name 8 0 0 x.words (name_word x.name x.words none h hs) x.are_words x.short (subst (λ f. IsTable 2 x.words f 8 0 0) (sym sets_as_tests.none) x.table) (subst (λ z. z < 2 ^ 32) (sym zero_len) (omega arith)),
          block_whole x.name x.words,
          tt,
        );
        registers = refl;
        piece = sym (plus-none (plus (block x.name x.words) none));
      })

  empty_row : RowLaw T rule.set_empty
  empty_row [] held = empty_at
  empty_row (t ∷ ts) held = absurd held

  has_at : HasFind T → (b cap n used : ℕ) (s : Set) (ws : List ℕ) (p : Piece) → Reads b 0 ws p → IsTable 2 ws (sets.contains s) cap n used → (i : ℕ) → i < 2 ^ 64 → Call T rule.set_has (set_of b cap n used s p ∷ num i ∷ [])
  has_at find b cap n used s ws p reads table i word ok known =
      call_by T rule.set_has (set_of b cap n used s p ∷ num i ∷ []) (Unit {0}) _ _ _ (find_steps cap + 3) None p refl (plus-none p) (few_steps (find_steps cap + 3) _ (omega arith)) (hset_has_law T b cap n used i [] ws (sets.contains s) p find reads table)
      (λ x h hs. record {
        outs = thing (v.Bool (sets.contains s i)) (one_if (sets.contains s i) ∷ []) none ∷ [];
        outcome = refl;
        related = (is_flag (sets.contains s i), none_whole, tt);
        registers = refl;
        piece = sym (plus-none p);
      })

  has_row : HasFind T → RowLaw T rule.set_has
  has_row find (t ∷ y ∷ []) held =
      on_kept_hset t.value t.words t.piece held.0 (λ x regs p. Call T rule.set_has (thing x regs p ∷ y ∷ []))
      (λ b cap n used s ws reads words table small. on_word y.value y.words y.piece held.2.0 (λ z rs q. Call T rule.set_has (set_of b cap n used s t.piece ∷ thing z rs q ∷ [])) (has_at find b cap n used s ws t.piece reads table))
  has_row find [] held = absurd held
  has_row find (t ∷ []) held = absurd held.2
  has_row find (t ∷ y ∷ z ∷ ts) held = absurd held.2.2

  insert_at : HasFind T → HasSetMove T → (b cap n used : ℕ) (s : Set) (ws : List ℕ) → AreWords ws → IsTable 2 ws (sets.contains s) cap n used → IsSmall (sets.len s) → (i : ℕ) → i < 2 ^ 64 → Call T rule.set_insert (set_of b cap n used s (block b ws) ∷ num i ∷ [])
  insert_at find move b cap n used s ws words table small i word ok known =
      let pass = passes (nat_le (2 ^ 32) (sets.len (sets.insert s i))) (v.Set (sets.insert s i) ∷ []) ok in
      let lt : sets.len (sets.insert s i) < 2 ^ 32 = leb-false (2 ^ 32) (sets.len (sets.insert s i)) pass.0 in
      let len : n ≡ sets.len s = (set_keys_law s 2 cap n used ws table).1 in
      call_by T rule.set_insert (set_of b cap n used s (block b ws) ∷ num i ∷ []) (Inserted 2 n i (sets.contains s) no_values) _ _ _ (insert_steps cap) (growth 2 (sets.contains s i) (b ∷ cap ∷ n ∷ used ∷ i ∷ [])) (plus (block b ws) none) refl
      (plus-none (plus (block b ws) none)) (many_steps cap _ (omega arith))
      (insert_law T b cap n used i _ [] ws (sets.contains s) none find move table (subst (λ z. z < 2 ^ 32) (sym len) small) words word (growth_claims 2 cap used i (sets.contains s) b n (i ∷ [])))
      (λ x h hs. record {
        outs = set_of x.name x.cap x.keys x.used (sets.insert s i) (block x.name x.words) ∷ [];
        outcome = pass.1;
        related = (
          is_hset (sets.insert s i) x.name x.cap x.keys x.used x.words (name_word x.name x.words none h hs) x.are_words x.short (subst (λ f. IsTable 2 x.words f x.cap x.keys x.used) (sym (sets_as_tests.more s i)) x.table) lt,
          block_whole x.name x.words,
          tt,
        );
        registers = refl;
        piece = sym (plus-none (plus (block x.name x.words) none));
      })

  insert_row : HasFind T → HasSetMove T → RowLaw T rule.set_insert
  insert_row find move (t ∷ y ∷ []) held =
      on_hset t.value t.words t.piece held.0 held.1 (λ x regs p. Call T rule.set_insert (thing x regs p ∷ y ∷ []))
      (λ b cap n used s ws name words table small. on_word y.value y.words y.piece held.2.0 (λ z rs q. Call T rule.set_insert (set_of b cap n used s (block b ws) ∷ thing z rs q ∷ [])) (insert_at find move b cap n used s ws words table small))
  insert_row find move [] held = absurd held
  insert_row find move (t ∷ []) held = absurd held.2
  insert_row find move (t ∷ y ∷ z ∷ ts) held = absurd held.2.2

  remove_at : HasFind T → (b cap n used : ℕ) (s : Set) (ws : List ℕ) → b < 2 ^ 64 → AreWords ws → IsTable 2 ws (sets.contains s) cap n used → IsSmall (sets.len s) → (i : ℕ) → i < 2 ^ 64 → Call T rule.set_remove (set_of b cap n used s (block b ws) ∷ num i ∷ [])
  remove_at find b cap n used s ws name words table small i word ok known =
      call_by T rule.set_remove (set_of b cap n used s (block b ws) ∷ num i ∷ []) (Removed 2 cap n used i (sets.contains s) no_values) _ _ _ (find_steps cap + 7) None (plus (block b ws) none) refl
      (plus-none (plus (block b ws) none)) (few_steps (find_steps cap + 7) _ (omega arith))
      (hset_remove_law T b cap n used i [] ws (sets.contains s) no_values none find table (λ three. absurd (let f : ⊥ = omega (arith, three) in f)) words)
      (λ x h hs. record {
        outs = set_of b cap x.keys used (sets.remove s i) (block b x.words) ∷ [];
        outcome = refl;
        related = (
          is_hset (sets.remove s i) b cap x.keys used x.words name x.are_words (length_word b x.words none h hs) (subst (λ f. IsTable 2 x.words f cap x.keys used) (sym (sets_as_tests.less s i)) x.table) (fewer_elements s i small),
          block_whole b x.words,
          tt,
        );
        registers = refl;
        piece = sym (plus-none (plus (block b x.words) none));
      })

  remove_row : HasFind T → RowLaw T rule.set_remove
  remove_row find (t ∷ y ∷ []) held =
      on_hset t.value t.words t.piece held.0 held.1 (λ x regs p. Call T rule.set_remove (thing x regs p ∷ y ∷ []))
      (λ b cap n used s ws name words table small. on_word y.value y.words y.piece held.2.0 (λ z rs q. Call T rule.set_remove (set_of b cap n used s (block b ws) ∷ thing z rs q ∷ [])) (remove_at find b cap n used s ws name words table small))
  remove_row find [] held = absurd held
  remove_row find (t ∷ []) held = absurd held.2
  remove_row find (t ∷ y ∷ z ∷ ts) held = absurd held.2.2

  pick_at : (b cap n used : ℕ) (s : Set) (ws : List ℕ) (p : Piece) → Reads b 0 ws p → AreWords ws → IsTable 2 ws (sets.contains s) cap n used → Call T rule.set_pick (set_of b cap n used s p ∷ [])
  pick_at b cap n used s ws p reads words table ok known =
      let some = some_one (sets.items s) ok in
      let same = length_permutation (sets.items s) (keys_of 2 ws cap) (set_keys_law s 2 cap n used ws table).0 in
      let len = (each_law 2 cap n used ws (sets.contains s) table).0 in
      call_by T rule.set_pick (set_of b cap n used s p ∷ []) (Picked (sets.contains s)) _ _ _ (5 * cap + 6) None p refl (plus-none p) (few_steps (5 * cap + 6) _ (omega arith))
      (pick_law T b cap n used [] ws (sets.contains s) p reads table (omega (arith, some, same, len)) words)
      (λ x h hs. record {
        outs = thing (v.Nat x.picked) (x.picked ∷ []) none ∷ [];
        outcome = gives_one (sets.items s) x.picked (is_item s x.picked x.there);
        related = (is_word x.picked x.is_word, none_whole, tt);
        registers = refl;
        piece = sym (plus-none p);
      })

  pick_row : RowLaw T rule.set_pick
  pick_row (t ∷ []) held = on_kept_hset t.value t.words t.piece held.0 (λ x regs p. Call T rule.set_pick (thing x regs p ∷ [])) (λ b cap n used s ws reads words table small. pick_at b cap n used s ws t.piece reads words table)
  pick_row [] held = absurd held
  pick_row (t ∷ y ∷ ts) held = absurd held.2

  elems_at : HasKeys T → (b cap n used : ℕ) (s : Set) (ws : List ℕ) (p : Piece) → Reads b 0 ws p → AreWords ws → IsTable 2 ws (sets.contains s) cap n used → IsSmall (sets.len s) → Call T rule.set_elems (set_of b cap n used s p ∷ [])
  elems_at found b cap n used s ws p reads words table small ok known =
      let perm = (set_keys_law s 2 cap n used ws table).0 in
      let same = length_permutation (sets.items s) (keys_of 2 ws cap) perm in
      let len : length (keys_of 2 ws cap) ≡ n = (each_law 2 cap n used ws (sets.contains s) table).0 in
      let size : n ≡ sets.len s = (set_keys_law s 2 cap n used ws table).1 in
      let lt : length (keys_of 2 ws cap) < 2 ^ 32 = omega (arith, len, size, small) in
      call_by T rule.set_elems (set_of b cap n used s p ∷ []) ℕ _ _ _ (keys_steps cap + 3) (Some n) p refl (plus-none p) (few_steps (keys_steps cap + 3) _ (omega arith))
      (hset_elems_law T b cap n used n [] ws (sets.contains s) p found reads table (omega arith))
      (λ x h hs. record {
        outs = thing (v.List (keys_of 2 ws cap)) (x ∷ 0 ∷ length (keys_of 2 ws cap) ∷ []) (block x (keys_of 2 ws cap)) ∷ [];
        outcome = gives_any_order (sets.items s) (keys_of 2 ws cap) perm (omega (arith, lt, same));
        related = (
          is_array x (keys_of 2 ws cap) (name_word x (keys_of 2 ws cap) p h hs) (key_words_law 2 cap n used ws (sets.contains s) (omega arith) table words) lt,
          block_whole x (keys_of 2 ws cap),
          tt,
        );
        registers = ap (λ z. x ∷ 0 ∷ z ∷ []) (sym len);
        piece = beside (block x (keys_of 2 ws cap)) p;
      })

  elems_row : HasKeys T → RowLaw T rule.set_elems
  elems_row found (t ∷ []) held = on_kept_hset t.value t.words t.piece held.0 (λ x regs p. Call T rule.set_elems (thing x regs p ∷ [])) (λ b cap n used s ws. elems_at found b cap n used s ws t.piece)
  elems_row found [] held = absurd held
  elems_row found (t ∷ y ∷ ts) held = absurd held.2

  copy_at : HasCopy T → (b cap n used : ℕ) (s : Set) (ws : List ℕ) (p : Piece) → Reads b 0 ws p → AreWords ws → IsTable 2 ws (sets.contains s) cap n used → IsSmall (sets.len s) → Call T rule.set_copy (set_of b cap n used s p ∷ [])
  copy_at found b cap n used s ws p reads words table small ok known =
      call_by T rule.set_copy (set_of b cap n used s p ∷ []) ℕ _ _ _ (6 * length ws + 10) (Some (2 * cap)) p refl (plus-none p) (few_steps (6 * length ws + 10) _ (omega (arith, table.size)))
      (hset_copy_law T b cap n used (2 * cap) [] ws p found reads table.size (omega (arith, table.open_slot)) (omega arith))
      (λ x h hs. record {
        outs = set_of x cap n used s (block x ws) ∷ [];
        outcome = refl;
        related = (is_hset s x cap n used ws (name_word x ws p h hs) words (length_word x ws p h hs) table small, block_whole x ws, tt);
        registers = refl;
        piece = beside (block x ws) p;
      })

  copy_row : HasCopy T → RowLaw T rule.set_copy
  copy_row found (t ∷ []) held = on_kept_hset t.value t.words t.piece held.0 (λ x regs p. Call T rule.set_copy (thing x regs p ∷ [])) (λ b cap n used s ws. copy_at found b cap n used s ws t.piece)
  copy_row found [] held = absurd held
  copy_row found (t ∷ y ∷ ts) held = absurd held.2

set_size : RegisterLaw o.SizeSet rep.Hset 2
set_size t h =
    on_kept_hset t.value t.words t.piece h (λ x regs p. op_out o.SizeSet (x ∷ []) ≡ runs.Done (v.Nat (slice_index regs 2) ∷ []))
    (λ b cap n used s ws r aw table small. ap (λ y. runs.Done (v.Nat y ∷ [])) (sym (set_keys_law s 2 cap n used ws table).1))

pub hset_rows : AllHsetRows
hset_rows T copy find keys move = record {
  empty = empty_row T;
  size = set_size;
  has = has_row T find;
  insert = insert_row T find move;
  remove = remove_row T find;
  pick = pick_row T;
  elems = elems_row T keys;
  copy = copy_row T copy;
}
