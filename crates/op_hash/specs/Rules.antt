-- The rows of hash tables, and what all of them do.
use Rattle.std.specs.Prelude.{◌≡◌, ℕ, ◌*◌, ◌/◌, nat_lt, Bool, if◌then◌else◌, List, [], ◌∷◌, slice_index, codes, Option, Some, None}
use Rattle.std.specs.FinMap as maps
use Rattle.containers.specs.Sets as sets
use Rattle.nres_core.specs.declared.op.Op.TheVariants as o
use Rattle.nres_core.specs.declared.value.Value.{Value}
use Rattle.nres_core.specs.declared.value.Value.TheVariants as v
use Rattle.target_code.specs.declared.tree.Proc.{Proc}
use Rattle.target_code.specs.declared.tree.Rep.TheVariants as rep
use Rattle.target_meaning.specs.Leaf.{find}
use Rattle.row_laws.specs.Rows.{Rule, RowLaw, RegisterLaw, a_word, keeps, gives_up, no_claim, by_register}
use Rattle.op_base.specs.Library.{HasCopy}
use Rattle.op_hash.specs.Laws.{HasFind, HasKeys}
use Rattle.op_hash.specs.Texts as texts

-- the words of a new table: none where the key is there or three quarters of the slots are not used, and else at most twice the slots
abbrev pub growth : (w : ℕ) → Bool → List ℕ → Option ℕ
growth w there regs = if there then None else (if nat_lt (slice_index regs 3) (3 * (slice_index regs 1 / 4)) then None else Some (2 * (w * slice_index regs 1)))

abbrev pub set_growth : List Value → List ℕ → Option ℕ
set_growth (v.Set s ∷ v.Nat x ∷ vs) regs = growth 2 (sets.contains s x) regs
set_growth vs regs = None

abbrev pub map_growth : List Value → List ℕ → Option ℕ
map_growth (v.Map m ∷ v.Nat x ∷ vs) regs = growth 3 (maps.contains_key m x) regs
map_growth vs regs = None

-- as many words as the table has
abbrev pub all_slots : (w : ℕ) → List Value → List ℕ → Option ℕ
all_slots w vs regs = Some (w * slice_index regs 1)

-- ---- of sets

abbrev pub set_empty : Rule
set_empty = record { op = o.EmptySet; proc = texts.hset_empty; before = []; takes = []; gives = rep.Hset ∷ []; fact = None; claim = λ vs regs. Some 16 }

abbrev pub set_has : Rule
set_has = record { op = o.HasSet; proc = texts.hset_has; before = []; takes = keeps rep.Hset ∷ a_word ∷ []; gives = rep.Flag ∷ []; fact = None; claim = no_claim }

abbrev pub set_insert : Rule
set_insert = record { op = o.Insert; proc = texts.hset_insert; before = []; takes = gives_up rep.Hset ∷ a_word ∷ []; gives = rep.Hset ∷ []; fact = None; claim = set_growth }

abbrev pub set_remove : Rule
set_remove = record { op = o.Remove; proc = texts.hset_remove; before = []; takes = gives_up rep.Hset ∷ a_word ∷ []; gives = rep.Hset ∷ []; fact = None; claim = no_claim }

abbrev pub set_pick : Rule
set_pick = record { op = o.Pick; proc = texts.hset_pick; before = []; takes = keeps rep.Hset ∷ []; gives = rep.Word ∷ []; fact = None; claim = no_claim }

abbrev pub set_elems : Rule
set_elems = record { op = o.Elems; proc = texts.hset_elems; before = []; takes = keeps rep.Hset ∷ []; gives = rep.Array ∷ []; fact = None; claim = by_register 2 }

abbrev pub set_copy : Rule
set_copy = record { op = o.CopySet; proc = texts.hset_copy; before = []; takes = keeps rep.Hset ∷ []; gives = rep.Hset ∷ []; fact = None; claim = all_slots 2 }

-- ---- of maps

abbrev pub map_empty : Rule
map_empty = record { op = o.EmptyMap; proc = texts.hmap_empty; before = []; takes = []; gives = rep.Hmap ∷ []; fact = None; claim = λ vs regs. Some 24 }

abbrev pub map_has : Rule
map_has = record { op = o.HasMap; proc = texts.hmap_has; before = []; takes = keeps rep.Hmap ∷ a_word ∷ []; gives = rep.Flag ∷ []; fact = None; claim = no_claim }

abbrev pub map_lookup : Rule
map_lookup = record { op = o.Lookup; proc = texts.hmap_lookup; before = []; takes = keeps rep.Hmap ∷ a_word ∷ []; gives = rep.Word ∷ []; fact = None; claim = no_claim }

abbrev pub map_put : Rule
map_put = record { op = o.Put; proc = texts.hmap_put; before = []; takes = gives_up rep.Hmap ∷ a_word ∷ a_word ∷ []; gives = rep.Hmap ∷ []; fact = None; claim = map_growth }

abbrev pub map_del : Rule
map_del = record { op = o.Del; proc = texts.hmap_del; before = []; takes = gives_up rep.Hmap ∷ a_word ∷ []; gives = rep.Hmap ∷ []; fact = None; claim = no_claim }

abbrev pub map_keys : Rule
map_keys = record { op = o.Keys; proc = texts.hmap_keys; before = []; takes = keeps rep.Hmap ∷ []; gives = rep.Array ∷ []; fact = None; claim = by_register 2 }

abbrev pub map_copy : Rule
map_copy = record { op = o.CopyMap; proc = texts.hmap_copy; before = []; takes = keeps rep.Hmap ∷ []; gives = rep.Hmap ∷ []; fact = None; claim = all_slots 3 }

-- ---- all of them

pub record HsetRows (T : List Proc) : Type 0 where
  pub empty : RowLaw T set_empty
  pub size : RegisterLaw o.SizeSet rep.Hset 2
  pub has : RowLaw T set_has
  pub insert : RowLaw T set_insert
  pub remove : RowLaw T set_remove
  pub pick : RowLaw T set_pick
  pub elems : RowLaw T set_elems
  pub copy : RowLaw T set_copy

pub record HmapRows (T : List Proc) : Type 0 where
  pub empty : RowLaw T map_empty
  pub size : RegisterLaw o.SizeMap rep.Hmap 2
  pub has : RowLaw T map_has
  pub lookup : RowLaw T map_lookup
  pub put : RowLaw T map_put
  pub del : RowLaw T map_del
  pub keys : RowLaw T map_keys
  pub copy : RowLaw T map_copy

-- the helpers that move a table are among the procedures
abbrev pub HasSetMove : List Proc → Type 0
HasSetMove T = find T (codes "lib_hset_move") ≡ Some texts.lib_hset_move

abbrev pub HasMapMove : List Proc → Type 0
HasMapMove T = find T (codes "lib_hmap_move") ≡ Some texts.lib_hmap_move

abbrev pub AllHsetRows : Type 0
AllHsetRows = (T : List Proc) → HasCopy T → HasFind T → HasKeys T → HasSetMove T → HsetRows T

abbrev pub AllHmapRows : Type 0
AllHmapRows = (T : List Proc) → HasCopy T → HasFind T → HasKeys T → HasMapMove T → HmapRows T
