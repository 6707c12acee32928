-- What a row may claim is below a number that no value decides.
use Rattle.std.specs.Prelude.{ℕ, ◌+◌, ◌*◌, ◌^◌, ◌<◌, ◌≤◌, Bool, true, false, if◌then◌else◌, ◌==◌, List, [], ◌∷◌, slice_index, Some, None}
use Rattle.std.proofs.Common.{arith}
use Rattle.nres_core.specs.declared.row.LibName.{LibName}
use Rattle.nres_core.specs.declared.row.LibName.TheVariants as l
use Rattle.nres_core.specs.declared.value.Value.{Value}
use Rattle.nres_core.specs.declared.value.Value.TheVariants as v
use Rattle.relations.specs.Blocks.{AreWords}
use Rattle.row_laws.specs.Rows.{or_none}
use Rattle.op_hash.specs.Rules.{set_growth, map_growth}
use Rattle.rule_table.specs.RowProcedures.{claims}
use Rattle.rows_fit.proofs.Calls.{most_words, reg_word}

if_most : (b : Bool) (n : ℕ) → n ≤ most_words → or_none (if b then Some n else None) ≤ most_words
if_most true n le = le
if_most false n le = omega arith

two_most : (a b : Bool) (n : ℕ) → n ≤ most_words → or_none (if a then None else (if b then None else Some n)) ≤ most_words
two_most true b n le = omega arith
two_most false true n le = omega arith
two_most false false n le = le

set_most : (vs : List Value) (ws : List ℕ) → AreWords ws → or_none (set_growth vs ws) ≤ most_words
set_most [] ws all = omega arith
set_most (v.Nat n ∷ vs) ws all = omega arith
set_most (v.Bool n ∷ vs) ws all = omega arith
set_most (v.List n ∷ vs) ws all = omega arith
set_most (v.Map n ∷ vs) ws all = omega arith
set_most (v.Bag n ∷ vs) ws all = omega arith
set_most (v.Set s ∷ []) ws all = omega arith
set_most (v.Set s ∷ v.Bool n ∷ vs) ws all = omega arith
set_most (v.Set s ∷ v.List n ∷ vs) ws all = omega arith
set_most (v.Set s ∷ v.Map n ∷ vs) ws all = omega arith
set_most (v.Set s ∷ v.Bag n ∷ vs) ws all = omega arith
set_most (v.Set s ∷ v.Set n ∷ vs) ws all = omega arith
set_most (v.Set s ∷ v.Nat x ∷ vs) ws all =
    let r = reg_word ws all 1 in
    two_most _ _ (2 * (2 * slice_index ws 1)) (omega (arith, r))

map_most : (vs : List Value) (ws : List ℕ) → AreWords ws → or_none (map_growth vs ws) ≤ most_words
map_most [] ws all = omega arith
map_most (v.Nat n ∷ vs) ws all = omega arith
map_most (v.Bool n ∷ vs) ws all = omega arith
map_most (v.List n ∷ vs) ws all = omega arith
map_most (v.Set n ∷ vs) ws all = omega arith
map_most (v.Bag n ∷ vs) ws all = omega arith
map_most (v.Map s ∷ []) ws all = omega arith
map_most (v.Map s ∷ v.Bool n ∷ vs) ws all = omega arith
map_most (v.Map s ∷ v.List n ∷ vs) ws all = omega arith
map_most (v.Map s ∷ v.Map n ∷ vs) ws all = omega arith
map_most (v.Map s ∷ v.Bag n ∷ vs) ws all = omega arith
map_most (v.Map s ∷ v.Set n ∷ vs) ws all = omega arith
map_most (v.Map s ∷ v.Nat x ∷ vs) ws all =
    let r = reg_word ws all 1 in
    two_most _ _ (2 * (3 * slice_index ws 1)) (omega (arith, r))

full_most : (ws : List ℕ) → AreWords ws → or_none (if slice_index ws 1 == slice_index ws 2 then Some (slice_index ws 2 + slice_index ws 2) else None) ≤ most_words
full_most ws all = let r = reg_word ws all 2 in if_most (slice_index ws 1 == slice_index ws 2) (slice_index ws 2 + slice_index ws 2) (omega (arith, r))

pub claims_most : (u : ℕ) (name : LibName) → u < 2 ^ 32 → (vs : List Value) (ws : List ℕ) → AreWords ws → or_none (claims u name vs ws) ≤ most_words
claims_most u l.ArrayZeros lt vs ws all = let r = reg_word ws all 0 in omega (arith, r)
claims_most u l.ArrayGet lt vs ws all = omega arith
claims_most u l.ArraySet lt vs ws all = omega arith
claims_most u l.ArraySwap lt vs ws all = omega arith
claims_most u l.ArrayCopy lt vs ws all = let r = reg_word ws all 2 in omega (arith, r)
claims_most u l.VecNil lt vs ws all = omega arith
claims_most u l.VecGet lt vs ws all = omega arith
claims_most u l.VecSet lt vs ws all = omega arith
claims_most u l.VecSwap lt vs ws all = omega arith
claims_most u l.VecPush lt vs ws all = full_most ws all
claims_most u l.VecPop lt vs ws all = omega arith
claims_most u l.VecCopy lt vs ws all = let r = reg_word ws all 2 in omega (arith, r)
claims_most u l.BitsEmpty lt vs ws all = omega (arith, lt)
claims_most u l.BitsHas lt vs ws all = omega arith
claims_most u l.BitsInsert lt vs ws all = omega arith
claims_most u l.BitsRemove lt vs ws all = omega arith
claims_most u l.BitsPick lt vs ws all = omega arith
claims_most u l.BitsUnion lt vs ws all = omega arith
claims_most u l.BitsElems lt vs ws all = let r = reg_word ws all 1 in omega (arith, r)
claims_most u l.BitsCopy lt vs ws all = omega (arith, lt)
claims_most u l.HsetEmpty lt vs ws all = omega arith
claims_most u l.HsetHas lt vs ws all = omega arith
claims_most u l.HsetInsert lt vs ws all = set_most vs ws all
claims_most u l.HsetRemove lt vs ws all = omega arith
claims_most u l.HsetPick lt vs ws all = omega arith
claims_most u l.HsetElems lt vs ws all = let r = reg_word ws all 2 in omega (arith, r)
claims_most u l.HsetCopy lt vs ws all = let r = reg_word ws all 1 in omega (arith, r)
claims_most u l.AmapEmpty lt vs ws all = omega (arith, lt)
claims_most u l.AmapHas lt vs ws all = omega arith
claims_most u l.AmapLookup lt vs ws all = omega arith
claims_most u l.AmapPut lt vs ws all = omega arith
claims_most u l.AmapDel lt vs ws all = omega arith
claims_most u l.AmapKeys lt vs ws all = let r = reg_word ws all 1 in omega (arith, r)
claims_most u l.AmapCopy lt vs ws all = omega (arith, lt)
claims_most u l.HmapEmpty lt vs ws all = omega arith
claims_most u l.HmapHas lt vs ws all = omega arith
claims_most u l.HmapLookup lt vs ws all = omega arith
claims_most u l.HmapPut lt vs ws all = map_most vs ws all
claims_most u l.HmapDel lt vs ws all = omega arith
claims_most u l.HmapKeys lt vs ws all = let r = reg_word ws all 2 in omega (arith, r)
claims_most u l.HmapCopy lt vs ws all = let r = reg_word ws all 1 in omega (arith, r)
claims_most u l.HeapEmpty lt vs ws all = omega arith
claims_most u l.HeapAdd lt vs ws all = full_most ws all
claims_most u l.HeapMinimum lt vs ws all = omega arith
claims_most u l.HeapTakeMin lt vs ws all = omega arith
claims_most u l.HeapCopy lt vs ws all = let r = reg_word ws all 2 in omega (arith, r)
