-- The rows of arrays, slices and vecs, and what all of them do.
use Rattle.std.specs.Prelude.{List, [], ◌∷◌, Some, None}
use Rattle.nres_core.specs.declared.op.Op.TheVariants as o
use Rattle.target_code.specs.declared.tree.Proc.{Proc}
use Rattle.target_code.specs.declared.tree.Rep.{Rep}
use Rattle.target_code.specs.declared.tree.Rep.TheVariants as rep
use Rattle.row_laws.specs.Rows.{Rule, RowLaw, RegisterLaw, a_word, keeps, gives_up, no_claim, by_register, if_full}
use Rattle.op_base.specs.Library.{HasCopy}
use Rattle.op_base.specs.Push.{HasPush}
use Rattle.op_arrays.specs.Arrays as arrays
use Rattle.op_arrays.specs.Vecs as vecs

abbrev pub zeros : Rule
zeros = record { op = o.Zeros; proc = arrays.array_zeros; before = []; takes = a_word ∷ []; gives = rep.Array ∷ []; fact = None; claim = by_register 0 }

-- ---- of an array or a slice, by its representation

abbrev pub get : Rep → Rule
get r = record { op = o.Get; proc = arrays.array_get; before = []; takes = keeps r ∷ a_word ∷ []; gives = rep.Word ∷ []; fact = None; claim = no_claim }

abbrev pub set : Rep → Rule
set r = record { op = o.SetAt; proc = arrays.array_set; before = []; takes = gives_up r ∷ a_word ∷ a_word ∷ []; gives = r ∷ []; fact = None; claim = no_claim }

abbrev pub swap : Rep → Rule
swap r = record { op = o.Swap; proc = arrays.array_swap; before = []; takes = gives_up r ∷ a_word ∷ a_word ∷ []; gives = r ∷ []; fact = None; claim = no_claim }

abbrev pub copy : Rep → Rule
copy r = record { op = o.CopyList; proc = arrays.array_copy; before = []; takes = keeps r ∷ []; gives = rep.Array ∷ []; fact = None; claim = by_register 2 }

-- ---- of a vec

abbrev pub vec_nil : Rule
vec_nil = record { op = o.Nil; proc = vecs.vec_nil; before = []; takes = []; gives = rep.Vec ∷ []; fact = None; claim = λ vs regs. Some 4 }

abbrev pub vec_get : Rule
vec_get = record { op = o.Get; proc = vecs.vec_get; before = []; takes = keeps rep.Vec ∷ a_word ∷ []; gives = rep.Word ∷ []; fact = None; claim = no_claim }

abbrev pub vec_set : Rule
vec_set = record { op = o.SetAt; proc = vecs.vec_set; before = []; takes = gives_up rep.Vec ∷ a_word ∷ a_word ∷ []; gives = rep.Vec ∷ []; fact = None; claim = no_claim }

abbrev pub vec_swap : Rule
vec_swap = record { op = o.Swap; proc = vecs.vec_swap; before = []; takes = gives_up rep.Vec ∷ a_word ∷ a_word ∷ []; gives = rep.Vec ∷ []; fact = None; claim = no_claim }

abbrev pub vec_push : Rule
vec_push = record { op = o.Push; proc = vecs.vec_push; before = []; takes = gives_up rep.Vec ∷ a_word ∷ []; gives = rep.Vec ∷ []; fact = None; claim = if_full }

abbrev pub vec_pop : Rule
vec_pop = record { op = o.Pop; proc = vecs.vec_pop; before = []; takes = gives_up rep.Vec ∷ []; gives = rep.Word ∷ rep.Vec ∷ []; fact = None; claim = no_claim }

abbrev pub vec_copy : Rule
vec_copy = record { op = o.CopyList; proc = vecs.vec_copy; before = []; takes = keeps rep.Vec ∷ []; gives = rep.Vec ∷ []; fact = None; claim = by_register 2 }

-- ---- all of them

pub record ArrayRows (T : List Proc) : Type 0 where
  pub zeros : RowLaw T zeros
  pub len : RegisterLaw o.Len rep.Array 2
  pub get : RowLaw T (get rep.Array)
  pub set : RowLaw T (set rep.Array)
  pub swap : RowLaw T (swap rep.Array)
  pub copy : RowLaw T (copy rep.Array)

pub record SliceRows (T : List Proc) : Type 0 where
  pub len : RegisterLaw o.Len rep.Slice 2
  pub get : RowLaw T (get rep.Slice)
  pub set : RowLaw T (set rep.Slice)
  pub swap : RowLaw T (swap rep.Slice)
  pub copy : RowLaw T (copy rep.Slice)

pub record VecRows (T : List Proc) : Type 0 where
  pub nil : RowLaw T vec_nil
  pub len : RegisterLaw o.Len rep.Vec 1
  pub get : RowLaw T vec_get
  pub set : RowLaw T vec_set
  pub swap : RowLaw T vec_swap
  pub push : RowLaw T vec_push
  pub pop : RowLaw T vec_pop
  pub copy : RowLaw T vec_copy

abbrev pub AllRows : Type 0
AllRows = (T : List Proc) → HasCopy T → HasPush T → ArrayRows T × SliceRows T × VecRows T
