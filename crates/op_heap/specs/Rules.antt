-- The rows of heaps, and what all of them do.
use Rattle.std.specs.Prelude.{List, [], ◌∷◌, Some, None}
use Rattle.nres_core.specs.declared.op.Op.TheVariants as o
use Rattle.target_code.specs.declared.tree.Proc.{Proc}
use Rattle.target_code.specs.declared.tree.Rep.TheVariants as rep
use Rattle.row_laws.specs.Rows.{Rule, RowLaw, RegisterLaw, a_word, keeps, gives_up, no_claim, by_register, if_full}
use Rattle.op_base.specs.Library.{HasCopy}
use Rattle.op_base.specs.Push.{HasPush}
use Rattle.op_heap.specs.Heap.{heap_empty, heap_add, heap_minimum, heap_take_min, heap_copy}

abbrev pub empty : Rule
empty = record { op = o.EmptyBag; proc = heap_empty; before = []; takes = []; gives = rep.Heap ∷ []; fact = None; claim = λ vs regs. Some 4 }

abbrev pub add : Rule
add = record { op = o.Add; proc = heap_add; before = []; takes = gives_up rep.Heap ∷ a_word ∷ []; gives = rep.Heap ∷ []; fact = None; claim = if_full }

abbrev pub minimum : Rule
minimum = record { op = o.Minimum; proc = heap_minimum; before = []; takes = keeps rep.Heap ∷ []; gives = rep.Word ∷ []; fact = None; claim = no_claim }

abbrev pub take_min : Rule
take_min = record { op = o.TakeMin; proc = heap_take_min; before = []; takes = gives_up rep.Heap ∷ []; gives = rep.Word ∷ rep.Heap ∷ []; fact = None; claim = no_claim }

abbrev pub copy : Rule
copy = record { op = o.CopyBag; proc = heap_copy; before = []; takes = keeps rep.Heap ∷ []; gives = rep.Heap ∷ []; fact = None; claim = by_register 2 }

pub record HeapRows (T : List Proc) : Type 0 where
  pub empty : RowLaw T empty
  pub size : RegisterLaw o.SizeBag rep.Heap 1
  pub add : RowLaw T add
  pub minimum : RowLaw T minimum
  pub take_min : RowLaw T take_min
  pub copy : RowLaw T copy

abbrev pub AllHeapRows : Type 0
AllHeapRows = (T : List Proc) → HasCopy T → HasPush T → HeapRows T
