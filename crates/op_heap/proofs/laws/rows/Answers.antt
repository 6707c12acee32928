use Rattle.op_heap.proofs.HeapRows.{heap_rows}
use Rattle.op_heap.proofs.laws.rows.Goals as goal

pub returns : goal.returns
returns c = heap_rows
