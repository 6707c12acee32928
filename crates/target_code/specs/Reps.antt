-- How many registers a representation takes.
use Rattle.std.specs.Prelude.{ℕ}
use Rattle.target_code.specs.declared.tree.Rep.{Rep}
use Rattle.target_code.specs.declared.tree.Rep.TheVariants as rep

-- numbers and truth values: the value; bits and array maps: block and count; lists and heaps: block and two numbers;
-- hash tables: block, capacity, count and used states
abbrev pub width : Rep → ℕ
width rep.Word = 1
width rep.Flag = 1
width rep.Array = 3
width rep.Slice = 3
width rep.Vec = 3
width (rep.Bits _) = 2
width rep.Hset = 4
width (rep.Amap _) = 2
width rep.Hmap = 4
width rep.Heap = 3
