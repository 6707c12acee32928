-- Texts that programs and specifications share: a representation, and the spaces before a line.
use Rattle.std.specs.Prelude.{ℕ, zero, suc, List, [], ◌∷◌, ◌++◌, codes, decimal}
use Rattle.target_code.specs.declared.tree.Rep.{Rep}
use Rattle.target_code.specs.declared.tree.Rep.TheVariants as rep

-- a representation. Numbers and truth values have none in a specification, and a slice has none in a program
abbrev pub rep_text : Rep → List ℕ
rep_text rep.Word = codes "word"
rep_text rep.Flag = codes "flag"
rep_text rep.Array = codes "array"
rep_text rep.Slice = codes "slice"
rep_text rep.Vec = codes "vec"
rep_text (rep.Bits u) = codes "bits " ++ decimal u
rep_text rep.Hset = codes "hset"
rep_text (rep.Amap u) = codes "amap " ++ decimal u
rep_text rep.Hmap = codes "hmap"
rep_text rep.Heap = codes "heap"

-- two spaces for each open block
abbrev pub indent : ℕ → List ℕ
indent zero = []
indent (suc n) = 32 ∷ 32 ∷ indent n
