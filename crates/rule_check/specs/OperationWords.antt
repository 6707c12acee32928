-- The words by which refusals name operations.
use Rattle.std.specs.Prelude.{ℕ, nat_eq, Bool, false, ◌||◌, cond, List, [], ◌∷◌, Option, Some, None}
use Rattle.nres_core.specs.Operations.{words}
use Rattle.nres_core.specs.declared.op.Op.{Op}
use Rattle.nres_core.specs.declared.vocabulary.ByType.{ByType}
use Rattle.nres_core.specs.declared.vocabulary.Meant.{Meant}
use Rattle.nres_core.specs.declared.vocabulary.Meant.TheVariants as m
use Rattle.rule_check.specs.Table.{op_number}

-- whether a word that stands for these stands for the operation
abbrev pub is_op : Op → Option Op → Bool
is_op op None = false
is_op op (Some other) = nat_eq (op_number op) (op_number other)

abbrev pub is_for_some_type : Op → ByType → Bool
is_for_some_type op t = is_op op t.list || (is_op op t.set || (is_op op t.map || is_op op t.bag))

abbrev pub stands_for : Op → Meant → Bool
stands_for op (m.Always other) = is_op op (Some other)
stands_for op (m.ByFirst t to) = is_for_some_type op t
stands_for op (m.ByMade t) = is_for_some_type op t

abbrev pub word_in : Op → List (List ℕ × Meant) → List ℕ
word_in op [] = []
word_in op (e ∷ es) = cond (stands_for op e.1) e.0 (word_in op es)

-- the word of an operation
unfoldable pub word_of : Op → List ℕ
word_of op = word_in op words
