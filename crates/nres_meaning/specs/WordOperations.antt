-- The operation that a word stands for, which its representation or its first argument may settle.
use Rattle.std.specs.Prelude.{Option, Some, None}
use Rattle.target_code.specs.declared.tree.Rep.{Rep}
use Rattle.nres_core.specs.Operations.{in_table, words, at_type, rep_type, value_type}
use Rattle.nres_core.specs.Tree.{Word}
use Rattle.nres_core.specs.declared.op.Op.{Op}
use Rattle.nres_core.specs.declared.value.Value.{Value}
use Rattle.nres_core.specs.declared.vocabulary.ByType.{ByType}
use Rattle.nres_core.specs.declared.vocabulary.Meant.{Meant}
use Rattle.nres_core.specs.declared.vocabulary.Meant.TheVariants as m

-- by the representation that is chosen
abbrev pub at_rep : Option Rep → ByType → Option Op
at_rep None t = None
at_rep (Some x) t = at_type (rep_type x) t

abbrev pub meant_op : Option Meant → Option Rep → Value → Option Op
meant_op None rep x = None
meant_op (Some (m.Always op)) rep x = Some op
meant_op (Some (m.ByFirst t to)) rep x = at_type (value_type x) t
meant_op (Some (m.ByMade t)) rep x = at_rep rep t

-- the operation of a word on arguments of which this is the first
unfoldable pub op_named : Word → Value → Option Op
op_named w x = meant_op (in_table w.0 words) w.1 x

-- an operation stands for itself
abbrev pub known : Op → Value → Option Op
known op x = Some op
