-- Why an operation is refused, by variables, and what it leaves.
use Rattle.std.specs.Prelude.{ℕ, cond, List, [], ◌∷◌, Option, Some, None, Result, Ok, Err}
use Rattle.context_laws.specs.Stacks.{Held}
use Rattle.context_laws.specs.Steps.{with_spots}
use Rattle.nres_core.specs.declared.flat.Arg.{Arg}
use Rattle.nres_core.specs.declared.op.Op.{Op}
use Rattle.nres_core.specs.declared.refusal.Refusal.{Refusal}
use Rattle.nres_core.specs.declared.row.Fate.{Fate}
use Rattle.ownership.specs.Faults.{or_next, args_fault}
use Rattle.ownership.specs.declared.entry.Fault.{Fault}
use Rattle.ownership.specs.declared.entry.Fault.TheVariants as f
use Rattle.rule_check.specs.Context.{Ctx, Spot, Fact, reps_of, vars_of, all_go, binding, first_gone}
use Rattle.rule_check.specs.Steps.{is_destroyed, destroyed, op_bound, row_shapes, slice_tag, unknown}
use Rattle.rule_check.specs.Table.{Rule, row_for}
use Rattle.target_code.specs.declared.tree.Rep.{Rep}

-- the row of the table, not unfolded
unfoldable pub table_row : Op → List Rep → Option Rep → Option Rule
table_row op xs y = row_for op xs y

-- a number that is not known to be below the bound
abbrev pub fact_fault : ℕ → Option Arg → Option Fault
fact_fault n None = None
fact_fault n (Some u) = Some (f.Fact u n)

-- the entry of an argument, where it is destroyed
abbrev pub one_destroyed : Fate → Spot → List Spot
one_destroyed fate s = cond (is_destroyed fate) (s ∷ []) []

-- of a row, for arguments with entries ss
abbrev pub row_fault : List Fact → Option Rep → List Arg → List Spot → Rule → Option Fault
row_fault es made us ss t = args_fault ss (destroyed t.takes ss) (fact_fault (op_bound made (reps_of ss)) (unknown es (op_bound made (reps_of ss)) t.fact us))

abbrev pub found_fault : List Fact → Option Rep → List Arg → List Spot → Option Rule → Option Fault
found_fault es made us ss None = Some f.Missing
found_fault es made us ss (Some t) = row_fault es made us ss t

-- in this order: Gone, Missing, Twice, Held, Fact
abbrev pub apply_fault : List Fact → Option Rep → List Arg → List Spot → Option Rule → Option Fault
apply_fault es made us ss found = or_next f.Gone (first_gone ss) (found_fault es made us ss found)

-- what a row leaves that is not refused; a refusal changes nothing
abbrev pub after_row : Option Fault → ℕ → List ℕ → List Spot → Rule → Held → Held
after_row (Some fault) n to ss t x = x
after_row None n to ss t x = with_spots x (binding to (row_shapes n (slice_tag (destroyed t.takes ss)) t.gives) (all_go (vars_of (destroyed t.takes ss)) x.spots))

abbrev pub after_found : Option Fault → Option Rep → List ℕ → List Spot → Option Rule → Held → Held
after_found fault made to ss None x = x
after_found fault made to ss (Some t) x = after_row fault (op_bound made (reps_of ss)) to ss t x

-- the context after a step, or its refusal
abbrev pub outcome : Option Refusal → Ctx → Result Ctx Refusal
outcome None x = Ok x
outcome (Some r) x = Err r
