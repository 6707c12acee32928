-- Why a step is refused, by variables, and what it leaves.
use Rattle.std.specs.Prelude.{◌≡◌, ℕ, Bool, ◌&&◌, cond, List, [], ◌∷◌, Option, Some, None, Result, Ok, Err}
use Rattle.nres_core.specs.declared.refusal.Refusal.{Refusal}
use Rattle.nres_core.specs.declared.refusal.Why.{Why}
use Rattle.nres_core.specs.declared.refusal.Why.TheVariants as w
use Rattle.context_laws.specs.Stacks.{Held}
use Rattle.context_laws.specs.Steps.{with_spots}
use Rattle.ownership.specs.declared.entry.Fault.{Fault}
use Rattle.ownership.specs.declared.entry.Fault.TheVariants as f
use Rattle.rule_check.specs.Context.{Spot, is_slice, is_owned, all_go, first_gone, first_kept, first_twice, first_clash}
use Rattle.rule_check.specs.Steps.{name_at, arg_name}

-- the first that breaks a rule, or what comes after
abbrev pub or_next : (ℕ → Fault) → Option ℕ → Option Fault → Option Fault
or_next fault (Some v) next = Some (fault v)
or_next fault None next = next

-- in this order: Gone, Twice, Held, and that of a number
abbrev pub args_fault : List Spot → List Spot → Option Fault → Option Fault
args_fault ss ds unknown = or_next f.Gone (first_gone ss) (or_next f.Twice (first_clash ds ss) (or_next f.Held (first_kept ds) unknown))

-- in this order: Gone, Twice, Held
abbrev pub results_fault : List Spot → Option Fault
results_fault ss = or_next f.Gone (first_gone ss) (or_next f.Twice (first_twice ss) (or_next f.Held (first_kept ss) None))

-- the variable of an owned slice
abbrev pub slice_at : Option Spot → Option ℕ
slice_at None = None
slice_at (Some s) = cond (is_slice s.rep && is_owned s.hold) (Some s.var) None

-- a refused step changes nothing
abbrev pub after_taken : Option Fault → List ℕ → Held → Held
after_taken None vs x = with_spots x (all_go vs x.spots)
after_taken (Some fault) vs x = x

-- the reason that is given
abbrev pub why_of : List (List ℕ) → Fault → Why
why_of names f.Missing = w.Missing
why_of names (f.Gone v) = w.Gone (name_at names v)
why_of names (f.Held v) = w.Held (name_at names v)
why_of names (f.Twice v) = w.Twice (name_at names v)
why_of names (f.Fact u n) = w.Fact (arg_name names u) n
why_of names (f.Meet v) = w.Meet (name_at names v)
why_of names (f.Tag v) = w.Tag (name_at names v)
why_of names (f.Result k) = w.Result k

-- a step that may be refused
abbrev pub unless_refused : {A : Type 0} → List (List ℕ) → (Why → Refusal) → Option Fault → Result A Refusal → Result A Refusal
unless_refused names refuse None r = r
unless_refused names refuse (Some fault) r = Err (refuse (why_of names fault))
