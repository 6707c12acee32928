-- What a walk over binds finds.
use Rattle.std.specs.Prelude.{◌≡◌, ◌≤◌, ℕ, List, length, Option, Some, None}
use Rattle.context_laws.specs.Stacks.{Held}
use Rattle.context_laws.specs.Steps.{with_spots}
use Rattle.nres_core.specs.FlatTree.{Binds, Before, flat_procs_of}
use Rattle.nres_core.specs.declared.refusal.Refusal.{Refusal}
use Rattle.ownership.specs.declared.entry.Fault.{Fault}
use Rattle.proc_rules.specs.Calls.{taken_of}
use Rattle.rule_check.specs.Check.{check, sigs_of}
use Rattle.rule_check.specs.Context.{Spot, all_go, binding}
use Rattle.rule_check.specs.Steps as s
use Rattle.rule_check.specs.Steps.{Sig, lists, call_shapes}
use Rattle.rule_steps.specs.Loops.{or_refused}
use Rattle.rule_steps.specs.Operations.{table_row}
use Rattle.rule_steps.specs.States.{ctx_of}
use Rattle.rule_steps.specs.declared.state.State.{State}
use Rattle.rule_walk.specs.declared.book.Book.{Book}

-- the book of the rule check
abbrev pub book_in : Book → s.Book
book_in b = record { row_for = table_row; sigs = sigs_of (flat_procs_of b.funs.now); names = b.names.now }

-- a bind is walked: what follows it is checked from the new context on, unless it is refused
abbrev pub Walked : s.Book → Before → State → State → Option Refusal → Type 0
Walked book bind old new refused = (rest : Binds) → check book (bind rest) (ctx_of old) ≡ or_refused refused (check book rest (ctx_of new))

-- the calculations of the list of binds are the newest
abbrev pub IsOpen : State → Type 0
IsOpen x = x.start ≤ length x.calculations

-- the results of a call on top of entries
abbrev pub results_of : List ℕ → List Spot → Option Sig → List Spot → List Spot
results_of to ss None xs = xs
results_of to ss (Some g) xs = binding to (call_shapes g.outs (lists g.params ss)) xs

-- what a call leaves; a refusal changes nothing
abbrev pub after_call : Option Fault → List ℕ → List Spot → Option Sig → Held → Held
after_call (Some fault) to ss g x = x
after_call None to ss g x = with_spots x (results_of to ss g (all_go (taken_of ss g) x.spots))
