-- The meaning of calls while a specification is evaluated.
use Rattle.std.specs.Prelude.{ℕ, List}
use Rattle.nres_core.specs.Mirror.{procs_of}
use Rattle.nres_core.specs.Runs.{Runs}
use Rattle.nres_core.specs.declared.tree.Fun.{Fun}
use Rattle.nres_core.specs.declared.value.Value.{Value}
use Rattle.nres_meaning.specs.Meaning.{calls}
use Rattle.nres_meaning.specs.WordOperations.{op_named}

-- of these procedures, with so many turns of each loop, and so deep at most
abbrev pub calls_of : List Fun → ℕ → ℕ → ℕ → List ℕ → List Value → Runs (List Value)
calls_of fs n d = calls op_named (procs_of fs) n d
