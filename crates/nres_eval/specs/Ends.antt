-- What an evaluation answers of a first path.
use Rattle.std.specs.Prelude.{◌≡◌, List, ◌++◌, Result, Ok, Err}
use Rattle.nres_core.specs.Runs.{End, Gave, Fell, Late}
use Rattle.nres_eval.specs.declared.end.EvalEnd.{EvalEnd}
use Rattle.nres_eval.specs.declared.end.EvalEnd.TheVariants as e

-- whether an answer tells the end of a path
abbrev pub Tells : {A : Type 0} → Result A EvalEnd → End A → Type 0
Tells (Ok x) end = end ≡ Gave x
Tells (Err (e.Fails l)) end = end ≡ Fell l
Tells (Err (e.OutOfTurns l)) end = end ≡ Late l
Tells (Err e.Memory) end = Unit {0}

-- values in front of those that a path gives
abbrev pub onto : {A : Type 0} → List A → End (List A) → End (List A)
onto us (Gave vs) = Gave (us ++ vs)
onto us (Fell l) = Fell l
onto us (Late l) = Late l

-- an answer leads on to the next end, or tells of the end of all
abbrev pub Leads : {A B : Type 0} → Result A EvalEnd → End B → End B → Type 0
Leads (Ok x) later all = all ≡ later
Leads (Err (e.Fails l)) later all = all ≡ Fell l
Leads (Err (e.OutOfTurns l)) later all = all ≡ Late l
Leads (Err e.Memory) later all = Unit {0}
