use Rattle.std.proofs.Common.{◌≡◌, ◌++◌, drop}
use Rattle.nres_rules.specs.Types.{shown_types, some_types}
use Rattle.nres_types.proofs.profiles.shown_types.Given as goal

abbrev pub invariant-loop-one : goal.invariant-loop-one
invariant-loop-one l = some_types (shown_types l.shown) ≡ l.types.items ++ some_types (shown_types (drop l.one-index l.shown))
