-- A tree that no text has.
use Rattle.std.specs.Prelude.{[], codes}
use Rattle.nres_rules.specs.Identify.{Identifies}
use Rattle.nres_core.specs.Samples.{at}
use Rattle.nres_rules.specs.Typed.{IsTyped}
use Rattle.nres_rules.specs.Types.{HasTyping}
use Rattle.nres_core.specs.declared.identified.IdBlock.{roll-IdBlock}
use Rattle.nres_core.specs.declared.identified.Identified.{Identified}
use Rattle.nres_core.specs.declared.tree.Block.{roll-Block}
use Rattle.nres_core.specs.declared.tree.Spec.{Spec}
use Rattle.nres_core.specs.declared.tree.Typing.{Typing}

-- it shows nothing, and its block has no results
abbrev pub bare : Spec
bare = record { name = codes "bare"; params = []; shown = []; body = roll-Block (record { steps = []; place = at 1 1; results = [] }); funs = [] }

abbrev pub bare_identified : Identified
bare_identified = record { name = codes "bare"; params = []; shown = []; body = roll-IdBlock (record { steps = []; place = at 1 1; results = [] }); funs = [] }

-- it has a typing, and with operations for its words it is not typed
pub record Seen : Type 0 where
  pub typing : Typing
  pub has : HasTyping bare typing
  pub identified : Identifies bare typing bare_identified
  pub not_typed : ¬ IsTyped bare_identified
