use Rattle.nres_rules.proofs.FirstTyped as typing
use Rattle.nres_rules.proofs.laws.first_typed.Goals as goal

pub returns : goal.returns
returns c = typing.first_typed
