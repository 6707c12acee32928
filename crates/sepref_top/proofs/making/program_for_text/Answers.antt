use Rattle.std.proofs.Common.{subst}
use Rattle.sepref_top.specs.Making.{SaysTyped}
use Rattle.sepref_top.proofs.Names.{parameters_have_names}
use Rattle.sepref_top.proofs.making.program_for_text.Goals as goal

pub with_values-requires-clause-names : goal.with_values-requires-clause-names
with_values-requires-clause-names g c =
    let found = subst (SaysTyped c.args.text.now) c.in-Ok.is c.in_ok-found.ensures in
    parameters_have_names found.reads
