use Rattle.std.proofs.Common.{subst}
use Rattle.sepref_top.specs.Making.{SaysTyped}
use Rattle.sepref_top.proofs.Names.{parameters_have_names}
use Rattle.sepref_top.proofs.synthesis.spec_answer.Goals as goal

pub served-requires-clause-names : goal.served-requires-clause-names
served-requires-clause-names g c =
    let found = subst (SaysTyped c.args.text.now) c.in-Ok.is c.in_ok-found.ensures in
    parameters_have_names found.reads
