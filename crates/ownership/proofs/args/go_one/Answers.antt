use Rattle.std.proofs.Common.{◌∙◌, sym}
use Rattle.ownership.specs.Entries.{spot_of}
use Rattle.ownership.proofs.StepsLemmas.{plain_stays}
use Rattle.ownership.proofs.args.go_one.Goals as goal

pub returns-else-is_container-clause-ok : goal.returns-else-is_container-clause-ok
returns-else-is_container-clause-ok c = plain_stays c.args.context.now (spot_of c.args.entry.now) (sym c.is_container.ensures ∙ c.if-is_container.false)
