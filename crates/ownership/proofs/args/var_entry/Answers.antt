use Rattle.std.proofs.Common.{◌∙◌, sym, ap}
use Rattle.std.specs.Option.{option_map}
use Rattle.ownership.specs.Entries.{spot_of}
use Rattle.ownership.proofs.StepsLemmas.{spot_found, spot_missing}
use Rattle.ownership.proofs.args.var_entry.Goals as goal

pub returns-in-Some : goal.returns-in-Some
returns-in-Some c = spot_found c.args.context.now.spots c.args.var (spot_of c.in-Some.entry) (sym c.entry.ensures ∙ ap (option_map spot_of) c.in-Some.is)

pub returns-in-None : goal.returns-in-None
returns-in-None c = c.plain.ensures ∙ spot_missing c.args.context.now.spots c.args.var (sym c.entry.ensures ∙ ap (option_map spot_of) c.in-None.is)
