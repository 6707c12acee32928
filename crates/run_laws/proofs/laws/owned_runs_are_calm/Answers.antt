use Rattle.run_laws.proofs.OwnedRuns.{calm_along, calm_machine}
use Rattle.run_laws.proofs.laws.owned_runs_are_calm.Goals as goal

pub returns : goal.returns
returns c = record {
  held = λ room sized T es t h hs w. calm_along room sized T es t h hs w;
  machine = λ room sized T es t h hs w. calm_machine room sized T es t h hs w;
}
