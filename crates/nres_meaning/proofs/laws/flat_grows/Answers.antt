use Rattle.std.proofs.Common.{subst, sym}
use Rattle.nres_core.specs.Runs.{Gives}
use Rattle.nres_meaning.specs.FlatMeaning.{flat_runs}
use Rattle.nres_meaning.specs.Laws.{FlatGrows}
use Rattle.nres_meaning.proofs.FlatGrowth.{flat_less, binds_less, calls_less}
use Rattle.nres_meaning.proofs.Steps.{gives, fails}
use Rattle.nres_meaning.proofs.laws.flat_grows.Goals as goal

grows : FlatGrows
grows = record {
  gives = λ p n m us vs le g.
      let r = gives (flat_less p n m n m le le us) vs g in
      subst (λ z. Gives (flat_runs m m p us) z) (sym r.1) r.2;
  fails = λ p n m us le f. fails (flat_less p n m n m le le us) f;
}

pub returns : goal.returns
returns c = record { whole = grows; binds = binds_less; calls = calls_less }
