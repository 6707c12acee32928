-- Trees of choices that go in step give, fail and overrun alike.
use Rattle.std.proofs.Common.{List, sym, subst}
use Rattle.nres_core.specs.Runs.{Runs, Gives}
use Rattle.nres_core.specs.declared.value.Value.{Value}
use Rattle.nres_meaning.proofs.Steps.{flip, gives, fails, overruns}
use Rattle.identify_laws.specs.Environments.{InStep}
use Rattle.identify_laws.specs.Laws.{Same}

pub same_of : (r s : Runs (List Value)) → InStep r s → Same r s
same_of r s h = record {
  in_step = h;
  gives = λ vs. (
    (λ g. let p = gives h vs g in subst (λ z. Gives s z) (sym p.1) p.2),
    (λ g. let p = gives (flip h) vs g in subst (λ z. Gives r z) p.1 p.2),
  );
  fails = (fails h, fails (flip h));
  overruns = (overruns h (λ l. l), overruns (flip h) (λ l. l));
}
