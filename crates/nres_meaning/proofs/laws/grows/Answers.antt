use Rattle.std.proofs.Common.{Option, subst, sym}
use Rattle.nres_core.specs.Runs.{Gives}
use Rattle.nres_core.specs.declared.op.Op.{Op}
use Rattle.nres_core.specs.declared.value.Value.{Value}
use Rattle.nres_meaning.specs.Laws.{Grows}
use Rattle.nres_meaning.specs.Meaning.{whole_runs}
use Rattle.nres_meaning.specs.WordOperations.{op_named, known}
use Rattle.nres_meaning.proofs.Growth.{whole_less}
use Rattle.nres_meaning.proofs.Steps.{gives, fails}
use Rattle.nres_meaning.proofs.laws.grows.Goals as goal

grow : {W : Type 0} (op_of : W → Value → Option Op) → Grows W op_of
grow op_of = record {
  gives = λ p n m us vs le g.
      let r = gives (whole_less op_of n m n m le le p us) vs g in
      subst (λ z. Gives (whole_runs op_of m m p us) z) (sym r.1) r.2;
  fails = λ p n m us le f. fails (whole_less op_of n m n m le le p us) f;
}

pub returns : goal.returns
returns c = (grow op_named, grow known)
