use Rattle.std.proofs.Common.{Option}
use Rattle.nres_core.specs.declared.op.Op.{Op}
use Rattle.nres_core.specs.declared.value.Value.{Value}
use Rattle.nres_meaning.specs.Laws.{FirstIsOne}
use Rattle.nres_meaning.specs.Meaning.{whole_runs}
use Rattle.nres_meaning.specs.WordOperations.{op_named, known}
use Rattle.nres_meaning.proofs.Lively.{whole_lively, gives_first, fails_first, overruns_first}
use Rattle.nres_meaning.proofs.laws.first_is_one.Goals as goal

is_one : {W : Type 0} (op_of : W → Value → Option Op) → FirstIsOne W op_of
is_one op_of = record {
  gives = λ n d p us vs e. gives_first (whole_runs op_of n d p us) vs (whole_lively op_of n d p us) e;
  fails = λ n d l p us e. fails_first (whole_runs op_of n d p us) l (whole_lively op_of n d p us) e;
  overruns = λ n d l p us e. overruns_first (whole_runs op_of n d p us) l (whole_lively op_of n d p us) e;
}

pub returns : goal.returns
returns c = (is_one op_named, is_one known)
