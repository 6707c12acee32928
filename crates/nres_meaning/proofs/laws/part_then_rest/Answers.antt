use Rattle.nres_meaning.proofs.Follows.{gives_then, gives_parts, fails_then, fails_here}
use Rattle.nres_meaning.proofs.laws.part_then_rest.Goals as goal

pub returns : goal.returns
returns c = record {
  gives = λ r f a b g h. gives_then r f a b g h;
  parts = λ r f b g. gives_parts r f b g;
  fails_later = λ r f a g h. fails_then r f a g h;
  fails_here = λ r f h. fails_here r f h;
}
