use Rattle.std.proofs.Common.{refl, ap, ◌++◌, ◌∷◌, [], List, ℕ}
use Rattle.std.specs.Fmt.{digits}
use Rattle.std.specs.Prelude.{codes}
use Rattle.relations.specs.ResultLines.{listed, numbers, map_text}
use Rattle.containers.specs.Bag as bags
use Rattle.relations.proofs.laws.lines_seen.Goals as goal

pub returns : goal.returns
unfolding digits bags.bag_of
returns c = record {
  none = refl;
  numbers = refl;
  list = refl;
  set = λ s e. ap (λ (ns : List ℕ). codes "= " ++ (codes "{" ++ listed (numbers ns) ++ codes "}") ++ 10 ∷ []) e;
  map = λ m e. ap (λ (es : List (ℕ × ℕ)). codes "= " ++ map_text es ++ 10 ∷ []) e;
  bag = refl;
  no_element = refl;
  no_key = λ m e. ap (λ (es : List (ℕ × ℕ)). codes "= " ++ map_text es ++ 10 ∷ []) e;
}
