-- What is told one after the other.
use Rattle.std.proofs.Common.{◌≡◌, List, [], ◌∷◌, ◌++◌, Option, Some, None, refl}
use Rattle.target_judge.specs.declared.told.Told.{Told}
use Rattle.target_judge.specs.Shape.{and_then}
use Rattle.target_judge.specs.Told.{Fact, tell, tell_all}

pub told_last : (x : Fact) (t : Told) → tell_all (x ∷ []) t ≡ tell x.kind x.name x.number t
told_last x t = last (tell x.kind x.name x.number t)
  where
    last : (o : Option Told) → and_then o (λ u. Some u) ≡ o
    last None = refl
    last (Some u) = refl

pub told_both : (xs ys : List Fact) (t : Told) → tell_all (xs ++ ys) t ≡ and_then (tell_all xs t) (tell_all ys)
told_both [] ys t = refl
told_both (x ∷ xs) ys t = by_first (told_both xs ys) (tell x.kind x.name x.number t)
  where
    by_first : ((u : Told) → tell_all (xs ++ ys) u ≡ and_then (tell_all xs u) (tell_all ys)) → (o : Option Told) → and_then o (tell_all (xs ++ ys)) ≡ and_then (and_then o (tell_all xs)) (tell_all ys)
    by_first rest None = refl
    by_first rest (Some u) = rest u
