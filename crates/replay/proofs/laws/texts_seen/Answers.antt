use Rattle.std.proofs.Common.{◌∷◌, ◌++◌, [], codes, ap, lit<}
use Rattle.std.proofs.lemmas.Fmt.{decimal_digit}
use Rattle.replay.proofs.laws.texts_seen.Goals as goal

pub returns : goal.returns
returns c = record {
  root = ap (λ d. codes "at - " ++ (d ++ 10 ∷ [])) (decimal_digit 7 (lit< tt));
  below = ap (λ d. codes "at LR " ++ (d ++ 10 ∷ [])) (decimal_digit 0 (lit< tt));
}
