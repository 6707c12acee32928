use Rattle.std.proofs.Common.{◌∷◌, ◌++◌, [], codes, decimal, refl, ap, ◌∙◌, lit<}
use Rattle.std.proofs.lemmas.Fmt.{decimal_digit}
use Rattle.replay_lines.proofs.laws.lines_seen.Goals as goal

pub returns : goal.returns
returns c = record {
  race = ap (λ d. codes "race " ++ (d ++ (codes " L R" ++ 10 ∷ []))) (decimal_digit 5 (lit< tt));
  stuck = ap (λ d. codes "stuck " ++ (d ++ (codes " - main " ++ (decimal 1 ++ (codes " zero" ++ 10 ∷ []))))) (decimal_digit 0 (lit< tt)) ∙ ap (λ d. codes "stuck 0 - main " ++ (d ++ (codes " zero" ++ 10 ∷ []))) (decimal_digit 1 (lit< tt));
  full = ap (λ d. codes "full " ++ (d ++ 10 ∷ [])) (decimal_digit 2 (lit< tt));
  end = ap (λ d. codes "end " ++ (d ++ 10 ∷ [])) (decimal_digit 6 (lit< tt));
  open_ = ap (λ d. codes "open " ++ (d ++ 10 ∷ [])) (decimal_digit 5 (lit< tt));
  used = ap (λ d. codes "! step " ++ (d ++ (codes " name used" ++ 10 ∷ []))) (decimal_digit 2 (lit< tt));
  no_leaf = ap (λ d. codes "! step " ++ (d ++ (codes " no leaf" ++ 10 ∷ []))) (decimal_digit 1 (lit< tt));
  depth = refl;
  none = ap (λ d. codes "! not a schedule " ++ (d ++ 10 ∷ [])) (decimal_digit 9 (lit< tt));
}
