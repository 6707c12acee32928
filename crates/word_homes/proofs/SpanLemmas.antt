-- Registers that follow one another, one after the other.
use Rattle.std.proofs.Common.{◌≡◌, ◌<◌, ◌+◌, ◌-◌, ℕ, suc, List, [], ◌∷◌, ◌++◌, sym, ap, ◌∙◌, arith, append_assoc}
use Rattle.prints.specs.Homes.{registers, span}
use Rattle.prints.specs.declared.home.Home.{Home}
use Rattle.prints.specs.declared.home.Home.TheVariants.{Register}

pub span_step : (out more whole : List ℕ) (n k m i count : ℕ) → i < count → out ++ span n (count - i) ≡ whole → more ≡ out ++ n ∷ [] → k ≡ n + 1 → m ≡ i + 1 → more ++ span k (count - m) ≡ whole
span_step out more whole n k m i count lt e f g h =
    let c : count - i ≡ suc (count - (i + 1)) = omega arith in
    let d : suc n ≡ n + 1 = omega arith in
    (λ j. f j ++ span (g j) (count - h j)) ∙ append_assoc out (n ∷ []) (span (n + 1) (count - (i + 1)))
    ∙ ap (λ z. out ++ (n ∷ span z (count - (i + 1)))) (sym d) ∙ ap (λ z. out ++ span n z) (sym c) ∙ e

pub words_step : (out more whole : List Home) (n k m i count : ℕ) → i < count → out ++ registers (span n (count - i)) ≡ whole → more ≡ out ++ Register n ∷ [] → k ≡ n + 1 → m ≡ i + 1 → more ++ registers (span k (count - m)) ≡ whole
words_step out more whole n k m i count lt e f g h =
    let c : count - i ≡ suc (count - (i + 1)) = omega arith in
    let d : suc n ≡ n + 1 = omega arith in
    (λ j. f j ++ registers (span (g j) (count - h j))) ∙ append_assoc out (Register n ∷ []) (registers (span (n + 1) (count - (i + 1))))
    ∙ ap (λ z. out ++ (Register n ∷ registers (span z (count - (i + 1))))) (sym d) ∙ ap (λ z. out ++ registers (span n z)) (sym c) ∙ e
