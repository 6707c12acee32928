-- Parameters as inputs, and the representations that are shown.
use Rattle.std.proofs.Common.{◌≡◌, ℕ, suc, ◌+◌, ◌<◌, List, [], ◌∷◌, ◌++◌, take, length, get_or, arith, refl, ap, ◌∙◌, sym}
use Rattle.std.proofs.Math.Seq.{take-suc}
use Rattle.target_code.specs.declared.tree.InParam.{InParam}
use Rattle.target_code.specs.declared.tree.Rep.{Rep}
use Rattle.nres_core.specs.declared.tree.Param.{Param}
use Rattle.nres_core.specs.declared.tree.Shown.{Shown}
use Rattle.nres_rules.specs.Flatten.{taken, shown_reps}

one_more : {A : Type 0} (xs : List A) (i : ℕ) (x : A) → i < length xs → x ≡ get_or xs i x → take (i + 1) xs ≡ take i xs ++ x ∷ []
one_more xs i x h e = let s1 : suc i ≡ i + 1 = omega arith in ap (λ j. take j xs) (sym s1) ∙ (take-suc xs i x h ∙ ap (λ y. take i xs ++ y ∷ []) (sym e))

taken_then : (xs : List Param) (x : Param) → taken (xs ++ x ∷ []) ≡ taken xs ++ (record { name = x.name; rep = x.rep; kept = x.kept }) ∷ []
taken_then [] x = refl
taken_then (y ∷ xs) x = ap (λ z. (record { name = y.name; rep = y.rep; kept = y.kept }) ∷ z) (taken_then xs x)

reps_then : (xs : List Shown) (x : Shown) → shown_reps (xs ++ x ∷ []) ≡ shown_reps xs ++ x.rep ∷ []
reps_then [] x = refl
reps_then (y ∷ xs) x = ap (λ z. y.rep ∷ z) (reps_then xs x)

pub taken_more : (xs : List Param) (i : ℕ) (x : Param) {n : List ℕ} {ins outs : List InParam} → i < length xs → x ≡ get_or xs i x → n ≡ x.name → ins ≡ taken (take i xs)
    → outs ≡ ins ++ (record { name = n; rep = x.rep; kept = x.kept }) ∷ [] → outs ≡ taken (take (i + 1) xs)
taken_more xs i x {ins = ins} h e n k o =
    o ∙ (ap {B = List InParam} (λ z. ins ++ (record { name = z; rep = x.rep; kept = x.kept }) ∷ []) n ∙ (ap (λ z. z ++ (record { name = x.name; rep = x.rep; kept = x.kept }) ∷ []) k
    ∙ (sym (taken_then (take i xs) x) ∙ ap taken (sym (one_more xs i x h e)))))

pub shown_more : (xs : List Shown) (i : ℕ) (d : Shown) {reps outs : List Rep} → i < length xs → reps ≡ shown_reps (take i xs)
    → outs ≡ reps ++ (get_or xs i d).rep ∷ [] → outs ≡ shown_reps (take (i + 1) xs)
shown_more xs i d h k o =
    let s1 : suc i ≡ i + 1 = omega arith in
    o ∙ (ap (λ z. z ++ (get_or xs i d).rep ∷ []) k ∙ (sym (reps_then (take i xs) (get_or xs i d)) ∙ ap shown_reps (sym (take-suc xs i d h) ∙ ap (λ j. take j xs) s1)))
