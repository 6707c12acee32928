-- What a push may claim, as its rows say it.
use Rattle.std.proofs.Common.{◌≡◌, ◌≢◌, ℕ, ◌+◌, List, [], ◌∷◌, ◌++◌, length, refl, sym, ap, ◌∙◌, arith, eqb, eq-eqb, ne_eqb, append-nil}
use Rattle.std.proofs.lemmas.Bool.{cond-true, cond-false}
use Rattle.std.proofs.lemmas.List.{length-append}
use Rattle.std.specs.Prelude.{Option, Some, None, option_to_list}
use Rattle.nres_core.specs.declared.value.Value.{Value}
use Rattle.row_laws.specs.Rows.{if_full}
use Rattle.op_base.specs.Push.{push_claims}

-- a block of twice the words, where no word is left
abbrev pub room_for : ℕ → List ℕ → Option ℕ
room_for n [] = Some (n + n)
room_for n (r ∷ rest) = None

pub claims_are : (n : ℕ) (rest : List ℕ) → push_claims n rest [] ≡ option_to_list (room_for n rest)
claims_are n [] = refl
claims_are n (r ∷ rest) = refl

pub claim_is : (vs : List Value) (b : ℕ) (xs rest regs : List ℕ) → if_full vs (b ∷ length xs ∷ length (xs ++ rest) ∷ regs) ≡ room_for (length xs) rest
claim_is vs b xs [] regs =
    let e : length xs ≡ length (xs ++ []) = sym (ap length (append-nil xs)) in
    cond-true (eqb (length xs) (length (xs ++ []))) _ _ (eq-eqb (length xs) (length (xs ++ [])) e) ∙ ap (λ z. Some (z + z)) (sym e)
claim_is vs b xs (r ∷ rest) regs =
    let ne : length xs ≢ length (xs ++ r ∷ rest) = omega (arith, length-append xs (r ∷ rest)) in
    cond-false (eqb (length xs) (length (xs ++ r ∷ rest))) _ _ (ne_eqb (length xs) (length (xs ++ r ∷ rest)) ne)
