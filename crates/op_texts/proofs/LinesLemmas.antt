-- Codes that are begun, and procedures that lines write down.
use Rattle.std.proofs.Common.{◌≡◌, IfOk, List, [], ◌∷◌, ◌++◌, refl, sym, ◌∙◌}
use Rattle.std.specs.Prelude.{Result, Ok, Err, Option, Some}
use Rattle.target_code.specs.declared.tree.Proc.{Proc}
use Rattle.op_texts.specs.Lines.{Open, onto, open_of}
use Rattle.op_texts.specs.declared.line.OpenCode.{OpenCode}

onto_more : (xs : List OpenCode) (x : OpenCode) (cs : Open) → onto (xs ++ x ∷ []) cs ≡ (x.test, x.list.items) ∷ onto xs cs
onto_more [] x cs = refl
onto_more (y ∷ xs) x cs = onto_more xs x ((y.test, y.list.items) ∷ cs)

pub open_more : (xs : List OpenCode) (x : OpenCode) → open_of (xs ++ x ∷ []) ≡ (x.test, x.list.items) ∷ open_of xs
open_more xs x = onto_more xs x []

-- a procedure that is made of lines is the one that they write down
some_same : {A : Type 0} (p q : A) → Some p ≡ Some q → q ≡ p
some_same p q e = cc e

pub is_text : {E : Type 0} (r : Result Proc E) (w : Option Proc) (p : Proc) → w ≡ Some p → IfOk r (λ q. w ≡ Some q) → IfOk r (λ q. q ≡ p)
is_text (Ok q) w p e h = some_same p q (sym e ∙ h)
is_text (Err x) w p e h = tt
