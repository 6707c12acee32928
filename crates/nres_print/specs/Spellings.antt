-- The words and signs of a specification's text, and the levels of what stands beside a sign.
use Rattle.std.specs.Prelude.{ℕ, zero, suc, Bool, true, false, cond, nat_eq, List, [], ◌∷◌, ◌++◌, codes, decimal}
use Rattle.std.specs.List.{flat_map}
use Rattle.target_code.specs.declared.tree.Calc.{Calc}
use Rattle.target_code.specs.declared.tree.Calc.TheVariants as calc
use Rattle.target_code.specs.declared.tree.Rep.{Rep}
use Rattle.target_code.specs.Texts.{rep_text}
pub use Rattle.nres_core.specs.Vocabulary.{looseness}
use Rattle.nres_core.specs.Vocabulary.{word_of}
use Rattle.nres_core.specs.declared.ty.Ty.{Ty}
use Rattle.nres_core.specs.declared.ty.Ty.TheVariants as ty

-- the sign or the word of a calculation; the last three stand in no specification
abbrev pub calc_text : Calc → List ℕ
calc_text calc.Add = codes "+"
calc_text calc.Sub = codes "-"
calc_text calc.Mul = codes "*"
calc_text calc.Div = codes "/"
calc_text calc.Mod = codes "%"
calc_text calc.Min = codes "min"
calc_text calc.Max = codes "max"
calc_text calc.Lt = codes "<"
calc_text calc.Le = codes "<="
calc_text calc.Eq = codes "=="
calc_text calc.Ne = codes "!="
calc_text calc.And = codes "&&"
calc_text calc.Or = codes "||"
calc_text calc.Xor = codes "xor"
calc_text calc.Shl = codes "shl"
calc_text calc.Shr = codes "shr"

-- the level of what stands on the left of a sign, where level 0 is an atom, 1 an application or `!`, and m + 1 an expression of looseness m:
-- signs group to the left, but comparisons do not
abbrev pub left_level : Calc → ℕ
left_level w = cond (nat_eq (looseness w) 0) 0 (cond (nat_eq (looseness w) 3) 3 (suc (looseness w)))

-- and on its right
abbrev pub right_level : Calc → ℕ
right_level w = looseness w

-- things with ", " between two of them
abbrev pub listed : {A : Type 0} → (A → List ℕ) → List A → List ℕ
listed text [] = []
listed text (x ∷ xs) = text x ++ flat_map (λ y. codes ", " ++ text y) xs

-- in brackets; several things are in brackets, and one is not
abbrev pub bracketed : {A : Type 0} → (A → List ℕ) → List A → List ℕ
bracketed text xs = codes "(" ++ (listed text xs ++ codes ")")

abbrev pub grouped : {A : Type 0} → (A → List ℕ) → List A → List ℕ
grouped text (x ∷ []) = text x
grouped text xs = bracketed text xs

abbrev pub truth_text : Bool → List ℕ
truth_text true = codes "true"
truth_text false = codes "false"

-- a type with its representation
abbrev pub held_text : Ty → Rep → List ℕ
held_text u x = word_of u ++ (codes " as " ++ rep_text x)

abbrev pub type_text : Ty → Rep → List ℕ
type_text ty.Nat x = word_of ty.Nat
type_text ty.Bool x = word_of ty.Bool
type_text u x = held_text u x
