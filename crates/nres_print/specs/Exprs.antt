-- The text of expressions, with brackets where the tree could not be read back without them.
use Rattle.std.specs.Prelude.{ℕ, suc, Bool, cond, nat_eq, nat_le, List, [], ◌++◌, Option, Some, None, codes, decimal}
use Rattle.std.specs.List.{flat_map}
use Rattle.target_code.specs.declared.tree.Calc.{Calc}
use Rattle.nres_core.specs.declared.tree.Chosen.{Chosen}
use Rattle.nres_core.specs.declared.tree.Expr.{Expr, out-Expr}
use Rattle.nres_core.specs.declared.tree.Expr.TheOpen.{Expr-F}
use Rattle.nres_core.specs.declared.tree.Expr.TheFolds.{fold-Expr}
use Rattle.target_code.specs.Texts.{rep_text}
use Rattle.nres_print.specs.Spellings.{calc_text, looseness, left_level, right_level, truth_text, grouped}

-- the level from which on an expression stands without brackets: 0 is an atom, 1 an application or `!`, and m + 1 an expression of looseness m
abbrev pub level_at : {A : Type 0} → Expr-F A → ℕ
level_at (Expr-F.Num p n) = 0
level_at (Expr-F.Truth p b) = 0
level_at (Expr-F.Var x) = 0
level_at (Expr-F.Binary p w a b) = suc (looseness w)
level_at (Expr-F.Not p a) = 1
level_at (Expr-F.Apply p w es made) = 1

-- a word stands in front of its two sides, and a sign between them
abbrev pub front_text : Calc → List ℕ
front_text w = cond (nat_eq (looseness w) 0) (calc_text w ++ codes " ") []

abbrev pub between_text : Calc → List ℕ
between_text w = codes " " ++ cond (nat_eq (looseness w) 0) [] (calc_text w ++ codes " ")

-- the representation that is chosen for a constructor
abbrev pub chosen_text : Option Chosen → List ℕ
chosen_text None = []
chosen_text (Some c) = codes " as " ++ rep_text c.rep

abbrev pub in_brackets : List ℕ → List ℕ
in_brackets text = codes "(" ++ (text ++ codes ")")

-- atoms behind a word
abbrev pub atoms_at : {A : Type 0} → (A → ℕ → List ℕ) → List A → List ℕ
atoms_at text es = flat_map (λ e. codes " " ++ text e 0) es

-- an expression without brackets round it, by the texts of its parts at their levels
abbrev pub plain_at : {A : Type 0} → (A → ℕ → List ℕ) → Expr-F A → List ℕ
plain_at text (Expr-F.Num p n) = decimal n
plain_at text (Expr-F.Truth p b) = truth_text b
plain_at text (Expr-F.Var x) = x.name
plain_at text (Expr-F.Binary p w a b) = front_text w ++ (text a (left_level w) ++ (between_text w ++ text b (right_level w)))
plain_at text (Expr-F.Not p a) = codes "!" ++ text a 1
plain_at text (Expr-F.Apply p w es made) = w ++ (atoms_at text es ++ chosen_text made)

abbrev pub text_at : {A : Type 0} → (A → ℕ → List ℕ) → Expr-F A → ℕ → List ℕ
text_at text x l = cond (nat_le (level_at x) l) (plain_at text x) (in_brackets (plain_at text x))

abbrev pub text_step : Expr-F (ℕ → List ℕ) → ℕ → List ℕ
text_step = text_at (λ text. text)

-- an expression where this level is wanted
abbrev pub expr_text : Expr → ℕ → List ℕ
expr_text = fold-Expr (ℕ → List ℕ) text_step

-- without brackets round it
abbrev pub plain_text : Expr → List ℕ
plain_text e = plain_at expr_text (out-Expr e)

abbrev pub stands : Expr → ℕ → Bool
stands e l = nat_le (level_at (out-Expr e)) l

-- an expression that stands in no other, and results
abbrev pub whole_text : Expr → List ℕ
whole_text e = expr_text e 6

abbrev pub results_text : List Expr → List ℕ
results_text es = grouped whole_text es
