-- The text of a small tree.
use Rattle.std.proofs.Common.{◌≡◌, [], ◌∷◌, ◌++◌, None, ap, ◌∙◌, codes, arith}
use Rattle.std.proofs.lemmas.Fmt.{decimal_digit}
use Rattle.nres_core.specs.Samples.{first_tree, first_step, first_body, first_word, first_results, at, var}
use Rattle.nres_core.specs.declared.tree.Expr.{Expr}
use Rattle.nres_core.specs.declared.tree.Expr.TheVariants as expr
use Rattle.target_code.specs.Texts.{indent}
use Rattle.nres_print.specs.Heads.{head_text}
use Rattle.nres_print.specs.Exprs.{expr_text}
use Rattle.nres_print.specs.Blocks.{body_text, step_text, block_text}
use Rattle.nres_print.specs.Samples.{FirstPrinted}
use Rattle.nres_print.proofs.Printed as t

xs : Expr
xs = var (codes "xs") (at 2 12)

zeroth : Expr
zeroth = expr.Num (at 2 15) 0

x : Expr
x = var (codes "x") (at 3 10)

xs_is : expr_text xs 0 ≡ codes "xs"
unfolding xs
xs_is = t.var (record { name = codes "xs"; place = at 2 12 }) 0

x_is : expr_text x 6 ≡ codes "x"
unfolding x
x_is = t.var (record { name = codes "x"; place = at 3 10 }) 6

zeroth_is : expr_text zeroth 0 ≡ codes "0"
unfolding zeroth
zeroth_is = t.num (at 2 15) 0 0 ∙ decimal_digit 0 (omega arith)

word_is : expr_text first_word 6 ≡ codes "get xs 0"
unfolding xs zeroth
word_is =
    t.apply (at 2 8) (codes "get") (xs ∷ zeroth ∷ []) None 6
    ∙ ap (λ a. codes "get" ++ (((codes " " ++ a) ++ ((codes " " ++ expr_text zeroth 0) ++ [])) ++ [])) xs_is
    ∙ ap (λ a. codes "get" ++ (((codes " " ++ codes "xs") ++ ((codes " " ++ a) ++ [])) ++ [])) zeroth_is

body_is : body_text first_body 1 ≡ codes "get xs 0"
body_is = t.value first_word 1 ∙ ap (λ a. a ++ []) word_is

step_is : step_text first_step 1 ≡ codes "  x <- get xs 0\n"
step_is = t.bind (record { name = codes "x"; place = at 2 3 } ∷ []) (at 2 3) first_body 1 ∙ ap (λ a. indent 1 ++ (codes "x" ++ (codes " <- " ++ (a ++ codes "\n")))) body_is

block_is : block_text first_tree.body 1 ≡ codes "  x <- get xs 0\n  return x\n"
unfolding x
block_is =
    t.block (first_step ∷ []) (at 3 3) first_results 1
    ∙ ap (λ a. (a ++ []) ++ (indent 1 ++ (codes "return " ++ (expr_text x 6 ++ codes "\n")))) step_is
    ∙ ap (λ a. (codes "  x <- get xs 0\n" ++ []) ++ (indent 1 ++ (codes "return " ++ (a ++ codes "\n")))) x_is

pub first_printed : FirstPrinted
first_printed = ap (λ a. head_text (codes "spec ") first_tree.name first_tree.params first_tree.shown ++ (a ++ (codes "end\n" ++ []))) block_is
