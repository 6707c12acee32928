-- The texts of expressions and blocks, by their layers.
use Rattle.std.proofs.Common.{◌≡◌, ℕ, List, [], ◌∷◌, ◌++◌, map, cond, nat_le, refl, ap, ◌∙◌, codes}
use Rattle.nres_core.specs.declared.tree.Block.{Block, out-Block}
use Rattle.nres_core.specs.declared.tree.Body.{Body, out-Body}
use Rattle.nres_core.specs.declared.tree.Body.TheFolds.{fold_out-Block, fold_out-Step, fold_out-Body, map-Step, map-Body}
use Rattle.nres_core.specs.declared.tree.Body.TheOpen as O
use Rattle.nres_core.specs.declared.tree.Expr.{Expr, out-Expr, map-Expr}
use Rattle.nres_core.specs.declared.tree.Expr.TheFolds.{fold_out-Expr}
use Rattle.nres_core.specs.declared.tree.Expr.TheOpen.{Expr-F}
use Rattle.nres_core.specs.declared.tree.Step.{Step, out-Step}
use Rattle.nres_print.specs.Exprs.{expr_text, text_at, text_step, atoms_at, chosen_text, in_brackets, results_text}
use Rattle.target_code.specs.Texts.{indent}
use Rattle.nres_print.specs.Blocks.{Text, body_text, step_text, block_text, body_at, step_at, block_at, steps_at, body_step, step_step, block_step}

-- ---- expressions

atoms : (es : List Expr) → atoms_at (λ (text : ℕ → List ℕ). text) (map expr_text es) ≡ atoms_at expr_text es
atoms [] = refl
atoms (e ∷ es) = ap (λ x. (codes " " ++ expr_text e 0) ++ x) (atoms es)

by_layer : (x : Expr-F Expr) (l : ℕ) → text_step (map-Expr Expr (ℕ → List ℕ) expr_text x) l ≡ text_at expr_text x l
by_layer (Expr-F.Num p n) l = refl
by_layer (Expr-F.Truth p b) l = refl
by_layer (Expr-F.Var x) l = refl
by_layer (Expr-F.Binary p w a b) l = refl
by_layer (Expr-F.Not p a) l = refl
by_layer (Expr-F.Apply p w es made) l = ap (λ x. cond (nat_le 1 l) (w ++ (x ++ chosen_text made)) (in_brackets (w ++ (x ++ chosen_text made)))) (atoms es)

pub expr_layer : (e : Expr) (l : ℕ) → expr_text e l ≡ text_at expr_text (out-Expr e) l
expr_layer e l = ap (λ f. f l) (fold_out-Expr (ℕ → List ℕ) text_step e) ∙ by_layer (out-Expr e) l

-- ---- blocks

steps : (ss : List Step) (n : ℕ) → steps_at (λ (text : Text). text) (map step_text ss) n ≡ steps_at step_text ss n
steps [] n = refl
steps (s ∷ ss) n = ap (λ x. step_text s n ++ x) (steps ss n)

by_body : (x : O.Body-F Body Step Block) (n : ℕ) → body_step (map-Body Body Step Block Text Text Text body_text step_text block_text x) n ≡ body_at block_text x n
by_body (O.Value e) n = refl
by_body (O.Take p w e) n = refl
by_body (O.Any p a b) n = refl
by_body (O.If p e a b) n = refl
by_body (O.While p xs q es e b) n = refl
by_body (O.Par p a b) n = refl
by_body (O.Split p xs e l a r b) n = refl
by_body (O.Either p a b) n = refl
by_body (O.Foreach p x s xs q es b) n = refl
by_body (O.Call p f es) n = refl

by_step : (x : O.Step-F Body Step Block) (n : ℕ) → step_step (map-Step Body Step Block Text Text Text body_text step_text block_text x) n ≡ step_at body_text x n
by_step (O.Bind xs p b) n = refl
by_step (O.Assert p e) n = refl

pub body_layer : (b : Body) (n : ℕ) → body_text b n ≡ body_at block_text (out-Body b) n
body_layer b n = ap (λ f. f n) (fold_out-Body Text Text Text body_step step_step block_step b) ∙ by_body (out-Body b) n

pub step_layer : (s : Step) (n : ℕ) → step_text s n ≡ step_at body_text (out-Step s) n
step_layer s n = ap (λ f. f n) (fold_out-Step Text Text Text body_step step_step block_step s) ∙ by_step (out-Step s) n

pub block_layer : (b : Block) (n : ℕ) → block_text b n ≡ block_at step_text (out-Block b) n
block_layer b n = ap (λ f. f n) (fold_out-Block Text Text Text body_step step_step block_step b) ∙ ap (λ x. x ++ (indent n ++ (codes "return " ++ (results_text (out-Block b).results ++ codes "\n")))) (steps (out-Block b).steps n)
