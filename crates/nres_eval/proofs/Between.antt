-- The first paths of a choice of a number, and of what is taken out of a container.
use Rattle.std.proofs.Common.{◌≡◌, ℕ, List, [], ◌∷◌, Option, None, ap, sym, ◌∙◌}
use Rattle.nres_core.specs.Mirror.{exp_of}
use Rattle.nres_core.specs.Runs.{◌>>=◌, Done, Gave, first_path}
use Rattle.nres_core.specs.declared.op.Op.{Op}
use Rattle.nres_core.specs.declared.tree.Expr.{Expr}
use Rattle.nres_core.specs.declared.value.Value.{Value}
use Rattle.nres_meaning.specs.Meaning.{Env, apply, exp_runs, head_of}
use Rattle.nres_meaning.specs.WordOperations.{op_named}
use Rattle.nres_eval.specs.Bodies.{any_runs, between, take_runs, value_runs}
use Rattle.nres_eval.proofs.Exprs.{First}
use Rattle.nres_eval.proofs.Paths.{at_gave, behind, first_bind, regroup}

pub between_path : (l : ℕ) (env : Env) (a b : Expr) → first_path (any_runs l (exp_of a) (exp_of b) env) ≡ behind (First l env a) (λ x. behind (First l env b) (λ y. first_path (between l x y)))
between_path l env a b =
    first_bind (exp_runs op_named (exp_of a) l env) (λ x. exp_runs op_named (exp_of b) l env >>= between l x)
    ∙ (λ i. behind (First l env a) (λ x. first_bind (exp_runs op_named (exp_of b) l env) (between l x) i))

-- what is taken out of the value of an expression
pub take_path : (l : ℕ) (w : List ℕ) (env : Env) (a : Expr) → first_path (take_runs l w (exp_of a) env) ≡ behind (first_path (value_runs l (exp_of a) env)) (λ vs. first_path (apply l (op_named (w, None) (head_of vs)) vs))
take_path l w env a =
    first_bind (exp_runs op_named (exp_of a) l env) (λ x. apply l (op_named (w, None) x) (x ∷ []))
    ∙ sym (ap (λ end. behind end (λ vs. first_path (apply l (op_named (w, None) (head_of vs)) vs))) (first_bind (exp_runs op_named (exp_of a) l env) (λ x. Done (x ∷ [])))
    ∙ regroup (First l env a) (λ x. Gave (x ∷ [])) (λ vs. first_path (apply l (op_named (w, None) (head_of vs)) vs))
    ∙ (λ i. behind (First l env a) (λ x. at_gave (x ∷ []) (λ vs. first_path (apply l (op_named (w, None) (head_of vs)) vs)) i)))

-- the operation that was found, on the same arguments
pub same_apply : (l : ℕ) (w : List ℕ) {vs one two : List Value} {op : Option Op} → op ≡ op_named (w, None) (head_of one) → one ≡ vs → two ≡ vs → first_path (apply l (op_named (w, None) (head_of vs)) vs) ≡ first_path (apply l op two)
same_apply l w {two = two} o i j = (λ z. first_path (apply l (op_named (w, None) (head_of (sym i z))) (sym j z))) ∙ ap (λ z. first_path (apply l z two)) (sym o)
