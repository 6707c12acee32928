-- The first paths of expressions.
use Rattle.std.proofs.Common.{◌≡◌, ℕ, ◌+◌, ◌<◌, List, [], ◌∷◌, ◌++◌, length, drop, get_or, Bool, false, Option, ap, sym, ◌∙◌}
use Rattle.target_code.specs.declared.tree.Calc.{Calc}
use Rattle.target_code.specs.declared.tree.Calc.TheVariants as c
use Rattle.nres_core.proofs.Mirrored.{mirrored}
use Rattle.nres_core.specs.Mirror.{exp_of, all_exps, rep_of}
use Rattle.nres_core.specs.Ops.{calc_runs}
use Rattle.nres_core.specs.Runs.{Runs, Done, ◌>>=◌, End, Gave, first_path}
use Rattle.nres_core.specs.Tree.{Exp, Word}
use Rattle.nres_core.specs.declared.op.Op.{Op}
use Rattle.nres_core.specs.declared.place.Place.{Place}
use Rattle.nres_core.specs.declared.tree.Chosen.{Chosen}
use Rattle.nres_core.specs.declared.tree.Expr.{Expr}
use Rattle.nres_core.specs.declared.tree.Expr.TheVariants as x
use Rattle.nres_core.specs.declared.value.Value.{Value}
use Rattle.nres_core.specs.declared.value.Value.TheVariants as v
use Rattle.nres_meaning.specs.Meaning.{Env, apply, exp_runs, exps_runs, head_of}
use Rattle.nres_meaning.specs.WordOperations.{op_named}
use Rattle.nres_eval.specs.Ends.{onto}
use Rattle.nres_eval.proofs.Paths.{behind, first_bind, next, onto_one, next_item}

module _ (l : ℕ) (env : Env) where
  -- the first path of an expression, and of several
  abbrev pub First : Expr → End Value
  First e = first_path (exp_runs op_named (exp_of e) l env)

  abbrev pub Firsts : List Expr → End (List Value)
  Firsts es = first_path (exps_runs op_named (all_exps es) l env)

  abbrev of_tree : Exp Word → End Value
  of_tree z = first_path (exp_runs op_named z l env)

  pub binary_path : {e a' b' : Expr} {p : Place} {w : Calc} {a b : Expr} → e ≡ x.Binary p w a b → a' ≡ a → b' ≡ b → First e ≡ behind (First a') (λ y. behind (First b') (λ z. first_path (calc_runs l w y z)))
  binary_path {a' = a'} {b' = b'} {p = p} {w = w} {a = a} {b = b} h ha hb =
      ap of_tree (ap exp_of h ∙ mirrored.binary p w a b)
      ∙ first_bind (exp_runs op_named (exp_of a) l env) (λ y. exp_runs op_named (exp_of b) l env >>= λ z. calc_runs l w y z)
      ∙ (λ i. behind (First a) (λ y. first_bind (exp_runs op_named (exp_of b) l env) (λ z. calc_runs l w y z) i))
      ∙ (λ i. behind (First (sym ha i)) (λ y. behind (First (sym hb i)) (λ z. first_path (calc_runs l w y z))))

  pub not_path : {e a' : Expr} {p : Place} {a : Expr} → e ≡ x.Not p a → a' ≡ a → First e ≡ behind (First a') (λ z. first_path (calc_runs l c.Eq z (v.Bool false)))
  not_path {a' = a'} {p = p} {a = a} h ha =
      ap of_tree (ap exp_of h ∙ mirrored.not_ p a)
      ∙ first_bind (exp_runs op_named (exp_of a) l env) (λ z. calc_runs l c.Eq z (v.Bool false))
      ∙ (λ i. behind (First (sym ha i)) (λ z. first_path (calc_runs l c.Eq z (v.Bool false))))

  pub apply_path : {e : Expr} {p : Place} {w : List ℕ} {es es' : List Expr} {made : Option Chosen} → e ≡ x.Apply p w es made → es' ≡ es
      → First e ≡ behind (Firsts es') (λ vs. behind (first_path (apply l (op_named (w, rep_of made) (head_of vs)) vs)) (λ us. Gave (head_of us)))
  apply_path {p = p} {w = w} {es = es} {made = made} h hs =
      ap of_tree (ap exp_of h ∙ mirrored.apply p w es made)
      ∙ first_bind (exps_runs op_named (all_exps es) l env) (λ vs. apply l (op_named (w, rep_of made) (head_of vs)) vs >>= λ us. Done (head_of us))
      ∙ (λ i. behind (Firsts es) (λ vs. first_bind (apply l (op_named (w, rep_of made) (head_of vs)) vs) (λ us. Done (head_of us)) i))
      ∙ (λ i. behind (Firsts (sym hs i)) (λ vs. behind (first_path (apply l (op_named (w, rep_of made) (head_of vs)) vs)) (λ us. Gave (head_of us))))

  -- one expression more of several
  pub more_path : (es : List Expr) (i : ℕ) (us : List Value) {a : Expr} {all : End (List Value)} → i < length es → a ≡ get_or es i a → all ≡ onto us (Firsts (drop i es)) → all ≡ behind (First a) (λ u. onto (us ++ u ∷ []) (Firsts (drop (i + 1) es)))
  more_path es i us {a = a} lt is h = h ∙ ap (λ z. onto us (Firsts z)) (next_item es i lt is) ∙ onto_one (exp_runs op_named (exp_of a) l env) (exps_runs op_named (all_exps (drop (i + 1) es)) l env) us

-- the operation that was found, on the arguments that were given
pub apply_rest : (l : ℕ) (w : List ℕ) (made : Option Chosen) {all : End Value} {args : End (List Value)} {vs one two : List Value} {op : Option Op}
    → all ≡ behind args (λ us. behind (first_path (apply l (op_named (w, rep_of made) (head_of us)) us)) (λ us. Gave (head_of us))) → args ≡ Gave vs
    → op ≡ op_named (w, rep_of made) (head_of one) → one ≡ vs → two ≡ vs → all ≡ behind (first_path (apply l op two)) (λ us. Gave (head_of us))
apply_rest l w made {two = two} {op = op} h k o i j =
    next _ h k
    ∙ (λ z. behind (first_path (apply l (op_named (w, rep_of made) (head_of (sym i z))) (sym j z))) (λ us. Gave (head_of us)))
    ∙ ap (λ z. behind (first_path (apply l z two)) (λ us. Gave (head_of us))) (sym o)
