-- The tree of the text `first` as plain data.
use Rattle.std.proofs.Common.{◌≡◌, ℕ, List, [], ◌∷◌, None, ap, ◌∙◌}
use Rattle.std.specs.Prelude.{codes}
use Rattle.nres_core.specs.Mirror.{exp_of, all_exps, bod_of, blk_of, all_steps}
use Rattle.nres_core.specs.Samples.{first_tree, first_step, first_body, first_word, first_results, at, var}
use Rattle.nres_core.specs.Tree as t
use Rattle.nres_core.specs.Tree.{Exp, Exps, Blk, Bod, Steps, Word}
use Rattle.nres_core.specs.declared.place.Named.{Named}
use Rattle.nres_core.specs.declared.place.Place.{Place}
use Rattle.nres_core.specs.declared.tree.Expr.TheVariants as expr
use Rattle.nres_core.proofs.Mirrored.{mirrored}

abbrev pub named : List ℕ → Place → Named
named x p = record { name = x; place = p }

abbrev pub args : Exps Word
args = t.Also (t.Var (named (codes "xs") (at 2 12))) (t.Also (t.Num (at 2 15) 0) t.None_left)

args_are : all_exps (var (codes "xs") (at 2 12) ∷ expr.Num (at 2 15) 0 ∷ []) ≡ args
args_are =
    ap (λ (e : Exp Word). t.Also e (t.Also (exp_of (expr.Num (at 2 15) 0)) t.None_left)) (mirrored.var (named (codes "xs") (at 2 12)))
    ∙ ap (λ (e : Exp Word). t.Also (t.Var (named (codes "xs") (at 2 12))) (t.Also e t.None_left)) (mirrored.num (at 2 15) 0)

abbrev pub word : Exp Word
word = t.Apply (at 2 8) (codes "get", None) args None

word_is : exp_of first_word ≡ word
word_is =
    mirrored.apply (at 2 8) (codes "get") (var (codes "xs") (at 2 12) ∷ expr.Num (at 2 15) 0 ∷ []) None
    ∙ ap (λ (es : Exps Word). t.Apply (at 2 8) (codes "get", None) es None) args_are

body_is : bod_of first_body ≡ t.Value word
body_is = mirrored.value first_word ∙ ap (λ (e : Exp Word). t.Value e) word_is

abbrev pub steps : Steps Word
steps = t.Bind (named (codes "x") (at 2 3) ∷ []) (at 2 3) (t.Value word) t.No_step

steps_are : all_steps (first_step ∷ []) ≡ steps
steps_are =
    ap (λ (f : Steps Word → Steps Word). f t.No_step) (mirrored.bind (named (codes "x") (at 2 3) ∷ []) (at 2 3) first_body)
    ∙ ap (λ (b : Bod Word). t.Bind (named (codes "x") (at 2 3) ∷ []) (at 2 3) b t.No_step) body_is

abbrev pub results : Exps Word
results = t.Also (t.Var (named (codes "x") (at 3 10))) t.None_left

abbrev pub plain_block : Blk Word
plain_block = t.Returns steps (at 3 3) results

pub block_is : blk_of first_tree.body ≡ plain_block
block_is =
    mirrored.block (first_step ∷ []) (at 3 3) first_results
    ∙ ap (λ (ss : Steps Word). t.Returns ss (at 3 3) (all_exps first_results)) steps_are
    ∙ ap (λ (e : Exp Word). t.Returns steps (at 3 3) (t.Also e t.None_left)) (mirrored.var (named (codes "x") (at 3 10)))
