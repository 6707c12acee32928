-- The outermost layer of trees.
use Rattle.std.proofs.Common.{◌≡◌, ℕ, List, Option, ap, ◌∙◌, sym}
use Rattle.nres_rules.specs.Identify.{next_op, other_ops, id_exp, id_exps, id_blk, id_steps}
use Rattle.nres_core.specs.Mirror.{exp_of, blk_of, all_exps, all_steps, id_exp_of, id_blk_of, all_id_exps, all_id_steps}
use Rattle.nres_core.specs.Tree as t
use Rattle.nres_core.specs.Tree.{Exps, Steps, Word}
use Rattle.nres_core.specs.declared.identified.IdBlock.{roll-IdBlock}
use Rattle.nres_core.specs.declared.identified.IdExpr.{IdExpr}
use Rattle.nres_core.specs.declared.identified.IdExpr.TheVariants as ide
use Rattle.nres_core.specs.declared.identified.IdStep.{IdStep}
use Rattle.nres_core.specs.declared.op.Op.{Op}
use Rattle.nres_core.specs.declared.place.Place.{Place}
use Rattle.nres_core.specs.declared.tree.Block.{Block, out-Block}
use Rattle.nres_core.specs.declared.tree.Body.TheViews as views
use Rattle.nres_core.specs.declared.tree.Chosen.{Chosen}
use Rattle.nres_core.specs.declared.tree.Expr.{Expr}
use Rattle.nres_core.specs.declared.tree.Expr.TheVariants as e
use Rattle.nres_core.specs.declared.tree.Step.{Step}
use Rattle.nres_core.proofs.Mirrored.{mirrored, id_mirrored}

pub block_is : (b : Block) → blk_of b ≡ t.Returns (all_steps (out-Block b).steps) (out-Block b).place (all_exps (out-Block b).results)
block_is b = ap blk_of (sym (views.roll-out-Block b)) ∙ mirrored.block (out-Block b).steps (out-Block b).place (out-Block b).results

-- an operation on its arguments
pub applied : {tree : Expr} {p : Place} {w : List ℕ} {es zs : List Expr} {made : Option Chosen} {op : Op} (us : List IdExpr) (ops : List Op) {mid left : List Op}
    → tree ≡ e.Apply p w es made → op ≡ next_op ops → mid ≡ other_ops ops → zs ≡ es → ◌≡◌ {A = Exps Op × List Op} (all_id_exps us, left) (id_exps (all_exps zs) mid)
    → (id_exp_of (ide.Apply p op us made), left) ≡ id_exp (exp_of tree) ops
applied {tree = tree} {p = p} {w = w} {es = es} {zs = zs} {made = made} {op = op} us ops {mid = mid} {left = left} h i m z j =
    ap (λ x. (x, left)) (id_mirrored.apply p op us made)
    ∙ (ap (λ x. (t.Apply p x (all_id_exps us) made, left)) i
    ∙ (ap (λ (x : Exps Op × List Op). (t.Apply p (next_op ops) x.0 made, x.1)) (j ∙ (ap (λ x. id_exps (all_exps x) mid) z ∙ ap (λ x. id_exps (all_exps es) x) m))
    ∙ sym (ap (λ x. id_exp (exp_of x) ops) h ∙ ap (λ x. id_exp x ops) (mirrored.apply p w es made))))

-- a block of its steps and its results
pub returned : (b : Block) (ss : List IdStep) (ops : List Op) {mid left : List Op} {zs : List Step} {ws : List Expr} (es : List IdExpr)
    → zs ≡ (out-Block b).steps → ◌≡◌ {A = Steps Op × List Op} (all_id_steps ss, mid) (id_steps (all_steps zs) ops)
    → ws ≡ (out-Block b).results → ◌≡◌ {A = Exps Op × List Op} (all_id_exps es, left) (id_exps (all_exps ws) mid)
    → (id_blk_of (roll-IdBlock (record { steps = ss; place = (out-Block b).place; results = es })), left) ≡ id_blk (blk_of b) ops
returned b ss ops {mid = mid} {left = left} es z h w i =
    ap (λ x. (x, left)) (id_mirrored.block ss (out-Block b).place es)
    ∙ (ap (λ (x : Exps Op × List Op). (t.Returns (all_id_steps ss) (out-Block b).place x.0, x.1)) (i ∙ ap (λ x. id_exps (all_exps x) mid) w)
    ∙ (ap (λ (x : Steps Op × List Op). (t.Returns x.0 (out-Block b).place (id_exps (all_exps (out-Block b).results) x.1).0, (id_exps (all_exps (out-Block b).results) x.1).1)) (h ∙ ap (λ x. id_steps (all_steps x) ops) z)
    ∙ sym (ap (λ x. id_blk x ops) (block_is b))))
