-- The texts of expressions, steps and blocks, constructor by constructor.
use Rattle.std.proofs.Common.{◌≡◌, ℕ, Bool, List, ap, ◌∙◌}
use Rattle.std.specs.Prelude.{Option}
use Rattle.target_code.specs.declared.tree.Calc.{Calc}
use Rattle.nres_core.specs.declared.place.Named.{Named}
use Rattle.nres_core.specs.declared.place.Place.{Place}
use Rattle.nres_core.specs.declared.tree.Block.{Block, roll-Block}
use Rattle.nres_core.specs.declared.tree.Body.{Body}
use Rattle.nres_core.specs.declared.tree.Body.TheOpen as O
use Rattle.nres_core.specs.declared.tree.Body.TheVariants as vb
use Rattle.nres_core.specs.declared.tree.Body.TheViews as outs
use Rattle.nres_core.specs.declared.tree.Chosen.{Chosen}
use Rattle.nres_core.specs.declared.tree.Expr.{Expr}
use Rattle.nres_core.specs.declared.tree.Expr.TheOpen.{Expr-F}
use Rattle.nres_core.specs.declared.tree.Expr.TheVariants as ve
use Rattle.nres_core.specs.declared.tree.Step.{Step}
use Rattle.nres_core.specs.declared.tree.Step.TheVariants as vs
use Rattle.nres_print.specs.Exprs.{expr_text, text_at}
use Rattle.nres_print.specs.Blocks.{body_text, step_text, block_text, body_at, step_at, block_at}
use Rattle.nres_print.proofs.Layers.{expr_layer, body_layer, step_layer, block_layer}

pub num : (p : Place) (n : ℕ) (k : ℕ) → expr_text (ve.Num p n) k ≡ text_at expr_text (Expr-F.Num p n) k
num p n k = expr_layer (ve.Num p n) k ∙ ap (λ x. text_at expr_text x k) (ve.outs-Num p n)

pub truth : (p : Place) (b : Bool) (k : ℕ) → expr_text (ve.Truth p b) k ≡ text_at expr_text (Expr-F.Truth p b) k
truth p b k = expr_layer (ve.Truth p b) k ∙ ap (λ x. text_at expr_text x k) (ve.outs-Truth p b)

pub var : (x : Named) (k : ℕ) → expr_text (ve.Var x) k ≡ text_at expr_text (Expr-F.Var x) k
var x k = expr_layer (ve.Var x) k ∙ ap (λ x. text_at expr_text x k) (ve.outs-Var x)

pub binary : (p : Place) (w : Calc) (a b : Expr) (k : ℕ) → expr_text (ve.Binary p w a b) k ≡ text_at expr_text (Expr-F.Binary p w a b) k
binary p w a b k = expr_layer (ve.Binary p w a b) k ∙ ap (λ x. text_at expr_text x k) (ve.outs-Binary p w a b)

pub not_ : (p : Place) (a : Expr) (k : ℕ) → expr_text (ve.Not p a) k ≡ text_at expr_text (Expr-F.Not p a) k
not_ p a k = expr_layer (ve.Not p a) k ∙ ap (λ x. text_at expr_text x k) (ve.outs-Not p a)

pub apply : (p : Place) (w : List ℕ) (es : List Expr) (made : Option Chosen) (k : ℕ) → expr_text (ve.Apply p w es made) k ≡ text_at expr_text (Expr-F.Apply p w es made) k
apply p w es made k = expr_layer (ve.Apply p w es made) k ∙ ap (λ x. text_at expr_text x k) (ve.outs-Apply p w es made)

pub value : (e : Expr) (k : ℕ) → body_text (vb.Value e) k ≡ body_at {B = Body} {S = Step} block_text (O.Value e) k
value e k = body_layer (vb.Value e) k ∙ ap (λ u. body_at {B = Body} {S = Step} block_text u k) (outs.outs-Value e)

pub take : (p : Place) (w : List ℕ) (e : Expr) (k : ℕ) → body_text (vb.Take p w e) k ≡ body_at {B = Body} {S = Step} block_text (O.Take p w e) k
take p w e k = body_layer (vb.Take p w e) k ∙ ap (λ u. body_at {B = Body} {S = Step} block_text u k) (outs.outs-Take p w e)

pub any : (p : Place) (a b : Expr) (k : ℕ) → body_text (vb.Any p a b) k ≡ body_at {B = Body} {S = Step} block_text (O.Any p a b) k
any p a b k = body_layer (vb.Any p a b) k ∙ ap (λ u. body_at {B = Body} {S = Step} block_text u k) (outs.outs-Any p a b)

pub choice : (p : Place) (e : Expr) (x y : Block) (k : ℕ) → body_text (vb.If p e x y) k ≡ body_at {B = Body} {S = Step} block_text (O.If p e x y) k
choice p e x y k = body_layer (vb.If p e x y) k ∙ ap (λ u. body_at {B = Body} {S = Step} block_text u k) (outs.outs-If p e x y)

pub loop : (p : Place) (xs : List Named) (q : Place) (es : List Expr) (e : Expr) (x : Block) (k : ℕ) → body_text (vb.While p xs q es e x) k ≡ body_at {B = Body} {S = Step} block_text (O.While p xs q es e x) k
loop p xs q es e x k = body_layer (vb.While p xs q es e x) k ∙ ap (λ u. body_at {B = Body} {S = Step} block_text u k) (outs.outs-While p xs q es e x)

pub pair : (p : Place) (x y : Block) (k : ℕ) → body_text (vb.Par p x y) k ≡ body_at {B = Body} {S = Step} block_text (O.Par p x y) k
pair p x y k = body_layer (vb.Par p x y) k ∙ ap (λ u. body_at {B = Body} {S = Step} block_text u k) (outs.outs-Par p x y)

pub split : (p : Place) (z : Named) (e : Expr) (l : Named) (x : Block) (r : Named) (y : Block) (k : ℕ) → body_text (vb.Split p z e l x r y) k ≡ body_at {B = Body} {S = Step} block_text (O.Split p z e l x r y) k
split p z e l x r y k = body_layer (vb.Split p z e l x r y) k ∙ ap (λ u. body_at {B = Body} {S = Step} block_text u k) (outs.outs-Split p z e l x r y)

pub either : (p : Place) (x y : Block) (k : ℕ) → body_text (vb.Either p x y) k ≡ body_at {B = Body} {S = Step} block_text (O.Either p x y) k
either p x y k = body_layer (vb.Either p x y) k ∙ ap (λ u. body_at {B = Body} {S = Step} block_text u k) (outs.outs-Either p x y)

pub each : (p : Place) (v z : Named) (xs : List Named) (q : Place) (es : List Expr) (x : Block) (k : ℕ) → body_text (vb.Foreach p v z xs q es x) k ≡ body_at {B = Body} {S = Step} block_text (O.Foreach p v z xs q es x) k
each p v z xs q es x k = body_layer (vb.Foreach p v z xs q es x) k ∙ ap (λ u. body_at {B = Body} {S = Step} block_text u k) (outs.outs-Foreach p v z xs q es x)

pub call : (p : Place) (f : Named) (es : List Expr) (k : ℕ) → body_text (vb.Call p f es) k ≡ body_at {B = Body} {S = Step} block_text (O.Call p f es) k
call p f es k = body_layer (vb.Call p f es) k ∙ ap (λ u. body_at {B = Body} {S = Step} block_text u k) (outs.outs-Call p f es)

pub bind : (xs : List Named) (p : Place) (b : Body) (k : ℕ) → step_text (vs.Bind xs p b) k ≡ step_at {S = Step} {K = Block} body_text (O.Bind xs p b) k
bind xs p b k = step_layer (vs.Bind xs p b) k ∙ ap (λ u. step_at {S = Step} {K = Block} body_text u k) (outs.outs-Bind xs p b)

pub assert : (p : Place) (e : Expr) (k : ℕ) → step_text (vs.Assert p e) k ≡ step_at {S = Step} {K = Block} body_text (O.Assert p e) k
assert p e k = step_layer (vs.Assert p e) k ∙ ap (λ u. step_at {S = Step} {K = Block} body_text u k) (outs.outs-Assert p e)

pub block : (ss : List Step) (p : Place) (es : List Expr) (k : ℕ) → block_text (roll-Block (record { steps = ss; place = p; results = es })) k ≡ block_at {B = Body} {K = Block} step_text (record { steps = ss; place = p; results = es }) k
block ss p es k =
    block_layer (roll-Block (record { steps = ss; place = p; results = es })) k
    ∙ ap (λ u. block_at {B = Body} {K = Block} step_text u k) (outs.out-roll-Block (record { steps = ss; place = p; results = es }))
