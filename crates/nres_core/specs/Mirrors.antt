-- The trees of the code as plain data, constructor by constructor.
use Rattle.std.specs.Prelude.{◌≡◌, ℕ, Bool, List, Option, None}
use Rattle.nres_core.specs.Mirror.{rep_of, exp_of, blk_of, bod_of, before, all_exps, all_steps, id_exp_of, id_blk_of, id_bod_of, id_before, all_id_exps, all_id_steps}
use Rattle.target_code.specs.declared.tree.Calc.{Calc}
use Rattle.target_code.specs.declared.tree.Rep.{Rep}
use Rattle.nres_core.specs.FlatTree as f
use Rattle.nres_core.specs.FlatTree.{before_of, flats_of, binds_of}
use Rattle.nres_core.specs.declared.flat.Arg.{Arg}
use Rattle.nres_core.specs.declared.flat.FlatBind.{FlatBind}
use Rattle.nres_core.specs.declared.flat.FlatBind.TheVariants as ff
use Rattle.nres_core.specs.declared.flat.FlatBlock.{FlatBlock, roll-FlatBlock}
use Rattle.nres_core.specs.Tree as t
use Rattle.nres_core.specs.declared.op.Op.{Op}
use Rattle.nres_core.specs.declared.place.Named.{Named}
use Rattle.nres_core.specs.declared.place.Place.{Place}
use Rattle.nres_core.specs.declared.tree.Chosen.{Chosen}
use Rattle.nres_core.specs.declared.tree.Block.{Block, roll-Block}
use Rattle.nres_core.specs.declared.tree.Body.{Body}
use Rattle.nres_core.specs.declared.tree.Body.TheVariants as b
use Rattle.nres_core.specs.declared.tree.Expr.{Expr}
use Rattle.nres_core.specs.declared.tree.Expr.TheVariants as e
use Rattle.nres_core.specs.declared.tree.Step.{Step}
use Rattle.nres_core.specs.declared.tree.Step.TheVariants as s
use Rattle.nres_core.specs.declared.identified.IdBlock.{IdBlock, roll-IdBlock}
use Rattle.nres_core.specs.declared.identified.IdBody.{IdBody}
use Rattle.nres_core.specs.declared.identified.IdBody.TheVariants as bid
use Rattle.nres_core.specs.declared.identified.IdExpr.{IdExpr}
use Rattle.nres_core.specs.declared.identified.IdExpr.TheVariants as eid
use Rattle.nres_core.specs.declared.identified.IdStep.{IdStep}
use Rattle.nres_core.specs.declared.identified.IdStep.TheVariants as sid

-- the tree of a text, constructor by constructor
pub record SpecMirrored : Type 0 where
  pub num : (p : Place) (n : ℕ) → exp_of (e.Num p n) ≡ t.Num p n
  pub truth : (p : Place) (b : Bool) → exp_of (e.Truth p b) ≡ t.Truth p b
  pub var : (x : Named) → exp_of (e.Var x) ≡ t.Var x
  pub binary : (p : Place) (w : Calc) (l r : Expr) → exp_of (e.Binary p w l r) ≡ t.Binary p w (exp_of l) (exp_of r)
  pub not_ : (p : Place) (l : Expr) → exp_of (e.Not p l) ≡ t.Not p (exp_of l)
  pub apply : (p : Place) (w : List ℕ) (es : List Expr) (made : Option Chosen) → exp_of (e.Apply p w es made) ≡ t.Apply p (w, rep_of made) (all_exps es) made
  pub value : (e : Expr) → bod_of (b.Value e) ≡ t.Value (exp_of e)
  pub take : (p : Place) (w : List ℕ) (e : Expr) → bod_of (b.Take p w e) ≡ t.Take p (w, None) (exp_of e)
  pub any : (p : Place) (l r : Expr) → bod_of (b.Any p l r) ≡ t.Any p (exp_of l) (exp_of r)
  pub choice : (p : Place) (e : Expr) (x y : Block) → bod_of (b.If p e x y) ≡ t.If p (exp_of e) (blk_of x) (blk_of y)
  pub loop : (p : Place) (xs : List Named) (q : Place) (es : List Expr) (e : Expr) (x : Block) → bod_of (b.While p xs q es e x) ≡ t.While p xs q (all_exps es) (exp_of e) (blk_of x)
  pub pair : (p : Place) (x y : Block) → bod_of (b.Par p x y) ≡ t.Par p (blk_of x) (blk_of y)
  pub split : (p : Place) (z : Named) (e : Expr) (u : Named) (x : Block) (v : Named) (y : Block) → bod_of (b.Split p z e u x v y) ≡ t.Split p z (exp_of e) u (blk_of x) v (blk_of y)
  pub either : (p : Place) (x y : Block) → bod_of (b.Either p x y) ≡ t.Either p (blk_of x) (blk_of y)
  pub each : (p : Place) (u z : Named) (xs : List Named) (q : Place) (es : List Expr) (x : Block) → bod_of (b.Foreach p u z xs q es x) ≡ t.Foreach p u z xs q (all_exps es) (blk_of x)
  pub call : (p : Place) (f : Named) (es : List Expr) → bod_of (b.Call p f es) ≡ t.Call p f (all_exps es)
  pub bind : (xs : List Named) (p : Place) (b : Body) → before (s.Bind xs p b) ≡ (λ rest. t.Bind xs p (bod_of b) rest)
  pub assert : (p : Place) (e : Expr) → before (s.Assert p e) ≡ (λ rest. t.Assert p (exp_of e) rest)
  pub block : (ss : List Step) (p : Place) (es : List Expr) → blk_of (roll-Block (record { steps = ss; place = p; results = es })) ≡ t.Returns (all_steps ss) p (all_exps es)

-- the tree whose words stand for operations, constructor by constructor
pub record IdentifiedMirrored : Type 0 where
  pub num : (p : Place) (n : ℕ) → id_exp_of (eid.Num p n) ≡ t.Num p n
  pub truth : (p : Place) (b : Bool) → id_exp_of (eid.Truth p b) ≡ t.Truth p b
  pub var : (x : Named) → id_exp_of (eid.Var x) ≡ t.Var x
  pub binary : (p : Place) (w : Calc) (l r : IdExpr) → id_exp_of (eid.Binary p w l r) ≡ t.Binary p w (id_exp_of l) (id_exp_of r)
  pub not_ : (p : Place) (l : IdExpr) → id_exp_of (eid.Not p l) ≡ t.Not p (id_exp_of l)
  pub apply : (p : Place) (w : Op) (es : List IdExpr) (made : Option Chosen) → id_exp_of (eid.Apply p w es made) ≡ t.Apply p w (all_id_exps es) made
  pub value : (e : IdExpr) → id_bod_of (bid.Value e) ≡ t.Value (id_exp_of e)
  pub take : (p : Place) (w : Op) (e : IdExpr) → id_bod_of (bid.Take p w e) ≡ t.Take p w (id_exp_of e)
  pub any : (p : Place) (l r : IdExpr) → id_bod_of (bid.Any p l r) ≡ t.Any p (id_exp_of l) (id_exp_of r)
  pub choice : (p : Place) (e : IdExpr) (x y : IdBlock) → id_bod_of (bid.If p e x y) ≡ t.If p (id_exp_of e) (id_blk_of x) (id_blk_of y)
  pub loop : (p : Place) (xs : List Named) (q : Place) (es : List IdExpr) (e : IdExpr) (x : IdBlock) → id_bod_of (bid.While p xs q es e x) ≡ t.While p xs q (all_id_exps es) (id_exp_of e) (id_blk_of x)
  pub pair : (p : Place) (x y : IdBlock) → id_bod_of (bid.Par p x y) ≡ t.Par p (id_blk_of x) (id_blk_of y)
  pub split : (p : Place) (z : Named) (e : IdExpr) (u : Named) (x : IdBlock) (v : Named) (y : IdBlock) → id_bod_of (bid.Split p z e u x v y) ≡ t.Split p z (id_exp_of e) u (id_blk_of x) v (id_blk_of y)
  pub either : (p : Place) (x y : IdBlock) → id_bod_of (bid.Either p x y) ≡ t.Either p (id_blk_of x) (id_blk_of y)
  pub each : (p : Place) (u z : Named) (xs : List Named) (q : Place) (es : List IdExpr) (x : IdBlock) → id_bod_of (bid.Foreach p u z xs q es x) ≡ t.Foreach p u z xs q (all_id_exps es) (id_blk_of x)
  pub call : (p : Place) (f : Named) (es : List IdExpr) → id_bod_of (bid.Call p f es) ≡ t.Call p f (all_id_exps es)
  pub bind : (xs : List Named) (p : Place) (b : IdBody) → id_before (sid.Bind xs p b) ≡ (λ rest. t.Bind xs p (id_bod_of b) rest)
  pub assert : (p : Place) (e : IdExpr) → id_before (sid.Assert p e) ≡ (λ rest. t.Assert p (id_exp_of e) rest)
  pub block : (ss : List IdStep) (p : Place) (es : List IdExpr) → id_blk_of (roll-IdBlock (record { steps = ss; place = p; results = es })) ≡ t.Returns (all_id_steps ss) p (all_id_exps es)

-- the flat tree, constructor by constructor
pub record FlatMirrored : Type 0 where
  pub calc : (p : Place) (to : ℕ) (w : Calc) (x y : Arg) → before_of (ff.Calc p to w x y) ≡ (λ rest. f.Calc_to p to w x y rest)
  pub apply : (p : Place) (to : List ℕ) (op : Op) (made : Option Rep) (us : List Arg) → before_of (ff.Apply p to op made us) ≡ (λ rest. f.Apply_to p to op made us rest)
  pub assert : (p : Place) (inner : List FlatBind) (x : Arg) → before_of (ff.Assert p inner x) ≡ (λ rest. f.Assert p (binds_of inner) x rest)
  pub choice : (p : Place) (to : List ℕ) (x : Arg) (l r : FlatBlock) → before_of (ff.If p to x l r) ≡ (λ rest. f.If p to x (flats_of l).binds (flats_of l).ending (flats_of r).binds (flats_of r).ending rest)
  pub loop : (p : Place) (to xs : List ℕ) (us : List Arg) (cs : List FlatBind) (x : Arg) (b : FlatBlock) → before_of (ff.While p to xs us cs x b) ≡ (λ rest. f.While p to xs us (binds_of cs) x (flats_of b).binds (flats_of b).ending rest)
  pub pair : (p : Place) (to : List ℕ) (l r : FlatBlock) → before_of (ff.Par p to l r) ≡ (λ rest. f.Par p to (flats_of l).binds (flats_of l).ending (flats_of r).binds (flats_of r).ending rest)
  pub split : (p : Place) (to : List ℕ) (z : ℕ) (x : Arg) (i : ℕ) (l : FlatBlock) (j : ℕ) (r : FlatBlock) → before_of (ff.Split p to z x i l j r) ≡ (λ rest. f.Split p to z x i (flats_of l).binds (flats_of l).ending j (flats_of r).binds (flats_of r).ending rest)
  pub either : (p : Place) (to : List ℕ) (l r : FlatBlock) → before_of (ff.Either p to l r) ≡ (λ rest. f.Either p to (flats_of l).binds (flats_of l).ending (flats_of r).binds (flats_of r).ending rest)
  pub any : (p : Place) (to : ℕ) (x y : Arg) → before_of (ff.Any p to x y) ≡ (λ rest. f.Any p to x y rest)
  pub call : (p : Place) (to : List ℕ) (g : ℕ) (us : List Arg) → before_of (ff.Call p to g us) ≡ (λ rest. f.Call p to g us rest)
  pub block : (bs : List FlatBind) (p : Place) (us : List Arg) → flats_of (roll-FlatBlock (record { binds = bs; place = p; results = us })) ≡ record { binds = binds_of bs; ending = record { place = p; results = us } }
