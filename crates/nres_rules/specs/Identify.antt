-- The tree of a specification whose words stand for operations, and its flat tree. Words are replaced in text order, a word before its arguments, by the
-- operations of a list, which is passed along.
use Rattle.std.specs.Prelude.{◌≡◌, List, [], ◌∷◌}
use Rattle.nres_core.specs.FlatTree.{FlatWhole}
use Rattle.nres_rules.specs.Flatten.{flat_of}
use Rattle.nres_core.specs.Mirror.{blk_of, id_blk_of}
use Rattle.nres_core.specs.Tree as t
use Rattle.nres_core.specs.Tree.{Exp, Exps, Blk, Steps, Bod, Word}
use Rattle.nres_rules.specs.Types.{HasTyping}
use Rattle.nres_core.specs.declared.identified.IdFun.{IdFun}
use Rattle.nres_core.specs.declared.identified.Identified.{Identified}
use Rattle.nres_core.specs.declared.op.Op.{Op}
use Rattle.nres_core.specs.declared.op.Op.TheVariants as o
use Rattle.nres_core.specs.declared.tree.Fun.{Fun}
use Rattle.nres_core.specs.declared.tree.Spec.{Spec}
use Rattle.nres_core.specs.declared.tree.Typing.{Typing}

-- the operation for the next word; in a typed tree there is one for each word
abbrev pub next_op : List Op → Op
next_op [] = o.Len
next_op (op ∷ ops) = op

-- the operations for the words behind it
abbrev pub other_ops : List Op → List Op
other_ops [] = []
other_ops (op ∷ ops) = ops

-- each gives the tree, and the operations that are left for what follows it
abbrev mutual
  pub id_exp : Exp Word → List Op → Exp Op × List Op
  id_exp (t.Num p n) ops = (t.Num p n, ops)
  id_exp (t.Truth p b) ops = (t.Truth p b, ops)
  id_exp (t.Var x) ops = (t.Var x, ops)
  id_exp (t.Binary p w a b) ops =
      let l = id_exp a ops in
      let r = id_exp b l.1 in
      (t.Binary p w l.0 r.0, r.1)
  id_exp (t.Not p a) ops = let x = id_exp a ops in (t.Not p x.0, x.1)
  id_exp (t.Apply p w es made) ops = let us = id_exps es (other_ops ops) in (t.Apply p (next_op ops) us.0 made, us.1)

  pub id_exps : Exps Word → List Op → Exps Op × List Op
  id_exps t.None_left ops = (t.None_left, ops)
  id_exps (t.Also e es) ops =
      let x = id_exp e ops in
      let us = id_exps es x.1 in
      (t.Also x.0 us.0, us.1)

abbrev mutual
  pub id_blk : Blk Word → List Op → Blk Op × List Op
  id_blk (t.Returns ss p es) ops =
      let one = id_steps ss ops in
      let us = id_exps es one.1 in
      (t.Returns one.0 p us.0, us.1)

  pub id_steps : Steps Word → List Op → Steps Op × List Op
  id_steps t.No_step ops = (t.No_step, ops)
  id_steps (t.Bind xs p b ss) ops =
      let one = id_bod b ops in
      let rest = id_steps ss one.1 in
      (t.Bind xs p one.0 rest.0, rest.1)
  id_steps (t.Assert p e ss) ops =
      let test = id_exp e ops in
      let rest = id_steps ss test.1 in
      (t.Assert p test.0 rest.0, rest.1)

  pub id_bod : Bod Word → List Op → Bod Op × List Op
  id_bod (t.Value e) ops = let x = id_exp e ops in (t.Value x.0, x.1)
  id_bod (t.Take p w e) ops = let x = id_exp e (other_ops ops) in (t.Take p (next_op ops) x.0, x.1)
  id_bod (t.Any p a b) ops =
      let l = id_exp a ops in
      let r = id_exp b l.1 in
      (t.Any p l.0 r.0, r.1)
  id_bod (t.If p e a b) ops =
      let test = id_exp e ops in
      let l = id_blk a test.1 in
      let r = id_blk b l.1 in
      (t.If p test.0 l.0 r.0, r.1)
  id_bod (t.While p xs q es e b) ops =
      let us = id_exps es ops in
      let test = id_exp e us.1 in
      let one = id_blk b test.1 in
      (t.While p xs q us.0 test.0 one.0, one.1)
  id_bod (t.Par p a b) ops =
      let l = id_blk a ops in
      let r = id_blk b l.1 in
      (t.Par p l.0 r.0, r.1)
  id_bod (t.Split p xs e ln a rn b) ops =
      let at = id_exp e ops in
      let l = id_blk a at.1 in
      let r = id_blk b l.1 in
      (t.Split p xs at.0 ln l.0 rn r.0, r.1)
  id_bod (t.Either p a b) ops =
      let l = id_blk a ops in
      let r = id_blk b l.1 in
      (t.Either p l.0 r.0, r.1)
  id_bod (t.Foreach p x s xs q es b) ops =
      let us = id_exps es ops in
      let one = id_blk b us.1 in
      (t.Foreach p x s xs q us.0 one.0, one.1)
  id_bod (t.Call p f es) ops = let us = id_exps es ops in (t.Call p f us.0, us.1)

-- ---- whole specifications

-- a procedure with its words replaced by the first of these operations
pub record FunIdentifies (f : Fun) (ops : List Op) (g : IdFun) : Type 0 where
  pub name : g.name ≡ f.name
  pub place : g.place ≡ f.place
  pub params : g.params ≡ f.params
  pub shown : g.shown ≡ f.shown
  pub body : id_blk_of g.body ≡ (id_blk (blk_of f.body) ops).0

-- procedures, in the order of the text; then no operation is left
abbrev pub FunsIdentify : List Fun → List Op → List IdFun → Type 0
FunsIdentify [] ops [] = ops ≡ []
FunsIdentify (f ∷ fs) ops (g ∷ gs) = FunIdentifies f ops g × FunsIdentify fs (id_blk (blk_of f.body) ops).1 gs
FunsIdentify [] ops (g ∷ gs) = ⊥
FunsIdentify (f ∷ fs) ops [] = ⊥

-- the tree of a specification with this typing, in which each word is replaced by its operation
pub record Identifies (p : Spec) (u : Typing) (q : Identified) : Type 0 where
  pub name : q.name ≡ p.name
  pub params : q.params ≡ p.params
  pub shown : q.shown ≡ p.shown
  pub body : id_blk_of q.body ≡ (id_blk (blk_of p.body) u.words).0
  pub funs : FunsIdentify p.funs (id_blk (blk_of p.body) u.words).1 q.funs

-- the flat tree of a specification, which is typed
pub record IsFlatOf (p : Spec) (f : FlatWhole) : Type 0 where
  pub typing : Typing
  pub tree : Identified
  pub typed : HasTyping p typing
  pub identified : Identifies p typing tree
  pub flat : f ≡ flat_of tree
