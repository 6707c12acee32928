-- A tree with operations for its words is as large as its tree, and its blocks nest as deep.
use Rattle.std.proofs.Common.{◌≡◌, ℕ, suc, max, List, [], ◌∷◌, length, refl, ap, ◌∙◌, arith}
use Rattle.nres_rules.specs.Identify.{id_exp, id_exps, id_blk, id_steps, id_bod, other_ops, FunsIdentify, Identifies}
use Rattle.nres_core.specs.Mirror.{blk_of, id_blk_of}
use Rattle.nres_core.specs.Sizes.{exp_size, exps_size, blk_size, steps_size, bod_size, funs_size, size_of, blk_loops, steps_loops, bod_loops, funs_loops, loops_of, blk_nesting, steps_nesting, bod_nesting, funs_nesting, nesting_of}
use Rattle.nres_core.specs.Tree as t
use Rattle.nres_core.specs.Tree.{Exp, Exps, Blk, Steps, Bod, Word}
use Rattle.nres_core.specs.declared.identified.IdFun.{IdFun}
use Rattle.nres_core.specs.declared.identified.Identified.{Identified}
use Rattle.nres_core.specs.declared.op.Op.{Op}
use Rattle.nres_core.specs.declared.tree.Fun.{Fun}
use Rattle.nres_core.specs.declared.tree.Spec.{Spec}
use Rattle.nres_core.specs.declared.tree.Typing.{Typing}
use Rattle.identify_laws.specs.Trees.{id_funs_size, id_size_of, id_funs_loops, id_loops_of, id_funs_nesting, id_nesting_of}
use Rattle.identify_laws.specs.Laws.{SizesKept, LoopsKept}

-- ---- expressions

mutual
  exp_kept : (e : Exp Word) (ops : List Op) → exp_size (id_exp e ops).0 ≡ exp_size e
  exp_kept (t.Num p n) ops = refl
  exp_kept (t.Truth p b) ops = refl
  exp_kept (t.Var x) ops = refl
  exp_kept (t.Binary p w a b) ops = omega (arith, exp_kept a ops, exp_kept b (id_exp a ops).1)
  exp_kept (t.Not p a) ops = ap suc (exp_kept a ops)
  exp_kept (t.Apply p w es made) ops = ap suc (exps_kept es (other_ops ops))

  exps_kept : (es : Exps Word) (ops : List Op) → exps_size (id_exps es ops).0 ≡ exps_size es
  exps_kept t.None_left ops = refl
  exps_kept (t.Also e es) ops = omega (arith, exp_kept e ops, exps_kept es (id_exp e ops).1)

-- ---- blocks

-- the size, the loops and the nesting of two trees are equal
record Kept (m n a b d k : ℕ) : Type 0 where
  size : m ≡ n
  loops : a ≡ b
  nesting : d ≡ k

abbrev BlkKept : Blk Word → List Op → Type 0
BlkKept b ops = Kept (blk_size (id_blk b ops).0) (blk_size b) (blk_loops (id_blk b ops).0) (blk_loops b) (blk_nesting (id_blk b ops).0) (blk_nesting b)

abbrev StepsKept : Steps Word → List Op → Type 0
StepsKept ss ops = Kept (steps_size (id_steps ss ops).0) (steps_size ss) (steps_loops (id_steps ss ops).0) (steps_loops ss) (steps_nesting (id_steps ss ops).0) (steps_nesting ss)

abbrev BodKept : Bod Word → List Op → Type 0
BodKept b ops = Kept (bod_size (id_bod b ops).0) (bod_size b) (bod_loops (id_bod b ops).0) (bod_loops b) (bod_nesting (id_bod b ops).0) (bod_nesting b)

-- the deeper of two
deeper : {a b c d : ℕ} → a ≡ b → c ≡ d → max a c ≡ max b d
deeper {a} {b} {c} {d} h k = ap (λ n. max n c) h ∙ ap (max b) k

mutual
  blk_kept : (b : Blk Word) (ops : List Op) → BlkKept b ops
  blk_kept (t.Returns ss p es) ops =
      let one = steps_kept ss ops in
      record { size = omega (arith, one.size, exps_kept es (id_steps ss ops).1); loops = one.loops; nesting = ap suc one.nesting }

  steps_kept : (ss : Steps Word) (ops : List Op) → StepsKept ss ops
  steps_kept t.No_step ops = record { size = refl; loops = refl; nesting = refl }
  steps_kept (t.Bind xs p b ss) ops =
      let one = bod_kept b ops in
      let rest = steps_kept ss (id_bod b ops).1 in
      record { size = omega (arith, one.size, rest.size); loops = omega (arith, one.loops, rest.loops); nesting = deeper one.nesting rest.nesting }
  steps_kept (t.Assert p e ss) ops =
      let rest = steps_kept ss (id_exp e ops).1 in
      record { size = omega (arith, exp_kept e ops, rest.size); loops = rest.loops; nesting = rest.nesting }

  bod_kept : (b : Bod Word) (ops : List Op) → BodKept b ops
  bod_kept (t.Value e) ops = record { size = exp_kept e ops; loops = refl; nesting = refl }
  bod_kept (t.Take p w e) ops = record { size = exp_kept e (other_ops ops); loops = refl; nesting = refl }
  bod_kept (t.Any p a b) ops = record { size = omega (arith, exp_kept a ops, exp_kept b (id_exp a ops).1); loops = refl; nesting = refl }
  bod_kept (t.If p e a b) ops =
      let at = (id_exp e ops).1 in
      let left = blk_kept a at in
      let right = blk_kept b (id_blk a at).1 in
      record { size = omega (arith, exp_kept e ops, left.size, right.size); loops = omega (arith, left.loops, right.loops); nesting = deeper left.nesting right.nesting }
  bod_kept (t.While p xs q es e b) ops =
      let at = (id_exps es ops).1 in
      let one = blk_kept b (id_exp e at).1 in
      record { size = omega (arith, exps_kept es ops, exp_kept e at, one.size); loops = one.loops; nesting = one.nesting }
  bod_kept (t.Par p a b) ops =
      let left = blk_kept a ops in
      let right = blk_kept b (id_blk a ops).1 in
      record { size = omega (arith, left.size, right.size); loops = omega (arith, left.loops, right.loops); nesting = deeper left.nesting right.nesting }
  bod_kept (t.Split p z e x a y b) ops =
      let at = (id_exp e ops).1 in
      let left = blk_kept a at in
      let right = blk_kept b (id_blk a at).1 in
      record { size = omega (arith, exp_kept e ops, left.size, right.size); loops = omega (arith, left.loops, right.loops); nesting = deeper left.nesting right.nesting }
  bod_kept (t.Either p a b) ops =
      let left = blk_kept a ops in
      let right = blk_kept b (id_blk a ops).1 in
      record { size = omega (arith, left.size, right.size); loops = omega (arith, left.loops, right.loops); nesting = deeper left.nesting right.nesting }
  bod_kept (t.Foreach p x z xs q es b) ops =
      let one = blk_kept b (id_exps es ops).1 in
      record { size = omega (arith, exps_kept es ops, one.size); loops = ap suc one.loops; nesting = one.nesting }
  bod_kept (t.Call p f es) ops = record { size = exps_kept es ops; loops = refl; nesting = refl }

-- ---- whole trees

funs_kept : (fs : List Fun) (gs : List IdFun) (ops : List Op) → FunsIdentify fs ops gs → Kept (id_funs_size gs) (funs_size fs) (id_funs_loops gs) (funs_loops fs) (id_funs_nesting gs) (funs_nesting fs)
funs_kept [] [] ops i = record { size = refl; loops = refl; nesting = refl }
funs_kept [] (g ∷ gs) ops i = absurd i
funs_kept (f ∷ fs) [] ops i = absurd i
funs_kept (f ∷ fs) (g ∷ gs) ops i =
    let one = blk_kept (blk_of f.body) ops in
    let rest = funs_kept fs gs (id_blk (blk_of f.body) ops).1 i.1 in
    let size : blk_size (id_blk_of g.body) ≡ blk_size (blk_of f.body) = ap blk_size i.0.body ∙ one.size in
    record {
      size = omega (arith, ap length i.0.params, ap length i.0.shown, size, rest.size);
      loops = omega (arith, ap blk_loops i.0.body ∙ one.loops, rest.loops);
      nesting = deeper (ap blk_nesting i.0.body ∙ one.nesting) rest.nesting;
    }

whole_kept : (p : Spec) (u : Typing) (q : Identified) → Identifies p u q → Kept (id_size_of q) (size_of p) (id_loops_of q) (loops_of p) (id_nesting_of q) (nesting_of p)
whole_kept p u q i =
    let one = blk_kept (blk_of p.body) u.words in
    let rest = funs_kept p.funs q.funs (id_blk (blk_of p.body) u.words).1 i.funs in
    let size : blk_size (id_blk_of q.body) ≡ blk_size (blk_of p.body) = ap blk_size i.body ∙ one.size in
    record {
      size = omega (arith, ap length i.params, ap length i.shown, size, rest.size);
      loops = omega (arith, ap blk_loops i.body ∙ one.loops, rest.loops);
      nesting = deeper (ap blk_nesting i.body ∙ one.nesting) rest.nesting;
    }

pub sizes_kept : SizesKept
sizes_kept p u q i = let all = whole_kept p u q i in record { size = all.size; nesting = all.nesting }

pub loops_kept : LoopsKept
loops_kept p u q i = (whole_kept p u q i).loops
