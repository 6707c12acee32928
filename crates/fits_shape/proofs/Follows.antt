-- A specification that is followed has its trees.
use Rattle.std.specs.Prelude.{◌≡◌, ℕ, zero, suc, ◌+◌, ◌<◌, Bool, List, [], ◌∷◌, length, drop, Some, codes}
use Rattle.std.proofs.Common.{refl, sym, ap, ◌∙◌, subst, arith}
use Rattle.target_code.specs.declared.tree.InParam.{InParam}
use Rattle.target_code.specs.declared.tree.Instr.{Instr}
use Rattle.target_code.specs.declared.tree.Proc.{Proc}
use Rattle.target_code.specs.declared.tree.Rep.{Rep}
use Rattle.target_meaning.specs.Leaf.{find}
use Rattle.nres_core.specs.FlatTree as t
use Rattle.nres_core.specs.FlatTree.{Binds, Flats, FlatProc, FlatWhole, bound_in}
use Rattle.rule_check.specs.Check.{owed, sigs_of}
use Rattle.rule_check.specs.Steps.{Sig, sig_at, slices_are}
use Rattle.rule_check.specs.Use.{block_used, without}
use Rattle.soundness.specs.Nodes as n
use Rattle.soundness.specs.Nodes.{Nodes, SpecTree, CodeTree}
use Rattle.soundness.specs.Shape.{SameTrees, any_side, bodies}
use Rattle.fits.specs.Places.{State}
use Rattle.fits.specs.Follow.{Line, Left_line, Right_line, Views, fit, proc_name}
use Rattle.fits.specs.Programs.{bind_param, bind_params, begin_state, follow_proc, follow_from, follow_whole}
use Rattle.fits_shape.specs.Taken.{after, Takes, ProcsTake, WholeTakes}
use Rattle.fits_shape.specs.Trees.{NamesOperations, AreFound, Trees, TreesBy, HaveTrees}
use Rattle.fits_shape.proofs.Leads.{Leads, here, then_leads, need_leads, some_leads, last_leads}
use Rattle.fits_shape.proofs.Grown.{branches, Follows, Ends, go_on, closed, pairs, none_grown, block_grown}
use Rattle.fits_shape.proofs.Steps.{calc_grown, apply_grown, any_grown, use_grown}
use Rattle.fits_shape.proofs.Blocks.{if_grown, while_grown, either_grown, par_grown, split_grown}

total : (a b c x y : ℕ) → b ≡ a + x → c ≡ b + y → c ≡ a + (x + y)
total a b c x y e f = omega arith

from_none : (c n : ℕ) → c ≡ 0 + n → c ≡ n
from_none c n e = omega arith

-- the parameters are no branches
params_branch : (s : State) (ys : List InParam) → (bind_params s ys).branch ≡ s.branch
params_branch s [] = refl
params_branch s (y ∷ ys) = params_branch (bind_param s y) ys

-- a signature is that of a procedure
below : (ps : List FlatProc) (g : ℕ) (sig : Sig) → sig_at (sigs_of ps) g ≡ Some sig → g < length ps
below [] g sig e = absurd (let o : ⊥ = cc e in o)
below (p ∷ ps) zero sig e = omega arith
below (p ∷ ps) (suc g) sig e = let less : g < length ps = below ps g sig e in omega arith

module _ (may : List ℕ → Bool → Type 0) (V : Views) (own : ℕ) (names : NamesOperations V) (fewer : (g : ℕ) (sig : Sig) → sig_at V.book.sigs g ≡ Some sig → g < own) where
  fit_grown : (bs : Binds) (R : ℕ) → Follows may V own (fit R V bs) bs
  fit_grown t.No_bind R s c ls = here _ s c ls (none_grown may V own s c ls)
  fit_grown (t.Calc_to p to w x y rest) R s c ls = calc_grown may V own (fit R V rest) rest (fit_grown rest R) R s c ls p to w x y
  fit_grown (t.Apply_to p to op made us rest) R s c ls = apply_grown may V own (fit R V rest) rest (fit_grown rest R) R s c ls names p to op made us
  fit_grown (t.Assert p inner x rest) R s c ls =
      need_leads _ _ ls _ (λ e. go_on may V own (fit R V rest) rest (fit_grown rest R) _ c ls s.branch refl _ (λ last end left g. record {
        nodes = g.nodes;
        count = g.count;
        branch = g.branch;
        lines_left = g.lines_left;
        spec = λ k. n.assert (g.spec k);
        grows = g.grows;
      }))
  fit_grown (t.If p to x l le r re rest) R s c ls =
      if_grown may V own R (fit R V rest) rest (fit_grown rest R) (fit R V l) l (fit_grown l R) (fit R V r) r (fit_grown r R) s c ls p to x le re
  fit_grown (t.While p to xs us cs x b be rest) R s c ls =
      while_grown may V own R (fit R V rest) rest (fit_grown rest R) (fit R V cs) cs (fit_grown cs R) (fit R V b) b (fit_grown b R) s c ls p to xs us x be
  fit_grown (t.Par p to l le r re rest) R s c ls =
      par_grown may V own R (fit R V rest) rest (fit_grown rest R) (λ q. fit q V l) l (fit_grown l) (λ q. fit q V r) r (fit_grown r) s c ls p to le (block_used l le) re (block_used r re)
  fit_grown (t.Split p to list at i l le j r re rest) R s c ls =
      split_grown may V own R (fit R V rest) rest (fit_grown rest R) (λ q. fit q V l) l (fit_grown l) (λ q. fit q V r) r (fit_grown r) s c ls p to list at i le (without list (block_used l le)) j re (without list (block_used r re))
  fit_grown (t.Either p to l le r re rest) R s c ls =
      either_grown may V own R (fit R V rest) rest (fit_grown rest R) (fit R V l) l (fit_grown l R) (fit R V r) r (fit_grown r R) s c ls p to le re
  fit_grown (t.Any p to x y rest) R s c ls = any_grown may V own (fit R V rest) rest (fit_grown rest R) R s c ls p to x y
  fit_grown (t.Call p to g us rest) R s c ls = use_grown may V own (fit R V rest) rest (fit_grown rest R) R s c ls fewer p to g us

  proc_grown : (k b : ℕ) (params : List InParam) (shown : List Rep) (f : Flats) (q : Proc) (ls : List Line) → Leads (follow_proc V k b params shown f q ls) (Ends may V own f.binds b q.code.list ls)
  proc_grown k b params shown f q ls =
      let P : State → List Instr → List Line → Type 0 = Ends may V own f.binds b q.code.list ls in
      need_leads P _ ls _ (λ e. then_leads P _ _ P
      (block_grown may V own q.regs (fit q.regs V f.binds) f.binds (fit_grown f.binds q.regs) 0 (k + length params) (slices_are (owed k params) shown) f.ending q.ret (begin_state k b params) q.code.list ls b (params_branch _ params)) (λ s c js g.
      some_leads P _ js _ (λ infos ei. need_leads P _ js _ (λ en. here P s c js g))))

  -- procedures that are found from the g-th on, and their trees, where so many branches were before
  record Rest (g : ℕ) (ps : List FlatProc) (b : ℕ) (ls : List Line) (last : State) : Type 0 where
    pub own_procs : List Proc
    pub found : AreFound V.procs g own_procs
    pub count : ℕ
    pub branch : last.branch ≡ b + count
    pub trees : ProcsTake may ps ls → SameTrees may V.procs own (bodies ps) own_procs (branches b count)

  from_grown : (g k : ℕ) (ps : List FlatProc) (s : State) (ls : List Line) → Leads (follow_from V g k ps s ls) (λ last c js. Rest g ps s.branch ls last)
  from_grown g k [] s ls = last_leads _ ls _ (λ e. here _ s [] [] (record { own_procs = []; found = tt; count = 0; branch = omega arith; trees = λ m. refl }))
  from_grown g k (p ∷ ps) s ls =
      let P : State → List Instr → List Line → Type 0 = λ last c js. Rest g (p ∷ ps) s.branch ls last in
      some_leads P _ ls _ (λ q eq. then_leads P _ _ (Ends may V own p.body.binds s.branch q.code.list ls) (proc_grown k s.branch p.params p.shown p.body q ls) (λ s1 c l1 g1.
      more q eq s1 l1 g1 (from_grown (suc g) (k + length p.params + bound_in p.body.binds) ps s1 l1)))
    where
      more : (q : Proc) → find V.procs (proc_name g) ≡ Some q → (s1 : State) (l1 : List Line) → Ends may V own p.body.binds s.branch q.code.list ls s1 [] l1
          → Leads (follow_from V (suc g) (k + length p.params + bound_in p.body.binds) ps s1 l1) (λ last c js. Rest (suc g) ps s1.branch l1 last)
          → Leads (follow_from V (suc g) (k + length p.params + bound_in p.body.binds) ps s1 l1) (λ last c js. Rest g (p ∷ ps) s.branch ls last)
      more q eq s1 l1 g1 h = record {
        to = λ last c js e. let r = h.to last c js e in record {
          own_procs = q ∷ r.own_procs;
          found = (eq, r.found);
          count = g1.count + r.count;
          branch = total s.branch s1.branch last.branch g1.count r.count g1.branch r.branch;
          trees = λ m. (
            g1.nodes,
            branches s.branch g1.count,
            branches s1.branch r.count,
            g1.spec m.0,
            closed may V own p.body.binds s.branch q.code.list ls s1 l1 g1,
            r.trees (subst (ProcsTake may ps) (sym g1.lines_left) m.1),
            sym (pairs s.branch g1.count r.count s1.branch g1.branch),
          );
        };
      }

module _ (may : List ℕ → Bool → Type 0) (V : Views) (f : FlatWhole) (names : NamesOperations V) (sigs : V.book.sigs ≡ sigs_of f.procs) (lines : List Line) (takes : WholeTakes may f lines) where
  fewer : (g : ℕ) (sig : Sig) → sig_at V.book.sigs g ≡ Some sig → g < length f.procs
  fewer g sig e = below f.procs g sig (ap (λ z. sig_at z g) (sym sigs) ∙ e)

  whole : (q : Proc) → find V.procs (codes "main") ≡ Some q → (s1 : State) (l1 : List Line) → Ends may V (length f.procs) f.body.binds 0 q.code.list lines s1 [] l1
      → (last : State) → Rest may V (length f.procs) names fewer 0 f.procs s1.branch l1 last → Trees may V.procs f last.branch
  whole q eq s1 l1 g1 last r = record {
    main = q;
    own = r.own_procs;
    main_found = eq;
    own_found = r.found;
    trees = (
      g1.nodes,
      branches 0 g1.count,
      branches s1.branch r.count,
      g1.spec takes.0,
      closed may V (length f.procs) f.body.binds 0 q.code.list lines s1 l1 g1,
      r.trees (subst (ProcsTake may f.procs) (sym g1.lines_left) takes.1),
      ap (branches 0) (from_none last.branch (g1.count + r.count) (total 0 s1.branch last.branch g1.count r.count g1.branch r.branch)) ∙ sym (pairs 0 g1.count r.count s1.branch g1.branch),
    );
  }

  trees : Leads (follow_whole V f lines) (λ last c js. Trees may V.procs f last.branch)
  trees =
      let P : State → List Instr → List Line → Type 0 = λ last c js. Trees may V.procs f last.branch in
      some_leads P _ lines _ (λ q eq. then_leads P _ _ (Ends may V (length f.procs) f.body.binds 0 q.code.list lines) (proc_grown may V (length f.procs) names fewer 0 0 f.params f.shown f.body q lines) (λ s1 c l1 g1.
      record { to = λ last d js e. whole q eq s1 l1 g1 last ((from_grown may V (length f.procs) names fewer 0 (length f.params + bound_in f.body.binds) f.procs s1 l1).to last d js e) }))

pub have_trees : (may : List ℕ → Bool → Type 0) → TreesBy may
have_trees may V f names sigs lines left last code e takes = (trees may V f names sigs lines takes).to last code left e

-- any side may be taken
any_takes : (bs : Binds) (ls : List Line) → Takes any_side bs ls
any_takes t.No_bind ls = tt
any_takes (t.Calc_to p to w x y rest) ls = any_takes rest (drop 1 ls)
any_takes (t.Apply_to p to op made us rest) ls = any_takes rest (drop 1 ls)
any_takes (t.Assert p inner x rest) ls = any_takes rest ls
any_takes (t.If p to x l le r re rest) ls = (any_takes l (drop 1 ls), any_takes r (after l (drop 1 ls)), any_takes rest (after r (after l (drop 1 ls))))
any_takes (t.While p to xs us cs x b be rest) ls = (any_takes cs (drop 1 ls), any_takes b (after cs (drop 1 ls)), any_takes rest (after b (after cs (drop 1 ls))))
any_takes (t.Par p to l le r re rest) ls = (any_takes l (drop 1 ls), any_takes r (after l (drop 1 ls)), any_takes rest (after r (after l (drop 1 ls))))
any_takes (t.Split p to list at i l le j r re rest) ls = (any_takes l (drop 1 ls), any_takes r (after l (drop 1 ls)), any_takes rest (after r (after l (drop 1 ls))))
any_takes (t.Either p to l le r re rest) (Left_line ∷ ls) = (tt, any_takes l ls, any_takes rest (after l ls))
any_takes (t.Either p to l le r re rest) (Right_line ∷ ls) = (tt, any_takes r ls, any_takes rest (after r ls))
any_takes (t.Either p to l le r re rest) ls = tt
any_takes (t.Any p to x y rest) ls = any_takes rest (drop 1 ls)
any_takes (t.Call p to g us rest) ls = any_takes rest (drop 1 ls)

procs_take : (gs : List FlatProc) (ls : List Line) → ProcsTake any_side gs ls
procs_take [] ls = tt
procs_take (g ∷ gs) ls = (any_takes g.body.binds ls, procs_take gs (after g.body.binds ls))

pub what_has_trees : HaveTrees
what_has_trees = record {
  any = λ V f names sigs lines left last code e. have_trees any_side V f names sigs lines left last code e (any_takes f.body.binds lines, procs_take f.procs (after f.body.binds lines));
  chosen = λ side. have_trees (λ to left. side to ≡ left);
}
