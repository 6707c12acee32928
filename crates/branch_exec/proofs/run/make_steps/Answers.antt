use Rattle.std.proofs.Common.{◌≡◌, suc, ◌+◌, arith, subst, inl, ◌∙◌, sym}
use Rattle.branch_exec.specs.Went.{Ran}
use Rattle.branch_exec.proofs.FrameRuns.{keeps_last, stops_not_on}
use Rattle.branch_exec.proofs.Took.{one_more, ran_then}
use Rattle.branch_exec.proofs.run.make_steps.Goals as goal

pub steps-preserved : goal.steps-preserved
steps-preserved g c =
    let T = c.args.procs.now in
    let l = c.args.leaf.now in
    let b = l.budget in
    let k = g.S.Store.kept in
    let e = c.in-On.ensures in
    let i = c.steps.invariant in
    let r = c.run_straight.ensures in
    let m = c.run_straight.new.leaf in
    let n = c.run_straight.new.store in
    let same : c.step.new.leaf.done ≡ m.done = e.done in
    let budget : c.step.new.leaf.budget ≡ m.budget = e.budget in
    let kept : m.budget ≡ c.steps.leaf.budget = r.budget in
    let start : c.steps.leaf.budget ≡ b = i.4 in
    let lt = r.unspent in
    let one : suc m.done ≡ c.step.new.leaf.done + 1 = omega arith in (
      λ d.
          let there = subst (λ x. Ran T x d c.steps.leaf.stack (k c.steps.store) c.steps.leaf.done m.stack (k n) m.done) start (r.ran d) in
          subst (λ x. Ran T b d l.stack (k c.args.store.now) l.done c.step.new.leaf.stack (k c.step.new.store) x) one
          (one_more T b d l.stack m.stack c.step.new.leaf.stack (k c.args.store.now) (k n) (k c.step.new.store) l.done m.done (omega arith)
          (ran_then T b d l.stack c.steps.leaf.stack m.stack (k c.args.store.now) (k c.steps.store) (k n) l.done c.steps.leaf.done m.done (i.0 d) there) e.keeps.1 e.turn),
      inl (omega arith),
      e.keeps.0,
      e.path ∙ r.path ∙ i.3,
      e.budget ∙ r.budget ∙ i.4,
    )

pub returns-in_default : goal.returns-in_default
returns-in_default g c =
    let T = c.args.procs.now in
    let l = c.args.leaf.now in
    let b = l.budget in
    let k = g.S.Store.kept in
    let e = c.step.ensures in
    let i = c.steps.invariant in
    let r = c.run_straight.ensures in
    let m = c.run_straight.new.leaf in
    let n = c.run_straight.new.store in
    let kept : m.budget ≡ c.steps.leaf.budget = r.budget in
    let start : c.steps.leaf.budget ≡ b = i.4 in
    let same : c.step.new.leaf.done ≡ m.done = e.done in
    let lt = r.unspent in
    record {
      leg = λ d.
          let there = subst (λ x. Ran T x d c.steps.leaf.stack (k c.steps.store) c.steps.leaf.done m.stack (k n) m.done) start (r.ran d) in (
            stops_not_on c.step.result c.in_default.not-On,
            record {
              stack = m.stack;
              store = k n;
              ran = subst (λ x. Ran T b d l.stack (k c.args.store.now) l.done m.stack (k n) x) (sym same) (ran_then T b d l.stack c.steps.leaf.stack m.stack (k c.args.store.now) (k c.steps.store) (k n) l.done c.steps.leaf.done m.done (i.0 d) there);
              unspent = omega arith;
              last = e.turn;
            },
          );
      sized = keeps_last T c.step.result m.stack c.step.new.leaf.stack c.step.new.leaf.waiting e.keeps;
      path = e.path ∙ r.path ∙ i.3;
      budget = e.budget ∙ r.budget ∙ i.4;
    }
