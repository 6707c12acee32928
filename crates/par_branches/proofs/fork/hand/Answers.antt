use Rattle.std.proofs.Common.{ℕ, ◌+◌, ◌-◌, ◌*◌, ◌/◌, ◌≤◌, arith}
use Rattle.par_branches.proofs.Halving.{half_enough, weighs_four}
use Rattle.par_branches.proofs.fork.hand.Goals as goal

pub hand_out-requires-clause-weight : goal.hand_out-requires-clause-weight
hand_out-requires-clause-weight g c = weighs_four c.args.workers (g.S.Store.kept c.args.store.now).weight c.requires.workers c.requires.enough

pub returns-in-Ok-hand_out-clause-ok : goal.returns-in-Ok-hand_out-clause-ok
returns-in-Ok-hand_out-clause-ok g c =
    let k = g.S.Store.kept in
    let n : ℕ = c.args.workers in
    let w : ℕ = (k c.args.store.now).weight in
    let o = c.in-Ok-hand_out.ensures.ok in
    let more : 2 * (n - n / 2) ≤ n + 1 = omega arith in
    let fewer : 2 * (n / 2) ≤ n + 1 = omega arith in
    record {
      children = c.children-one.ensures;
      out = o;
      left = half_enough n (n - n / 2) w (k c.in-Ok-hand_out.first).weight c.requires.workers more c.requires.enough o.left.weight;
      right = half_enough n (n / 2) w (k c.in-Ok-hand_out.second).weight c.requires.workers fewer c.requires.enough o.right.weight;
    }
