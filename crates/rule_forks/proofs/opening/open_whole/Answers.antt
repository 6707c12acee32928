use Rattle.std.specs.Prelude.{None}
use Rattle.rule_forks.specs.Forks.{par_left, par_right}
use Rattle.rule_forks.proofs.OpeningLemmas.{if_ok_then, forks_at, part_at}
use Rattle.rule_forks.proofs.opening.open_whole.Goals as goal

pub returns-clause-forks : goal.returns-clause-forks
returns-clause-forks c =
    let ls = c.args.uses.now.left in
    let bs = c.args.uses.now.right in
    if_ok_then c.open_fork.result _ _
    (λ fork h. forks_at c.args.context.now.spots _ _ (par_left ls bs) (par_right ls bs) fork
    (part_at c.as_slice.result.now c.as_slice-2.result.now ls bs None c.as_slice.ensures c.as_slice-2.ensures) (part_at c.as_slice-3.result.now c.as_slice-4.result.now bs ls None c.as_slice-3.ensures c.as_slice-4.ensures) h)
    c.open_fork.ensures.forks
