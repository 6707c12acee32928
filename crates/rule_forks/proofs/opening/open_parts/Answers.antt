use Rattle.std.proofs.Common.{◌∙◌, ◌∷◌}
use Rattle.std.specs.Prelude.{Some}
use Rattle.rule_forks.specs.Forks.{split_left, split_right}
use Rattle.rule_forks.proofs.OpeningLemmas.{if_ok_then, forks_at, part_at}
use Rattle.rule_forks.proofs.opening.open_parts.Goals as goal

pub returns-clause-forks : goal.returns-clause-forks
returns-clause-forks c =
    let s = c.args.splitting.now in
    let ls = c.args.others.now.left in
    let bs = c.args.others.now.right in
    if_ok_then c.open_fork.result _ _
    (λ fork h. forks_at c.args.context.now.spots _ _ (split_left s.list ls bs s.left_slice) (split_right s.list ls bs s.right_slice) fork
    (part_at c.as_slice.result.now c.as_slice-2.result.now (s.list ∷ ls) bs (Some s.left_slice) (c.as_slice.ensures ∙ c.in_ok-uses.ensures.left) c.as_slice-2.ensures)
    (part_at c.as_slice-3.result.now c.as_slice-4.result.now (s.list ∷ bs) ls (Some s.right_slice) (c.as_slice-3.ensures ∙ c.in_ok-uses.ensures.right) c.as_slice-4.ensures) h)
    c.open_fork.ensures.forks
