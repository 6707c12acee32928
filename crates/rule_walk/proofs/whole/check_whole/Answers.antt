use Rattle.rule_steps.proofs.LoopsLemmas.{if_ok_then}
use Rattle.rule_walk.proofs.WholeLemmas.{whole_passes, whole_refused}
use Rattle.rule_walk.proofs.whole.check_whole.Goals as goal

pub returns-in-Some : goal.returns-in-Some
returns-in-Some c =
    whole_refused c.args.flat.now c.as_slice.result.now c.as_slice-2.result.now c.as_slice-3.result.now c.as_slice-4.result.now c.as_slice.ensures c.as_slice-2.ensures c.as_slice-3.ensures c.as_slice-4.ensures
    c.in_ok-refusal.field-0 c.in-Some.refusal c.in_ok-refusal.ensures c.in-Some.is

pub returns-in_ok-next-in-None : goal.returns-in_ok-next-in-None
returns-in_ok-next-in-None c =
    if_ok_then c.check_procs.result _ _
    (λ said procs. whole_passes c.args.flat.now c.as_slice.result.now c.as_slice-2.result.now c.as_slice-3.result.now c.as_slice-4.result.now c.as_slice.ensures c.as_slice-2.ensures c.as_slice-3.ensures c.as_slice-4.ensures
    c.in_ok-refusal.field-0 said c.in_ok-next-in-None.next c.in_ok-refusal.ensures c.in-None.is c.in_ok-next-in-None.ensures procs)
    c.check_procs.ensures
