use Rattle.std.proofs.Common.{◌∙◌}
use Rattle.nres_core.specs.FlatTree.{flats_of}
use Rattle.rule_forks.specs.Forks.{uses_of, par_left, par_right}
use Rattle.rule_forks.proofs.OpeningLemmas.{par_passes, par_refuses, forks_at, part_at}
use Rattle.rule_forks.proofs.opening.open_par.Goals as goal

pub returns-in-Some : goal.returns-in-Some
returns-in-Some c = λ book names.
    par_refuses book c.args.place c.args.context.now.spots (uses_of (flats_of c.args.left.now)) (uses_of (flats_of c.args.right.now)) c.as_slice.result.now c.as_slice-2.result.now c.in_ok-fault.field-0
    (c.as_slice.ensures ∙ c.in_ok-uses.ensures.left) (c.as_slice-2.ensures ∙ c.in_ok-uses.ensures.right) c.in_ok-fault.ensures
    c.args.names.now c.in-Some.fault c.in_ok-refusal-in-Some.refusal names c.in-Some.is c.in_ok-refusal-in-Some.ensures

pub returns : goal.returns
returns c = λ book names.
    let us = uses_of (flats_of c.args.left.now) in
    let vs = uses_of (flats_of c.args.right.now) in
    let ls = c.in_ok-uses.uses.left in
    let bs = c.in_ok-uses.uses.right in record {
      sure = par_passes book c.args.place c.args.context.now.spots us vs c.as_slice.result.now c.as_slice-2.result.now c.in_ok-fault.field-0
          (c.as_slice.ensures ∙ c.in_ok-uses.ensures.left) (c.as_slice-2.ensures ∙ c.in_ok-uses.ensures.right) c.in_ok-fault.ensures c.in-None.is;
      forks = forks_at c.args.context.now.spots (par_left ls bs) (par_right ls bs) (par_left us vs) (par_right us vs) c.in_ok-fork-in-None.fork
          (part_at ls bs us vs _ c.in_ok-uses.ensures.left c.in_ok-uses.ensures.right) (part_at bs ls vs us _ c.in_ok-uses.ensures.right c.in_ok-uses.ensures.left) c.in_ok-fork-in-None.ensures.forks;
      list = c.in_ok-fork-in-None.ensures.list;
    }
