use Rattle.std.proofs.Common.{ap, ◌∙◌}
use Rattle.ownership.specs.Entries as e
use Rattle.ownership.specs.Entries.{spots_of}
use Rattle.rule_check.specs.Context.{shapes_of}
use Rattle.rule_forks.specs.Forks.{fork_list, fork_shapes}
use Rattle.rule_forks.proofs.ClosingLemmas.{closes, on_ok}
use Rattle.rule_forks.proofs.closing.join.Goals as goal

pub returns-clause-joined : goal.returns-clause-joined
returns-clause-joined c =
    on_ok c.bind.result
    (closes c.args.context.now c.put_back.new.context c.put_back-2.new.context c.bind.new.context c.args.outs.now c.args.fork.now (e.shapes_of c.as_slice-3.result.now) c.in_ok-put_back.ensures.put c.in_ok-put_back-2.ensures.put
    (ap e.shapes_of c.as_slice-3.ensures ∙ c.in_ok-results.ensures ∙ (λ i. fork_shapes (fork_list c.args.fork.now) (shapes_of (spots_of (c.as_slice.ensures i))) (shapes_of (spots_of (c.as_slice-2.ensures i))))))
    c.bind.ensures.ok
