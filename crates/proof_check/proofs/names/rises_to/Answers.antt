use Rattle.std.specs.Cmp.Lexicographic.{slice_cmp}
use Rattle.std.specs.Ordering.{nat_cmp, is_lt}
use Rattle.std.proofs.Common.{ap, ◌∙◌}
use Rattle.proof_check.proofs.Steps.{less_is, rises_first}
use Rattle.proof_check.proofs.names.rises_to.Goals as goal

pub returns-in-len1-up : goal.returns-in-len1-up
returns-in-len1-up c =
    c.lt.ensures ∙ less_is c.args.name.now c.bytes.result.now ∙ ap (λ z. is_lt (slice_cmp nat_cmp c.args.name.now z)) c.bytes.ensures
    ∙ rises_first c.args.name.now c.args.procs.now c.next-item.result c.in-len1-up.len_at_least c.next-item.is
