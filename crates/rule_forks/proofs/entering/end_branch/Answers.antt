use Rattle.std.proofs.Common.{refl, sym, ap, ◌∙◌}
use Rattle.std.specs.Prelude.{Result, Ok}
use Rattle.nres_core.specs.declared.refusal.Refusal.{Refusal}
use Rattle.rule_check.specs.Steps.{Moved}
use Rattle.rule_forks.specs.Forks.{moved_in}
use Rattle.rule_forks.specs.declared.fork.Branch.{Branch}
use Rattle.rule_steps.specs.Ends.{moved_as}
use Rattle.rule_steps.specs.States.{ctx_of}
use Rattle.rule_forks.proofs.entering.end_branch.Goals as goal

pub returns-in-Ok-clause-ended : goal.returns-in-Ok-clause-ended
returns-in-Ok-clause-ended c = λ book names.
    let g : Branch → Result Moved Refusal = λ b. Ok (moved_in b) in
    c.in_ok-results.ensures.ended book (ctx_of c.args.state.now) names refl ∙ ap (λ z. moved_as z c.finish.new.context.spots) c.in-Ok.is ∙ ap g (sym c.leave_branch.ensures.branch)

pub returns-in-Err-clause-ended : goal.returns-in-Err-clause-ended
returns-in-Err-clause-ended c = λ book names.
    c.in_ok-results.ensures.ended book (ctx_of c.args.state.now) names refl ∙ ap (λ z. moved_as z c.finish.new.context.spots) c.in-Err.is
