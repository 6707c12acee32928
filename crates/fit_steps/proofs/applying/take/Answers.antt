use Rattle.std.proofs.Common.{ap, ◌∙◌, refl}
use Rattle.fit_steps.proofs.AppliedLemmas.{never_passed}
use Rattle.rule_check.specs.Steps.{apply_ctx, apply_sure}
use Rattle.rule_steps.specs.Operations.{outcome}
use Rattle.rule_steps.specs.States.{ctx_of}
use Rattle.fit_steps.proofs.applying.take.Goals as goal

pub returns-in-None : goal.returns-in-None
returns-in-None c = record {
  applied = record {
    applied = λ book names rows. c.in_ok-apply.ensures.applied book names rows ∙ ap (λ o. outcome o (ctx_of c.apply.new.state)) c.in-None.is;
    rules = c.in_ok-apply.ensures.grows;
    rest = refl;
  };
}

pub returns-in-Some : goal.returns-in-Some
returns-in-Some c = record {
  applied = λ book names rows.
      let k = c.args.operation.now in
      let x = ctx_of c.args.state.now.rules in
      never_passed (apply_sure book x k.place k.op k.made k.args.now) (apply_ctx x k.outs.now k.made k.args.now) c.in-Some.refusal
      (c.in_ok-apply.ensures.applied book names rows ∙ ap (λ o. outcome o (ctx_of c.apply.new.state)) c.in-Some.is);
}
