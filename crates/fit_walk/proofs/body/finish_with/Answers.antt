use Rattle.std.proofs.Common.{◌∙◌, refl, sym}
use Rattle.fit_state.specs.Infos.{infos_of}
use Rattle.fit_walk.proofs.BodyLemmas.{ends_met, ends_refused, ends_unmet}
use Rattle.rule_steps.specs.States.{ctx_of}
use Rattle.fit_walk.proofs.body.finish_with.Goals as goal

pub returns-then-not-branch-clause-over : goal.returns-then-not-branch-clause-over
returns-then-not-branch-clause-over c = λ V u views is older args.
    let R = c.args.frame.now.regs in
    ends_unmet V R c.args.body.now u (infos_of c.args.infos.now) c.args.state.now is older args c.in_ok-is_met.field-0 (c.in_ok-is_met.ensures R u is) c.if-not-branch.true

pub returns-in-None-clause-over : goal.returns-in-None-clause-over
returns-in-None-clause-over c = λ V u views is older args.
    let R = c.args.frame.now.regs in
    ends_met V R c.args.body.now u (infos_of c.args.infos.now) c.args.state.now is older args c.in_ok-is_met.field-0 (c.in_ok-is_met.ensures R u is) c.if-not-branch.false
    (c.in_ok-end_body.ensures.ended V.book (ctx_of c.args.state.now.rules) views.names refl ∙ c.in-None.is)

pub returns-in-Some-clause-over : goal.returns-in-Some-clause-over
returns-in-Some-clause-over c = λ V u views is older args.
    let R = c.args.frame.now.regs in
    ends_refused V R c.args.body.now u (infos_of c.args.infos.now) c.args.state.now is older args c.in_ok-is_met.field-0 (c.in_ok-is_met.ensures R u is) c.if-not-branch.false c.in-Some.refusal
    (c.in_ok-end_body.ensures.ended V.book (ctx_of c.args.state.now.rules) views.names refl ∙ c.in-Some.is)
