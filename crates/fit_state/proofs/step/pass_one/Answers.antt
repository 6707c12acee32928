use Rattle.std.proofs.Common.{◌∙◌, ap, subst, sym}
use Rattle.entry_falls.specs.Falls.{AllFell}
use Rattle.fit_tokens.specs.Changes.{token_of}
use Rattle.std.specs.Option.{option_map}
use Rattle.target_code.specs.declared.tree.Instr.{out-Instr}
use Rattle.target_code.specs.declared.tree.Instr.TheViews.{roll-Instr, roll-out-Instr, outs-Const, outs-Mov, outs-Free, rolls-Const, rolls-Mov, rolls-Free}
use Rattle.fit_state.proofs.PassLemmas.{const_step, mov_step, free_step, other_step, grows_same, all_same}
use Rattle.fit_state.proofs.ShapesLemmas.{if_then}
use Rattle.fit_state.proofs.step.pass_one.Goals as goal

pub returns-in-Const-clause-step : goal.returns-in-Const-clause-step
returns-in-Const-clause-step c = if_then c.put.result _ _ c.put.ensures.step (λ step p. const_step c.args.regs c.args.instr.now c.in-Const.to c.in-Const.value c.args.state.now c.put.new.state step (ap out-Instr c.in-Const.is ∙ outs-Const c.in-Const.to c.in-Const.value) p)

pub returns-in-Const-clause-fell : goal.returns-in-Const-clause-fell
returns-in-Const-clause-fell c = if_then c.put.result _ _ c.put.ensures.grows (λ step g. subst (λ r. AllFell c.args.state.now.rules.context.spots r.context.spots) (sym c.put.ensures.rules) (all_same c.args.state.now.rules.context.spots))

pub returns-in-Mov-clause-step : goal.returns-in-Mov-clause-step
returns-in-Mov-clause-step c = if_then c.put-in-Mov.result _ _ c.put-in-Mov.ensures.step (λ step p. mov_step c.args.regs c.args.instr.now c.in-Mov.to c.in-Mov.from (option_map token_of c.get-token.result) c.args.state.now c.put-in-Mov.new.state step (ap out-Instr c.in-Mov.is ∙ outs-Mov c.in-Mov.to c.in-Mov.from) c.get-token.ensures p)

pub returns-in-Mov-clause-fell : goal.returns-in-Mov-clause-fell
returns-in-Mov-clause-fell c = if_then c.put-in-Mov.result _ _ c.put-in-Mov.ensures.grows (λ step g. subst (λ r. AllFell c.args.state.now.rules.context.spots r.context.spots) (sym c.put-in-Mov.ensures.rules) (all_same c.args.state.now.rules.context.spots))

pub returns-in-Free-clause-step : goal.returns-in-Free-clause-step
returns-in-Free-clause-step c = if_then c.free.result _ _ c.free.ensures.step (λ step p. free_step c.args.regs c.args.instr.now c.in-Free.block c.args.state.now c.free.new.state step (ap out-Instr c.in-Free.is ∙ outs-Free c.in-Free.block) p)

pub returns-in_default : goal.returns-in_default
returns-in_default c = record {
  step = other_step c.args.regs c.args.instr.now c.args.state.now
      (λ to v e. c.in_default.not-Const to v (sym (roll-out-Instr c.args.instr.now) ∙ ap roll-Instr e ∙ rolls-Const to v))
      (λ to from e. c.in_default.not-Mov to from (sym (roll-out-Instr c.args.instr.now) ∙ ap roll-Instr e ∙ rolls-Mov to from))
      (λ b e. c.in_default.not-Free b (sym (roll-out-Instr c.args.instr.now) ∙ ap roll-Instr e ∙ rolls-Free b));
  grows = grows_same c.args.state.now;
  fell = all_same c.args.state.now.rules.context.spots;
}
