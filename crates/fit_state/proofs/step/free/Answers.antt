use Rattle.std.proofs.Common.{◌∙◌, sym}
use Rattle.fit_state.proofs.PassLemmas.{free_moves, free_fails, grows_context, grows_same, all_same, fell_as}
use Rattle.fit_state.proofs.step.free.Goals as goal

pub returns-in_ok-go-in-Some-clause-step : goal.returns-in_ok-go-in-Some-clause-step
returns-in_ok-go-in-Some-clause-step c = free_moves c.args.state.now c.go.new.self c.args.block c.in-Some.var (λ R s h. sym c.in-Some.is ∙ c.owner_of.ensures R s h) c.in_ok-go-in-Some.ensures.ok

pub returns-in_ok-go-in-Some-clause-grows : goal.returns-in_ok-go-in-Some-clause-grows
returns-in_ok-go-in-Some-clause-grows c = grows_context c.args.state.now c.go.new.self c.in-Some.var c.in_ok-go-in-Some.ensures.ok

pub returns-in_ok-go-in-Some-clause-fell : goal.returns-in_ok-go-in-Some-clause-fell
returns-in_ok-go-in-Some-clause-fell c = fell_as c.args.state.now.rules.context c.go.new.self c.in-Some.var c.in_ok-go-in-Some.ensures.ok

pub returns-in-None-clause-step : goal.returns-in-None-clause-step
returns-in-None-clause-step c = free_fails c.args.state.now c.args.state.now c.args.block (λ R s h. sym c.in-None.is ∙ c.owner_of.ensures R s h)

pub returns-in-None-clause-grows : goal.returns-in-None-clause-grows
returns-in-None-clause-grows c = grows_same c.args.state.now

pub returns-in-None-clause-fell : goal.returns-in-None-clause-fell
returns-in-None-clause-fell c = all_same c.args.state.now.rules.context.spots
