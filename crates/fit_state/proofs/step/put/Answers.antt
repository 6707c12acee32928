use Rattle.std.proofs.Common.{ap}
use Rattle.std.proofs.lemmas.Bool.{lt-ltb, le-ltb}
use Rattle.std.specs.Option.{option_map}
use Rattle.fit_tokens.specs.Changes.{token_of}
use Rattle.fit_state.proofs.PassLemmas.{put_moves, put_fails, grows_tokens, grows_same}
use Rattle.fit_state.proofs.step.put.Goals as goal

pub returns-in_ok-set-clause-step : goal.returns-in_ok-set-clause-step
returns-in_ok-set-clause-step c = put_moves c.args.regs c.args.state.now c.set.new.self c.args.to (option_map token_of c.args.token) c.in_ok-set.ensures.ok (lt-ltb c.args.to c.args.regs c.if-to-regs.true)

pub returns-in_ok-set-clause-grows : goal.returns-in_ok-set-clause-grows
returns-in_ok-set-clause-grows c = grows_tokens c.args.state.now c.set.new.self (ap (λ x. x.saved) c.in_ok-set.ensures.ok)

pub returns-else-to-regs-clause-step : goal.returns-else-to-regs-clause-step
returns-else-to-regs-clause-step c = put_fails c.args.regs c.args.state.now c.args.state.now c.args.to (option_map token_of c.args.token) (le-ltb c.args.to c.args.regs c.if-to-regs.false)

pub returns-else-to-regs-clause-grows : goal.returns-else-to-regs-clause-grows
returns-else-to-regs-clause-grows c = grows_same c.args.state.now
