use Rattle.ownership.specs.Entries.{shapes_of}
use Rattle.fit_state.proofs.BindLemmas.{at_bound, bound_grows}
use Rattle.fit_state.proofs.binding.bind_at.Goals as goal

pub returns-clause-bound : goal.returns-clause-bound
returns-clause-bound c = λ R s b h.
    at_bound R c.args.state.now c.bind_known.new.state c.bind.new.context s c.args.to.now c.args.outs.now (shapes_of c.args.shapes.now) c.in_ok-bind.ensures.ok c.bind_known.ensures.rules c.len.ensures.differ h (λ k. c.in_ok-bind_known.ensures.known R s b k)

pub returns-clause-grows : goal.returns-clause-grows
returns-clause-grows c = λ o. bound_grows c.args.state.now c.bind_known.new.state c.bind.new.context c.args.outs.now (shapes_of c.args.shapes.now) c.in_ok-bind.ensures.ok (c.in_ok-bind_known.ensures.grows o)
