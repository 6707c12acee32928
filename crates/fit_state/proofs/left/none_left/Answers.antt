use Rattle.fit_state.proofs.LeftLemmas.{none_is}
use Rattle.fit_state.proofs.left.none_left.Goals as goal

pub returns : goal.returns
returns c = λ R s h. none_is c.args.state.now.rules.context.spots s.hold s.entries c.args.mark c.args.gone.now c.len.result c.left_below.result h.held.same.spots c.len.ensures.count c.left_below.ensures.none
