use Rattle.std.proofs.Common.{◌∙◌, ap}
use Rattle.fit_tokens.specs.Changes.{tokens_of}
use Rattle.ownership.specs.Entries.{shapes_of}
use Rattle.fit_state.proofs.BindLemmas.{at_known, at_grows}
use Rattle.fit_state.proofs.ShapesLemmas.{on_then}
use Rattle.fit_state.proofs.binding.bind_known.Goals as goal

pub returns-clause-known : goal.returns-clause-known
returns-clause-known c =
    on_then c.enter_fresh.result _ _ c.enter_fresh.ensures.ok
    (λ d R s b h. at_known R c.args.state.now c.enter_fresh.new.state c.put.new.self s c.args.to.now c.args.outs.now (shapes_of c.args.shapes.now) c.as_slice.result.now c.in_ok-put.ensures.ok (ap tokens_of c.as_slice.ensures ∙ c.in_ok-words.ensures) d b h)

pub returns-clause-grows : goal.returns-clause-grows
returns-clause-grows c =
    on_then c.enter_fresh.result _ _ c.enter_fresh.ensures.ok
    (λ d o. at_grows c.args.state.now c.enter_fresh.new.state c.put.new.self c.args.outs.now (shapes_of c.args.shapes.now) c.put.ensures.saved d o)
