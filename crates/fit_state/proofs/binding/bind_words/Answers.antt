use Rattle.std.proofs.Common.{◌∙◌, sym}
use Rattle.ownership.specs.Entries.{shapes_of}
use Rattle.fit_state.specs.Infos.{lists_of}
use Rattle.fit_state.proofs.BindLemmas.{words_bound, bound_grows, lists_count, shapes_count}
use Rattle.fit_state.proofs.binding.bind_words.Goals as goal

pub returns-clause-bound : goal.returns-clause-bound
returns-clause-bound c = λ R s h.
    words_bound R c.args.state.now c.bind_words_known.new.state c.bind.new.context s c.args.outs.now (shapes_of c.args.shapes.now) (lists_of c.args.words.now) (lists_count c.args.words.now ∙ c.requires ∙ sym (shapes_count c.args.shapes.now)) c.in_ok-bind.ensures.ok c.bind_words_known.ensures.rules c.len.ensures.differ h
    (λ k. c.in_ok-bind_words_known.ensures.known R s k)

pub returns-clause-grows : goal.returns-clause-grows
returns-clause-grows c = λ o. bound_grows c.args.state.now c.bind_words_known.new.state c.bind.new.context c.args.outs.now (shapes_of c.args.shapes.now) c.in_ok-bind.ensures.ok (c.in_ok-bind_words_known.ensures.grows o)
