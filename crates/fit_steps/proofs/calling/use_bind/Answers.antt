use Rattle.std.proofs.Common.{◌∙◌, ap, sym}
use Rattle.fit_state.specs.Infos.{lists_of}
use Rattle.fit_steps.proofs.UseLemmas.{bind_grows, bind_is, bind_not, count_is, count_not}
use Rattle.fit_tokens.specs.Changes.{toks, tokens_of}
use Rattle.fits.specs.Follow.{joined_words}
use Rattle.fits.specs.Places.{put_tokens}
use Rattle.ownership.specs.Entries.{shapes_of}
use Rattle.fit_steps.proofs.calling.use_bind.Goals as goal

pub returns-then-to-len-clause-bound : goal.returns-then-to-len-clause-bound
returns-then-to-len-clause-bound c =
    bind_not c.args.state.now c.args.state.now c.args.outs.now (shapes_of c.args.shapes.now) (lists_of c.args.words.now) c.args.to.now
    (count_not c.args.to.now c.in_ok-joined.joined (joined_words (lists_of c.args.words.now)) c.in_ok-joined.ensures (λ q. c.if-to-len.true (q ∙ sym c.len.ensures)))

pub returns-clause-bound : goal.returns-clause-bound
returns-clause-bound c =
    bind_is c.args.state.now c.bind_words.new.state c.put.new.self c.args.outs.now (shapes_of c.args.shapes.now) (lists_of c.args.words.now) c.args.to.now c.in_ok-joined.joined
    (count_is c.args.to.now c.in_ok-joined.joined (joined_words (lists_of c.args.words.now)) c.in_ok-joined.ensures (c.if-to-len.false ∙ c.len.ensures))
    (c.in_ok-put.ensures.ok ∙ ap (λ ts. put_tokens (toks c.args.state.now.tokens) c.args.to.now (tokens_of ts)) c.as_slice.ensures) c.in_ok-joined.ensures c.in_ok-bind_words.ensures.bound

pub returns-clause-grows : goal.returns-clause-grows
returns-clause-grows c = λ t order. bind_grows c.args.state.now c.bind_words.new.state c.put.new.self c.put.ensures.saved (c.in_ok-bind_words.ensures.grows order)
