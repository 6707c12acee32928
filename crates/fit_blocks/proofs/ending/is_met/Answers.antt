use Rattle.std.proofs.Common.{ap, ◌∙◌, ◌&&◌}
use Rattle.fit_blocks.proofs.EndingLemmas.{met_as, not_met}
use Rattle.fit_state.specs.Infos.{infos_of}
use Rattle.fit_tokens.specs.Changes.{tokens_of}
use Rattle.fits.specs.Follow.{all_below}
use Rattle.fits.specs.Places.{goners, hold_words, none_left}
use Rattle.fit_blocks.proofs.ending.is_met.Goals as goal

pub returns-then-not-are_held : goal.returns-then-not-are_held
returns-then-not-are_held c = λ R s is.
    not_met c.args.regs c.args.ends.now s (infos_of c.args.infos.now) c.are_held.result
    (c.are_held.ensures ∙ (λ i. hold_words (is.known.tokens i) c.args.ends.now.targets.now ((ap tokens_of c.as_slice.ensures ∙ c.in_ok-words.ensures) i) && all_below c.args.regs c.args.ends.now.targets.now)) c.if-not-are_held.true

pub returns : goal.returns
returns c = λ R s is.
    met_as c.args.regs c.args.ends.now s (infos_of c.args.infos.now) c.are_held.result c.none_left.result
    (c.are_held.ensures ∙ (λ i. hold_words (is.known.tokens i) c.args.ends.now.targets.now ((ap tokens_of c.as_slice.ensures ∙ c.in_ok-words.ensures) i) && all_below c.args.regs c.args.ends.now.targets.now)) c.if-not-are_held.false
    (c.none_left.ensures R s is ∙ ap (λ vs. none_left c.args.ends.now.mark (goners vs s.hold) s.entries) (c.as_slice-2.ensures ∙ c.in_ok-vars.ensures))
