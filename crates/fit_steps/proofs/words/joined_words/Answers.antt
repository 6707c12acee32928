use Rattle.std.proofs.Common.{◌∙◌}
use Rattle.fit_state.specs.Infos.{lists_of}
use Rattle.fits.specs.Follow.{joined_words}
use Rattle.fit_steps.proofs.WordsLemmas.{joined_step}
use Rattle.fit_steps.proofs.words.joined_words.Goals as goal

pub each-preserved : goal.each-preserved
each-preserved c = joined_step c.args.lists.now c.each.list-index c.list-item.result c.each.all c.append.new.self c.in_ok-from_slice.field-0 (joined_words (lists_of c.args.lists.now)) c.each-test.true (c.in_ok-from_slice.ensures ∙ c.as_slice.ensures ∙ c.list-item.is) c.in_ok-append.ensures c.each.invariant
