use Rattle.std.proofs.Common.{subst, sym}
use Rattle.ownership.specs.Entries.{shapes_of}
use Rattle.fit_state.specs.Infos.{lists_of}
use Rattle.fit_state.specs.States.{IsKnown, Grows}
use Rattle.fit_state.proofs.BindLemmas.{words_known, words_grow}
use Rattle.fit_state.proofs.ShapesLemmas.{on_then}
use Rattle.fits.specs.Places as f
use Rattle.fit_state.proofs.binding.bind_words_known.Goals as goal

pub returns-clause-known : goal.returns-clause-known
returns-clause-known c =
    on_then c.enter_words.result _ _ c.enter_words.ensures.ok
    (λ d R s h. subst (λ y. IsKnown R y (f.bind_words s c.args.outs.now (shapes_of c.args.shapes.now) (lists_of c.args.words.now))) (sym d) (words_known R c.args.state.now s c.args.outs.now (shapes_of c.args.shapes.now) (lists_of c.args.words.now) h))

pub returns-clause-grows : goal.returns-clause-grows
returns-clause-grows c =
    on_then c.enter_words.result _ _ c.enter_words.ensures.ok
    (λ d o. subst (λ y. Grows c.args.state.now y) (sym d) (words_grow c.args.state.now c.args.outs.now (shapes_of c.args.shapes.now) (lists_of c.args.words.now) o))
