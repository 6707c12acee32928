use Rattle.std.proofs.Common.{length, ◌∷◌, []}
use Rattle.fit_state.proofs.PassLemmas.{Reached}
use Rattle.fit_state.specs.States.{Is, Grows}
use Rattle.fit_tokens.specs.Changes.{tokens_of}
use Rattle.fits.specs.Follow as f
use Rattle.fits.specs.Follow.{Views}
use Rattle.fits.specs.Places.{State, hold_words}
use Rattle.fit_state.proofs.until.pass_until_held.Given as goal

abbrev pub invariant-each : goal.invariant-each
invariant-each l = record {
  reached : (V : Views) (s : State) → Is l.regs l.initial.state s
      → Reached l.regs s l.state (f.pass_until l.regs V (λ u. hold_words u.toks (l.reg ∷ []) (tokens_of l.words)) s l.code) (λ u. f.pass_until l.regs V (λ u. hold_words u.toks (l.reg ∷ []) (tokens_of l.words)) u l.rest);
  grows : Grows l.initial.state l.state;
}

abbrev pub decreases-each : goal.decreases-each
decreases-each l = length l.rest
