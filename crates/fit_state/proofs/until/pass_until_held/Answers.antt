use Rattle.std.proofs.Common.{inl, inr, true, false, [], ◌∷◌, arith}
use Rattle.fit_tokens.specs.Changes.{tokens_of}
use Rattle.fits.specs.Follow as f
use Rattle.fits.specs.Places.{hold_words}
use Rattle.fit_state.proofs.HeldLemmas.{grows_then}
use Rattle.fit_state.proofs.PassLemmas.{at_start, grows_same, until_ends}
use Rattle.fit_state.proofs.RestLemmas.{until_moved, until_stopped, until_failed, until_over, held_as}
use Rattle.fit_state.proofs.until.pass_until_held.Goals as goal

pub each-init : goal.each-init
each-init c = record {
  reached = λ V s h. at_start c.args.regs s c.args.state.now (λ u. f.pass_until c.args.regs V (λ u. hold_words u.toks (c.args.reg ∷ []) (tokens_of c.args.words.now)) u c.args.code.now) h;
  grows = grows_same c.args.state.now;
}

pub returns-in_default-clause-passed : goal.returns-in_default-clause-passed
returns-in_default-clause-passed c = λ V s h.
    until_over c.args.regs V s c.each.state (f.pass_until c.args.regs V (λ u. hold_words u.toks (c.args.reg ∷ []) (tokens_of c.args.words.now)) s c.args.code.now) c.each.rest.now (omega arith) (λ u. hold_words u.toks (c.args.reg ∷ []) (tokens_of c.args.words.now)) (c.each.invariant.reached V s h)
    (held_as c.args.regs c.each.state (c.each.invariant.reached V s h).next (c.args.reg ∷ []) (tokens_of c.args.words.now) c.hold.result false (c.each.invariant.reached V s h).is c.hold.ensures c.each-test.true)

pub each-preserved : goal.each-preserved
each-preserved c = record {
  reached = λ V s h.
      until_moved c.args.regs V s c.each.state c.pass_one.new.state (f.pass_until c.args.regs V (λ u. hold_words u.toks (c.args.reg ∷ []) (tokens_of c.args.words.now)) s c.args.code.now) c.each.rest.now c.first-item.result c.in_ok-pass_one.field-0 c.in-len1-up.len_at_least c.first-item.is c.in_ok-pass_one.ensures.step (λ u. hold_words u.toks (c.args.reg ∷ []) (tokens_of c.args.words.now)) c.in-Passed.is (c.each.invariant.reached V s h)
      (held_as c.args.regs c.each.state (c.each.invariant.reached V s h).next (c.args.reg ∷ []) (tokens_of c.args.words.now) c.hold.result false (c.each.invariant.reached V s h).is c.hold.ensures c.each-test.true);
  grows = grows_then c.args.state.now c.each.state c.pass_one.new.state c.each.invariant.grows c.in_ok-pass_one.ensures.grows;
}

pub returns-in-Stops : goal.returns-in-Stops
returns-in-Stops c = record {
  passed = λ V s h. elim c.in-Stops.is [
    | inl q ↦ until_stopped c.args.regs V s c.each.state c.pass_one.new.state (f.pass_until c.args.regs V (λ u. hold_words u.toks (c.args.reg ∷ []) (tokens_of c.args.words.now)) s c.args.code.now) c.each.rest.now c.first-item.result c.in_ok-pass_one.field-0 c.in-len1-up.len_at_least c.first-item.is c.in_ok-pass_one.ensures.step (λ u. hold_words u.toks (c.args.reg ∷ []) (tokens_of c.args.words.now)) q (c.each.invariant.reached V s h)
        (held_as c.args.regs c.each.state (c.each.invariant.reached V s h).next (c.args.reg ∷ []) (tokens_of c.args.words.now) c.hold.result false (c.each.invariant.reached V s h).is c.hold.ensures c.each-test.true)
    | inr q ↦ until_failed c.args.regs V s c.each.state c.pass_one.new.state (f.pass_until c.args.regs V (λ u. hold_words u.toks (c.args.reg ∷ []) (tokens_of c.args.words.now)) s c.args.code.now) c.each.rest.now c.first-item.result c.in_ok-pass_one.field-0 c.in-len1-up.len_at_least c.first-item.is c.in_ok-pass_one.ensures.step (λ u. hold_words u.toks (c.args.reg ∷ []) (tokens_of c.args.words.now)) q (c.each.invariant.reached V s h)
        (held_as c.args.regs c.each.state (c.each.invariant.reached V s h).next (c.args.reg ∷ []) (tokens_of c.args.words.now) c.hold.result false (c.each.invariant.reached V s h).is c.hold.ensures c.each-test.true)
  ];
  grows = grows_then c.args.state.now c.each.state c.pass_one.new.state c.each.invariant.grows c.in_ok-pass_one.ensures.grows;
}

pub returns-clause-passed : goal.returns-clause-passed
returns-clause-passed c = λ V s h.
    until_ends c.args.regs V (λ u. hold_words u.toks (c.args.reg ∷ []) (tokens_of c.args.words.now)) s c.each.state c.args.code.now c.each.rest.now (c.each.invariant.reached V s h)
    (held_as c.args.regs c.each.state (c.each.invariant.reached V s h).next (c.args.reg ∷ []) (tokens_of c.args.words.now) c.hold.result true (c.each.invariant.reached V s h).is c.hold.ensures c.each-test.false)
