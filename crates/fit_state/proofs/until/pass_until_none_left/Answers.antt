use Rattle.std.proofs.Common.{◌≡◌, ◌∙◌, inl, inr, true, false, length, ap, sym, arith}
use Rattle.std.proofs.lemmas.Bool.{le-ltb, lt-ltb}
use Rattle.fits.specs.Follow as f
use Rattle.fits.specs.Places.{goners, none_left}
use Rattle.fit_state.specs.Left.{none_below}
use Rattle.fit_state.proofs.HeldLemmas.{grows_then}
use Rattle.fit_state.proofs.LeftLemmas.{fell_length, none_after, past_after}
use Rattle.fit_state.proofs.PassLemmas.{at_start, grows_same, until_ends}
use Rattle.fit_state.proofs.RestLemmas.{until_moved, until_stopped, until_failed, until_over, left_as}
use Rattle.fit_state.proofs.until.pass_until_none_left.Goals as goal

pub each-init : goal.each-init
each-init c =
    let n = c.len.ensures.count in
    let l = c.left_below-left.ensures in
    record {
      reached = λ V s h. at_start c.args.regs s c.args.state.now (λ u. f.pass_until c.args.regs V (λ u. none_left c.args.mark (goners c.args.gone.now u.hold) u.entries) u c.args.code.now) h;
      grows = grows_same c.args.state.now;
      within = let w = l.within in omega arith;
      none = ap (none_below c.args.state.now.rules.context.spots c.args.mark c.args.gone.now) (sym n) ∙ l.none;
      past = λ z k q h. l.past z k q (omega arith);
    }

pub returns-in_default-clause-passed : goal.returns-in_default-clause-passed
returns-in_default-clause-passed c = λ V s h.
    until_over c.args.regs V s c.each.state (f.pass_until c.args.regs V (λ u. none_left c.args.mark (goners c.args.gone.now u.hold) u.entries) s c.args.code.now) c.each.rest.now (omega arith) (λ u. none_left c.args.mark (goners c.args.gone.now u.hold) u.entries) (c.each.invariant.reached V s h)
    (left_as c.args.regs c.each.state (c.each.invariant.reached V s h).next c.args.mark c.args.gone.now c.each.left false (c.each.invariant.reached V s h).is c.each.invariant.none (le-ltb c.each.left 1 (omega arith)))

pub each-preserved : goal.each-preserved
each-preserved c =
    let old = c.each.state.rules.context.spots in
    let new = c.pass_one.new.state.rules.context.spots in
    let fell = c.in_ok-pass_one.ensures.fell in
    let l = c.left_below-left-in-each.ensures in
    record {
      reached = λ V s h.
          until_moved c.args.regs V s c.each.state c.pass_one.new.state (f.pass_until c.args.regs V (λ u. none_left c.args.mark (goners c.args.gone.now u.hold) u.entries) s c.args.code.now) c.each.rest.now c.first-item.result c.in_ok-pass_one.field-0 c.in-len1-up.len_at_least c.first-item.is c.in_ok-pass_one.ensures.step (λ u. none_left c.args.mark (goners c.args.gone.now u.hold) u.entries) c.in-Passed.is (c.each.invariant.reached V s h)
          (left_as c.args.regs c.each.state (c.each.invariant.reached V s h).next c.args.mark c.args.gone.now c.each.left false (c.each.invariant.reached V s h).is c.each.invariant.none (le-ltb c.each.left 1 (omega arith)));
      grows = grows_then c.args.state.now c.each.state c.pass_one.new.state c.each.invariant.grows c.in_ok-pass_one.ensures.grows;
      within =
          let n : length old ≡ length new = fell_length old new fell in
          let w = l.within in
          let v = c.each.invariant.within in
          omega arith;
      none = none_after old new c.args.mark c.args.gone.now c.each.left c.left_below-left-in-each.result fell c.each.invariant.within (c.each.invariant.past c.each-test.true) l;
      past = past_after old new c.args.mark c.args.gone.now c.each.left c.left_below-left-in-each.result fell c.each.invariant.within (c.each.invariant.past c.each-test.true) l;
    }

pub returns-in-Stops : goal.returns-in-Stops
returns-in-Stops c = record {
  passed = λ V s h. elim c.in-Stops.is [
    | inl q ↦ until_stopped c.args.regs V s c.each.state c.pass_one.new.state (f.pass_until c.args.regs V (λ u. none_left c.args.mark (goners c.args.gone.now u.hold) u.entries) s c.args.code.now) c.each.rest.now c.first-item.result c.in_ok-pass_one.field-0 c.in-len1-up.len_at_least c.first-item.is c.in_ok-pass_one.ensures.step (λ u. none_left c.args.mark (goners c.args.gone.now u.hold) u.entries) q (c.each.invariant.reached V s h)
        (left_as c.args.regs c.each.state (c.each.invariant.reached V s h).next c.args.mark c.args.gone.now c.each.left false (c.each.invariant.reached V s h).is c.each.invariant.none (le-ltb c.each.left 1 (omega arith)))
    | inr q ↦ until_failed c.args.regs V s c.each.state c.pass_one.new.state (f.pass_until c.args.regs V (λ u. none_left c.args.mark (goners c.args.gone.now u.hold) u.entries) s c.args.code.now) c.each.rest.now c.first-item.result c.in_ok-pass_one.field-0 c.in-len1-up.len_at_least c.first-item.is c.in_ok-pass_one.ensures.step (λ u. none_left c.args.mark (goners c.args.gone.now u.hold) u.entries) q (c.each.invariant.reached V s h)
        (left_as c.args.regs c.each.state (c.each.invariant.reached V s h).next c.args.mark c.args.gone.now c.each.left false (c.each.invariant.reached V s h).is c.each.invariant.none (le-ltb c.each.left 1 (omega arith)))
  ];
  grows = grows_then c.args.state.now c.each.state c.pass_one.new.state c.each.invariant.grows c.in_ok-pass_one.ensures.grows;
}

pub returns-clause-passed : goal.returns-clause-passed
returns-clause-passed c = λ V s h.
    until_ends c.args.regs V (λ u. none_left c.args.mark (goners c.args.gone.now u.hold) u.entries) s c.each.state c.args.code.now c.each.rest.now (c.each.invariant.reached V s h)
    (left_as c.args.regs c.each.state (c.each.invariant.reached V s h).next c.args.mark c.args.gone.now c.each.left true (c.each.invariant.reached V s h).is c.each.invariant.none (lt-ltb c.each.left 1 (omega arith)))
