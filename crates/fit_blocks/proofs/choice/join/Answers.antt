use Rattle.std.proofs.Common.{◌≡◌, ◌≤◌, ◌&&◌, max, [], refl, sym, ap, ◌∙◌, subst, arith}
use Rattle.context_laws.specs.Stacks.{falls_at}
use Rattle.entry_falls.specs.Falls.{FallsFrom}
use Rattle.entry_falls.proofs.FallsLemmas.{falls_places}
use Rattle.fit_blocks.proofs.ChoiceLemmas.{all_alike, met_is, not_same, same_as}
use Rattle.fit_state.proofs.HeldLemmas.{grows_then}
use Rattle.fit_state.specs.States.{Grows, Is}
use Rattle.fit_state.specs.declared.state.FitState.{FitState}
use Rattle.fit_tokens.specs.Changes.{after, changes_of, toks}
use Rattle.fits.specs.Follow.{met_state}
use Rattle.fits.specs.Places.{bind_at, both_tokens, in_order, same_shapes}
use Rattle.ownership.specs.Entries.{shapes_of}
use Rattle.side_laws.specs.Sides.{none_free}
use Rattle.fit_blocks.proofs.choice.join.Goals as goal

pub returns-then-not-branch-clause-met : goal.returns-then-not-branch-clause-met
returns-then-not-branch-clause-met c = λ u s1 s2 at same l r.
    let x = c.args.state.now in
    let j = c.args.joint.now in
    let left = c.args.left.now in
    let right = c.args.right.now in
    not_same c.args.regs u s1 s2 j.choice.targets.now j.outs.now (shapes_of left.over.shapes) (shapes_of right.over.shapes)
    (same_as c.args.regs x u s1 s2 j.choice.targets.now left right at.is l r c.in_ok-fall_alike.field-0
    (c.in_ok-fall_alike.ensures.alike ∙ (λ i. none_free (c.as_slice-2.ensures i) (falls_at (c.as_slice-went.ensures i) x.rules.context.spots) && none_free (c.as_slice-went.ensures i) (falls_at (c.as_slice-2.ensures i) x.rules.context.spots)))
    ∙ c.if-not-branch.true)

pub returns-clause-met : goal.returns-clause-met
returns-clause-met c = λ u s1 s2 at same l r.
    let x = c.args.state.now in
    let j = c.args.joint.now in
    let left = c.args.left.now in
    let right = c.args.right.now in
    let y : FitState = record { rules = record { context = c.fall_alike.new.context; facts = x.rules.facts; calculations = x.rules.calculations; start = x.rules.start }; tokens = c.meet_tokens.new.tokens; words = x.words; next = c.max-next.result; branch = x.branch } in
    let next : c.max-next.result ≡ max left.next right.next = omega (arith, c.max.ensures, c.max-next.ensures, at.is.known.next, l.later, l.next) in
    let both : max s1.next s2.next ≡ c.max-next.result = (λ i. max (sym l.next i) (sym r.next i)) ∙ sym next in (
      all_alike c.args.regs u s1 s2 j.choice.targets.now j.outs.now (shapes_of left.over.shapes) (shapes_of right.over.shapes)
          (same_as c.args.regs x u s1 s2 j.choice.targets.now left right at.is l r c.in_ok-fall_alike.field-0
          (c.in_ok-fall_alike.ensures.alike ∙ (λ i. none_free (c.as_slice-2.ensures i) (falls_at (c.as_slice-went.ensures i) x.rules.context.spots) && none_free (c.as_slice-went.ensures i) (falls_at (c.as_slice-2.ensures i) x.rules.context.spots)))
          ∙ c.if-not-branch.false)
          ((λ i. same_shapes (shapes_of (sym c.as_slice.ensures i)) (shapes_of (sym c.as_slice-shapes.ensures i))) ∙ sym c.same_shapes.ensures ∙ c.if-not-same_shapes.false)
          ((λ i. in_order (both i) j.outs.now (shapes_of (sym c.as_slice-shapes.ensures i))) ∙ sym c.in_order.ensures ∙ c.if-not-in_order.false),
      subst (λ zs. Is c.args.regs c.bind_at.new.state (bind_at (met_state u s1 s2) j.choice.targets.now j.outs.now (shapes_of zs))) c.as_slice-shapes.ensures
          (c.in_ok-bind_at.ensures.bound c.args.regs (met_state u s1 s2) l.below
          (met_is c.args.regs x u s1 s2 j.choice.targets.now left right at.is l r y
          (ap (λ h. h.spots) c.in_ok-fall_alike.ensures.falls ∙ ap (λ ps. falls_at ps x.rules.context.spots) c.as_slice-2.ensures) refl refl
          (λ k. c.in_ok-meet_tokens.ensures.tokens k ∙ (λ i. both_tokens (after (changes_of (c.as_slice-3.ensures i)) (toks x.tokens) k) (after (changes_of (c.as_slice-changes.ensures i)) (toks x.tokens) k)))
          refl next refl same)),
    )

pub returns-clause-grows : goal.returns-clause-grows
returns-clause-grows c = λ e.
    let x = c.args.state.now in
    let y : FitState = record { rules = record { context = c.fall_alike.new.context; facts = x.rules.facts; calculations = x.rules.calculations; start = x.rules.start }; tokens = c.meet_tokens.new.tokens; words = x.words; next = c.max-next.result; branch = x.branch } in
    let more : x.next ≤ c.max-next.result = omega (arith, c.max-next.ensures) in
    let grown : Grows x y = record {
      rules = record { saved = ap (λ h. h.saved) c.in_ok-fall_alike.ensures.falls; facts = ([], refl); calculations = ([], refl); start = refl };
      tokens = c.in_ok-meet_tokens.ensures.saved;
      words = ([], refl);
      next = more;
      falls = subst (λ ss. FallsFrom x.rules.context.spots ss) (sym (ap (λ h. h.spots) c.in_ok-fall_alike.ensures.falls)) (falls_places c.as_slice-2.result.now x.rules.context.spots);
    } in
    grows_then x y c.bind_at.new.state grown (c.in_ok-bind_at.ensures.grows (sym c.in_order.ensures ∙ c.if-not-in_order.false))
