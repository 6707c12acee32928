use Rattle.std.proofs.Common.{◌≡◌, true, ap, ◌∙◌, subst}
use Rattle.context_laws.specs.Steps as h
use Rattle.fit_blocks.proofs.GrowsLemmas.{with_context}
use Rattle.fit_blocks.proofs.HeadLemmas.{head_opens, lent_marked, lent_state}
use Rattle.fit_state.specs.States.{Grows, IsKnown}
use Rattle.fit_state.specs.declared.state.FitState.{FitState}
use Rattle.fits.specs.Places.{bind_at, in_order}
use Rattle.ownership.specs.Entries.{shapes_of}
use Rattle.rule_check.specs.Context.{binding}
use Rattle.fit_blocks.proofs.looping.open_head.Goals as goal

pub returns : goal.returns
returns c = record {
  opened = λ R v below order is.
      let x = c.args.state.now in
      let rs = c.args.targets.now in
      let vars = c.args.vars.now in
      let zs = shapes_of c.args.shapes.now in
      let held = c.bind.new.context in
      let y = c.bind_known.new.state in
      let mid = c.open_block.new.state in
      let begins : record { rules = record { context = held; facts = x.rules.facts; calculations = x.rules.calculations; start = x.rules.start }; tokens = c.mark.new.self; words = x.words; next = x.next; branch = x.branch } ≡ with_context (lent_marked x) held =
      λ i. record { rules = record { context = held; facts = x.rules.facts; calculations = x.rules.calculations; start = x.rules.start }; tokens = c.in_ok-mark.ensures.ok i; words = x.words; next = x.next; branch = x.branch } in
      head_opens R x v rs vars zs held y mid _ c.in_ok-inner.inner below order is
      (c.in_ok-bind.ensures.ok ∙ ap (λ z. h.with_spots z (binding vars zs z.spots)) (c.lend.ensures ∙ ap h.kept_all c.in_ok-mark-2.ensures.ok))
      c.in_ok-bind_known.ensures.rules
      c.len.ensures.differ
      (subst (λ (z : FitState). IsKnown R z (lent_state v) → IsKnown R y (bind_at (lent_state v) rs vars zs)) begins (c.in_ok-bind_known.ensures.known R (lent_state v) below))
      (subst (λ (z : FitState). in_order z.next vars zs ≡ true → Grows z y) begins c.in_ok-bind_known.ensures.grows)
      c.in_ok-inner.ensures.state
      c.in_ok-inner.ensures.begun
      (λ i. record { rules = record { context = c.lend-2.ensures i; facts = mid.rules.facts; calculations = mid.rules.calculations; start = mid.rules.start }; tokens = mid.tokens; words = mid.words; next = mid.next; branch = mid.branch });
}
