use Rattle.std.proofs.Common.{refl, sym, ap, ◌∙◌, subst}
use Rattle.fit_blocks.proofs.TurnLemmas.{loop_over, mark_none}
use Rattle.fit_state.specs.States.{Is}
use Rattle.fit_tokens.specs.Changes.{changes_of, with_changes}
use Rattle.fits.specs.Places.{bind_at, in_order, same_shapes}
use Rattle.ownership.specs.Entries.{shapes_of}
use Rattle.fit_blocks.proofs.turning.close_loop.Goals as goal

pub returns : goal.returns
returns c = record {
  closes = λ V u infos st q begins s1 s2 headed grows is.
      let R = c.args.regs in
      let y = c.args.state.now in
      let l = c.args.looping.now in
      let hd = c.args.turned.0.now in
      let outs = c.args.turned.1.now in
      let closed = c.close_block.new.state in
      loop_over R V u infos st l q begins y hd s1 s2 headed grows is
      (record { rules = y.rules; tokens = c.put_all.new.self; words = y.words; next = y.next; branch = y.branch })
      (record { rules = closed.rules; tokens = closed.tokens; words = closed.words; next = c.max-next.result; branch = closed.branch })
      c.bind_at.new.state outs (shapes_of c.args.body.now.shapes) refl refl refl
      (c.in_ok-put_all.ensures.ok ∙ (λ i. with_changes (c.in_ok-undo_kept.ensures.undone i) (changes_of (c.as_slice-2.ensures i))))
      (λ i. record { rules = (c.close_block.ensures i).rules; tokens = (c.close_block.ensures i).tokens; words = (c.close_block.ensures i).words; next = c.max-next.ensures i; branch = (c.close_block.ensures i).branch })
      ((λ i. same_shapes (shapes_of (sym c.as_slice.ensures i)) (shapes_of (sym c.as_slice-shapes.ensures i))) ∙ sym c.same_shapes.ensures ∙ c.if-not-same_shapes.false)
      (sym (c.in_ok-undo_kept.ensures.kept R (mark_none R V u infos st l q begins y hd s1 s2 headed grows is)) ∙ c.if-not-branch.false)
      ((λ i. in_order (sym c.max-next.ensures i) outs (shapes_of (sym c.as_slice-shapes.ensures i))) ∙ sym c.in_order.ensures ∙ c.if-not-in_order.false)
      (λ s below k. subst (λ ys. Is R c.bind_at.new.state (bind_at s l.code.targets.now outs (shapes_of ys))) c.as_slice-shapes.ensures (c.in_ok-bind_at.ensures.bound R s below k))
      (λ order. c.in_ok-bind_at.ensures.grows (ap (λ ys. in_order c.max-next.result outs (shapes_of ys)) c.as_slice-shapes.ensures ∙ order));
}
