use Rattle.std.proofs.Common.{◌≡◌, Some, None, ap, ◌∙◌, sym, refl, arith}
use Rattle.target_lines.specs.Reading.{lent, after_comma, hand_at, hands_at}
use Rattle.target_lines.proofs.Lists.{comma_shorter, goes_on, is_done, hand_shrinks}
use Rattle.target_lines.proofs.reading.hands.Goals as goal

pub each-init : goal.each-init
unfolding hands_at
each-init c = rw c.new-list.ensures refl

comma : (c : goal.In-Some) → after_comma (hand_at c.each.rest.now).1 ≡ Some c.in-Some.more.now
comma c = ap after_comma (sym c.hand.ensures.rest) ∙ sym c.after_comma.ensures ∙ ap lent c.in-Some.is

pub each-preserved : goal.each-preserved
each-preserved c =
    let h = goes_on hand_at hand_shrinks c.each.list c.each.rest.now c.in-Some.more.now _ (comma c) c.each.invariant in
    rw (c.in_ok-push.ensures.ok, c.hand.ensures.hand) h

pub each-smaller : goal.each-smaller
each-smaller c = omega (arith, comma_shorter (hand_at c.each.rest.now).1 c.in-Some.more.now (comma c), hand_shrinks.shorter c.each.rest.now)

pub returns-in-None : goal.returns-in-None
returns-in-None c =
    let e : after_comma (hand_at c.each.rest.now).1 ≡ None = ap after_comma (sym c.hand.ensures.rest) ∙ sym c.after_comma.ensures ∙ ap lent c.in-None.is in
    let h = is_done hand_at c.each.list c.each.rest.now _ e c.each.invariant in
    rw (c.in_ok-push.ensures.ok, c.hand.ensures.hand, c.hand.ensures.rest) h
