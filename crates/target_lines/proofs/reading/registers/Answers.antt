use Rattle.std.proofs.Common.{◌≡◌, Some, None, ap, ◌∙◌, sym, refl, arith}
use Rattle.target_lines.specs.Reading.{lent, after_comma, register_at, registers_at}
use Rattle.target_lines.proofs.Lists.{comma_shorter, goes_on, is_done, register_shrinks}
use Rattle.target_lines.proofs.reading.registers.Goals as goal

pub each-init : goal.each-init
unfolding registers_at
each-init c = rw c.new-list.ensures refl

comma : (c : goal.In-Some) → after_comma (register_at c.each.rest.now).1 ≡ Some c.in-Some.more.now
comma c = ap after_comma (sym c.register-item.ensures.rest) ∙ sym c.after_comma.ensures ∙ ap lent c.in-Some.is

pub each-preserved : goal.each-preserved
each-preserved c =
    let h = goes_on register_at register_shrinks c.each.list c.each.rest.now c.in-Some.more.now _ (comma c) c.each.invariant in
    rw (c.in_ok-push.ensures.ok, c.register-item.ensures.value) h

pub each-smaller : goal.each-smaller
each-smaller c = omega (arith, comma_shorter (register_at c.each.rest.now).1 c.in-Some.more.now (comma c), register_shrinks.shorter c.each.rest.now)

pub returns-in-None : goal.returns-in-None
returns-in-None c =
    let e : after_comma (register_at c.each.rest.now).1 ≡ None = ap after_comma (sym c.register-item.ensures.rest) ∙ sym c.after_comma.ensures ∙ ap lent c.in-None.is in
    let h = is_done register_at c.each.list c.each.rest.now _ e c.each.invariant in
    rw (c.in_ok-push.ensures.ok, c.register-item.ensures.value, c.register-item.ensures.rest) h
