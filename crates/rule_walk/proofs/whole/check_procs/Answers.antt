use Rattle.std.proofs.Common.{◌+◌, length, ap, ◌∙◌}
use Rattle.nres_core.specs.FlatTree.{bound_in, flats_of}
use Rattle.rule_walk.specs.Walks.{book_in}
use Rattle.rule_walk.proofs.WholeLemmas.{proc_passes, proc_refused}
use Rattle.rule_walk.proofs.whole.check_procs.Goals as goal

pub returns-in-Some : goal.returns-in-Some
returns-in-Some c =
    proc_refused (book_in c.args.book.now) c.args.first c.each.next c.args.funs.now c.each.fun-index c.fun-item.result c.each-test.true c.fun-item.is c.each.invariant c.in_ok-check_proc.field-0 c.in_ok-check_proc.ensures c.in-Some.refusal c.in-Some.is

pub each-preserved : goal.each-preserved
each-preserved c =
    proc_passes (book_in c.args.book.now) c.args.first c.each.next c.args.funs.now c.each.fun-index c.fun-item.result c.each-test.true c.fun-item.is c.each.invariant c.in_ok-check_proc.field-0 c.in_ok-check_proc.ensures
    c.in_ok-next.next c.in-None.is (c.in_ok-next.ensures ∙ ap (λ ps. c.each.next + length ps + bound_in (flats_of c.fun-item.result.body).binds) c.as_slice.ensures)
