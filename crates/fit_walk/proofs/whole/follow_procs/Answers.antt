use Rattle.std.proofs.Common.{◌≡◌, ◌+◌, ◌<◌, ◌≤◌, ◌*◌, length, ap, ◌∙◌, refl, sym, arith}
use Rattle.std.proofs.lemmas.List.{drop_all}
use Rattle.std.specs.Prelude.{Err, Ok}
use Rattle.fit_walk.proofs.CycleLemmas.{ok_as}
use Rattle.fit_walk.proofs.SequentialLemmas.{sequential_fun}
use Rattle.fit_walk.proofs.TestLemmas.{is_empty}
use Rattle.fit_walk.proofs.WholeLemmas.{all_found, so_far_first, so_far_next, so_far_unmet, some_left}
use Rattle.fit_walk.specs.Bodies.{BodyIs}
use Rattle.fit_walk.specs.Wholes.{proc_followed}
use Rattle.nres_core.specs.FlatTree.{bound_in, flat_proc_of, flats_of}
use Rattle.proof_lines.specs.Lines.{lines_of}
use Rattle.fit_walk.proofs.whole.follow_procs.Goals as goal

pub returns-in-Err : goal.returns-in-Err
returns-in-Err c = λ V s views seq e.
    let fs = c.args.funs.now in
    let i = c.each.index in
    let fn = c.index-funs-index.result in
    let q = c.each.invariant V s views seq e in
    let past = c.each.left in
    so_far_unmet V c.args.first fs s (lines_of c.args.past.lines.now) i c.each.next past q.0 fn c.each-test.true c.index-funs-index.is c.in-Err.unmet
    (ok_as (BodyIs (proc_followed V i c.each.next past.branch (flat_proc_of fn) (lines_of past.lines.now))) _ _ c.in-Err.is (c.in_ok-past.ensures V views (sequential_fun fs i fn c.each-test.true c.index-funs-index.is q.1).0))

pub each-preserved : goal.each-preserved
each-preserved c = λ V s views seq e.
    let fs = c.args.funs.now in
    let i = c.each.index in
    let fn = c.index-funs-index.result in
    let q = c.each.invariant V s views seq e in
    let past = c.each.left in
    let two = sequential_fun fs i fn c.each-test.true c.index-funs-index.is q.1 in (
      so_far_next V c.args.first fs s (lines_of c.args.past.lines.now) i c.each.next past q.0 fn c.each-test.true c.index-funs-index.is c.in-Ok.past c.in_ok-next.next
          (c.in_ok-next.ensures ∙ ap (λ ps. c.each.next + length ps + bound_in (flats_of fn.body).binds) c.as_slice.ensures)
          (ok_as (BodyIs (proc_followed V i c.each.next past.branch (flat_proc_of fn) (lines_of past.lines.now))) _ _ c.in-Ok.is (c.in_ok-past.ensures V views two.0)),
      two.1,
    )

pub returns-in-empty : goal.returns-in-empty
returns-in-empty c = λ V s views seq e.
    let q = c.each.invariant V s views seq e in
    all_found V c.args.first c.args.funs.now s (lines_of c.args.past.lines.now) c.each.index c.each.next c.each.left q.0 (drop_all c.each.index c.args.funs.now c.each-test.false) (ap lines_of (is_empty c.each.left.lines.now c.in-empty.len_below))

pub returns-in_default : goal.returns-in_default
returns-in_default c = λ V s views seq e.
    let q = c.each.invariant V s views seq e in
    some_left V c.args.first c.args.funs.now s (lines_of c.args.past.lines.now) c.each.index c.each.next c.each.left q.0 (drop_all c.each.index c.args.funs.now c.each-test.false) (record { lines = c.each.left.lines }) refl c.in_default.len_at_least
