use Rattle.std.proofs.Common.{◌≡◌, true, false, None, length, sym, ap, ◌∙◌, subst}
use Rattle.fit_blocks.proofs.EitherLemmas.{as_many_words, is_out, left_grows, left_next, many, order_as, side_left, takes_met, takes_refused, takes_unmet}
use Rattle.fit_state.proofs.HeldLemmas.{grows_then}
use Rattle.fit_blocks.specs.Blocks.{block_opened}
use Rattle.fit_state.specs.Infos.{infos_of, lists_of}
use Rattle.fit_state.specs.States.{Grows, Is}
use Rattle.fits.specs.Follow.{Answer, Line, Unmet, outside, with_ok}
use Rattle.fits.specs.Places.{all_vars, bind_words, ctx_of, goners, info_shapes, infos_words}
use Rattle.nres_core.specs.FlatTree.{flats_of}
use Rattle.ownership.specs.Entries.{shapes_of}
use Rattle.rule_check.specs.Steps.{ended, no_list}
use Rattle.std.specs.Prelude.{List}
use Rattle.fit_blocks.proofs.either.take_results.Goals as goal

pub returns-then-not-in_order-clause-taken : goal.returns-then-not-in_order-clause-taken
returns-then-not-in_order-clause-taken c = λ V x s u made views at begun grows is parts args.
    let infos = infos_of c.args.infos.now in
    takes_unmet c.args.frame.now.regs V s u c.args.taken.now.outs.now (flats_of c.args.block.now).ending infos
    (order_as c.args.state.now.next u.next c.args.taken.now.outs.now (shapes_of c.as_slice.result.now) (info_shapes infos) c.in_order.result false
    c.in_order.ensures is.known.next (ap shapes_of c.as_slice.ensures ∙ c.in_ok-shapes.ensures) c.if-not-in_order.true)

pub returns-then-not-branch-clause-taken : goal.returns-then-not-branch-clause-taken
returns-then-not-branch-clause-taken c = λ V x s u made views at begun grows is parts args.
    let R = c.args.frame.now.regs in
    let infos = infos_of c.args.infos.now in
    let e = (flats_of c.args.block.now).ending in
    let count : c.args.taken.now.begun.count ≡ length s.entries = ap (λ b. b.count) begun ∙ many R x s at in
    takes_refused R V s u c.args.taken.now.outs.now e infos
    (subst (λ n. (ls : List Line) (a : Answer) → with_ok (ended V.book n no_list (ctx_of u) e) ls (λ m. a) ≡ Unmet ls) count
    (is_out R V (record { count = c.args.taken.now.begun.count; mark = c.args.taken.now.begun.next; owed = None; targets = _ }) e u infos c.move_out.new.state c.in_ok-move_out.field-0 false c.if-not-branch.true (c.in_ok-move_out.ensures.moved V u views is infos args)))

pub bind_words-requires : goal.bind_words-requires
bind_words-requires c =
    ap length c.as_slice-3.ensures ∙ as_many_words (infos_of c.args.infos.now) c.in_ok-words.words c.in_ok-shapes.shapes c.in_ok-words.ensures c.in_ok-shapes.ensures ∙ sym (ap length c.as_slice-2.ensures)

pub returns-clause-taken : goal.returns-clause-taken
returns-clause-taken c = λ V x s u made views at begun grows is parts args.
    let R = c.args.frame.now.regs in
    let infos = infos_of c.args.infos.now in
    let outs = c.args.taken.now.outs.now in
    let e = (flats_of c.args.block.now).ending in
    let y = c.move_out.new.state in
    let z = c.leave_side.new.state in
    let g = goners (all_vars infos) u.hold in
    let count : c.args.taken.now.begun.count ≡ length s.entries = ap (λ b. b.count) begun ∙ many R x s at in
    let moved = is_out R V (record { count = c.args.taken.now.begun.count; mark = c.args.taken.now.begun.next; owed = None; targets = _ }) e u infos y c.in_ok-move_out.field-0 true c.if-not-branch.false (c.in_ok-move_out.ensures.moved V u views is infos args) in
    let more : Grows (block_opened x) y = grows_then (block_opened x) c.args.state.now y grows (c.in_ok-move_out.ensures.grows c.if-not-branch.false) in
    let bound = c.in_ok-bind_words.ensures.bound R (outside s u g) (side_left R x y s u c.args.taken.now.begun g at begun more moved.is made parts z c.in_ok-leave_side.ensures) in
    record {
      is = subst (λ zs. Is R c.bind_words.new.state (bind_words (outside s u g) outs zs (infos_words infos))) (ap shapes_of c.as_slice-2.ensures ∙ c.in_ok-shapes.ensures)
          (subst (λ ws. Is R c.bind_words.new.state (bind_words (outside s u g) outs (shapes_of c.as_slice-2.result.now) ws)) (ap lists_of c.as_slice-3.ensures ∙ c.in_ok-words.ensures) bound);
      asks = takes_met R V s u outs e infos
          (subst (λ n. (ls : List Line) (a : Answer) → with_ok (ended V.book n no_list (ctx_of u) e) ls (λ m. a) ≡ a) count moved.asks)
          (order_as c.args.state.now.next u.next outs (shapes_of c.as_slice.result.now) (info_shapes infos) c.in_order.result true
          c.in_order.ensures is.known.next (ap shapes_of c.as_slice.ensures ∙ c.in_ok-shapes.ensures) c.if-not-in_order.false);
    }

pub returns-clause-grows : goal.returns-clause-grows
returns-clause-grows c = λ e x begun grows.
    let y = c.move_out.new.state in
    let z = c.leave_side.new.state in
    let b = c.args.taken.now.begun in
    let more : Grows (block_opened x) y = grows_then (block_opened x) c.args.state.now y grows (c.in_ok-move_out.ensures.grows c.if-not-branch.false) in
    grows_then x z c.bind_words.new.state (left_grows x y z b begun more c.in_ok-leave_side.ensures)
    (c.in_ok-bind_words.ensures.grows
    (order_as c.args.state.now.next z.next c.args.taken.now.outs.now (shapes_of c.as_slice.result.now) (shapes_of c.as_slice-2.result.now) c.in_order.result true
    c.in_order.ensures (sym (left_next y z b c.in_ok-leave_side.ensures ∙ c.in_ok-move_out.ensures.next)) (ap shapes_of (c.as_slice.ensures ∙ sym c.as_slice-2.ensures)) c.if-not-in_order.false))
