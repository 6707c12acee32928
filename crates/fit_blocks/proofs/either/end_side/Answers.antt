use Rattle.std.proofs.Common.{true, false, Some, sym, ap, ◌∙◌}
use Rattle.std.specs.Prelude.{option_map}
use Rattle.fit_blocks.proofs.EitherLemmas.{asked_as, is_taken, side_no_infos, side_not_over, side_not_taken, side_taken}
use Rattle.fit_blocks.proofs.EndingLemmas.{args_found, when_none, when_some}
use Rattle.fit_state.proofs.HeldLemmas.{grows_then}
use Rattle.fit_blocks.specs.Blocks.{block_opened}
use Rattle.fit_state.specs.Infos.{infos_of}
use Rattle.fit_state.specs.States.{Grows}
use Rattle.fits.specs.Places.{all_vars, arg_infos, bind_words, goners, info_shapes, infos_words}
use Rattle.fits.specs.Follow.{outside}
use Rattle.nres_core.specs.FlatTree.{flats_of}
use Rattle.proof_lines.specs.Lines.{lines_of}
use Rattle.fit_blocks.proofs.either.end_side.Goals as goal

pub returns-in_default-clause-goes : goal.returns-in_default-clause-goes
returns-in_default-clause-goes c = λ V x s s1 views at begun grows is older.
    side_no_infos c.args.frame.now.regs V s c.args.taken.now.outs.now (flats_of c.args.block.now).ending s1 c.args.rest.code.now (lines_of c.args.rest.lines.now)
    (args_found c.args.block.now c.as_slice.result.now s1.entries _ _ c.as_slice.ensures (c.in_ok-infos.ensures c.args.frame.now.regs s1 is.is) (ap (option_map infos_of) c.in_default.is))

pub returns-then-branch-clause-goes : goal.returns-then-branch-clause-goes
returns-then-branch-clause-goes c = λ V x s s1 views at begun grows is older.
    let R = c.args.frame.now.regs in
    let e = (flats_of c.args.block.now).ending in
    let outs = c.args.taken.now.outs.now in
    let code = c.args.rest.code.now in
    let lines = lines_of c.args.rest.lines.now in
    let infos = infos_of c.in-Some.infos in
    let y = c.pass_until_none_left.new.state in
    let last = c.take_results.new.state in
    let some = args_found c.args.block.now c.as_slice.result.now s1.entries _ _ c.as_slice.ensures (c.in_ok-infos.ensures R s1 is.is) (ap (option_map infos_of) c.in-Some.is) in
    let st = when_some c.in_ok-passed.passed _ _ c.in-Some-passed.code c.in-Some-passed.is
    (asked_as R V s1 y code c.in_ok-passed.passed c.args.taken.now.begun.next s.next c.as_slice-3.result.now (all_vars infos) (ap (λ b. b.next) begun ∙ at.is.known.next)
    (c.as_slice-3.ensures ∙ c.in_ok-vars.ensures ∙ ap (λ is. all_vars (infos_of is)) c.as_slice-2.ensures) (c.in_ok-passed.ensures.passed V s1 is.is)) in
    let u = st.goes.next in
    let more : Grows (block_opened x) y = grows_then (block_opened x) c.args.state.now y grows c.in_ok-passed.ensures.grows in
    let here = ap infos_of c.as_slice-in-Some-passed.ensures in
    let taken = is_taken R V s u outs e (infos_of c.as_slice-in-Some-passed.result.now) infos last c.in_ok-take_results-in-Some-passed.field-0 true here c.if-branch.true
    (c.in_ok-take_results-in-Some-passed.ensures.taken V x s u older.made views at.is begun more st.goes.is (st.goes.entries ∙ older.entries) (ap (λ es. arg_infos es e.results) st.goes.entries ∙ some ∙ ap Some (sym here))) in
    record {
      next = bind_words (outside s u (goners (all_vars infos) u.hold)) outs (info_shapes infos) (infos_words infos);
      is = taken.is;
      on = side_taken R V s outs e s1 code lines infos some y c.in-Some-passed.code.now st last taken;
    }

pub returns-then-branch-clause-grows : goal.returns-then-branch-clause-grows
returns-then-branch-clause-grows c = λ x begun grows.
    c.in_ok-take_results-in-Some-passed.ensures.grows c.if-branch.true x begun
    (grows_then (block_opened x) c.args.state.now c.pass_until_none_left.new.state grows c.in_ok-passed.ensures.grows)

pub returns-in-Some-passed-clause-goes : goal.returns-in-Some-passed-clause-goes
returns-in-Some-passed-clause-goes c = λ V x s s1 views at begun grows is older.
    let R = c.args.frame.now.regs in
    let e = (flats_of c.args.block.now).ending in
    let outs = c.args.taken.now.outs.now in
    let code = c.args.rest.code.now in
    let lines = lines_of c.args.rest.lines.now in
    let infos = infos_of c.in-Some.infos in
    let y = c.pass_until_none_left.new.state in
    let last = c.take_results.new.state in
    let some = args_found c.args.block.now c.as_slice.result.now s1.entries _ _ c.as_slice.ensures (c.in_ok-infos.ensures R s1 is.is) (ap (option_map infos_of) c.in-Some.is) in
    let st = when_some c.in_ok-passed.passed _ _ c.in-Some-passed.code c.in-Some-passed.is
    (asked_as R V s1 y code c.in_ok-passed.passed c.args.taken.now.begun.next s.next c.as_slice-3.result.now (all_vars infos) (ap (λ b. b.next) begun ∙ at.is.known.next)
    (c.as_slice-3.ensures ∙ c.in_ok-vars.ensures ∙ ap (λ is. all_vars (infos_of is)) c.as_slice-2.ensures) (c.in_ok-passed.ensures.passed V s1 is.is)) in
    let u = st.goes.next in
    let more : Grows (block_opened x) y = grows_then (block_opened x) c.args.state.now y grows c.in_ok-passed.ensures.grows in
    let here = ap infos_of c.as_slice-in-Some-passed.ensures in
    side_not_taken R V s outs e s1 code lines infos some y c.in-Some-passed.code.now st
    (is_taken R V s u outs e (infos_of c.as_slice-in-Some-passed.result.now) infos last c.in_ok-take_results-in-Some-passed.field-0 false here c.if-branch.false
    (c.in_ok-take_results-in-Some-passed.ensures.taken V x s u older.made views at.is begun more st.goes.is (st.goes.entries ∙ older.entries) (ap (λ es. arg_infos es e.results) st.goes.entries ∙ some ∙ ap Some (sym here))))

pub returns-clause-goes : goal.returns-clause-goes
returns-clause-goes c = λ V x s s1 views at begun grows is older.
    let R = c.args.frame.now.regs in
    let e = (flats_of c.args.block.now).ending in
    let infos = infos_of c.in-Some.infos in
    let some = args_found c.args.block.now c.as_slice.result.now s1.entries _ _ c.as_slice.ensures (c.in_ok-infos.ensures R s1 is.is) (ap (option_map infos_of) c.in-Some.is) in
    side_not_over R V s c.args.taken.now.outs.now e s1 c.args.rest.code.now (lines_of c.args.rest.lines.now) infos some
    (when_none c.in_ok-passed.passed _ _ c.in-None.is
    (asked_as R V s1 c.pass_until_none_left.new.state c.args.rest.code.now c.in_ok-passed.passed c.args.taken.now.begun.next s.next c.as_slice-3.result.now (all_vars infos) (ap (λ b. b.next) begun ∙ at.is.known.next)
    (c.as_slice-3.ensures ∙ c.in_ok-vars.ensures ∙ ap (λ is. all_vars (infos_of is)) c.as_slice-2.ensures) (c.in_ok-passed.ensures.passed V s1 is.is)))
