use Rattle.std.proofs.Common.{true, false, refl, sym, ap}
use Rattle.fit_blocks.proofs.EndingLemmas.{is_fine, moved_by, moves_grow}
use Rattle.nres_core.specs.FlatTree.{flats_of}
use Rattle.rule_check.specs.Steps.{Book}
use Rattle.rule_steps.specs.Ends.{astray_of}
use Rattle.rule_steps.specs.States.{ctx_of}
use Rattle.std.specs.Prelude.{None, []}
use Rattle.fit_blocks.proofs.ending.move_out.Goals as goal

pub returns-in-Ok-clause-moved : goal.returns-in-Ok-clause-moved
returns-in-Ok-clause-moved c = λ V s views is infos args.
    let x = c.args.state.now in
    moved_by c.args.frame.now.regs V c.args.ends.now (flats_of c.args.block.now).ending s infos x is c.finish.new.context c.in_ok-results.field-0 c.len.ensures.differ args
    (c.in_ok-results.ensures.ended V.book (ctx_of x.rules) views.names refl) true (sym (ap is_fine c.in-Ok.is))

pub returns-in-Err-clause-moved : goal.returns-in-Err-clause-moved
returns-in-Err-clause-moved c = λ V s views is infos args.
    let x = c.args.state.now in
    moved_by c.args.frame.now.regs V c.args.ends.now (flats_of c.args.block.now).ending s infos x is c.finish.new.context c.in_ok-results.field-0 c.len.ensures.differ args
    (c.in_ok-results.ensures.ended V.book (ctx_of x.rules) views.names refl) false (sym (ap is_fine c.in-Err.is))

pub returns-in-Ok-clause-grows : goal.returns-in-Ok-clause-grows
returns-in-Ok-clause-grows c = λ t.
    let x = c.args.state.now in
    let book : Book = record { row_for = λ op xs y. None; sigs = []; names = c.args.frame.now.views.names.now } in
    moves_grow book c.args.ends.now.count (astray_of c.args.ends.now.owed) (flats_of c.args.block.now).ending x c.finish.new.context c.in_ok-results.field-0 c.in_ok-results.ensures.saved
    (c.in_ok-results.ensures.ended book (ctx_of x.rules) refl refl) (ap is_fine c.in-Ok.is)
