use Rattle.std.proofs.Common.{refl, ap, ◌∙◌}
use Rattle.std.specs.Prelude.{None, []}
use Rattle.fit_blocks.proofs.HeadLemmas.{moved_by, refused_by, starts_grow}
use Rattle.ownership.specs.Entries.{spots_of}
use Rattle.rule_check.specs.Context as d
use Rattle.rule_check.specs.Steps.{Book}
use Rattle.rule_steps.specs.Loops.{started_as}
use Rattle.rule_steps.specs.States.{ctx_of}
use Rattle.fit_blocks.proofs.looping.move_in.Goals as goal

pub returns-in-None-clause-moved : goal.returns-in-None-clause-moved
returns-in-None-clause-moved c = λ V u views is infos args.
    let x = c.args.state.now in
    let st = c.args.starting.now in
    let zs = d.shapes_of (spots_of c.as_slice.result.now) in
    let k = c.in_ok-start_loop.ensures.started V.book (ctx_of x.rules) st.starts.now views.names refl (ap spots_of c.as_slice.ensures ∙ c.in_ok-starts.ensures) ∙ ap (λ o. started_as o zs c.start_loop.new.context.spots) c.in-None.is in
    moved_by c.args.frame.now.regs V u st infos x is c.start_loop.new.context zs c.len.ensures.differ args k

pub returns-in-None-clause-grows : goal.returns-in-None-clause-grows
returns-in-None-clause-grows c = λ t.
    let x = c.args.state.now in
    let st = c.args.starting.now in
    let zs = d.shapes_of (spots_of c.as_slice.result.now) in
    let book : Book = record { row_for = λ op xs y. None; sigs = []; names = c.args.frame.now.views.names.now } in
    let k = c.in_ok-start_loop.ensures.started book (ctx_of x.rules) st.starts.now refl refl (ap spots_of c.as_slice.ensures ∙ c.in_ok-starts.ensures) ∙ ap (λ o. started_as o zs c.start_loop.new.context.spots) c.in-None.is in
    starts_grow book st.place st.starts.now zs x c.start_loop.new.context c.in_ok-start_loop.ensures.saved k

pub returns-clause-moved : goal.returns-clause-moved
returns-clause-moved c = λ V u views is infos args.
    let x = c.args.state.now in
    let st = c.args.starting.now in
    let zs = d.shapes_of (spots_of c.as_slice.result.now) in
    let k = c.in_ok-start_loop.ensures.started V.book (ctx_of x.rules) st.starts.now views.names refl (ap spots_of c.as_slice.ensures ∙ c.in_ok-starts.ensures) ∙ ap (λ o. started_as o zs c.start_loop.new.context.spots) c.in-Some.is in
    refused_by c.args.frame.now.regs V u st infos x is c.start_loop.new.context zs c.in-Some.refusal x k
