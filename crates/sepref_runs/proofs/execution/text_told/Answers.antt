use Rattle.std.proofs.Common.{List, Err, ap, ◌∙◌, sym, subst}
use Rattle.nres_core.specs.declared.tree.With.{With}
use Rattle.execution_input.specs.Executions.{IsExecution}
use Rattle.sepref_runs.proofs.Tops.{of_given_told, of_unrun_told, ready}
use Rattle.sepref_runs.proofs.execution.text_told.Goals as goal

pub given_told-requires-clause-held : goal.given_told-requires-clause-held
given_told-requires-clause-held g c =
    let text = c.args.text.now in
    let here : IsExecution text c.in-Ok.program c.as_slice.result.now = subst (λ (ws : List With). IsExecution text c.in-Ok.program ws) (sym c.as_slice.ensures) c.in-Ok.ensures.ok in
    ready text c.in-Ok.program c.as_slice.result.now c.requires.short here

pub returns-in-Ok : goal.returns-in-Ok
returns-in-Ok g c =
    let text = c.args.text.now in
    let here : IsExecution text c.in-Ok.program c.as_slice.result.now = subst (λ (ws : List With). IsExecution text c.in-Ok.program ws) (sym c.as_slice.ensures) c.in-Ok.ensures.ok in
    of_given_told c.args.line text c.in-Ok.program c.as_slice.result.now here c.given_told.result c.given_told.ensures

pub returns-in-Err : goal.returns-in-Err
returns-in-Err g c =
    of_unrun_told c.args.line c.args.text.now c.in-Err.unrun
    (λ k e. c.read_execution.ensures.not_program k (c.in-Err.is ∙ ap Err e))
    (λ q e. c.read_execution.ensures.syntax q (c.in-Err.is ∙ ap Err e))
    c.unrun_told.result c.unrun_told.ensures
