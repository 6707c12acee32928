use Rattle.std.proofs.Common.{◌≡◌, List, Ok, subst}
use Rattle.nres_core.specs.declared.tree.With.{With}
use Rattle.inputs.specs.Inputs.{program_inputs}
use Rattle.sepref_top.specs.Making.{SaysProgram}
use Rattle.sepref_runs.proofs.Tops.{of_answer_told, of_made_told, spec_ready}
use Rattle.sepref_runs.proofs.execution.spec_told.Goals as goal

pub given_told-requires-clause-held : goal.given_told-requires-clause-held
given_told-requires-clause-held g c = λ us e.
    let text = c.args.text.now in
    let x = c.in-Ok.found in
    let right = subst (SaysProgram text) c.in-Ok.is c.in_ok-found.ensures in
    spec_ready text x c.requires.short right us (subst (λ (ws : List With). program_inputs x.program.ins ws ≡ Ok us) c.as_slice.ensures e)

pub returns-in-Ok : goal.returns-in-Ok
returns-in-Ok g c =
    let text = c.args.text.now in
    let right = subst (SaysProgram text) c.in-Ok.is c.in_ok-found.ensures in
    of_made_told c.args.line text c.in-Ok.found right c.as_slice.result.now c.as_slice.ensures c.given_told.result c.given_told.ensures

pub returns-in-Err : goal.returns-in-Err
returns-in-Err g c =
    let text = c.args.text.now in
    let told = subst (SaysProgram text) c.in-Err.is c.in_ok-found.ensures in
    of_answer_told c.args.line text c.in-Err.answer told c.answer_told.result c.answer_told.ensures
