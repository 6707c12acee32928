use Rattle.std.proofs.Common.{◌≡◌, List, Ok, Err, sym, subst}
use Rattle.nres_core.specs.declared.value.Value.{Value}
use Rattle.target_code.specs.declared.tree.InParam.{InParam}
use Rattle.inputs.specs.Inputs.{Tells, program_inputs}
use Rattle.sepref_runs.proofs.Tops.{of_input_told, of_run_told}
use Rattle.sepref_runs.proofs.execution.given_told.Goals as goal

pub returns-in-Ok : goal.returns-in-Ok
returns-in-Ok g c =
    let T = c.args.program.now in
    let ws = c.args.withs.now in
    let here : program_inputs T.ins ws ≡ Ok c.in-Ok.values = subst (λ (is : List InParam). program_inputs is ws ≡ Ok c.in-Ok.values) c.as_slice.ensures c.in-Ok.ensures in
    let given : program_inputs T.ins ws ≡ Ok c.as_slice-in-Ok.result.now = subst (λ (us : List Value). program_inputs T.ins ws ≡ Ok us) (sym c.as_slice-in-Ok.ensures) here in
    of_run_told c.args.line T ws c.as_slice-in-Ok.result.now given c.run_told.result c.run_told.ensures

pub returns-in-Err : goal.returns-in-Err
returns-in-Err g c =
    let T = c.args.program.now in
    let ws = c.args.withs.now in
    let here : Tells {A = List Value} (Err c.in-Err.refusal) (program_inputs T.ins ws) =
    subst (λ (is : List InParam). Tells {A = List Value} (Err c.in-Err.refusal) (program_inputs is ws)) c.as_slice.ensures c.in-Err.ensures in
    of_input_told c.args.line T ws c.in-Err.refusal here c.input_told.result c.input_told.ensures
