use Rattle.std.proofs.Common.{◌≡◌, List, Ok, Err, IfOk, sym, subst}
use Rattle.nres_core.specs.declared.tree.With.{With}
use Rattle.nres_core.specs.declared.value.Value.{Value}
use Rattle.replay.specs.declared.schedule.Move.{Move}
use Rattle.target_code.specs.declared.tree.InParam.{InParam}
use Rattle.inputs.specs.Inputs.{Tells, program_inputs}
use Rattle.sepref_replay.specs.Follows.{Follows}
use Rattle.sepref_replay.proofs.Causing.{input_given, values_given}
use Rattle.sepref_replay.proofs.command.given.Goals as goal

pub replay_values-requires-clause-held : goal.replay_values-requires-clause-held
replay_values-requires-clause-held c =
    let T = c.args.input.now.program in
    let ws = c.args.input.now.withs in
    let first : program_inputs T.ins c.as_slice-2.result.now ≡ Ok c.in-Ok.values = subst (λ (is : List InParam). program_inputs is c.as_slice-2.result.now ≡ Ok c.in-Ok.values) c.as_slice.ensures c.in-Ok.ensures in
    let second : program_inputs T.ins ws ≡ Ok c.in-Ok.values = subst (λ (l : List With). program_inputs T.ins l ≡ Ok c.in-Ok.values) c.as_slice-2.ensures first in
    (c.requires.held c.as_slice-in-Ok.result.now (subst (λ (xs : List Value). program_inputs T.ins ws ≡ Ok xs) (sym c.as_slice-in-Ok.ensures) second)).0

pub replay_values-requires-clause-fit : goal.replay_values-requires-clause-fit
replay_values-requires-clause-fit c =
    let T = c.args.input.now.program in
    let ws = c.args.input.now.withs in
    let first : program_inputs T.ins c.as_slice-2.result.now ≡ Ok c.in-Ok.values = subst (λ (is : List InParam). program_inputs is c.as_slice-2.result.now ≡ Ok c.in-Ok.values) c.as_slice.ensures c.in-Ok.ensures in
    let second : program_inputs T.ins ws ≡ Ok c.in-Ok.values = subst (λ (l : List With). program_inputs T.ins l ≡ Ok c.in-Ok.values) c.as_slice-2.ensures first in
    (c.requires.held c.as_slice-in-Ok.result.now (subst (λ (xs : List Value). program_inputs T.ins ws ≡ Ok xs) (sym c.as_slice-in-Ok.ensures) second)).1

pub returns-in-Ok : goal.returns-in-Ok
returns-in-Ok c =
    let T = c.args.input.now.program in
    let ws = c.args.input.now.withs in
    let us = c.as_slice-in-Ok.result.now in
    let first : program_inputs T.ins c.as_slice-2.result.now ≡ Ok c.in-Ok.values = subst (λ (is : List InParam). program_inputs is c.as_slice-2.result.now ≡ Ok c.in-Ok.values) c.as_slice.ensures c.in-Ok.ensures in
    let second : program_inputs T.ins ws ≡ Ok c.in-Ok.values = subst (λ (l : List With). program_inputs T.ins l ≡ Ok c.in-Ok.values) c.as_slice-2.ensures first in
    let given : program_inputs T.ins ws ≡ Ok us = subst (λ (xs : List Value). program_inputs T.ins ws ≡ Ok xs) (sym c.as_slice-in-Ok.ensures) second in
    values_given T ws c.args.input.now.steps.items c.args.cap us given c.replay_values.result
    (subst (λ (ms : List Move). IfOk c.replay_values.result (λ t. Follows T us ms c.args.cap t)) c.as_slice-in-Ok-2.ensures.value c.replay_values.ensures)

pub returns-in-Err : goal.returns-in-Err
returns-in-Err c =
    let T = c.args.input.now.program in
    let ws = c.args.input.now.withs in
    let first : Tells {A = List Value} (Err c.in-Err.refusal) (program_inputs T.ins c.as_slice-2.result.now) =
    subst (λ (is : List InParam). Tells {A = List Value} (Err c.in-Err.refusal) (program_inputs is c.as_slice-2.result.now)) c.as_slice.ensures c.in-Err.ensures in
    let second : Tells {A = List Value} (Err c.in-Err.refusal) (program_inputs T.ins ws) =
    subst (λ (l : List With). Tells {A = List Value} (Err c.in-Err.refusal) (program_inputs T.ins l)) c.as_slice-2.ensures first in
    input_given T ws c.args.input.now.steps.items c.args.cap c.in-Err.refusal second c.input_cause.result c.input_cause.ensures
