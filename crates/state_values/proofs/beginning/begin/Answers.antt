use Rattle.std.proofs.Common.{◌≡◌, ◌≤◌, ℕ, Err, List, sym, ap, ◌∙◌, subst, arith}
use Rattle.target_code.specs.declared.tree.InParam.{InParam}
use Rattle.target_meaning.specs.Machine.{claims}
use Rattle.target_meaning.specs.States.{first_state}
use Rattle.run_inputs.specs.declared.place.Unplaced.{Unplaced}
use Rattle.run_inputs.specs.declared.place.Unplaced.TheVariants as unplaced
use Rattle.state_values.specs.Laying.{AllLaid, AreLaid, StopsAt}
use Rattle.state_values.proofs.Starting.{are_unfit, is_begun, laid}
use Rattle.state_values.proofs.beginning.begin.Goals as goal

pub returns-in-Err-clause-unfit : goal.returns-in-Err-clause-unfit
returns-in-Err-clause-unfit c = λ at len e.
    let T = c.args.program.now in
    let us = c.args.values.now in
    let same : c.in-Err.unplaced ≡ unplaced.Full at len = cc in
    let stops : StopsAt c.args.cap c.as_slice.result.now us 0 at len = subst (λ (u : Unplaced). AreLaid (Err u) c.args.cap c.as_slice.result.now us) same c.in-Err.ensures in
    are_unfit T us c.args.cap at len c.requires.fit (subst (λ (is : List InParam). StopsAt c.args.cap is us 0 at len) c.as_slice.ensures stops)

pub new-requires : goal.new-requires
new-requires c =
    let T = c.args.program.now in
    let us = c.args.values.now in
    let regs = c.in-Ok.laid.regs.items in
    let blocks = c.in-Ok.laid.blocks.items in
    let all : AllLaid c.args.cap T.ins us 0 regs blocks = subst (λ (is : List InParam). AllLaid c.args.cap is us 0 regs blocks) c.as_slice.ensures c.in-Ok.ensures in
    let room = (laid c.args.cap T.ins us 0 regs blocks (omega arith) all).room in
    subst (λ (bs : List (ℕ × List ℕ)). claims bs ≤ c.args.cap) (sym c.as_slice-3.ensures.value) (omega (arith, room))

pub returns-in-Ok-new-clause-begun : goal.returns-in-Ok-new-clause-begun
returns-in-Ok-new-clause-begun c =
    let T = c.args.program.now in
    let us = c.args.values.now in
    let regs = c.in-Ok.laid.regs.items in
    let blocks = c.in-Ok.laid.blocks.items in
    let all : AllLaid c.args.cap T.ins us 0 regs blocks = subst (λ (is : List InParam). AllLaid c.args.cap is us 0 regs blocks) c.as_slice.ensures c.in-Ok.ensures in
    let fits = c.ranges.cap.fits in
    is_begun T us c.args.cap regs blocks _ c.requires.formed c.requires.held (omega (arith, fits)) all
    (c.in-Ok-new.ensures
    ∙ ap (λ (rs : List ℕ). first_state T.procs rs c.as_slice-3.result.now c.args.cap) c.as_slice-2.ensures.value
    ∙ ap (λ (bs : List (ℕ × List ℕ)). first_state T.procs regs bs c.args.cap) c.as_slice-3.ensures.value)
