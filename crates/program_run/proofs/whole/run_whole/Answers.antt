use Rattle.std.proofs.Common.{List, ℕ, Err, ◌^◌, ◌<◌, ◌∙◌, sym, subst, arith}
use Rattle.target_code.specs.declared.tree.InParam.{InParam}
use Rattle.run_inputs.specs.Placing.{AllPut, ArePlaced}
use Rattle.run_begins.specs.Beginning.{HasBegun}
use Rattle.run_begins.proofs.Starting.{placed_begin}
use Rattle.program_run.proofs.Means.{unfit_means, whole_means}
use Rattle.program_run.proofs.whole.run_whole.Goals as goal

pub returns-in-Ok : goal.returns-in-Ok
returns-in-Ok g c =
    let k = g.S.Store.kept in
    let T = c.args.program.now in
    let us = c.args.values.now in
    let s = k c.in_ok-store.store in
    let t = k c.put_inputs.new.store in
    let regs = c.as_slice-in-Ok.result.now in
    let small : c.args.cap < 2 ^ 64 = let f = c.ranges.cap.fits in omega (arith, f) in
    let put : AllPut T.ins us s c.in-Ok.regs t = subst (λ (is : List InParam). AllPut is us s c.in-Ok.regs t) c.as_slice.ensures c.in-Ok.ensures in
    let here : AllPut T.ins us s regs t = subst (λ (rs : List ℕ). AllPut T.ins us s rs t) (sym c.as_slice-in-Ok.ensures) put in
    let begun : HasBegun T us c.args.cap regs t =
    placed_begin T us c.args.cap regs s t c.requires.formed c.requires.held small c.in_ok-store.ensures here
    (g.met.S.RunStore.lies_in_row c.put_inputs.new.store) (g.met.S.RunStore.lies_within c.put_inputs.new.store) in
    whole_means T us c.args.cap regs c.args.steps t begun c.run_begun.result c.run_begun.ensures

pub returns : goal.returns
returns g c =
    let k = g.S.Store.kept in
    let T = c.args.program.now in
    let us = c.args.values.now in
    let s = k c.in_ok-store.store in
    let t = k c.put_inputs.new.store in
    let placed : ArePlaced (Err c.in-Err.unplaced) T.ins us s t =
    subst (λ (is : List InParam). ArePlaced (Err c.in-Err.unplaced) is us s t) c.as_slice.ensures c.in-Err.ensures in
    unfit_means T us c.args.cap c.args.steps s t c.in-Err.unplaced c.requires.fit c.in_ok-store.ensures (g.met.S.RunStore.lies_in_row c.put_inputs.new.store) placed c.unfit.result c.unfit.ensures
