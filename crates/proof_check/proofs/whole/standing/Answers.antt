use Rattle.std.proofs.Common.{◌∙◌, sym}
use Rattle.fits.specs.Programs.{same_reps}
use Rattle.nres_core.specs.FlatTree.{flat_whole_of}
use Rattle.unfit_line.specs.Tests.{same_ins}
use Rattle.proof_check.proofs.Stood.{procs_long, whole_told}
use Rattle.proof_check.proofs.whole.standing.Goals as goal

pub returns-then-same_results : goal.returns-then-same_results
returns-then-same_results c =
    whole_told (flat_whole_of c.args.flat.now) c.args.program.now c.requires
    ((λ i. same_ins (sym c.as_slice.ensures i) (sym c.as_slice-2.ensures i)) ∙ sym c.same_inputs.ensures ∙ c.if-same_inputs.true)
    ((λ i. same_reps (sym c.as_slice-then-same_inputs.ensures i) (sym c.as_slice-then-same_inputs-2.ensures i)) ∙ sym c.same_results.ensures ∙ c.if-same_results.true)
    c.len.result (c.len.ensures ∙ sym (procs_long c.args.flat.now.funs)) c.as_slice-then-same_results.result.now c.as_slice-then-same_results.ensures c.procs_standing.result c.procs_standing.ensures
