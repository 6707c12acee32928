use Rattle.std.specs.Prelude.{not}
use Rattle.std.proofs.Common.{◌∙◌, ap}
use Rattle.fits_text.specs.FitsText.{text_views}
use Rattle.nres_core.specs.FlatTree.{flat_whole_of}
use Rattle.proof_lines.specs.Lines.{lines_of}
use Rattle.proof_check.proofs.Verdicts.{unfollowed}
use Rattle.proof_check.proofs.verifying.verify.Goals as goal

pub returns-then-is_none : goal.returns-then-is_none
returns-then-is_none g c =
    unfollowed (text_views (flat_whole_of c.args.flat.now) c.args.program.now.procs) (flat_whole_of c.args.flat.now) c.args.program.now (lines_of c.args.lines.now) c.in_ok-standing.standing
    c.in_ok-standing.ensures (c.is_none.ensures ∙ ap not c.if-is_none.true)
