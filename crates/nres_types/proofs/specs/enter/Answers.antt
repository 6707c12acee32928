use Rattle.nres_core.specs.Mirror.{blk_of}
use Rattle.nres_types.specs.Findings.{told_of, wrongs}
use Rattle.nres_types.proofs.Entries.{enter_done}
use Rattle.nres_types.proofs.specs.enter.Goals as goal

pub returns : goal.returns
returns c =
    enter_done (told_of c.args.findings.now) (told_of c.fit_params.new.findings) (told_of c.note.new.self) (told_of c.fit_shown.new.findings) (told_of c.block.new.findings) (told_of c.fit_results.new.findings) c.args.profiles.now c.args.params.now c.args.shown.now (blk_of c.args.body.now)
    c.in_ok-scope.scope c.in_ok-results.results.heads.items c.in_ok-results.results.place (wrongs c.in_ok-twice_params.field-0) c.in_ok-types.types.items c.as_slice.result.now
    c.fit_params.ensures c.in_ok-twice_params.ensures c.note.ensures c.fit_shown.ensures c.in_ok-scope.ensures c.in_ok-results.ensures.typed c.in_ok-types.ensures c.as_slice.ensures.value c.fit_results.ensures
