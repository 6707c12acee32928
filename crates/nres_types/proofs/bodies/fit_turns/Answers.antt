use Rattle.nres_types.specs.Findings.{told_of, wrongs}
use Rattle.nres_types.proofs.Parts.{turns_done}
use Rattle.nres_types.proofs.bodies.fit_turns.Goals as goal

pub returns : goal.returns
returns c =
    turns_done (told_of c.args.findings.now) (told_of c.note.new.self) (told_of c.count.new.self) (told_of c.fit_results.new.findings) c.args.place c.args.vars.now c.args.types.now c.args.results.now.place c.args.results.now.heads.items (wrongs c.in_ok-twice.field-0)
    c.in_ok-twice.ensures c.note.ensures c.count.ensures c.fit_results.ensures
