use Rattle.fit_blocks.proofs.EndingLemmas.{when_none, when_some}
use Rattle.proof_lines.specs.Lines.{lines_of}
use Rattle.fit_blocks.proofs.ending.finish_block.Goals as goal

pub returns-in-Some-clause-over : goal.returns-in-Some-clause-over
returns-in-Some-clause-over c = λ V s views is.
    let p = c.in_ok-shapes in
    let ended = when_some p.field-0 _ _ c.in-Some.shapes c.in-Some.is (p.ensures.over V s views is) in
    record { last = ended.last; below = ended.below; is = ended.is; found = ended.found (lines_of c.args.rest.lines.now); results = ended.results }

pub returns-in-None-clause-over : goal.returns-in-None-clause-over
returns-in-None-clause-over c = λ V s views is.
    let p = c.in_ok-shapes in
    when_none p.field-0 _ _ c.in-None.is (p.ensures.over V s views is) (lines_of c.args.rest.lines.now)
