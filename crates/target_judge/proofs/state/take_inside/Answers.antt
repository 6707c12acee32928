use Rattle.std.proofs.Common.{ap, sym, ◌∙◌}
use Rattle.target_lines.specs.declared.line.Phrase.{Phrase}
use Rattle.target_lines.specs.Programs.{line}
use Rattle.target_judge.specs.Shape.{takes}
use Rattle.target_judge.specs.Taking.{take_inside}
use Rattle.target_judge.specs.States.{header_of, place_of}
use Rattle.target_judge.proofs.States.{ret_inside}
use Rattle.target_judge.proofs.state.take_inside.Goals as goal

pub returns-in-Ret : goal.returns-in-Ret
returns-in-Ret c =
    let h = header_of c.args.header in
    let s = place_of c.args.place in
    c.take_ret.ensures
    ∙ sym (ap (λ (p : Phrase). take_inside h (line c.args.line.level p) s (takes (line c.args.line.level p) s)) c.in-Ret.is ∙ ret_inside h c.args.line.level c.in-Ret.list s)
