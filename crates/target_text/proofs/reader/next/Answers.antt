use Rattle.std.proofs.Common.{IfNone, subst}
use Rattle.target_text.specs.Runs.{Stays}
use Rattle.target_judge.specs.Reads as reads
use Rattle.target_text.proofs.Cuts.{stuck_line, stuck_end}
use Rattle.target_text.proofs.reader.next.Goals as goal

pub returns-in-None-clause-stays : goal.returns-in-None-clause-stays
returns-in-None-clause-stays c = λ bytes count took some. stuck_end c.args.lends bytes count (reads.judged_of c.args.judged) c.args.rest.now took some c.in-None.ensures.none

pub returns-in-None-2-clause-stays : goal.returns-in-None-2-clause-stays
returns-in-None-2-clause-stays c = λ bytes count took some.
    let j = reads.judged_of c.args.judged in
    let text = c.in-Some.text.now in
    let stays : Stays c.args.lends text j = subst (λ o. IfNone o (Stays c.args.lends text j)) c.in-None-2.is c.in_ok-step-in-Some.ensures.stays in
    stuck_line c.args.lends bytes count j c.args.rest.now text c.in-Some.after.now took c.in-Some.ensures.some.0 c.in-Some.ensures.some.1 stays
