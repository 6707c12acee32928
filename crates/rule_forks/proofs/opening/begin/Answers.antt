use Rattle.std.specs.Prelude.{Some, None}
use Rattle.rule_forks.specs.Parts.{part_of}
use Rattle.rule_forks.proofs.OpeningLemmas.{if_ok_then, part_begins}
use Rattle.rule_forks.proofs.opening.begin.Goals as goal

pub returns-in-Some : goal.returns-in-Some
returns-in-Some c =
    if_ok_then c.open_part.result _ _
    (λ branch h p. part_begins c.args.context.now.spots branch.spots (part_of c.args.part) (Some c.in-Some.slice) c.in-Some.is (h c.args.part.us.now p))
    c.open_part.ensures.spots

pub returns-in-None : goal.returns-in-None
returns-in-None c =
    if_ok_then c.open_branch.result _ _
    (λ branch h p. part_begins c.args.context.now.spots branch.spots (part_of c.args.part) None c.in-None.is (h c.args.part.us.now p))
    c.open_branch.ensures.spots
