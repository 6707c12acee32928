use Rattle.std.proofs.Common.{◌≡◌, ◌∙◌, ◌++◌, ◌∷◌, [], sym}
use Rattle.facts.specs.Stacks.{def_of}
use Rattle.facts.proofs.StackLemmas.{latest_then, latest_else, latest_none}
use Rattle.facts.proofs.calculations.latest.Goals as goal

pub returns-then-stands_before : goal.returns-then-stands_before
returns-then-stands_before c =
    let e : c.args.kept.now ≡ c.in-Some.field-0-0.now ++ c.in-Some.last.now ∷ [] = cc c.in-Some.ensures in
    latest_then c.args.kept.now c.in-Some.field-0-0.now c.in-Some.last.now (def_of c.args.calculation) c.requires e (sym c.stands_before.ensures ∙ c.if-stands_before.true)

pub returns-else-stands_before : goal.returns-else-stands_before
returns-else-stands_before c =
    let e : c.args.kept.now ≡ c.in-Some.field-0-0.now ++ c.in-Some.last.now ∷ [] = cc c.in-Some.ensures in
    latest_else c.args.kept.now c.in-Some.field-0-0.now c.in-Some.last.now (def_of c.args.calculation) c.requires e (sym c.stands_before.ensures ∙ c.if-stands_before.false)

pub returns-in-None : goal.returns-in-None
returns-in-None c = latest_none c.args.kept.now (def_of c.args.calculation) c.in-None.ensures
