use Rattle.std.proofs.Common.{ap, sym, subst, ◌∙◌}
use Rattle.rule_check.specs.Context.{is_among}
use Rattle.range_split.specs.Places.{Ascending}
use Rattle.range_split.proofs.OrderLemmas.{inserted, ascends}
use Rattle.range_split.proofs.PlacesLemmas.{places_found, places_missed}
use Rattle.range_split.proofs.StepsLemmas.{on_ok}
use Rattle.range_split.proofs.located.note.Goals as goal

pub returns-in-Some-clause-there : goal.returns-in-Some-clause-there
returns-in-Some-clause-there c =
    on_ok c.insert.result
    (λ e us h. places_found us c.args.found.now.keys c.insert.new.found.keys c.args.variable c.in-Some.place c.args.context.now.spots c.requires (sym c.in-Some.ensures.place) h
    (λ n. ap (is_among n) e ∙ inserted n c.in-Some.place c.args.found.now.keys))
    c.insert.ensures

pub returns-in-Some-clause-ascend : goal.returns-in-Some-clause-ascend
returns-in-Some-clause-ascend c = on_ok c.insert.result (λ e h. subst Ascending (sym e) (ascends c.in-Some.place c.args.found.now.keys h)) c.insert.ensures

pub returns-in-None-clause-there : goal.returns-in-None-clause-there
returns-in-None-clause-there c us h = places_missed us c.args.found.now.keys c.args.variable c.args.context.now.spots (sym c.in-None.ensures.place) h
