use Rattle.std.proofs.Common.{sym, subst, []}
use Rattle.std.proofs.lemmas.List.{take_more, take_all}
use Rattle.range_split.specs.Places.{Ascending, Places}
use Rattle.range_split.proofs.PlacesLemmas.{places_none}
use Rattle.range_split.proofs.StepsLemmas.{if_ok}
use Rattle.range_split.proofs.located.places.Goals as goal

pub each-init : goal.each-init
each-init c = (subst (λ ks. Places [] ks c.args.context.now.spots) (sym c.new-found.ensures.empty) (places_none c.args.context.now.spots), subst Ascending (sym c.new-found.ensures.empty) tt)

pub each-preserved : goal.each-preserved
each-preserved c = (
  subst (λ us. Places us c.note.new.found.keys c.args.context.now.spots) (sym (take_more c.args.uses.now c.each.variable-index 0 c.each-test.true)) (c.in_ok-note.ensures.there _ c.each.invariant.0),
  c.in_ok-note.ensures.ascend c.each.invariant.1,
)

pub returns-clause-there : goal.returns-clause-there
returns-clause-there c =
    if_ok c.listed.result
    (λ x e. subst (λ ks. Places c.args.uses.now ks c.args.context.now.spots) (sym e)
    (subst (λ us. Places us c.each.found.keys c.args.context.now.spots) (take_all c.each.variable-index c.args.uses.now c.each-test.false) c.each.invariant.0))
    c.listed.ensures

pub returns-clause-ascend : goal.returns-clause-ascend
returns-clause-ascend c = if_ok c.listed.result (λ x e. subst Ascending (sym e) c.each.invariant.1) c.listed.ensures
