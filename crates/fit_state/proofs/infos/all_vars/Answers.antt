use Rattle.std.proofs.Common.{◌∙◌, ap, sym}
use Rattle.std.specs.Prelude.{Some, None}
use Rattle.fit_state.proofs.InfosLemmas.{vars_step, none_to_all}
use Rattle.fit_state.proofs.infos.all_vars.Goals.{in-Some+in_ok-push, in_default}
use Rattle.fit_state.proofs.infos.all_vars.Goals as goal

pub each-preserved : goal.each-preserved
each-preserved c = elim c.match-info.branch [
  | in-Some+in_ok-push w ↦ vars_step c.args.infos.now c.each.info-index c.info-item.result c.each.vars c.match-info.vars (Some w.in-Some.var) c.each-test.true c.each.invariant (sym w.in-Some.is ∙ ap (λ i. i.var) c.info-item.is) (w.vars-is ∙ w.in_ok-push.ensures.ok)
  | in_default w ↦ vars_step c.args.infos.now c.each.info-index c.info-item.result c.each.vars c.match-info.vars None c.each-test.true c.each.invariant (sym w.in_default.is ∙ ap (λ i. i.var) c.info-item.is) (w.vars-is ∙ none_to_all c.each.vars)
]
