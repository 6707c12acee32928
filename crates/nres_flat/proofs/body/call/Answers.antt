use Rattle.std.proofs.Common.{refl, ap, ◌∙◌}
use Rattle.nres_flat.specs.Lookups.{number_in}
use Rattle.nres_flat.proofs.Bodies.{called}
use Rattle.nres_flat.proofs.Outcomes.{if_all_ok}
use Rattle.nres_flat.proofs.body.call.Goals as goal

pub returns : goal.returns
returns c =
    if_all_ok c.end_call.result
    (λ us v b o. called (number_in c.args.procedures.now) c.args.place c.args.fun.now c.args.args.now c.args.args.now c.args.pattern.now c.args.scope.now c.exprs.new.binds c.end_call.new.binds _
    refl refl c.in_ok-args.ensures (c.in_ok-fun.ensures ∙ ap (number_in c.args.procedures.now) c.bytes.ensures) refl v o b)
    c.end_call.ensures.results c.end_call.ensures.binds c.end_call.ensures.names
