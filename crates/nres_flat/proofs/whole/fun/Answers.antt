use Rattle.std.proofs.Common.{length, ap, ◌∙◌, subst}
use Rattle.nres_rules.specs.Flatten.{taken, shown_reps}
use Rattle.nres_flat.specs.Adding.{AddsEntered, entered_parts}
use Rattle.nres_flat.specs.Lookups.{number_in}
use Rattle.nres_flat.proofs.Wholes.{fun_is}
use Rattle.nres_flat.proofs.whole.fun.Goals as goal

pub returns-clause-fun : goal.returns-clause-fun
returns-clause-fun c =
    let number = number_in c.args.procedures.now in
    let tree = c.args.tree.now in
    fun_is number tree (length c.args.names.now) c.in_ok-name.ensures (c.in_ok-params.ensures ∙ ap taken c.as_slice-list.ensures) (c.in_ok-shown.ensures ∙ ap shown_reps c.as_slice.ensures)
    (c.in_ok-body.ensures.block ∙ ap (λ xs. entered_parts number xs tree.body (length c.args.names.now)) c.as_slice-list.ensures)

pub returns-clause-names : goal.returns-clause-names
returns-clause-names c =
    subst (λ xs. AddsEntered (number_in c.args.procedures.now) xs c.args.tree.now.body c.args.names.now c.entered.new.names) c.as_slice-list.ensures c.in_ok-body.ensures.names
