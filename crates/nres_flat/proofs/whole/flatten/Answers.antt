use Rattle.std.proofs.Common.{◌++◌, length, ap, ◌∙◌, subst}
use Rattle.nres_rules.specs.Flatten.{taken, shown_reps, flat_funs, fun_names}
use Rattle.nres_flat.specs.Adding.{AddsEntered, entered_parts}
use Rattle.nres_flat.specs.Lookups.{numbered, number_in}
use Rattle.nres_flat.proofs.Wholes.{in_text_order, whole_is}
use Rattle.nres_flat.proofs.whole.flatten.Goals as goal

pub returns-in-Ok : goal.returns-in-Ok
returns-in-Ok c =
    let tree = c.args.tree.now in
    let number = number_in c.in_ok-procedures.procedures in
    let before = c.in_ok-names.names in
    let middle = c.entered.new.names in
    whole_is tree number (in_text_order tree.funs (c.in_ok-procedures.ensures ∙ ap (λ fs. numbered fs 0) c.as_slice.ensures)) c.in_ok-names.ensures
    (c.in_ok-params.ensures ∙ ap taken c.as_slice-list.ensures) (c.in_ok-shown.ensures ∙ ap shown_reps c.as_slice-2.ensures)
    (c.in_ok-body.ensures.block ∙ ap (λ xs. entered_parts number xs tree.body (length before)) c.as_slice-list.ensures)
    (subst (λ xs. AddsEntered number xs tree.body before middle) c.as_slice-list.ensures c.in_ok-body.ensures.names)
    (c.in-Ok.ensures.funs ∙ ap (λ fs. flat_funs number fs (length middle)) c.as_slice-3.ensures)
    (c.into_list.ensures ∙ (c.in-Ok.ensures.names ∙ ap (λ fs. middle ++ fun_names number fs (length middle)) c.as_slice-3.ensures))
