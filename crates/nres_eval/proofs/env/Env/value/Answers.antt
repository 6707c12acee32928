use Rattle.std.proofs.Common.{ap, ◌∙◌, ◌≡◌, subst, sym, IfOk, Some}
use Rattle.std.specs.List.{slice_get}
use Rattle.std.specs.Option.{option_copied}
use Rattle.nres_meaning.specs.Meaning.{value_of}
use Rattle.nres_eval.specs.Environment.{or_zero}
use Rattle.nres_eval.proofs.Environments.{found_value, at_place}
use Rattle.nres_eval.proofs.env.Env.value.Goals as goal

pub returns-in_default : goal.returns-in_default
returns-in_default c =
    ap (at_place c.self.inside.values.items) (sym c.in_default.is ∙ c.find.ensures)
    ∙ sym (found_value c.self.inside.places c.self.inside.values.items c.bytes.result.now)
    ∙ (λ i. value_of (c.self.view_is i) (c.bytes.ensures i))

pub returns-in-Some-at : goal.returns-in-Some-at
returns-in-Some-at c =
    let vs = c.self.inside.values.items in
    subst (λ w. IfOk c.share.result (λ v. v ≡ w))
    (ap (λ r. or_zero (option_copied r)) (sym c.in-Some-at.is)
    ∙ ap or_zero c.at.ensures
    ∙ ap (λ us. or_zero (slice_get us c.in-Some.place)) c.as_slice.ensures.value
    ∙ ap (at_place vs) (sym c.in-Some.is ∙ c.find.ensures)
    ∙ sym (found_value c.self.inside.places vs c.bytes.result.now)
    ∙ (λ i. value_of (c.self.view_is i) (c.bytes.ensures i)))
    c.share.ensures

pub returns-in-None : goal.returns-in-None
returns-in-None c =
    let vs = c.self.inside.values.items in
    ap (λ r. or_zero (option_copied r)) (sym c.in-None.is)
    ∙ ap or_zero c.at.ensures
    ∙ ap (λ us. or_zero (slice_get us c.in-Some.place)) c.as_slice.ensures.value
    ∙ ap (at_place vs) (sym c.in-Some.is ∙ c.find.ensures)
    ∙ sym (found_value c.self.inside.places vs c.bytes.result.now)
    ∙ (λ i. value_of (c.self.view_is i) (c.bytes.ensures i))
