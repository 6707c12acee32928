use Rattle.std.proofs.Common.{◌≡◌, ◌∙◌, ap, subst, Err}
use Rattle.verify_input.specs.Verifications.{StopsAt, StopsDeep}
use Rattle.verify_input.proofs.Nones.{at_is_none, deep_is_none}
use Rattle.verify_input.proofs.reading.read_typed.Goals as goal

pub returns-in-Ok-clause-untyped : goal.returns-in-Ok-clause-untyped
returns-in-Ok-clause-untyped c = λ r e.
    let h = c.typing_found.ensures.untyped r e in
    record { spec = c.in-Ok.spec; withs = c.in-Ok.withs; reads = c.in-Ok.ensures.ok; told = h.0; real = h.1 }

pub returns-in-Err-At-clause-syntax : goal.returns-in-Err-At-clause-syntax
returns-in-Err-At-clause-syntax c = λ q e.
    let i = c.in-Err-At.is ∙ ap Err c.in-Err-At.field-0-is in
    let same : c.in-Err-At.place ≡ q = cc in
    subst (StopsAt c.args.part.now) same (record {
      none = at_is_none _ _ _ c.read_spec.ensures.only i;
      refused = c.read_spec.ensures.at _ i;
    })

pub returns-in-Err-TooDeep-clause-too_deep : goal.returns-in-Err-TooDeep-clause-too_deep
returns-in-Err-TooDeep-clause-too_deep c = λ q e.
    let i = c.in-Err-TooDeep.is ∙ ap Err c.in-Err-TooDeep.field-0-is in
    let same : c.in-Err-TooDeep.place ≡ q = cc in
    subst (StopsDeep c.args.part.now) same (record {
      none = deep_is_none _ _ _ c.read_spec.ensures.only i;
      refused = c.read_spec.ensures.too_deep _ i;
    })
