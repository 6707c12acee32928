use Rattle.std.proofs.Common.{◌∙◌, ap, sym, subst, Err}
use Rattle.nres_syntax.specs.Refusals.{RefusedAt, RefusedDeep}
use Rattle.sepref_top.proofs.Told as told
use Rattle.sepref_top.proofs.reading.typed_text.Goals as goal

pub returns-in-Err-At : goal.returns-in-Err-At
returns-in-Err-At c = record {
  none = told.at_is_none _ _ _ c.read_spec.ensures.only (c.in-Err-At.is ∙ ap Err c.in-Err-At.field-0-is);
  refused = subst (RefusedAt c.args.text.now) (sym c.in-Err-At.place-is) (c.read_spec.ensures.at _ (c.in-Err-At.is ∙ ap Err c.in-Err-At.field-0-is));
  written = c.in_ok-place_line-in-Err-At.ensures;
}

pub returns-in-Err-TooDeep : goal.returns-in-Err-TooDeep
returns-in-Err-TooDeep c = record {
  none = told.deep_is_none _ _ _ c.read_spec.ensures.only (c.in-Err-TooDeep.is ∙ ap Err c.in-Err-TooDeep.field-0-is);
  refused = subst (RefusedDeep c.args.text.now) (sym c.in-Err-TooDeep.place-is) (c.read_spec.ensures.too_deep _ (c.in-Err-TooDeep.is ∙ ap Err c.in-Err-TooDeep.field-0-is));
  written = c.in_ok-place_line-in-Err-TooDeep.ensures;
}

pub returns-in_ok-type_line-in-Err : goal.returns-in_ok-type_line-in-Err
returns-in_ok-type_line-in-Err c =
    told.told_fault c.args.text.now c.in-Err.refusal _
    (record { spec = c.in-Ok.found.0; withs = c.in-Ok.found.1; reads = c.in-Ok.ensures.ok; told = c.in-Err.ensures.refused; real = c.in_ok-type_line-in-Err.ensures.real })
    (c.from_vec.ensures ∙ c.in_ok-type_line-in-Err.ensures.line)
