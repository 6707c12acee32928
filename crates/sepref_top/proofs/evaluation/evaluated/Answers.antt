use Rattle.std.proofs.Common.{◌∙◌, ap, sym, Err}
use Rattle.inputs.specs.Inputs as lines
use Rattle.sepref_top.proofs.Firsts.{refused}
use Rattle.sepref_top.proofs.evaluation.evaluated.Goals as goal

pub returns-in_ok-input_line-in-Err-Refused : goal.returns-in_ok-input_line-in-Err-Refused
returns-in_ok-input_line-in-Err-Refused c = (
  tt,
  record {
    fault = (c.in-Err-Refused.name.now, c.in-Err-Refused.fault);
    first =
        ap (λ ps. lines.inputs ps c.args.lines.now) (sym c.as_slice.ensures)
        ∙ refused c.inputs.result (lines.inputs c.as_slice.result.now c.args.lines.now) c.in-Err-Refused.name c.in-Err-Refused.fault c.inputs.ensures (c.in-Err-Refused.is ∙ ap Err c.in-Err-Refused.field-0-is);
    written = c.in_ok-input_line-in-Err-Refused.ensures;
  },
)
