use Rattle.std.proofs.Common.{◌∙◌, ap, Err}
use Rattle.relations.specs.ResultLines.{result_lines}
use Rattle.nres_meaning.specs.Allowed.{first_end}
use Rattle.sepref_top.specs.Evaluation.{deepest_call}
use Rattle.sepref_top.proofs.Firsts.{fell, first_allowed, first_can_fail}
use Rattle.sepref_top.proofs.evaluation.path_answer.Goals as goal

pub returns-in_ok-print_results-in-Ok : goal.returns-in_ok-print_results-in-Ok
returns-in_ok-print_results-in-Ok c = (
  tt,
  record {
    results = c.in-Ok.results;
    first = c.in-Ok.ensures;
    allowed = first_allowed c.args.turns deepest_call c.args.spec.now c.args.args.now c.in-Ok.results c.in-Ok.ensures;
    written = c.in_ok-print_results-in-Ok.ensures ∙ ap result_lines c.as_slice.ensures;
  },
)

pub returns-in_ok-number_line-in-Err-Fails : goal.returns-in_ok-number_line-in-Err-Fails
returns-in_ok-number_line-in-Err-Fails c =
    let first = fell c.eval.result (first_end c.args.turns deepest_call c.args.spec.now c.args.args.now) c.in-Err-Fails.line c.eval.ensures (c.in-Err-Fails.is ∙ ap Err c.in-Err-Fails.field-0-is) in
    (tt, record { first = first; can_fail = first_can_fail c.args.turns deepest_call c.in-Err-Fails.line c.args.spec.now c.args.args.now first; written = c.in_ok-number_line-in-Err-Fails.ensures })
