use Rattle.std.proofs.Common.{◌≡◌, ◌∙◌, true, sym, subst, ap, Err}
use Rattle.nres_core.specs.Texts.{WithText}
use Rattle.nres_syntax.specs.Refusals.{ValuesRefusedAt}
use Rattle.target_text.specs.Refusals.{RefusedAt}
use Rattle.execution_input.specs.Executions.{NoValuesAt, front_of}
use Rattle.execution_input.proofs.Cuts as cuts
use Rattle.execution_input.proofs.reading.read_execution.Goals as goal

pub returns-in-Err-Line-clause-not_program : goal.returns-in-Err-Line-clause-not_program
returns-in-Err-Line-clause-not_program c = λ k e.
    let f = cuts.is_front c.args.text.now _ _ c.split_at.ensures.front c.front_end-end.ensures.end in
    let h = c.read_program.ensures.line _ (c.in-Err-Line.is ∙ ap Err c.in-Err-Line.field-0-is) in
    let same : c.in-Err-Line.refused ≡ k = cc in
    subst (λ j. RefusedAt (front_of true c.args.text.now) j) same (subst (λ l. RefusedAt l c.in-Err-Line.refused) f h)

pub returns-in-Ok-read_withs-clause-ok : goal.returns-in-Ok-read_withs-clause-ok
returns-in-Ok-read_withs-clause-ok c =
    let f = cuts.is_front c.args.text.now _ _ c.split_at.ensures.front c.front_end-end.ensures.end in
    let r = cuts.is_rest c.args.text.now _ _ c.split_at.ensures.back c.front_end-end.ensures.end in
    let t = c.in-Ok.ensures.ok in
    record {
      program = record { formed = t.0; is_text = sym f ∙ t.1 };
      values = cuts.at_values (λ n l. WithText n l c.in-Ok-read_withs.withs) _ _ _ _ c.front_end-end.ensures.line r c.in-Ok-read_withs.ensures.ok;
    }

pub returns-in-Err-At-clause-syntax : goal.returns-in-Err-At-clause-syntax
returns-in-Err-At-clause-syntax c = λ q e.
    let f = cuts.is_front c.args.text.now _ _ c.split_at.ensures.front c.front_end-end.ensures.end in
    let r = cuts.is_rest c.args.text.now _ _ c.split_at.ensures.back c.front_end-end.ensures.end in
    let t = c.in-Ok.ensures.ok in
    let i = c.in-Err-At.is ∙ ap Err c.in-Err-At.field-0-is in
    let same : c.in-Err-At.place ≡ q = cc in
    subst (NoValuesAt c.args.text.now) same (record {
      tree = c.in-Ok.program;
      program = record { formed = t.0; is_text = sym f ∙ t.1 };
      refused = cuts.at_values (λ n l. ValuesRefusedAt n l c.in-Err-At.place) _ _ _ _ c.front_end-end.ensures.line r (c.read_withs.ensures.at _ i);
      none = λ ws w. cuts.none_read _ _ ws i (c.read_withs.ensures.only ws (cuts.at_values (λ n l. WithText n l ws) _ _ _ _ (sym c.front_end-end.ensures.line) (sym r) w));
    })
