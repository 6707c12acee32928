use Rattle.std.proofs.Common.{◌≡◌, ◌∙◌, ap, sym}
use Rattle.std.specs.Prelude.{Some, None, option_map}
use Rattle.std.proofs.lemmas.Result.{IfOk-weaker}
use Rattle.fit_state.specs.Infos.{infos_of}
use Rattle.fit_steps.proofs.GoingLemmas.{some_not, some_there, steps_like}
use Rattle.fits.specs.Follow as f
use Rattle.fits.specs.Places.{arg_infos, info_reps}
use Rattle.proof_lines.specs.Lines.{lines_of}
use Rattle.row_index.specs.FirstRow.{rule_of_row}
use Rattle.rule_check.specs.Rows.{rule_of}
use Rattle.rule_steps.specs.Operations.{table_row}
use Rattle.fit_steps.proofs.row.apply_step.Goals as goal

pub returns-in-None-clause-stepped : goal.returns-in-None-clause-stepped
returns-in-None-clause-stepped c = λ V s views is go.
    some_not (arg_infos s.entries c.args.operation.now.args.now) (lines_of c.args.rest.lines.now) _ (sym (c.in_ok-arg_infos.ensures c.args.regs s is) ∙ ap (option_map infos_of) c.in-None.is)

pub returns-in-None-2-clause-stepped : goal.returns-in-None-2-clause-stepped
returns-in-None-2-clause-stepped c = λ V s views is go.
    let R = c.args.regs in
    let k = c.args.operation.now in
    let code = c.args.rest.code.now in
    let ls = lines_of c.args.rest.lines.now in
    let infos = infos_of c.as_slice.result.now in
    let e : arg_infos s.entries k.args.now ≡ Some infos = sym (c.in_ok-arg_infos.ensures R s is) ∙ ap (option_map infos_of) c.in-Some.is ∙ ap (λ xs. Some (infos_of xs)) (sym c.as_slice.ensures) in
    let row : V.book.row_for k.op (info_reps infos) k.made ≡ None = views.rows k.op (info_reps infos) k.made c.in_ok-row_at-in-Some.ensures.within ∙ sym c.in_ok-row_at-in-Some.ensures.row ∙ ap rule_of_row c.in-None-2.is in
    some_there (arg_infos s.entries k.args.now) infos ls (λ xs. f.with_some (V.book.row_for k.op (info_reps xs) k.made) ls (λ x. f.row_step R V s code ls k.place k.outs.now k.op k.made k.args.now xs x x.code go)) e
    ∙ some_not (V.book.row_for k.op (info_reps infos) k.made) ls (λ x. f.row_step R V s code ls k.place k.outs.now k.op k.made k.args.now infos x x.code go) row

pub returns-clause-stepped : goal.returns-clause-stepped
returns-clause-stepped c =
    let R = c.args.regs in
    let k = c.args.operation.now in
    let code = c.args.rest.code.now in
    let ls = lines_of c.args.rest.lines.now in
    let infos = infos_of c.as_slice-in-Some-2.result.now in
    let row = rule_of c.in-Some-2.row in
    IfOk-weaker c.row_step.result _ _ (λ r h V s views is.
    let e : arg_infos s.entries k.args.now ≡ Some infos = sym (c.in_ok-arg_infos.ensures R s is) ∙ ap (option_map infos_of) c.in-Some.is ∙ ap (λ xs. Some (infos_of xs)) (sym c.as_slice-in-Some-2.ensures) in
    let t : table_row k.op (info_reps infos) k.made ≡ Some row = ap (λ xs. table_row k.op (info_reps (infos_of xs)) k.made) (c.as_slice-in-Some-2.ensures ∙ sym c.as_slice.ensures) ∙ sym c.in_ok-row_at-in-Some.ensures.row ∙ ap rule_of_row c.in-Some-2.is in
    let v : V.book.row_for k.op (info_reps infos) k.made ≡ Some row =
    ap (λ xs. V.book.row_for k.op (info_reps (infos_of xs)) k.made) (c.as_slice-in-Some-2.ensures ∙ sym c.as_slice.ensures) ∙ views.rows k.op (info_reps (infos_of c.as_slice.result.now)) k.made c.in_ok-row_at-in-Some.ensures.within ∙ sym c.in_ok-row_at-in-Some.ensures.row ∙ ap rule_of_row c.in-Some-2.is in
    steps_like R c.row_step.new.state ls (λ go. f.apply_step R V s code ls k.place k.outs.now k.op k.made k.args.now go) (λ go. f.row_step R V s code ls k.place k.outs.now k.op k.made k.args.now infos row row.code go) r
    (λ go.
    some_there (arg_infos s.entries k.args.now) infos ls (λ xs. f.with_some (V.book.row_for k.op (info_reps xs) k.made) ls (λ x. f.row_step R V s code ls k.place k.outs.now k.op k.made k.args.now xs x x.code go)) e
    ∙ some_there (V.book.row_for k.op (info_reps infos) k.made) row ls (λ x. f.row_step R V s code ls k.place k.outs.now k.op k.made k.args.now infos x x.code go) v)
    (h V s (record { infos = e; row = v; table = t; names = views.names; library = views.library }) is)) c.row_step.ensures.stepped
