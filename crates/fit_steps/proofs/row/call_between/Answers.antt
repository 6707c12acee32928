use Rattle.std.proofs.lemmas.Option.{MatchOption-at_none, MatchOption-at_some}
use Rattle.std.proofs.lemmas.Result.{IfOk-weaker}
use Rattle.fit_state.specs.Infos.{infos_of}
use Rattle.fit_steps.proofs.GoingLemmas.{steps_like}
use Rattle.fit_steps.proofs.PlainLemmas.{grows_by}
use Rattle.fit_steps.proofs.RowLemmas.{stands_as}
use Rattle.fit_steps.specs.Parts as parts
use Rattle.proof_lines.specs.Lines.{lines_of}
use Rattle.rule_check.specs.Rows.{rule_of}
use Rattle.fit_steps.proofs.row.call_between.Goals as goal

pub returns-in-None-clause-stepped : goal.returns-in-None-clause-stepped
returns-in-None-clause-stepped c = λ V s ls stands is go. MatchOption-at_none _ _ c.in-None.is (c.in_ok-pass_all.ensures.passed V s is) ls _

pub returns-in-Some-clause-stepped : goal.returns-in-Some-clause-stepped
returns-in-Some-clause-stepped c =
    let a = c.args.applying.now in
    let o = a.operation in
    let code = c.args.rest.code.now in
    let rest = lines_of c.args.rest.lines.now in
    IfOk-weaker c.call_end.result _ _ (λ r h V s ls stands is.
    let g = MatchOption-at_some _ _ c.in-Some.code c.in-Some.is (c.in_ok-pass_all.ensures.passed V s is) in
    steps_like a.regs c.call_end.new.state ls (parts.call_between a.regs V s code ls rest o.place o.outs.now o.op o.made o.args.now (infos_of a.infos.now) (rule_of a.row) c.args.name)
    (parts.call_at a.regs V g.next c.in-Some.code.now ls rest o.place o.outs.now o.op o.made o.args.now (infos_of a.infos.now) (rule_of a.row) c.args.name) r
    (λ go. g.on ls _) (h V g.next ls (stands_as a V s g.next g.entries stands) g.is)) c.call_end.ensures.stepped

pub returns-in-Some-clause-grows : goal.returns-in-Some-clause-grows
returns-in-Some-clause-grows c = IfOk-weaker c.call_end.result _ _ (λ r h. grows_by c.args.state.now c.pass_all.new.state c.call_end.new.state r c.in_ok-pass_all.ensures.grows h) c.call_end.ensures.grows
