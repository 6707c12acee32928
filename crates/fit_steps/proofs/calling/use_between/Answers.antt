use Rattle.std.proofs.lemmas.Option.{MatchOption-at_none, MatchOption-at_some}
use Rattle.std.proofs.lemmas.Result.{IfOk-weaker}
use Rattle.fit_state.specs.Infos.{infos_of}
use Rattle.fit_steps.proofs.GoingLemmas.{steps_like}
use Rattle.fit_steps.proofs.PlainLemmas.{grows_by}
use Rattle.fit_steps.proofs.UseLemmas.{stands_as}
use Rattle.fit_steps.specs.Parts as parts
use Rattle.proc_rules.specs.Calls.{sig_view}
use Rattle.proof_lines.specs.Lines.{lines_of}
use Rattle.fit_steps.proofs.calling.use_between.Goals as goal

pub returns-in-None-clause-stepped : goal.returns-in-None-clause-stepped
returns-in-None-clause-stepped c = λ V s ls stands is go. MatchOption-at_none _ _ c.in-None.is (c.in_ok-pass_all.ensures.passed V s is) ls _

pub returns-in-Some-clause-stepped : goal.returns-in-Some-clause-stepped
returns-in-Some-clause-stepped c =
    let a = c.args.call.now in
    let o = a.calling in
    let code = c.args.rest.code.now in
    let rest = lines_of c.args.rest.lines.now in
    IfOk-weaker c.use_end.result _ _ (λ r h V s ls stands is.
    let g = MatchOption-at_some _ _ c.in-Some.code c.in-Some.is (c.in_ok-pass_all.ensures.passed V s is) in
    steps_like a.regs c.use_end.new.state ls (parts.use_between a.regs V s code ls rest o.place o.outs.now o.fun o.args.now (infos_of a.infos.now) (sig_view a.sig))
    (parts.use_at a.regs V g.next c.in-Some.code.now ls rest o.place o.outs.now o.fun o.args.now (infos_of a.infos.now) (sig_view a.sig)) r
    (λ go. g.on ls _) (h V g.next ls (stands_as a V s g.next g.entries stands) g.is)) c.use_end.ensures.stepped

pub returns-in-Some-clause-grows : goal.returns-in-Some-clause-grows
returns-in-Some-clause-grows c = IfOk-weaker c.use_end.result _ _ (λ r h. grows_by c.args.state.now c.pass_all.new.state c.use_end.new.state r c.in_ok-pass_all.ensures.grows h) c.use_end.ensures.grows
