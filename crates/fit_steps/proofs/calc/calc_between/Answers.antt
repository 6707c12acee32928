use Rattle.std.proofs.lemmas.Option.{MatchOption-at_none, MatchOption-at_some}
use Rattle.std.proofs.lemmas.Result.{IfOk-weaker}
use Rattle.fit_state.proofs.HeldLemmas.{still_open}
use Rattle.fit_steps.proofs.GoingLemmas.{steps_like}
use Rattle.fit_steps.proofs.PlainLemmas.{grows_by}
use Rattle.fit_steps.specs.Parts as parts
use Rattle.proof_lines.specs.Lines.{lines_of}
use Rattle.fit_steps.proofs.calc.calc_between.Goals as goal

pub returns-in-None-clause-stepped : goal.returns-in-None-clause-stepped
returns-in-None-clause-stepped c = λ V s ls x y e is go. MatchOption-at_none _ _ c.in-None.is (c.in_ok-pass_all.ensures.passed V s is) ls _

pub calc_end-requires : goal.calc_end-requires
calc_end-requires c = still_open c.args.state.now.rules c.pass_all.new.state.rules c.in_ok-pass_all.ensures.grows.rules c.requires

pub returns-in-Some-clause-stepped : goal.returns-in-Some-clause-stepped
returns-in-Some-clause-stepped c =
    let R = c.args.regs in
    let k = c.args.calculation.now in
    let code = c.args.rest.code.now in
    let rest = lines_of c.args.rest.lines.now in
    IfOk-weaker c.calc_end.result _ _ (λ r h V s ls x y e is.
    let g = MatchOption-at_some _ _ c.in-Some.code c.in-Some.is (c.in_ok-pass_all.ensures.passed V s is) in
    steps_like R c.calc_end.new.state ls (parts.calc_between R V s code ls rest k.place k.to k.word k.left k.right x y) (parts.calc_at R g.next c.in-Some.code.now ls rest k.place k.to k.word k.left k.right x y) r
    (λ go. g.on ls _) (h g.next ls x y e g.is)) c.calc_end.ensures.stepped

pub returns-in-Some-clause-grows : goal.returns-in-Some-clause-grows
returns-in-Some-clause-grows c = IfOk-weaker c.calc_end.result _ _ (λ r h. grows_by c.args.state.now c.pass_all.new.state c.calc_end.new.state r c.in_ok-pass_all.ensures.grows h) c.calc_end.ensures.grows
