use Rattle.std.proofs.Common.{◌≡◌, ◌∙◌, ◌∷◌, [], ap, sym}
use Rattle.std.specs.Prelude.{Some, None, option_map}
use Rattle.std.proofs.lemmas.Result.{IfOk-weaker}
use Rattle.fit_state.specs.Infos.{infos_of}
use Rattle.fit_steps.proofs.GoingLemmas.{pair_not, pair_there, steps_like}
use Rattle.fit_steps.specs.Parts as parts
use Rattle.fits.specs.Places.{arg_info, arg_infos}
use Rattle.proof_lines.specs.Lines.{lines_of}
use Rattle.fit_steps.proofs.calc.calc_values.Goals as goal

pub returns-in-None-clause-stepped : goal.returns-in-None-clause-stepped
returns-in-None-clause-stepped c = λ V s ls is go.
    let k = c.args.calculation.now in
    let e : None ≡ arg_infos s.entries (k.left ∷ k.right ∷ []) = sym (ap (option_map infos_of) c.in-None.is) ∙ c.in_ok-arg_infos.ensures c.args.regs s is in
    pair_not (arg_info s.entries k.left) (arg_info s.entries k.right) ls _ e

pub returns-in-Some-clause-stepped : goal.returns-in-Some-clause-stepped
returns-in-Some-clause-stepped c =
    let R = c.args.regs in
    let k = c.args.calculation.now in
    let code = c.args.rest.code.now in
    let rest = lines_of c.args.rest.lines.now in
    IfOk-weaker c.calc_between.result _ _ (λ r h V s ls is.
    let e : Some (infos_of c.in-Some.infos) ≡ arg_infos s.entries (k.left ∷ k.right ∷ []) = sym (ap (option_map infos_of) c.in-Some.is) ∙ c.in_ok-arg_infos.ensures R s is in
    let p = pair_there (arg_info s.entries k.left) (arg_info s.entries k.right) (infos_of c.in-Some.infos) e in
    steps_like R c.calc_between.new.state ls (parts.calc_values R V s code ls rest k.place k.to k.word k.left k.right) (parts.calc_between R V s code ls rest k.place k.to k.word k.left k.right p.left p.right) r
    (λ go. p.on ls (λ x y. parts.calc_between R V s code ls rest k.place k.to k.word k.left k.right x y go)) (h V s ls p.left p.right (ap infos_of c.as_slice.ensures ∙ p.are) is)) c.calc_between.ensures.stepped
