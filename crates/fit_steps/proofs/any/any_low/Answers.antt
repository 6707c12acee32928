use Rattle.std.proofs.Common.{◌≡◌, ◌∙◌, ap, sym}
use Rattle.std.specs.Prelude.{Some, option_map}
use Rattle.std.proofs.lemmas.Result.{IfOk-weaker}
use Rattle.fit_state.specs.Infos.{info_of}
use Rattle.fit_steps.proofs.GoingLemmas.{some_not, some_there, steps_like}
use Rattle.fit_steps.specs.Parts as parts
use Rattle.fit_tokens.specs.Changes.{tokens_of}
use Rattle.fits.specs.Places.{arg_info}
use Rattle.proof_lines.specs.Lines.{lines_of}
use Rattle.fit_steps.proofs.any.any_low.Goals as goal

pub returns-in-None-clause-stepped : goal.returns-in-None-clause-stepped
returns-in-None-clause-stepped c = λ V s ls is go.
    some_not (arg_info s.entries c.args.choice.now.low) ls _ (sym (c.in_ok-arg_info.ensures c.args.regs s is) ∙ ap (option_map info_of) c.in-None.is)

pub returns-in-Some-clause-stepped : goal.returns-in-Some-clause-stepped
returns-in-Some-clause-stepped c =
    let R = c.args.regs in
    let o = c.args.choice.now in
    let code = c.args.rest.code.now in
    let rest = lines_of c.args.rest.lines.now in
    IfOk-weaker c.any_between.result _ _ (λ r h V s ls is.
    let found : arg_info s.entries o.low ≡ Some (info_of c.in-Some.info) = sym (c.in_ok-arg_info.ensures R s is) ∙ ap (option_map info_of) c.in-Some.is in
    steps_like R c.any_between.new.state ls (parts.any_low R V s code ls rest o.out o.low o.high c.args.reg) (parts.any_between R V s code ls rest o.out (tokens_of c.as_slice.result.now) o.high c.args.reg) r
    (λ go. some_there (arg_info s.entries o.low) (info_of c.in-Some.info) ls _ found ∙ ap (λ ws. parts.any_between R V s code ls rest o.out (tokens_of ws) o.high c.args.reg go) (sym c.as_slice.ensures)) (h V s ls is)) c.any_between.ensures.stepped
