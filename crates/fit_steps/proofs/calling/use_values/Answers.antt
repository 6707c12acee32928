use Rattle.std.proofs.Common.{◌≡◌, ◌∙◌, ap, sym}
use Rattle.std.specs.Prelude.{Some, option_map}
use Rattle.std.proofs.lemmas.Result.{IfOk-weaker}
use Rattle.fit_state.specs.Infos.{infos_of}
use Rattle.fit_steps.proofs.GoingLemmas.{some_not, some_there, steps_like}
use Rattle.fit_steps.specs.Parts as parts
use Rattle.fits.specs.Follow.{with_some}
use Rattle.fits.specs.Places.{arg_infos}
use Rattle.proc_rules.specs.Calls.{sig_seen, sig_view}
use Rattle.proof_lines.specs.Lines.{lines_of}
use Rattle.rule_check.specs.Steps.{sig_at}
use Rattle.fit_steps.proofs.calling.use_values.Goals as goal

pub returns-in-None-clause-stepped : goal.returns-in-None-clause-stepped
returns-in-None-clause-stepped c = λ V s ls views is go.
    some_not (arg_infos s.entries c.args.calling.now.args.now) ls _ (sym (c.in_ok-arg_infos.ensures c.args.regs s is) ∙ ap (option_map infos_of) c.in-None.is)

pub returns-in-None-sig_in-clause-stepped : goal.returns-in-None-sig_in-clause-stepped
returns-in-None-sig_in-clause-stepped c = λ V s ls views is go.
    let o = c.args.calling.now in
    some_there (arg_infos s.entries o.args.now) (infos_of c.in-Some.infos) ls _ (sym (c.in_ok-arg_infos.ensures c.args.regs s is) ∙ ap (option_map infos_of) c.in-Some.is)
    ∙ some_not (sig_at V.book.sigs o.fun) ls _ (ap (λ gs. sig_at gs o.fun) views.sigs ∙ sym c.sig_in.ensures ∙ ap sig_seen c.in-None-sig_in.is)

pub returns-clause-stepped : goal.returns-clause-stepped
returns-clause-stepped c =
    let R = c.args.regs in
    let o = c.args.calling.now in
    let code = c.args.rest.code.now in
    let rest = lines_of c.args.rest.lines.now in
    let infos = infos_of c.as_slice.result.now in
    let sig = sig_view c.in-Some-sig_in.sig in
    IfOk-weaker c.use_between.result _ _ (λ r h V s ls views is.
    let e : arg_infos s.entries o.args.now ≡ Some infos = sym (c.in_ok-arg_infos.ensures R s is) ∙ ap (option_map infos_of) c.in-Some.is ∙ ap (λ xs. Some (infos_of xs)) (sym c.as_slice.ensures) in
    let g : sig_at V.book.sigs o.fun ≡ Some sig = ap (λ gs. sig_at gs o.fun) views.sigs ∙ sym c.sig_in.ensures ∙ ap sig_seen c.in-Some-sig_in.is in
    steps_like R c.use_between.new.state ls (parts.use_values R V s code ls rest o.place o.outs.now o.fun o.args.now) (parts.use_between R V s code ls rest o.place o.outs.now o.fun o.args.now infos sig) r
    (λ go.
    some_there (arg_infos s.entries o.args.now) infos ls (λ xs. with_some (sig_at V.book.sigs o.fun) ls (λ y. parts.use_between R V s code ls rest o.place o.outs.now o.fun o.args.now xs y go)) e
    ∙ some_there (sig_at V.book.sigs o.fun) sig ls (λ y. parts.use_between R V s code ls rest o.place o.outs.now o.fun o.args.now infos y go) g)
    (h V s ls (record { infos = e; sig = g }) is)) c.use_between.ensures.stepped
