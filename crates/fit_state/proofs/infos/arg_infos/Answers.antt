use Rattle.std.proofs.Common.{◌∙◌, ap, sym, arith}
use Rattle.std.proofs.lemmas.List.{take_all}
use Rattle.std.specs.Option.{option_map}
use Rattle.fits.specs.Places as f
use Rattle.fit_state.specs.Infos.{info_of}
use Rattle.fit_state.proofs.InfosLemmas.{infos_none, infos_step}
use Rattle.fit_state.proofs.infos.arg_infos.Goals as goal

pub returns-in-None : goal.returns-in-None
returns-in-None c = λ R s h. sym (infos_none s.entries c.args.args.now c.each.arg-index _ c.each.infos c.each-test.true (c.each.invariant R s h) (ap (option_map info_of) (sym c.in-None.is) ∙ c.in_ok-info.ensures R s h))

pub each-preserved : goal.each-preserved
each-preserved c = λ R s h. infos_step s.entries c.args.args.now c.each.arg-index _ c.each.infos c.push.new.self c.in-Some.info c.each-test.true (c.each.invariant R s h) (ap (option_map info_of) (sym c.in-Some.is) ∙ c.in_ok-info.ensures R s h) c.in_ok-push-in-Some.ensures.ok

pub returns : goal.returns
returns c = λ R s h. sym (c.each.invariant R s h) ∙ ap (f.arg_infos s.entries) (take_all c.each.arg-index c.args.args.now (omega arith))
