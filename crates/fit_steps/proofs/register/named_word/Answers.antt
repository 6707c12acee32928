use Rattle.std.proofs.Common.{◌∙◌, ap, sym}
use Rattle.std.specs.Prelude.{option_map}
use Rattle.fit_state.specs.Infos.{infos_of}
use Rattle.fit_tokens.specs.Changes.{token_of}
use Rattle.fit_steps.proofs.GoingLemmas.{some_fails, some_not}
use Rattle.fit_steps.proofs.RegisterLemmas.{outs_none, outs_many, outs_early}
use Rattle.fits.specs.Follow.{nth_word}
use Rattle.fit_steps.proofs.register.named_word.Goals as goal

pub returns-in_default : goal.returns-in_default
returns-in_default c = λ ls k. some_fails (nth_word c.args.index (infos_of c.args.applying.now.infos.now)) ls _ (λ w. outs_none c.args.applying.now.operation.outs.now ls _ c.in_default.len_below)

pub returns-in_default-2 : goal.returns-in_default-2
returns-in_default-2 c = λ ls k. some_fails (nth_word c.args.index (infos_of c.args.applying.now.infos.now)) ls _ (λ w. outs_early c.args.applying.now.operation.outs.now ls c.args.next c.from.result (k w) c.in-Some-len1.len_at_least c.in-Some-len1.len_below c.from.ensures c.if-from-next.false)

pub returns-in_default-3 : goal.returns-in_default-3
returns-in_default-3 c = λ ls k. some_fails (nth_word c.args.index (infos_of c.args.applying.now.infos.now)) ls _ (λ w. outs_many c.args.applying.now.operation.outs.now ls _ c.in_default.len_at_least)

pub returns-in_default-4 : goal.returns-in_default-4
returns-in_default-4 c = λ ls k. some_not (nth_word c.args.index (infos_of c.args.applying.now.infos.now)) ls _ (sym c.nth_word.ensures ∙ ap (option_map token_of) c.in_default.is-0)
