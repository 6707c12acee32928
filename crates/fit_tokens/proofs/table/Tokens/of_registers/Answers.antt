use Rattle.std.proofs.Common.{◌≡◌, ◌∙◌, ℕ, suc, ap, sym, arith, take}
use Rattle.std.proofs.Math.Path.{fun_ext}
use Rattle.std.proofs.lemmas.List.{take_all}
use Rattle.fits.specs.Places.{arg_tokens}
use Rattle.fit_tokens.specs.Changes.{toks, with_change, change}
use Rattle.fit_tokens.proofs.ChangesLemmas.{args_step}
use Rattle.fit_tokens.proofs.table.Tokens.of_registers.Goals as goal

pub each-preserved : goal.each-preserved
each-preserved c = record {
  tokens = args_step (toks c.args.self.now) c.args.regs.now c.each.reg-index c.each.place c.each.tokens c.set.new.self c.each-test.true c.each.invariant.place c.each.invariant.tokens (c.in_ok-set.ensures.ok ∙ ap (λ o. with_change c.each.tokens (change c.each.place o)) c.get.ensures);
  saved = ap (λ x. x.saved) c.in_ok-set.ensures.ok ∙ c.each.invariant.saved;
  place = let e = c.in_ok-place.ensures in let p = c.each.invariant.place in omega arith;
}

pub returns : goal.returns
returns c = (fun_ext (λ r. c.each.invariant.tokens r ∙ ap (λ z. arg_tokens (toks c.args.self.now) z r) (take_all c.each.reg-index c.args.regs.now (omega arith))), c.each.invariant.saved)
