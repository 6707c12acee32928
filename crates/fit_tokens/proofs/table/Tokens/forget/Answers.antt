use Rattle.std.proofs.Common.{◌∙◌, ap, sym, drop, [], ◌≡◌, length, arith}
use Rattle.std.proofs.lemmas.List.{drop_all}
use Rattle.fit_tokens.specs.Changes.{toks}
use Rattle.fit_tokens.proofs.ChangesLemmas.{forgotten, forgotten_is, forget_step}
use Rattle.fit_tokens.proofs.table.Tokens.forget.Goals as goal

pub each-preserved : goal.each-preserved
each-preserved c = record {
  tokens = forget_step (toks c.args.self.now) c.args.regs.now c.each.reg-index c.each.self c.set.new.self c.each-test.true c.each.invariant.tokens c.in_ok-set.ensures.ok;
  saved = ap (λ x. x.saved) c.in_ok-set.ensures.ok ∙ c.each.invariant.saved;
}

pub returns-clause-ok : goal.returns-clause-ok
returns-clause-ok c = λ r.
    ap (λ f. f r) (sym (c.each.invariant.tokens ∙ ap (forgotten (toks c.each.self)) (drop_all c.each.reg-index c.args.regs.now (omega arith))))
    ∙ forgotten_is c.args.regs.now (toks c.args.self.now) r
