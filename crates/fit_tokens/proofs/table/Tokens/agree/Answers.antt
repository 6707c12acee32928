use Rattle.std.proofs.Common.{◌∙◌, ap, sym, refl}
use Rattle.fit_tokens.specs.Changes.{toks}
use Rattle.fit_tokens.proofs.MeetingLemmas.{agree_step}
use Rattle.fit_tokens.proofs.table.Tokens.agree.Goals as goal

pub each-preserved : goal.each-preserved
each-preserved c = record {
  tokens = agree_step (toks c.args.self.now) c.args.others.now c.each.other-index _ _ _ c.each.self c.set.new.self c.each-test.true c.each.invariant.tokens c.get.ensures c.both_tokens-both.ensures c.in_ok-set.ensures.ok;
  saved = ap (λ x. x.saved) c.in_ok-set.ensures.ok ∙ c.each.invariant.saved;
}
