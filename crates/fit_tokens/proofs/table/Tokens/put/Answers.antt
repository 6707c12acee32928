use Rattle.std.proofs.Common.{◌∙◌, ap, arith}
use Rattle.fit_tokens.specs.Changes.{toks}
use Rattle.fit_tokens.proofs.ChangesLemmas.{put_step, put_done}
use Rattle.fit_tokens.proofs.table.Tokens.put.Goals as goal

pub each-preserved : goal.each-preserved
each-preserved c = record {
  tokens = put_step (toks c.args.self.now) c.args.regs.now c.args.words.now c.each.index _ c.each.self c.set.new.self (omega arith) (omega arith) c.each.invariant.tokens c.in_ok-set.ensures.ok;
  saved = ap (λ x. x.saved) c.in_ok-set.ensures.ok ∙ c.each.invariant.saved;
}

pub returns-clause-ok : goal.returns-clause-ok
returns-clause-ok c = put_done (toks c.args.self.now) (toks c.each.self) c.args.regs.now c.args.words.now c.each.index (omega arith) c.each.invariant.tokens
