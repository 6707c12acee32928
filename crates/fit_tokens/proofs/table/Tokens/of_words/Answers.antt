use Rattle.std.proofs.Common.{◌≡◌, ◌∙◌, ℕ, suc, ap, sym, arith, take}
use Rattle.std.proofs.Math.Path.{fun_ext}
use Rattle.std.proofs.lemmas.List.{take_all}
use Rattle.fits.specs.Follow.{nth_token}
use Rattle.fit_tokens.specs.Changes.{toks, tokens_of}
use Rattle.fit_tokens.proofs.ChangesLemmas.{words_step}
use Rattle.fit_tokens.proofs.table.Tokens.of_words.Goals as goal

pub each-preserved : goal.each-preserved
each-preserved c = record {
  tokens = words_step c.args.words.now c.each.word-index c.each.reg _ c.each.tokens c.set.new.self c.each-test.true c.each.invariant.place c.each.invariant.tokens c.in_ok-set.ensures.ok;
  saved = ap (λ x. x.saved) c.in_ok-set.ensures.ok ∙ c.each.invariant.saved;
  place = let e = c.in_ok-reg.ensures in let p = c.each.invariant.place in omega arith;
}

pub returns : goal.returns
returns c = (fun_ext (λ r. c.each.invariant.tokens r ∙ ap (λ z. nth_token r (tokens_of z)) (take_all c.each.word-index c.args.words.now (omega arith))), c.each.invariant.saved)
