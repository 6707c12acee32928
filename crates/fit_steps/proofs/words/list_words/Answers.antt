use Rattle.std.proofs.Common.{◌<◌, ◌≤◌, ◌++◌, ◌∙◌, ap, min, length, arith, drop}
use Rattle.fit_state.specs.Infos.{infos_of, lists_of}
use Rattle.fits.specs.Follow.{list_words}
use Rattle.fit_steps.proofs.WordsLemmas.{list_step, lists_past, ends}
use Rattle.fit_steps.specs.Parts.{list_one}
use Rattle.fit_tokens.specs.Changes.{tokens_of}
use Rattle.fit_steps.proofs.words.list_words.Goals as goal

pub each-preserved : goal.each-preserved
each-preserved c =
    let h : c.each.index < length c.args.params.now = omega arith in
    let k : c.each.index < length c.args.infos.now = omega arith in
    list_step c.args.params.now c.args.infos.now c.each.index c.index-params-index.result c.index-infos-index.result (lists_of c.each.lists) (lists_of c.list_one.new.lists) (list_words c.args.params.now (infos_of c.args.infos.now)) h k
    c.index-params-index.is (c.in_ok-list_one.ensures ∙ ap (λ x. lists_of c.each.lists ++ list_one c.index-params-index.result (tokens_of x.words)) c.index-infos-index.is) c.each.invariant

pub returns : goal.returns
returns c =
    let h : min (length c.args.params.now) (length c.args.infos.now) ≤ c.each.index = omega arith in
    ends (lists_of c.each.lists) (list_words (drop c.each.index c.args.params.now) (infos_of (drop c.each.index c.args.infos.now))) (list_words c.args.params.now (infos_of c.args.infos.now))
    (lists_past c.args.params.now c.args.infos.now c.each.index h) c.each.invariant
