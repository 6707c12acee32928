use Rattle.std.proofs.Common.{◌<◌, ◌≤◌, min, length, arith, drop}
use Rattle.fit_state.specs.Infos.{lists_of}
use Rattle.fits.specs.Follow.{result_words}
use Rattle.fit_steps.proofs.WordsLemmas.{word_step, words_past, ends}
use Rattle.fit_steps.proofs.words.each_words.Goals as goal

pub each-preserved : goal.each-preserved
each-preserved c =
    let h : c.each.index < length c.args.outs.now = omega arith in
    let k : c.each.index < length c.args.reps.now = omega arith in
    word_step c.args.outs.now c.args.reps.now c.each.index _ _ c.each.words c.push.new.self _ (lists_of c.each.left.now) (lists_of c.lists_after-left.result.now) (result_words c.args.outs.now c.args.reps.now (lists_of c.args.lists.now)) h k
    c.in_ok-push.ensures.ok c.in_ok-words_for.ensures c.lists_after-left.ensures c.each.invariant

pub returns : goal.returns
returns c =
    let h : min (length c.args.outs.now) (length c.args.reps.now) ≤ c.each.index = omega arith in
    ends (lists_of c.each.words) (result_words (drop c.each.index c.args.outs.now) (drop c.each.index c.args.reps.now) (lists_of c.each.left.now)) (result_words c.args.outs.now c.args.reps.now (lists_of c.args.lists.now))
    (words_past c.args.outs.now c.args.reps.now c.each.index (lists_of c.each.left.now) h) c.each.invariant
