use Rattle.std.proofs.Common.{List, ℕ, ◌+◌, sym, subst}
use Rattle.run_results.proofs.Held.{Begun, next_word, none_held}
use Rattle.run_results.proofs.block.held_words.Goals as goal

pub returns-in_default : goal.returns-in_default
returns-in_default g c = none_held (g.S.Store.kept c.args.store.now).top c.args.block c.whole_block.result c.whole_block.ensures c.in_default.is

pub loop-index-preserved : goal.loop-index-preserved
loop-index-preserved g c =
    let p = (g.S.Store.kept c.args.store.now).top in
    let i = c.loop-index.index in
    subst (λ (ws : List ℕ). Begun p c.args.block c.in-Some.len ws (i + 1)) (sym c.in_ok-push-in-Word.ensures.items)
    (next_word p c.args.block c.in-Some.len c.loop-index.words.items i c.in-Word.word c.in-Some.ensures c.loop-index-test.true c.in-Word.ensures c.loop-index.invariant)
