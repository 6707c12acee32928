use Rattle.std.proofs.Common.{◌≡◌, ℕ, ◌+◌, arith, subst}
use Rattle.plain_store.proofs.Cleared.{ClearedTo, clear_piece, cleared_all, cleared_next}
use Rattle.plain_store.proofs.cells.give_up.Goals as goal

pub loop-at-preserved : goal.loop-at-preserved
loop-at-preserved c =
    let lo = c.loop-at.auto.at in let hi = c.loop-at-test.true in
    cleared_next c.args.cells.now c.loop-at.cells c.clear.new.cells c.args.border c.args.block c.args.len c.loop-at.at c.requires.held c.requires.name lo (omega (arith, hi)) c.clear.ensures c.loop-at.invariant

pub returns-clause-piece : goal.returns-clause-piece
returns-clause-piece c =
    let old = c.args.cells.now in let new = c.loop-at.cells in
    let b : ℕ = c.args.block in let n : ℕ = c.args.len in
    let done = c.loop-at-test.false in let end = c.loop-at.auto.at-end in
    let e : c.loop-at.at ≡ b + n + 1 = grind (arith, done, end) in
    clear_piece old new c.args.border b n c.requires.placed c.requires.name (cleared_all old new c.args.border b n (subst (λ k. ClearedTo old new c.args.border b n k) e c.loop-at.invariant))
