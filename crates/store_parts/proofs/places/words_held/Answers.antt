use Rattle.std.proofs.lemmas.Grind.{common_steps}
use Rattle.std.proofs.Common.{◌≡◌, ℕ, suc, ◌+◌, arith}
use Rattle.std.specs.Option.{option_copied}
use Rattle.target_meaning.specs.Piece.{share_of}
use Rattle.store_parts.specs.Tests.{piece_after}
use Rattle.store_parts.proofs.Steps.{word_fails}
use Rattle.store_parts.proofs.places.words_held.Goals as goal

pub returns-then-not-can_give : goal.returns-then-not-can_give
returns-then-not-can_give g c =
    let i : c.in-Some.index ≡ c.args.span.0 + c.words.made = grind (arith, common_steps, c.in-Some.ensures) in
    let p : c.in-Some-checked_add.place ≡ c.in-Some.index + 1 = grind (arith, common_steps, c.in-Some-checked_add.ensures) in
    word_fails c.args.all (piece_after (option_copied c.args.left) (g.H.Holding.piece c.args.holding.now)) c.args.block c.args.span.0 c.args.span.1 c.words.made c.in-Some-checked_add.place (share_of c.held_after.result.value c.held_after.result.amount) c.words-test.true (omega arith) c.held_after.ensures.held c.if-not-can_give.ensures
