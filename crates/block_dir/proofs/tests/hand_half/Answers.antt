use Rattle.std.proofs.Common.{◌+◌, ◌∙◌, refl, ap, arith, [], ◌∷◌, Some}
use Rattle.block_dir.specs.declared.Part.{Part}
use Rattle.block_dir.specs.declared.view.View.{View}
use Rattle.block_dir.specs.Views.{cell_of}
use Rattle.block_dir.specs.Calls.{view}
use Rattle.block_dir.proofs.Laws.{owns_kept, owns_handed, covers-one, in_range-in, in_range-before, home_kept, home_handed}
use Rattle.block_dir.proofs.tests.hand_half.Goals as goal

pub returns-clause-left : goal.returns-clause-left
returns-clause-left c =
    let b = c.args.block in let v = view c.args.seat.now in let u = c.args.seat.now.unmarked in let hand : Part = record { block = b; span = Some (2, 2) } in (
      rw c.split.ensures.left (owns_kept (hand ∷ []) [] v b 0 u (c.requires.owned 0 (omega arith)) refl (covers-one v hand (b + 1 + 0) _ (in_range-before (b + 1 + 2) 2 (b + 1 + 0) (omega arith)))),
      rw c.split.ensures.left (owns_kept (hand ∷ []) [] v b 1 u (c.requires.owned 1 (omega arith)) refl (covers-one v hand (b + 1 + 1) _ (in_range-before (b + 1 + 2) 2 (b + 1 + 1) (omega arith)))),
    )

pub returns-clause-right : goal.returns-clause-right
returns-clause-right c =
    let b = c.args.block in let v = view c.args.seat.now in let u = c.args.seat.now.unmarked in let hand : Part = record { block = b; span = Some (2, 2) } in (
      rw c.split.ensures.right (owns_handed (hand ∷ []) [] v b 2 u (c.requires.owned 2 (omega arith)) refl (covers-one v hand (b + 1 + 2) _ (in_range-in (b + 1 + 2) 2 (b + 1 + 2) (omega arith) (omega arith)))),
      rw c.split.ensures.right (owns_handed (hand ∷ []) [] v b 3 u (c.requires.owned 3 (omega arith)) refl (covers-one v hand (b + 1 + 3) _ (in_range-in (b + 1 + 2) 2 (b + 1 + 3) (omega arith) (omega arith)))),
    )

pub returns-clause-shares : goal.returns-clause-shares
returns-clause-shares c i lt = (c.split.ensures.shares (c.args.block + 1 + i)).1 ∙ (c.requires.owned i lt).share

pub returns-clause-homes : goal.returns-clause-homes
returns-clause-homes c i lt =
    let p = c.args.block + 1 + i in let home = (c.requires.owned i lt).home in (
      ap (λ (x : View). (cell_of p x).home) c.split.ensures.left ∙ (home_kept _ _ _ p ∙ home),
      ap (λ (x : View). (cell_of p x).home) c.split.ensures.right ∙ (home_handed _ _ _ p ∙ home),
    )
