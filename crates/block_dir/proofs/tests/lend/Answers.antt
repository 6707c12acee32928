use Rattle.std.proofs.Common.{◌+◌, arith, [], ◌∷◌, None}
use Rattle.block_dir.specs.declared.Part.{Part}
use Rattle.block_dir.specs.Views.{part_start, part_count}
use Rattle.block_dir.specs.Calls.{view}
use Rattle.block_dir.proofs.Laws.{has_kept, has_handed, covers-one, in_range-in, owns_whole, whole_rejoined}
use Rattle.block_dir.proofs.tests.lend.Goals as goal

pub returns-clause-left : goal.returns-clause-left
returns-clause-left c =
    let b = c.args.block in let v = view c.args.seat.now in let u = c.args.seat.now.unmarked in let part : Part = record { block = b; span = None } in
    let own = owns_whole v b 2 1 c.args.seat.now.sound c.requires.whole (omega arith) in let all = own.share in let header = c.requires.whole.header in
    rw c.split.ensures.left (has_kept [] (part ∷ []) v b 1 u (omega arith) own.home (covers-one v part (b + 1 + 1) _ (in_range-in (part_start v part) (part_count v part) (b + 1 + 1) (omega arith) (omega arith))))

pub returns-clause-right : goal.returns-clause-right
returns-clause-right c =
    let b = c.args.block in let v = view c.args.seat.now in let u = c.args.seat.now.unmarked in let part : Part = record { block = b; span = None } in
    let own = owns_whole v b 2 1 c.args.seat.now.sound c.requires.whole (omega arith) in let all = own.share in let header = c.requires.whole.header in
    rw c.split.ensures.right (has_handed [] (part ∷ []) v b 1 u (omega arith) own.home (covers-one v part (b + 1 + 1) _ (in_range-in (part_start v part) (part_count v part) (b + 1 + 1) (omega arith) (omega arith))))

pub returns-clause-whole : goal.returns-clause-whole
returns-clause-whole c =
    let b = c.args.block in let v = view c.args.seat.now in let part : Part = record { block = b; span = None } in
    rw (c.split.ensures.left, c.split.ensures.right) (whole_rejoined [] (part ∷ []) v b 2 c.args.seat.now.unmarked c.requires.whole)
