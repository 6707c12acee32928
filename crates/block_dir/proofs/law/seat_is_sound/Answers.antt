use Rattle.std.proofs.Common.{◌≡◌, ap, arith}
use Rattle.atomic_table.specs.Seated.{TableId}
use Rattle.block_dir.specs.Calls.{view}
use Rattle.block_dir.proofs.Laws.{owns_whole, length_of-held}
use Rattle.block_dir.proofs.law.seat_is_sound.Goals as goal

pub returns-clause-length : goal.returns-clause-length
returns-clause-length c b h home =
    let s = c.args.seat.now in
    let d = c.args.directory.now in
    let k = length_of-held (view s) b s.sound h home in
    let words : s.seat.table_id.words ≡ d.table.shared.table_id.words = ap (λ (z : TableId). z.words) c.requires in
    let roomy = s.roomy in let sized = d.sized in let up = k.2 in (k.0, k.1, omega arith)

pub returns-clause-whole : goal.returns-clause-whole
returns-clause-whole c b n i whole lt = owns_whole (view c.args.seat.now) b n i c.args.seat.now.sound whole lt
