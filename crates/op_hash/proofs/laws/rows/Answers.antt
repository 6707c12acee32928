use Rattle.op_hash.proofs.HmapRows.{hmap_rows}
use Rattle.op_hash.proofs.HsetRows.{hset_rows}
use Rattle.op_hash.proofs.laws.rows.Goals as goal

pub returns : goal.returns
returns c = record { sets = hset_rows; maps = hmap_rows }
