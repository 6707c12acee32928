use Rattle.block_dir.proofs.Laws.{value_kept, home_kept, value_handed, home_handed}
use Rattle.block_dir.proofs.law.split_keeps_values.Goals as goal

pub returns-clause-left : goal.returns-clause-left
returns-clause-left c hands lends v p = (value_kept hands lends v p, home_kept hands lends v p)

pub returns-clause-right : goal.returns-clause-right
returns-clause-right c hands lends v p = (value_handed hands lends v p, home_handed hands lends v p)
