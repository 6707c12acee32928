use Rattle.block_dir.proofs.Laws.{share_rejoined, value_rejoined, home_rejoined, whole_rejoined}
use Rattle.block_dir.proofs.law.split_and_join_give_all_back.Goals as goal

pub returns-clause-shares : goal.returns-clause-shares
returns-clause-shares c = share_rejoined

pub returns-clause-words : goal.returns-clause-words
returns-clause-words c hands lends v p = (value_rejoined hands lends v p, home_rejoined hands lends v p)

pub returns-clause-whole : goal.returns-clause-whole
returns-clause-whole c = whole_rejoined
