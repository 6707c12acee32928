use Rattle.block_dir.proofs.Laws.{share_joined, joined_own, joined_other, owns_joined}
use Rattle.block_dir.proofs.law.joined_shares_add_up.Goals as goal

pub returns-clause-shares : goal.returns-clause-shares
returns-clause-shares c = share_joined

pub returns-clause-own : goal.returns-clause-own
returns-clause-own c = joined_own

pub returns-clause-other : goal.returns-clause-other
returns-clause-other c = joined_other

pub returns-clause-whole : goal.returns-clause-whole
returns-clause-whole c = owns_joined
