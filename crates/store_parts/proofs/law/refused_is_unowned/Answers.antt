use Rattle.store_parts.proofs.Refused.{refused_unowned}
use Rattle.store_parts.proofs.law.refused_is_unowned.Goals as goal

pub returns : goal.returns
returns c = refused_unowned
