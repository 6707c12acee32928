use Rattle.std.proofs.Common.{refl}
use Rattle.op_texts.proofs.LinesLemmas.{is_text}
use Rattle.op_texts.proofs.bits.bits_pick.Goals as goal

pub returns : goal.returns
returns c = is_text _ _ _ refl c.procedure.ensures
