use Rattle.layout_facts.proofs.Facts.{width_is, no_piece, kept_by, half_too, rest_too}
use Rattle.layout_facts.proofs.laws.shares_do_not_matter.Goals as goal

pub returns : goal.returns
returns c r x regs p h = record { wide = width_is r x regs p h; bare = no_piece r x regs p h; kept = kept_by r x regs p h; half = half_too r x regs p h; rest = rest_too r x regs p h }
