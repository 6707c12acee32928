use Rattle.layout_facts.proofs.Facts.{lies_inside, can_hand, can_be_lent, lies_beside}
use Rattle.layout_facts.proofs.laws.containers_fill_their_parts.Goals as goal

pub returns : goal.returns
returns c r x regs p k h = record {
  inside = lies_inside r x regs p h k;
  handed = can_hand r x regs p h k;
  lent = can_be_lent r x regs p h k;
  beside = lies_beside r x regs p h k;
}
