use Rattle.layout_facts.proofs.Facts.{one_block, own, can_free, freed}
use Rattle.layout_facts.proofs.laws.containers_are_blocks.Goals as goal

pub returns : goal.returns
returns c = record {
  one = one_block;
  owned = λ regs p o w. record { same = own regs p o w; can_free = can_free regs p o w; freed = freed regs p o w };
}
