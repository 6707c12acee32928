use Rattle.layout_facts.proofs.Contents.{block_reads, block_is}
use Rattle.layout_facts.proofs.Ranges.{to_slice, from_slice, exact_proper}
use Rattle.relations.specs.Blocks.{range}
use Rattle.layout_facts.proofs.laws.blocks_agree.Goals as goal

pub returns : goal.returns
returns c = record {
  blocks = record { read = block_reads; whole = block_is };
  ranges = λ b off xs p. (λ e. (to_slice b off xs p e, exact_proper (range b off xs) p e), λ s. from_slice b off xs p s.0 s.1);
}
