use Rattle.triple_logic.proofs.Blocks.{apart, own_at, own_set, own_free, own_new}
use Rattle.triple_logic.proofs.Ranges.{range_at, range_set, block_parts}
use Rattle.triple_logic.proofs.laws.blocks.Goals as goal

pub returns : goal.returns
returns c = record {
  apart = apart;
  word = own_at;
  store = own_set;
  release = own_free;
  claim = own_new;
  range_word = range_at;
  range_store = range_set;
  parts = block_parts;
}
