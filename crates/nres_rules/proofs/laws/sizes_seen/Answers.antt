use Rattle.std.proofs.Common.{◌+◌, max, refl, ap}
use Rattle.nres_core.proofs.FirstTree.{block_is}
use Rattle.nres_rules.proofs.laws.sizes_seen.Goals as goal
use Rattle.nres_core.specs.Sizes.{blk_size, blk_nesting}

pub returns : goal.returns
returns c = record {
  first_size = ap (λ b. 2 + blk_size b + 0) block_is;
  first_nesting = ap (λ b. max (blk_nesting b) 0) block_is;
  loop_size = refl;
  loop_nesting = refl;
  each_size = refl;
  each_nesting = refl;
  split_size = refl;
  split_nesting = refl;
}
