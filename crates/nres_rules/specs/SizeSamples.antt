-- The sizes of small specifications.
use Rattle.std.specs.Prelude.{◌≡◌, [], ◌∷◌, codes}
use Rattle.nres_rules.specs.FlatSamples.{sum_block}
use Rattle.nres_core.specs.Samples.{first_tree}
use Rattle.nres_core.specs.Sizes.{size_of, blk_size, nesting_of, blk_nesting}
use Rattle.nres_core.specs.Tree as t
use Rattle.nres_core.specs.Tree.{Blk, Word}
use Rattle.nres_rules.specs.TypeSamples.{at, named, var, returning, wrong_loop}

-- x <- split xs at n left u return u right v return v end, return x
abbrev pub two_parts : Blk Word
two_parts = returning
    (t.Bind (named 1 (codes "x") ∷ []) (at 1)
    (t.Split (at 6) (named 12 (codes "xs")) (var 18 (codes "n"))
    (named 25 (codes "u")) (returning t.No_step (var 34 (codes "u")))
    (named 42 (codes "v")) (returning t.No_step (var 51 (codes "v")))) t.No_step)
    (var 60 (codes "x"))

pub record Seen : Type 0 where
  -- `first`: a parameter, what is shown, a block, a step, its name, and four expressions
  pub first_size : size_of first_tree ≡ 9
  pub first_nesting : nesting_of first_tree ≡ 1
  -- x <- while z from 0 if z do return true end, return x: two blocks, a step, two names, and four expressions
  pub loop_size : blk_size wrong_loop ≡ 9
  pub loop_nesting : blk_nesting wrong_loop ≡ 2
  -- t <- foreach x in s (a) from 0 do return a + x end, return t: two blocks, a step, three names, and five expressions
  pub each_size : blk_size sum_block ≡ 11
  pub each_nesting : blk_nesting sum_block ≡ 2
  -- three blocks, a step, three names, and four expressions
  pub split_size : blk_size two_parts ≡ 11
  pub split_nesting : blk_nesting two_parts ≡ 2
