-- What a store in a flat memory is seen as.
use Rattle.std.specs.Prelude.{ℕ, ◌-◌, [], length}
use Rattle.branch_exec.specs.Stores.{Kept}
use Rattle.plain_store.specs.Cells.{top_of, blocks_of, no_place}
use Rattle.plain_store.specs.Levels.{levels}
use Rattle.plain_store.specs.declared.memory.PlainStore.{PlainStore}
use Rattle.target_meaning.specs.Piece.{none}

abbrev pub kept_of : PlainStore → Kept
kept_of s = record {
  below = levels s.cells.items s.forks.items [];
  top = top_of s.cells.items s.border;
  drawn = blocks_of s.drawn.items;
  walked = length s.cells.items - 1;
  cap = s.cap;
  place = no_place;
  weight = 0;
}

-- nothing is held yet
abbrev pub empty : ℕ → Kept
empty cap = record { below = []; top = none; drawn = []; walked = 0; cap = cap; place = no_place; weight = 0 }
