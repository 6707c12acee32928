-- Words that are slots, and the words of a block that may be there.
use Rattle.std.specs.Prelude.{◌≡◌, ℕ, ◌*◌, ◌≤◌, List, length, Option, Some, None}
use Rattle.std.specs.Borrow.{Bor}

-- so many slots of a width, a state, a key and perhaps a value
pub record IsSlots (w cap : ℕ) (ws : List ℕ) : Type 0 where
  pub size : length ws ≡ w * cap
  pub wide : 2 ≤ w
  pub narrow : w ≤ 3

-- the words of a block, where there is one
abbrev pub words_of : Option (Bor (List ℕ)) → Option (List ℕ)
words_of None = None
words_of (Some ws) = Some ws.now
