-- The rule point by point, in plainer words. It follows from `Ruled`.
use Rattle.std.specs.Prelude.{◌≡◌, ◌≢◌, ℕ, ◌+◌, ◌*◌, ◌<◌, ◌≤◌, [], slice_index}
use mathlib.Core.Option.{some}
use lib.ListN.{get_elem?}
use Rattle.atomic_table.specs.Table.{State}
use Rattle.block_dir.specs.declared.view.View.{View}
use Rattle.block_dir.specs.declared.mark.Mark.{Mark}
use Rattle.block_dir.specs.Views.{whole, cell_of, share_of, sum_of, is_named}
use Rattle.block_dir.specs.Rule.{Chain, Walk, Has, Stop, Lies, over}

-- the seat j has the view v
abbrev pub Sits : State Mark View → ℕ → View → Type 0
Sits s j v = get_elem? s.views j ≡ some v

-- what the rule of a directory of `cap` words says of its words and of all views
pub record Meant (cap : ℕ) (s : State Mark View) : Type 0 where
  -- the walk starts at 1 and goes from header to header up to `end`, which is at most cap + 1; all words from there on
  -- are 0
  pub chain : Chain
  pub end : ℕ
  pub walk : Walk s.words 1 chain end
  pub within : end ≤ cap + 1
  pub clear : (p : ℕ) → end ≤ p → slice_index s.words p ≡ 0
  -- a position is a place of the walk, its end included
  pub positions : (j : ℕ) (v : View) → Sits s j v → Stop chain end v.position
  -- a name that a view holds is a place of the walk, with the even header of the length that the view knows
  pub names : (j : ℕ) (v : View) (b : ℕ) → Sits s j v → 0 < share_of b v → (cell_of b v).home ≡ b → (n : ℕ) × ((cell_of b v).value ≡ 2 * n + 2) × (slice_index s.words b ≡ 2 * n + 2) × Has chain b n
  -- a word that a view holds lies behind the header of a live block, within its length
  pub words : (j : ℕ) (v : View) (p : ℕ) → Sits s j v → 0 < share_of p v → (cell_of p v).home ≢ p → Lies s.words chain (cell_of p v).home p × ((cell_of p v).home < p)
  -- the shares that all views have of one name or word are at most the whole
  pub shares : (p : ℕ) → over (share_of p) s.views ≤ whole
  -- the word at a place that a view holds is the value that the view knows
  pub values : (j : ℕ) (v : View) (p : ℕ) → Sits s j v → 0 < share_of p v → slice_index s.words p ≡ (cell_of p v).value
  -- what a view holds lies below its position
  pub below : (j : ℕ) (v : View) (p : ℕ) → Sits s j v → 0 < share_of p v → p < v.position
  -- a drawn block is one of the walk, live or freed; each block of the walk was drawn, by one view alone, and stands
  -- there once
  pub drawn : (j : ℕ) (v : View) (b n : ℕ) → Sits s j v → Has v.drawn b n → Has chain b n
  pub drawn_by : (b n : ℕ) → Has chain b n → (j : ℕ) × (v : View) × Sits s j v × Has v.drawn b n
  pub drawn_once : (j i : ℕ) (v u : View) (b n m : ℕ) → Sits s j v → Sits s i u → Has v.drawn b n → Has u.drawn b m → j ≡ i
  pub drawn_there : (j : ℕ) (v : View) (b : ℕ) → Sits s j v → sum_of (is_named b) v.drawn ≤ 1
  -- the weights make the whole, and a view with none drew nothing
  pub weights : over (λ v. v.weight) s.views ≡ whole
  pub idle : (j : ℕ) (v : View) → Sits s j v → v.weight ≡ 0 → v.drawn ≡ []
