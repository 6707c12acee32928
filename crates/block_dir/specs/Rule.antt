-- The rule of the directory. It holds of the words and of all views between any two atomic steps of any seats.
use Rattle.std.specs.Prelude.{◌≡◌, ℕ, ◌+◌, ◌*◌, ◌/◌, ◌%◌, ◌<◌, ◌≤◌, ◌⊎◌, List, [], ◌∷◌, length, slice_index, slice_set}
use mathlib.Core.Option.{some}
use lib.ListN.{get_elem?}
use Rattle.atomic_table.specs.Table.{State}
use Rattle.block_dir.specs.declared.view.Cell.{Cell}
use Rattle.block_dir.specs.declared.view.View.{View}
use Rattle.block_dir.specs.declared.mark.Mark.{Mark}
use Rattle.block_dir.specs.Views.{whole, cell_of, share_of, sum_of}

-- the blocks of the walk in their order, live and freed: the place of each header, and the length
abbrev pub Chain : Type 0
Chain = List (ℕ × ℕ)

-- From q the blocks of the chain follow one another, each by its place and length, up to e. A header is 2·len + 2, or
-- 2·len + 3 once freed.
abbrev pub Walk : List ℕ → ℕ → Chain → ℕ → Type 0
Walk ws q [] e = q ≡ e
Walk ws q (x ∷ xs) e = (x.0 ≡ q) × (slice_index ws q / 2 ≡ x.1 + 1) × Walk ws (q + x.1 + 1) xs e

-- the list has the block b of length n
abbrev pub Has : Chain → ℕ → ℕ → Type 0
Has [] b n = ⊥
Has (x ∷ xs) b n = ((x.0 ≡ b) × (x.1 ≡ n)) ⊎ Has xs b n

-- a place of the walk, its end included
abbrev pub Stop : Chain → ℕ → ℕ → Type 0
Stop chain e q = (q ≡ e) ⊎ ((n : ℕ) × Has chain q n)

-- p is the header of the live block b or lies behind it, within its length
abbrev pub Lies : List ℕ → Chain → ℕ → ℕ → Type 0
Lies ws chain b p = (n : ℕ) × Has chain b n × (slice_index ws b % 2 ≡ 0) × (b ≤ p) × (p ≤ b + n)

-- the sum over all views
abbrev pub over : (View → ℕ) → List View → ℕ
over f [] = 0
over f (v ∷ vs) = f v + over f vs

-- what the rule says of a cell of which a view at q has a share
pub record Holds (ws : List ℕ) (chain : Chain) (q p : ℕ) (c : Cell) : Type 0 where
  pub lies : Lies ws chain c.home p
  pub value : slice_index ws p ≡ c.value
  pub below : p < q

-- what the rule says of one view
pub record Fits (cap : ℕ) (ws : List ℕ) (chain : Chain) (e : ℕ) (v : View) : Type 0 where
  pub stop : Stop chain e v.position
  pub cells : (p : ℕ) → 0 < share_of p v → Holds ws chain v.position p (cell_of p v)
  pub idle : v.weight ≡ 0 → v.drawn ≡ []
  pub room : 0 < v.weight → v.room ≡ cap

-- the rule of a directory of `cap` words: where the walk ends, that all is 0 behind it, what each view may say, and
-- three sums over all views
pub record Ruled (cap : ℕ) (s : State Mark View) : Type 0 where
  pub chain : Chain
  pub end : ℕ
  pub wide : length s.words ≡ cap + 1
  pub walk : Walk s.words 1 chain end
  pub within : end ≤ cap + 1
  pub clear : (p : ℕ) → end ≤ p → slice_index s.words p ≡ 0
  pub each : (j : ℕ) (v : View) → get_elem? s.views j ≡ some v → Fits cap s.words chain end v
  pub shares : (p : ℕ) → over (share_of p) s.views ≤ whole
  -- the lists of drawn blocks have each block of the chain once: every sum over them is the chain's
  pub drawn : (f : ℕ × ℕ → ℕ) → over (λ v. sum_of f v.drawn) s.views ≡ sum_of f chain
  pub weights : over (λ v. v.weight) s.views ≡ whole

-- the rule held of a state in which a seat had this view
pub record Kept (v : View) : Type 0 where
  pub state : State Mark View
  pub id : ℕ
  pub ruled : Ruled v.room state
  pub seen : get_elem? state.views id ≡ some v

-- One atomic step of a seat. In a state that meets the rule the word at p goes from x to y and the view of the seat
-- from v to w; all else stays, and the state after meets the rule too.
pub record AtomicStep (v w : View) (p x y : ℕ) : Type 0 where
  pub before : State Mark View
  pub id : ℕ
  pub seat : get_elem? before.views id ≡ some v
  pub word : slice_index before.words p ≡ x
  pub ruled : Ruled v.room before
  pub ruled_after : Ruled w.room record { words = slice_set before.words p y; homes = before.homes; views = slice_set before.views id w }

-- from the place b on all words are 0, and no seat, not even one that is gone, holds or ever drew anything there
pub record IsUnused (s : State Mark View) (b : ℕ) : Type 0 where
  pub words : (p : ℕ) → b ≤ p → slice_index s.words p ≡ 0
  pub shares : (j : ℕ) (v : View) (p : ℕ) → get_elem? s.views j ≡ some v → b ≤ p → share_of p v ≡ 0
  pub drawn : (j : ℕ) (v : View) (d n : ℕ) → get_elem? s.views j ≡ some v → Has v.drawn d n → d + n < b

-- the step that wins the block b of length n: a 0 becomes its header, and nobody had the name or a word of it
pub record Wins (v w : View) (b n : ℕ) : Type 0 where
  pub step : AtomicStep v w b 0 (2 * n + 2)
  pub unused : IsUnused step.before b
