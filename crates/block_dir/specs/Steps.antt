-- What each kind of step tells its caller: the number `r` that it found, and the seat's view after it.
use Rattle.std.specs.Prelude.{◌≡◌, ◌≢◌, ℕ, ◌+◌, ◌*◌, ◌/◌, ◌<◌, ◌≤◌}
use mathlib.Core.Option.{some}
use Rattle.atomic_table.specs.Table.{Me, Step}
use Rattle.block_dir.specs.declared.view.View.{View}
use Rattle.block_dir.specs.declared.mark.Mark.{Mark}
use Rattle.block_dir.specs.Rule.{Kept, AtomicStep}
use Rattle.block_dir.specs.Views.{whole, cell_of, share_of, walked, won, released, written, marked, Sound}

-- a seat's view, and the slots that it carries, which are none
abbrev Sat : Type 0
Sat = Me Mark View

-- a claim at the word that is the seat's position: won, or lost to a block whose header tells the next place
abbrev pub claimed : Step Mark → Sat → ℕ → Sat → Type 0
claimed st m r m' =
    (r ≡ 0 → (n : ℕ) → st.second ≡ 2 * n + 2 → (m'.0 ≡ won st.word n m.0) × AtomicStep m.0 (won st.word n m.0) st.word 0 (2 * n + 2))
    × (r ≢ 0 → (0 < r / 2) × (m'.0 ≡ walked (st.word + r / 2) m.0) × (st.word + r / 2 ≤ m.0.room + 1))

-- a release: the header that the seat knows becomes odd
abbrev pub freed : Step Mark → Sat → ℕ → Sat → Type 0
freed st m r m' = (n : ℕ) → (cell_of st.word m.0).value ≡ 2 * n + 2 → (m'.0 ≡ released st.word n m.0) × (0 < m.0.weight → AtomicStep m.0 (released st.word n m.0) st.word (2 * n + 2) (2 * n + 3))

-- a read: the word is what the view says
abbrev pub loaded : Step Mark → Sat → ℕ → Sat → Type 0
loaded st m r m' = (r ≡ (cell_of st.word m.0).value) × (m'.0 ≡ m.0) × (0 < m.0.weight → AtomicStep m.0 m.0 st.word r r)

-- a write: the word becomes r
abbrev pub stored : Step Mark → Sat → ℕ → Sat → Type 0
stored st m r m' = (m'.0 ≡ written st.word r m.0) × (0 < m.0.weight → AtomicStep m.0 (written st.word r m.0) st.word (cell_of st.word m.0).value r)

-- the seat has the name and all words of the block b, of length n, whole
pub record IsWhole (v : View) (b n : ℕ) : Type 0 where
  pub header : (cell_of b v).value ≡ 2 * n + 2
  pub name : (cell_of b v).home ≡ b
  pub all : (p : ℕ) → b ≤ p → p ≤ b + n → share_of p v ≡ whole

-- the seat has the place p whole, and it is a word and no header
pub record IsOwn (v : View) (p : ℕ) : Type 0 where
  pub word : (cell_of p v).home ≢ p
  pub all : share_of p v ≡ whole

-- the part that the next split hands on is marked in the view
abbrev pub marking : Step Mark → Sat → ℕ → Sat → Type 0
marking st m r m' = (x : Mark) → st.said ≡ some x → m'.0 ≡ marked x.part x.half m.0

-- a look at a word, which leaves the view
abbrev pub looked : Step Mark → Sat → ℕ → Sat → Type 0
looked st m r m' = m'.0 ≡ m.0

-- Each step of a seat with a weight tells that the seat is sound, and that its view is one that the rule allows.
abbrev pub sounding : (Step Mark → Sat → ℕ → Sat → Type 0) → Step Mark → Sat → ℕ → Sat → Type 0
sounding then st m r m' = then st m r m' × (m'.1 ≡ m.1) × (0 < m'.0.weight → Sound m'.0 × Kept m'.0)
