-- The text of a schedule: a line for each step.
use Rattle.std.specs.Prelude.{◌≡◌, ℕ, ◌+◌, ◌<◌, ◌≤◌, ◌^◌, ◌⊎◌, List, [], ◌∷◌, ◌++◌, length, map, codes, decimal}
use Rattle.std.specs.List.{flat_map, AllByRecursion}
use Rattle.target_meaning.specs.declared.path.Side.{Side}
use Rattle.target_meaning.specs.declared.path.Side.TheVariants.{Left, Right}
use Rattle.replay.specs.declared.schedule.Move.{Move}

-- the letter of a side
abbrev pub letter : Side → ℕ
letter Left = 76
letter Right = 82

-- a path: `-` at the root, else a letter for each side from the root on
abbrev pub path_text : List Side → List ℕ
path_text [] = codes "-"
path_text (d ∷ ds) = map letter (d ∷ ds)

-- the line of a step, with its line feed
abbrev pub move_text : Move → List ℕ
move_text m = codes "at " ++ (path_text m.path ++ (codes " " ++ (decimal m.name ++ 10 ∷ [])))

-- the lines of a schedule
unfoldable pub schedule_text : List Move → List ℕ
schedule_text ms = flat_map move_text ms

-- a name is a word
abbrev pub HasWord : Move → Type 0
HasWord m = m.name < 2 ^ 64

-- a text does not begin with the line of a step
abbrev pub IsNoMove : List ℕ → Type 0
IsNoMove bytes = (m : Move) (more : List ℕ) → HasWord m → bytes ≡ move_text m ++ more → ⊥

-- how many lines a schedule has at most
abbrev pub most_lines : ℕ
most_lines = 20000

-- the first line that is none or is one too many, where the first of all has this number
pub record RefusedAt (bytes : List ℕ) (first line : ℕ) : Type 0 where
  pub before : List Move
  pub words : AllByRecursion HasWord before
  pub rest : List ℕ
  pub is : bytes ≡ schedule_text before ++ rest
  pub some : rest ≡ [] → ⊥
  pub few : length before ≤ most_lines
  pub none : (length before ≡ most_lines) ⊎ IsNoMove rest
  pub number : line ≡ first + length before
