-- What is told of the leaves of a state: which race, which is stuck, and which would pass a limit of depth.
use Rattle.std.specs.Prelude.{ℕ, ◌+◌, Bool, true, false, ◌&&◌, ◌||◌, if◌then◌else◌, nat_eq, nat_lt, List, [], ◌∷◌, length}
use Rattle.std.specs.Prelude.{Option, Some, None}
use Rattle.target_meaning.specs.declared.answer.Reason.{Reason}
use Rattle.target_meaning.specs.declared.path.Side.{Side}
use Rattle.target_meaning.specs.declared.path.Side.TheVariants.{Left, Right}
use Rattle.target_meaning.specs.declared.view.LeafView.{LeafView}
use Rattle.target_meaning.specs.declared.view.Next.{Next}
use Rattle.target_meaning.specs.declared.view.Next.TheVariants.{Read, Write, Free, Stuck, Call, Fork}

-- two leaves race: both are next to touch one word, one of them by a store, or one is next to free a block that the other is next to touch or free
abbrev pub clash : Next → Next → Bool
clash (Read b i) (Write c j) = nat_eq b c && nat_eq i j
clash (Write b i) (Read c j) = nat_eq b c && nat_eq i j
clash (Write b i) (Write c j) = nat_eq b c && nat_eq i j
clash (Free b) (Read c j) = nat_eq b c
clash (Free b) (Write c j) = nat_eq b c
clash (Read b i) (Free c) = nat_eq b c
clash (Write b i) (Free c) = nat_eq b c
clash (Free b) (Free c) = nat_eq b c
clash _ _ = false

-- the leftmost leaf that races with this one
abbrev pub rival : Next → List LeafView → Option (List Side)
rival n [] = None
rival n (v ∷ vs) = if clash n v.next then Some v.path else rival n vs

-- a leaf with the one that races with it, else the other pair
abbrev pub paired : List Side → Option (List Side) → Option (List Side × List Side) → Option (List Side × List Side)
paired p None other = other
paired p (Some q) other = Some (p, q)

-- of the pairs that race, each with the left leaf first, the one whose first leaf is leftmost, and among these the one whose second leaf is
abbrev pub first_race : List LeafView → Option (List Side × List Side)
first_race [] = None
first_race (v ∷ vs) = paired v.path (rival v.next vs) (first_race vs)

-- a leaf that is stuck, with the reason, else the other one
abbrev pub stuck_or : LeafView → Next → Option (LeafView × Reason) → Option (LeafView × Reason)
stuck_or v (Stuck r) other = Some (v, r)
stuck_or v _ other = other

-- the leftmost stuck leaf, and why it is stuck
abbrev pub first_stuck : List LeafView → Option (LeafView × Reason)
first_stuck [] = None
first_stuck (v ∷ vs) = stuck_or v v.next (first_stuck vs)

-- how many frames a leaf may have, how many registers these may have together, and below how many forks it may lie
abbrev pub most_frames : ℕ
most_frames = 10000

abbrev pub most_registers : ℕ
most_registers = 16777216

abbrev pub most_forks : ℕ
most_forks = 64

-- a leaf with so many frames and registers, below so many forks, would pass a limit by doing this
abbrev pub passes : ℕ → ℕ → ℕ → Next → Bool
passes frames regs forks (Call more) = nat_lt most_frames (frames + 1) || nat_lt most_registers (regs + more)
passes frames regs forks Fork = nat_lt most_forks (forks + 1)
passes frames regs forks _ = false

abbrev pub same_side : Side → Side → Bool
same_side Left Left = true
same_side Right Right = true
same_side _ _ = false

abbrev pub same_path : List Side → List Side → Bool
same_path [] [] = true
same_path (d ∷ ds) (e ∷ es) = same_side d e && same_path ds es
same_path _ _ = false

-- the next step of the leaf at a path would pass a limit
abbrev pub passes_at : List Side → List LeafView → Bool
passes_at path [] = false
passes_at path (v ∷ vs) = same_path path v.path && passes v.frames v.regs (length path) v.next || passes_at path vs
