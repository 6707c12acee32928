-- How the code lends what it finds.
use Rattle.std.specs.Prelude.{◌≡◌, ℕ, ◌+◌, ◌≤◌, Bool, true, false, List, ◌++◌, length}
use Rattle.std.specs.List.{AllByRecursion}
use Rattle.replay.specs.declared.schedule.Move.{Move}
use Rattle.replay.specs.Schedules.{HasWord, schedule_text, most_lines}
use Rattle.std.specs.Prelude.{Option, Some, None}
use denote.Ref.{Bor}
use Rattle.target_meaning.specs.declared.answer.Reason.{Reason}
use Rattle.target_meaning.specs.declared.path.Side.{Side}
use Rattle.target_meaning.specs.declared.view.LeafView.{LeafView}
use Rattle.target_meaning.specs.declared.view.Next.{Next}
use Rattle.target_meaning.specs.declared.view.Next.TheVariants.{Read, Write, Free}

abbrev pub path_lent : Option (Bor (List Side)) → Option (List Side)
path_lent None = None
path_lent (Some p) = Some p.now

abbrev pub pair_lent : Option (Bor (List Side) × Bor (List Side)) → Option (List Side × List Side)
pair_lent None = None
pair_lent (Some p) = Some (p.0.now, p.1.now)

abbrev pub view_lent : Option (Bor LeafView × Reason) → Option (LeafView × Reason)
view_lent None = None
view_lent (Some p) = Some (p.0.now, p.1)

-- a leaf is next to touch a word or to free a block
abbrev pub can_race : Next → Bool
can_race (Read b i) = true
can_race (Write b i) = true
can_race (Free b) = true
can_race _ = false

-- the lines of these steps were taken from the front, and the rest is left
pub record Took (bytes : List ℕ) (steps : List Move) (rest : List ℕ) : Type 0 where
  pub words : AllByRecursion HasWord steps
  pub is : bytes ≡ schedule_text steps ++ rest
  pub few : length steps ≤ most_lines
  pub short : length steps + length rest ≤ length bytes
