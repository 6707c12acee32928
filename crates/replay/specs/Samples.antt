-- Small schedules, on which the definitions are checked.
use Rattle.std.specs.Prelude.{◌≡◌, ℕ, zero, suc, true, false, List, [], ◌∷◌, ◌++◌, codes, replicate}
use Rattle.std.specs.Prelude.{Option, Some, None}
use Rattle.target_code.specs.declared.tree.Instr.TheVariants.{Calc}
use Rattle.target_code.specs.declared.tree.Calc.TheVariants.{Div}
use Rattle.target_code.specs.declared.tree.Proc.{Proc}
use Rattle.target_meaning.specs.declared.answer.Reason.TheVariants.{Zero}
use Rattle.target_meaning.specs.declared.path.Side.{Side}
use Rattle.target_meaning.specs.declared.path.Side.TheVariants.{Left, Right}
use Rattle.target_meaning.specs.declared.view.LeafView.{LeafView}
use Rattle.target_meaning.specs.declared.view.Next.{Next}
use Rattle.target_meaning.specs.declared.view.Next.TheVariants as next
use Rattle.target_meaning.specs.Runs.{Schedule}
use Rattle.target_meaning.specs.Samples.{proc_of, reading, racing, one_each, at_root}
use Rattle.target_meaning.specs.States.{MachineState, first_state}
use Rattle.replay.specs.declared.answer.ReplayEnd.{ReplayEnd}
use Rattle.replay.specs.declared.answer.ReplayEnd.TheVariants.{Race, Stuck, Full, End, Open, BadStep}
use Rattle.replay.specs.declared.schedule.Move.{Move}
use Rattle.replay.specs.Schedules.{move_text}
use Rattle.replay.specs.Sights.{first_race, passes_at}
use Rattle.replay.specs.Told.{told_at}

-- what is told at each number of steps up to this one
abbrev pub told_up_to : List Proc → Schedule → MachineState → ℕ → List (Option ReplayEnd)
told_up_to T es s zero = told_at T es s 0 ∷ []
told_up_to T es s (suc n) = told_up_to T es s n ++ told_at T es s (suc n) ∷ []

-- nothing is told up to this many steps, and there this
abbrev pub quiet_then : ℕ → ReplayEnd → List (Option ReplayEnd)
quiet_then n e = replicate n None ++ Some e ∷ []

-- the beginning of a program without inputs
abbrev pub begun : List Proc → ℕ → MachineState
begun T cap = first_state T [] [] cap

-- the beginning of the program that reads an array
abbrev pub begun_reading : MachineState
begun_reading = first_state reading (1 ∷ 0 ∷ 2 ∷ []) ((1, 7 ∷ 8 ∷ []) ∷ []) 16

-- a program that divides by 0 at once
abbrev pub dividing : List Proc
dividing = proc_of (codes "main") 0 1 (Calc 0 Div 0 0 ∷ []) [] ∷ []

-- a leaf at a path that is next to do this
abbrev pub seen : List Side → ℕ → ℕ → Next → LeafView
seen path frames regs n = record { path = path; proc = codes "f"; line = 1; frames = frames; regs = regs; next = n }

-- three leaves: the first two read a word that the third writes
abbrev pub three : List LeafView
three = seen (Left ∷ Left ∷ []) 1 1 (next.Read 1 0) ∷ seen (Left ∷ Right ∷ []) 1 1 (next.Read 1 0) ∷ seen (Right ∷ []) 1 1 (next.Write 1 0) ∷ []

-- a step at a path
abbrev pub move_of : List Side → ℕ → Move
move_of path name = record { path = path; name = name }

-- what small schedules tell
pub record SchedulesSeen : Type 0 where
  pub race : told_up_to racing one_each (begun racing 16) 5 ≡ quiet_then 5 (Race 5 (Left ∷ []) (Right ∷ []))
  pub open_ : told_up_to racing (at_root 3) (begun racing 16) 3 ≡ quiet_then 3 (Open 3)
  pub none : told_up_to racing [] (begun racing 16) 0 ≡ quiet_then 0 (Open 0)
  pub no_leaf : told_up_to racing ((Left ∷ [], 1) ∷ []) (begun racing 16) 0 ≡ quiet_then 0 (BadStep 1 false)
  pub used : told_up_to racing (([], 1) ∷ ([], 0) ∷ []) (begun racing 16) 1 ≡ quiet_then 1 (BadStep 2 true)
  pub full : told_up_to racing (at_root 3) (begun racing 1) 1 ≡ quiet_then 1 (Full 2)
  pub end : told_up_to reading (at_root 9) begun_reading 6 ≡ quiet_then 6 (End 6)
  pub stuck : told_up_to dividing (at_root 1) (begun dividing 16) 0 ≡ quiet_then 0 (Stuck 0 [] (codes "main") 1 Zero)
  pub leftmost : first_race three ≡ Some (Left ∷ Left ∷ [], Right ∷ [])
  pub apart : first_race (seen (Left ∷ []) 1 1 (next.Write 1 0) ∷ seen (Right ∷ []) 1 1 (next.Write 1 1) ∷ []) ≡ None
  pub both_read : first_race (seen (Left ∷ []) 1 1 (next.Read 1 0) ∷ seen (Right ∷ []) 1 1 (next.Read 1 0) ∷ []) ≡ None
  pub freed : first_race (seen (Left ∷ []) 1 1 (next.Read 1 3) ∷ seen (Right ∷ []) 1 1 (next.Free 1) ∷ []) ≡ Some (Left ∷ [], Right ∷ [])
  pub deep : passes_at [] (seen [] 10000 5 (next.Call 1) ∷ []) ≡ true
  pub not_deep : passes_at [] (seen [] 9999 5 (next.Call 1) ∷ []) ≡ false
  pub wide : passes_at [] (seen [] 1 8388609 (next.Call 8388608) ∷ []) ≡ true
  pub forked : passes_at (replicate 64 Left) (seen (replicate 64 Left) 1 1 next.Fork ∷ []) ≡ true
  pub not_forked : passes_at (replicate 63 Left) (seen (replicate 63 Left) 1 1 next.Fork ∷ []) ≡ false
  pub elsewhere : passes_at (Left ∷ []) (seen (Right ∷ []) 10000 5 (next.Call 1) ∷ []) ≡ false

-- the lines of two steps
pub record TextsSeen : Type 0 where
  pub root : move_text (move_of [] 7) ≡ codes "at - 7" ++ 10 ∷ []
  pub below : move_text (move_of (Left ∷ Right ∷ []) 0) ≡ codes "at LR 0" ++ 10 ∷ []
