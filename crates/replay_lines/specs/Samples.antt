-- Small inputs and answers, on which the definitions are checked.
use Rattle.std.specs.Prelude.{◌≡◌, ℕ, true, false, List, [], ◌∷◌, ◌++◌, codes}
use Rattle.target_meaning.specs.declared.answer.Reason.TheVariants.{Zero}
use Rattle.target_meaning.specs.declared.path.Side.TheVariants.{Left, Right}
use Rattle.replay.specs.declared.answer.ReplayEnd.TheVariants.{Race, Stuck, Full, End, Open, BadStep, Depth}
use Rattle.replay_lines.specs.Inputs.{program_part, values_part, schedule_part, values_line, schedule_line}
use Rattle.replay_lines.specs.Lines.{end_line, no_schedule_line}

-- a line of a text
abbrev pub a_line : List ℕ → List ℕ
a_line words = words ++ 10 ∷ []

-- two lines of a program, one of values, two of a schedule, the second of which begins as one of values does
abbrev pub whole : List ℕ
whole = a_line (codes "p at 1") ++ (a_line (codes "q") ++ (a_line (codes "with x = 1") ++ (a_line (codes "at - 0") ++ a_line (codes "with y"))))

-- a schedule right behind a program
abbrev pub no_values : List ℕ
no_values = a_line (codes "p") ++ a_line (codes "at L 0")

pub record PartsSeen : Type 0 where
  pub program : program_part whole ≡ a_line (codes "p at 1") ++ a_line (codes "q")
  pub values : values_part whole ≡ a_line (codes "with x = 1")
  pub schedule : schedule_part whole ≡ a_line (codes "at - 0") ++ a_line (codes "with y")
  pub first_value : values_line whole ≡ 3
  pub first_step : schedule_line whole ≡ 4
  pub only_program : program_part no_values ≡ a_line (codes "p")
  pub only_values : values_part no_values ≡ []
  pub only_schedule : schedule_part no_values ≡ a_line (codes "at L 0")
  pub only_step : schedule_line no_values ≡ 2
  pub no_program : program_part (codes "at ") ≡ []
  pub no_schedule : schedule_part (codes "p") ≡ []

pub record LinesSeen : Type 0 where
  pub race : end_line (Race 5 (Left ∷ []) (Right ∷ [])) ≡ a_line (codes "race 5 L R")
  pub stuck : end_line (Stuck 0 [] (codes "main") 1 Zero) ≡ a_line (codes "stuck 0 - main 1 zero")
  pub full : end_line (Full 2) ≡ a_line (codes "full 2")
  pub end : end_line (End 6) ≡ a_line (codes "end 6")
  pub open_ : end_line (Open 5) ≡ a_line (codes "open 5")
  pub used : end_line (BadStep 2 true) ≡ a_line (codes "! step 2 name used")
  pub no_leaf : end_line (BadStep 1 false) ≡ a_line (codes "! step 1 no leaf")
  pub depth : end_line (Depth (Left ∷ Left ∷ [])) ≡ a_line (codes "! depth LL")
  pub none : no_schedule_line 9 ≡ a_line (codes "! not a schedule 9")
