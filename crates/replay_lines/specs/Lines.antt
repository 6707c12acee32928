-- The line that tells the answer of a replay, and its status.
use Rattle.std.specs.Prelude.{ℕ, Bool, true, false, List, [], ◌∷◌, ◌++◌, codes, decimal}
use Rattle.target_meaning.specs.declared.answer.Reason.{Reason}
use Rattle.target_meaning.specs.declared.answer.Reason.TheVariants as reason
use Rattle.replay.specs.declared.answer.ReplayEnd.{ReplayEnd}
use Rattle.replay.specs.declared.answer.ReplayEnd.TheVariants as end
use Rattle.replay.specs.Schedules.{path_text}

abbrev pub reason_word : Reason → List ℕ
reason_word reason.Block = codes "block"
reason_word reason.Index = codes "index"
reason_word reason.Zero = codes "zero"
reason_word reason.Shift = codes "shift"

-- why a step could not be made
abbrev pub bad_words : Bool → List ℕ
bad_words true = codes "name used"
bad_words false = codes "no leaf"

-- a word, a number and a line feed
abbrev pub numbered : List ℕ → ℕ → List ℕ
numbered word n = word ++ (decimal n ++ 10 ∷ [])

-- the line of an answer, with its line feed; a procedure is told by its name
abbrev pub end_line : ReplayEnd → List ℕ
end_line (end.Race after left right) = codes "race " ++ (decimal after ++ (codes " " ++ (path_text left ++ (codes " " ++ (path_text right ++ 10 ∷ [])))))
end_line (end.Stuck after path proc line why) =
    codes "stuck " ++
    (decimal after ++ (codes " " ++ (path_text path ++ (codes " " ++ (proc ++ (codes " " ++ (decimal line ++ (codes " " ++ (reason_word why ++ 10 ∷ [])))))))))
end_line (end.Full at) = numbered (codes "full ") at
end_line (end.End at) = numbered (codes "end ") at
end_line (end.Open steps) = numbered (codes "open ") steps
end_line (end.BadStep at used) = codes "! step " ++ (decimal at ++ (codes " " ++ (bad_words used ++ 10 ∷ [])))
end_line (end.Depth path) = codes "! depth " ++ (path_text path ++ 10 ∷ [])

-- the line that is told where a line of the input is none of a schedule
abbrev pub no_schedule_line : ℕ → List ℕ
no_schedule_line line = numbered (codes "! not a schedule ") line

-- the number of the status that goes with an answer
abbrev pub code_of : ReplayEnd → ℕ
code_of (end.Depth path) = 13
code_of (end.BadStep at used) = 18
code_of _ = 0
