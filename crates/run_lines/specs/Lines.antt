-- What tells the end of a run.
use Rattle.std.specs.Prelude.{ℕ, List, [], ◌∷◌, ◌++◌, codes, decimal}
use Rattle.target_meaning.specs.declared.answer.Reason.{Reason}
use Rattle.target_meaning.specs.declared.answer.Reason.TheVariants as reason
use Rattle.target_meaning.specs.declared.path.Side.{Side}
use Rattle.branch_exec.specs.declared.end.Spot.{Spot}
use Rattle.replay.specs.Schedules.{path_text}
pub use Rattle.relations.specs.ResultLines.{result_lines}
use Rattle.program_run.specs.declared.end.RunEnd.{RunEnd}
use Rattle.program_run.specs.declared.end.RunEnd.TheVariants as run

abbrev pub reason_word : Reason → List ℕ
reason_word reason.Block = codes "block"
reason_word reason.Index = codes "index"
reason_word reason.Zero = codes "zero"
reason_word reason.Shift = codes "shift"

-- where a leaf stands: its path from the root, its procedure and the line in it
abbrev pub spot_text : Spot → List ℕ
spot_text s = path_text s.path ++ (codes " " ++ (s.proc ++ (codes " " ++ decimal s.line)))

abbrev pub stuck_line : Spot → Reason → List ℕ
stuck_line s r = codes "! stuck " ++ (spot_text s ++ (codes " " ++ (reason_word r ++ 10 ∷ [])))

-- two numbers and a line feed
abbrev pub numbers : ℕ → ℕ → List ℕ
numbers n m = decimal n ++ (codes " " ++ (decimal m ++ 10 ∷ []))

abbrev pub unowned_line : Spot → ℕ → ℕ → List ℕ
unowned_line s block offset = codes "! unowned " ++ (spot_text s ++ (codes " " ++ numbers block offset))

abbrev pub full_line : ℕ → ℕ → List ℕ
full_line at len = codes "! heap " ++ numbers at len

-- words and a path
abbrev pub path_line : List ℕ → List Side → List ℕ
path_line words path = words ++ (path_text path ++ 10 ∷ [])

abbrev pub no_value_line : ℕ → List ℕ
no_value_line k = codes "! no value " ++ (decimal k ++ 10 ∷ [])

-- a line for each result, or one line that tells why there are none
abbrev pub end_text : RunEnd → List ℕ
end_text (run.Values vs) = result_lines vs
end_text (run.NoValue k) = no_value_line k
end_text (run.Stuck spot reason) = stuck_line spot reason
end_text (run.Unowned spot block offset) = unowned_line spot block offset
end_text (run.OutOfSteps path) = path_line (codes "! steps ") path
end_text (run.HeapFull at len) = full_line at len
end_text (run.Depth path) = path_line (codes "! depth ") path
