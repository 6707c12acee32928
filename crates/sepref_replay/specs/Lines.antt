-- What `replay` writes: one line, and where the root ended with values a line for each of these.
use Rattle.std.specs.Prelude.{ℕ, List, [], ◌∷◌, ◌++◌, codes, decimal}
use Rattle.nres_core.specs.declared.value.Value.{Value}
use Rattle.inputs.specs.declared.refusal.InputFault.{InputFault}
use Rattle.inputs.specs.declared.refusal.InputFault.TheVariants as fault
use Rattle.relations.specs.ResultLines.{result_lines}
use Rattle.replay.specs.declared.answer.ReplayEnd.{ReplayEnd}
use Rattle.replay_lines.specs.Lines as replies
use Rattle.replay_causes.specs.declared.cause.Cause.{Cause}
use Rattle.replay_causes.specs.declared.cause.Cause.TheVariants as cause

-- words and a number; words and two numbers
abbrev pub numbered : List ℕ → ℕ → List ℕ
numbered words n = words ++ (decimal n ++ 10 ∷ [])

abbrev pub paired : List ℕ → ℕ → ℕ → List ℕ
paired words n m = words ++ (decimal n ++ (codes " " ++ (decimal m ++ 10 ∷ [])))

abbrev pub fault_words : InputFault → List ℕ
fault_words fault.Unknown = codes "unknown"
fault_words fault.Twice = codes "twice"
fault_words fault.Type_ = codes "type"
fault_words fault.Missing = codes "missing"
fault_words (fault.Fit n) = codes "fit " ++ decimal n

-- the value of a name is at fault
abbrev pub input_line : List ℕ → InputFault → List ℕ
input_line name f = codes "! input " ++ (name ++ (codes " " ++ (fault_words f ++ 10 ∷ [])))

-- an answer, and the values of results
abbrev pub answer_text : ReplayEnd → List Value → List ℕ
answer_text e vs = replies.end_line e ++ result_lines vs

abbrev pub text_of : Cause → List ℕ
text_of (cause.NotProgram k) = numbered (codes "! not a program ") k
text_of (cause.Syntax q) = paired (codes "! syntax ") q.line q.column
text_of (cause.NoSchedule k) = replies.no_schedule_line k
text_of (cause.Input x f) = input_line x f
text_of (cause.HeapFull at len) = paired (codes "! heap ") at len
text_of (cause.NoValue k) = numbered (codes "! no value ") k
text_of (cause.Told e vs) = answer_text e vs
