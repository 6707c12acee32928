-- What a run of the program may end in, and what it then wrote.
use Rattle.std.specs.Prelude.{◌≡◌, ℕ, ◌<◌, ◌⊎◌, List, take, Option}
use Rattle.std.specs.Io.KnownBytes.{Appends, Keeps}
use Rattle.sep_io.specs.Faults.{Gave}
use Rattle.sepref_top.specs.declared.status.Status.{Status}
use Rattle.sepref_top.specs.declared.status.Status.TheVariants as status

-- the longest input, in bytes
abbrev pub longest : ℕ
longest = 1048576

-- this is the answer, unless the write of its line failed
abbrev pub AnswersUnlessLost : Status → Status → Type 0
AnswersUnlessLost wanted result = (result ≡ wanted) ⊎ (result ≡ status.WriteFault)

-- So many bytes were given: where they are more than the longest input, the answer is that, unless the write of its line
-- failed; and that is the answer only then.
pub record GaveTooMuch (result : Status) (n : ℕ) : Type 0 where
  pub told : longest < n → AnswersUnlessLost status.TooLong result
  pub only : result ≡ status.TooLong → longest < n

-- the source went from having the first bytes left to having the second, and the answer says whether it gave too much
abbrev pub TellsLength : Status → Option (List ℕ) → Option (List ℕ) → Type 0
TellsLength result old new = (n : ℕ) × (Gave old new n × GaveTooMuch result n)

-- what was due of which only a front went out
pub record Lost (due : Status → List ℕ → Type 0) (old new : Option (List ℕ)) : Type 0 where
  pub status : Status
  pub output : List ℕ
  pub is_due : due status output
  pub sent : ℕ
  pub front : Appends old new (take sent output)

-- what went to the sink: what was due for the status; or, where a write failed, a front of what was due; or, for want of memory, nothing
abbrev pub Wrote : (Status → List ℕ → Type 0) → Status → Option (List ℕ) → Option (List ℕ) → Type 0
Wrote due status.WriteFault old new = Lost due old new
Wrote due status.Memory old new = Keeps old new
Wrote due s old new = (output : List ℕ) × due s output × Appends old new output
