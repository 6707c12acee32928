-- The lines of a formed program's text behind the first, taken one by one: each is tested, and what it tells of names is kept.
use Rattle.std.specs.Prelude.{ℕ, ◌+◌, ◌^◌, Bool, true, false, not, ◌&&◌, ◌||◌, nat_le, nat_lt, nat_eq, List, [], ◌∷◌, ◌++◌, length, Option, Some, None, codes}
use Rattle.std.specs.Str.{bytes_eq}
use Rattle.target_code.specs.declared.tree.Rep.{Rep}
use Rattle.target_code.specs.declared.tree.InParam.{InParam}
use Rattle.target_code.specs.declared.tree.Instr.{out-Instr}
use Rattle.target_code.specs.declared.tree.Instr.TheOpen as Open
use Rattle.target_code.specs.declared.tree.Proc.{Proc}
use Rattle.target_code.specs.declared.tree.Program.{Program}
use Rattle.target_code.specs.Reps.{width}
use Rattle.target_code.specs.Reserved.{is_input_name, is_proc_name, is_reserved, is_late, are_distinct}
use Rattle.target_code.specs.Lines as tests
use Rattle.target_code.specs.Formed.{is_shown, keeps_containers, result_width}
use Rattle.target_lines.specs.declared.line.Line.{Line}
use Rattle.target_lines.specs.declared.line.Phrase.{Phrase}
use Rattle.target_lines.specs.declared.line.Phrase.TheVariants as phrase
use Rattle.target_judge.specs.declared.told.Told.{Told}
use Rattle.target_judge.specs.Shape.{and_then, guard}
use Rattle.target_judge.specs.Numbers.{have_numbers}
use Rattle.target_judge.specs.Taking.{Spot, Between, Inside, Ended, State, start, take_line, no_proc}
use Rattle.target_judge.specs.Told.{Args, Results, Given, Input, Fact, fact, lookup, nothing, tell_all}

-- a limit on registers, and so on arguments
abbrev pub most_registers : ℕ
most_registers = 8388608

abbrev pub main_name : List ℕ
main_name = codes "main"

-- what the lines so far say: what stands in them, what they tell of names, and the registers of the inputs
pub record Judged : Type 0 where
  pub state : State
  pub told : Told
  pub width : ℕ

abbrev pub judged : State → Told → ℕ → Judged
judged s t w = record { state = s; told = t; width = w }

-- nothing is read yet
abbrev pub unread : Judged
unread = judged start nothing 0

-- ---- what a line tells

abbrev pub call_tells : List ℕ → List ℕ → List ℕ → List Fact
call_tells name args to = fact Args name (length args) ∷ fact Results name (length to) ∷ []

abbrev pub instr_tells : {A B : Type 0} → Open.Instr-F A B → List Fact
instr_tells (Open.Call to name args) = call_tells name args to
instr_tells (Open.Par l r) = call_tells l.proc l.args l.to ++ call_tells r.proc r.args r.to
instr_tells _ = []

-- the first procedure is `main`, whose arguments and results are told by the lines before it
abbrev pub main_tells : ℕ → List Rep → List Proc → List Fact
main_tells width outs [] = fact Args main_name width ∷ fact Results main_name (result_width outs) ∷ []
main_tells width outs (p ∷ ps) = []

-- a name that stands at one place already can have no other
abbrev pub head_tells : Phrase → ℕ → State → List Fact
head_tells (phrase.In p) w s = fact Input p.name (length s.ins) ∷ []
head_tells (phrase.Proc name args regs) w s = main_tells w s.outs s.procs ++ (fact Given name (length s.procs) ∷ fact Args name args ∷ [])
head_tells _ w s = []

-- inside the procedure with the name
abbrev pub code_tells : Phrase → List ℕ → List Fact
code_tells (phrase.Plain i) name = instr_tells (out-Instr i)
code_tells (phrase.Ret rs) name = fact Results name (length rs) ∷ []
code_tells _ name = []

abbrev pub tells_at : Phrase → ℕ → State → Spot → List Fact
tells_at p w s Between = head_tells p w s
tells_at p w s (Inside h place) = code_tells p h.name
tells_at p w s (Ended h is rs) = []

-- ---- tests of a line

-- not reserved, but `fun`, `call` and `slice` may stand
abbrev pub is_free : List ℕ → Bool
is_free name = not (is_reserved name) || is_late name

abbrev pub may_be_main : List Proc → List ℕ → Bool
may_be_main [] name = bytes_eq name main_name
may_be_main (p ∷ ps) name = true

-- a procedure with no registers has no results
abbrev pub has_room : ℕ → Option ℕ → Bool
has_room regs None = true
has_room regs (Some results) = nat_eq results 0 || nat_le 1 regs

abbrev pub is_input : InParam → Bool
is_input p = is_input_name p.name && (keeps_containers p && is_shown p.rep)

-- with what is told after the line
abbrev pub is_header : List Proc → List ℕ → ℕ → ℕ → Told → Bool
is_header procs name args regs told = is_proc_name name && (may_be_main procs name && (nat_le args regs && (nat_le regs most_registers && has_room regs (lookup Results name told))))

abbrev pub callee_fits : List ℕ → List ℕ → Bool
callee_fits name args = is_proc_name name && nat_le (length args) most_registers

abbrev pub instr_fits : {A B : Type 0} → Open.Instr-F A B → Bool
instr_fits (Open.Call to name args) = callee_fits name args && are_distinct nat_eq to
instr_fits (Open.Par l r) = callee_fits l.proc l.args && (callee_fits r.proc r.args && are_distinct nat_eq (l.to ++ r.to))
instr_fits _ = true

abbrev pub code_fits : Phrase → ℕ → Bool
code_fits (phrase.Plain i) regs = tests.is_below regs (out-Instr i) && instr_fits (out-Instr i)
code_fits (phrase.If t) regs = nat_lt t regs
code_fits phrase.While regs = nat_le 1 regs
code_fits (phrase.Do t) regs = nat_lt t regs
code_fits (phrase.Ret rs) regs = tests.all_below regs rs
code_fits _ regs = true

abbrev pub head_fits : Phrase → List Proc → Told → Bool
head_fits (phrase.In p) procs told = is_input p
head_fits (phrase.Out r) procs told = is_shown r
head_fits (phrase.Proc name args regs) procs told = is_header procs name args regs told
head_fits _ procs told = true

abbrev pub line_fits : Phrase → List Proc → Spot → Told → Bool
line_fits p procs Between told = head_fits p procs told
line_fits p procs (Inside h place) told = code_fits p h.regs
line_fits p procs (Ended h is rs) told = true

-- ---- one line more

-- the registers of the inputs, as far as `main` may have them
abbrev pub next_width : Phrase → ℕ → Option ℕ
next_width (phrase.In p) w = guard (nat_le (w + width p.rep) most_registers) (w + width p.rep)
next_width _ w = Some w

-- what is told after the line, where it passes its tests
unfoldable pub told_after : Phrase → ℕ → State → Told → Option Told
told_after p w s t = and_then (tell_all (tells_at p w s s.spot) t) (λ u. guard (line_fits p s.procs s.spot u) u)

abbrev pub advance : Told → ℕ → Option State → Option Judged
advance t w None = None
advance t w (Some s) = Some (judged s t w)

-- with what the line tells, where it passes its tests
unfoldable pub tested : Phrase → Judged → Option Judged
tested p j = and_then (told_after p j.width j.state j.told) (λ t. and_then (next_width p j.width) (λ w. Some (judged j.state t w)))

-- with the line itself
abbrev pub put : Line → Judged → Option Judged
put l j = advance j.told j.width (take_line l j.state)

unfoldable pub judge : Line → Judged → Option Judged
judge l j = and_then (tested l.phrase j) (put l)

-- ---- the end

abbrev pub program_of : State → Program
program_of s = record { ins = s.ins; outs = s.outs; procs = s.procs }

-- `main` is there, and no procedure is owed
abbrev pub is_whole : List Proc → Spot → Told → Bool
is_whole procs Between told = not (no_proc procs) && have_numbers told.given told.args
is_whole procs (Inside h p) told = false
is_whole procs (Ended h is rs) told = false
