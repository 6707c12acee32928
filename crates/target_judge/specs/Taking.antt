-- The lines of a program behind the first, taken one by one: what stands in them so far.
use Rattle.std.specs.Prelude.{ℕ, Bool, true, false, ◌&&◌, nat_eq, List, [], ◌∷◌, ◌++◌, map, Option, Some, None}
use Rattle.std.specs.List.{flat_map}
use Rattle.target_code.specs.declared.tree.Rep.{Rep}
use Rattle.target_code.specs.declared.tree.InParam.{InParam}
use Rattle.target_code.specs.declared.tree.Instr.{Instr}
use Rattle.target_code.specs.declared.tree.Proc.{Proc}
use Rattle.target_lines.specs.declared.line.Line.{Line}
use Rattle.target_lines.specs.declared.line.Phrase.{Phrase}
use Rattle.target_lines.specs.declared.line.Phrase.TheVariants as phrase
use Rattle.target_lines.specs.Programs.{line, items_lines, proc_lines}
use Rattle.target_judge.specs.Shape.{Frame, Place, place, guard, takes, and_then, so_far, code_of}

-- the first line of a procedure
pub record Header : Type 0 where
  pub name : List ℕ
  pub args : ℕ
  pub regs : ℕ

-- between procedures, inside the code of one, or behind its results
pub data Spot : Type 0 where
  Between : Spot
  Inside : Header → Place → Spot
  Ended : Header → (items : List Instr) (ret : List ℕ) → Spot

-- what stands in the lines so far
pub record State : Type 0 where
  pub ins : List InParam
  pub outs : List Rep
  pub procs : List Proc
  pub spot : Spot

abbrev pub state : List InParam → List Rep → List Proc → Spot → State
state ins outs procs spot = record { ins = ins; outs = outs; procs = procs; spot = spot }

-- nothing is taken yet
abbrev pub start : State
start = state [] [] [] Between

abbrev pub no_result : List Rep → Bool
no_result [] = true
no_result (r ∷ rs) = false

abbrev pub no_proc : List Proc → Bool
no_proc [] = true
no_proc (p ∷ ps) = false

-- inputs come first, then results, then procedures
abbrev pub take_between : Phrase → List InParam → List Rep → List Proc → Option State
take_between (phrase.In p) ins outs procs = guard (no_result outs && no_proc procs) (state (ins ++ p ∷ []) outs procs Between)
take_between (phrase.Out r) ins outs procs = guard (no_proc procs) (state ins (outs ++ r ∷ []) procs Between)
take_between (phrase.Proc name args regs) ins outs procs = Some (state ins outs procs (Inside (record { name = name; args = args; regs = regs }) (place [] [])))
take_between _ ins outs procs = None

-- the results stand where no block is open
abbrev pub take_ret : Header → Phrase → List Frame → List Instr → Option Spot
take_ret h (phrase.Ret rs) [] is = Some (Ended h is rs)
take_ret h p fs is = None

-- no instruction of one line, and no results
abbrev pub is_word : Phrase → Bool
is_word (phrase.Plain i) = false
is_word (phrase.Ret rs) = false
is_word _ = true

-- a line of code, or that of the results
abbrev pub take_inside : Header → Line → Place → Option Place → Option Spot
take_inside h l s (Some t) = Some (Inside h t)
take_inside h l s None = and_then (guard (nat_eq l.level 1) l.phrase) (λ p. take_ret h p s.frames s.items)

abbrev pub proc_of : Header → List Instr → List ℕ → Proc
proc_of h is rs = record { name = h.name; args = h.args; regs = h.regs; code = code_of is; ret = rs }

abbrev pub take_end : Phrase → Header → List Instr → List ℕ → List InParam → List Rep → List Proc → Option State
take_end phrase.End h is rs ins outs procs = Some (state ins outs (procs ++ proc_of h is rs ∷ []) Between)
take_end _ h is rs ins outs procs = None

abbrev pub take_at_spot : Line → List InParam → List Rep → List Proc → Spot → Option State
take_at_spot l ins outs procs Between = and_then (guard (nat_eq l.level 0) l.phrase) (λ p. take_between p ins outs procs)
take_at_spot l ins outs procs (Inside h s) = and_then (take_inside h l s (takes l s)) (λ spot. Some (state ins outs procs spot))
take_at_spot l ins outs procs (Ended h is rs) = and_then (guard (nat_eq l.level 0) l.phrase) (λ p. take_end p h is rs ins outs procs)

-- one line more
unfoldable pub take_line : Line → State → Option State
take_line l s = take_at_spot l s.ins s.outs s.procs s.spot

-- ---- the lines that were taken

abbrev pub header_line : Header → Line
header_line h = line 0 (phrase.Proc h.name h.args h.regs)

abbrev pub spot_lines : Spot → List Line
spot_lines Between = []
spot_lines (Inside h s) = header_line h ∷ so_far s
spot_lines (Ended h is rs) = header_line h ∷ (items_lines 1 is ++ line 1 (phrase.Ret rs) ∷ [])

abbrev pub head_lines : List InParam → List Rep → List Line
head_lines ins outs = map (λ p. line 0 (phrase.In p)) ins ++ map (λ r. line 0 (phrase.Out r)) outs

abbrev pub lines_of : State → List Line
lines_of s = head_lines s.ins s.outs ++ (flat_map proc_lines s.procs ++ spot_lines s.spot)
