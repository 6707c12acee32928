-- Tests of code, line by line.
use Rattle.std.specs.Prelude.{ℕ, suc, ◌^◌, Bool, true, ◌&&◌, List, [], ◌∷◌, ◌++◌, length, nat_lt, nat_eq, Option, Some, None}
use Rattle.std.specs.List.{list_all, list_any}
use Rattle.std.specs.Str.{bytes_eq}
use Rattle.target_code.specs.declared.tree.Instr.{Instr, Instr-F}
use Rattle.target_code.specs.declared.tree.Instr.TheOpen as Open
use Rattle.target_code.specs.declared.tree.Instr.TheFolds.{fold-Instr, fold-Code}
use Rattle.target_code.specs.declared.tree.Code.{Code}
use Rattle.target_code.specs.declared.tree.Branch.{Branch}
use Rattle.target_code.specs.declared.tree.Hand.{Hand}
use Rattle.target_code.specs.declared.tree.Proc.{Proc}
use Rattle.target_code.specs.Reserved.{are_distinct}

-- whether all answers are true
abbrev pub all_true : List Bool → Bool
all_true [] = true
all_true (b ∷ bs) = b && all_true bs

-- an instruction, with the answer for each block in its place
abbrev pub Layer : Type 0
Layer = Open.Instr-F Bool Bool

-- the answers for the blocks
abbrev pub blocks_pass : Layer → Bool
blocks_pass (Open.If test c d) = c && d
blocks_pass (Open.While c test d) = c && d
blocks_pass _ = true

-- an instruction passes, and what stands in its blocks
abbrev pub line_step : (Layer → Bool) → Layer → Bool
line_step passes i = passes i && blocks_pass i

-- so does each of a list
abbrev pub lines_step : Open.Code-F Bool Bool → Bool
lines_step c = all_true c.list

-- each instruction passes a test, also those in blocks
abbrev pub instr_passes : (Layer → Bool) → Instr → Bool
instr_passes passes = fold-Instr Bool Bool (line_step passes) lines_step

abbrev pub code_passes : (Layer → Bool) → Code → Bool
code_passes passes = fold-Code Bool Bool (line_step passes) lines_step

-- ---- registers

-- registers below a number
abbrev pub all_below : ℕ → List ℕ → Bool
all_below regs rs = list_all (λ r. nat_lt r regs) rs

abbrev pub span_below : ℕ → Option (ℕ × ℕ) → Bool
span_below regs None = true
span_below regs (Some s) = nat_lt s.0 regs && nat_lt s.1 regs

abbrev pub hand_below : ℕ → Hand → Bool
hand_below regs h = nat_lt h.block regs && span_below regs h.span

abbrev pub hands_below : ℕ → List Hand → Bool
hands_below regs hs = list_all (λ h. hand_below regs h) hs

abbrev pub branch_below : ℕ → Branch → Bool
branch_below regs b = all_below regs b.to && (all_below regs b.args && (hands_below regs b.hands && hands_below regs b.lends))

-- the registers of an instruction are below a number, and its constant is a word
abbrev pub is_below : {A B : Type 0} → ℕ → Open.Instr-F A B → Bool
is_below regs (Open.Const to v) = nat_lt to regs && nat_lt v (2 ^ 64)
is_below regs (Open.Mov to from) = nat_lt to regs && nat_lt from regs
is_below regs (Open.Calc to word l r) = nat_lt to regs && (nat_lt l regs && nat_lt r regs)
is_below regs (Open.Load to b i) = nat_lt to regs && (nat_lt b regs && nat_lt i regs)
is_below regs (Open.Store b i v) = nat_lt b regs && (nat_lt i regs && nat_lt v regs)
is_below regs (Open.Alloc to len) = nat_lt to regs && nat_lt len regs
is_below regs (Open.Free b) = nat_lt b regs
is_below regs (Open.If t c d) = nat_lt t regs
is_below regs (Open.While c t d) = nat_lt t regs
is_below regs (Open.Call to name args) = all_below regs to && all_below regs args
is_below regs (Open.Par l r) = branch_below regs l && branch_below regs r

-- ---- calls

-- a procedure with this name takes so many arguments and gives so many results
abbrev pub answers : List ℕ → ℕ → ℕ → Proc → Bool
answers name args results p = bytes_eq p.name name && (nat_eq p.args args && nat_eq (length p.ret) results)

-- some procedure does
abbrev pub some_answers : List Proc → List ℕ → List ℕ → List ℕ → Bool
some_answers procs name args to = list_any (answers name (length args) (length to)) procs

-- the procedures that an instruction calls are there, with as many arguments and results as it gives and takes
abbrev pub calls_met : List Proc → Layer → Bool
calls_met procs (Open.Call to name args) = some_answers procs name args to
calls_met procs (Open.Par l r) = some_answers procs l.proc l.args l.to && some_answers procs r.proc r.args r.to
calls_met procs _ = true

-- ---- targets

-- the registers of results of a call, or of both sides of a `par`, are distinct
abbrev pub has_distinct_targets : Layer → Bool
has_distinct_targets (Open.Call to name args) = are_distinct nat_eq to
has_distinct_targets (Open.Par l r) = are_distinct nat_eq (l.to ++ r.to)
has_distinct_targets _ = true

-- ---- blocks

-- what may stand where so many blocks are open: a block is one more, and 100 are the most
abbrev pub Nesting : Type 0
Nesting = ℕ → Bool

abbrev pub nests_step : Open.Instr-F Nesting Nesting → Nesting
nests_step (Open.If t c d) opened = nat_lt opened 100 && (c (suc opened) && d (suc opened))
nests_step (Open.While c t d) opened = nat_lt opened 100 && (c (suc opened) && d (suc opened))
nests_step _ opened = true

-- each of a list may stand there
abbrev pub all_nest : ℕ → List Nesting → Bool
all_nest opened [] = true
all_nest opened (f ∷ fs) = f opened && all_nest opened fs

abbrev pub code_nests_step : Open.Code-F Nesting Nesting → Nesting
code_nests_step c opened = all_nest opened c.list

-- an instruction, and a list of them, may stand where so many blocks are open
abbrev pub instr_nests : Instr → Nesting
instr_nests = fold-Instr Nesting Nesting nests_step code_nests_step

abbrev pub code_nests : Code → Nesting
code_nests = fold-Code Nesting Nesting nests_step code_nests_step
