-- The text of a program: its lines, each with a line feed.
use Rattle.std.specs.Prelude.{ℕ, suc, Bool, true, false, ◌||◌, List, [], ◌∷◌, ◌++◌, map}
use Rattle.std.specs.List.{flat_map}
use Rattle.target_code.specs.declared.tree.Hand.{Hand}
use Rattle.target_code.specs.declared.tree.Code.{Code}
use Rattle.target_code.specs.declared.tree.Instr.{Instr, out-Instr}
use Rattle.target_code.specs.declared.tree.Instr.TheOpen as Open
use Rattle.target_code.specs.declared.tree.Instr.TheFolds.{fold-Instr, fold-Code}
use Rattle.target_code.specs.declared.tree.Instr.TheVariants as instr
use Rattle.target_code.specs.declared.tree.Proc.{Proc}
use Rattle.target_code.specs.declared.tree.Program.{Program}
use Rattle.target_lines.specs.declared.line.Line.{Line}
use Rattle.target_lines.specs.declared.line.Phrase.{Phrase}
use Rattle.target_lines.specs.declared.line.Phrase.TheVariants as phrase
use Rattle.target_lines.specs.Texts.{line_text}

-- a line at a level
abbrev pub line : ℕ → Phrase → Line
line n p = record { level = n; phrase = p }

-- the lines of code that stands at a level
abbrev pub Lines : Type 0
Lines = ℕ → List Line

-- an instruction, with the lines of its blocks in their places, which stand one level deeper
abbrev pub instr_step : Open.Instr-F Lines Lines → Lines
instr_step (Open.Const to v) n = line n (phrase.Plain (instr.Const to v)) ∷ []
instr_step (Open.Mov to from) n = line n (phrase.Plain (instr.Mov to from)) ∷ []
instr_step (Open.Calc to c l r) n = line n (phrase.Plain (instr.Calc to c l r)) ∷ []
instr_step (Open.Load to b i) n = line n (phrase.Plain (instr.Load to b i)) ∷ []
instr_step (Open.Store b i v) n = line n (phrase.Plain (instr.Store b i v)) ∷ []
instr_step (Open.Alloc to len) n = line n (phrase.Plain (instr.Alloc to len)) ∷ []
instr_step (Open.Free b) n = line n (phrase.Plain (instr.Free b)) ∷ []
instr_step (Open.If t c d) n = line n (phrase.If t) ∷ (c (suc n) ++ (line n phrase.Else ∷ (d (suc n) ++ (line n phrase.End ∷ []))))
instr_step (Open.While cond t body) n = line n phrase.While ∷ (cond (suc n) ++ (line n (phrase.Do t) ∷ (body (suc n) ++ (line n phrase.End ∷ []))))
instr_step (Open.Call to name args) n = line n (phrase.Plain (instr.Call to name args)) ∷ []
instr_step (Open.Par l r) n = line n (phrase.Plain (instr.Par l r)) ∷ []

-- the lines of a list, one after the other
abbrev pub code_step : Open.Code-F Lines Lines → Lines
code_step c n = flat_map (λ f. f n) c.list

-- the lines of an instruction, and of code
abbrev pub instr_lines : Instr → Lines
instr_lines = fold-Instr Lines Lines instr_step code_step

abbrev pub code_lines : Code → Lines
code_lines = fold-Code Lines Lines instr_step code_step

-- the lines of instructions at a level
abbrev pub items_lines : ℕ → List Instr → List Line
items_lines n is = flat_map (λ i. instr_lines i n) is

-- whether an instruction has one line
abbrev pub is_flat : {A B : Type 0} → Open.Instr-F A B → Bool
is_flat (Open.If t c d) = false
is_flat (Open.While c t d) = false
is_flat _ = true

-- the lines of a procedure
abbrev pub proc_lines : Proc → List Line
proc_lines p = line 0 (phrase.Proc p.name p.args p.regs) ∷ (code_lines p.code 1 ++ (line 1 (phrase.Ret p.ret) ∷ line 0 phrase.End ∷ []))

-- ---- lends

-- whether some answer is true
abbrev pub some_true : List Bool → Bool
some_true [] = false
some_true (b ∷ bs) = b || some_true bs

-- whether there is a hand
abbrev pub is_some_hand : List Hand → Bool
is_some_hand [] = false
is_some_hand (h ∷ hs) = true

-- a lend stands in a branch
abbrev pub instr_lends_step : Open.Instr-F Bool Bool → Bool
instr_lends_step (Open.If t c d) = c || d
instr_lends_step (Open.While c t d) = c || d
instr_lends_step (Open.Par l r) = is_some_hand l.lends || is_some_hand r.lends
instr_lends_step _ = false

-- or in one of a list
abbrev pub code_lends_step : Open.Code-F Bool Bool → Bool
code_lends_step c = some_true c.list

-- some branch of an instruction, and of code, has a lend
abbrev pub instr_lends : Instr → Bool
instr_lends = fold-Instr Bool Bool instr_lends_step code_lends_step

abbrev pub code_lends : Code → Bool
code_lends = fold-Code Bool Bool instr_lends_step code_lends_step

-- some branch of the procedures does
abbrev pub procs_lend : List Proc → Bool
procs_lend [] = false
procs_lend (p ∷ ps) = code_lends p.code || procs_lend ps

-- some branch of a program does
abbrev pub lends : Program → Bool
lends t = procs_lend t.procs

-- a lend stands in the line of an instruction
abbrev pub open_lends : {A B : Type 0} → Open.Instr-F A B → Bool
open_lends (Open.Par l r) = is_some_hand l.lends || is_some_hand r.lends
open_lends _ = false

-- or in a line
abbrev pub phrase_lends : Phrase → Bool
phrase_lends (phrase.Plain i) = open_lends (out-Instr i)
phrase_lends _ = false

-- ---- programs

-- the first line, one for each input and each result, and those of the procedures
abbrev pub program_lines : Program → List Line
program_lines t = line 0 (phrase.Sepref (lends t)) ∷ (map (λ p. line 0 (phrase.In p)) t.ins ++ (map (λ r. line 0 (phrase.Out r)) t.outs ++ flat_map proc_lines t.procs))

-- a line with its line feed
abbrev pub line_feed : Bool → Line → List ℕ
line_feed lends l = line_text lends l ++ 10 ∷ []

abbrev pub lines_text : Bool → List Line → List ℕ
lines_text lends ls = flat_map (line_feed lends) ls

-- program text: the one text of a program
abbrev pub program_text : Program → List ℕ
program_text t = lines_text (lends t) (program_lines t)
