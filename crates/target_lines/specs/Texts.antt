-- The one text of each line.
use Rattle.std.specs.Prelude.{ℕ, Bool, true, false, IsTrue, not, nat_eq, List, [], ◌∷◌, ◌++◌, Option, Some, None, codes, decimal}
use Rattle.std.specs.List.{flat_map, list_all}
use Rattle.target_code.specs.declared.tree.Rep.{Rep}
use Rattle.target_code.specs.declared.tree.Calc.{Calc}
use Rattle.target_code.specs.declared.tree.InParam.{InParam}
use Rattle.target_code.specs.declared.tree.Hand.{Hand}
use Rattle.target_code.specs.declared.tree.Branch.{Branch}
use Rattle.target_code.specs.declared.tree.Instr.{Instr, out-Instr}
use Rattle.target_code.specs.declared.tree.Instr.TheOpen as Open
use Rattle.target_code.specs.Texts.{rep_text, indent}
use Rattle.target_lines.specs.declared.line.Line.{Line}
use Rattle.target_lines.specs.declared.line.Phrase.{Phrase}
use Rattle.target_lines.specs.declared.line.Phrase.TheVariants as phrase
use Rattle.target_lines.specs.LineWords.{calc_text}

-- rN
abbrev pub register_text : ℕ → List ℕ
register_text r = 114 ∷ decimal r

-- things with ", " between two of them
abbrev pub listed : {A : Type 0} → (A → List ℕ) → List A → List ℕ
listed text [] = []
listed text (x ∷ xs) = text x ++ flat_map (λ y. codes ", " ++ text y) xs

-- RS
abbrev pub registers_text : List ℕ → List ℕ
registers_text rs = listed register_text rs

-- the registers of results, which stand before ` = ` where there are some
abbrev pub targets_text : List ℕ → List ℕ
targets_text [] = []
targets_text (r ∷ rs) = registers_text (r ∷ rs) ++ codes " = "

-- the span of a hand
abbrev pub span_text : Option (ℕ × ℕ) → List ℕ
span_text None = []
span_text (Some s) = codes " from " ++ (register_text s.0 ++ (codes " for " ++ register_text s.1))

-- a hand, `rB` or `rB from rO for rN`
abbrev pub hand_text : Hand → List ℕ
hand_text h = register_text h.block ++ span_text h.span

-- HANDS
abbrev pub hands_text : List Hand → List ℕ
hands_text hs = listed hand_text hs

-- NAME(ARGS)
abbrev pub use_text : List ℕ → List ℕ → List ℕ
use_text name args = name ++ (codes "(" ++ (registers_text args ++ codes ")"))

-- lends, where the first line shows them
abbrev pub lends_text : Bool → List Hand → List ℕ
lends_text false hs = []
lends_text true hs = codes " lend [" ++ (hands_text hs ++ codes "]")

-- one side of a `par`
abbrev pub branch_text : Bool → Branch → List ℕ
branch_text lends b = targets_text b.to ++ (use_text b.proc b.args ++ (codes " hand [" ++ (hands_text b.hands ++ (codes "]" ++ lends_text lends b.lends))))

-- " kept" where an input is kept
abbrev pub kept_text : Bool → List ℕ
kept_text true = codes " kept"
kept_text false = []

-- the line for an input
abbrev pub input_text : InParam → List ℕ
input_text p = codes "in " ++ (p.name ++ (codes " " ++ (rep_text p.rep ++ kept_text p.kept)))

-- the line for a result
abbrev pub result_text : Rep → List ℕ
result_text r = codes "out " ++ rep_text r

-- rD = OP rA rB
abbrev pub calculation_text : ℕ → Calc → ℕ → ℕ → List ℕ
calculation_text to c l r = register_text to ++ (codes " = " ++ (calc_text c ++ (codes " " ++ (register_text l ++ (codes " " ++ register_text r)))))

-- the first line of an instruction
abbrev pub open_text : {A B : Type 0} → Bool → Open.Instr-F A B → List ℕ
open_text lends (Open.Const to v) = register_text to ++ (codes " = const " ++ decimal v)
open_text lends (Open.Mov to from) = register_text to ++ (codes " = mov " ++ register_text from)
open_text lends (Open.Calc to c l r) = calculation_text to c l r
open_text lends (Open.Load to b i) = register_text to ++ (codes " = load " ++ (register_text b ++ (codes " " ++ register_text i)))
open_text lends (Open.Store b i v) = codes "store " ++ (register_text b ++ (codes " " ++ (register_text i ++ (codes " " ++ register_text v))))
open_text lends (Open.Alloc to len) = register_text to ++ (codes " = alloc " ++ register_text len)
open_text lends (Open.Free b) = codes "free " ++ register_text b
open_text lends (Open.If t c d) = codes "if " ++ register_text t
open_text lends (Open.While c t d) = codes "while"
open_text lends (Open.Call to name args) = targets_text to ++ (codes "call " ++ use_text name args)
open_text lends (Open.Par l r) = codes "par " ++ (branch_text lends l ++ (codes " | " ++ branch_text lends r))

-- that line of an instruction
abbrev pub instr_text : Bool → Instr → List ℕ
instr_text lends i = open_text lends (out-Instr i)

-- the first line of a procedure: its name, arguments and registers
abbrev pub proc_header : List ℕ → ℕ → ℕ → List ℕ
proc_header name args regs = codes "proc " ++ (name ++ (codes " " ++ (decimal args ++ (codes " " ++ decimal regs))))

-- the results of a procedure
abbrev pub ret_text : List ℕ → List ℕ
ret_text [] = codes "ret"
ret_text (r ∷ rs) = codes "ret " ++ registers_text (r ∷ rs)

-- the first line, by whether some branch has a lend
abbrev pub sepref_text : Bool → List ℕ
sepref_text false = codes "sepref 1"
sepref_text true = codes "sepref 2"

-- what stands behind the spaces of a line
abbrev pub phrase_text : Bool → Phrase → List ℕ
phrase_text lends (phrase.Sepref l) = sepref_text l
phrase_text lends (phrase.In p) = input_text p
phrase_text lends (phrase.Out r) = result_text r
phrase_text lends (phrase.Proc name args regs) = proc_header name args regs
phrase_text lends (phrase.Plain i) = instr_text lends i
phrase_text lends (phrase.If t) = codes "if " ++ register_text t
phrase_text lends phrase.Else = codes "else"
phrase_text lends phrase.While = codes "while"
phrase_text lends (phrase.Do t) = codes "do " ++ register_text t
phrase_text lends (phrase.Ret rs) = ret_text rs
phrase_text lends phrase.End = codes "end"

-- a line
abbrev pub line_text : Bool → Line → List ℕ
line_text lends l = indent l.level ++ phrase_text lends l.phrase

-- no line feed
abbrev pub is_inside : ℕ → Bool
is_inside b = not (nat_eq b 10)

abbrev pub IsOneLine : List ℕ → Type 0
IsOneLine bs = IsTrue (list_all is_inside bs)
