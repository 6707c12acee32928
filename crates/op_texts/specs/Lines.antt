-- The code that lines write down.
use Rattle.std.specs.Prelude.{ℕ, zero, List, [], ◌∷◌, ◌++◌, Option, Some, None}
use Rattle.target_code.specs.declared.tree.Instr.{Instr}
use Rattle.target_code.specs.declared.tree.Instr.TheVariants as instr
use Rattle.target_code.specs.declared.tree.Proc.{Proc}
use Rattle.op_texts.specs.declared.line.Line.{Line}
use Rattle.op_texts.specs.declared.line.Line.TheVariants as line
use Rattle.op_texts.specs.declared.line.OpenCode.{OpenCode}

-- the codes that are begun and not ended, the innermost first, each with the register that is tested before it
abbrev pub Open : Type 0
Open = List (ℕ × List Instr)

-- those of a list that has the innermost last
abbrev pub onto : List OpenCode → Open → Open
onto [] cs = cs
onto (c ∷ rest) cs = onto rest ((c.test, c.list.items) ∷ cs)

abbrev pub open_of : List OpenCode → Open
open_of codes = onto codes []

-- an instruction behind those of the innermost code
abbrev pub behind : Open → Instr → Open
behind [] i = []
behind (c ∷ cs) i = (c.0, c.1 ++ i ∷ []) ∷ cs

-- the two innermost codes are those of an `if`, or of a loop
abbrev pub end_if : Open → Open
end_if (second ∷ first ∷ cs) = behind cs (instr.If first.0 (record { list = first.1 }) (record { list = second.1 }))
end_if _ = []

abbrev pub end_while : Open → Open
end_while (second ∷ first ∷ cs) = behind cs (instr.While (record { list = first.1 }) second.0 (record { list = second.1 }))
end_while _ = []

-- after one line; no code is begun where a line ends what was not begun
abbrev pub put : Open → Line → Open
put cs (line.Const to value) = behind cs (instr.Const to value)
put cs (line.Mov to from) = behind cs (instr.Mov to from)
put cs (line.Calc to word left right) = behind cs (instr.Calc to word left right)
put cs (line.Load to block index) = behind cs (instr.Load to block index)
put cs (line.Store block index value) = behind cs (instr.Store block index value)
put cs (line.Alloc to len) = behind cs (instr.Alloc to len)
put cs (line.Free block) = behind cs (instr.Free block)
put cs (line.Call to name args) = behind cs (instr.Call to.now name.now args.now)
put cs (line.If test) = (test, []) ∷ cs
put cs line.Else = (0, []) ∷ cs
put cs line.EndIf = end_if cs
put cs line.While = (0, []) ∷ cs
put cs (line.Do test) = (test, []) ∷ cs
put cs line.EndWhile = end_while cs

-- after all lines
abbrev pub put_all : Open → List Line → Open
put_all cs [] = cs
put_all cs (l ∷ ls) = put_all (put cs l) ls

-- the procedure with this code, where the lines end each code that they begin
abbrev pub procedure_of : (name : List ℕ) (args regs : ℕ) → (ret : List ℕ) → Open → Option Proc
procedure_of name args regs ret ((zero, is) ∷ []) = Some (record { name = name; args = args; regs = regs; code = record { list = is }; ret = ret })
procedure_of name args regs ret _ = None

abbrev pub written : (name : List ℕ) (args regs : ℕ) → List Line → (ret : List ℕ) → Option Proc
written name args regs lines ret = procedure_of name args regs ret (put_all ((0, []) ∷ []) lines)
