-- Lines of code that pass their tests, and tell what the program has.
use Rattle.std.specs.Prelude.{◌≡◌, ℕ, ◌+◌, true, nat_le, List, [], ◌∷◌, ◌++◌, length, Some}
use Rattle.std.specs.List.{AllByRecursion}
use Rattle.target_code.specs.declared.tree.Proc.{Proc}
use Rattle.target_code.specs.Lines as tests
use Rattle.target_code.specs.Reserved.{is_proc_name}
use Rattle.target_lines.specs.declared.line.Line.{Line}
use Rattle.target_judge.specs.Told.{Kind, Args, Results, Input}
use Rattle.target_judge.specs.Judging.{most_registers, code_tells, code_fits, next_width, may_be_main, head_tells, is_input}
use Rattle.target_lines.specs.Programs.{code_lines}
use Rattle.target_judge.specs.Taking.{Between, state}
use Rattle.target_code.specs.declared.tree.Rep.{Rep}
use Rattle.target_code.specs.declared.tree.InParam.{InParam}
use Rattle.target_code.specs.Reps.{width}
use Rattle.target_lines.specs.declared.line.Phrase.TheVariants as phrase

-- a line of code of a procedure with so many registers and this name, in a program with these numbers
pub record IsCode (numbers : Kind → List ℕ → ℕ) (regs : ℕ) (name : List ℕ) (l : Line) : Type 0 where
  pub fits : code_fits l.phrase regs ≡ true
  pub tells : AllByRecursion (λ x. numbers x.kind x.name ≡ x.number) (code_tells l.phrase name)
  pub narrow : (w : ℕ) → next_width l.phrase w ≡ Some w

abbrev pub AreCode : (Kind → List ℕ → ℕ) → ℕ → List ℕ → List Line → Type 0
AreCode numbers regs name ls = AllByRecursion (IsCode numbers regs name) ls

-- a call that is met
pub record IsAnswered (numbers : Kind → List ℕ → ℕ) (name args to : List ℕ) : Type 0 where
  pub named : is_proc_name name ≡ true
  pub few : nat_le (length args) most_registers ≡ true
  pub takes : numbers Args name ≡ length args
  pub gives : numbers Results name ≡ length to

-- the numbers are those of the procedures
abbrev pub AreOf : (Kind → List ℕ → ℕ) → List Proc → Type 0
AreOf numbers procs = (name args to : List ℕ) → tests.some_answers procs name args to ≡ true → IsAnswered numbers name args to

-- the procedure that is given next, behind these, with inputs of so many registers and these results
pub record IsNext (numbers : Kind → List ℕ → ℕ) (w : ℕ) (outs : List Rep) (ps : List Proc) (p : Proc) : Type 0 where
  pub named : is_proc_name p.name ≡ true
  pub first : may_be_main ps p.name ≡ true
  pub sizes : nat_le p.args p.regs ≡ true
  pub limit : nat_le p.regs most_registers ≡ true
  pub tells : AllByRecursion (λ x. numbers x.kind x.name ≡ x.number) (head_tells (phrase.Proc p.name p.args p.regs) w (state [] outs ps Between))
  pub gives : numbers Results p.name ≡ length p.ret
  pub ret : tests.all_below p.regs p.ret ≡ true
  pub nests : tests.code_nests p.code 0 ≡ true
  pub code : (n : ℕ) → AreCode numbers p.regs p.name (code_lines p.code n)

-- one after the other
abbrev pub AreNext : (Kind → List ℕ → ℕ) → ℕ → List Rep → List Proc → List Proc → Type 0
AreNext numbers w outs ps [] = Unit {0}
AreNext numbers w outs ps (q ∷ qs) = IsNext numbers w outs ps q × AreNext numbers w outs (ps ++ q ∷ []) qs

-- the input that is given next, behind these, which take so many registers
pub record IsInput (numbers : Kind → List ℕ → ℕ) (ins : List InParam) (w : ℕ) (p : InParam) : Type 0 where
  pub fits : is_input p ≡ true
  pub place : numbers Input p.name ≡ length ins
  pub wide : next_width (phrase.In p) w ≡ Some (w + width p.rep)

abbrev pub AreInputs : (Kind → List ℕ → ℕ) → List InParam → ℕ → List InParam → Type 0
AreInputs numbers ins w [] = Unit {0}
AreInputs numbers ins w (p ∷ ps) = IsInput numbers ins w p × AreInputs numbers (ins ++ p ∷ []) (w + width p.rep) ps

-- the registers of these and of others
abbrev pub width_of : ℕ → List InParam → ℕ
width_of w [] = w
width_of w (p ∷ ps) = width_of (w + width p.rep) ps
