-- The programs of the forms.
use Rattle.std.specs.Prelude.{ℕ, ◌<◌, ◌^◌, ◌+◌, List, [], ◌∷◌, codes}
use Rattle.target_code.specs.declared.tree.InParam.{InParam}
use Rattle.target_code.specs.declared.tree.Instr.{Instr}
use Rattle.target_code.specs.declared.tree.Instr.TheVariants.{Const, Call}
use Rattle.target_code.specs.declared.tree.Proc.{Proc}
use Rattle.target_code.specs.declared.tree.Program.{Program}
use Rattle.target_code.specs.declared.tree.Rep.TheVariants as rep
use Rattle.triple_logic.specs.Sample.{array_get}
use Rattle.smallest_form.specs.declared.form.Form.{Form}
use Rattle.smallest_form.specs.declared.form.Form.TheVariants as form

-- its numbers are words
abbrev pub HasWords : Form → Type 0
HasWords (form.Number k) = k < 2 ^ 64
HasWords (form.Element i) = i < 2 ^ 64
HasWords (form.NumberAfter i k) = (i < 2 ^ 64) × (k < 2 ^ 64)

abbrev pub main_of : (args regs : ℕ) → List Instr → ℕ → Proc
main_of args regs list r = record { name = codes "main"; args = args; regs = regs; code = record { list = list }; ret = r ∷ [] }

-- the element of the array in the registers 0 to 2 at the index in register 3, into register 4
abbrev pub get_call : Instr
get_call = Call (4 ∷ []) (codes "array_get") (0 ∷ 1 ∷ 2 ∷ 3 ∷ [])

abbrev pub number_main : (args value : ℕ) → Proc
number_main args value = main_of args (args + 1) (Const args value ∷ []) args

abbrev pub element_main : (index : ℕ) → Proc
element_main index = main_of 3 5 (Const 3 index ∷ get_call ∷ []) 4

abbrev pub after_main : (index value : ℕ) → Proc
after_main index value = main_of 3 6 (Const 3 index ∷ get_call ∷ Const 5 value ∷ []) 5

-- the procedures, where the parameters are in so many registers
abbrev pub procs_of : ℕ → Form → List Proc
procs_of args (form.Number k) = number_main args k ∷ []
procs_of args (form.Element i) = element_main i ∷ array_get ∷ []
procs_of args (form.NumberAfter i k) = after_main i k ∷ array_get ∷ []

abbrev pub registers : List InParam → ℕ
registers [] = 0
registers (x ∷ xs) = 3

abbrev pub program_of : List InParam → Form → Program
program_of ins f = record { ins = ins; outs = rep.Word ∷ []; procs = procs_of (registers ins) f }
