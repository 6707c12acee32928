-- Sequential code as plain data, each instruction with what follows it.
use Rattle.std.specs.Prelude.{ℕ, List, [], ◌∷◌, codes}
use Rattle.target_code.specs.declared.tree.Instr.{Instr}
use Rattle.target_code.specs.declared.tree.Instr.TheVariants as V
use Rattle.target_code.specs.declared.tree.Calc.{Calc}
use Rattle.target_code.specs.declared.tree.Calc.TheVariants as calc
use Rattle.target_code.specs.declared.tree.Proc.{Proc}

-- a text: nothing more, or an instruction and the rest; calls are of procedures by name, and no text forks
pub data Text : Type 0 where
  Stop : Text
  Const : (to v : ℕ) → Text → Text
  Mov : (to from : ℕ) → Text → Text
  Op : (to : ℕ) → Calc → (l r : ℕ) → Text → Text
  Load : (to b i : ℕ) → Text → Text
  Store : (b i v : ℕ) → Text → Text
  Alloc : (to len : ℕ) → Text → Text
  Free : (b : ℕ) → Text → Text
  If : (t : ℕ) → Text → Text → Text → Text
  While : Text → (t : ℕ) → Text → Text → Text
  Call : (to : List ℕ) → (name : List ℕ) → (args : List ℕ) → Text → Text

-- the instructions of a text
abbrev pub code : Text → List Instr
code Stop = []
code (Const to v k) = V.Const to v ∷ code k
code (Mov to from k) = V.Mov to from ∷ code k
code (Op to w l r k) = V.Calc to w l r ∷ code k
code (Load to b i k) = V.Load to b i ∷ code k
code (Store b i v k) = V.Store b i v ∷ code k
code (Alloc to n k) = V.Alloc to n ∷ code k
code (Free b k) = V.Free b ∷ code k
code (If t x y k) = V.If t (record { list = code x }) (record { list = code y }) ∷ code k
code (While c t b k) = V.While (record { list = code c }) t (record { list = code b }) ∷ code k
code (Call to name args k) = V.Call to name args ∷ code k

-- a procedure of this text
abbrev pub proc_of : (name : List ℕ) (args regs : ℕ) → Text → (ret : List ℕ) → Proc
proc_of name args regs k ret = record { name = name; args = args; regs = regs; code = record { list = code k }; ret = ret }

-- each instruction that has no code inside once, with each calculation
abbrev pub every_word : Text
every_word =
    Const 0 7 (Mov 1 0 (Load 2 3 4 (Store 3 4 2 (Alloc 5 0 (Free 5 (Op 0 calc.Add 1 2 (Op 0 calc.Sub 1 2 (Op 0 calc.Mul 1 2 (Op 0 calc.Div 1 2 (Op 0 calc.Mod 1 2 (Op 0 calc.Min 1 2 (Op 0 calc.Max 1 2 (Op 0 calc.Lt 1 2 (Op 0 calc.Le 1 2 (Op 0 calc.Eq 1 2 (Op 0 calc.Ne 1 2 (Op 0 calc.And 1 2 (Op 0 calc.Or 1 2 (Op 0 calc.Xor 1 2 (Op 0 calc.Shl 1 2 (Op 0 calc.Shr 1 2 (Call (0 ∷ 1 ∷ []) (codes "lib_copy") (2 ∷ 3 ∷ []) Stop))))))))))))))))))))))

-- an `if` with no second code
abbrev pub no_else : Text
no_else = If 6 (Op 0 calc.Add 1 2 Stop) Stop Stop

-- an `if` with no first code
abbrev pub no_then : Text
no_then = If 7 Stop (Op 0 calc.Mul 1 2 Stop) Stop
