-- Small programs, on which the definitions are checked.
use Rattle.std.specs.Prelude.{ℕ, zero, suc, List, [], ◌∷◌, codes, replicate}
use Rattle.std.specs.Prelude.{None}
use Rattle.target_code.specs.declared.tree.Instr.TheVariants.{Const, Mov, Calc, Load, Store, Alloc, Free, While, Call, Par}
use Rattle.target_code.specs.declared.tree.Calc.TheVariants.{Add, Sub}
use Rattle.target_code.specs.declared.tree.Instr.{Instr}
use Rattle.target_code.specs.declared.tree.Branch.{Branch}
use Rattle.target_code.specs.declared.tree.Hand.{Hand}
use Rattle.target_code.specs.declared.tree.Proc.{Proc}
use Rattle.target_meaning.specs.declared.path.Side.TheVariants.{Left, Right}
use Rattle.target_meaning.specs.Leaf.{Stack, Run, Act, Go, begin, act, line_of}
use Rattle.target_meaning.specs.Machine.{Heap, no_blocks, with_blocks}
use Rattle.target_meaning.specs.Runs.{Schedule}

-- a procedure of this name, with so many arguments and registers
abbrev pub proc_of : List ℕ → ℕ → ℕ → List Instr → List ℕ → Proc
proc_of name args regs list ret = record { name = name; args = args; regs = regs; code = record { list = list }; ret = ret }

-- the element of an array at an index: block, offset, length, index
abbrev pub array_get : Proc
array_get = proc_of (codes "array_get") 4 6 (Calc 4 Add 1 3 ∷ Load 5 0 4 ∷ []) (5 ∷ [])

-- `main` reads the first element of an array by a call of `array_get`
abbrev pub reading : List Proc
reading =
    proc_of (codes "main") 3 5 (Const 3 0 ∷ Call (4 ∷ []) (codes "array_get") (0 ∷ 1 ∷ 2 ∷ 3 ∷ []) ∷ []) (4 ∷ []) ∷
    array_get ∷
    []

-- a heap with the block 1, which has the words 7 and 8
abbrev pub reading_heap : Heap
reading_heap = with_blocks (no_blocks 16) ((1, 7 ∷ 8 ∷ []) ∷ [])

-- a branch that runs a procedure on the register 1, with these lends and no hands
abbrev pub branch_of : ℕ → List ℕ → List Hand → Branch
branch_of to name lends = record { to = to ∷ []; proc = name; args = 1 ∷ []; hands = []; lends = lends }

-- `main` claims a block of one word, and runs these two procedures on it side by side
abbrev pub sharing : List ℕ → List ℕ → List Hand → Proc
sharing left right lends =
    proc_of (codes "main") 0 4
    (Const 0 1 ∷ Alloc 1 0 ∷ Par (branch_of 2 left lends) (branch_of 3 right lends) ∷ Free 1 ∷ [])
    (2 ∷ [])

-- writes 0 into the first word of a block
abbrev pub writer : Proc
writer = proc_of (codes "w") 1 2 (Const 1 0 ∷ Store 0 1 1 ∷ []) (1 ∷ [])

-- reads the first word of a block
abbrev pub reader : Proc
reader = proc_of (codes "v") 1 3 (Const 1 0 ∷ Load 2 0 1 ∷ []) (2 ∷ [])

-- the whole block of the register 1
abbrev pub whole_block : List Hand
whole_block = record { block = 1; span = None } ∷ []

-- both branches write to the block, of which neither holds anything
abbrev pub racing : List Proc
racing = sharing (codes "w") (codes "w") [] ∷ writer ∷ []

-- both branches read the block, which is lent to both
abbrev pub lending : List Proc
lending = sharing (codes "v") (codes "v") whole_block ∷ reader ∷ writer ∷ []

-- the left branch writes to the block, which is lent to both
abbrev pub spoiling : List Proc
spoiling = sharing (codes "w") (codes "v") whole_block ∷ reader ∷ writer ∷ []

-- `main` claims a block of 7 words
abbrev pub claiming : List Proc
claiming = proc_of (codes "main") 0 2 (Const 0 7 ∷ Alloc 1 0 ∷ []) (1 ∷ []) ∷ []

-- `main` counts its argument down to 0
abbrev pub counting : List Proc
counting = proc_of (codes "main") 1 3 (While (record { list = Mov 1 0 ∷ [] }) 1 (record { list = Const 2 1 ∷ Calc 0 Sub 0 2 ∷ [] }) ∷ []) (0 ∷ []) ∷ []

-- the beginning of the first procedure
abbrev pub start : List Proc → List ℕ → Stack
start [] regs = Run (begin (proc_of [] 0 0 [] []) regs) []
start (p ∷ ps) regs = Run (begin p regs) []

-- so many steps of the root
abbrev pub at_root : ℕ → Schedule
at_root n = replicate n ([], 1)

-- the first steps of `main` up to its `par`, and then one of the left branch, and one of the right branch
abbrev pub one_left : Schedule
one_left = ([], 1) ∷ ([], 1) ∷ ([], 1) ∷ (Left ∷ [], 1) ∷ []

-- the same, and one step of the right branch
abbrev pub one_each : Schedule
one_each = ([], 1) ∷ ([], 1) ∷ ([], 1) ∷ (Left ∷ [], 1) ∷ (Right ∷ [], 1) ∷ []

-- the lines of the next so many steps of a leaf, as long as they are of registers and frames alone
abbrev pub on_go : (Stack → List ℕ) → Act → List ℕ
on_go k (Go s) = k s
on_go k _ = []

-- the lines of the next so many steps of a leaf
abbrev pub lines_along : List Proc → ℕ → Stack → List ℕ
lines_along T zero s = []
lines_along T (suc n) s = line_of s ∷ on_go (lines_along T n) (act T s)
