-- Words that several laws use.
use Rattle.std.specs.Prelude.{◌≡◌, ℕ, suc, ◌+◌, ◌<◌, ◌≤◌, List, [], ◌∷◌}
use Rattle.std.specs.Prelude.{None, Some}
use Rattle.target_code.specs.declared.tree.Instr.{Instr, out-Instr}
use Rattle.target_code.specs.declared.tree.Instr.TheOpen as Open
use Rattle.target_code.specs.declared.tree.Proc.{Proc}
use Rattle.target_meaning.specs.Leaf.{Item, Do, Caller, Stack, Run, begin, find, put_all, read_all}
use Rattle.target_meaning.specs.Machine.{Leaf}
use Rattle.target_meaning.specs.Piece.{Piece, plus}
use Rattle.triple_logic.specs.Safe.{Halt, Safe, at_end, at_code_end}
use Rattle.triple_logic.specs.Bounded.{Bounded}

-- what an end must meet: a fact on results, or on registers, and on what is then held
abbrev pub End_fact : Type 1
End_fact = List ℕ → Piece → Type 0

-- a leaf with these items left in its one frame
abbrev pub at_code : Proc → List Item → List ℕ → Stack
at_code proc items regs = Run (record { proc = proc; items = items; regs = regs }) []

-- a stretch of code is safe for n steps, from these registers and this piece
abbrev pub CodeSafe : List Proc → Proc → End_fact → ℕ → ℕ → List Item → List ℕ → Piece → Type 0
CodeSafe T proc Q n f items regs p = Safe T at_code_end Q n f (Leaf p (at_code proc items regs))

-- a stretch of code is over after n steps at most
abbrev pub CodeBounded : List Proc → Proc → End_fact → ℕ → ℕ → List Item → List ℕ → Piece → Type 0
CodeBounded T proc Q n f items regs p = Bounded T at_code_end Q n f (Leaf p (at_code proc items regs))

-- what was met, beside a piece that is as it was
abbrev pub Beside : End_fact → Piece → End_fact
Beside A q vs r = (p : Piece) × (r ≡ plus p q) × A vs p

-- what holds at some smaller measure
abbrev pub Less : (ℕ → End_fact) → ℕ → End_fact
Less I m vs p = (k : ℕ) × (k < m) × I k vs p

-- a call: the procedure is safe for n steps by itself, and what follows it for as many as are left
abbrev pub CallSafe : Halt → End_fact → End_fact → Type 0
CallSafe halt A B =
    (T : List Proc) (n f : ℕ) (p : Piece) (line : ℕ) (i : Instr) (items : List Item) (regs : List ℕ) (proc : Proc) (cs : List Caller) (to name args : List ℕ) (g : Proc) →
    halt (Run (record { proc = proc; items = Do line i ∷ items; regs = regs }) cs) ≡ None → out-Instr i ≡ Open.Call to name args → find T name ≡ Some g →
    Safe T at_end A n f (Leaf p (Run (begin g (read_all regs args)) [])) →
    ((m : ℕ) → m ≤ n → (vs : List ℕ) (q : Piece) → A vs q → Safe T halt B m f (Leaf q (Run (record { proc = proc; items = items; regs = put_all to vs regs }) cs))) →
    Safe T halt B (suc n) f (Leaf p (Run (record { proc = proc; items = Do line i ∷ items; regs = regs }) cs))

-- the same for bounds: one step for the call, those of the procedure, and those of what follows
abbrev pub CallBounded : Halt → End_fact → End_fact → Type 0
CallBounded halt A B =
    (T : List Proc) (a k f : ℕ) (p : Piece) (line : ℕ) (i : Instr) (items : List Item) (regs : List ℕ) (proc : Proc) (cs : List Caller) (to name args : List ℕ) (g : Proc) →
    halt (Run (record { proc = proc; items = Do line i ∷ items; regs = regs }) cs) ≡ None → out-Instr i ≡ Open.Call to name args → find T name ≡ Some g →
    Bounded T at_end A a f (Leaf p (Run (begin g (read_all regs args)) [])) →
    ((vs : List ℕ) (q : Piece) → A vs q → Bounded T halt B k f (Leaf q (Run (record { proc = proc; items = items; regs = put_all to vs regs }) cs))) →
    Bounded T halt B (suc (a + k)) f (Leaf p (Run (record { proc = proc; items = Do line i ∷ items; regs = regs }) cs))
