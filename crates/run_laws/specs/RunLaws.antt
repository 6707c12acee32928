-- The laws of runs by which a program is proved: of safety for a number of steps, or of runs that end after a number of steps.
use Rattle.std.specs.Prelude.{◌≡◌, ℕ, suc, ◌+◌, ◌<◌, ◌≤◌, List, [], ◌∷◌, ◌++◌, slice_index}
use Rattle.std.specs.Prelude.{Some, None}
use Rattle.target_code.specs.declared.tree.Instr.{Instr, out-Instr}
use Rattle.target_code.specs.declared.tree.Instr.TheOpen as Open
use Rattle.target_code.specs.declared.tree.Branch.{Branch}
use Rattle.target_code.specs.declared.tree.Proc.{Proc}
use Rattle.target_meaning.specs.Leaf.{Item, Do, Stack, Run, Wait, Go, Cut, Split, do_all, begin, read_all, put_all, child_of, find, act}
use Rattle.target_meaning.specs.Lines.{second_line}
use Rattle.target_meaning.specs.Machine.{Heap}
use Rattle.target_meaning.specs.Piece.{Piece, plus, Holds}
use Rattle.target_meaning.specs.Held.{AllWhole, without, holdings, Fine}
use Rattle.triple_logic.specs.Bounded.{while_bound}
use Rattle.triple_logic.specs.Safe.{Halt, at_end, at_code_end}
use Rattle.triple_logic.specs.Laws.{End_fact, at_code, Beside}
use Rattle.triple_logic.specs.Weakest.{Ends, Left}

-- the frame that waits for a fork
abbrev pub fork_wait : Proc → List Item → List ℕ → Branch → Branch → Wait
fork_wait proc items regs l r = record { frame = record { proc = proc; items = items; regs = regs }; callers = []; left = l.to; right = r.to }

-- what holds at a smaller measure, where the runs have to end
abbrev pub Lower : Type 0 → (ℕ → End_fact) → ℕ → End_fact
Lower ends I m vs p = (k : ℕ) × (ends → k < m) × I k vs p

-- a way of running with its laws: safety for a number of steps, say, or runs that end after a number of steps
pub record Laws (T : List Proc) : Type 1 where
  -- whether runs have to end
  pub ends : Type 0
  -- how many steps a callee may be asked for, where its caller is asked for so many
  pub under : ℕ → ℕ → Type 0
  -- a leaf that holds a piece, below f forks: asked for n steps; it has c steps to end in
  pub run : Halt → End_fact → (n c f : ℕ) → Piece → Stack → Type 0
  -- a step on registers and frames
  pub go : (halt : Halt) (Q : End_fact) (n c f : ℕ) (p : Piece) (s u : Stack) → halt s ≡ None → act T s ≡ Go u → run halt Q n c f p u → run halt Q n (suc c) f p s
  -- a `free` of a block that is held whole
  pub cut : (halt : Halt) (Q : End_fact) (n c f : ℕ) (p : Piece) (s : Stack) (b : ℕ) (u : Stack) → halt s ≡ None → act T s ≡ Cut b u → AllWhole (p b 0) (p b) → run halt Q n c f (without p b) u → run halt Q n (suc c) f p s
  -- a root that is over
  pub over : (halt : Halt) (Q : End_fact) (n c f : ℕ) (p : Piece) (s : Stack) (vs : List ℕ) → halt s ≡ Some vs → Q vs p → run halt Q n c f p s
  -- what follows from a heap that has what is held may be assumed
  pub assume : (halt : Halt) (Q : End_fact) (n c f : ℕ) (p : Piece) (s : Stack) → ((h : Heap) → Holds p h → run halt Q n c f p s) → run halt Q n c f p s
  -- more steps are enough too
  pub more : (halt : Halt) (Q : End_fact) (n a b f : ℕ) (p : Piece) (s : Stack) → a ≤ b → run halt Q n a f p s → run halt Q n b f p s
  -- a weaker end, which may rest on some heap that has what is held
  pub weaker : (halt : Halt) (Q Q' : End_fact) (n c f : ℕ) (p : Piece) (s : Stack) → ((vs : List ℕ) (q : Piece) (h : Heap) → Holds q h → Q vs q → Q' vs q) → run halt Q n c f p s → run halt Q' n c f p s
  -- beside any other piece, which is given back as it was
  pub frame : (halt : Halt) (Q : End_fact) (q : Piece) (n c f : ℕ) (p : Piece) (s : Stack) → run halt Q n c f p s → run halt (Beside Q q) n c f (plus p q) s
  -- a stretch of code and another after it, up to the end of both
  pub seq : (Q1 Q : End_fact) (n a c f : ℕ) (p : Piece) (proc : Proc) (items is : List Item) (regs : List ℕ) →
      run at_code_end Q1 n a f p (at_code proc items regs) →
      ((m : ℕ) → m ≤ n → (vs : List ℕ) (q : Piece) → Q1 vs q → run at_code_end Q m c f q (at_code proc is vs)) →
      run at_code_end Q n (a + c) f p (at_code proc (items ++ is) regs)
  -- the same up to the end of the leaf
  pub return : (Q1 Q : End_fact) (n a c f : ℕ) (p : Piece) (proc : Proc) (items is : List Item) (regs : List ℕ) →
      run at_code_end Q1 n a f p (at_code proc items regs) →
      ((m : ℕ) → m ≤ n → (vs : List ℕ) (q : Piece) → Q1 vs q → run at_end Q m c f q (at_code proc is vs)) →
      run at_end Q n (a + c) f p (at_code proc (items ++ is) regs)
  -- a call, and what follows it
  pub call : (Q1 Q : End_fact) (n a c f : ℕ) (p : Piece) (line : ℕ) (i : Instr) (items : List Item) (regs to name args : List ℕ) (proc : Proc) (g : Proc) →
      out-Instr i ≡ Open.Call to name args → find T name ≡ Some g →
      ((k : ℕ) → under k n → run at_end Q1 k a f p (Run (begin g (read_all regs args)) [])) →
      ((m : ℕ) → m ≤ n → (vs : List ℕ) (q : Piece) → Q1 vs q → run at_code_end Q m c f q (at_code proc items (put_all to vs regs))) →
      run at_code_end Q n (suc (a + c)) f p (at_code proc (Do line i ∷ items) regs)
  -- an `if`
  pub choice : (Q : End_fact) (n c f : ℕ) (line : ℕ) (i : Instr) (t : ℕ) (x y : List Instr) (regs : List ℕ) (proc : Proc) (p : Piece) →
      out-Instr i ≡ Open.If t (record { list = x }) (record { list = y }) →
      ((slice_index regs t ≡ 0 → ⊥) → run at_code_end Q n c f p (at_code proc (do_all (suc line) x) regs)) →
      (slice_index regs t ≡ 0 → run at_code_end Q n c f p (at_code proc (do_all (second_line line x) y) regs)) →
      run at_code_end Q n (suc c) f p (at_code proc (Do line i ∷ []) regs)
  -- a `while` by an invariant before and after each run of its condition's code, with a measure that each turn makes less where runs have to end
  pub loop : (I C : ℕ → End_fact) (Q : End_fact) (n a b m f : ℕ) (line : ℕ) (i : Instr) (t : ℕ) (x y : List Instr) (proc : Proc) →
      out-Instr i ≡ Open.While (record { list = x }) t (record { list = y }) →
      ((k : ℕ) → k ≤ n → (j : ℕ) (regs : List ℕ) (p : Piece) → I j regs p → run at_code_end (C j) k a f p (at_code proc (do_all (suc line) x) regs)) →
      ((k : ℕ) → k ≤ n → (j : ℕ) (regs : List ℕ) (p : Piece) → C j regs p → (slice_index regs t ≡ 0 → ⊥) → run at_code_end (Lower ends I j) k b f p (at_code proc (do_all (second_line line x) y) regs)) →
      ((j : ℕ) (regs : List ℕ) (p : Piece) → C j regs p → slice_index regs t ≡ 0 → Q regs p) →
      (regs : List ℕ) (p : Piece) → I m regs p → run at_code_end Q n (suc (while_bound a b m)) f p (at_code proc (Do line i ∷ []) regs)
  -- a `par`, and what follows the join
  pub par : (Q1 Q2 Q : End_fact) (n a b c f : ℕ) (p k pl pr : Piece) (line : ℕ) (i : Instr) (items : List Item) (regs : List ℕ) (proc : Proc) (l r : Branch) (g1 g2 : Proc) →
      out-Instr i ≡ Open.Par l r → find T l.proc ≡ Some g1 → find T r.proc ≡ Some g2 →
      holdings.kept p (child_of l regs g1) (child_of r regs g2) ≡ k → holdings.left p (child_of l regs g1) (child_of r regs g2) ≡ pl → holdings.right p (child_of l regs g1) (child_of r regs g2) ≡ pr →
      Fine f (Split (child_of l regs g1) (child_of r regs g2) (fork_wait proc items regs l r)) p →
      (f < 64 → run at_end Q1 n a (suc f) pl (Run (begin g1 (read_all regs l.args)) [])) →
      (f < 64 → run at_end Q2 n b (suc f) pr (Run (begin g2 (read_all regs r.args)) [])) →
      ((m : ℕ) → m ≤ n → (xs ys : List ℕ) (u v : Piece) (h : Heap) → Holds (plus k (plus u v)) h → Q1 xs u → Q2 ys v → run at_code_end Q m c f (plus k (plus u v)) (at_code proc items (put_all r.to ys (put_all l.to xs regs)))) →
      run at_code_end Q n (suc (suc (a + b + c))) f p (at_code proc (Do line i ∷ items) regs)
  -- what was proved by weakest preconditions, whatever it leaves to be claimed
  pub ended : (halt : Halt) (Q : List ℕ → End_fact) (n c f : ℕ) (a : List ℕ) (p : Piece) (s : Stack) → Ends T halt Q c a s p → run halt (Left Q) n c f p s

-- a leaf whose run is proved from the laws alone, whatever they are the laws of
pub record ByLaws : Type 1 where
  pub procs : List Proc
  pub halt : Halt
  pub meets : End_fact
  pub steps : ℕ
  pub forks : ℕ
  pub held : Piece
  pub start : Stack
  pub proved : (L : Laws procs) (n : ℕ) → L.run halt meets n steps forks held start
