-- What a leaf does next: its registers and code alone decide it, never the heap.
use Rattle.std.specs.Prelude.{ℕ, zero, suc, ◌+◌, ◌-◌, ◌*◌, ◌/◌, ◌%◌, ◌^◌, min, max, Bool, List, [], ◌∷◌, ◌++◌, length, replicate, nat_lt, nat_le, not, ◌==◌, if◌then◌else◌, slice_index, slice_set, bit_and, bit_or, bit_xor}
use Rattle.std.specs.Prelude.{Option, Some, None}
use Rattle.std.specs.Str.{bytes_eq}
use Rattle.target_code.specs.declared.tree.Instr.{Instr, out-Instr, Instr-F}
use Rattle.target_code.specs.declared.tree.Instr.TheOpen as I
use Rattle.target_code.specs.declared.tree.Code.{Code}
use Rattle.target_code.specs.declared.tree.Calc.{Calc}
use Rattle.target_code.specs.declared.tree.Calc.TheVariants as calc
use Rattle.target_code.specs.declared.tree.Proc.{Proc}
use Rattle.target_code.specs.declared.tree.Branch.{Branch}
use Rattle.target_code.specs.declared.tree.Hand.{Hand}
use Rattle.target_meaning.specs.Lines.{lines_of, lines_all, second_line}
use Rattle.target_meaning.specs.declared.answer.Reason.{Reason}
use Rattle.target_meaning.specs.declared.answer.Reason.TheVariants.{Zero, Shift, Block}

-- one thing to do: an instruction with its line, or the test of a loop that was entered, with the line of its `while`; lines of a procedure count from 0 at its `proc` line
pub data Item : Type 0 where
  Do : (line : ℕ) → Instr → Item
  Test : (line : ℕ) (cond : List Instr) (test : ℕ) (body : List Instr) → Item

-- a procedure under way: which one, what is left of its code, and the registers
pub record Frame : Type 0 where
  pub proc : Proc
  pub items : List Item
  pub regs : List ℕ

-- a frame that waits for a call, and the registers for the call's results
pub record Caller : Type 0 where
  pub frame : Frame
  pub to : List ℕ

-- the stack of a leaf, the innermost frame first
pub data Stack : Type 0 where
  Run : Frame → List Caller → Stack
  End : List ℕ → Stack

-- a fork waits with a frame, its callers, and the registers for the results of the left and of the right
pub record Wait : Type 0 where
  pub frame : Frame
  pub callers : List Caller
  pub left : List ℕ
  pub right : List ℕ

-- a part of what a leaf holds: a whole block with its name, or so many words of it from an offset on
pub record Part : Type 0 where
  pub block : ℕ
  pub span : Option (ℕ × ℕ)

-- a child of a fork: its stack, and the parts that it is handed and lent
pub record Child : Type 0 where
  pub stack : Stack
  pub hands : List Part
  pub lends : List Part

-- what a leaf does next: a step on registers and frames, a load, a store, an `alloc`, a `free`, a `par`; nothing, as it has ended; or it is stuck whatever the heap is
pub data Act : Type 0 where
  Go : Stack → Act
  Read : (block index : ℕ) (next : ℕ → Stack) → Act
  Write : (block index value : ℕ) (next : Stack) → Act
  Make : (len : ℕ) (next : ℕ → Stack) → Act
  Cut : (block : ℕ) (next : Stack) → Act
  Split : (left right : Child) (wait : Wait) → Act
  Over : Act
  Bad : Reason → Act

-- the instructions of a list whose first line is this
abbrev pub do_all : ℕ → List Instr → List Item
do_all line [] = []
do_all line (i ∷ is) = Do line i ∷ do_all (line + lines_of i) is

-- the words in a list of registers; a register past the end reads as 0
abbrev pub read_all : List ℕ → List ℕ → List ℕ
read_all regs [] = []
read_all regs (r ∷ rs) = slice_index regs r ∷ read_all regs rs

-- words put into a list of registers, one by one; a register past the end is not written
abbrev pub put_all : List ℕ → List ℕ → List ℕ → List ℕ
put_all [] vs regs = regs
put_all (r ∷ rs) [] regs = regs
put_all (r ∷ rs) (v ∷ vs) regs = put_all rs vs (slice_set regs r v)

-- results come back to a frame
abbrev pub resume : Caller → List ℕ → Frame
resume c vs = record { proc = c.frame.proc; items = c.frame.items; regs = put_all c.to vs c.frame.regs }

-- the results of both children come back to the frame that waits for them
abbrev pub joined : Wait → List ℕ → List ℕ → Stack
joined w xs ys =
    Run (record { proc = w.frame.proc; items = w.frame.items; regs = put_all w.right ys (put_all w.left xs w.frame.regs) }) w.callers

-- the first procedure of this name
abbrev pub find : List Proc → List ℕ → Option Proc
find [] name = None
find (p ∷ ps) name = if bytes_eq p.name name then Some p else find ps name

-- the frame of a procedure that begins with these arguments
abbrev pub begin : Proc → List ℕ → Frame
begin p args = record { proc = p; items = do_all 1 p.code.list; regs = args ++ replicate (p.regs - length args) 0 }

-- the number that an operation gives, or why it gives none
pub data Number : Type 0 where
  Is : ℕ → Number
  No : Reason → Number

-- a comparison's 1 or 0
abbrev pub one_if : Bool → Number
one_if b = Is (if b then 1 else 0)

-- a division, stuck at 0
abbrev pub divided : (ℕ → ℕ → ℕ) → ℕ → ℕ → Number
divided op x zero = No Zero
divided op x (suc y) = Is (op x (suc y))

-- a shift, stuck from 64 on
abbrev pub shifted : (ℕ → ℕ → ℕ) → ℕ → ℕ → Number
shifted op x y = if nat_lt y 64 then Is (op x y) else No Shift

-- what a calculation gives; sums, differences and products wrap at 2^64
abbrev pub calc_of : Calc → ℕ → ℕ → Number
calc_of calc.Add x y = Is ((x + y) % 2 ^ 64)
calc_of calc.Sub x y = Is ((x + 2 ^ 64 - y) % 2 ^ 64)
calc_of calc.Mul x y = Is (x * y % 2 ^ 64)
calc_of calc.Div x y = divided (λ a b. a / b) x y
calc_of calc.Mod x y = divided (λ a b. a % b) x y
calc_of calc.Min x y = Is (min x y)
calc_of calc.Max x y = Is (max x y)
calc_of calc.Lt x y = one_if (nat_lt x y)
calc_of calc.Le x y = one_if (nat_le x y)
calc_of calc.Eq x y = one_if (x == y)
calc_of calc.Ne x y = one_if (not (x == y))
calc_of calc.And x y = Is (bit_and x y)
calc_of calc.Or x y = Is (bit_or x y)
calc_of calc.Xor x y = Is (bit_xor x y)
calc_of calc.Shl x y = shifted (λ a b. a * 2 ^ b % 2 ^ 64) x y
calc_of calc.Shr x y = shifted (λ a b. a / 2 ^ b) x y

-- go on with a number, or be stuck
abbrev pub with_number : Number → (ℕ → Act) → Act
with_number (Is v) go = go v
with_number (No r) go = Bad r

-- go on with a procedure; a name that no procedure has is stuck, which no formed program meets
abbrev pub with_proc : Option Proc → (Proc → Act) → Act
with_proc None go = Bad Block
with_proc (Some p) go = go p

-- the first at 0, and else the second
abbrev pub at_zero {ℓ} : {A : Type ℓ} → ℕ → A → A → A
at_zero zero a b = a
at_zero (suc n) a b = b

-- a span by its two registers
abbrev pub span_of : Option (ℕ × ℕ) → List ℕ → Option (ℕ × ℕ)
span_of None regs = None
span_of (Some s) regs = Some (slice_index regs s.0, slice_index regs s.1)

-- the parts that hands or lends name
abbrev pub parts_of : List Hand → List ℕ → List Part
parts_of [] regs = []
parts_of (h ∷ hs) regs = record { block = slice_index regs h.block; span = span_of h.span regs } ∷ parts_of hs regs

-- a child of a fork begins its procedure
abbrev pub child_of : Branch → List ℕ → Proc → Child
child_of b regs p = record { stack = Run (begin p (read_all regs b.args)) []; hands = parts_of b.hands regs; lends = parts_of b.lends regs }

module _ (procs : List Proc) (line : ℕ) (items : List Item) (regs : List ℕ) (proc : Proc) (cs : List Caller) where
  -- go on behind the instruction with these registers
  abbrev pub going_on : List ℕ → Stack
  going_on rs = Run (record { proc = proc; items = items; regs = rs }) cs

  -- one instruction at this line, with these items after it
  abbrev pub instr_act : Instr-F Instr Code → Act
  instr_act (I.Const to v) = Go (going_on (slice_set regs to v))
  instr_act (I.Mov to from) = Go (going_on (slice_set regs to (slice_index regs from)))
  instr_act (I.Calc to word l r) = with_number (calc_of word (slice_index regs l) (slice_index regs r)) (λ v. Go (going_on (slice_set regs to v)))
  instr_act (I.Load to b i) = Read (slice_index regs b) (slice_index regs i) (λ v. going_on (slice_set regs to v))
  instr_act (I.Store b i v) = Write (slice_index regs b) (slice_index regs i) (slice_index regs v) (going_on regs)
  instr_act (I.Alloc to n) = Make (slice_index regs n) (λ name. going_on (slice_set regs to name))
  instr_act (I.Free b) = Cut (slice_index regs b) (going_on regs)
  instr_act (I.If t c d) =
      Go (Run (record { proc = proc; items = at_zero (slice_index regs t) (do_all (second_line line c.list) d.list) (do_all (suc line) c.list) ++ items; regs = regs }) cs)
  instr_act (I.While c t b) =
      Go (Run (record { proc = proc; items = do_all (suc line) c.list ++ Test line c.list t b.list ∷ items; regs = regs }) cs)
  instr_act (I.Call to name args) =
      with_proc (find procs name) (λ p. Go (Run (begin p (read_all regs args)) (record { frame = record { proc = proc; items = items; regs = regs }; to = to } ∷ cs)))
  instr_act (I.Par l r) =
      with_proc (find procs l.proc) (λ p. with_proc (find procs r.proc) (λ q.
      Split (child_of l regs p) (child_of r regs q) (record { frame = record { proc = proc; items = items; regs = regs }; callers = cs; left = l.to; right = r.to })))

-- the end of a procedure: its results go to the caller, or stay as those of the leaf
abbrev pub return_act : List ℕ → List Caller → Act
return_act vs [] = Go (End vs)
return_act vs (c ∷ cs) = Go (Run (resume c vs) cs)

-- the first of the items: an instruction, the test of a loop (at 0 behind the loop, else its body, its condition and the test again), or the end of the procedure
abbrev pub items_act : List Proc → List Item → List ℕ → Proc → List Caller → Act
items_act procs [] regs proc cs = return_act (read_all regs proc.ret) cs
items_act procs (Do line i ∷ items) regs proc cs = instr_act procs line items regs proc cs (out-Instr i)
items_act procs (Test line cond t body ∷ items) regs proc cs =
    Go (Run (record {
      proc = proc;
      items = at_zero (slice_index regs t) items (do_all (second_line line cond) body ++ do_all (suc line) cond ++ Test line cond t body ∷ items);
      regs = regs;
    }) cs)

-- what a leaf does next
abbrev pub act : List Proc → Stack → Act
act procs (Run f cs) = items_act procs f.items f.regs f.proc cs
act procs (End vs) = Over

-- the line at which an item stands: a test's is its `do` line
abbrev pub item_line : Item → ℕ
item_line (Do line i) = line
item_line (Test line cond t body) = suc (line + lines_all cond)

-- the line of what comes next in a procedure, at its end that of its `ret`
abbrev pub next_line : List Item → Proc → ℕ
next_line [] p = suc (lines_all p.code.list)
next_line (i ∷ is) p = item_line i

-- the line of what a leaf does next, in the procedure of its innermost frame; 0 where it has ended
abbrev pub line_of : Stack → ℕ
line_of (Run f cs) = next_line f.items f.proc
line_of (End vs) = 0
