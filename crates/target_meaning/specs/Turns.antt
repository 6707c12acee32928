-- What the code tells of a leaf's next step.
use Rattle.std.specs.Prelude.{◌≡◌, ℕ, suc, List, [], ◌∷◌, map, slice_set}
use Rattle.std.specs.Prelude.{Option, Some, None}
use Rattle.target_code.specs.declared.tree.Instr.{Instr, out-Instr, Instr-F}
use Rattle.target_code.specs.declared.tree.Instr.TheOpen as Open
use Rattle.target_code.specs.declared.tree.Code.{Code}
use Rattle.target_code.specs.declared.tree.Proc.{Proc}
use Rattle.target_code.specs.declared.tree.Branch.{Branch}
use Rattle.target_meaning.specs.declared.stack.Frame.{Frame}
use Rattle.target_meaning.specs.declared.stack.Frames.{Frames}
use Rattle.target_meaning.specs.declared.stack.Stack.{Stack}
use Rattle.target_meaning.specs.declared.stack.Stack.TheVariants as stack
use Rattle.target_meaning.specs.declared.frame.Then.{Then}
use Rattle.target_meaning.specs.declared.frame.Part.{Part}
use Rattle.target_meaning.specs.declared.frame.Starting.{Starting}
use Rattle.target_meaning.specs.declared.frame.Todo.{Todo}
use Rattle.target_meaning.specs.declared.frame.Todo.TheVariants.{Gone, Read, Write, Make, Cut, Split, Over, Bad}
use Rattle.target_meaning.specs.Leaf as leaf
use Rattle.target_meaning.specs.Place.{place_line, items_at}
use Rattle.target_meaning.specs.Stacks.{proc_at, code_at, instr_at, frame_from, frame_of, caller_of, callers_of}

-- a frame that stands at an instruction, with the index behind it
pub record IsAt (procs : List Proc) (f : Frame) (i : Instr) (next : ℕ) : Type 0 where
  pub there : instr_at procs f ≡ Some i
  pub is : next ≡ suc f.at

-- a frame that goes on at an index
abbrev pub moved : Frame → ℕ → Frame
moved f next = record { proc = f.proc; outer = f.outer; at = next; regs = f.regs }

-- a frame with a word in a register, which goes on behind its instruction
abbrev pub filled : Frame → Then → ℕ → Frame
filled f then v = record { proc = f.proc; outer = f.outer; at = then.next; regs = slice_set f.regs then.to v }

-- frames with another innermost one
abbrev pub with_top : Frames → Frame → Frames
with_top fs f = record { top = f; below = fs.below }

-- frames under way, as the stack of a leaf
abbrev pub run_of : List Proc → Frames → leaf.Stack
run_of procs fs = leaf.Run (frame_of procs fs.top) (callers_of procs fs.below.items [])

-- the registers for the results of the left branch of a `par`
abbrev pub left_step : Instr-F Instr Code → List ℕ
left_step (Open.Par l r) = l.to
left_step _ = []

-- the registers for the results of the right branch
abbrev pub right_step : Instr-F Instr Code → List ℕ
right_step (Open.Par l r) = r.to
right_step _ = []

-- the same, of the instruction at a place
abbrev pub to_by : (Instr-F Instr Code → List ℕ) → Option Instr → List ℕ
to_by step None = []
to_by step (Some i) = step (out-Instr i)

-- a fork waits at its `par`
abbrev pub wait_of : List Proc → Frames → leaf.Wait
wait_of procs fs = record {
  frame = frame_from procs fs.top (suc fs.top.at);
  callers = callers_of procs fs.below.items [];
  left = to_by left_step (instr_at procs fs.top);
  right = to_by right_step (instr_at procs fs.top);
}

-- a part, as that of the machine
abbrev pub part_of : Part → leaf.Part
part_of p = record { block = p.block; span = p.span }

-- the two children of a fork
pub record IsSplit (procs : List Proc) (a : leaf.Act) (left right : Starting) (fs : Frames) : Type 0 where
  pub first : leaf.Child
  pub second : leaf.Child
  pub is : a ≡ leaf.Split first second (wait_of procs fs)
  pub first_stack : first.stack ≡ run_of procs left.frames
  pub second_stack : second.stack ≡ run_of procs right.frames
  pub first_hands : first.hands ≡ map part_of left.hands.items
  pub first_lends : first.lends ≡ map part_of left.lends.items
  pub second_hands : second.hands ≡ map part_of right.hands.items
  pub second_lends : second.lends ≡ map part_of right.lends.items

-- what is to be done, with the frames as they are then
abbrev pub Tells : List Proc → leaf.Act → Todo → Frames → Type 0
Tells procs a Gone fs = a ≡ leaf.Go (run_of procs fs)
Tells procs a (Read b i then) fs = a ≡ leaf.Read b i (λ v. run_of procs (with_top fs (filled fs.top then v)))
Tells procs a (Write b i v next) fs = a ≡ leaf.Write b i v (run_of procs (with_top fs (moved fs.top next)))
Tells procs a (Make n then) fs = a ≡ leaf.Make n (λ v. run_of procs (with_top fs (filled fs.top then v)))
Tells procs a (Cut b next) fs = a ≡ leaf.Cut b (run_of procs (with_top fs (moved fs.top next)))
Tells procs a (Split l r) fs = IsSplit procs a l r fs
Tells procs a Over fs = a ≡ leaf.Over
Tells procs a (Bad r) fs = a ≡ leaf.Bad r

-- what an instruction does where a frame goes on at this index
abbrev pub act_of : List Proc → Frames → Instr → ℕ → leaf.Act
act_of procs fs i next =
    leaf.instr_act procs (place_line 1 (code_at procs fs.top.proc) fs.top.outer fs.top.at) (items_at 1 (code_at procs fs.top.proc) fs.top.outer next) fs.top.regs (proc_at procs fs.top.proc) (callers_of procs fs.below.items []) (out-Instr i)

-- a call of a frame that stands at it
abbrev pub call_of : List Proc → Frames → List ℕ → List ℕ → leaf.Act
call_of procs fs name args =
    leaf.with_proc (leaf.find procs name) (λ p. leaf.Go (leaf.Run (leaf.begin p (leaf.read_all fs.top.regs args)) (caller_of procs fs.top ∷ callers_of procs fs.below.items [])))

-- a `par` of a frame that stands at it
abbrev pub split_of : List Proc → Frames → Branch → Branch → leaf.Act
split_of procs fs l r =
    leaf.with_proc (leaf.find procs l.proc) (λ p. leaf.with_proc (leaf.find procs r.proc) (λ q.
    leaf.Split (leaf.child_of l fs.top.regs p) (leaf.child_of r fs.top.regs q) (wait_of procs fs)))

-- the same of a whole stack
abbrev pub TellsAll : List Proc → leaf.Act → Todo → Stack → Type 0
TellsAll procs a todo (stack.Run fs) = Tells procs a todo fs
TellsAll procs a Gone (stack.End vs) = a ≡ leaf.Go (leaf.End vs)
TellsAll procs a Over (stack.End vs) = a ≡ leaf.Over
TellsAll procs a (Read b i then) (stack.End vs) = ⊥
TellsAll procs a (Write b i v next) (stack.End vs) = ⊥
TellsAll procs a (Make n then) (stack.End vs) = ⊥
TellsAll procs a (Cut b next) (stack.End vs) = ⊥
TellsAll procs a (Split l r) (stack.End vs) = ⊥
TellsAll procs a (Bad r) (stack.End vs) = ⊥

-- nothing but a step that was made changes the stack
abbrev pub Stays : Todo → leaf.Stack → leaf.Stack → Type 0
Stays Gone s t = Unit {0}
Stays (Read b i then) s t = s ≡ t
Stays (Write b i v next) s t = s ≡ t
Stays (Make n then) s t = s ≡ t
Stays (Cut b next) s t = s ≡ t
Stays (Split l r) s t = s ≡ t
Stays Over s t = s ≡ t
Stays (Bad r) s t = s ≡ t

-- a stack with a word in a register of its innermost frame, which goes on behind its instruction
abbrev pub filled_stack : Stack → Then → ℕ → Stack
filled_stack (stack.Run fs) then v = stack.Run (with_top fs (filled fs.top then v))
filled_stack (stack.End vs) then v = stack.End vs

-- a stack that goes on at an index
abbrev pub moved_stack : Stack → ℕ → Stack
moved_stack (stack.Run fs) next = stack.Run (with_top fs (moved fs.top next))
moved_stack (stack.End vs) next = stack.End vs

-- what takes no memory: `const`, `mov`, arithmetic, `load`, `store`, `free`, and the test of a loop
abbrev pub PlainInstr : Instr-F Instr Code → Type 0
PlainInstr (Open.Const to v) = Unit {0}
PlainInstr (Open.Mov to from) = Unit {0}
PlainInstr (Open.Calc to word l r) = Unit {0}
PlainInstr (Open.Load to b i) = Unit {0}
PlainInstr (Open.Store b i v) = Unit {0}
PlainInstr (Open.Alloc to n) = ⊥
PlainInstr (Open.Free b) = Unit {0}
PlainInstr (Open.If t c d) = ⊥
PlainInstr (Open.While c t b) = ⊥
PlainInstr (Open.Call to name args) = ⊥
PlainInstr (Open.Par l r) = ⊥

-- the next item is one of these
abbrev pub PlainItems : List leaf.Item → Type 0
PlainItems [] = ⊥
PlainItems (leaf.Do line i ∷ is) = PlainInstr (out-Instr i)
PlainItems (leaf.Test line c t b ∷ is) = Unit {0}

-- what a leaf does next takes no memory
abbrev pub PlainNext : leaf.Stack → Type 0
PlainNext (leaf.Run f cs) = PlainItems f.items
PlainNext (leaf.End vs) = Unit {0}
