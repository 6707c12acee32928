-- The stacks that the code keeps, as those of the machine.
use Rattle.std.specs.Prelude.{ℕ, suc, List, [], ◌∷◌, slice_get, decimal}
use Rattle.std.specs.Prelude.{Option, Some, None}
use Rattle.target_code.specs.declared.tree.Instr.{Instr, out-Instr, Instr-F}
use Rattle.target_code.specs.declared.tree.Instr.TheOpen as Open
use Rattle.target_code.specs.declared.tree.Code.{Code}
use Rattle.target_code.specs.declared.tree.Proc.{Proc}
use Rattle.target_meaning.specs.Leaf as leaf
use Rattle.target_meaning.specs.Place.{list_at, items_at}
use Rattle.target_meaning.specs.declared.stack.Frame.{Frame}
use Rattle.target_meaning.specs.declared.stack.Stack.{Stack}
use Rattle.target_meaning.specs.declared.stack.Stack.TheVariants.{Run, End}

-- what stands for a procedure that a program does not have: it does nothing, and its name is `0`, which no procedure has
abbrev pub no_proc : Proc
no_proc = record { name = decimal 0; args = 0; regs = 0; code = record { list = [] }; ret = [] }

-- a procedure, or that one
abbrev pub proc_or : Option Proc → Proc
proc_or None = no_proc
proc_or (Some p) = p

-- the procedure of this number
abbrev pub proc_at : List Proc → ℕ → Proc
proc_at procs n = proc_or (slice_get procs n)

-- the code of a procedure
abbrev pub code_at : List Proc → ℕ → List Instr
code_at procs n = (proc_at procs n).code.list

-- the registers of its results
abbrev pub rets_at : List Proc → ℕ → List ℕ
rets_at procs n = (proc_at procs n).ret

-- a frame that goes on from an index
abbrev pub frame_from : List Proc → Frame → ℕ → leaf.Frame
frame_from procs f n = record { proc = proc_at procs f.proc; items = items_at 1 (code_at procs f.proc) f.outer n; regs = f.regs }

-- a frame, as that of the machine
abbrev pub frame_of : List Proc → Frame → leaf.Frame
frame_of procs f = frame_from procs f f.at

-- the instruction at a frame's place
abbrev pub instr_at : List Proc → Frame → Option Instr
instr_at procs f = slice_get (list_at (code_at procs f.proc) f.outer) f.at

-- the registers for the results of a call, by the instruction
abbrev pub call_step : Instr-F Instr Code → List ℕ
call_step (Open.Call to name args) = to
call_step _ = []

-- the registers for the results of the call at hand
abbrev pub call_to : Option Instr → List ℕ
call_to None = []
call_to (Some i) = call_step (out-Instr i)

-- a frame that waits at its call, as that of the machine
abbrev pub caller_of : List Proc → Frame → leaf.Caller
caller_of procs f = record { frame = frame_from procs f (suc f.at); to = call_to (instr_at procs f) }

-- the frames that wait, which the code keeps the outermost first
abbrev pub callers_of : List Proc → List Frame → List leaf.Caller → List leaf.Caller
callers_of procs [] cs = cs
callers_of procs (f ∷ fs) cs = callers_of procs fs (caller_of procs f ∷ cs)

-- a stack, as that of the machine
abbrev pub stack_of : List Proc → Stack → leaf.Stack
stack_of procs (Run fs) = leaf.Run (frame_of procs fs.top) (callers_of procs fs.below.items [])
stack_of procs (End vs) = leaf.End vs
