-- The size of a leaf's stack, and its limits.
use Rattle.std.specs.Prelude.{◌≡◌, ℕ, suc, ◌+◌, ◌-◌, ◌<◌, ◌≤◌, ◌⊎◌, List, [], length}
use Rattle.std.specs.Prelude.{Option, Some, None}
use Rattle.target_code.specs.declared.tree.Proc.{Proc}
use Rattle.target_meaning.specs.Leaf as leaf
use Rattle.target_meaning.specs.Views.{callers_regs}
use Rattle.target_meaning.specs.Stacks.{callers_of}
use Rattle.target_meaning.specs.declared.stack.Stack.{Stack}
use Rattle.target_meaning.specs.declared.stack.Stack.TheVariants as stack

-- how many frames a leaf may have
abbrev pub most_frames : ℕ
most_frames = 10000

-- how many registers they may have together
abbrev pub most_registers : ℕ
most_registers = 16777216

-- how many forks may lie above a leaf
abbrev pub most_forks : ℕ
most_forks = 64

-- the frames of a stack
abbrev pub frames_of : leaf.Stack → ℕ
frames_of (leaf.Run f cs) = suc (length cs)
frames_of (leaf.End vs) = 0

-- the registers of its frames
abbrev pub registers_of : leaf.Stack → ℕ
registers_of (leaf.Run f cs) = length f.regs + callers_regs cs
registers_of (leaf.End vs) = 0

-- a step from one stack to another is a call that passes a limit
pub record PassesLimit (s t : leaf.Stack) : Type 0 where
  pub calls : frames_of s < frames_of t
  pub deep : (most_frames < frames_of t) ⊎ (most_registers < registers_of t)

-- so many registers wait in the frames that wait, and they are within the limit
abbrev pub IsSized : List Proc → Stack → ℕ → Type 0
IsSized T (stack.Run fs) w = (w ≡ callers_regs (callers_of T fs.below.items [])) × (w ≤ most_registers)
IsSized T (stack.End vs) w = Unit {0}

-- how many frames wait
abbrev pub waiting_of : Stack → ℕ
waiting_of (stack.Run fs) = length fs.below.items
waiting_of (stack.End vs) = 0

-- how many registers the innermost frame has
abbrev pub top_of : Stack → ℕ
top_of (stack.Run fs) = length fs.top.regs
top_of (stack.End vs) = 0

-- how many registers wait after a step from a stack in which so many frames waited and the innermost one had so many registers; none where a call passed a limit
pub record Weighed (below held waiting now top w : ℕ) : Type 0 where
  pub call : below < now → (w ≡ waiting + held) × (suc now ≤ most_frames) × (top + w ≤ most_registers)
  pub back : now < below → w ≡ waiting - top
  pub same : now ≡ below → w ≡ waiting

abbrev pub Weighs : Option ℕ → Stack → ℕ → ℕ → ℕ → Type 0
Weighs (Some w) (stack.Run fs) below held waiting = Weighed below held waiting (length fs.below.items) (length fs.top.regs) w
Weighs None (stack.Run fs) below held waiting = (below < length fs.below.items) × ((most_frames < suc (length fs.below.items)) ⊎ (most_registers < length fs.top.regs + (waiting + held)))
Weighs (Some w) (stack.End vs) below held waiting = Unit {0}
Weighs None (stack.End vs) below held waiting = ⊥
