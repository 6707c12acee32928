-- What a leg ends with, by what its leaf came to.
use Rattle.std.specs.Prelude.{◌≡◌, ℕ, ◌<◌, ◌≤◌, List, length}
use Rattle.target_code.specs.declared.tree.Proc.{Proc}
use Rattle.target_meaning.specs.Piece.{Piece}
use Rattle.target_meaning.specs.Stacks.{stack_of}
use Rattle.target_meaning.specs.declared.answer.Reason.{Reason}
use Rattle.target_meaning.specs.declared.frame.Starting.{Starting}
use Rattle.target_meaning.specs.declared.path.Side.{Side}
use Rattle.target_meaning.specs.declared.stack.Stack.TheVariants as stack
use Rattle.branch_exec.specs.Stores.{CanGive, CannotGive}
use Rattle.branch_exec.specs.Leaves.{most_forks}
use Rattle.branch_exec.specs.Ends.{IsSpot, IsUnderWay}
use Rattle.branch_exec.specs.declared.leaf.Leaf.{Leaf}
use Rattle.branch_exec.specs.declared.leg.Leg.{Leg}
use Rattle.branch_exec.specs.declared.leg.Leg.TheVariants as leg
use Rattle.branch_exec.specs.declared.run.Turn.{Turn}
use Rattle.branch_exec.specs.declared.run.Turn.TheVariants as turn
use Rattle.branch_exec.specs.declared.end.BranchEnd.{BranchEnd}
use Rattle.branch_exec.specs.declared.end.BranchEnd.TheVariants as end

-- the end of a leaf that makes no more steps
abbrev pub EndedWith : BranchEnd → Leaf → Type 0
EndedWith (end.Done regs steps) v = (v.stack ≡ stack.End regs) × (steps ≡ v.done)
EndedWith (end.OutOfSteps path) v = ((T : List Proc) → IsUnderWay (stack_of T v.stack)) × (path ≡ v.path)
EndedWith end.Memory v = Unit {0}
EndedWith _ v = ⊥

-- the end of a leaf that has ended
abbrev pub OverWith : BranchEnd → Leaf → Type 0
OverWith (end.Done regs steps) v = (v.stack ≡ stack.End regs) × (steps ≡ v.done)
OverWith end.Memory v = Unit {0}
OverWith _ v = ⊥

abbrev pub DepthOf : BranchEnd → List Side → Type 0
DepthOf (end.Depth p) path = p ≡ path
DepthOf end.Memory path = Unit {0}
DepthOf _ path = ⊥

abbrev pub StuckIs : List Proc → BranchEnd → Reason → Leaf → Type 0
StuckIs T (end.Stuck spot reason) r v = IsSpot spot v.path (stack_of T v.stack) × (reason ≡ r)
StuckIs T end.Memory r v = Unit {0}
StuckIs T _ r v = ⊥

abbrev pub UnownedIs : List Proc → BranchEnd → ℕ → ℕ → Leaf → Type 0
UnownedIs T (end.Unowned spot block offset) b o v = IsSpot spot v.path (stack_of T v.stack) × (block ≡ b) × (offset ≡ o)
UnownedIs T end.Memory b o v = Unit {0}
UnownedIs T _ b o v = ⊥

-- a fork: it can be made, or the leaf lies too deep, or a part cannot be given
abbrev pub ForkEnds : List Proc → BranchEnd → Starting → Starting → Piece → Leaf → Type 0
ForkEnds T (end.Depth p) l r q v = (p ≡ v.path) × (most_forks ≤ length v.path)
ForkEnds T (end.Unowned spot block offset) l r q v = IsSpot spot v.path (stack_of T v.stack) × CannotGive q l r block offset
ForkEnds T end.Memory l r q v = Unit {0}
ForkEnds T _ l r q v = ⊥

pub record ForkGoes (l r x y : Starting) (q : Piece) (v u : Leaf) : Type 0 where
  pub left : x ≡ l
  pub right : y ≡ r
  pub can : CanGive q l r
  pub shallow : length v.path < most_forks
  pub same : u ≡ v

abbrev pub ForkTold : List Proc → Leg → Starting → Starting → Piece → Leaf → Leaf → Type 0
ForkTold T (leg.Ended e) l r q v u = ForkEnds T e l r q v
ForkTold T (leg.Forked x y) l r q v u = ForkGoes l r x y q v u

-- the end of a leg, by the turn that was no step
abbrev pub TurnEnds : List Proc → Turn → BranchEnd → Leaf → Type 0
TurnEnds T turn.Over e v = OverWith e v
TurnEnds T (turn.Stuck reason) e v = StuckIs T e reason v
TurnEnds T (turn.Unowned block offset) e v = UnownedIs T e block offset v
TurnEnds T (turn.Full at len) e v = e ≡ end.Full at len
TurnEnds T turn.Deep e v = DepthOf e v.path
TurnEnds T turn.On e v = e ≡ end.Memory
TurnEnds T turn.Memory e v = e ≡ end.Memory
TurnEnds T (turn.Fork l r) e v = ⊥

abbrev pub TurnLegs : List Proc → Turn → Leg → Leaf → Type 0
TurnLegs T t (leg.Ended e) v = TurnEnds T t e v
TurnLegs T t (leg.Forked x y) v = ⊥

abbrev pub Turned : List Proc → Turn → Leg → Piece → Leaf → Leaf → Type 0
Turned T (turn.Fork l r) g q v u = ForkTold T g l r q v u
Turned T t g q v u = TurnLegs T t g v
