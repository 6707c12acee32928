-- The fork tree that the code keeps.
use Rattle.std.specs.Prelude.{◌≡◌, List, [], ◌∷◌}
use Rattle.target_code.specs.declared.tree.Proc.{Proc}
use Rattle.target_meaning.specs.declared.tree.Tree.{Tree}
use Rattle.target_meaning.specs.declared.tree.Tree.TheVariants.{Leaf, Fork'}
use Rattle.target_meaning.specs.declared.answer.StepAnswer.{StepAnswer}
use Rattle.target_meaning.specs.declared.answer.StepAnswer.TheVariants as told
use Rattle.target_meaning.specs.declared.path.Side.{Side}
use Rattle.target_meaning.specs.declared.path.Side.TheVariants.{Left, Right}
use Rattle.target_meaning.specs.Leaf as leaf
use Rattle.target_meaning.specs.Machine as machine
use Rattle.target_meaning.specs.Stacks.{stack_of}
use Rattle.target_meaning.specs.Turns.{wait_of}

-- a fork tree, as that of the machine
abbrev pub tree_of : List Proc → Tree → machine.Tree (Unit {0})
tree_of procs (Leaf s) = machine.Leaf tt (stack_of procs s)
tree_of procs (Fork' p l fs q r) = machine.Fork tt (wait_of procs fs) (tree_of procs l) (tree_of procs r)

-- what is told of the machine's answer, and what tree and heap are then
abbrev pub Answers : StepAnswer → machine.Answer (Unit {0}) → (u t : machine.Tree (Unit {0})) (k h : machine.Heap) → Type 0
Answers told.Moved a u t k h = a ≡ machine.Moved u k
Answers told.Ended a u t k h = ⊥
Answers (told.Stuck r) a u t k h = (a ≡ machine.Stuck r) × (u ≡ t) × (k ≡ h)
Answers told.Full a u t k h = (a ≡ machine.Full) × (u ≡ t) × (k ≡ h)
Answers told.NoSuchLeaf a u t k h = (a ≡ machine.NoSuchLeaf) × (u ≡ t) × (k ≡ h)
Answers told.NameUsed a u t k h = (a ≡ machine.NameUsed) × (u ≡ t) × (k ≡ h)

-- the root is a leaf
abbrev pub IsLeaf : Tree → Type 0
IsLeaf (Leaf s) = Unit {0}
IsLeaf (Fork' p l fs q r) = ⊥

-- the root is a fork
abbrev pub IsFork : Tree → Type 0
IsFork (Leaf s) = ⊥
IsFork (Fork' p l fs q r) = Unit {0}

-- the stack of a leaf; a fork has none
abbrev pub root_stack : machine.Tree (Unit {0}) → leaf.Stack
root_stack (machine.Leaf a s) = s
root_stack (machine.Fork a w l r) = leaf.End []

-- the stack of the leaf at a path, where there is one
abbrev pub leaf_at : machine.Tree (Unit {0}) → List Side → leaf.Stack
leaf_at (machine.Leaf a s) ds = s
leaf_at (machine.Fork a w l r) [] = leaf.End []
leaf_at (machine.Fork a w l r) (Left ∷ ds) = leaf_at l ds
leaf_at (machine.Fork a w l r) (Right ∷ ds) = leaf_at r ds
