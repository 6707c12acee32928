-- What is seen of the leaves of a state: where each stands and what it is next to do.
use Rattle.std.specs.Prelude.{ℕ, suc, ◌+◌, List, [], ◌∷◌, ◌++◌, length, nat_lt, if◌then◌else◌}
use Rattle.std.specs.Prelude.{Option, Some, None}
use Rattle.target_code.specs.declared.tree.Instr.{Instr, out-Instr, Instr-F}
use Rattle.target_code.specs.declared.tree.Instr.TheOpen as Open
use Rattle.target_code.specs.declared.tree.Code.{Code}
use Rattle.target_code.specs.declared.tree.Proc.{Proc}
use Rattle.target_meaning.specs.declared.answer.Reason.{Reason}
use Rattle.target_meaning.specs.declared.answer.Reason.TheVariants.{Block, Index}
use Rattle.target_meaning.specs.declared.path.Side.{Side}
use Rattle.target_meaning.specs.declared.path.Side.TheVariants.{Left, Right}
use Rattle.target_meaning.specs.declared.view.LeafView.{LeafView}
use Rattle.target_meaning.specs.declared.view.Next.{Next}
use Rattle.target_meaning.specs.declared.view.Next.TheVariants as seen
use Rattle.target_meaning.specs.Leaf as leaf
use Rattle.target_meaning.specs.Lines.{counted, lines_all}
use Rattle.target_meaning.specs.Machine as machine
use Rattle.target_meaning.specs.Machine.{Heap, words_of}

-- why a word of a block is not there, where it is not
abbrev pub word_reason : Option (List ℕ) → ℕ → Option Reason
word_reason None i = Some Block
word_reason (Some ws) i = if nat_lt i (length ws) then None else Some Index

-- why a block cannot be freed, where it cannot
abbrev pub block_reason : Option (List ℕ) → Option Reason
block_reason None = Some Block
block_reason (Some ws) = None

-- a leaf is stuck for this reason, or does this
abbrev pub or_stuck : Option Reason → Next → Next
or_stuck None n = n
or_stuck (Some r) n = seen.Stuck r

-- what a leaf is next to do by its act, where a step on registers and frames alone is seen as this
abbrev pub act_next : Heap → leaf.Act → Next → Next
act_next h (leaf.Go s) n = n
act_next h (leaf.Read b i k) n = or_stuck (word_reason (words_of (h.cells b)) i) (seen.Read b i)
act_next h (leaf.Write b i v s) n = or_stuck (word_reason (words_of (h.cells b)) i) (seen.Write b i)
act_next h (leaf.Make len k) n = seen.Other
act_next h (leaf.Cut b s) n = or_stuck (block_reason (words_of (h.cells b))) (seen.Free b)
act_next h (leaf.Split l r w) n = seen.Fork
act_next h leaf.Over n = seen.Other
act_next h (leaf.Bad r) n = seen.Stuck r

-- neither a word nor a block, a call or a fork
abbrev pub other : Next
other = seen.Other

-- a call is seen with the registers of the procedure
abbrev pub proc_next : Option Proc → Next
proc_next None = seen.Other
proc_next (Some p) = seen.Call p.regs

-- a step of an instruction on registers and frames alone
abbrev pub instr_next : List Proc → Instr-F Instr Code → Next
instr_next procs (Open.Call to name args) = proc_next (leaf.find procs name)
instr_next procs _ = seen.Other

-- the same of the next item
abbrev pub items_next : List Proc → List leaf.Item → Next
items_next procs [] = seen.Other
items_next procs (leaf.Do line i ∷ items) = instr_next procs (out-Instr i)
items_next procs (leaf.Test line cond test body ∷ items) = seen.Other

-- what a leaf is next to do that has this left of its procedure, with these registers
abbrev pub items_seen : List Proc → Heap → List leaf.Item → List ℕ → Proc → List leaf.Caller → Next
items_seen procs h items regs proc cs = act_next h (leaf.items_act procs items regs proc cs) (items_next procs items)

-- the line of what comes next in a code, at its end that of the `ret`
abbrev pub line_in : List Instr → List leaf.Item → ℕ
line_in code [] = suc (lines_all code)
line_in code (i ∷ items) = leaf.item_line i

-- the line of what a leaf with these frames is next to do, and what it is
abbrev pub next_seen : List Proc → Heap → leaf.Frame → List leaf.Caller → ℕ × Next
next_seen procs h f cs = (counted (leaf.next_line f.items f.proc), items_seen procs h f.items f.regs f.proc cs)

-- the registers of the frames that wait
abbrev pub callers_regs : List leaf.Caller → ℕ
callers_regs [] = 0
callers_regs (c ∷ cs) = length c.frame.regs + callers_regs cs

-- what is seen of a leaf at a path
abbrev pub view_of : List Proc → Heap → List Side → leaf.Frame → List leaf.Caller → LeafView
view_of procs h path f cs = record {
  path = path;
  proc = f.proc.name;
  line = (next_seen procs h f cs).0;
  frames = counted (suc (length cs));
  regs = counted (length f.regs + callers_regs cs);
  next = (next_seen procs h f cs).1;
}

-- a leaf that has ended is not seen
abbrev pub leaf_views : List Proc → Heap → List Side → leaf.Stack → List LeafView
leaf_views procs h path (leaf.Run f cs) = view_of procs h path f cs ∷ []
leaf_views procs h path (leaf.End vs) = []

-- what is seen of the leaves of the tree at a path, left to right
abbrev pub leaves_of : List Proc → Heap → List Side → machine.Tree (Unit {0}) → List LeafView
leaves_of procs h path (machine.Leaf a s) = leaf_views procs h path s
leaves_of procs h path (machine.Fork a w l r) = leaves_of procs h (path ++ Left ∷ []) l ++ leaves_of procs h (path ++ Right ∷ []) r
