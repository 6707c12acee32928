-- Programs that have only some procedures of a longer list, closed under their calls, and that they run alike.
use Rattle.std.specs.Prelude.{◌≡◌, ℕ, IsTrue, List, []}
use Rattle.std.specs.Prelude.{Some}
use Rattle.target_code.specs.Formed.{all_calls_met}
use Rattle.target_code.specs.declared.tree.Proc.{Proc}
use Rattle.target_code.specs.declared.tree.Program.{Program}
use Rattle.target_meaning.specs.Leaf.{Run, begin, find}
use Rattle.target_meaning.specs.Machine.{Heap, Tree, Leaf, Notes, Room}
use Rattle.target_meaning.specs.Runs.{Schedule, IsShallow, reach}
use Rattle.soundness.specs.Behaviour.{Behaviour}
use Rattle.soundness.specs.Bound.{IsBoundedFor}
use Rattle.soundness.specs.Sound.{IsSoundFor}

-- procedures each call of which finds one of them, and a list in which each of them is found by its name
pub record AreOf (more few : List Proc) : Type 0 where
  pub closed : IsTrue (all_calls_met few)
  pub found : (name : List ℕ) (p : Proc) → find few name ≡ Some p → find more name ≡ Some p

-- from the beginning of any of these procedures each schedule comes to the same with either list, whatever notes are taken, and lies as deep
pub record RunAlike {A : Type 0} (N : Notes A) (few more : List Proc) : Type 0 where
  pub reached : (room : Room) (a : A) (name : List ℕ) (p : Proc) (args : List ℕ) (es : Schedule) (h : Heap) → find few name ≡ Some p
      → reach N room few es (Leaf a (Run (begin p args) [])) h ≡ reach N room more es (Leaf a (Run (begin p args) [])) h
  pub deeper : (room : Room) (a : A) (name : List ℕ) (p : Proc) (args : List ℕ) (es : Schedule) (h : Heap) → find few name ≡ Some p
      → IsShallow N room few es (Leaf a (Run (begin p args) [])) h → IsShallow N room more es (Leaf a (Run (begin p args) [])) h
  pub as_shallow : (room : Room) (a : A) (name : List ℕ) (p : Proc) (args : List ℕ) (es : Schedule) (h : Heap) → find few name ≡ Some p
      → IsShallow N room more es (Leaf a (Run (begin p args) [])) h → IsShallow N room few es (Leaf a (Run (begin p args) [])) h

-- a program with other procedures
abbrev pub with_procs : Program → List Proc → Program
with_procs T more = record { ins = T.ins; outs = T.outs; procs = more }

-- what is sound with the longer list is sound with these procedures alone
abbrev pub FewerAreSound : Behaviour → Program → List Proc → Type 0
FewerAreSound m T more = IsSoundFor m (with_procs T more) → IsSoundFor m T

abbrev pub FewerAreBounded : Behaviour → Program → List Proc → Type 0
FewerAreBounded m T more = IsBoundedFor m (with_procs T more) → IsBoundedFor m T
