-- Small specifications and programs, on which the definitions are seen.
use Rattle.std.specs.Prelude.{ℕ, ◌==◌, Bool, true, false, List, [], ◌∷◌, None, codes}
use Rattle.nres_core.specs.FlatTree as f
use Rattle.nres_core.specs.FlatTree.{Binds, Ending, FlatWhole}
use Rattle.nres_rules.specs.IdentifySamples as flat_samples
use Rattle.nres_core.specs.Samples.{at}
use Rattle.nres_core.specs.declared.flat.Arg.TheVariants as a
use Rattle.nres_core.specs.declared.op.Op.TheVariants as o
use Rattle.target_code.specs.declared.tree.Branch.{Branch}
use Rattle.target_code.specs.declared.tree.Instr.{Instr}
use Rattle.target_code.specs.declared.tree.Instr.TheVariants.{Const, Call, Load, If, Par}
use Rattle.target_code.specs.declared.tree.Proc.{Proc}
use Rattle.target_code.specs.declared.tree.Program.{Program}
use Rattle.target_code.specs.declared.tree.Rep.TheVariants as rep
use Rattle.target_meaning.specs.Machine.{Heap, no_blocks, with_blocks}
use Rattle.target_meaning.specs.Samples.{reading, proc_of}
pub use Rattle.target_meaning.specs.Samples.{array_get}
use Rattle.relations.specs.Samples.{gone_words}
use Rattle.soundness.specs.Nodes.{Nodes, Op_node, End_node}

-- the flat tree of the text `first`
abbrev pub first_flat : FlatWhole
first_flat = flat_samples.first_flat

-- its program: `main` calls `array_get` with a constant
abbrev pub first_program : Program
first_program = record { ins = first_flat.params; outs = first_flat.shown; procs = reading }

-- both sides of a `par` get an element
abbrev pub get_at : ℕ → ℕ → Binds
get_at to i = f.Apply_to (at 3 5) (to ∷ []) o.Get None (a.Var 0 ∷ a.Num i ∷ []) f.No_bind

abbrev pub ends_with : ℕ → Ending
ends_with x = record { place = at 4 5; results = a.Var x ∷ [] }

abbrev pub two_gets : Binds
two_gets = f.Par (at 2 3) (3 ∷ 4 ∷ []) (get_at 1 0) (ends_with 1) (get_at 2 1) (ends_with 2) f.No_bind

-- the flat tree of a specification with that `par`
abbrev pub two_flat : FlatWhole
two_flat = record {
  params = first_flat.params;
  shown = rep.Word ∷ rep.Word ∷ [];
  body = record { binds = two_gets; ending = record { place = at 6 3; results = a.Var 3 ∷ a.Var 4 ∷ [] } };
  names = codes "xs" ∷ codes "x" ∷ codes "y" ∷ codes "a" ∷ codes "b" ∷ [];
  procs = [];
}

-- code that gets an element at a constant
abbrev pub get_code : ℕ → List Instr
get_code i = Const 3 i ∷ Call (4 ∷ []) (codes "array_get") (0 ∷ 1 ∷ 2 ∷ 3 ∷ []) ∷ []

abbrev pub side_proc : List ℕ → ℕ → Proc
side_proc name i = proc_of name 3 5 (get_code i) (4 ∷ [])

-- a branch to which the list is lent
abbrev pub lent : ℕ → List ℕ → Branch
lent to name = record { to = to ∷ []; proc = name; args = 0 ∷ 1 ∷ 2 ∷ []; hands = []; lends = record { block = 0; span = None } ∷ [] }

-- a program that gets both side by side
abbrev pub two_main : Proc
two_main = proc_of (codes "main") 3 5 (Par (lent 3 (codes "b1")) (lent 4 (codes "b2")) ∷ []) (3 ∷ 4 ∷ [])

abbrev pub two_program : Program
two_program = record {
  ins = two_flat.params;
  outs = two_flat.shown;
  procs = two_main ∷ side_proc (codes "b1") 0 ∷ side_proc (codes "b2") 1 ∷ array_get ∷ [];
}

-- code that gets both, one after the other
abbrev pub one_by_one : List Instr
one_by_one =
    Const 3 0 ∷ Call (4 ∷ []) (codes "array_get") (0 ∷ 1 ∷ 2 ∷ 3 ∷ [])
    ∷ Const 5 1 ∷ Call (6 ∷ []) (codes "array_get") (0 ∷ 1 ∷ 2 ∷ 5 ∷ []) ∷ []

-- one side of an `either` gets an element, the other does nothing
abbrev pub get_or_not : Binds
get_or_not = f.Either (at 2 3) (3 ∷ []) (get_at 1 0) (ends_with 1) f.No_bind (ends_with 0) f.No_bind

-- two of them at one place
abbrev pub two_choices : Binds
two_choices =
    f.Either (at 2 3) (3 ∷ []) (get_at 1 0) (ends_with 1) f.No_bind (ends_with 0)
    (f.Either (at 2 3) (4 ∷ []) (get_at 2 1) (ends_with 2) f.No_bind (ends_with 0) f.No_bind)

-- the left side where the variable 3 is bound, the right one elsewhere
abbrev pub gives_three : List ℕ → Bool
gives_three [] = false
gives_three (x ∷ xs) = x == 3

-- the node of that operation
abbrev pub get_node : Nodes
get_node = Op_node o.Get None End_node

-- a choice with nothing in it, and a load
abbrev pub no_choice : List Instr
no_choice = If 0 (record { list = [] }) (record { list = [] }) ∷ []

abbrev pub one_load : List Instr
one_load = Load 0 0 0 ∷ []

-- a program that calls itself for ever
abbrev pub endless_main : Proc
endless_main = proc_of (codes "main") 3 3 (Call [] (codes "main") (0 ∷ 1 ∷ 2 ∷ []) ∷ []) (0 ∷ [])

abbrev pub endless_program : Program
endless_program = record { ins = first_flat.params; outs = first_flat.shown; procs = endless_main ∷ [] }

-- a program with a kept hash set, of which it gives the size
abbrev pub size_program : Program
size_program = record {
  ins = record { name = codes "s"; rep = rep.Hset; kept = true } ∷ [];
  outs = rep.Word ∷ [];
  procs = proc_of (codes "main") 4 4 [] (2 ∷ []) ∷ [];
}

-- a heap of so much capacity with the block 5 of a hash table in which one state is marked gone
abbrev pub gone_heap : Heap
gone_heap = with_blocks (no_blocks 100) ((5, gone_words) ∷ [])
