-- The trees by which the shape of a program is compared with its specification: operations, choices, loops, parallel parts and calls, and nothing else.
use Rattle.std.specs.Prelude.{◌≡◌, ℕ, zero, suc, ◌<◌, Bool, true, false, List, [], ◌∷◌, ◌++◌, Option, Some, None, codes}
use Rattle.std.specs.Fmt.{decimal}
use Rattle.nres_core.specs.FlatTree as f
use Rattle.nres_core.specs.FlatTree.{Binds, Ending}
use Rattle.nres_core.specs.Vocabulary.{in_table}
use Rattle.nres_core.specs.declared.flat.Arg.{Arg}
use Rattle.nres_core.specs.declared.op.Op.{Op}
use Rattle.nres_core.specs.declared.op.Op.TheVariants as o
use Rattle.nres_core.specs.declared.place.Place.{Place}
use Rattle.nres_core.specs.declared.row.Kind.{Kind}
use Rattle.nres_core.specs.declared.row.Kind.TheVariants as k
use Rattle.target_code.specs.declared.tree.Branch.{Branch}
use Rattle.target_code.specs.declared.tree.Calc.{Calc}
use Rattle.target_code.specs.declared.tree.Code.{Code}
use Rattle.target_code.specs.declared.tree.Instr.{Instr, out-Instr, Instr-F}
use Rattle.target_code.specs.declared.tree.Instr.TheOpen as I
use Rattle.target_code.specs.declared.tree.Proc.{Proc}
use Rattle.target_code.specs.declared.tree.Rep.{Rep}
use Rattle.target_code.specs.declared.tree.Rep.TheVariants as rep
use Rattle.target_meaning.specs.Leaf.{find}

-- a list of nodes: each node, and those that follow it
pub data Nodes : Type 0 where
  End_node : Nodes
  Op_node : Op → Option Kind → Nodes → Nodes
  If_node : (yes no rest : Nodes) → Nodes
  While_node : (cond body rest : Nodes) → Nodes
  Both_node : (left right rest : Nodes) → Nodes
  Use_node : (number : ℕ) → Nodes → Nodes

-- nodes, and then others
abbrev pub then : Nodes → Nodes → Nodes
then End_node ms = ms
then (Op_node op kind ns) ms = Op_node op kind (then ns ms)
then (If_node xs ys ns) ms = If_node xs ys (then ns ms)
then (While_node xs ys ns) ms = While_node xs ys (then ns ms)
then (Both_node xs ys ns) ms = Both_node xs ys (then ns ms)
then (Use_node j ns) ms = Use_node j (then ns ms)

-- ---- specifications

-- a representation without its bound
abbrev pub kind_of : Rep → Kind
kind_of rep.Word = k.Word
kind_of rep.Flag = k.Flag
kind_of rep.Array = k.Array
kind_of rep.Slice = k.Slice
kind_of rep.Vec = k.Vec
kind_of (rep.Bits u) = k.Bits
kind_of rep.Hset = k.Hset
kind_of (rep.Amap u) = k.Amap
kind_of rep.Hmap = k.Hmap
kind_of rep.Heap = k.Heap

-- the kind of what a constructor makes; other operations have none
abbrev pub made_kind : Option Rep → Option Kind
made_kind None = None
made_kind (Some r) = Some (kind_of r)

-- lengths and sizes, which no code is needed for
abbrev pub is_size : Op → Bool
is_size o.Len = true
is_size o.SizeSet = true
is_size o.SizeMap = true
is_size o.SizeBag = true
is_size op = false

-- binds have these nodes; of an `either`, which is known by the variables that it binds, it is those of a side that may be taken there, the left one where
-- `true`. No two have the same: each binds some, and no variable is bound twice
pub data SpecTree (may : List ℕ → Bool → Type 0) : Binds → Nodes → Type 0 where
  no_bind : SpecTree may f.No_bind End_node
  calc : {p : Place} {to : ℕ} {w : Calc} {a b : Arg} {rest : Binds} {ns : Nodes} → SpecTree may rest ns → SpecTree may (f.Calc_to p to w a b rest) ns
  any : {p : Place} {to : ℕ} {a b : Arg} {rest : Binds} {ns : Nodes} → SpecTree may rest ns → SpecTree may (f.Any p to a b rest) ns
  assert : {p : Place} {inner rest : Binds} {a : Arg} {ns : Nodes} → SpecTree may rest ns → SpecTree may (f.Assert p inner a rest) ns
  size : {p : Place} {to : List ℕ} {op : Op} {made : Option Rep} {us : List Arg} {rest : Binds} {ns : Nodes}
      → is_size op ≡ true → SpecTree may rest ns → SpecTree may (f.Apply_to p to op made us rest) ns
  operation : {p : Place} {to : List ℕ} {op : Op} {made : Option Rep} {us : List Arg} {rest : Binds} {ns : Nodes}
      → is_size op ≡ false → SpecTree may rest ns → SpecTree may (f.Apply_to p to op made us rest) (Op_node op (made_kind made) ns)
  choice : {p : Place} {to : List ℕ} {a : Arg} {x y rest : Binds} {xe ye : Ending} {xs ys ns : Nodes}
      → SpecTree may x xs → SpecTree may y ys → SpecTree may rest ns → SpecTree may (f.If p to a x xe y ye rest) (If_node xs ys ns)
  loop : {p : Place} {to vars : List ℕ} {us : List Arg} {cs x rest : Binds} {a : Arg} {xe : Ending} {xs ys ns : Nodes}
      → SpecTree may cs xs → SpecTree may x ys → SpecTree may rest ns → SpecTree may (f.While p to vars us cs a x xe rest) (While_node xs ys ns)
  par : {p : Place} {to : List ℕ} {x y rest : Binds} {xe ye : Ending} {xs ys ns : Nodes}
      → SpecTree may x xs → SpecTree may y ys → SpecTree may rest ns → SpecTree may (f.Par p to x xe y ye rest) (Both_node xs ys ns)
  split : {p : Place} {to : List ℕ} {list i j : ℕ} {at : Arg} {x y rest : Binds} {xe ye : Ending} {xs ys ns : Nodes}
      → SpecTree may x xs → SpecTree may y ys → SpecTree may rest ns → SpecTree may (f.Split p to list at i x xe j y ye rest) (Both_node xs ys ns)
  left : {p : Place} {to : List ℕ} {x y rest : Binds} {xe ye : Ending} {xs ns : Nodes}
      → may to true → SpecTree may x xs → SpecTree may rest ns → SpecTree may (f.Either p to x xe y ye rest) (then xs ns)
  right : {p : Place} {to : List ℕ} {x y rest : Binds} {xe ye : Ending} {ys ns : Nodes}
      → may to false → SpecTree may y ys → SpecTree may rest ns → SpecTree may (f.Either p to x xe y ye rest) (then ys ns)
  call : {p : Place} {to : List ℕ} {g : ℕ} {us : List Arg} {rest : Binds} {ns : Nodes}
      → SpecTree may rest ns → SpecTree may (f.Call p to g us rest) (Use_node (suc g) ns)

-- ---- programs

-- the operation that a library procedure is for, by its name, and the kind that a constructor makes
unfoldable pub library_op : List ℕ → Option (Op × Option Kind)
library_op name = in_table name (
    (codes "array_zeros", (o.Zeros, Some k.Array)) ∷ (codes "array_get", (o.Get, None)) ∷ (codes "array_set", (o.SetAt, None))
    ∷ (codes "array_swap", (o.Swap, None)) ∷ (codes "array_copy", (o.CopyList, None))
    ∷ (codes "vec_nil", (o.Nil, Some k.Vec)) ∷ (codes "vec_get", (o.Get, None)) ∷ (codes "vec_set", (o.SetAt, None)) ∷ (codes "vec_swap", (o.Swap, None))
    ∷ (codes "vec_push", (o.Push, None)) ∷ (codes "vec_pop", (o.Pop, None)) ∷ (codes "vec_copy", (o.CopyList, None))
    ∷ (codes "bits_empty", (o.EmptySet, Some k.Bits)) ∷ (codes "bits_has", (o.HasSet, None)) ∷ (codes "bits_insert", (o.Insert, None))
    ∷ (codes "bits_remove", (o.Remove, None)) ∷ (codes "bits_pick", (o.Pick, None)) ∷ (codes "bits_union", (o.Union, None))
    ∷ (codes "bits_elems", (o.Elems, None)) ∷ (codes "bits_copy", (o.CopySet, None))
    ∷ (codes "hset_empty", (o.EmptySet, Some k.Hset)) ∷ (codes "hset_has", (o.HasSet, None)) ∷ (codes "hset_insert", (o.Insert, None))
    ∷ (codes "hset_remove", (o.Remove, None)) ∷ (codes "hset_pick", (o.Pick, None)) ∷ (codes "hset_elems", (o.Elems, None)) ∷ (codes "hset_copy", (o.CopySet, None))
    ∷ (codes "amap_empty", (o.EmptyMap, Some k.Amap)) ∷ (codes "amap_has", (o.HasMap, None)) ∷ (codes "amap_lookup", (o.Lookup, None))
    ∷ (codes "amap_put", (o.Put, None)) ∷ (codes "amap_del", (o.Del, None)) ∷ (codes "amap_keys", (o.Keys, None)) ∷ (codes "amap_copy", (o.CopyMap, None))
    ∷ (codes "hmap_empty", (o.EmptyMap, Some k.Hmap)) ∷ (codes "hmap_has", (o.HasMap, None)) ∷ (codes "hmap_lookup", (o.Lookup, None))
    ∷ (codes "hmap_put", (o.Put, None)) ∷ (codes "hmap_del", (o.Del, None)) ∷ (codes "hmap_keys", (o.Keys, None)) ∷ (codes "hmap_copy", (o.CopyMap, None))
    ∷ (codes "heap_empty", (o.EmptyBag, Some k.Heap)) ∷ (codes "heap_add", (o.Add, None)) ∷ (codes "heap_minimum", (o.Minimum, None))
    ∷ (codes "heap_take_min", (o.TakeMin, None)) ∷ (codes "heap_copy", (o.CopyBag, None)) ∷ [])

-- constants, moves, arithmetic and frees are no nodes
abbrev pub is_plain : I.Instr-F Instr Code → Bool
is_plain (I.Const to v) = true
is_plain (I.Mov to from) = true
is_plain (I.Calc to w l r) = true
is_plain (I.Free b) = true
is_plain _ = false

-- a letter with each of so many numbers, from this one on
abbrev pub numbered : List ℕ → ℕ → ℕ → List (List ℕ)
numbered letter i zero = []
numbered letter i (suc n) = (letter ++ decimal i) ∷ numbered letter (suc i) n

-- code has these nodes, and its branches, inner ones too, have these names in text order; `own` is the number of procedures of the text, which are called
-- p1, p2 and so on. Code with a load, a store, an `alloc` or another call has none
pub data CodeTree (procs : List Proc) (own : ℕ) : List Instr → Nodes → List (List ℕ) → Type 0 where
  no_instr : CodeTree procs own [] End_node []
  plain : {i : Instr} {is : List Instr} {ns : Nodes} {bs : List (List ℕ)}
      → is_plain (out-Instr i) ≡ true → CodeTree procs own is ns bs → CodeTree procs own (i ∷ is) ns bs
  operation : {i : Instr} {is : List Instr} {ns : Nodes} {bs : List (List ℕ)} {to args : List ℕ} {name : List ℕ} {op : Op} {kind : Option Kind}
      → out-Instr i ≡ I.Call to name args → library_op name ≡ Some (op, kind)
      → CodeTree procs own is ns bs → CodeTree procs own (i ∷ is) (Op_node op kind ns) bs
  used : {i : Instr} {is : List Instr} {ns : Nodes} {bs : List (List ℕ)} {to args : List ℕ} {name : List ℕ} {j : ℕ}
      → out-Instr i ≡ I.Call to name args → j < own → name ≡ codes "p" ++ decimal (suc j)
      → CodeTree procs own is ns bs → CodeTree procs own (i ∷ is) (Use_node (suc j) ns) bs
  choice : {i : Instr} {is : List Instr} {xs ys ns : Nodes} {us bs cs : List (List ℕ)} {t : ℕ} {c d : Code}
      → out-Instr i ≡ I.If t c d → CodeTree procs own c.list xs us → CodeTree procs own d.list ys bs
      → CodeTree procs own is ns cs → CodeTree procs own (i ∷ is) (If_node xs ys ns) (us ++ (bs ++ cs))
  loop : {i : Instr} {is : List Instr} {xs ys ns : Nodes} {us bs cs : List (List ℕ)} {t : ℕ} {c d : Code}
      → out-Instr i ≡ I.While c t d → CodeTree procs own c.list xs us → CodeTree procs own d.list ys bs
      → CodeTree procs own is ns cs → CodeTree procs own (i ∷ is) (While_node xs ys ns) (us ++ (bs ++ cs))
  both : {i : Instr} {is : List Instr} {xs ys ns : Nodes} {us bs cs : List (List ℕ)} {l r : Branch} {p q : Proc}
      → out-Instr i ≡ I.Par l r → find procs l.proc ≡ Some p → find procs r.proc ≡ Some q
      → CodeTree procs own p.code.list xs us → CodeTree procs own q.code.list ys bs
      → CodeTree procs own is ns cs → CodeTree procs own (i ∷ is) (Both_node xs ys ns) (l.proc ∷ (us ++ (r.proc ∷ (bs ++ cs))))
