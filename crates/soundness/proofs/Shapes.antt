-- The shape of two small programs.
use denote.Hole.Carrier
use Rattle.std.proofs.Common.{◌≡◌, ℕ, zero, suc, inr, Bool, true, List, [], ◌∷◌, refl, sym, ap, subst, arith, lit<}
use Rattle.std.specs.Fmt.{digits}
use Rattle.std.specs.Prelude.{codes, Contains, None}
use Rattle.nres_core.specs.declared.op.Op.TheVariants as o
use Rattle.target_code.specs.declared.tree.Instr.{out-Instr}
use Rattle.target_code.specs.declared.tree.Instr.TheVariants.{Const, Call, outs-If}
use Rattle.target_code.specs.declared.tree.Proc.{Proc}
use Rattle.target_meaning.specs.Samples.{reading, proc_of}
use Rattle.soundness.specs.Laws.{FirstHasShape, ParHasShape, SequenceIsNoPar, NodesSeen}
use Rattle.soundness.specs.Nodes as n
use Rattle.soundness.specs.Nodes.{Nodes, SpecTree, CodeTree, library_op}
use Rattle.soundness.specs.Samples.{array_get, get_code, side_proc, two_main, two_program, get_at, get_node, get_or_not, two_choices, gives_three, no_choice, one_load, one_by_one}
use Rattle.soundness.specs.Shape as s
use Rattle.soundness.specs.Shape.{any_side, Calls, IsNeeded}

-- ---- one branch after the other

not_both : (procs : List Proc) (own : ℕ) (xs ys ns : Nodes) (bs : List (List ℕ)) → CodeTree procs own one_by_one (n.Both_node xs ys ns) bs → ⊥
unfolding out-Instr Carrier.out
not_both procs own xs ys ns bs (n.plain e (n.plain d t)) = cc d
not_both procs own xs ys ns bs (n.plain e (n.both d a b t u w)) = cc d
not_both procs own xs ys ns bs (n.both e a b t u w) = cc e

pub sequence_is_no_par : SequenceIsNoPar
sequence_is_no_par procs own ns bs (n.par x y rest) code = not_both procs own _ _ _ bs code

-- ---- choices and a load

empty_choice : CodeTree [] 0 no_choice (n.If_node n.End_node n.End_node n.End_node) []
unfolding out-Instr Carrier.out
empty_choice = n.choice (outs-If 0 (record { list = [] }) (record { list = [] })) n.no_instr n.no_instr n.no_instr

of_get : (may : List ℕ → Bool → Type 0) (to i : ℕ) (ns : Nodes) → SpecTree may (get_at to i) ns → ns ≡ get_node
of_get may to i ns (n.size e rest) = absurd (cc e)
of_get may to i ns (n.operation e n.no_bind) = refl

taken : (ns : Nodes) → SpecTree (λ to left. true ≡ left) get_or_not ns → ns ≡ get_node
taken ns (n.left m x n.no_bind) = ap (λ (z : Nodes). n.then z n.End_node) (of_get (λ to left. true ≡ left) 1 0 _ x)
taken ns (n.right m x rest) = absurd (cc m)

-- of two at one place the left side of the first and the right one of the second
abbrev of_three : List ℕ → Bool → Type 0
of_three to left = gives_three to ≡ left

each : SpecTree of_three two_choices get_node
each = n.left {ns = n.End_node} refl (n.operation refl n.no_bind) (n.right {ns = n.End_node} refl n.no_bind n.no_bind)

each_alone : (ns : Nodes) → SpecTree of_three two_choices ns → ns ≡ get_node
each_alone ns (n.right m x rest) = absurd (cc m)
each_alone ns (n.left m x (n.left m' x' rest)) = absurd (cc m')
each_alone ns (n.left m x (n.right m' n.no_bind n.no_bind)) = ap (λ (z : Nodes). n.then z n.End_node) (of_get of_three 1 0 _ x)

no_load : (procs : List Proc) (own : ℕ) (ns : Nodes) (bs : List (List ℕ)) → ¬ CodeTree procs own one_load ns bs
unfolding out-Instr Carrier.out
no_load procs own ns bs (n.plain e t) = cc e
no_load procs own ns bs (n.operation e d t) = cc e
no_load procs own ns bs (n.used e a d t) = cc e
no_load procs own ns bs (n.choice e t u w) = cc e
no_load procs own ns bs (n.loop e t u w) = cc e
no_load procs own ns bs (n.both e a b t u w) = cc e

pub nodes_seen : NodesSeen
nodes_seen = record {
  choice = empty_choice;
  left = n.left tt (n.operation refl n.no_bind) n.no_bind;
  right = n.right tt n.no_bind n.no_bind;
  taken = taken;
  each = each;
  each_alone = each_alone;
  load = no_load;
}

-- ---- the smallest program

abbrev main : Proc
main = proc_of (codes "main") 3 5 (Const 3 0 ∷ Call (4 ∷ []) (codes "array_get") (0 ∷ 1 ∷ 2 ∷ 3 ∷ []) ∷ []) (4 ∷ [])

contains_one : (a q : Proc) → Contains (a ∷ []) q → a ≡ q
contains_one a q (zero, h, e) = e
contains_one a q (suc k, h, e) = absurd (let d : ⊥ = omega (arith, h) in d)

calls_get : (i : ℕ) (name : List ℕ) → Calls (get_code i) name → codes "array_get" ≡ name
unfolding out-Instr Carrier.out
calls_get i name (s.here e) = absurd (cc e)
calls_get i name (s.in_yes e c) = absurd (cc e)
calls_get i name (s.in_no e c) = absurd (cc e)
calls_get i name (s.in_test e c) = absurd (cc e)
calls_get i name (s.in_body e c) = absurd (cc e)
calls_get i name (s.later (s.here e)) = cc e
calls_get i name (s.later (s.later c)) = elim c [ ]
calls_get i name (s.later (s.in_yes e c)) = absurd (cc e)
calls_get i name (s.later (s.in_no e c)) = absurd (cc e)
calls_get i name (s.later (s.in_test e c)) = absurd (cc e)
calls_get i name (s.later (s.in_body e c)) = absurd (cc e)

calls_none : (name : List ℕ) → Calls array_get.code.list name → ⊥
unfolding out-Instr Carrier.out
calls_none name (s.here e) = cc e
calls_none name (s.in_yes e c) = cc e
calls_none name (s.in_no e c) = cc e
calls_none name (s.in_test e c) = cc e
calls_none name (s.in_body e c) = cc e
calls_none name (s.later (s.here e)) = cc e
calls_none name (s.later (s.later c)) = elim c [ ]
calls_none name (s.later (s.in_yes e c)) = cc e
calls_none name (s.later (s.in_no e c)) = cc e
calls_none name (s.later (s.in_test e c)) = cc e
calls_none name (s.later (s.in_body e c)) = cc e

needed : IsNeeded (main ∷ []) (array_get ∷ []) (codes "array_get")
unfolding out-Instr Carrier.out
needed = s.directly {q = main} (0, lit< tt, refl) (s.later (s.here refl))

known : (name : List ℕ) → IsNeeded (main ∷ []) (array_get ∷ []) name → codes "array_get" ≡ name
known name (s.directly {q = q} has call) = calls_get 0 name (subst (λ (x : Proc). Calls x.code.list name) (sym (contains_one main q has)) call)
known name (s.by_helper {q = q} has need call) = absurd (calls_none name (subst (λ (x : Proc). Calls x.code.list name) (sym (contains_one array_get q has)) call))

code_tree : CodeTree reading 0 main.code.list (n.Op_node o.Get None n.End_node) []
unfolding out-Instr Carrier.out library_op
code_tree = n.plain refl (n.operation refl refl n.no_instr)

pub first_has_shape : FirstHasShape
first_has_shape = record {
  main = main;
  own = [];
  branches = [];
  called = array_get ∷ [];
  ins = refl;
  outs = refl;
  procs = refl;
  main_name = refl;
  own_names = refl;
  branch_names = refl;
  rising = tt;
  no_more = λ q has. subst (λ (x : Proc). IsNeeded (main ∷ []) (array_get ∷ []) x.name) (contains_one array_get q has) needed;
  trees = (n.Op_node o.Get None n.End_node, [], [], n.operation refl n.no_bind, code_tree, refl, refl);
  known = λ name need. inr (0, lit< tt, known name need);
  word_for_word = λ q has. has;
}

-- ---- two branches

abbrev roots : List Proc
roots = two_main ∷ side_proc (codes "b1") 0 ∷ side_proc (codes "b2") 1 ∷ []

calls_par : (name : List ℕ) → Calls two_main.code.list name → codes "array_get" ≡ name
unfolding out-Instr Carrier.out
calls_par name (s.here e) = absurd (cc e)
calls_par name (s.later c) = elim c [ ]
calls_par name (s.in_yes e c) = absurd (cc e)
calls_par name (s.in_no e c) = absurd (cc e)
calls_par name (s.in_test e c) = absurd (cc e)
calls_par name (s.in_body e c) = absurd (cc e)

calls_root : (q : Proc) (name : List ℕ) → Contains roots q → Calls q.code.list name → codes "array_get" ≡ name
calls_root q name (zero, h, e) c = calls_par name (subst (λ (x : Proc). Calls x.code.list name) (sym e) c)
calls_root q name (suc zero, h, e) c = calls_get 0 name (subst (λ (x : Proc). Calls x.code.list name) (sym e) c)
calls_root q name (suc (suc zero), h, e) c = calls_get 1 name (subst (λ (x : Proc). Calls x.code.list name) (sym e) c)
calls_root q name (suc (suc (suc k)), h, e) c = absurd (let d : ⊥ = omega (arith, h) in d)

par_known : (name : List ℕ) → IsNeeded roots (array_get ∷ []) name → codes "array_get" ≡ name
par_known name (s.directly {q = q} has call) = calls_root q name has call
par_known name (s.by_helper {q = q} has need call) = absurd (calls_none name (subst (λ (x : Proc). Calls x.code.list name) (sym (contains_one array_get q has)) call))

par_needed : IsNeeded roots (array_get ∷ []) (codes "array_get")
unfolding out-Instr Carrier.out
par_needed = s.directly {q = side_proc (codes "b1") 0} (1, lit< tt, refl) (s.later (s.here refl))

side_tree : (procs : List Proc) (i : ℕ) → CodeTree procs 0 (get_code i) get_node []
unfolding out-Instr Carrier.out library_op
side_tree procs i = n.plain refl (n.operation refl refl n.no_instr)

par_tree : CodeTree two_program.procs 0 two_main.code.list (n.Both_node get_node get_node n.End_node) (codes "b1" ∷ codes "b2" ∷ [])
unfolding out-Instr Carrier.out
par_tree = n.both {p = side_proc (codes "b1") 0} {q = side_proc (codes "b2") 1} refl refl refl (side_tree _ 0) (side_tree _ 1) n.no_instr

branch_names : (codes "b1" ∷ codes "b2" ∷ []) ≡ n.numbered (codes "b") 1 2
unfolding digits
branch_names = refl

pub par_has_shape : ParHasShape
par_has_shape = record {
  main = two_main;
  own = [];
  branches = side_proc (codes "b1") 0 ∷ side_proc (codes "b2") 1 ∷ [];
  called = array_get ∷ [];
  ins = refl;
  outs = refl;
  procs = refl;
  main_name = refl;
  own_names = refl;
  branch_names = branch_names;
  rising = tt;
  no_more = λ q has. subst (λ (x : Proc). IsNeeded roots (array_get ∷ []) x.name) (contains_one array_get q has) par_needed;
  trees = (
    n.Both_node get_node get_node n.End_node,
    codes "b1" ∷ codes "b2" ∷ [],
    [],
    n.par (n.operation refl n.no_bind) (n.operation refl n.no_bind) n.no_bind,
    par_tree,
    refl,
    refl,
  );
  known = λ name need. inr (0, lit< tt, par_known name need);
  word_for_word = λ q has. has;
}
