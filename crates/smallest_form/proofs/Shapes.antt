-- The shapes of the programs.
use denote.Hole.Carrier
use Rattle.std.proofs.Common.{◌≡◌, ℕ, zero, suc, inr, List, [], ◌∷◌, refl, sym, subst, arith, lit<}
use Rattle.std.specs.Prelude.{codes, Contains, None}
use Rattle.nres_core.specs.FlatTree.{FlatWhole}
use Rattle.nres_core.specs.declared.op.Op.TheVariants as o
use Rattle.target_code.specs.declared.tree.InParam.{InParam}
use Rattle.target_code.specs.declared.tree.Instr.{Instr, out-Instr}
use Rattle.target_code.specs.declared.tree.Instr.TheVariants.{Const}
use Rattle.target_code.specs.declared.tree.Proc.{Proc}
use Rattle.target_code.specs.declared.tree.Rep.TheVariants as rep
use Rattle.soundness.specs.Nodes as n
use Rattle.soundness.specs.Nodes.{SpecTree, CodeTree, library_op}
use Rattle.soundness.specs.Samples.{array_get}
use Rattle.soundness.specs.Shape as s
use Rattle.soundness.specs.Shape.{Shape, Calls, IsNeeded, any_side}
use Rattle.smallest_form.specs.Programs.{number_main, element_main, after_main, get_call}

-- ---- what is called

-- code that calls nothing
abbrev CallsNothing : List Instr → Type 0
CallsNothing is = (name : List ℕ) → Calls is name → ⊥

const_alone : (to v : ℕ) → CallsNothing (Const to v ∷ [])
unfolding out-Instr Carrier.out
const_alone to v name (s.here e) = cc e
const_alone to v name (s.later c) = elim c [ ]
const_alone to v name (s.in_yes e c) = cc e
const_alone to v name (s.in_no e c) = cc e
const_alone to v name (s.in_test e c) = cc e
const_alone to v name (s.in_body e c) = cc e

no_code : CallsNothing []
no_code name c = elim c [ ]

get_alone : CallsNothing array_get.code.list
unfolding out-Instr Carrier.out
get_alone name (s.here e) = cc e
get_alone name (s.in_yes e c) = cc e
get_alone name (s.in_no e c) = cc e
get_alone name (s.in_test e c) = cc e
get_alone name (s.in_body e c) = cc e
get_alone name (s.later (s.here e)) = cc e
get_alone name (s.later (s.later c)) = elim c [ ]
get_alone name (s.later (s.in_yes e c)) = cc e
get_alone name (s.later (s.in_no e c)) = cc e
get_alone name (s.later (s.in_test e c)) = cc e
get_alone name (s.later (s.in_body e c)) = cc e

-- the call of `array_get`, and then code that calls nothing
calls_get : (i : ℕ) (rest : List Instr) → CallsNothing rest → (name : List ℕ) → Calls (Const 3 i ∷ get_call ∷ rest) name → codes "array_get" ≡ name
unfolding out-Instr Carrier.out
calls_get i rest alone name (s.here e) = absurd (cc e)
calls_get i rest alone name (s.in_yes e c) = absurd (cc e)
calls_get i rest alone name (s.in_no e c) = absurd (cc e)
calls_get i rest alone name (s.in_test e c) = absurd (cc e)
calls_get i rest alone name (s.in_body e c) = absurd (cc e)
calls_get i rest alone name (s.later (s.here e)) = cc e
calls_get i rest alone name (s.later (s.later c)) = absurd (alone name c)
calls_get i rest alone name (s.later (s.in_yes e c)) = absurd (cc e)
calls_get i rest alone name (s.later (s.in_no e c)) = absurd (cc e)
calls_get i rest alone name (s.later (s.in_test e c)) = absurd (cc e)
calls_get i rest alone name (s.later (s.in_body e c)) = absurd (cc e)

contains_one : (a q : Proc) → Contains (a ∷ []) q → a ≡ q
contains_one a q (zero, h, e) = e
contains_one a q (suc k, h, e) = absurd (let d : ⊥ = omega (arith, h) in d)

abbrev no_procs : List Proc
no_procs = []

contains_none : (q : Proc) → Contains no_procs q → ⊥
contains_none q (k, h, e) = omega (arith, h)

-- ---- a program of `main` alone

module _ (f : FlatWhole) (ins : List InParam) (main : Proc) where
  none_needed : CallsNothing main.code.list → (name : List ℕ) → IsNeeded (main ∷ []) [] name → ⊥
  none_needed alone name (s.directly {q = q} has call) = alone name (subst (λ (x : Proc). Calls x.code.list name) (sym (contains_one main q has)) call)
  none_needed alone name (s.by_helper {q = q} has need call) = contains_none q has

  pub alone_shape : f.params ≡ ins → f.shown ≡ rep.Word ∷ [] → f.procs ≡ [] → main.name ≡ codes "main" → CallsNothing main.code.list
      → SpecTree any_side f.body.binds n.End_node → CodeTree (main ∷ []) 0 main.code.list n.End_node []
      → Shape (array_get ∷ []) f (record { ins = ins; outs = rep.Word ∷ []; procs = main ∷ [] })
  alone_shape same shown none name alone tree code = record {
    main = main;
    own = [];
    branches = [];
    called = [];
    ins = sym same;
    outs = sym shown;
    procs = refl;
    main_name = name;
    own_names = rw none refl;
    branch_names = refl;
    rising = tt;
    no_more = λ q has. absurd (contains_none q has);
    trees = rw none (n.End_node, [], [], tree, code, refl, refl);
    known = λ x need. absurd (none_needed alone x need);
    word_for_word = λ q has. absurd (contains_none q has);
  }

-- ---- a program of `main` and `array_get`

module _ (f : FlatWhole) (ins : List InParam) (main : Proc) where
  get_known : ((name : List ℕ) → Calls main.code.list name → codes "array_get" ≡ name) → (name : List ℕ) → IsNeeded (main ∷ []) (array_get ∷ []) name → codes "array_get" ≡ name
  get_known only name (s.directly {q = q} has call) = only name (subst (λ (x : Proc). Calls x.code.list name) (sym (contains_one main q has)) call)
  get_known only name (s.by_helper {q = q} has need call) = absurd (get_alone name (subst (λ (x : Proc). Calls x.code.list name) (sym (contains_one array_get q has)) call))

  pub get_shape : f.params ≡ ins → f.shown ≡ rep.Word ∷ [] → f.procs ≡ [] → main.name ≡ codes "main"
      → ((name : List ℕ) → Calls main.code.list name → codes "array_get" ≡ name) → Calls main.code.list (codes "array_get")
      → SpecTree any_side f.body.binds (n.Op_node o.Get None n.End_node) → CodeTree (main ∷ array_get ∷ []) 0 main.code.list (n.Op_node o.Get None n.End_node) []
      → Shape (array_get ∷ []) f (record { ins = ins; outs = rep.Word ∷ []; procs = main ∷ array_get ∷ [] })
  get_shape same shown none name only call tree code = record {
    main = main;
    own = [];
    branches = [];
    called = array_get ∷ [];
    ins = sym same;
    outs = sym shown;
    procs = refl;
    main_name = name;
    own_names = rw none refl;
    branch_names = refl;
    rising = tt;
    no_more = λ q has. subst (λ (x : Proc). IsNeeded (main ∷ []) (array_get ∷ []) x.name) (contains_one array_get q has) (s.directly {q = main} (0, lit< tt, refl) call);
    trees = rw none (n.Op_node o.Get None n.End_node, [], [], tree, code, refl, refl);
    known = λ x need. inr (0, lit< tt, get_known only x need);
    word_for_word = λ q has. has;
  }

-- ---- the three programs

module _ (f : FlatWhole) (ins : List InParam) (same : f.params ≡ ins) (shown : f.shown ≡ rep.Word ∷ []) (none : f.procs ≡ []) where
  pub number_shape : (args k : ℕ) → SpecTree any_side f.body.binds n.End_node → Shape (array_get ∷ []) f (record { ins = ins; outs = rep.Word ∷ []; procs = number_main args k ∷ [] })
  unfolding out-Instr Carrier.out
  number_shape args k tree = alone_shape f ins (number_main args k) same shown none refl (const_alone args k) tree (n.plain refl n.no_instr)

  pub element_shape : (i : ℕ) → SpecTree any_side f.body.binds (n.Op_node o.Get None n.End_node) → Shape (array_get ∷ []) f (record { ins = ins; outs = rep.Word ∷ []; procs = element_main i ∷ array_get ∷ [] })
  unfolding out-Instr Carrier.out library_op
  element_shape i tree = get_shape f ins (element_main i) same shown none refl (calls_get i [] no_code) (s.later (s.here refl)) tree (n.plain refl (n.operation refl refl n.no_instr))

  pub after_shape : (i k : ℕ) → SpecTree any_side f.body.binds (n.Op_node o.Get None n.End_node) → Shape (array_get ∷ []) f (record { ins = ins; outs = rep.Word ∷ []; procs = after_main i k ∷ array_get ∷ [] })
  unfolding out-Instr Carrier.out library_op
  after_shape i k tree = get_shape f ins (after_main i k) same shown none refl (calls_get i (Const 5 k ∷ []) (const_alone 5 k)) (s.later (s.here refl)) tree (n.plain refl (n.operation refl refl (n.plain refl n.no_instr)))
