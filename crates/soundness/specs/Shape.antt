-- When a finished program has the shape of a specification.
use Rattle.std.specs.Prelude.{◌≡◌, ℕ, ◌⊎◌, Bool, IsTrue, List, [], ◌∷◌, ◌++◌, length, codes, Contains}
use Rattle.std.specs.Cmp.Lexicographic.{slice_cmp}
use Rattle.std.specs.Ordering.{nat_cmp, is_lt}
use Rattle.nres_core.specs.FlatTree.{Binds, FlatProc, FlatWhole}
use Rattle.target_code.specs.declared.tree.Code.{Code}
use Rattle.target_code.specs.declared.tree.Instr.{Instr, out-Instr}
use Rattle.target_code.specs.declared.tree.Instr.TheOpen as I
use Rattle.target_code.specs.declared.tree.Proc.{Proc}
use Rattle.target_code.specs.declared.tree.Program.{Program}
use Rattle.soundness.specs.Nodes.{Nodes, SpecTree, CodeTree, numbered}

abbrev pub names_of : List Proc → List (List ℕ)
names_of [] = []
names_of (q ∷ qs) = q.name ∷ names_of qs

-- the binds of the specification's own block, and then of its procedures in text order
abbrev pub bodies : List FlatProc → List Binds
bodies [] = []
bodies (g ∷ gs) = g.body.binds ∷ bodies gs

-- each block has the tree of its procedure's code, and the branches of all of them have these names in text order
abbrev pub SameTrees : (List ℕ → Bool → Type 0) → List Proc → ℕ → List Binds → List Proc → List (List ℕ) → Type 0
SameTrees may procs own [] [] bs = bs ≡ []
SameTrees may procs own (x ∷ xs) (q ∷ qs) bs =
    (ns : Nodes) × (us : List (List ℕ)) × (cs : List (List ℕ)) × SpecTree may x ns × CodeTree procs own q.code.list ns us × SameTrees may procs own xs qs cs × (bs ≡ us ++ cs)
SameTrees may procs own [] (q ∷ qs) bs = ⊥
SameTrees may procs own (x ∷ xs) [] bs = ⊥

-- code calls a procedure of this name, also inside blocks
pub data Calls : List Instr → List ℕ → Type 0 where
  here : {i : Instr} {is : List Instr} {to args name : List ℕ} → out-Instr i ≡ I.Call to name args → Calls (i ∷ is) name
  later : {i : Instr} {is : List Instr} {name : List ℕ} → Calls is name → Calls (i ∷ is) name
  in_yes : {i : Instr} {is : List Instr} {name : List ℕ} {t : ℕ} {c d : Code} → out-Instr i ≡ I.If t c d → Calls c.list name → Calls (i ∷ is) name
  in_no : {i : Instr} {is : List Instr} {name : List ℕ} {t : ℕ} {c d : Code} → out-Instr i ≡ I.If t c d → Calls d.list name → Calls (i ∷ is) name
  in_test : {i : Instr} {is : List Instr} {name : List ℕ} {t : ℕ} {c d : Code} → out-Instr i ≡ I.While c t d → Calls c.list name → Calls (i ∷ is) name
  in_body : {i : Instr} {is : List Instr} {name : List ℕ} {t : ℕ} {c d : Code} → out-Instr i ≡ I.While c t d → Calls d.list name → Calls (i ∷ is) name

-- a name that is called in the program's own procedures, or in a helper that is called
pub data IsNeeded (own helpers : List Proc) : List ℕ → Type 0 where
  directly : {q : Proc} {name : List ℕ} → Contains own q → Calls q.code.list name → IsNeeded own helpers name
  by_helper : {q : Proc} {name : List ℕ} → Contains helpers q → IsNeeded own helpers q.name → Calls q.code.list name → IsNeeded own helpers name

-- names rise, as bytes
abbrev pub AreRising : List (List ℕ) → Type 0
AreRising [] = Unit {0}
AreRising (x ∷ []) = Unit {0}
AreRising (x ∷ y ∷ ys) = IsTrue (is_lt (slice_cmp nat_cmp x y)) × AreRising (y ∷ ys)

-- a program over a library has the shape of a flat specification, where each `either` has a side that may be taken
pub record HasShape (may : List ℕ → Bool → Type 0) (library : List Proc) (f : FlatWhole) (T : Program) : Type 0 where
  pub main : Proc
  pub own : List Proc
  pub branches : List Proc
  pub called : List Proc
  -- the inputs are the parameters with their representations and whether they are kept, the results those shown
  pub ins : T.ins ≡ f.params
  pub outs : T.outs ≡ f.shown
  -- the procedures are `main`, p1, p2 and so on, the branches b1, b2 and so on, and then the library's that are called, by name
  pub procs : T.procs ≡ main ∷ (own ++ (branches ++ called))
  pub main_name : main.name ≡ codes "main"
  pub own_names : names_of own ≡ numbered (codes "p") 1 (length f.procs)
  pub branch_names : names_of branches ≡ numbered (codes "b") 1 (length branches)
  pub rising : AreRising (names_of called)
  pub no_more : (q : Proc) → Contains called q → IsNeeded (main ∷ (own ++ branches)) called q.name
  -- the trees are the same, and the branches stand in text order
  pub trees : SameTrees may T.procs (length f.procs) (f.body.binds ∷ bodies f.procs) (main ∷ own) (names_of branches)
  -- what is called by name, in helpers too, is a procedure of the text or is the library's, word for word
  pub known : (name : List ℕ) → IsNeeded (main ∷ (own ++ branches)) called name → Contains (names_of own) name ⊎ Contains (names_of called) name
  pub word_for_word : (q : Proc) → Contains called q → Contains library q

-- any side of an `either`
abbrev pub any_side : List ℕ → Bool → Type 0
any_side to left = Unit {0}

-- a program over a library has the shape of a flat specification
abbrev pub Shape : List Proc → FlatWhole → Program → Type 0
Shape library f T = HasShape any_side library f T

-- the same, where the program has that side of each `either` which is taken where these variables are bound, the left one where `true`
abbrev pub Made : (List ℕ → Bool) → List Proc → FlatWhole → Program → Type 0
Made side library f T = HasShape (λ to left. side to ≡ left) library f T
