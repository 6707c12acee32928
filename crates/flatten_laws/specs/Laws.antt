-- The laws, as facts.
use Rattle.std.specs.Prelude.{◌≡◌, ◌↔◌, ◌+◌, ◌*◌, ◌≤◌, ℕ, List, length}
use Rattle.nres_core.specs.FlatTree.{FlatWhole, flat_whole_of}
use Rattle.nres_rules.specs.FlatTyped as flat
use Rattle.nres_rules.specs.Flatten.{Scope, flat_blk, flat_of, place_of}
use Rattle.nres_rules.specs.Identify.{Identifies, IsFlatOf}
use Rattle.nres_core.specs.Mirror.{whole_of, id_whole_of}
use Rattle.nres_core.specs.Runs.{Runs}
use Rattle.nres_core.specs.Texts.{SpecText}
use Rattle.nres_core.specs.Tree.{Blk}
use Rattle.nres_rules.specs.Typed.{IsTyped}
use Rattle.nres_rules.specs.Types.{HasTyping, param_types}
use Rattle.nres_core.specs.declared.flat.Flat.{Flat}
use Rattle.nres_core.specs.declared.identified.Identified.{Identified}
use Rattle.nres_core.specs.declared.op.Op.{Op}
use Rattle.nres_core.specs.declared.tree.Param.{Param}
use Rattle.nres_core.specs.declared.tree.Spec.{Spec}
use Rattle.nres_core.specs.declared.tree.Typing.{Typing}
use Rattle.nres_core.specs.declared.tree.With.{With}
use Rattle.nres_core.specs.declared.value.Value.{Value}
use Rattle.nres_meaning.specs.Allowed.{Allows, CanFail, Ends, FlatAllows, FlatCanFail, FlatEnds}
use Rattle.nres_meaning.specs.FlatMeaning.{Vars, flat_runs}
use Rattle.nres_meaning.specs.Meaning.{blk_runs, whole_runs}
use Rattle.nres_meaning.specs.WordOperations.{op_named, known}
use Rattle.identify_laws.specs.Binders.{BindersNamed}
use Rattle.identify_laws.specs.Environments.{InStep}
use Rattle.identify_laws.specs.Laws.{Agree, Same}
use Rattle.identify_laws.specs.Taken.{SpecTakes}
use Rattle.identify_laws.specs.Trees.{id_size_of, id_loops_of, id_nesting_of}
use Rattle.identify_laws.specs.Values.{AllOf}
use Rattle.flatten_laws.specs.Environments.{CallsAgree, Fits, flat_part, seen}
use Rattle.flatten_laws.specs.Filled.{IsFilled}
use Rattle.flatten_laws.specs.Needs.{need_of, flat_nesting_of}
use Rattle.flatten_laws.specs.Served.{Counted, IsServed, Numbered, Served}

-- ---- sizes

-- a flat tree needs at most 15 times the size of its tree
abbrev pub NeedIsBounded : Type 0
NeedIsBounded = (p : Identified) → need_of (flat_of p) ≤ 15 * id_size_of p

-- where each loop over a set has variables and values for them, 9 times are enough, and 8 times where each set that is looped over counts once more
pub record FilledNeeds (p : Identified) : Type 0 where
  pub nine : need_of (flat_of p) ≤ 9 * id_size_of p
  pub eight : need_of (flat_of p) ≤ 8 * (id_size_of p + id_loops_of p)

abbrev pub FilledNeedLess : Type 0
FilledNeedLess = (p : Identified) → IsFilled p → FilledNeeds p

-- so it is in each typed tree
abbrev pub TypedAreFilled : Type 0
TypedAreFilled = (p : Identified) → IsTyped p → IsFilled p

-- neither 15 nor 9 can be less
pub record NoFewerTimes : Type 0 where
  pub of_all : ¬ ((p : Identified) → need_of (flat_of p) ≤ 14 * id_size_of p)
  pub of_typed : ¬ ((p : Identified) → IsTyped p → need_of (flat_of p) ≤ 8 * id_size_of p)

-- the blocks of a flat tree nest no deeper than those of its tree
abbrev pub NestsNoDeeper : Type 0
NestsNoDeeper = (p : Identified) → flat_nesting_of (flat_of p) ≤ id_nesting_of p

-- the flat tree of a text needs at most 8 for each byte, and its blocks nest no deeper than blocks may be open
pub record TextNeeds (text : List ℕ) (f : FlatWhole) : Type 0 where
  pub eight : need_of f ≤ 8 * length text
  pub limit : length text ≤ 1048576 → need_of f ≤ 8388608
  pub nesting : flat_nesting_of f ≤ 64

abbrev pub TextsNeed : Type 0
TextsNeed = (text : List ℕ) (p : Spec) (ws : List With) (f : FlatWhole) → SpecText text p ws → IsFlatOf p f → TextNeeds text f

-- ---- types

-- the flat tree of a typed tree whose binders are names is typed
abbrev pub TypedTreesStayTyped : Type 0
TypedTreesStayTyped = (p : Identified) (q : Flat) → flat_whole_of q ≡ flat_of p → IsTyped p → BindersNamed p → flat.IsTyped q

-- so is the flat tree of a typed text
abbrev pub FlatTreesOfTextsAreTyped : Type 0
FlatTreesOfTextsAreTyped = (text : List ℕ) (p : Spec) (ws : List With) (u : Typing) (q : Identified) (f : Flat)
    → SpecText text p ws → HasTyping p u → Identifies p u q → flat_whole_of f ≡ flat_of q → flat.IsTyped f

-- ---- meaning

-- with any bound on turns, any meaning of calls and any values of its names, a flat block does what its block does
abbrev pub FlatBlocksKeep : Type 0
FlatBlocksKeep =
    (number : List ℕ → ℕ) (n : ℕ) (call : ℕ → List ℕ → List Value → Runs (List Value)) (other : ℕ → List Value → Runs (List Value)) → CallsAgree number call other
    → (b : Blk Op) (s : Scope) (k : ℕ) (env : Vars) → Fits k s → Served b → InStep (blk_runs known n call b (seen s env)) (flat_part n other (place_of b) (flat_blk number b s k) env)

-- with any bound on turns and calls, and on any inputs, a flat tree does what its tree does
abbrev pub FlatteningKeeps : Type 0
FlatteningKeeps = (p : Identified) → IsServed p → (n d : ℕ) (us : List Value) → Same (whole_runs known n d (id_whole_of p) us) (flat_runs n d (flat_of p) us)

-- where each list that is split is a variable, a block behind its parameters has as many variables as its binds bind
abbrev pub NumberedAreCounted : Type 0
NumberedAreCounted = (number : List ℕ → ℕ) (xs : List Param) (b : Blk Op) (k : ℕ) → Numbered number xs b k → Counted number xs b k

-- a typed tree with operations for its words is served
abbrev pub TreesAreServed : Type 0
TreesAreServed = (p : Identified) → IsTyped p → IsServed p

-- so is one that is identified from a typed tree
abbrev pub TypedAreServed : Type 0
TypedAreServed = (p : Spec) (u : Typing) (q : Identified) → SpecTakes p → HasTyping p u → Identifies p u q → IsServed q

-- on these inputs a flat tree allows what the specification does, can fail where it can, and ends where it does
pub record SameMeaning (p : Spec) (f : Flat) (us : List Value) : Type 0 where
  pub runs : (n d : ℕ) → Agree (whole_runs op_named n d (whole_of p) us) (flat_runs n d (flat_whole_of f) us)
  pub allows : (vs : List Value) → Allows p us vs ↔ FlatAllows f us vs
  pub can_fail : CanFail p us ↔ FlatCanFail f us
  pub ends : (n : ℕ) → Ends n p us ↔ FlatEnds n f us

-- so it is of the flat tree of a typed specification, on inputs of the parameters' types
abbrev pub MeaningKept : Type 0
MeaningKept = (p : Spec) (f : Flat) → SpecTakes p → IsFlatOf p (flat_whole_of f) → (us : List Value) → AllOf (param_types p.params) us → SameMeaning p f us
