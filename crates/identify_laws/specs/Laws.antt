-- The laws, as facts.
use Rattle.std.specs.Prelude.{◌≡◌, ◌↔◌, ℕ, List, map, Some, None}
use Rattle.nres_rules.specs.Identify.{Identifies, id_blk}
use Rattle.nres_core.specs.Mirror.{whole_of, id_whole_of}
use Rattle.nres_core.specs.Runs.{Runs, Gives, Fails, Overruns}
use Rattle.nres_core.specs.Sizes.{size_of, loops_of, nesting_of}
use Rattle.nres_core.specs.Texts.{SpecText}
use Rattle.nres_core.specs.Tree.{Blk, Word}
use Rattle.nres_rules.specs.Typed.{Scope, IsTyped}
use Rattle.nres_rules.specs.Types.{HasTyping, Profile, blk_type, param_types, refusal_of, some_types, spec_type, types_of}
use Rattle.nres_core.specs.declared.identified.Identified.{Identified}
use Rattle.nres_core.specs.declared.op.Op.{Op}
use Rattle.nres_core.specs.declared.tree.Spec.{Spec}
use Rattle.nres_core.specs.declared.tree.Typing.{Typing}
use Rattle.nres_core.specs.declared.tree.With.{With}
use Rattle.nres_core.specs.declared.ty.Ty.{Ty}
use Rattle.nres_core.specs.declared.value.Value.{Value}
use Rattle.nres_meaning.specs.Meaning.{Env, blk_runs, whole_runs}
use Rattle.nres_meaning.specs.WordOperations.{op_named, known}
use Rattle.typing_laws.specs.Known.{some_names}
use Rattle.identify_laws.specs.Binders.{BindersNamed}
use Rattle.identify_laws.specs.Environments.{InStep, Fit, Keeps, CallsKeep}
use Rattle.identify_laws.specs.Taken.{SpecTakes, Takes}
use Rattle.identify_laws.specs.Trees.{id_size_of, id_loops_of, id_nesting_of}
use Rattle.identify_laws.specs.Values.{AllOf}

-- ---- sizes

-- identification keeps the size of a tree, and how deep its blocks nest
pub record KeepsSizes (p : Spec) (q : Identified) : Type 0 where
  pub size : id_size_of q ≡ size_of p
  pub nesting : id_nesting_of q ≡ nesting_of p

abbrev pub SizesKept : Type 0
SizesKept = (p : Spec) (u : Typing) (q : Identified) → Identifies p u q → KeepsSizes p q

-- and its loops over sets
abbrev pub LoopsKept : Type 0
LoopsKept = (p : Spec) (u : Typing) (q : Identified) → Identifies p u q → id_loops_of q ≡ loops_of p

-- ---- types

-- a typed tree whose binders are names
pub record TypedAndNamed (q : Identified) : Type 0 where
  pub typed : IsTyped q
  pub binders : BindersNamed q

-- the tree of a typed text with operations for its words
abbrev pub TextsAreTyped : Type 0
TextsAreTyped = (text : List ℕ) (p : Spec) (ws : List With) (u : Typing) (q : Identified) → SpecText text p ws → HasTyping p u → Identifies p u q → TypedAndNamed q

-- the tree with the operations that typing gives a text's words is typed exactly where typing refuses nothing
abbrev pub TypedExactly : Type 0
TypedExactly = (text : List ℕ) (p : Spec) (ws : List With) (u : Typing) (q : Identified) → SpecText text p ws → Identifies p u q → (spec_type p).words ≡ map (λ op. Some op) u.words → IsTyped q ↔ (refusal_of p ≡ None)

-- ---- meaning

-- the same results, the same failing, and the same turns and calls too many
pub record Agree (r s : Runs (List Value)) : Type 0 where
  pub gives : (vs : List Value) → Gives r vs ↔ Gives s vs
  pub fails : Fails r ↔ Fails s
  pub overruns : Overruns r ↔ Overruns s

-- so it is of what goes in step
pub record Same (r s : Runs (List Value)) : Type 0 where
  pub in_step : InStep r s
  pub gives : (vs : List Value) → Gives r vs ↔ Gives s vs
  pub fails : Fails r ↔ Fails s
  pub overruns : Overruns r ↔ Overruns s

-- with any bound on turns, any meaning of calls and any values of its names' types, a typed block does what the same does with operations for its words
abbrev pub IdentifiedBlocksKeep : Type 0
IdentifiedBlocksKeep =
    (procs : List Profile) (n : ℕ) (call other : ℕ → List ℕ → List Value → Runs (List Value)) → CallsKeep procs call other
    → (b : Blk Word) (g : Scope) (ops : List Op) (us : List Ty) (env : Env) → Takes b → (blk_type procs b (some_names g)).refusal ≡ None
    → (blk_type procs b (some_names g)).words ≡ map (λ op. Some op) ops → types_of (blk_type procs b (some_names g)).heads ≡ some_types us → Fit g env
    → Keeps (AllOf us) (blk_runs op_named n call b env) (blk_runs known n other (id_blk b ops).0 env)

-- with any bound on turns and calls, and on inputs of the parameters' types, a typed tree does what the same does with operations for its words
abbrev pub IdentificationKeeps : Type 0
IdentificationKeeps =
    (p : Spec) (u : Typing) (q : Identified) → SpecTakes p → HasTyping p u → Identifies p u q
    → (n d : ℕ) (us : List Value) → AllOf (param_types p.params) us → Same (whole_runs op_named n d (whole_of p) us) (whole_runs known n d (id_whole_of q) us)

-- a text takes elements out by `pop` and `take_min` alone
abbrev pub TextsTake : Type 0
TextsTake = (text : List ℕ) (p : Spec) (ws : List With) → SpecText text p ws → SpecTakes p
