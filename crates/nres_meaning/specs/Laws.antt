-- Laws of the meaning, as facts.
use Rattle.std.specs.Prelude.{◌≡◌, ℕ, ◌≤◌, List, Option}
use Rattle.nres_core.specs.FlatTree.{Binds, FlatProc, FlatWhole}
use Rattle.nres_core.specs.Runs.{Runs, ◌>>=◌, Gives, Fails, Overruns, Gave, Fell, Late, first_path, both}
use Rattle.nres_core.specs.Tree.{Whole}
use Rattle.nres_core.specs.declared.op.Op.{Op}
use Rattle.nres_core.specs.declared.value.Value.{Value}
use Rattle.nres_meaning.specs.Alike.{Less}
use Rattle.nres_meaning.specs.FlatMeaning.{Vars, binds_runs, flat_calls, flat_runs}
use Rattle.nres_meaning.specs.Meaning.{whole_runs}

-- with more turns and deeper calls a specification gives and fails no less
pub record Grows (W : Type 0) (op_of : W → Value → Option Op) : Type 0 where
  pub gives : (p : Whole W) (n m : ℕ) (us vs : List Value) → n ≤ m → Gives (whole_runs op_of n n p us) vs → Gives (whole_runs op_of m m p us) vs
  pub fails : (p : Whole W) (n m : ℕ) (us : List Value) → n ≤ m → Fails (whole_runs op_of n n p us) → Fails (whole_runs op_of m m p us)

-- so does a flat one
pub record FlatGrows : Type 0 where
  pub gives : (p : FlatWhole) (n m : ℕ) (us vs : List Value) → n ≤ m → Gives (flat_runs n n p us) vs → Gives (flat_runs m m p us) vs
  pub fails : (p : FlatWhole) (n m : ℕ) (us : List Value) → n ≤ m → Fails (flat_runs n n p us) → Fails (flat_runs m m p us)

-- with more turns, and calls that do no less, binds do no less
abbrev pub BindsGrow : Type 0
BindsGrow =
    (n m : ℕ) → n ≤ m → (call other : ℕ → List Value → Runs (List Value)) → ((f : ℕ) (vs : List Value) → Less (call f vs) (other f vs))
    → (b : Binds) (env : Vars) → Less (binds_runs n call b env) (binds_runs m other b env)

-- with more turns calls that may nest deeper do no less
abbrev pub CallsGrow : Type 0
CallsGrow =
    (ps : List FlatProc) (k n m : ℕ) → n ≤ m → (d e : ℕ) → d ≤ e → (f : ℕ) (vs : List Value) → Less (flat_calls ps k n d f vs) (flat_calls ps k m e f vs)

-- the first path is a path: its results are given, its failure is one, its overrun is one
pub record FirstIsOne (W : Type 0) (op_of : W → Value → Option Op) : Type 0 where
  pub gives : (n d : ℕ) (p : Whole W) (us vs : List Value) → first_path (whole_runs op_of n d p us) ≡ Gave vs → Gives (whole_runs op_of n d p us) vs
  pub fails : (n d l : ℕ) (p : Whole W) (us : List Value) → first_path (whole_runs op_of n d p us) ≡ Fell l → Fails (whole_runs op_of n d p us)
  pub overruns : (n d l : ℕ) (p : Whole W) (us : List Value) → first_path (whole_runs op_of n d p us) ≡ Late l → Overruns (whole_runs op_of n d p us)

-- a part, and then the rest: the whole gives what the rest gives after it, and fails where it fails or the rest does after it
pub record PartThenRest (A B : Type 0) : Type 0 where
  pub gives : (r : Runs A) (f : A → Runs B) (a : A) (b : B) → Gives r a → Gives (f a) b → Gives (r >>= f) b
  pub parts : (r : Runs A) (f : A → Runs B) (b : B) → Gives (r >>= f) b → (a : A) × Gives r a × Gives (f a) b
  pub fails_later : (r : Runs A) (f : A → Runs B) (a : A) → Gives r a → Fails (f a) → Fails (r >>= f)
  pub fails_here : (r : Runs A) (f : A → Runs B) → Fails r → Fails (r >>= f)

-- two parts side by side: they give what both give, and fail where either fails, or what comes after them does
pub record SideBySide (A B C : Type 0) : Type 0 where
  pub gives : (r : Runs A) (s : Runs B) (k : A → B → Runs C) (a : A) (b : B) (c : C) → Gives r a → Gives s b → Gives (k a b) c → Gives (both r s k) c
  pub left_fails : (r : Runs A) (s : Runs B) (k : A → B → Runs C) → Fails r → Fails (both r s k)
  pub right_fails : (r : Runs A) (s : Runs B) (k : A → B → Runs C) → Fails s → Fails (both r s k)
  pub later_fails : (r : Runs A) (s : Runs B) (k : A → B → Runs C) (a : A) (b : B) → Gives r a → Gives s b → Fails (k a b) → Fails (both r s k)
