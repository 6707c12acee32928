-- Values with their registers and pieces, as a proof about code speaks of them: what a procedure is given, and with what it ends.
use Rattle.std.specs.Prelude.{◌≡◌, ℕ, ◌-◌, ◌^◌, Bool, true, false, List, [], ◌∷◌, ◌++◌}
use Rattle.flat_paths.specs.Paths.{Stop, Fault, Excess, Halts, Allowed, calls_of, main_vars}
use Rattle.nres_core.specs.FlatTree.{FlatWhole, flat_whole_of}
use Rattle.nres_core.specs.declared.flat.Flat.{Flat}
use Rattle.nres_core.specs.declared.value.Value.{Value}
use Rattle.target_code.specs.declared.tree.InParam.{InParam}
use Rattle.target_code.specs.declared.tree.Proc.{Proc}
use Rattle.target_code.specs.declared.tree.Program.{Program}
use Rattle.target_code.specs.declared.tree.Rep.{Rep}
use Rattle.target_meaning.specs.Leaf.{Run, begin}
use Rattle.target_meaning.specs.Machine.{Leaf}
use Rattle.target_meaning.specs.Piece.{Piece, none, plus, IsAllWhole, AreDisjoint}
use Rattle.triple_logic.specs.Parts.{AtLeast}
use Rattle.triple_logic.specs.Bounded.{Bounded}
use Rattle.triple_logic.specs.Safe.{Safe, at_end}
use Rattle.relations.specs.Represents.{Represents}
use Rattle.row_laws.specs.Rows.{Thing, values_of, words_of, pieces_of}
use Rattle.soundness.specs.Behaviour.{Behaviour}
use Rattle.soundness.specs.Start.{reps_of}

abbrev pub AllThings : List Rep → List Thing → Type 0
AllThings [] [] = Unit {0}
AllThings (r ∷ rs) (t ∷ ts) = Represents r t.value t.words t.piece × AllThings rs ts
AllThings _ _ = ⊥

abbrev pub Wholes : List Thing → Type 0
Wholes [] = Unit {0}
Wholes (t ∷ ts) = IsAllWhole t.piece × Wholes ts

-- of these those that are kept
abbrev pub kept_things : List Bool → List Thing → List Thing
kept_things [] ts = []
kept_things (k ∷ ks) [] = []
kept_things (true ∷ ks) (t ∷ ts) = t ∷ kept_things ks ts
kept_things (false ∷ ks) (t ∷ ts) = kept_things ks ts

-- what is kept is apart from what is kept, with shares for the forks below f; all else is whole
abbrev pub ClearOf : Piece → List Bool → List Thing → Type 0
ClearOf p [] ts = Unit {0}
ClearOf p (k ∷ ks) [] = Unit {0}
ClearOf p (true ∷ ks) (t ∷ ts) = AreDisjoint p t.piece × ClearOf p ks ts
ClearOf p (false ∷ ks) (t ∷ ts) = ClearOf p ks ts

abbrev pub Given : ℕ → List Bool → List Thing → Type 0
Given f [] ts = Unit {0}
Given f (k ∷ ks) [] = Unit {0}
Given f (true ∷ ks) (t ∷ ts) = ((b j : ℕ) → AtLeast (2 ^ (64 - f)) (t.piece b j)) × ClearOf t.piece ks ts × Given f ks ts
Given f (false ∷ ks) (t ∷ ts) = IsAllWhole t.piece × Given f ks ts

abbrev pub kepts_of : List InParam → List Bool
kepts_of [] = []
kepts_of (i ∷ is) = i.kept ∷ kepts_of is

-- the end of a procedure: results that are allowed, what is kept, share for share, and nothing else
pub record ProcEnd (allowed : List Value → Type 0) (shown : List Rep) (kept : List Bool) (ts : List Thing) (vs : List ℕ) (q : Piece) : Type 0 where
  pub outs : List Thing
  pub related : AllThings shown outs
  pub whole : Wholes outs
  pub words : vs ≡ words_of outs
  pub piece : q ≡ plus (pieces_of (kept_things kept ts)) (pieces_of outs)
  pub gives : allowed (values_of outs)

-- `main`, where nothing was forked, as the proof of its code leaves it: safe for every number of steps where nothing can fail
abbrev pub MainSafe : Proc → Behaviour → Program → Type 0
MainSafe main m T =
    (ts : List Thing) → AllThings (reps_of T.ins) ts → Given 0 (kepts_of T.ins) ts → ¬ m.can_fail (values_of ts)
    → (n : ℕ) → Safe T.procs at_end (ProcEnd (m.allows (values_of ts)) T.outs (kepts_of T.ins) ts) n 0 (Leaf (pieces_of ts) (Run (begin main (words_of ts)) []))

-- and bounded where each path ends, by a number that no value decides
abbrev pub MainBounded : Proc → Behaviour → Program → Type 0
MainBounded main m T =
    (n : ℕ) → (bound : ℕ) × ((ts : List Thing) → AllThings (reps_of T.ins) ts → Given 0 (kepts_of T.ins) ts → m.ends n (values_of ts)
    → Bounded T.procs at_end (ProcEnd (m.allows (values_of ts)) T.outs (kepts_of T.ins) ts) bound 0 (Leaf (pieces_of ts) (Run (begin main (words_of ts)) [])))

-- ---- of the flat tree

-- what a flat tree's paths give
abbrev pub GivenBy : FlatWhole → List Value → List Value → Type 0
GivenBy w us vs = (n : ℕ) × Allowed (calls_of w 0) n w.body.binds w.body.ending.results (main_vars w us) vs

-- some path stops
abbrev pub Stops : FlatWhole → List Value → ℕ → Stop → Type 0
Stops w us n z = Halts (calls_of w 0) n z w.body.binds (main_vars w us)

-- `main` as a proof by paths leaves it
abbrev pub ProgramSafe : Proc → Flat → Program → Type 0
ProgramSafe main f T =
    (ts : List Thing) → AllThings (reps_of T.ins) ts → Given 0 (kepts_of T.ins) ts → ((n : ℕ) → Stops (flat_whole_of f) (values_of ts) n Fault → ⊥)
    → (n : ℕ) → Safe T.procs at_end (ProcEnd (GivenBy (flat_whole_of f) (values_of ts)) T.outs (kepts_of T.ins) ts) n 0 (Leaf (pieces_of ts) (Run (begin main (words_of ts)) []))

abbrev pub ProgramBounded : Proc → Flat → Program → Type 0
ProgramBounded main f T =
    (limit : ℕ) → (bound : ℕ) × ((ts : List Thing) → AllThings (reps_of T.ins) ts → Given 0 (kepts_of T.ins) ts
    → ((n : ℕ) → Stops (flat_whole_of f) (values_of ts) n Fault → ⊥) → (Stops (flat_whole_of f) (values_of ts) limit Excess → ⊥)
    → Bounded T.procs at_end (ProcEnd (GivenBy (flat_whole_of f) (values_of ts)) T.outs (kepts_of T.ins) ts) bound 0 (Leaf (pieces_of ts) (Run (begin main (words_of ts)) [])))
