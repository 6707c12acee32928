-- What a specification allows, whether it can fail and whether it ends; its first path. They are said of the tree of a text, of the tree whose
-- words stand for operations, and of the flat tree.
use Rattle.std.specs.Prelude.{ℕ, List}
use Rattle.nres_core.specs.FlatTree.{flat_whole_of, FlatWhole}
use Rattle.nres_core.specs.Mirror.{whole_of, id_whole_of}
use Rattle.nres_core.specs.Runs.{Runs, Gives, Fails, Overruns, End, first_path}
use Rattle.nres_core.specs.Tree.{Whole, Word}
use Rattle.nres_core.specs.declared.flat.Flat.{Flat}
use Rattle.nres_core.specs.declared.identified.Identified.{Identified}
use Rattle.nres_core.specs.declared.op.Op.{Op}
use Rattle.nres_core.specs.declared.tree.Spec.{Spec}
use Rattle.nres_core.specs.declared.value.Value.{Value}
use Rattle.nres_meaning.specs.FlatMeaning.{flat_runs}
use Rattle.nres_meaning.specs.Meaning.{whole_runs}
use Rattle.nres_meaning.specs.WordOperations.{op_named, known}

-- a meaning for each number of turns, which also bounds how deep calls nest
abbrev pub Meaning : Type 0
Meaning = ℕ → Runs (List Value)

-- some path with so many turns and calls gives these results; some path fails
abbrev pub AllowedBy : Meaning → List Value → Type 0
AllowedBy m vs = (n : ℕ) × Gives (m n) vs

abbrev pub FailsBy : Meaning → Type 0
FailsBy m = (n : ℕ) × Fails (m n)

-- no path fails, and none begins a turn after n turns of a loop, or a call inside n calls
abbrev pub EndsBy : Meaning → ℕ → Type 0
EndsBy m n = ¬ FailsBy m × ¬ Overruns (m n)

-- ---- a specification, as the tree of its text

abbrev pub spec_runs : Whole Word → List Value → Meaning
spec_runs p us n = whole_runs op_named n n p us

abbrev pub Allows : Spec → List Value → List Value → Type 0
Allows p us vs = AllowedBy (spec_runs (whole_of p) us) vs

abbrev pub CanFail : Spec → List Value → Type 0
CanFail p us = FailsBy (spec_runs (whole_of p) us)

abbrev pub Ends : ℕ → Spec → List Value → Type 0
Ends n p us = EndsBy (spec_runs (whole_of p) us) n

-- the path of the first choices: left, the least, ascending; with at most n turns of each loop and calls at most d deep
abbrev pub first_end : ℕ → ℕ → Spec → List Value → End (List Value)
first_end n d p us = first_path (whole_runs op_named n d (whole_of p) us)

-- ---- a specification whose words stand for operations

abbrev pub identified_runs : Whole Op → List Value → Meaning
identified_runs p us n = whole_runs known n n p us

abbrev pub IdentifiedAllows : Identified → List Value → List Value → Type 0
IdentifiedAllows p us vs = AllowedBy (identified_runs (id_whole_of p) us) vs

abbrev pub IdentifiedCanFail : Identified → List Value → Type 0
IdentifiedCanFail p us = FailsBy (identified_runs (id_whole_of p) us)

abbrev pub IdentifiedEnds : ℕ → Identified → List Value → Type 0
IdentifiedEnds n p us = EndsBy (identified_runs (id_whole_of p) us) n

-- ---- a flat specification

abbrev pub flat_meaning : FlatWhole → List Value → Meaning
flat_meaning p us n = flat_runs n n p us

abbrev pub FlatAllows : Flat → List Value → List Value → Type 0
FlatAllows p us vs = AllowedBy (flat_meaning (flat_whole_of p) us) vs

abbrev pub FlatCanFail : Flat → List Value → Type 0
FlatCanFail p us = FailsBy (flat_meaning (flat_whole_of p) us)

abbrev pub FlatEnds : ℕ → Flat → List Value → Type 0
FlatEnds n p us = EndsBy (flat_meaning (flat_whole_of p) us) n
