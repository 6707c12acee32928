-- The numbers and lines of statuses.
use Rattle.std.specs.Prelude.{ℕ, List, [], codes, decimal, ◌++◌, ◌∷◌}
use Rattle.nres_core.specs.declared.place.Place.{Place}
use Rattle.sepref_top.specs.declared.status.Status.{Status}
use Rattle.sepref_top.specs.declared.status.Status.TheVariants as status

abbrev pub code_of : Status → ℕ
code_of status.Done = 0
code_of status.Usage = 1
code_of (status.Syntax p) = 2
code_of (status.TooDeep p) = 2
code_of status.Type_ = 3
code_of status.NoRule = 4
code_of status.Input = 5
code_of (status.NotProgram k) = 9
code_of status.TooLong = 11
code_of (status.Fails l) = 14
code_of (status.OutOfTurns l) = 15
code_of (status.NoProof l) = 16
code_of status.ReadFault = 20
code_of status.WriteFault = 21
code_of status.Memory = 30
code_of status.NotYet = 40

-- words, a line and a column
abbrev pub placed : List ℕ → Place → List ℕ
placed words p = words ++ (decimal p.line ++ (codes " " ++ (decimal p.column ++ (10 ∷ []))))

-- words and a number
abbrev pub numbered : List ℕ → ℕ → List ℕ
numbered words n = words ++ (decimal n ++ (10 ∷ []))

-- a line and its line feed; those of a type error, of a refusal by the rules and of an input tell more than the status
abbrev pub line_of : Status → List ℕ
line_of status.Done = []
line_of status.Usage = codes "! usage" ++ (10 ∷ [])
line_of (status.Syntax p) = placed (codes "! syntax ") p
line_of (status.TooDeep p) = placed (codes "! too deep ") p
line_of status.Type_ = []
line_of status.NoRule = []
line_of status.Input = []
line_of (status.NotProgram k) = numbered (codes "! not a program ") k
line_of status.TooLong = codes "! too long" ++ (10 ∷ [])
line_of (status.Fails l) = numbered (codes "! fails ") l
line_of (status.OutOfTurns l) = numbered (codes "! turns ") l
line_of (status.NoProof l) = numbered (codes "! no proof ") l
line_of status.ReadFault = codes "! read fault" ++ (10 ∷ [])
line_of status.WriteFault = []
line_of status.Memory = []
line_of status.NotYet = codes "! not yet" ++ (10 ∷ [])

-- the line is the same whatever the input
abbrev pub HasFixedLine : Status → Type 0
HasFixedLine status.Usage = Unit {0}
HasFixedLine status.TooLong = Unit {0}
HasFixedLine status.ReadFault = Unit {0}
HasFixedLine status.NotYet = Unit {0}
HasFixedLine s = ⊥

-- it tells what the input is
abbrev pub TellsText : Status → Type 0
TellsText status.Usage = ⊥
TellsText status.TooLong = ⊥
TellsText status.ReadFault = ⊥
TellsText status.WriteFault = ⊥
TellsText status.Memory = ⊥
TellsText s = Unit {0}

-- there was no memory, or a read or a write failed
abbrev pub HasFailed : Status → Type 0
HasFailed status.Memory = Unit {0}
HasFailed status.ReadFault = Unit {0}
HasFailed status.WriteFault = Unit {0}
HasFailed s = ⊥

-- it tells at which place the input is no specification
abbrev pub TellsPlace : Status → Type 0
TellsPlace (status.Syntax p) = Unit {0}
TellsPlace (status.TooDeep p) = Unit {0}
TellsPlace s = ⊥

-- it tells the line at which the front is no program
abbrev pub TellsLine : Status → Type 0
TellsLine (status.NotProgram k) = Unit {0}
TellsLine s = ⊥

-- it tells the line at which a derivation is not followed
abbrev pub TellsUnfit : Status → Type 0
TellsUnfit (status.NoProof l) = Unit {0}
TellsUnfit s = ⊥
