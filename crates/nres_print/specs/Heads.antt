-- The text of parameters, of what is shown, and of patterns.
use Rattle.std.specs.Prelude.{ℕ, Bool, true, false, List, [], ◌++◌, codes}
use Rattle.nres_core.specs.declared.place.Named.{Named}
use Rattle.nres_core.specs.declared.tree.Param.{Param}
use Rattle.nres_core.specs.declared.tree.Shown.{Shown}
use Rattle.nres_print.specs.Spellings.{bracketed, grouped, type_text}

abbrev pub kept_text : Bool → List ℕ
kept_text true = codes " kept"
kept_text false = []

-- NAME: TYPE as REP kept
abbrev pub param_text : Param → List ℕ
param_text x = x.name ++ (codes ": " ++ (type_text x.ty x.rep ++ kept_text x.kept))

-- what is shown
abbrev pub shown_text : Shown → List ℕ
shown_text x = type_text x.ty x.rep

abbrev pub name_text : Named → List ℕ
name_text x = x.name

-- a pattern
abbrev pub pattern_text : List Named → List ℕ
pattern_text xs = grouped name_text xs

-- the line `spec NAME (PARAMS) : SHOWN`, or that of a procedure
abbrev pub head_text : List ℕ → List ℕ → List Param → List Shown → List ℕ
head_text word name xs ys = word ++ (name ++ (codes " " ++ (bracketed param_text xs ++ (codes " : " ++ (grouped shown_text ys ++ codes "\n")))))
