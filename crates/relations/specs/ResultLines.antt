-- The text of values, and the lines of results.
use Rattle.std.specs.Prelude.{ℕ, Bool, true, false, List, [], ◌∷◌, ◌++◌, codes}
use Rattle.std.specs.Fmt.{decimal}
use Rattle.std.specs.FinMap as maps
use Rattle.containers.specs.Sets as sets
use Rattle.nres_core.specs.declared.value.Value.{Value}
use Rattle.nres_core.specs.declared.value.Value.TheVariants as v

-- texts with a comma and a space between them
abbrev pub listed : List (List ℕ) → List ℕ
listed [] = []
listed (t ∷ []) = t
listed (t ∷ u ∷ ts) = t ++ codes ", " ++ listed (u ∷ ts)

-- numbers in decimal
abbrev pub numbers : List ℕ → List (List ℕ)
numbers [] = []
numbers (n ∷ ns) = decimal n ∷ numbers ns

-- keys with their values
abbrev pub pairs : List (ℕ × ℕ) → List (List ℕ)
pairs [] = []
pairs (e ∷ es) = (decimal e.0 ++ codes ": " ++ decimal e.1) ∷ pairs es

-- the pairs of a map in braces; the empty map has a colon, since the empty set has none
abbrev pub map_text : List (ℕ × ℕ) → List ℕ
map_text [] = codes "{:}"
map_text (e ∷ es) = codes "{" ++ listed (pairs (e ∷ es)) ++ codes "}"

abbrev pub truth_text : Bool → List ℕ
truth_text true = codes "true"
truth_text false = codes "false"

-- the text of a value, ascending for sets, maps and multisets
abbrev pub value_text : Value → List ℕ
value_text (v.Nat n) = decimal n
value_text (v.Bool b) = truth_text b
value_text (v.List xs) = codes "[" ++ listed (numbers xs) ++ codes "]"
value_text (v.Set s) = codes "{" ++ listed (numbers (sets.items s)) ++ codes "}"
value_text (v.Map m) = map_text (maps.entries m)
value_text (v.Bag h) = codes "bag [" ++ listed (numbers h.list) ++ codes "]"

-- the lines of results: for each `= `, its text and a line feed
abbrev pub result_lines : List Value → List ℕ
result_lines [] = []
result_lines (x ∷ xs) = codes "= " ++ value_text x ++ 10 ∷ result_lines xs
