-- A text of a specification, a program and a derivation, cut at the lines between them.
use Rattle.std.specs.Prelude.{ℕ, Bool, ◌||◌, if◌then◌else◌, List, [], ◌∷◌, ◌++◌, codes}
use Rattle.std.specs.List.{flat_map}
use Rattle.std.specs.Str.{bytes_eq}
use Rattle.proof_text.specs.Readings.{lines_of}

-- a line that is exactly these words; the last line of a text may have no line feed
abbrev pub is_line : List ℕ → List ℕ → Bool
is_line words l = bytes_eq l words || bytes_eq l (words ++ (10 ∷ []))

-- the lines before the first one that is exactly these words; where there is none, all of them
abbrev pub lines_before : List ℕ → List (List ℕ) → List (List ℕ)
lines_before words [] = []
lines_before words (l ∷ ls) = if is_line words l then [] else l ∷ lines_before words ls

-- the lines after it; where there is none, none
abbrev pub lines_after : List ℕ → List (List ℕ) → List (List ℕ)
lines_after words [] = []
lines_after words (l ∷ ls) = if is_line words l then ls else lines_after words ls

abbrev pub joined : List (List ℕ) → List ℕ
joined ls = flat_map (λ l. l) ls

abbrev pub program_line : List ℕ
program_line = codes "--- program"

abbrev pub proof_line : List ℕ
proof_line = codes "--- proof"

-- up to the line `--- program`
abbrev pub spec_part : List ℕ → List ℕ
spec_part text = joined (lines_before program_line (lines_of text))

-- from there up to the line `--- proof`
abbrev pub program_part : List ℕ → List ℕ
program_part text = joined (lines_before proof_line (lines_after program_line (lines_of text)))

-- and from there
abbrev pub proof_part : List ℕ → List ℕ
proof_part text = joined (lines_after proof_line (lines_after program_line (lines_of text)))
