-- The text of a derivation: its lines, each with a line feed.
use Rattle.std.specs.Prelude.{◌≡◌, IsTrue, ℕ, Bool, true, false, List, [], ◌∷◌, ◌++◌, codes}
use Rattle.std.specs.List.{flat_map, list_all}
use Rattle.target_code.specs.Names.{is_name}
use Rattle.target_lines.specs.Texts.{register_text, registers_text}
use Rattle.target_lines.specs.Fits.{IsSmall, AreSmall}
use Rattle.proof_text.specs.declared.line.ProofLine.{ProofLine}
use Rattle.proof_text.specs.declared.line.ProofLine.TheVariants as line
use Rattle.proof_text.specs.declared.line.Proof.{Proof}

-- registers behind a word, where there are some
abbrev pub behind : List ℕ → List ℕ
behind [] = []
behind (r ∷ rs) = codes " " ++ registers_text (r ∷ rs)

-- a split between two registers
abbrev pub split_text : ℕ → ℕ → List ℕ
split_text a b = codes "split " ++ (register_text a ++ (codes " " ++ register_text b))

-- what stands before the line feed; a line that is Other has no text
abbrev pub line_text : ProofLine → List ℕ
line_text line.Calc = codes "calc"
line_text (line.Row name) = codes "row " ++ name
line_text line.Reg = codes "reg"
line_text (line.Any r) = codes "any " ++ register_text r
line_text line.Left = codes "left"
line_text line.Right = codes "right"
line_text (line.If rs) = codes "if" ++ behind rs
line_text (line.While rs) = codes "while" ++ behind rs
line_text line.Par = codes "par"
line_text (line.Split a b) = split_text a b
line_text line.Use = codes "use"
line_text line.Other = []

-- a line that the grammar has: not Other, its name is a name, its registers are numbers below 2^32
abbrev pub HasText : ProofLine → Type 0
HasText (line.Row name) = is_name name ≡ true
HasText (line.Any r) = IsSmall r
HasText (line.If rs) = AreSmall rs
HasText (line.While rs) = AreSmall rs
HasText (line.Split a b) = IsSmall a × IsSmall b
HasText line.Other = ⊥
HasText _ = Unit {0}

abbrev pub is_one : ProofLine → Bool
is_one line.Other = false
is_one _ = true

-- no line is Other
abbrev pub NoOther : List ProofLine → Type 0
NoOther ls = IsTrue (list_all is_one ls)

-- a line with its line feed
abbrev pub feed_text : ProofLine → List ℕ
feed_text l = line_text l ++ (10 ∷ [])

abbrev pub lines_text : List ProofLine → List ℕ
lines_text ls = flat_map feed_text ls

-- the text of a derivation
abbrev pub proof_text : Proof → List ℕ
proof_text p = lines_text p.lines
