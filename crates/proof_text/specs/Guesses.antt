-- What a line is taken for by its first word, before it is held against its text. This says only what a line that has a text is taken for.
use Rattle.std.specs.Prelude.{◌≡◌, ℕ, Bool, true, nat_eq, not, IsTrue, List, [], ◌∷◌, ◌++◌, map, Option, Some, None}
use Rattle.std.specs.List.{list_all}
use Rattle.target_code.specs.Names.{is_name}
use Rattle.target_lines.specs.LineWords.{name_of}
use Rattle.target_lines.specs.Texts.{register_text, registers_text}
use Rattle.target_lines.specs.Fits.{IsSmall, AreSmall}
use Rattle.proof_text.specs.declared.words.TheConstants as constants
use Rattle.proof_text.specs.declared.words.Word.{Word}
use Rattle.proof_text.specs.declared.words.Word.TheVariants as word
use Rattle.proof_text.specs.declared.line.ProofLine.{ProofLine}
use Rattle.proof_text.specs.declared.line.ProofLine.TheVariants as line
use Rattle.proof_text.specs.Texts.{HasText, line_text}

abbrev pub is_not : ℕ → ℕ → Bool
is_not c b = not (nat_eq b c)

-- a byte stands nowhere in it
abbrev pub Lacks : ℕ → List ℕ → Type 0
Lacks c bs = IsTrue (list_all (is_not c) bs)

unfoldable pub word_names : List (List ℕ × Word)
word_names = map (λ x. (x.0.now, x.1)) constants.WORDS

unfoldable pub word_of : List ℕ → Option Word
word_of bytes = name_of bytes word_names

-- the first word of a line
abbrev pub first_word : ProofLine → Option Word
first_word line.Calc = Some word.Calc
first_word (line.Row name) = Some word.Row
first_word line.Reg = Some word.Reg
first_word (line.Any r) = Some word.Any
first_word line.Left = Some word.Left
first_word line.Right = Some word.Right
first_word (line.If rs) = Some word.If
first_word (line.While rs) = Some word.While
first_word line.Par = Some word.Par
first_word (line.Split a b) = Some word.Split
first_word line.Use = Some word.Use
first_word line.Other = None

-- what stands behind that word and a space
abbrev pub operands_text : ProofLine → List ℕ
operands_text (line.Row name) = name
operands_text (line.Any r) = register_text r
operands_text (line.If rs) = registers_text rs
operands_text (line.While rs) = registers_text rs
operands_text (line.Split a b) = register_text a ++ (32 ∷ register_text b)
operands_text _ = []

-- the first word of a line that has this text, and what stands behind
abbrev pub IsCut : List ℕ → List ℕ → List ℕ → Type 0
IsCut text front operands = (l : ProofLine) → HasText l → text ≡ line_text l → (word_of front ≡ first_word l) × (operands ≡ operands_text l)

-- the line that begins with a word, where these operands make one
abbrev pub IsGuess : Option Word → List ℕ → ProofLine → Type 0
IsGuess None ops l = Unit {0}
IsGuess (Some word.Calc) ops l = l ≡ line.Calc
IsGuess (Some word.Row) ops l = is_name ops ≡ true → l ≡ line.Row ops
IsGuess (Some word.Reg) ops l = l ≡ line.Reg
IsGuess (Some word.Any) ops l = (r : ℕ) → IsSmall r → ops ≡ register_text r → l ≡ line.Any r
IsGuess (Some word.Left) ops l = l ≡ line.Left
IsGuess (Some word.Right) ops l = l ≡ line.Right
IsGuess (Some word.If) ops l = (rs : List ℕ) → AreSmall rs → ops ≡ registers_text rs → l ≡ line.If rs
IsGuess (Some word.While) ops l = (rs : List ℕ) → AreSmall rs → ops ≡ registers_text rs → l ≡ line.While rs
IsGuess (Some word.Par) ops l = l ≡ line.Par
IsGuess (Some word.Split) ops l = (a b : ℕ) → IsSmall a → IsSmall b → ops ≡ register_text a ++ (32 ∷ register_text b) → l ≡ line.Split a b
IsGuess (Some word.Use) ops l = l ≡ line.Use

-- a line that the grammar has, or Other
abbrev pub IsKnown : ProofLine → Type 0
IsKnown line.Other = Unit {0}
IsKnown l = HasText l
