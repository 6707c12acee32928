-- The lines of a procedure's text.
use Rattle.std.specs.Prelude.{ℕ, zero, suc, ◌+◌, ◌-◌, ◌^◌, min, List, [], ◌∷◌}
use Rattle.target_code.specs.declared.tree.Instr.{Instr, Instr-F}
use Rattle.target_code.specs.declared.tree.Instr.TheOpen as Open
use Rattle.target_code.specs.declared.tree.Instr.TheFolds.{fold-Instr}

-- a count as a word: the greatest word stands for all counts that are no word
abbrev pub counted : ℕ → ℕ
counted n = min n (2 ^ 64 - 1)

-- how many lines an instruction takes, by those of its inner codes: an `if` has lines for `if`, `else` and `end`, a loop for `while`, `do` and `end`
abbrev pub lines_step : Open.Instr-F ℕ ℕ → ℕ
lines_step (Open.If t c d) = 3 + (c + d)
lines_step (Open.While c t b) = 3 + (c + b)
lines_step _ = 1

-- the sum of a list
abbrev pub add_up : List ℕ → ℕ
add_up [] = 0
add_up (n ∷ ns) = n + add_up ns

-- the lines of a code, by those of its instructions
abbrev pub code_lines : Open.Code-F ℕ ℕ → ℕ
code_lines c = add_up c.list

-- how many lines an instruction takes in the text
abbrev pub lines_of : Instr → ℕ
lines_of = fold-Instr ℕ ℕ lines_step code_lines

-- how many lines a list of instructions takes
abbrev pub lines_all : List Instr → ℕ
lines_all [] = 0
lines_all (i ∷ is) = lines_of i + lines_all is

-- the first line of the second inner code of an instruction at this line, which stands behind its `else` or `do`
abbrev pub second_line : ℕ → List Instr → ℕ
second_line line first = suc (suc (line + lines_all first))

-- the line of the n-th instruction of a list whose first line is this
abbrev pub line_in : ℕ → List Instr → ℕ → ℕ
line_in first [] n = first
line_in first (i ∷ is) zero = first
line_in first (i ∷ is) (suc n) = line_in (first + lines_of i) is n
