-- The lines of a derivation as those that are followed.
use Rattle.std.specs.Prelude.{◌≡◌, List, [], ◌∷◌, length}
use Rattle.fits.specs.Follow as f
use Rattle.fits.specs.Follow.{Line}
use Rattle.proof_text.specs.declared.line.ProofLine.{ProofLine}
use Rattle.proof_text.specs.declared.line.ProofLine.TheVariants as p

abbrev pub line_of : ProofLine → Line
line_of p.Calc = f.Calc_line
line_of (p.Row name) = f.Row_line name
line_of p.Reg = f.Reg_line
line_of (p.Any r) = f.Any_line r
line_of p.Left = f.Left_line
line_of p.Right = f.Right_line
line_of (p.If rs) = f.If_line rs
line_of (p.While rs) = f.While_line rs
line_of p.Par = f.Par_line
line_of (p.Split a b) = f.Split_line a b
line_of p.Use = f.Use_line
line_of p.Other = f.Other_line

abbrev pub lines_of : List ProofLine → List Line
lines_of [] = []
lines_of (l ∷ ls) = line_of l ∷ lines_of ls

abbrev pub AsManyLines : Type 0
AsManyLines = (ls : List ProofLine) → length (lines_of ls) ≡ length ls
