-- There are as many lines.
use Rattle.std.proofs.Common.{◌≡◌, suc, List, [], ◌∷◌, length, refl, ap}
use Rattle.proof_lines.specs.Lines.{lines_of, AsManyLines}

pub as_many : AsManyLines
as_many [] = refl
as_many (l ∷ ls) = ap suc (as_many ls)
