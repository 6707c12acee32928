-- The answer of a calculation.
use Rattle.std.specs.Prelude.{ℕ, Result, Ok, Err}
use Rattle.target_meaning.specs.declared.answer.Reason.{Reason}
use Rattle.target_meaning.specs.Leaf.{Number, Is, No}

-- the answer that a calculation in the code gives, as that of the definition
abbrev pub number_of : Result ℕ Reason → Number
number_of (Ok v) = Is v
number_of (Err r) = No r
