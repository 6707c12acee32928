-- Where variables stand, as names by variable.
use Rattle.std.specs.Prelude.{ℕ, Option, Some, None}
use Rattle.fits.specs.Places.{Token, Number, Of}
use Rattle.fit_tokens.specs.Changes.{Known, toks}
use Rattle.prints.specs.declared.home.Home.{Home}
use Rattle.prints.specs.declared.home.Home.TheVariants.{Register, Literal}

-- a literal by its number, a register as the first word of its number
abbrev pub name_of : Home → Token
name_of (Register r) = Of r 0
name_of (Literal n) = Number n

abbrev pub home_of : Token → Home
home_of (Number n) = Literal n
home_of (Of r j) = Register r

-- without a name a variable is the literal 0
abbrev pub home_named : Option Token → Home
home_named None = Literal 0
home_named (Some t) = home_of t

abbrev pub homes : Known → ℕ → Home
homes x v = home_named (toks x v)
