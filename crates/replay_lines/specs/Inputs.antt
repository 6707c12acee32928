-- The parts of an input: a program, from the first line on that begins with `with ` the values for its inputs, and from the first line on that begins with `at ` a schedule.
use Rattle.std.specs.Prelude.{ℕ, ◌+◌, Bool, true, false, ◌&&◌, ◌||◌, if◌then◌else◌, nat_eq, List, [], ◌∷◌, codes, drop, length}
use Rattle.std.specs.List.{starts_with}

abbrev pub begins_step : List ℕ → Bool
begins_step bytes = starts_with nat_eq bytes (codes "at ")

-- a line of values begins, where these are looked for, or one of a step
abbrev pub begins_part : Bool → List ℕ → Bool
begins_part values bytes = values && starts_with nat_eq bytes (codes "with ") || begins_step bytes

-- the bytes before the first line that begins so; the first truth value says whether a line begins here
abbrev pub before_part : Bool → Bool → List ℕ → List ℕ
before_part values begins [] = []
before_part values begins (b ∷ bs) = if begins && begins_part values (b ∷ bs) then [] else b ∷ before_part values (nat_eq b 10) bs

-- the bytes from there on
abbrev pub from_part : Bool → List ℕ → List ℕ
from_part values text = drop (length (before_part values true text)) text

abbrev pub program_part : List ℕ → List ℕ
program_part text = before_part true true text

abbrev pub values_part : List ℕ → List ℕ
values_part text = before_part false true (from_part true text)

abbrev pub schedule_part : List ℕ → List ℕ
schedule_part text = from_part false (from_part true text)

-- line feeds
abbrev pub feed : ℕ → ℕ
feed b = if nat_eq b 10 then 1 else 0

abbrev pub feeds : List ℕ → ℕ
feeds [] = 0
feeds (b ∷ bs) = feed b + feeds bs

-- the number of the line with which the values begin, and that with which the schedule does, where the first line of the input is 1
abbrev pub values_line : List ℕ → ℕ
values_line text = 1 + feeds (program_part text)

abbrev pub schedule_line : List ℕ → ℕ
schedule_line text = values_line text + feeds (values_part text)
