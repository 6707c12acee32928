-- Tests of numbers, with a number more or less.
use Rattle.std.specs.Prelude.{ℕ, Bool, true, false, ◌==◌, if◌then◌else◌}

abbrev pub Test : Type 0
Test = ℕ → Bool

-- a number more
abbrev pub put : Test → ℕ → Test
put has x y = if y == x then true else has y

-- a number less
abbrev pub del : Test → ℕ → Test
del has x y = if y == x then false else has y
