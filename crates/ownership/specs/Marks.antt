-- Marks of the code, the last one first.
use Rattle.std.specs.Prelude.{List, [], ◌∷◌}
use Rattle.context_laws.specs.Stacks as s
use Rattle.ownership.specs.declared.context.Mark.{Mark}

abbrev pub mark_of : Mark → s.Mark
mark_of m = record { entries = m.entries; gone = m.gone; kept_below = m.kept_below }

abbrev pub marks_of : List Mark → List s.Mark → List s.Mark
marks_of [] ms = ms
marks_of (x ∷ xs) ms = marks_of xs (mark_of x ∷ ms)
