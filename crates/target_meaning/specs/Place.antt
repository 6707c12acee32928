-- A place in a procedure's code, and what is left to do from it.
use Rattle.std.specs.Prelude.{ℕ, suc, List, [], ◌∷◌, ◌++◌, drop, slice_get}
use Rattle.std.specs.Prelude.{Option, Some, None}
use Rattle.target_code.specs.declared.tree.Instr.{Instr, out-Instr, Instr-F}
use Rattle.target_code.specs.declared.tree.Instr.TheOpen as Open
use Rattle.target_code.specs.declared.tree.Code.{Code}
use Rattle.target_meaning.specs.declared.place.Inner.{Inner}
use Rattle.target_meaning.specs.declared.place.Inner.TheVariants.{Yes, No, Cond, Body}
use Rattle.target_meaning.specs.declared.place.Outer.{Outer}
use Rattle.target_meaning.specs.Lines.{second_line, line_in}
use Rattle.target_meaning.specs.Leaf.{Item, Test, do_all}

-- the inner code of an instruction
abbrev pub inner_code : Inner → Instr-F Instr Code → List Instr
inner_code Yes (Open.If t c d) = c.list
inner_code No (Open.If t c d) = d.list
inner_code Cond (Open.While c t b) = c.list
inner_code Body (Open.While c t b) = b.list
inner_code _ _ = []

-- the inner code at an index, none where no instruction stands there
abbrev pub inner_of : Inner → Option Instr → List Instr
inner_of k None = []
inner_of k (Some i) = inner_code k (out-Instr i)

-- the first line of the inner code of an instruction at this line
abbrev pub inner_line : Inner → ℕ → Instr-F Instr Code → ℕ
inner_line No line (Open.If t c d) = second_line line c.list
inner_line Body line (Open.While c t b) = second_line line c.list
inner_line _ line _ = suc line

-- its first line
abbrev pub inner_first : Inner → ℕ → Option Instr → ℕ
inner_first k line None = line
inner_first k line (Some i) = inner_line k line (out-Instr i)

-- the list that the place is in
abbrev pub list_at : List Instr → List Outer → List Instr
list_at is [] = is
list_at is (o ∷ os) = list_at (inner_of o.inner (slice_get is o.index)) os

-- the first line of the list that the place is in, where this is the first line of all
abbrev pub first_at : ℕ → List Instr → List Outer → ℕ
first_at first is [] = first
first_at first is (o ∷ os) = first_at (inner_first o.inner (line_in first is o.index) (slice_get is o.index)) (inner_of o.inner (slice_get is o.index)) os

-- the line of the instruction at a place
abbrev pub place_line : ℕ → List Instr → List Outer → ℕ → ℕ
place_line first is os n = line_in (first_at first is os) (list_at is os) n

-- what follows an inner code of an instruction at this line
abbrev pub after_inner : Inner → ℕ → Instr-F Instr Code → List Item
after_inner Cond line (Open.While c t b) = Test line c.list t b.list ∷ []
after_inner Body line (Open.While c t b) = do_all (suc line) c.list ++ Test line c.list t b.list ∷ []
after_inner _ line _ = []

-- what follows the inner code at an index
abbrev pub after_of : Inner → ℕ → Option Instr → List Item
after_of k line None = []
after_of k line (Some i) = after_inner k line (out-Instr i)

-- what is left to do from a place, where this is the first line of all
abbrev pub items_at : ℕ → List Instr → List Outer → ℕ → List Item
items_at first is [] n = drop n (do_all first is)
items_at first is (o ∷ os) n =
    items_at (inner_first o.inner (line_in first is o.index) (slice_get is o.index)) (inner_of o.inner (slice_get is o.index)) os n ++
    (after_of o.inner (line_in first is o.index) (slice_get is o.index) ++ drop (suc o.index) (do_all first is))
