-- Entries that change the branch, and entries that go.
use Rattle.std.specs.Prelude.{ℕ, ◌&&◌, List, [], ◌∷◌, ◌==◌, if◌then◌else◌}
use Rattle.share_table.specs.declared.entry.Entry.{Entry}

-- an entry, as the second branch's where it is the first one's
abbrev pub moved : ℕ → ℕ → Entry → Entry
moved from to e = record { block = e.block; first = e.first; count = e.count; len = e.len; share = e.share; owner = if e.owner == from then to else e.owner }

-- a table without what a branch has of a block
abbrev pub without_block : ℕ → ℕ → List Entry → List Entry
without_block o b [] = []
without_block o b (e ∷ es) = if (e.owner == o) && (e.block == b) then without_block o b es else e ∷ without_block o b es
