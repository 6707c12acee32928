-- Pieces that are held in part: with some share of each place, and less than the whole one.
use Rattle.std.specs.Prelude.{◌≡◌, ℕ, suc, ◌-◌, ◌<◌, ◌⊎◌}
use Rattle.target_meaning.specs.Piece.{whole, Share, Nil, Some_of, Clash, Piece, plus, AreDisjoint}
use Rattle.triple_logic.specs.Laws.{End_fact}

-- some share, and less than the whole one
abbrev pub IsPart : Share → Type 0
IsPart Nil = ⊥
IsPart (Some_of v k) = suc k < whole
IsPart Clash = ⊥

-- of each place that is held the share is less than the whole one
abbrev pub IsInPart : Piece → Type 0
IsInPart p = (b j : ℕ) → (p b j ≡ Nil) ⊎ IsPart (p b j)

-- a place with the same value, held whole
abbrev pub whole_share : Share → Share
whole_share Nil = Nil
whole_share (Some_of v k) = Some_of v (whole - 1)
whole_share Clash = Clash

-- the same places with the same values, held whole
abbrev pub whole_of : Piece → Piece
whole_of p b j = whole_share (p b j)

-- where p is held as w, w is given back as it was, beside what p does not have; with p in its place the end was met
abbrev pub GivesBack : End_fact → Piece → Piece → End_fact
GivesBack Q p w vs q = (r : Piece) × (q ≡ plus w r) × AreDisjoint p r × Q vs (plus p r)
