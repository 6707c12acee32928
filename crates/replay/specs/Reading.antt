-- Reading the line of a step leniently: what should stand where is taken for granted, and the line is held against its text afterwards.
use Rattle.std.specs.Prelude.{ℕ, nat_eq, if◌then◌else◌, List, [], ◌∷◌, ◌++◌, drop}
use Rattle.target_lines.specs.Reading.{number_at}
use Rattle.target_meaning.specs.declared.path.Side.{Side}
use Rattle.target_meaning.specs.declared.path.Side.TheVariants.{Left, Right}
use Rattle.replay.specs.declared.schedule.Move.{Move}

-- the sides whose letters stand at the front, behind these, and the rest
unfoldable pub letters_from : List Side → List ℕ → List Side × List ℕ
letters_from ds [] = (ds, [])
letters_from ds (b ∷ bs) =
    if nat_eq b 76 then letters_from (ds ++ Left ∷ []) bs else (if nat_eq b 82 then letters_from (ds ++ Right ∷ []) bs else (ds, b ∷ bs))

-- the path at the front, and the rest
unfoldable pub path_at : List ℕ → List Side × List ℕ
path_at [] = letters_from [] []
path_at (b ∷ bs) = if nat_eq b 45 then ([], bs) else letters_from [] (b ∷ bs)

-- the step of a line
unfoldable pub move_at : List ℕ → Move
move_at bs =
    let path = path_at (drop 3 bs) in
    record { path = path.0; name = (number_at (drop 1 path.1)).0 }
