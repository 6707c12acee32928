-- Words of arguments whose homes were looked up.
use Rattle.std.specs.Prelude.{List, [], ◌∷◌, ◌++◌}
use Rattle.rule_check.specs.Context.{Spot}
use Rattle.prints.specs.Homes.{words_at, reg_of}
use Rattle.prints.specs.declared.home.Home.{Home}
use Rattle.target_code.specs.declared.tree.Instr.{Instr}
use Rattle.target_code.specs.declared.tree.Instr.TheVariants as I

-- as far as there are homes and entries
abbrev pub homes_words : List Home → List Spot → List Home
homes_words [] ss = []
homes_words (h ∷ hs) [] = []
homes_words (h ∷ hs) (s ∷ ss) = words_at h s.rep ++ homes_words hs ss

-- the blocks of containers are freed
abbrev pub frees_at : List Home → List Instr
frees_at [] = []
frees_at (h ∷ hs) = I.Free (reg_of h) ∷ frees_at hs
