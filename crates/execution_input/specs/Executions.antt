-- What an input of `exec` is: a program, and from the first line on that begins with `with `, the values for its parameters.
use Rattle.std.specs.Prelude.{◌≡◌, ℕ, ◌+◌, Bool, true, List, [], ◌∷◌, codes, drop, length, nat_eq, ◌&&◌, if◌then◌else◌}
use Rattle.std.specs.List.{starts_with}
use Rattle.nres_core.specs.Texts.{WithText}
use Rattle.nres_core.specs.declared.place.Place.{Place}
use Rattle.nres_core.specs.declared.tree.With.{With}
use Rattle.nres_syntax.specs.Refusals.{ValuesRefusedAt}
use Rattle.target_code.specs.Formed.{Formed}
use Rattle.target_code.specs.declared.tree.Program.{Program}
use Rattle.target_lines.specs.Programs.{program_text}

abbrev pub begins_values : List ℕ → Bool
begins_values bytes = starts_with nat_eq bytes (codes "with ")

-- the bytes before the first line that begins with `with `; the truth value says whether a line begins here
abbrev pub front_of : Bool → List ℕ → List ℕ
front_of begins [] = []
front_of begins (b ∷ bs) = if begins && begins_values (b ∷ bs) then [] else b ∷ front_of (nat_eq b 10) bs

-- the bytes from there on
abbrev pub rest_of : List ℕ → List ℕ
rest_of text = drop (length (front_of true text)) text

-- line feeds
abbrev pub feed : ℕ → ℕ
feed b = if nat_eq b 10 then 1 else 0

abbrev pub feeds : List ℕ → ℕ
feeds [] = 0
feeds (b ∷ bs) = feed b + feeds bs

-- the number of the line with which the rest begins
abbrev pub values_line : List ℕ → ℕ
values_line text = 1 + feeds (front_of true text)

-- the front is the text of a formed program, and of none
pub record IsProgram (text : List ℕ) (t : Program) : Type 0 where
  pub formed : Formed t
  pub is_text : front_of true text ≡ program_text t

abbrev pub IsNoProgram : List ℕ → Type 0
IsNoProgram text = (t : Program) → ¬ IsProgram text t

-- the rest is a list of values, and none
abbrev pub HasNoValues : List ℕ → Type 0
HasNoValues text = (ws : List With) → ¬ WithText (values_line text) (rest_of text) ws

pub record IsExecution (text : List ℕ) (t : Program) (ws : List With) : Type 0 where
  pub program : IsProgram text t
  pub values : WithText (values_line text) (rest_of text) ws

-- the front is a program, and this is the first place at which no list of values goes on
pub record NoValuesAt (text : List ℕ) (q : Place) : Type 0 where
  pub tree : Program
  pub program : IsProgram text tree
  pub refused : ValuesRefusedAt (values_line text) (rest_of text) q
  pub none : HasNoValues text
