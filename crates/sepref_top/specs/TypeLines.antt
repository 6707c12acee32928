-- The line that tells why a specification is not typed.
use Rattle.std.specs.Prelude.{ℕ, List, [], ◌∷◌, ◌++◌, codes, decimal}
use Rattle.target_code.specs.Texts.{rep_text}
use Rattle.nres_rules.specs.Types.{Wrong, Unbound, Mismatch, Arity, No_operation, Duplicate, Other_rep}
use Rattle.nres_core.specs.Vocabulary.{word_of}
use Rattle.nres_core.specs.declared.place.Place.{Place}
use Rattle.nres_core.specs.declared.ty.Ty.{Ty}
use Rattle.nres_types.specs.declared.refusal.TypeRefusal.{TypeRefusal}
use Rattle.nres_types.specs.declared.refusal.TypeRefusal.TheVariants as e

-- the place, and words
unfoldable pub begin : Place → List ℕ → List ℕ
begin p words = codes "! type " ++ (decimal p.line ++ (codes " " ++ (decimal p.column ++ (codes " " ++ words))))

-- what is said last, and a line feed
unfoldable pub ended : List ℕ → List ℕ → List ℕ
ended front last = front ++ (last ++ (10 ∷ []))

unfoldable pub mismatch_line : Place → Ty → Ty → List ℕ
mismatch_line p want found = ended (begin p (codes "mismatch ")) (word_of want ++ (codes " " ++ word_of found))

unfoldable pub arity_line : Place → ℕ → ℕ → List ℕ
arity_line p want found = ended (begin p (codes "arity ")) (decimal want ++ (codes " " ++ decimal found))

unfoldable pub no_operation_line : Place → List ℕ → Ty → List ℕ
no_operation_line p word found = ended (begin p (codes "no operation ")) (word ++ (codes " " ++ word_of found))

-- the line of a broken rule
abbrev pub type_line : Wrong → List ℕ
type_line (Unbound p x) = ended (begin p (codes "unbound ")) x
type_line (Mismatch p want found) = mismatch_line p want found
type_line (Arity p want found) = arity_line p want found
type_line (No_operation p word found) = no_operation_line p word found
type_line (Duplicate p x) = ended (begin p (codes "duplicate ")) x
type_line (Other_rep p r) = ended (begin p (codes "representation ")) (rep_text r)

-- that of a refusal; want of memory has none
abbrev pub refusal_line : TypeRefusal → List ℕ
refusal_line (e.Unbound p x) = type_line (Unbound p x)
refusal_line (e.Mismatch p want found) = type_line (Mismatch p want found)
refusal_line (e.Arity p want found) = type_line (Arity p want found)
refusal_line (e.NoOperation p word found) = type_line (No_operation p word found)
refusal_line (e.Duplicate p x) = type_line (Duplicate p x)
refusal_line (e.OtherRep p r) = type_line (Other_rep p r)
refusal_line e.Memory = []
