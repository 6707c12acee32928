-- The line that tells why the rules refuse a specification.
use Rattle.std.specs.Prelude.{ℕ, List, [], ◌∷◌, ◌++◌, codes, decimal}
use Rattle.std.specs.List.{flat_map}
use Rattle.target_code.specs.Texts.{rep_text}
use Rattle.target_code.specs.declared.tree.Rep.{Rep}
use Rattle.nres_core.specs.declared.place.Place.{Place}
use Rattle.nres_core.specs.declared.refusal.Refusal.{Refusal}
use Rattle.nres_core.specs.declared.refusal.Why.{Why}
use Rattle.nres_core.specs.declared.refusal.Why.TheVariants as w

-- representations with a comma and a space between them
abbrev pub rep_behind : Rep → List ℕ
rep_behind x = codes ", " ++ rep_text x

abbrev pub reps_text : List Rep → List ℕ
reps_text [] = []
reps_text (x ∷ xs) = rep_text x ++ flat_map rep_behind xs

-- why a bind is refused, in words
abbrev pub why_text : Why → List ℕ
why_text w.Missing = codes "missing"
why_text (w.Gone x) = codes "gone " ++ x
why_text (w.Held x) = codes "held " ++ x
why_text (w.Twice x) = codes "twice " ++ x
why_text (w.Fact x u) = codes "fact " ++ x ++ codes " " ++ decimal u
why_text (w.Meet x) = codes "meet " ++ x
why_text (w.Tag x) = codes "tag " ++ x
why_text (w.Result k) = codes "result " ++ decimal k

-- the line's word, the place, and the word of the operation
abbrev pub begin : Place → List ℕ → List ℕ
begin p op = codes "! rule " ++ decimal p.line ++ codes " " ++ decimal p.column ++ codes " " ++ op

-- the line, with its line feed
abbrev pub rule_line : Refusal → List ℕ
rule_line e = begin e.place e.op ++ codes " (" ++ reps_text e.reps ++ codes ") " ++ why_text e.why ++ 10 ∷ []
