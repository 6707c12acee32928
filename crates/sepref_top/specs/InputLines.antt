-- The line that tells what is wrong with the value of a name.
use Rattle.std.specs.Prelude.{ℕ, List, [], ◌∷◌, ◌++◌, codes, decimal}
use Rattle.inputs.specs.Inputs.{Fault}
use Rattle.inputs.specs.declared.refusal.InputFault.{InputFault}
use Rattle.inputs.specs.declared.refusal.InputFault.TheVariants as fault

abbrev pub fault_words : InputFault → List ℕ
fault_words fault.Unknown = codes "unknown"
fault_words fault.Twice = codes "twice"
fault_words fault.Type_ = codes "type"
fault_words fault.Missing = codes "missing"
fault_words (fault.Fit n) = codes "fit " ++ decimal n

abbrev pub input_line : Fault → List ℕ
input_line f = codes "! input " ++ (f.0 ++ (codes " " ++ (fault_words f.1 ++ (10 ∷ []))))
