-- The text of a program in the parts in which it is printed.
use Rattle.std.specs.Prelude.{ℕ, ◌+◌, Bool, List, [], ◌∷◌, ◌++◌}
use Rattle.std.specs.List.{flat_map}
use Rattle.target_code.specs.declared.tree.Rep.{Rep}
use Rattle.target_code.specs.declared.tree.InParam.{InParam}
use Rattle.target_code.specs.declared.tree.Code.{Code}
use Rattle.target_code.specs.declared.tree.Instr.{Instr}
use Rattle.target_code.specs.declared.tree.Proc.{Proc}
use Rattle.target_lines.specs.declared.line.Phrase.TheVariants as phrase
use Rattle.target_lines.specs.Texts.{input_text, result_text}
use Rattle.target_lines.specs.Programs.{line, instr_lines, code_lines, proc_lines, line_feed, lines_text}

-- code at a level
unfoldable pub code_text : Bool → ℕ → Code → List ℕ
code_text lends n c = lines_text lends (code_lines c n)

unfoldable pub instr_lines_text : Bool → ℕ → Instr → List ℕ
instr_lines_text lends n i = lines_text lends (instr_lines i n)

unfoldable pub if_text : Bool → ℕ → ℕ → Code → Code → List ℕ
if_text lends n t c d = line_feed lends (line n (phrase.If t)) ++ (code_text lends (n + 1) c ++ (line_feed lends (line n phrase.Else) ++ (code_text lends (n + 1) d ++ line_feed lends (line n phrase.End))))

unfoldable pub while_text : Bool → ℕ → Code → ℕ → Code → List ℕ
while_text lends n c t d = line_feed lends (line n phrase.While) ++ (code_text lends (n + 1) c ++ (line_feed lends (line n (phrase.Do t)) ++ (code_text lends (n + 1) d ++ line_feed lends (line n phrase.End))))

unfoldable pub proc_text : Bool → Proc → List ℕ
proc_text lends p = lines_text lends (proc_lines p)

unfoldable pub inputs_text : List InParam → List ℕ
inputs_text ins = flat_map (λ p. input_text p ++ 10 ∷ []) ins

unfoldable pub results_text : List Rep → List ℕ
results_text outs = flat_map (λ r. result_text r ++ 10 ∷ []) outs

unfoldable pub procs_text : Bool → List Proc → List ℕ
procs_text lends procs = flat_map (proc_text lends) procs
