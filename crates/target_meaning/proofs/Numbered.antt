-- How many lines an instruction takes.
use Rattle.std.proofs.Common.{◌≡◌, ℕ, ◌+◌, List, [], ◌∷◌, map, refl, ap, ◌∙◌}
use Rattle.target_code.specs.declared.tree.Code.{Code, out-Code}
use Rattle.target_code.specs.declared.tree.Instr.{Instr, out-Instr}
use Rattle.target_code.specs.declared.tree.Instr.TheOpen as Open
use Rattle.target_code.specs.declared.tree.Instr.TheFolds.{map-Instr, fold-Code, fold_out-Instr, fold_out-Code}
use Rattle.target_code.specs.declared.tree.Instr.TheVariants.{If, While, outs-If, outs-While}
use Rattle.target_meaning.specs.Lines.{lines_step, add_up, code_lines, lines_of, lines_all}

abbrev lines_code : Code → ℕ
lines_code = fold-Code ℕ ℕ lines_step code_lines

lines_up : (is : List Instr) → add_up (map lines_of is) ≡ lines_all is
lines_up [] = refl
lines_up (i ∷ is) = ap (λ n. lines_of i + n) (lines_up is)

lines_list : (c : Code) → lines_code c ≡ lines_all c.list
lines_list c = fold_out-Code ℕ ℕ lines_step code_lines c ∙ lines_up (out-Code c).list

pub lines_by : (i : Instr) (o : Open.Instr-F Instr Code) → out-Instr i ≡ o → lines_of i ≡ lines_step (map-Instr Instr Code ℕ ℕ lines_of lines_code o)
lines_by i o e = fold_out-Instr ℕ ℕ lines_step code_lines i ∙ ap (λ x. lines_step (map-Instr Instr Code ℕ ℕ lines_of lines_code x)) e

pub lines_if : (t : ℕ) (c d : Code) → lines_of (If t c d) ≡ 3 + (lines_all c.list + lines_all d.list)
lines_if t c d =
    lines_by (If t c d) (Open.If t c d) (outs-If t c d) ∙ ap (λ n. 3 + (n + lines_code d)) (lines_list c) ∙ ap (λ n. 3 + (lines_all c.list + n)) (lines_list d)

pub lines_while : (t : ℕ) (c d : Code) → lines_of (While c t d) ≡ 3 + (lines_all c.list + lines_all d.list)
lines_while t c d =
    lines_by (While c t d) (Open.While c t d) (outs-While c t d) ∙ ap (λ n. 3 + (n + lines_code d)) (lines_list c) ∙ ap (λ n. 3 + (lines_all c.list + n)) (lines_list d)
