-- The text of a program in the parts in which it is printed.
use Rattle.std.proofs.Common.{◌≡◌, ◌≢◌, ℕ, suc, Bool, true, List, [], ◌∷◌, ◌++◌, map, refl, ap, sym, ◌∙◌, add-one}
use Rattle.std.specs.List.{flat_map}
use Rattle.std.proofs.lemmas.List.{append-nil}
use Rattle.std.proofs.lemmas.List.Concat.{flat_map-cons}
use Rattle.std.proofs.lemmas.Grind.{flat_map-append}
use Rattle.target_code.specs.declared.tree.Rep.{Rep}
use Rattle.target_code.specs.declared.tree.InParam.{InParam}
use Rattle.target_code.specs.declared.tree.Code.{Code, out-Code}
use Rattle.target_code.specs.declared.tree.Instr.{Instr, out-Instr}
use Rattle.target_code.specs.declared.tree.Instr.TheOpen as Open
use Rattle.target_code.specs.declared.tree.Instr.TheViews.{roll-Instr, roll-out-Instr, rolls-If, rolls-While, outs-If, outs-While}
use Rattle.target_code.specs.declared.tree.Instr.TheFolds.{fold_out-Code}
use Rattle.target_code.specs.declared.tree.Instr.TheVariants as instr
use Rattle.target_code.specs.declared.tree.Proc.{Proc}
use Rattle.target_code.specs.declared.tree.Program.{Program}
use Rattle.target_lines.specs.declared.line.Line.{Line}
use Rattle.target_lines.specs.declared.line.Phrase.TheVariants as phrase
use Rattle.target_code.specs.Texts.{indent}
use Rattle.target_lines.specs.Texts.{instr_text, proc_header, ret_text}
use Rattle.target_lines.specs.Programs.{line, Lines, instr_step, code_step, instr_lines, code_lines, proc_lines, items_lines, is_flat, line_feed, lines_text, lends, program_text}
use Rattle.target_text.specs.Parts.{code_text, instr_lines_text, if_text, while_text, proc_text, inputs_text, results_text, procs_text}
use Rattle.target_text.proofs.CodeLines.{each_at, layer, lines_out, flat_lines}

lines_append : (lends : Bool) (a b : List Line) → lines_text lends (a ++ b) ≡ lines_text lends a ++ lines_text lends b
lines_append lends a b = flat_map-append (line_feed lends) a b

one_line : (lends : Bool) (l : Line) → lines_text lends (l ∷ []) ≡ line_feed lends l
one_line lends l = flat_map-cons (line_feed lends) l [] ∙ append-nil (line_feed lends l)

-- a block between two lines
block : (lends : Bool) (l : Line) (c rest : List Line) → lines_text lends (l ∷ (c ++ rest)) ≡ line_feed lends l ++ (lines_text lends c ++ lines_text lends rest)
block lends l c rest = flat_map-cons (line_feed lends) l (c ++ rest) ∙ ap (λ (x : List ℕ). line_feed lends l ++ x) (lines_append lends c rest)

pub if_printed : (lends : Bool) (n t : ℕ) (c d : Code) → instr_lines_text lends n (instr.If t c d) ≡ if_text lends n t c d
unfolding instr_lines_text if_text code_text layer
if_printed lends n t c d =
    let rest = line n phrase.Else ∷ (code_lines d (suc n) ++ line n phrase.End ∷ []) in
    let after : lines_text lends rest ≡ line_feed lends (line n phrase.Else) ++ (lines_text lends (code_lines d (suc n)) ++ line_feed lends (line n phrase.End)) =
    block lends (line n phrase.Else) (code_lines d (suc n)) (line n phrase.End ∷ [])
    ∙ ap (λ (x : List ℕ). line_feed lends (line n phrase.Else) ++ (lines_text lends (code_lines d (suc n)) ++ x)) (one_line lends (line n phrase.End)) in
    ap (lines_text lends) (lines_out (instr.If t c d) n ∙ ap (λ x. layer x n) (outs-If t c d))
    ∙ block lends (line n (phrase.If t)) (code_lines c (suc n)) rest
    ∙ ap (λ (x : List ℕ). line_feed lends (line n (phrase.If t)) ++ (lines_text lends (code_lines c (suc n)) ++ x)) after
    ∙ ap (λ m. line_feed lends (line n (phrase.If t)) ++ (lines_text lends (code_lines c m) ++ (line_feed lends (line n phrase.Else) ++ (lines_text lends (code_lines d m) ++ line_feed lends (line n phrase.End))))) (sym (add-one n))

pub while_printed : (lends : Bool) (n : ℕ) (c : Code) (t : ℕ) (d : Code) → instr_lines_text lends n (instr.While c t d) ≡ while_text lends n c t d
unfolding instr_lines_text while_text code_text layer
while_printed lends n c t d =
    let rest = line n (phrase.Do t) ∷ (code_lines d (suc n) ++ line n phrase.End ∷ []) in
    let after : lines_text lends rest ≡ line_feed lends (line n (phrase.Do t)) ++ (lines_text lends (code_lines d (suc n)) ++ line_feed lends (line n phrase.End)) =
    block lends (line n (phrase.Do t)) (code_lines d (suc n)) (line n phrase.End ∷ [])
    ∙ ap (λ (x : List ℕ). line_feed lends (line n (phrase.Do t)) ++ (lines_text lends (code_lines d (suc n)) ++ x)) (one_line lends (line n phrase.End)) in
    ap (lines_text lends) (lines_out (instr.While c t d) n ∙ ap (λ x. layer x n) (outs-While c t d))
    ∙ block lends (line n phrase.While) (code_lines c (suc n)) rest
    ∙ ap (λ (x : List ℕ). line_feed lends (line n phrase.While) ++ (lines_text lends (code_lines c (suc n)) ++ x)) after
    ∙ ap (λ m. line_feed lends (line n phrase.While) ++ (lines_text lends (code_lines c m) ++ (line_feed lends (line n (phrase.Do t)) ++ (lines_text lends (code_lines d m) ++ line_feed lends (line n phrase.End))))) (sym (add-one n))

pub plain_printed : (lends : Bool) (n : ℕ) (i : Instr) → is_flat (out-Instr i) ≡ true → instr_lines_text lends n i ≡ (indent n ++ instr_text lends i) ++ 10 ∷ []
unfolding instr_lines_text
plain_printed lends n i h = ap (lines_text lends) (flat_lines i n h) ∙ one_line lends (line n (phrase.Plain i))

-- the text of code, by its instructions
each_printed : (lends : Bool) (n : ℕ) (is : List Instr) → lines_text lends (items_lines n is) ≡ flat_map (instr_lines_text lends n) is
unfolding instr_lines_text
each_printed lends n [] = refl
each_printed lends n (i ∷ is) = lines_append lends (instr_lines i n) (items_lines n is) ∙ ap (λ (x : List ℕ). lines_text lends (instr_lines i n) ++ x) (each_printed lends n is)

pub code_printed : (lends : Bool) (n : ℕ) (c : Code) → code_text lends n c ≡ flat_map (instr_lines_text lends n) (out-Code c).list
unfolding code_text
code_printed lends n c = ap (lines_text lends) (ap (λ (f : Lines). f n) (fold_out-Code Lines Lines instr_step code_step c) ∙ each_at (out-Code c).list n) ∙ each_printed lends n (out-Code c).list

pub not_block : (i : Instr) → ((x : ℕ) (c d : Code) → i ≢ instr.If x c d) → ((c : Code) (x : ℕ) (d : Code) → i ≢ instr.While c x d) → is_flat (out-Instr i) ≡ true
not_block i if_not while_not = by_layer (out-Instr i) (sym (roll-out-Instr i))
  where
    by_layer : (x : Open.Instr-F Instr Code) → i ≡ roll-Instr x → is_flat x ≡ true
    by_layer (Open.If t c d) e = absurd (if_not t c d (e ∙ rolls-If t c d))
    by_layer (Open.While c t d) e = absurd (while_not c t d (e ∙ rolls-While c t d))
    by_layer _ e = refl

-- ---- procedures and programs

pub proc_printed : (lends : Bool) (p : Proc) → proc_text lends p ≡ (proc_header p.name p.args p.regs ++ 10 ∷ []) ++ (code_text lends 1 p.code ++ (((indent 1 ++ ret_text p.ret) ++ 10 ∷ []) ++ line_feed lends (line 0 phrase.End)))
unfolding proc_text code_text
proc_printed lends p =
    let rest = line 1 (phrase.Ret p.ret) ∷ line 0 phrase.End ∷ [] in
    let after : lines_text lends rest ≡ line_feed lends (line 1 (phrase.Ret p.ret)) ++ line_feed lends (line 0 phrase.End) =
    flat_map-cons (line_feed lends) (line 1 (phrase.Ret p.ret)) (line 0 phrase.End ∷ []) ∙ ap (λ (x : List ℕ). line_feed lends (line 1 (phrase.Ret p.ret)) ++ x) (one_line lends (line 0 phrase.End)) in
    block lends (line 0 (phrase.Proc p.name p.args p.regs)) (code_lines p.code 1) rest
    ∙ ap (λ (x : List ℕ). (proc_header p.name p.args p.regs ++ 10 ∷ []) ++ (lines_text lends (code_lines p.code 1) ++ x)) after

procs_printed : (lends : Bool) (ps : List Proc) → lines_text lends (flat_map proc_lines ps) ≡ procs_text lends ps
unfolding procs_text proc_text
procs_printed lends [] = refl
procs_printed lends (p ∷ ps) = lines_append lends (proc_lines p) (flat_map proc_lines ps) ∙ ap (λ (x : List ℕ). lines_text lends (proc_lines p) ++ x) (procs_printed lends ps)

inputs_printed : (lends : Bool) (ins : List InParam) → lines_text lends (map (λ p. line 0 (phrase.In p)) ins) ≡ inputs_text ins
unfolding inputs_text
inputs_printed lends [] = refl
inputs_printed lends (p ∷ ps) = ap (λ (x : List ℕ). line_feed lends (line 0 (phrase.In p)) ++ x) (inputs_printed lends ps)

results_printed : (lends : Bool) (outs : List Rep) → lines_text lends (map (λ r. line 0 (phrase.Out r)) outs) ≡ results_text outs
unfolding results_text
results_printed lends [] = refl
results_printed lends (r ∷ rs) = ap (λ (x : List ℕ). line_feed lends (line 0 (phrase.Out r)) ++ x) (results_printed lends rs)

pub program_printed : (t : Program) → program_text t ≡ line_feed (lends t) (line 0 (phrase.Sepref (lends t))) ++ (inputs_text t.ins ++ (results_text t.outs ++ procs_text (lends t) t.procs))
program_printed t =
    let ins = map (λ p. line 0 (phrase.In p)) t.ins in
    let outs = map (λ r. line 0 (phrase.Out r)) t.outs in
    let procs = flat_map proc_lines t.procs in
    let rest : lines_text (lends t) (outs ++ procs) ≡ results_text t.outs ++ procs_text (lends t) t.procs = lines_append (lends t) outs procs ∙ ap (λ (x : List ℕ). x ++ lines_text (lends t) procs) (results_printed (lends t) t.outs) ∙ ap (λ (x : List ℕ). results_text t.outs ++ x) (procs_printed (lends t) t.procs) in
    block (lends t) (line 0 (phrase.Sepref (lends t))) ins (outs ++ procs)
    ∙ ap (λ (x : List ℕ). line_feed (lends t) (line 0 (phrase.Sepref (lends t))) ++ (x ++ lines_text (lends t) (outs ++ procs))) (inputs_printed (lends t) t.ins)
    ∙ ap (λ (x : List ℕ). line_feed (lends t) (line 0 (phrase.Sepref (lends t))) ++ (inputs_text t.ins ++ x)) rest
