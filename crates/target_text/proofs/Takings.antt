-- The lines of a program whose blocks nest are taken, and give that program.
use Rattle.std.proofs.Common.{◌≡◌, true, List, [], ◌∷◌, ◌++◌, map, Option, Some, None, unwrap_or, ap, sym, ◌∙◌, append_assoc}
use Rattle.std.specs.List.{flat_map}
use Rattle.std.proofs.lemmas.List.{append-nil}
use Rattle.target_code.specs.declared.tree.Rep.{Rep}
use Rattle.target_code.specs.declared.tree.InParam.{InParam}
use Rattle.target_code.specs.declared.tree.Code.{Code, out-Code}
use Rattle.target_code.specs.declared.tree.Proc.{Proc}
use Rattle.target_code.specs.declared.tree.Program.{Program}
use Rattle.target_code.specs.Lines.{code_nests}
use Rattle.target_code.specs.Formed.{blocks_nest}
use Rattle.target_lines.specs.declared.line.Line.{Line}
use Rattle.target_lines.specs.declared.line.Phrase.TheVariants as phrase
use Rattle.target_lines.specs.Programs.{line, code_lines, proc_lines, items_lines}
use Rattle.target_judge.specs.Shape.{Place, place, takes, and_then, run}
use Rattle.target_judge.specs.Taking.{Header, Between, Inside, State, state, start, take_line, take_inside}
use Rattle.target_lines.proofs.Pieces.{and_parts}
use Rattle.target_text.proofs.ShapesBack.{code_taken, code_out, nests_out, same_code}

-- one line after the other
abbrev pub from : {L S : Type 0} → (L → S → Option S) → List L → S → Option S
from step [] s = Some s
from step (l ∷ ls) s = and_then (step l s) (from step ls)

abbrev pub taken : List Line → State → Option State
taken ls s = from take_line ls s

-- ---- code

one_inside : (ins : List InParam) (outs : List Rep) (procs : List Proc) (h : Header) (l : Line) (ls more : List Line) (p q : Place)
    → ((r : Place) → run ls r ≡ Some q → taken (ls ++ more) (state ins outs procs (Inside h r)) ≡ taken more (state ins outs procs (Inside h q)))
    → (o : Option Place) → and_then o (run ls) ≡ Some q
    → and_then (and_then (take_inside h l p o) (λ spot. Some (state ins outs procs spot))) (from take_line (ls ++ more)) ≡ taken more (state ins outs procs (Inside h q))
one_inside ins outs procs h l ls more p q others None e = absurd cc
one_inside ins outs procs h l ls more p q others (Some r) e = others r e

inside_taken : (ins : List InParam) (outs : List Rep) (procs : List Proc) (h : Header) (ls more : List Line) (p q : Place)
    → run ls p ≡ Some q → taken (ls ++ more) (state ins outs procs (Inside h p)) ≡ taken more (state ins outs procs (Inside h q))
unfolding run take_line
inside_taken ins outs procs h [] more p q e =
    let same : p ≡ q = cc in
    ap (λ r. taken more (state ins outs procs (Inside h r))) same
inside_taken ins outs procs h (l ∷ ls) more p q e = one_inside ins outs procs h l ls more p q (λ r g. inside_taken ins outs procs h ls more r q g) (takes l p) e

code_inside : (ins : List InParam) (outs : List Rep) (procs : List Proc) (h : Header) (c : Code) (more : List Line) → code_nests c 0 ≡ true
    → taken (code_lines c 1 ++ more) (state ins outs procs (Inside h (place [] []))) ≡ taken more (state ins outs procs (Inside h (place [] (out-Code c).list)))
unfolding run
code_inside ins outs procs h c more nests =
    let xs = (out-Code c).list in
    let runs : run (items_lines 1 xs) (place [] []) ≡ Some (place [] xs) =
    ap (λ ls. run ls (place [] [])) (sym (append-nil (items_lines 1 xs))) ∙ code_taken c [] [] [] (sym (nests_out c 0) ∙ nests) in
    ap (λ (ls : List Line). taken (ls ++ more) (state ins outs procs (Inside h (place [] [])))) (code_out c 1)
    ∙ inside_taken ins outs procs h (items_lines 1 xs) more (place [] []) (place [] xs) runs

-- ---- procedures

proc_taken : (ins : List InParam) (outs : List Rep) (procs : List Proc) (p : Proc) (more : List Line) → code_nests p.code 0 ≡ true
    → taken (proc_lines p ++ more) (state ins outs procs Between) ≡ taken more (state ins outs (procs ++ p ∷ []) Between)
unfolding take_line takes
proc_taken ins outs procs p more nests =
    let h : Header = record { name = p.name; args = p.args; regs = p.regs } in
    let rest = line 1 (phrase.Ret p.ret) ∷ line 0 phrase.End ∷ [] in
    ap (λ (ls : List Line). taken ls (state ins outs procs (Inside h (place [] [])))) (append_assoc (code_lines p.code 1) rest more)
    ∙ code_inside ins outs procs h p.code (rest ++ more) nests
    ∙ ap (λ c. taken more (state ins outs (procs ++ record { name = p.name; args = p.args; regs = p.regs; code = c; ret = p.ret } ∷ []) Between)) (same_code p.code)

procs_taken : (ins : List InParam) (outs : List Rep) (procs ps : List Proc) (more : List Line) → blocks_nest ps ≡ true
    → taken (flat_map proc_lines ps ++ more) (state ins outs procs Between) ≡ taken more (state ins outs (procs ++ ps) Between)
procs_taken ins outs procs [] more h = ap (λ (x : List Proc). taken more (state ins outs x Between)) (sym (append-nil procs))
procs_taken ins outs procs (p ∷ ps) more h =
    let parts = and_parts (code_nests p.code 0) (blocks_nest ps) h in
    ap (λ (ls : List Line). taken ls (state ins outs procs Between)) (append_assoc (proc_lines p) (flat_map proc_lines ps) more)
    ∙ proc_taken ins outs procs p (flat_map proc_lines ps ++ more) parts.0
    ∙ procs_taken ins outs (procs ++ p ∷ []) ps more parts.1
    ∙ ap (λ (x : List Proc). taken more (state ins outs x Between)) (append_assoc procs (p ∷ []) ps)

-- ---- heads

ins_taken : (ins ps : List InParam) (more : List Line) → taken (map (λ p. line 0 (phrase.In p)) ps ++ more) (state ins [] [] Between) ≡ taken more (state (ins ++ ps) [] [] Between)
unfolding take_line
ins_taken ins [] more = ap (λ (x : List InParam). taken more (state x [] [] Between)) (sym (append-nil ins))
ins_taken ins (p ∷ ps) more = ins_taken (ins ++ p ∷ []) ps more ∙ ap (λ (x : List InParam). taken more (state x [] [] Between)) (append_assoc ins (p ∷ []) ps)

outs_taken : (ins : List InParam) (outs rs : List Rep) (more : List Line) → taken (map (λ r. line 0 (phrase.Out r)) rs ++ more) (state ins outs [] Between) ≡ taken more (state ins (outs ++ rs) [] Between)
unfolding take_line
outs_taken ins outs [] more = ap (λ (x : List Rep). taken more (state ins x [] Between)) (sym (append-nil outs))
outs_taken ins outs (r ∷ rs) more = outs_taken ins (outs ++ r ∷ []) rs more ∙ ap (λ (x : List Rep). taken more (state ins x [] Between)) (append_assoc outs (r ∷ []) rs)

-- the lines of a program behind the first
abbrev pub body_lines : Program → List Line
body_lines t = map (λ p. line 0 (phrase.In p)) t.ins ++ (map (λ r. line 0 (phrase.Out r)) t.outs ++ flat_map proc_lines t.procs)

pub program_taken : (t : Program) → blocks_nest t.procs ≡ true → taken (body_lines t) start ≡ Some (state t.ins t.outs t.procs Between)
program_taken t h =
    let procs = flat_map proc_lines t.procs in
    ins_taken [] t.ins (map (λ r. line 0 (phrase.Out r)) t.outs ++ procs)
    ∙ outs_taken t.ins [] t.outs procs
    ∙ ap (λ ls. taken ls (state t.ins t.outs [] Between)) (sym (append-nil procs))
    ∙ procs_taken t.ins t.outs [] t.procs [] h

-- so two programs with the same lines are one
pub same_lines : (t u : Program) → blocks_nest t.procs ≡ true → blocks_nest u.procs ≡ true → body_lines t ≡ body_lines u → t ≡ u
same_lines t u h k e =
    let both : Some (state t.ins t.outs t.procs Between) ≡ Some (state u.ins u.outs u.procs Between) = sym (program_taken t h) ∙ ap (λ ls. taken ls start) e ∙ program_taken u k in
    let ins : t.ins ≡ u.ins = ap (λ (o : Option State). (unwrap_or o start).ins) both in
    let outs : t.outs ≡ u.outs = ap (λ (o : Option State). (unwrap_or o start).outs) both in
    let procs : t.procs ≡ u.procs = ap (λ (o : Option State). (unwrap_or o start).procs) both in
    ap (λ x. let y : Program = record { ins = x; outs = t.outs; procs = t.procs } in y) ins
    ∙ ap (λ x. let y : Program = record { ins = u.ins; outs = x; procs = t.procs } in y) outs
    ∙ ap (λ x. let y : Program = record { ins = u.ins; outs = u.outs; procs = x } in y) procs
