-- The lines of a procedure of a program are judged, and give it.
use Rattle.std.proofs.Common.{◌≡◌, ℕ, ◌||◌, Bool, true, false, nat_eq, nat_le, nat_lt, List, [], ◌∷◌, ◌++◌, length, Option, Some, None, refl, ap, sym, ◌∙◌, append_assoc, arith}
use Rattle.std.specs.Cmp.Derive.{both_true}
use Rattle.std.proofs.lemmas.Bool.{ltb-true, le-leb}
use Rattle.std.proofs.lemmas.List.{append-nil}
use Rattle.target_code.specs.declared.tree.Rep.{Rep}
use Rattle.target_code.specs.declared.tree.InParam.{InParam}
use Rattle.target_code.specs.declared.tree.Code.{out-Code}
use Rattle.target_code.specs.declared.tree.Instr.{Instr}
use Rattle.target_code.specs.declared.tree.Proc.{Proc}
use Rattle.target_code.specs.Lines as tests
use Rattle.target_lines.specs.declared.line.Line.{Line}
use Rattle.target_lines.specs.declared.line.Phrase.TheVariants as phrase
use Rattle.target_lines.proofs.Pieces.{and_parts}
use Rattle.target_judge.specs.declared.told.Told.{Told}
use Rattle.target_lines.specs.Programs.{line, code_lines, items_lines, proc_lines}
use Rattle.target_judge.specs.Shape.{place, guard, takes, and_then, run}
use Rattle.target_judge.specs.Taking.{Header, Between, Inside, Ended, state, take_line}
use Rattle.target_judge.specs.Told.{Kind, Results, Agrees, lookup, fact}
use Rattle.target_judge.specs.Judging.{Judged, judged, head_tells, is_header, has_room, told_after, tested, put, judge}
use Rattle.target_text.specs.Runs.{judge_all}
use Rattle.target_text.proofs.Passing.{IsNext}
use Rattle.target_text.proofs.Tells.{all_agree}
use Rattle.target_text.proofs.CodeJudged.{code_judged}
use Rattle.target_text.proofs.ShapesBack.{code_taken, code_out, nests_out, same_code}

-- a procedure with no registers has no results
pub room_left : (regs m : ℕ) (rs : List ℕ) → tests.all_below regs rs ≡ true → length rs ≡ m → (nat_eq m 0 || nat_le 1 regs) ≡ true
room_left regs m [] h e = ap (λ k. nat_eq k 0 || nat_le 1 regs) (sym e)
room_left regs m (r ∷ rs) h e =
    let first = and_parts (nat_lt r regs) (tests.all_below regs rs) h in
    let some : nat_le 1 regs ≡ true = le-leb 1 regs (omega (arith, ltb-true r regs first.0)) in
    by_either (nat_eq m 0) some
  where
    by_either : (b : Bool) → nat_le 1 regs ≡ true → (b || nat_le 1 regs) ≡ true
    by_either true k = refl
    by_either false k = k

has_its_room : (regs n : ℕ) (rs : List ℕ) (o : Option ℕ) → tests.all_below regs rs ≡ true → ((m : ℕ) → o ≡ Some m → length rs ≡ m) → has_room regs o ≡ true
has_its_room regs n rs None h e = refl
has_its_room regs n rs (Some m) h e = room_left regs m rs h (e m refl)

abbrev header : Proc → Header
header p = record { name = p.name; args = p.args; regs = p.regs }

-- the first line
begins_proc : (numbers : Kind → List ℕ → ℕ) (ins : List InParam) (outs : List Rep) (ps : List Proc) (w : ℕ) (p : Proc) (t : Told) → Agrees numbers t → IsNext numbers w outs ps p
    → (u : Told) × Agrees numbers u × (judge (line 0 (phrase.Proc p.name p.args p.regs)) (judged (state ins outs ps Between) t w) ≡ Some (judged (state ins outs ps (Inside (header p) (place [] []))) u w))
unfolding judge tested told_after take_line
begins_proc numbers ins outs ps w p t agrees is =
    let l = line 0 (phrase.Proc p.name p.args p.regs) in
    let s = state ins outs ps Between in
    let told = all_agree numbers (head_tells l.phrase w s) t agrees is.tells in
    let room : has_room p.regs (lookup Results p.name told.0) ≡ true = has_its_room p.regs 0 p.ret (lookup Results p.name told.0) is.ret (λ m e. sym is.gives ∙ told.2 Results p.name m e) in
    let fits : is_header ps p.name p.args p.regs told.0 ≡ true = both_true is.named (both_true is.first (both_true is.sizes (both_true is.limit room))) in
    let after : told_after l.phrase w s t ≡ Some told.0 = ap (λ (o : Option Told). and_then o (λ u. guard (is_header ps p.name p.args p.regs u) u)) told.1 ∙ ap (λ b. guard b told.0) fits in
    (told.0, told.2, ap (λ (o : Option Told). and_then (and_then o (λ u. Some (judged s u w))) (put l)) after)

-- the results
pub ret_judged : (numbers : Kind → List ℕ → ℕ) (ins : List InParam) (outs : List Rep) (ps : List Proc) (w : ℕ) (h : Header) (xs : List Instr) (rs : List ℕ) (t : Told) → Agrees numbers t → numbers Results h.name ≡ length rs → tests.all_below h.regs rs ≡ true
    → (u : Told) × Agrees numbers u × (judge (line 1 (phrase.Ret rs)) (judged (state ins outs ps (Inside h (place [] xs))) t w) ≡ Some (judged (state ins outs ps (Ended h xs rs)) u w))
unfolding judge tested told_after take_line takes
ret_judged numbers ins outs ps w h xs rs t agrees gives below =
    let l = line 1 (phrase.Ret rs) in
    let s = state ins outs ps (Inside h (place [] xs)) in
    let told = all_agree numbers (fact Results h.name (length rs) ∷ []) t agrees (gives, tt) in
    let after : told_after l.phrase w s t ≡ Some told.0 = ap (λ (o : Option Told). and_then o (λ u. guard (tests.all_below h.regs rs) u)) told.1 ∙ ap (λ b. guard b told.0) below in
    (told.0, told.2, ap (λ (o : Option Told). and_then (and_then o (λ u. Some (judged s u w))) (put l)) after)

ends_proc : (ins : List InParam) (outs : List Rep) (ps : List Proc) (w : ℕ) (p : Proc) (t : Told)
    → judge (line 0 phrase.End) (judged (state ins outs ps (Ended (header p) (out-Code p.code).list p.ret)) t w) ≡ Some (judged (state ins outs (ps ++ p ∷ []) Between) t w)
unfolding judge tested told_after take_line
ends_proc ins outs ps w p t = ap (λ c. Some (judged (state ins outs (ps ++ record { name = p.name; args = p.args; regs = p.regs; code = c; ret = p.ret } ∷ []) Between) t w)) (same_code p.code)

pub proc_judged : (numbers : Kind → List ℕ → ℕ) (ins : List InParam) (outs : List Rep) (ps : List Proc) (w : ℕ) (p : Proc) (more : List Line) (t : Told) → Agrees numbers t → IsNext numbers w outs ps p
    → (v : Told) × Agrees numbers v × (judge_all (proc_lines p ++ more) (judged (state ins outs ps Between) t w) ≡ judge_all more (judged (state ins outs (ps ++ p ∷ []) Between) v w))
unfolding run
proc_judged numbers ins outs ps w p more t agrees is =
    let h = header p in
    let xs = (out-Code p.code).list in
    let rest = line 1 (phrase.Ret p.ret) ∷ line 0 phrase.End ∷ [] in
    let begun = begins_proc numbers ins outs ps w p t agrees is in
    let runs : run (code_lines p.code 1) (place [] []) ≡ Some (place [] xs) =
    ap (λ ls. run ls (place [] [])) (code_out p.code 1 ∙ sym (append-nil (items_lines 1 xs))) ∙ code_taken p.code [] [] [] (sym (nests_out p.code 0) ∙ is.nests) in
    let inside = code_judged numbers ins outs ps h w (code_lines p.code 1) (rest ++ more) (place [] []) (place [] xs) begun.0 begun.1 (is.code 1) runs in
    let given = ret_judged numbers ins outs ps w h xs p.ret inside.0 inside.1 is.gives is.ret in (
      given.0,
      given.1,
      ap (λ (o : Option Judged). and_then o (judge_all ((code_lines p.code 1 ++ rest) ++ more))) begun.2
          ∙ ap (λ (ls : List Line). judge_all ls (judged (state ins outs ps (Inside h (place [] []))) begun.0 w)) (append_assoc (code_lines p.code 1) rest more)
          ∙ inside.2
          ∙ ap (λ (o : Option Judged). and_then o (λ j. and_then (judge (line 0 phrase.End) j) (judge_all more))) given.2
          ∙ ap (λ (o : Option Judged). and_then o (judge_all more)) (ends_proc ins outs ps w p given.0),
    )
