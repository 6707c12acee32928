-- Lines of code that pass their tests, and tell what the program has, are judged as they are taken.
use Rattle.std.proofs.Common.{◌≡◌, ℕ, List, [], ◌∷◌, ◌++◌, Option, Some, None, refl, ap, ◌∙◌}
use Rattle.target_code.specs.declared.tree.Rep.{Rep}
use Rattle.target_code.specs.declared.tree.InParam.{InParam}
use Rattle.target_code.specs.declared.tree.Proc.{Proc}
use Rattle.target_lines.specs.declared.line.Line.{Line}
use Rattle.target_judge.specs.declared.told.Told.{Told}
use Rattle.target_judge.specs.Shape.{Place, guard, takes, and_then, run}
use Rattle.target_judge.specs.Taking.{Header, Inside, State, state, take_line, take_inside}
use Rattle.target_judge.specs.Told.{Kind, Agrees}
use Rattle.target_judge.specs.Judging.{Judged, judged, code_tells, code_fits, next_width, told_after, tested, advance, put, judge}
use Rattle.target_text.specs.Runs.{judge_all}
use Rattle.target_text.proofs.Passing.{IsCode, AreCode}
use Rattle.target_text.proofs.Tells.{all_agree}

-- one such line
one_judged : (numbers : Kind → List ℕ → ℕ) (ins : List InParam) (outs : List Rep) (procs : List Proc) (h : Header) (w : ℕ) (l : Line) (p r : Place) (t : Told)
    → Agrees numbers t → IsCode numbers h.regs h.name l → takes l p ≡ Some r
    → (u : Told) × Agrees numbers u × (judge l (judged (state ins outs procs (Inside h p)) t w) ≡ Some (judged (state ins outs procs (Inside h r)) u w))
unfolding judge tested told_after take_line
one_judged numbers ins outs procs h w l p r t agrees code goes =
    let s = state ins outs procs (Inside h p) in
    let told = all_agree numbers (code_tells l.phrase h.name) t agrees code.tells in
    let after : told_after l.phrase w s t ≡ Some told.0 =
    ap (λ (o : Option Told). and_then o (λ u. guard (code_fits l.phrase h.regs) u)) told.1 ∙ ap (λ b. guard b told.0) code.fits in
    let there : tested l.phrase (judged s t w) ≡ Some (judged s told.0 w) =
    ap (λ (o : Option Told). and_then o (λ u. and_then (next_width l.phrase w) (λ v. Some (judged s u v)))) after ∙ ap (λ (o : Option ℕ). and_then o (λ v. Some (judged s told.0 v))) (code.narrow w) in
    let taken : take_line l s ≡ Some (state ins outs procs (Inside h r)) = ap (λ (o : Option Place). and_then (take_inside h l p o) (λ spot. Some (state ins outs procs spot))) goes in
    (told.0, told.2, ap (λ (o : Option Judged). and_then o (put l)) there ∙ ap (λ (o : Option State). advance told.0 w o) taken)

by_place : (numbers : Kind → List ℕ → ℕ) (ins : List InParam) (outs : List Rep) (procs : List Proc) (h : Header) (w : ℕ) (l : Line) (ls more : List Line) (p q : Place) (t : Told)
    → Agrees numbers t → IsCode numbers h.regs h.name l
    → ((r : Place) (u : Told) → Agrees numbers u → run ls r ≡ Some q → (v : Told) × Agrees numbers v × (judge_all (ls ++ more) (judged (state ins outs procs (Inside h r)) u w) ≡ judge_all more (judged (state ins outs procs (Inside h q)) v w)))
    → (o : Option Place) → takes l p ≡ o → and_then o (run ls) ≡ Some q
    → (v : Told) × Agrees numbers v × (and_then (judge l (judged (state ins outs procs (Inside h p)) t w)) (judge_all (ls ++ more)) ≡ judge_all more (judged (state ins outs procs (Inside h q)) v w))
by_place numbers ins outs procs h w l ls more p q t agrees code rest None is e = absurd cc
by_place numbers ins outs procs h w l ls more p q t agrees code rest (Some r) is e =
    let one = one_judged numbers ins outs procs h w l p r t agrees code is in
    let others = rest r one.0 one.1 e in
    (others.0, others.1, ap (λ (o : Option Judged). and_then o (judge_all (ls ++ more))) one.2 ∙ others.2)

-- all lines of code
pub code_judged : (numbers : Kind → List ℕ → ℕ) (ins : List InParam) (outs : List Rep) (procs : List Proc) (h : Header) (w : ℕ) (ls more : List Line) (p q : Place) (t : Told)
    → Agrees numbers t → AreCode numbers h.regs h.name ls → run ls p ≡ Some q
    → (v : Told) × Agrees numbers v × (judge_all (ls ++ more) (judged (state ins outs procs (Inside h p)) t w) ≡ judge_all more (judged (state ins outs procs (Inside h q)) v w))
unfolding run
code_judged numbers ins outs procs h w [] more p q t agrees code e =
    let same : p ≡ q = cc in
    (t, agrees, ap (λ (r : Place). judge_all more (judged (state ins outs procs (Inside h r)) t w)) same)
code_judged numbers ins outs procs h w (l ∷ ls) more p q t agrees code e =
    by_place numbers ins outs procs h w l ls more p q t agrees code.0 (λ r u k g. code_judged numbers ins outs procs h w ls more r q u k code.1 g) (takes l p) refl e
