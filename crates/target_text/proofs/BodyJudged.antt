-- The lines of inputs, of results and of procedures are judged one after the other.
use Rattle.std.proofs.Common.{◌≡◌, ℕ, ◌+◌, true, List, [], ◌∷◌, ◌++◌, length, map, Option, Some, ap, sym, ◌∙◌, append_assoc}
use Rattle.std.specs.List.{flat_map}
use Rattle.std.proofs.lemmas.List.{append-nil}
use Rattle.target_code.specs.declared.tree.Rep.{Rep}
use Rattle.target_code.specs.declared.tree.InParam.{InParam}
use Rattle.target_code.specs.declared.tree.Proc.{Proc}
use Rattle.target_code.specs.Reps.{width}
use Rattle.target_code.specs.Formed.{is_shown, results_shown}
use Rattle.target_lines.specs.declared.line.Line.{Line}
use Rattle.target_lines.specs.declared.line.Phrase.TheVariants as phrase
use Rattle.target_lines.proofs.Pieces.{and_parts}
use Rattle.target_judge.specs.declared.told.Told.{Told}
use Rattle.target_lines.specs.Programs.{line, proc_lines}
use Rattle.target_judge.specs.Shape.{guard, and_then}
use Rattle.target_judge.specs.Taking.{Between, state, take_line}
use Rattle.target_judge.specs.Told.{Kind, Input, Agrees, fact}
use Rattle.target_judge.specs.Judging.{Judged, judged, is_input, next_width, told_after, tested, put, judge}
use Rattle.target_text.specs.Runs.{judge_all}
use Rattle.target_text.proofs.Passing.{AreNext, AreInputs, width_of}
use Rattle.target_text.proofs.Tells.{all_agree}
use Rattle.target_text.proofs.ProcJudged.{proc_judged}

abbrev At : List InParam → List Rep → List Proc → Told → ℕ → Judged
At ins outs procs t w = judged (state ins outs procs Between) t w

pub procs_judged : (numbers : Kind → List ℕ → ℕ) (ins : List InParam) (outs : List Rep) (w : ℕ) (ps qs : List Proc) (more : List Line) (t : Told) → Agrees numbers t → AreNext numbers w outs ps qs
    → (v : Told) × Agrees numbers v × (judge_all (flat_map proc_lines qs ++ more) (At ins outs ps t w) ≡ judge_all more (At ins outs (ps ++ qs) v w))
procs_judged numbers ins outs w ps [] more t agrees are = (t, agrees, ap (λ (x : List Proc). judge_all more (At ins outs x t w)) (sym (append-nil ps)))
procs_judged numbers ins outs w ps (q ∷ qs) more t agrees are =
    let one = proc_judged numbers ins outs ps w q (flat_map proc_lines qs ++ more) t agrees are.0 in
    let rest = procs_judged numbers ins outs w (ps ++ q ∷ []) qs more one.0 one.1 are.1 in (
      rest.0,
      rest.1,
      ap (λ (ls : List Line). judge_all ls (At ins outs ps t w)) (append_assoc (proc_lines q) (flat_map proc_lines qs) more)
          ∙ one.2 ∙ rest.2 ∙ ap (λ (x : List Proc). judge_all more (At ins outs x rest.0 w)) (append_assoc ps (q ∷ []) qs),
    )

out_judged : (ins : List InParam) (outs : List Rep) (w : ℕ) (r : Rep) (t : Told) → is_shown r ≡ true → judge (line 0 (phrase.Out r)) (At ins outs [] t w) ≡ Some (At ins (outs ++ r ∷ []) [] t w)
unfolding judge tested told_after take_line
out_judged ins outs w r t shown = ap (λ b. and_then (and_then (guard b t) (λ u. Some (judged (state ins outs [] Between) u w))) (put (line 0 (phrase.Out r)))) shown

pub outs_judged : (ins : List InParam) (outs rs : List Rep) (w : ℕ) (more : List Line) (t : Told) → results_shown rs ≡ true
    → judge_all (map (λ r. line 0 (phrase.Out r)) rs ++ more) (At ins outs [] t w) ≡ judge_all more (At ins (outs ++ rs) [] t w)
outs_judged ins outs [] w more t shown = ap (λ (x : List Rep). judge_all more (At ins x [] t w)) (sym (append-nil outs))
outs_judged ins outs (r ∷ rs) w more t shown =
    let parts = and_parts (is_shown r) (results_shown rs) shown in
    ap (λ (o : Option Judged). and_then o (judge_all (map (λ r. line 0 (phrase.Out r)) rs ++ more))) (out_judged ins outs w r t parts.0)
    ∙ outs_judged ins (outs ++ r ∷ []) rs w more t parts.1
    ∙ ap (λ (x : List Rep). judge_all more (At ins x [] t w)) (append_assoc outs (r ∷ []) rs)

in_judged : (numbers : Kind → List ℕ → ℕ) (ins : List InParam) (w : ℕ) (p : InParam) (t : Told) → Agrees numbers t → is_input p ≡ true → numbers Input p.name ≡ length ins → next_width (phrase.In p) w ≡ Some (w + width p.rep)
    → (u : Told) × Agrees numbers u × (judge (line 0 (phrase.In p)) (At ins [] [] t w) ≡ Some (At (ins ++ p ∷ []) [] [] u (w + width p.rep)))
unfolding judge tested told_after take_line
in_judged numbers ins w p t agrees fits place wide =
    let l = line 0 (phrase.In p) in
    let s = state ins [] [] Between in
    let told = all_agree numbers (fact Input p.name (length ins) ∷ []) t agrees (place, tt) in
    let after : told_after l.phrase w s t ≡ Some told.0 = ap (λ (o : Option Told). and_then o (λ u. guard (is_input p) u)) told.1 ∙ ap (λ b. guard b told.0) fits in (
      told.0,
      told.2,
      ap (λ (o : Option Told). and_then (and_then o (λ u. and_then (next_width l.phrase w) (λ v. Some (judged s u v)))) (put l)) after
          ∙ ap (λ (o : Option ℕ). and_then (and_then o (λ v. Some (judged s told.0 v))) (put l)) wide,
    )

pub ins_judged : (numbers : Kind → List ℕ → ℕ) (ins ps : List InParam) (w : ℕ) (more : List Line) (t : Told) → Agrees numbers t → AreInputs numbers ins w ps
    → (u : Told) × Agrees numbers u × (judge_all (map (λ p. line 0 (phrase.In p)) ps ++ more) (At ins [] [] t w) ≡ judge_all more (At (ins ++ ps) [] [] u (width_of w ps)))
ins_judged numbers ins [] w more t agrees are = (t, agrees, ap (λ (x : List InParam). judge_all more (At x [] [] t w)) (sym (append-nil ins)))
ins_judged numbers ins (p ∷ ps) w more t agrees are =
    let one = in_judged numbers ins w p t agrees are.0.fits are.0.place are.0.wide in
    let rest = ins_judged numbers (ins ++ p ∷ []) ps (w + width p.rep) more one.0 one.1 are.1 in (
      rest.0,
      rest.1,
      ap (λ (o : Option Judged). and_then o (judge_all (map (λ p. line 0 (phrase.In p)) ps ++ more))) one.2
          ∙ rest.2 ∙ ap (λ (x : List InParam). judge_all more (At x [] [] rest.0 (width_of (w + width p.rep) ps))) (append_assoc ins (p ∷ []) ps),
    )

-- all lines behind the first
pub body_judged : (numbers : Kind → List ℕ → ℕ) (ins : List InParam) (outs : List Rep) (procs : List Proc) (t : Told) → Agrees numbers t → AreInputs numbers [] 0 ins → results_shown outs ≡ true → AreNext numbers (width_of 0 ins) outs [] procs
    → (v : Told) × Agrees numbers v × (judge_all (map (λ p. line 0 (phrase.In p)) ins ++ (map (λ r. line 0 (phrase.Out r)) outs ++ flat_map proc_lines procs)) (At [] [] [] t 0) ≡ Some (At ins outs procs v (width_of 0 ins)))
body_judged numbers ins outs procs t agrees inputs shown next =
    let first = ins_judged numbers [] ins 0 (map (λ r. line 0 (phrase.Out r)) outs ++ flat_map proc_lines procs) t agrees inputs in
    let last = procs_judged numbers ins outs (width_of 0 ins) [] procs [] first.0 first.1 next in (
      last.0,
      last.1,
      first.2
          ∙ outs_judged ins [] outs (width_of 0 ins) (flat_map proc_lines procs) first.0 shown
          ∙ ap (λ (ls : List Line). judge_all ls (At ins outs [] first.0 (width_of 0 ins))) (sym (append-nil (flat_map proc_lines procs)))
          ∙ last.2,
    )
