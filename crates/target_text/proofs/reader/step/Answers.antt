use Rattle.std.proofs.Common.{◌≡◌, ℕ, Bool, false, List, Option, Some, None, Result, Ok, Err, IfOk, subst, sym, ◌∙◌}
use Rattle.std.specs.Prelude.{IfSome}
use Rattle.target_lines.specs.declared.line.Line.{Line}
use Rattle.target_lines.specs.Texts.{line_text}
use Rattle.target_lines.specs.Fits.{LineFits}
use Rattle.target_lines.specs.Programs.{phrase_lends}
use Rattle.target_judge.specs.declared.judging.Judged.{Judged as JudgedOf}
use Rattle.target_judge.specs.States as states
use Rattle.target_judge.specs.Reads as reads
use Rattle.target_judge.specs.Judging.{Judged, judge}
use Rattle.target_text.specs.Runs.{Goes}
use Rattle.target_text.proofs.reader.step.Goals as goal

went : {E : Type 0} (lends : Bool) (text : List ℕ) (j : Judged) (line : Line) → text ≡ line_text lends line → ((l : Line) → LineFits lends l → text ≡ line_text lends l → Some line ≡ Some l) → (lends ≡ false → phrase_lends line.phrase ≡ false)
    → (r : Result (Option JudgedOf) E) → IfOk r (λ next. states.if_there reads.judged_of next ≡ judge line j) → IfOk r (λ next. IfSome next (λ n. Goes lends text j (reads.judged_of n)))
went lends text j line spelled one shown (Ok None) e = tt
went lends text j line spelled one shown (Ok (Some n)) e = record {
  line = line;
  spelled = spelled;
  taken = sym e;
  one = λ l fits is. (let same : Some line ≡ Some l = one l fits is in let back : l ≡ line = cc in back);
  shown = shown;
}
went lends text j line spelled one shown (Err x) e = tt

pub returns-in-Ok-Some-clause-goes : goal.returns-in-Ok-Some-clause-goes
returns-in-Ok-Some-clause-goes c =
    let lends = c.args.lends in
    let text = c.args.text.now in
    let line = c.in-Ok-Some.line in
    let found = c.in-Ok-Some.ensures in
    let is = c.in-Ok-Some.field-0-is in
    let S : Option Line → Type 0 = λ o. IfSome o (λ l. text ≡ line_text lends l) in
    let Q : Option Line → Type 0 = λ o. IfSome o (λ l. phrase_lends l.phrase ≡ false) in
    went lends text (reads.judged_of c.args.judged) line (subst S is found.found) (λ l fits e. sym is ∙ found.only l fits e) (λ none. subst Q is (found.shown none)) c.judge.result c.judge.ensures
