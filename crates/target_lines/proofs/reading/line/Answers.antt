use Rattle.std.proofs.Common.{◌≡◌, ℕ, Bool, true, false, Option, Some, List, ap, ◌∙◌, sym}
use Rattle.std.specs.Str.{bytes_eq}
use Rattle.std.proofs.lemmas.Slice.Eq.{bytes_eq-Decides}
use Rattle.target_lines.specs.declared.line.Line.{Line}
use Rattle.target_lines.specs.Texts.{line_text}
use Rattle.target_lines.specs.Fits.{LineFits}
use Rattle.target_lines.specs.Reading.{line_at}
use Rattle.target_lines.proofs.Lines.{line_past}
use Rattle.target_lines.proofs.Lends.{line_quiet}
use Rattle.target_lines.proofs.reading.line.Goals as goal

-- the guess at a line that has a text
guessed : (lends : Bool) (bytes : List ℕ) (l : Line) (found : Option Line) → found ≡ line_at lends bytes → LineFits lends l → bytes ≡ line_text lends l → found ≡ Some l
guessed lends bytes l found read fits e = read ∙ ap (line_at lends) e ∙ line_past lends l fits

inside : (line l : Line) → Some line ≡ Some l → line ≡ l
inside line l e = cc

pub returns-in-Ok-true-clause-only : goal.returns-in-Ok-true-clause-only
returns-in-Ok-true-clause-only c = λ l fits e. sym c.in-Some.is ∙ guessed c.args.lends c.args.bytes.now l _ c.in_ok-guess.ensures fits e

pub returns-in-None-clause-only : goal.returns-in-None-clause-only
returns-in-None-clause-only c = λ l fits e. sym c.in-None.is ∙ guessed c.args.lends c.args.bytes.now l _ c.in_ok-guess.ensures fits e

pub returns-in-Ok-false-clause-only : goal.returns-in-Ok-false-clause-only
returns-in-Ok-false-clause-only c = λ l fits e.
    let same : c.in-Some.line ≡ l = inside c.in-Some.line l (sym c.in-Some.is ∙ guessed c.args.lends c.args.bytes.now l _ c.in_ok-guess.ensures fits e) in
    let text = line_text c.args.lends c.in-Some.line in
    let equal : bytes_eq text c.args.bytes.now ≡ true = (bytes_eq-Decides text c.args.bytes.now).1 (ap (line_text c.args.lends) same ∙ sym e) in
    let clash : true ≡ false = sym equal ∙ (sym c.in-Ok-false.ensures ∙ c.in-Ok-false.field-0-test) in
    absurd cc

pub returns-in-Ok-true-clause-shown : goal.returns-in-Ok-true-clause-shown
returns-in-Ok-true-clause-shown c = λ is. line_quiet c.args.lends c.args.bytes.now c.in-Some.line (sym c.in-Some.is ∙ c.in_ok-guess.ensures) is
