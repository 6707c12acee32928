use Rattle.std.proofs.Common.{◌≡◌, ℕ, false, List, decimal, cond, refl, ap, sym, ◌∙◌}
use Rattle.target_code.specs.Names.{is_name}
use Rattle.target_lines.specs.Reading.{named, word_at}
use Rattle.target_lines.proofs.reading.name.Goals as goal

zero_read : (word rest name w r : List ℕ) → word ≡ w → rest ≡ r → name ≡ decimal 0 → is_name word ≡ false → ◌≡◌ {A = List ℕ × List ℕ} (name, rest) (named w, r)
zero_read word rest name w r e f g h =
    let none : named w ≡ decimal 0 = ap named (sym e) ∙ ap (λ v. cond v word (decimal 0)) h in
    ap (λ (x : List ℕ). let y : List ℕ × List ℕ = (x, rest) in y) (g ∙ sym none) ∙ ap (λ (x : List ℕ). let y : List ℕ × List ℕ = (named w, x) in y) f

pub returns-in_ok-of_number-in-Err-NotAName : goal.returns-in_ok-of_number-in-Err-NotAName
returns-in_ok-of_number-in-Err-NotAName c =
    let refused = rw c.in-Err-NotAName.field-0-is at c.in-Err-NotAName.ensures.refused in
    zero_read c.word.result.0.now c.word.result.1.now c.in_ok-of_number-in-Err-NotAName.field-0 (word_at c.args.bytes.now).0 (word_at c.args.bytes.now).1 c.word.ensures.word c.word.ensures.rest c.in_ok-of_number-in-Err-NotAName.ensures (refused.0 refl)
