use Rattle.std.proofs.Common.{◌≡◌, ℕ, ◌<◌, ◌^◌, decimal, IsUtf8, Result, Ok, ap, sym, subst, ◌∙◌, arith}
use Rattle.std.specs.Result.{result_unwrap_or}
use Rattle.std.proofs.lemmas.Fmt.{parse-decimal, IsAscii-decimal}
use Rattle.std.proofs.lemmas.Str.{IsUtf8-from_ascii}
use Rattle.proof_text.proofs.reading.number.Goals as goal

pub returns-in-Ok : goal.returns-in-Ok
returns-in-Ok c = λ n small e.
    c.unwrap_or.ensures ∙ ap (λ r. result_unwrap_or r 0) (parse-decimal 32 n c.in-Ok.digits.now c.parse.result small (omega arith) (c.in-Ok.ensures.cases.0 ∙ e) c.parse.ensures.value.0)

pub returns-in-Err : goal.returns-in-Err
returns-in-Err c = λ n small e. absurd (c.in-Err.ensures.cases.0 (subst IsUtf8 (sym e) (IsUtf8-from_ascii (decimal n) (IsAscii-decimal n (omega arith)))))
