use Rattle.std.proofs.Common.{rules, arith, ◌≡◌, ◌<◌, ℕ, List, IfOk, refl, sym, subst}
use Rattle.sepref_runs.specs.Runs.{Due, SaysAs}
use Rattle.sepref_runs.specs.Texts.{bytes_of, told_status}
use Rattle.sepref_runs.proofs.Tops.{not_read_fault, not_too_long, of_text_told, told_said}
use Rattle.sepref_runs.proofs.top.source_told.Goals as goal

pub returns-in-Ok-clause-due : goal.returns-in-Ok-clause-due
returns-in-Ok-clause-due g c =
    of_text_told c.args.line (g.I.Source.remaining c.args.source.now) (g.I.Source.remaining c.read_all.new.source) c.in-Ok.text.items c.in-Ok.ensures.bytes c.in-Ok.ensures.end c.whole_told.result
    (subst (λ (text : List ℕ). IfOk c.whole_told.result (λ t. SaysAs c.args.line.command c.args.line text t.status (bytes_of t.text))) c.as_slice.ensures.value c.whole_told.ensures)

pub returns-in-Ok-clause-gave : goal.returns-in-Ok-clause-gave
returns-in-Ok-clause-gave g c =
    let gave = c.in-Ok.ensures.gave in
    (gave.0, (gave.1.0, (λ lt. absurd (let h = gave.1.1.0.1 lt in let z : ⊥ = first_of (cc, search rules, grind arith) in z), λ e. absurd (not_too_long (told_status c.whole_told.result) (told_said c.args.line c.as_slice.result.now c.whole_told.result c.whole_told.ensures) e))))

pub returns-in-Ok-clause-fault : goal.returns-in-Ok-clause-fault
returns-in-Ok-clause-fault g c = λ e. absurd (not_read_fault (told_status c.whole_told.result) (told_said c.args.line c.as_slice.result.now c.whole_told.result c.whole_told.ensures) e)

pub returns-in-Err-Fault-clause-due : goal.returns-in-Err-Fault-clause-due
returns-in-Err-Fault-clause-due g c = Due.read_fault refl

pub returns-in-Err-TooLong-clause-due : goal.returns-in-Err-TooLong-clause-due
returns-in-Err-TooLong-clause-due g c = Due.too_long refl
