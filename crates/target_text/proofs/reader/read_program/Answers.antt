use Rattle.std.proofs.Common.{rules, ◌≡◌, ℕ, suc, length, ◌-◌, ◌<◌, ◌^◌, List, Bool, Result, Ok, Err, IfOk, refl, ap, sym, subst, ◌∙◌, arith}
use Rattle.target_code.specs.declared.tree.Program.{Program}
use Rattle.target_code.specs.Formed.{Formed}
use Rattle.target_lines.specs.Programs.{program_text}
use Rattle.target_judge.specs.Judging.{Judged, program_of}
use Rattle.target_judge.specs.Reads as reads
use Rattle.target_text.specs.declared.refusal.NotProgram.{NotProgram as Refusal}
use Rattle.target_text.specs.declared.refusal.NotProgram.TheVariants as NotProgram
use Rattle.target_text.specs.Runs.{Ends}
use Rattle.target_text.specs.Refusals.{RefusedAt}
use Rattle.target_text.proofs.Refused.{refused_first, refused_line, refused_end, read_so}
use Rattle.target_text.proofs.SameTexts.{same_text}
use Rattle.target_text.proofs.reader.read_program.Goals as goal

abbrev Answer : Type 0
Answer = Result Program Refusal

abbrev Read : List ℕ → Answer → Type 0
Read bytes r = IfOk r (λ t. Formed t × (bytes ≡ program_text t))

made : Program → Answer
made t = Ok t

read_only : (bytes : List ℕ) (r : Answer) → Read bytes r → ((k : ℕ) → r ≡ Err (NotProgram.Line k) → RefusedAt bytes k) → (t : Program) → Formed t → bytes ≡ program_text t → (r ≡ Err NotProgram.Memory → ⊥) → r ≡ Ok t
unfolding made
read_only bytes (Ok u) ok line t f e none = ap made (same_text u t ok.0 f (sym ok.1 ∙ e))
read_only bytes (Err (NotProgram.Line k)) ok line t f e none = absurd ((line k refl).no_text t f e)
read_only bytes (Err NotProgram.Memory) ok line t f e none = absurd (none refl)

is_read : (bytes : List ℕ) (shown : Bool) (j : Judged) (r : Answer) → IfOk r (λ t. Ends shown j × (t ≡ program_of j.state)) → (Ends shown j → Formed (program_of j.state) × (bytes ≡ program_text (program_of j.state))) → Read bytes r
is_read bytes shown j (Ok t) h so = subst (λ (u : Program). Formed u × (bytes ≡ program_text u)) (sym h.1) (so h.0)
is_read bytes shown j (Err e) h so = tt

pub returns-in_default-clause-line : goal.returns-in_default-clause-line
returns-in_default-clause-line c = λ k e.
    let same : 1 ≡ k = cc in
    subst (λ n. RefusedAt c.args.bytes.now n) same (refused_first c.args.bytes.now c.in_default.ensures.none)

pub returns-in-Err-clause-line : goal.returns-in-Err-clause-line
returns-in-Err-clause-line c = λ k e.
    let same : c.in-Err.refusal ≡ NotProgram.Line k = cc in
    let s = c.in-Err.ensures.line k cc in
    let short : length c.in-Some.rest.now < 2 ^ 64 - 2 = search rules in
    let few : k - 1 < 2 ^ 64 = omega (arith, s.1, short) in
    let there : suc (k - 1) ≡ k = omega (arith, s.0.next) in
    subst (λ n. RefusedAt c.args.bytes.now n) there (refused_line c.in-Some.lends c.args.bytes.now c.in-Some.rest.now (k - 1) c.in-Some.ensures.some s.0 few)

pub returns-in-Err-clause-only : goal.returns-in-Err-clause-only
returns-in-Err-clause-only c = read_only c.args.bytes.now (Err c.in-Err.refusal) tt (returns-in-Err-clause-line c)

pub returns-in-Ok-clause-ok : goal.returns-in-Ok-clause-ok
returns-in-Ok-clause-ok c =
    let j = reads.judged_of c.in-Ok.judged in
    is_read c.args.bytes.now c.in-Some.lends j c.finish.result c.finish.ensures.ok (λ ends. read_so c.in-Some.lends c.args.bytes.now c.in-Some.rest.now c.in-Ok.count j c.in-Some.ensures.some c.in-Ok.ensures.all ends)

pub returns-in-Ok-clause-line : goal.returns-in-Ok-clause-line
returns-in-Ok-clause-line c = λ k e.
    let j = reads.judged_of c.in-Ok.judged in
    let x = c.finish.ensures.line k e in
    let short : length c.in-Some.rest.now < 2 ^ 64 - 2 = search rules in
    let few : c.in-Ok.count < 2 ^ 64 = omega (arith, c.in-Ok.ensures.within, short) in
    subst (λ n. RefusedAt c.args.bytes.now n) (sym x.0) (refused_end c.in-Some.lends c.args.bytes.now c.in-Some.rest.now c.in-Ok.count j c.in-Some.ensures.some c.in-Ok.ensures.all few x.1)

pub returns-in-Ok-clause-only : goal.returns-in-Ok-clause-only
returns-in-Ok-clause-only c = read_only c.args.bytes.now c.finish.result (returns-in-Ok-clause-ok c) (returns-in-Ok-clause-line c)
