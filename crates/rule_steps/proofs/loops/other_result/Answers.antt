use Rattle.std.specs.Prelude.{codes}
use Rattle.nres_core.specs.declared.refusal.Why.TheVariants as w
use Rattle.ownership.specs.Entries.{spots_of}
use Rattle.rule_check.specs.Context.{first_other, reps_of, shapes_of}
use Rattle.rule_check.specs.Steps.{refused}
use Rattle.rule_steps.proofs.LoopsLemmas.{unless_none, unless_some}
use Rattle.rule_steps.proofs.loops.other_result.Goals as goal

pub returns-in-None : goal.returns-in-None
returns-in-None c = λ next.
    unless_none (first_other 1 (shapes_of (spots_of c.args.starts.now)) (shapes_of (spots_of c.args.results.now))) (λ k. refused c.args.place (codes "return") (reps_of (spots_of c.args.results.now)) (w.Result k)) next
    c.in_ok-first_other.field-0 c.in_ok-first_other.ensures c.in-None.is

pub returns-in_ok-refusal-in-Some : goal.returns-in_ok-refusal-in-Some
returns-in_ok-refusal-in-Some c = λ next.
    unless_some (first_other 1 (shapes_of (spots_of c.args.starts.now)) (shapes_of (spots_of c.args.results.now))) (λ k. refused c.args.place (codes "return") (reps_of (spots_of c.args.results.now)) (w.Result k)) next
    c.in_ok-first_other.field-0 c.in-Some.number c.in_ok-refusal-in-Some.refusal c.in_ok-first_other.ensures c.in-Some.is c.in_ok-refusal-in-Some.ensures
