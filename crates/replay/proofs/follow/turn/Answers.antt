use Rattle.std.proofs.Common.{◌≡◌, refl, sym, ap, ◌∙◌, subst}
use Rattle.target_meaning.specs.States.{state_of, step_of}
use Rattle.replay.specs.Turns.{Turned}
use Rattle.replay.proofs.Turning.{turned_some, turned_none}
use Rattle.replay.proofs.follow.turn.Goals as goal

pub returns-in-Some-clause-ok : goal.returns-in-Some-clause-ok
returns-in-Some-clause-ok c full =
    let s = state_of c.args.program.now.procs c.args.state.now in
    turned_some c.args.program.now.procs c.args.made (c.args.next.now.path, c.args.next.now.name) s s c.in-Some.end (sym c.in_ok-end.ensures ∙ c.in-Some.is) (let same : s ≡ s = refl in same) full

pub returns-in_ok-answer-in-None-clause-ok : goal.returns-in_ok-answer-in-None-clause-ok
returns-in_ok-answer-in-None-clause-ok c full =
    let T = c.args.program.now.procs in
    let s = state_of T c.args.state.now in
    let left = state_of T c.step.new.state in
    subst (λ o. Turned T c.args.made (c.args.next.now.path, c.args.next.now.name) s left o) (sym c.answered.ensures)
    (turned_none T c.args.made (c.args.next.now.path, c.args.next.now.name) s left c.in_ok-answer-in-None.answer (sym c.in_ok-end.ensures ∙ c.in-None.is)
    (c.in_ok-answer-in-None.ensures.ok ∙ ap (λ ds. step_of T s ds c.args.next.now.name) c.sides.ensures) full)
