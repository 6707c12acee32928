use Rattle.std.proofs.Common.{◌≡◌, ◌++◌, sym, ap, ◌∙◌}
use Rattle.std.specs.Prelude.{Some, None}
use Rattle.std.proofs.lemmas.Bool.Decides.{Decides-eqb}
use Rattle.std.proofs.lemmas.Slice.Eq.{strip_prefix_is}
use Rattle.replay.specs.Schedules.{move_text}
use Rattle.replay.proofs.StepTexts.{no_move}
use Rattle.replay.proofs.reading.next.Goals as goal

pub returns-in-Some-clause-some : goal.returns-in-Some-clause-some
returns-in-Some-clause-some c =
    let text : c.as_slice.result.now ≡ move_text c.in_ok-step.step = c.as_slice.ensures.value ∙ c.in_ok-push_move.ensures ∙ ap (λ l. l ++ move_text c.in_ok-step.step) c.new-text.ensures.items in (
      strip_prefix_is Decides-eqb c.args.bytes.now c.as_slice.result.now (Some c.in-Some.rest) c.in-Some.ensures.cases ∙ ap (λ t. t ++ c.in-Some.rest.now) text,
      c.in_ok-step.ensures.word,
    )

pub returns-clause-none : goal.returns-clause-none
returns-clause-none c =
    let text : c.as_slice.result.now ≡ move_text c.in_ok-step.step = c.as_slice.ensures.value ∙ c.in_ok-push_move.ensures ∙ ap (λ l. l ++ move_text c.in_ok-step.step) c.new-text.ensures.items in
    no_move c.args.bytes.now c.in_ok-step.step c.in_ok-step.ensures.is
    (λ rest is. strip_prefix_is Decides-eqb c.args.bytes.now c.as_slice.result.now None c.in-None.ensures.cases rest (is ∙ ap (λ t. t ++ rest) (sym text)))
