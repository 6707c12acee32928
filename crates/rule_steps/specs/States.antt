-- What the code knows, as the context of the rule check.
use Rattle.std.specs.Prelude.{◌≡◌, List, ◌++◌}
use Rattle.facts.specs.Kept.{since}
use Rattle.rule_check.specs.Context.{Ctx}
use Rattle.rule_steps.specs.declared.state.State.{State}

abbrev pub ctx_of : State → Ctx
ctx_of s = record { spots = s.context.spots; facts = s.facts; defs = since s.start s.calculations }

-- further ones stand in front
abbrev pub IsBehind : {A : Type 0} → List A → List A → Type 0
IsBehind {A} xs ys = (front : List A) × (ys ≡ front ++ xs)

-- what a step leaves as it was
pub record Grows (old new : State) : Type 0 where
  pub saved : new.context.saved ≡ old.context.saved
  pub facts : IsBehind old.facts new.facts
  pub calculations : IsBehind old.calculations new.calculations
  pub start : new.start ≡ old.start
