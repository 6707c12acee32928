-- What the code knows, as a state of the definition of fits.
use Rattle.std.specs.Prelude.{◌≡◌, ◌≤◌, ℕ, suc, false, List, [], ◌∷◌}
use Rattle.bare_holds.specs.Laws.{SameBare}
use Rattle.entry_falls.specs.Falls.{FallsFrom}
use Rattle.facts.specs.Kept.{since}
use Rattle.fits.specs.Places.{State, Token, ctx_of, fresh}
use Rattle.fit_tokens.specs.Changes.{NoneFrom, toks}
use Rattle.fit_tokens.specs.Standing.{all_stand}
use Rattle.rule_check.specs.Context.{Shape}
use Rattle.rule_steps.specs.States as r
use Rattle.rule_steps.specs.States.{IsBehind}
use Rattle.fit_state.specs.declared.state.FitState.{FitState}

-- what the rule check knows is what is held, up to the holds of what is no container
pub record IsHeld (x : FitState) (s : State) : Type 0 where
  pub same : SameBare (r.ctx_of x.rules) (ctx_of s)
  pub defs : since x.rules.start x.rules.calculations ≡ s.defs

-- all else; where a procedure has so many registers, no other has a token
pub record IsKnown (R : ℕ) (x : FitState) (s : State) : Type 0 where
  pub tokens : toks x.tokens ≡ s.toks
  pub none : NoneFrom R s.toks
  pub words : x.words ≡ all_stand s.entries
  pub next : x.next ≡ s.next
  pub branch : x.branch ≡ s.branch

pub record Is (R : ℕ) (x : FitState) (s : State) : Type 0 where
  pub held : IsHeld x s
  pub known : IsKnown R x s

-- what each step leaves as it was
pub record Grows (old new : FitState) : Type 0 where
  pub rules : r.Grows old.rules new.rules
  pub tokens : new.tokens.saved ≡ old.tokens.saved
  pub words : IsBehind old.words new.words
  pub next : old.next ≤ new.next
  pub falls : FallsFrom old.rules.context.spots new.rules.context.spots

-- one more entry of these words
abbrev pub with_entry : FitState → ℕ → List Token → FitState
with_entry x v ts = record x { words = record { words = ts; part = false } ∷ x.words; next = suc v }

-- new variables of these words
abbrev pub entered : FitState → List ℕ → List Shape → List (List Token) → FitState
entered x [] zs ws = x
entered x (v ∷ vs) [] ws = x
entered x (v ∷ vs) (z ∷ zs) [] = x
entered x (v ∷ vs) (z ∷ zs) (w ∷ ws) = entered (with_entry x v w) vs zs ws

-- and of their own
abbrev pub entered_fresh : FitState → List ℕ → List Shape → FitState
entered_fresh x [] zs = x
entered_fresh x (v ∷ vs) [] = x
entered_fresh x (v ∷ vs) (z ∷ zs) = entered_fresh (with_entry x v (fresh v z)) vs zs
