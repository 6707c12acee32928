-- What a walk over a block of one of two sides finds, and what it leaves.
use Rattle.std.specs.Prelude.{◌≡◌, ◌-◌, ℕ, List, [], ◌∷◌, length, drop, Option, Result, Ok, Err}
use Rattle.branch_merge.specs.declared.sides.Side.{Side}
use Rattle.context_laws.specs.Steps.{marked, back_at, with_spots, FallsBack}
use Rattle.merge_laws.specs.Laws.{Passed, WentAt}
use Rattle.nres_core.specs.FlatTree.{Binds, Ending, Flats}
use Rattle.nres_core.specs.declared.refusal.Refusal.{Refusal}
use Rattle.ownership.specs.Entries.{spots_of}
use Rattle.rule_check.specs.Check.{check}
use Rattle.rule_check.specs.Context.{Ctx, Spot, Fact, shapes_of, binding}
use Rattle.rule_check.specs.Steps.{Book, Moved, begun, on_ok, ended, no_list, taken}
use Rattle.rule_check.specs.Steps as s
use Rattle.rule_steps.specs.Loops.{or_refused}
use Rattle.rule_steps.specs.States.{ctx_of}
use Rattle.rule_steps.specs.declared.state.State.{State}
use Rattle.rule_walk.specs.declared.sides.Begun.{Begun}

-- a side that passes, with facts besides: its results, and the places that went in it
pub record SidePasses (book : Book) (es : List Fact) (x : Ctx) (b : Flats) (side : Side) : Type 0 where
  pub left : Moved
  pub shapes : left.shapes ≡ shapes_of (spots_of side.results)
  pub passes : Passed book x b.binds b.ending left
  pub facts : passes.facts ≡ es
  pub went : WentAt side.went x left

abbrev pub SideIs : Book → List Fact → Ctx → Flats → Result Side Refusal → Type 0
SideIs book es x b (Ok side) = SidePasses book es x b side
SideIs book es x b (Err refusal) = on_ok (check book b.binds (begun x x.spots es)) (λ x1. ended book (length x.spots) no_list x1 b.ending) ≡ Err refusal

-- a block begins on the same entries
abbrev pub opened : State → State
opened x = record { context = marked x.context; facts = x.facts; calculations = x.calculations; start = length x.calculations }

-- it is over, and all is as it was where it began
abbrev pub closed : Begun → State → State
closed b x = record { context = back_at x.context; facts = drop (length x.facts - b.facts) x.facts; calculations = drop (length x.calculations - x.start) x.calculations; start = b.start }

-- the end of a side: its results and the places that went in it, or the refusal
pub record EndPasses (book : Book) (n : ℕ) (old : State) (e : Ending) (side : Side) : Type 0 where
  pub left : Moved
  pub ending : ended book n no_list (ctx_of old) e ≡ Ok left
  pub shapes : left.shapes ≡ shapes_of (spots_of side.results)
  pub went : FallsBack side.went (with_spots old.context left.spots)

abbrev pub EndIs : Book → ℕ → State → Ending → Result Side Refusal → Type 0
EndIs book n old e (Ok side) = EndPasses book n old e side
EndIs book n old e (Err refusal) = ended book n no_list (ctx_of old) e ≡ Err refusal

-- where there was a mark, all is as it was there
abbrev pub ClosesTo : Begun → State → State → Type 0
ClosesTo b old new = (ss : List Spot) (sss : List (List Spot)) → old.context.saved ≡ ss ∷ sss → new ≡ closed b old

-- the block that `either` tries last, and what follows the bind
abbrev pub OtherWalked : Book → Flats → List ℕ → State → State → Option Refusal → Type 0
OtherWalked book b to old new refused =
    let x = ctx_of old in
    (rest : Binds) → on_ok (on_ok (check book b.binds (begun x x.spots [])) (λ x1. ended book (length x.spots) no_list x1 b.ending)) (λ m. check book rest (s.with_spots x (binding to m.shapes (taken x m)))) ≡ or_refused refused (check book rest (ctx_of new))
