-- What a walk over the sides of `if` finds.
use Rattle.std.specs.Prelude.{◌≡◌, ℕ, List, [], ◌++◌, length, Option, Ok, codes}
use Rattle.branch_merge.specs.Merging.{meet_fault}
use Rattle.branch_merge.specs.declared.sides.Side.{Side}
use Rattle.context_laws.specs.Stacks.{falls_at}
use Rattle.nres_core.specs.FlatTree.{Binds, Flats}
use Rattle.nres_core.specs.declared.place.Place.{Place}
use Rattle.nres_core.specs.declared.refusal.Refusal.{Refusal}
use Rattle.ownership.specs.Entries.{spots_of}
use Rattle.ownership.specs.Faults.{unless_refused}
use Rattle.rule_check.specs.Check.{check}
use Rattle.rule_check.specs.Context.{Fact, shapes_of, binding}
use Rattle.rule_check.specs.Steps.{Book, begun, ended, met, no_list, on_ok, refused, with_spots}
use Rattle.rule_steps.specs.Loops.{or_refused}
use Rattle.rule_steps.specs.Operations.{outcome}
use Rattle.rule_steps.specs.States.{ctx_of}
use Rattle.rule_steps.specs.declared.state.State.{State}
use Rattle.rule_walk.specs.Sides.{SidePasses}

-- further facts are known
abbrev pub knowing : List Fact → State → State
knowing es x = record { context = x.context; facts = es ++ x.facts; calculations = x.calculations; start = x.start }

-- the sides meet, and their results are bound
abbrev pub Joined : Book → Place → List ℕ → Side → Side → State → State → Option Refusal → Type 0
Joined book p to left right old new o =
    let x = ctx_of old in
    unless_refused book.names (refused p (codes "if") []) (meet_fault left.went right.went (spots_of left.results) (spots_of right.results) x.spots)
    (Ok (with_spots x (binding to (shapes_of (spots_of left.results)) (falls_at right.went (falls_at left.went x.spots))))) ≡ outcome o (ctx_of new)

-- the second side, after a first one that passed, and what follows the bind
abbrev pub OtherJoined : Book → Place → List ℕ → Side → Flats → State → State → Option Refusal → Type 0
OtherJoined book p to left b old new o =
    let x = ctx_of old in
    (l : Flats) (es : List Fact) (q : SidePasses book es x l left) (rest : Binds) →
    on_ok (check book b.binds (begun x x.spots [])) (λ x2.
    on_ok (ended book (length x.spots) no_list x2 b.ending) (λ m2.
    on_ok (met book x p q.left m2) (λ m.
    check book rest (with_spots x (binding to m.shapes m.spots))))) ≡ or_refused o (check book rest (ctx_of new))
