-- What a walk over the condition and the body of a loop finds.
use Rattle.std.specs.Prelude.{◌≡◌, ◌-◌, ℕ, List, [], ◌∷◌, ◌++◌, length, drop, Option, Some, None, Result, Ok, Err}
use Rattle.context_laws.specs.Stacks.{Held}
use Rattle.context_laws.specs.Steps.{back_at}
use Rattle.context_laws.specs.Steps as h
use Rattle.nres_core.specs.FlatTree.{Binds, Flats}
use Rattle.nres_core.specs.declared.flat.Arg.{Arg}
use Rattle.nres_core.specs.declared.place.Place.{Place}
use Rattle.nres_core.specs.declared.refusal.Refusal.{Refusal}
use Rattle.ownership.specs.Entries.{spots_of}
use Rattle.rule_check.specs.Check.{check}
use Rattle.rule_check.specs.Context.{Ctx, Spot, Shape, Fact, shapes_of, binding, lent}
use Rattle.rule_check.specs.Facts.{defs_in, learnt}
use Rattle.rule_check.specs.Steps.{Book, Moved, begun, head_spots, on_ok, started, turned, with_spots}
use Rattle.rule_steps.specs.Loops.{or_refused}
use Rattle.rule_steps.specs.States.{Grows, ctx_of}
use Rattle.rule_steps.specs.declared.state.State.{State}
use Rattle.rule_walk.specs.Sides.{closed}
use Rattle.rule_walk.specs.declared.loops.Loop.{Loop}
use Rattle.rule_walk.specs.declared.sides.Begun.{Begun}

-- a list of binds begins
abbrev pub listed : State → State
listed x = record { context = x.context; facts = x.facts; calculations = x.calculations; start = length x.calculations }

-- what there is where a block begins
abbrev pub begun_at : State → Begun
begun_at x = record { count = length x.context.spots; facts = length x.facts; start = x.start }

-- the loop's own entries on top of lent ones, all lent
abbrev pub head_held : List ℕ → List Shape → Held → Held
head_held vars zs x =
    let ss = binding vars zs (lent x.spots) in
    record { spots = lent ss; saved = ss ∷ (x.spots ∷ x.saved) }

-- on the entries left by the starting values, before the condition
abbrev pub head_opened : State → List ℕ → Moved → State
head_opened x vars m = record {
  context = record { spots = lent (head_spots vars m); saved = head_spots vars m ∷ (m.spots ∷ x.context.saved) };
  facts = x.facts;
  calculations = x.calculations;
  start = x.start;
}

-- before the body, with what the test tells
abbrev pub turn_opened : State → List ℕ → Moved → List Fact → State
turn_opened x vars m es = record {
  context = record { spots = head_spots vars m; saved = m.spots ∷ x.context.saved };
  facts = es ++ x.facts;
  calculations = x.calculations;
  start = length x.calculations;
}

-- what the code knows of the loop
pub record LoopOf (x : State) (m : Moved) (l : Loop) : Type 0 where
  pub count : l.begun.count ≡ length m.spots
  pub facts : l.begun.facts ≡ length x.facts
  pub start : l.begun.start ≡ x.start
  pub shapes : m.shapes ≡ shapes_of (spots_of l.starts)

-- the starting values move in
pub record LoopBegins (book : Book) (p : Place) (us : List Arg) (vars : List ℕ) (x : State) (l : Loop) (y : State) : Type 0 where
  pub left : Moved
  pub starts : started book (ctx_of x) p us ≡ Ok left
  pub looping : LoopOf x left l
  pub state : y ≡ head_opened x vars left

abbrev pub BeginsLoop : Book → Place → List Arg → List ℕ → State → Result Loop Refusal → State → Type 0
BeginsLoop book p us vars x (Ok l) y = LoopBegins book p us vars x l y
BeginsLoop book p us vars x (Err e) y = (started book (ctx_of x) p us ≡ Err e) × Grows x y

-- the condition is walked
pub record HeadPasses (book : Book) (cs : Binds) (u : Arg) (x : State) (vars : List ℕ) (m : Moved) (l : Loop) (y : State) : Type 0 where
  pub after : Ctx
  pub passes : check book cs (begun (ctx_of x) (lent (head_spots vars m)) []) ≡ Ok after
  pub looping : LoopOf x m l
  pub state : y ≡ turn_opened x vars m (learnt (defs_in cs []) u)

abbrev pub HeadEnds : Book → Binds → Arg → State → List ℕ → Moved → Result Loop Refusal → State → Type 0
HeadEnds book cs u x vars m (Ok l) y = HeadPasses book cs u x vars m l y
HeadEnds book cs u x vars m (Err e) y = (check book cs (begun (ctx_of x) (lent (head_spots vars m)) []) ≡ Err e) × Grows x y

abbrev pub HeadWalked : Book → Binds → Arg → Result Loop Refusal → State → Result Loop Refusal → State → Type 0
HeadWalked book cs u (Ok l) y r z = (x : State) (vars : List ℕ) (m : Moved) → y ≡ head_opened x vars m → LoopOf x m l → HeadEnds book cs u x vars m r z
HeadWalked book cs u (Err e) y r z = (r ≡ Err e) × (z ≡ y)

-- the code at the end of the condition
abbrev pub head_closed : Begun → List Fact → State → State
head_closed b es x = record {
  context = back_at x.context;
  facts = es ++ drop (length x.facts - b.facts) x.facts;
  calculations = drop (length x.calculations - x.start) x.calculations;
  start = x.start;
}

-- the code where the condition is refused
abbrev pub head_left : Begun → State → State
head_left b x = closed b (record { context = back_at x.context; facts = x.facts; calculations = x.calculations; start = x.start })

abbrev pub HeadOver : {E : Type 0} → Result (Option Refusal) E → Loop → List Fact → State → Result Loop Refusal → State → Type 0
HeadOver said l es y (Ok l1) z = (said ≡ Ok None) × ((l1 ≡ l) × (z ≡ head_closed l.begun es y))
HeadOver said l es y (Err e) z = (said ≡ Ok (Some e)) × (z ≡ head_left l.begun y)

-- the body is walked, and what follows the loop
pub record TurnEnds (book : Book) (b : Flats) (to : List ℕ) (x : State) (vars : List ℕ) (m : Moved) (es : List Fact) (o : Option Refusal) (y : State) : Type 0 where
  pub walked : (rest : Binds) →
      on_ok (check book b.binds (begun (ctx_of x) (head_spots vars m) es)) (λ x2.
      on_ok (turned book m x2 b.ending) (λ m2.
      check book rest (with_spots (ctx_of x) (binding to m.shapes m.spots)))) ≡ or_refused o (check book rest (ctx_of y))
  pub grows : Grows x y

abbrev pub TurnWalked : Book → Flats → List ℕ → Result Loop Refusal → State → Option Refusal → State → Type 0
TurnWalked book b to (Ok l) y o z = (x : State) (vars : List ℕ) (m : Moved) (es : List Fact) → y ≡ turn_opened x vars m es → LoopOf x m l → TurnEnds book b to x vars m es o z
TurnWalked book b to (Err e) y o z = (o ≡ Some e) × (z ≡ y)

-- results on top of the entries
abbrev pub bound : List ℕ → List Shape → State → State
bound to zs x = record { context = h.with_spots x.context (binding to zs x.context.spots); facts = x.facts; calculations = x.calculations; start = x.start }

-- the code at the end of the loop
abbrev pub loop_closed : Option Refusal → Loop → List ℕ → State → State
loop_closed None l to x = bound to (shapes_of (spots_of l.starts)) (closed l.begun x)
loop_closed (Some e) l to x = closed l.begun x

abbrev pub LoopCloses : Option Refusal → Loop → List ℕ → State → State → Type 0
LoopCloses o l to x y = (ss : List Spot) (sss : List (List Spot)) → x.context.saved ≡ ss ∷ sss → y ≡ loop_closed o l to x

-- the end of the turn
abbrev pub TurnCloses : Book → Loop → Flats → State → Option Refusal → Type 0
TurnCloses book l b x o =
    (m : Moved) (next : Result Ctx Refusal) → length m.spots ≡ l.begun.count → m.shapes ≡ shapes_of (spots_of l.starts)
    → on_ok (turned book m (ctx_of x) b.ending) (λ m2. next) ≡ or_refused o next

abbrev pub LoopOver : {E : Type 0} → Book → Result (Option Refusal) E → Loop → Flats → List ℕ → State → Option Refusal → State → Type 0
LoopOver book (Ok None) l b to x o y = TurnCloses book l b x o × LoopCloses o l to x y
LoopOver book (Ok (Some e)) l b to x o y = (o ≡ Some e) × (y ≡ closed l.begun x)
LoopOver book (Err e) l b to x o y = ⊥
