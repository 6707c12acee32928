-- The two branches of `par` and `split`, and what they leave.
use Rattle.std.specs.Prelude.{◌≡◌, ◌-◌, ℕ, List, [], ◌∷◌, ◌++◌, length, drop, Option, Some, None, Result, Ok, Err, option_map}
use Rattle.context_laws.specs.Stacks.{Held}
use Rattle.context_laws.specs.Steps as h
use Rattle.nres_core.specs.FlatTree.{Flats}
use Rattle.nres_core.specs.declared.refusal.Refusal.{Refusal}
use Rattle.ownership.specs.Entries as e
use Rattle.ownership.specs.Entries.{spots_of}
use Rattle.range_split.specs.Places.{Places}
use Rattle.rule_check.specs.Check.{check}
use Rattle.rule_check.specs.Context.{Ctx, Spot, Shape, shapes_of, binding}
use Rattle.rule_check.specs.Steps.{Book, Moved, begun, on_ok, ended, branch_spots, joined, slice_spot, other_shapes, with_spots}
use Rattle.rule_check.specs.Use.{block_used, without}
use Rattle.rule_forks.specs.declared.entering.Entered.{Entered}
use Rattle.rule_forks.specs.declared.fork.Branch.{Branch}
use Rattle.rule_forks.specs.declared.fork.Fork.{Fork}
use Rattle.rule_steps.specs.Ends.{astray_of}
use Rattle.rule_steps.specs.declared.state.State.{State}

-- ---- what a branch may use

-- the variables that a branch uses, those that the other one uses, and the slice of a block of `split`
pub record Part : Type 0 where
  pub us : List ℕ
  pub others : List ℕ
  pub slice : Option ℕ

abbrev pub uses_of : Flats → List ℕ
uses_of b = block_used b.binds b.ending

-- beside a list that is divided
abbrev pub uses_beside : ℕ → Flats → List ℕ
uses_beside list b = without list (uses_of b)

abbrev pub par_left : List ℕ → List ℕ → Part
par_left us vs = record { us = us; others = vs; slice = None }

abbrev pub par_right : List ℕ → List ℕ → Part
par_right us vs = record { us = vs; others = us; slice = None }

-- each block of `split` has the list too, which is gone
abbrev pub split_left : ℕ → List ℕ → List ℕ → ℕ → Part
split_left list us vs i = record { us = list ∷ us; others = vs; slice = Some i }

abbrev pub split_right : ℕ → List ℕ → List ℕ → ℕ → Part
split_right list us vs j = record { us = list ∷ vs; others = us; slice = Some j }

abbrev pub with_slice : Option ℕ → List Spot → List Spot
with_slice None bs = bs
with_slice (Some i) bs = slice_spot i ∷ bs

-- the entries that a branch begins with
abbrev pub part_spots : List Spot → Part → List Spot
part_spots ss q = with_slice q.slice (branch_spots ss q.us q.others)

-- ---- what branches leave

-- a block from these entries on, up to its end
abbrev pub branch_ends : Book → Ctx → List Spot → Option ℕ → Flats → Result Moved Refusal
branch_ends book x bs slice b = on_ok (check book b.binds (begun x bs [])) (λ y. ended book (length bs) (astray_of slice) y b.ending)

-- the results of both; those of `split` begin with the list
abbrev pub fork_shapes : Option Shape → List Shape → List Shape → List Shape
fork_shapes None zs ws = zs ++ ws
fork_shapes (Some z) zs ws = z ∷ (other_shapes zs ++ other_shapes ws)

-- what is left of the entries after one branch
abbrev pub put_spots : List Spot → List Spot → Part → Moved → List Spot
put_spots ss xs q m = joined xs q.us (branch_spots ss q.us q.others) m

-- the entries after both, with the results
abbrev pub fork_spots : List ℕ → List Spot → Option Shape → Part → Part → Moved → Moved → List Spot
fork_spots to ss list ql qr m1 m2 = binding to (fork_shapes list m1.shapes m2.shapes) (put_spots ss (put_spots ss ss ql m1) qr m2)

abbrev pub fork_ctx : Ctx → List ℕ → List Spot → Option Shape → Part → Part → Moved → Moved → Ctx
fork_ctx x to ss list ql qr m1 m2 = with_spots x (fork_spots to ss list ql qr m1 m2)

-- ---- branches of the code

-- what a branch keeps while it is gone over
pub record Has (ss : List Spot) (q : Part) (b : Branch) : Type 0 where
  pub places : Places q.us b.places ss
  pub count : b.count ≡ length (part_spots ss q)
  pub slice : b.slice ≡ q.slice

-- a branch at its begin
pub record Begins (ss : List Spot) (q : Part) (b : Branch) : Type 0 where
  pub has : Has ss q b
  pub spots : b.context.spots ≡ part_spots ss q

pub record Forks (ss : List Spot) (ql qr : Part) (f : Fork) : Type 0 where
  pub left : Begins ss ql f.left
  pub right : Begins ss qr f.right

-- what the list of `split` is in
abbrev pub fork_list : Fork → Option Shape
fork_list f = option_map e.shape_of f.list

-- a fork that is not refused, which begins from these entries
pub record Opened (tested : Result (List Spot) Refusal) (ss : List Spot) (shape : Option Shape) (ql qr : Part) (f : Fork) : Type 0 where
  pub sure : tested ≡ Ok ss
  pub forks : Forks ss ql qr f
  pub list : fork_list f ≡ shape

abbrev pub OpenedIs : Result (List Spot) Refusal → List Spot → Option Shape → Part → Part → Result Fork Refusal → Type 0
OpenedIs sure ss list ql qr (Ok f) = Opened sure ss list ql qr f
OpenedIs sure ss list ql qr (Err r) = sure ≡ Err r

-- ---- a branch is gone over

-- a branch's entries in place of those outside
abbrev pub entered_in : Branch → State → State
entered_in b x = record { context = b.context; facts = x.facts; calculations = x.calculations; start = length x.calculations }

-- all but the entries is as it was where the branch was entered
abbrev pub left_in : Entered → Branch → State → State
left_in e b x = record { context = b.context; facts = drop (length x.facts - e.facts) x.facts; calculations = drop (length x.calculations - x.start) x.calculations; start = e.start }

-- another context in a branch
abbrev pub branch_with : Branch → Held → Branch
branch_with b x = record { places = b.places; context = x; count = b.count; slice = b.slice; results = b.results }

-- a branch has results and entries that are left, and all else as it was
pub record Keeps (old new : Branch) : Type 0 where
  pub places : new.places ≡ old.places
  pub count : new.count ≡ old.count
  pub slice : new.slice ≡ old.slice

-- what a branch that is over has left
abbrev pub moved_in : Branch → Moved
moved_in b = record { shapes = shapes_of (spots_of b.results); spots = b.context.spots }

-- ---- both are over

abbrev pub forked_as : {E : Type 0} → Fork → Result (Option Refusal) E → Result (Result Fork Refusal) E
forked_as f (Ok None) = Ok (Ok f)
forked_as f (Ok (Some r)) = Ok (Err r)
forked_as f (Err e) = Err e

-- the context after a fork, or its refusal, which changes nothing
abbrev pub ClosedTo : Held → Held → List ℕ → Result Fork Refusal → Option Refusal → Type 0
ClosedTo old new to (Err r) said = (said ≡ Some r) × (new ≡ old)
ClosedTo old new to (Ok f) said =
    (said ≡ None) × ((ql qr : Part) → Has old.spots ql f.left → Has old.spots qr f.right → new ≡ h.with_spots old (fork_spots to old.spots (fork_list f) ql qr (moved_in f.left) (moved_in f.right)))
