-- What a walk over the branches of a fork finds.
use Rattle.std.specs.Prelude.{◌≡◌, length, Option, None, Result, Ok, Err}
use Rattle.nres_core.specs.FlatTree.{Flats}
use Rattle.nres_core.specs.declared.refusal.Refusal.{Refusal}
use Rattle.rule_check.specs.Steps.{Book}
use Rattle.rule_forks.specs.Forks.{Keeps, branch_ends, moved_in}
use Rattle.rule_forks.specs.declared.fork.Branch.{Branch}
use Rattle.rule_forks.specs.declared.fork.Fork.{Fork}
use Rattle.rule_steps.specs.Loops.{or_refused}
use Rattle.rule_steps.specs.States.{ctx_of}
use Rattle.rule_steps.specs.declared.state.State.{State}

-- where a branch has its own entries, it ends with what it moved out, or is refused
abbrev pub BranchEnds : Book → Flats → State → Branch → Result Branch Refusal → Type 0
BranchEnds book b x q (Ok q1) = q.count ≡ length q.context.spots → branch_ends book (ctx_of x) q.context.spots q.slice b ≡ Ok (moved_in q1)
BranchEnds book b x q (Err e) = q.count ≡ length q.context.spots → branch_ends book (ctx_of x) q.context.spots q.slice b ≡ Err e

pub record BranchWalked (book : Book) (b : Flats) (x : State) (q : Branch) (o : Option Refusal) (q1 : Branch) : Type 0 where
  pub ends : BranchEnds book b x q (or_refused o (Ok q1))
  pub keeps : o ≡ None → Keeps q q1

-- the left branch of a fork is walked
pub record LeftPasses (book : Book) (b : Flats) (x : State) (f g : Fork) : Type 0 where
  pub ends : BranchEnds book b x f.left (Ok g.left)
  pub keeps : Keeps f.left g.left
  pub right : g.right ≡ f.right
  pub list : g.list ≡ f.list

abbrev pub LeftWalked : Book → Flats → State → Result Fork Refusal → Result Fork Refusal → Type 0
LeftWalked book b x (Ok f) (Ok g) = LeftPasses book b x f g
LeftWalked book b x (Ok f) (Err e) = BranchEnds book b x f.left (Err e)
LeftWalked book b x (Err e) r = r ≡ Err e

-- then the right one
pub record RightPasses (book : Book) (b : Flats) (x : State) (f g : Fork) : Type 0 where
  pub ends : BranchEnds book b x f.right (Ok g.right)
  pub keeps : Keeps f.right g.right
  pub left : g.left ≡ f.left
  pub list : g.list ≡ f.list

abbrev pub RightWalked : Book → Flats → State → Result Fork Refusal → Result Fork Refusal → Type 0
RightWalked book b x (Ok f) (Ok g) = RightPasses book b x f g
RightWalked book b x (Ok f) (Err e) = BranchEnds book b x f.right (Err e)
RightWalked book b x (Err e) r = r ≡ Err e
