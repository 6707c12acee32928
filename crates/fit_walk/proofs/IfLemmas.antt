-- Both sides of an `if`.
use Rattle.std.proofs.Common.{◌≡◌, ℕ, Bool, true, false, ◌&&◌, max, List, [], ◌∷◌, length, refl, sym, ap, ◌∙◌, subst}
use Rattle.std.specs.Prelude.{Option, Some, None, Result, Ok, Err}
use Rattle.fit_blocks.specs.Answers.{At, Results}
use Rattle.fit_blocks.specs.Blocks.{with_branches}
use Rattle.fit_blocks.specs.Choices.{IfBegins, Leaves, Joins, MeetsAs, are_met, if_met, if_other, if_sides}
use Rattle.fit_blocks.specs.declared.choice.Choice.{Choice}
use Rattle.fit_blocks.specs.declared.choice.Joint.{Joint}
use Rattle.fit_blocks.specs.declared.choice.Side.{Side}
use Rattle.fit_blocks.specs.declared.frame.Unmet.{Unmet}
use Rattle.fit_state.specs.States.{Is}
use Rattle.fit_state.specs.declared.state.FitState.{FitState}
use Rattle.fit_state.specs.declared.view.Rest.{Rest}
use Rattle.fit_walk.specs.Walks.{Goes, SideWalked, Side_at, StepIs, other_side}
use Rattle.fits.specs.Follow as f
use Rattle.fits.specs.Follow.{Line, Answer, Found, Walk, Views, and_then, block, fit, met_state, need, with_some}
use Rattle.fits.specs.Places.{State, Info, arg_infos, begun_state, bind_at, info_shapes, with_branch}
use Rattle.nres_core.specs.FlatTree.{Binds, Ending, Flats}
use Rattle.nres_core.specs.declared.flat.Arg.{Arg}
use Rattle.nres_core.specs.declared.place.Place.{Place}
use Rattle.ownership.specs.Entries.{shapes_of}
use Rattle.proof_lines.specs.Lines.{lines_of}
use Rattle.rule_check.specs.Context.{Shape}
use Rattle.rule_check.specs.Facts.{defs_behind, learnt}
use Rattle.rule_check.specs.Steps.{no_list}
use Rattle.target_code.specs.declared.tree.Instr.{Instr}

-- where only the number of branches is another, all is as it was
pub at_branch : (R : ℕ) (x : FitState) (u : State) (n m : ℕ) → n ≡ m → At R x u → At R (with_branches x n) (with_branch u m)
at_branch R x u n m e at = record {
  is = record {
    held = record { same = record { spots = at.is.held.same.spots; facts = at.is.held.same.facts }; defs = at.is.held.defs };
    known = record { tokens = at.is.known.tokens; none = at.is.known.none; words = at.is.known.words; next = at.is.known.next; branch = e };
  };
  under = at.under;
}

pub leaves_branch : (R : ℕ) (x : FitState) (u s : State) (n m : ℕ) (rs : List ℕ) (side : Side) → Leaves R x u s rs side → Leaves R (with_branches x n) (with_branch u m) s rs side
leaves_branch R x u s n m rs side l = record { held = l.held; numbers = l.numbers; tokens = l.tokens; none = l.none; next = l.next; later = l.later; below = l.below }

module _ (R : ℕ) (V : Views) (u s1 : State) (j : Joint) (left : Side) (le : Ending) (b : Flats) (old : FitState) (at : At R old (with_branch u s1.branch)) (l : Leaves R old u s1 j.choice.targets.now left) (r1 : Results s1 le (shapes_of left.over.shapes)) where
  abbrev rs : List ℕ
  rs = j.choice.targets.now

  abbrev second : Answer
  second = block R V (fit R V b.binds) (length u.entries) u.next no_list b.ending rs (with_branch (begun_state u []) s1.branch) j.choice.no.now (lines_of left.over.lines.now)

  behind_first : (go : Walk) → other_side R V u s1 j left le b go ≡ and_then second (λ s2 c2 l2. if_met R V u rs j.choice.after.code.now j.outs.now s1 r1.infos s2 l2 b.ending go)
  unfolding with_some
  behind_first go =
      ap (λ o. with_some o (lines_of left.over.lines.now) (λ i1. and_then second (λ s2 c2 l2. if_met R V u rs j.choice.after.code.now j.outs.now s1 i1 s2 l2 b.ending go))) r1.are

  pub second_unmet : (m : Unmet) → second ≡ f.Unmet (lines_of m.lines.now) → (go : Walk) → other_side R V u s1 j left le b go ≡ f.Unmet (lines_of m.lines.now)
  unfolding and_then
  second_unmet m e go = behind_first go ∙ ap (λ a. and_then a (λ s2 c2 l2. if_met R V u rs j.choice.after.code.now j.outs.now s1 r1.infos s2 l2 b.ending go)) e

  module _ (mid : FitState) (right : Side) (p : Side_at R old mid (with_branch u s1.branch) b.ending rs right second) where
    -- what is compared
    compared : (go : Walk) → other_side R V u s1 j left le b go
        ≡ need (are_met u s1 p.last j.outs.now (shapes_of left.over.shapes) (shapes_of right.over.shapes)) (lines_of right.over.lines.now) (go (bind_at (met_state u s1 p.last) rs j.outs.now (shapes_of left.over.shapes)) j.choice.after.code.now (lines_of right.over.lines.now))
    unfolding and_then with_some
    compared go =
        behind_first go
        ∙ ap (λ a. and_then a (λ s2 c2 l2. if_met R V u rs j.choice.after.code.now j.outs.now s1 r1.infos s2 l2 b.ending go)) p.found
        ∙ ap (λ o. with_some o (lines_of right.over.lines.now) (λ i2.
        need (are_met u s1 p.last j.outs.now (info_shapes r1.infos) (info_shapes i2)) (lines_of right.over.lines.now) (go (bind_at (met_state u s1 p.last) rs j.outs.now (info_shapes r1.infos)) j.choice.after.code.now (lines_of right.over.lines.now)))) p.results.are
        ∙ (λ i. need (are_met u s1 p.last j.outs.now (r1.shapes i) (p.results.shapes i)) (lines_of right.over.lines.now) (go (bind_at (met_state u s1 p.last) rs j.outs.now (r1.shapes i)) j.choice.after.code.now (lines_of right.over.lines.now)))

    -- the state in which they are compared
    pub at_second : At R mid (with_branch u p.last.branch)
    at_second = subst (λ z. At R z (with_branch u p.last.branch)) (sym p.new) (at_branch R old (with_branch u s1.branch) p.last.branch p.last.branch refl at)

    pub left_there : Leaves R mid (with_branch u p.last.branch) s1 rs left
    left_there = subst (λ z. Leaves R z (with_branch u p.last.branch) s1 rs left) (sym p.new) (leaves_branch R old u s1 p.last.branch p.last.branch rs left l)

    pub right_there : Leaves R mid (with_branch u p.last.branch) p.last rs right
    right_there = subst (λ z. Leaves R z (with_branch u p.last.branch) p.last rs right) (sym p.new) (leaves_branch R old (with_branch u s1.branch) p.last p.last.branch p.last.branch rs right p.leaves)

    pub both_met : (new : FitState) (r : Result Rest Unmet) → MeetsAs R (with_branch u p.last.branch) s1 p.last j left right new r → StepIs R new r (other_side R V u s1 j left le b)
    unfolding need
    both_met new (Ok rest) m = record {
      next = bind_at (met_state u s1 p.last) rs j.outs.now (shapes_of left.over.shapes);
      is = m.0.1;
      on = λ go.
          compared go
          ∙ ap (λ z. need z (lines_of right.over.lines.now) (go (bind_at (met_state u s1 p.last) rs j.outs.now (shapes_of left.over.shapes)) j.choice.after.code.now (lines_of right.over.lines.now))) m.0.0
          ∙ (λ i. go (bind_at (met_state u s1 p.last) rs j.outs.now (shapes_of left.over.shapes)) (sym m.1 i) (lines_of (sym m.2 i)));
    }
    both_met new (Err e) m = λ go.
        compared go
        ∙ ap (λ z. need z (lines_of right.over.lines.now) (go (bind_at (met_state u s1 p.last) rs j.outs.now (shapes_of left.over.shapes)) j.choice.after.code.now (lines_of right.over.lines.now))) m.0
        ∙ ap (λ z. f.Unmet (lines_of z)) (sym m.1)

    pub second_meets : (new : FitState) (r : Result Rest Unmet) → ((v t1 t2 : State) → At R mid v → v.branch ≡ t2.branch → Leaves R mid v t1 rs left → Leaves R mid v t2 rs right → MeetsAs R v t1 t2 j left right new r) → StepIs R new r (other_side R V u s1 j left le b)
    second_meets new r h = both_met new r (h (with_branch u p.last.branch) s1 p.last at_second refl left_there right_there)

-- ---- the bind
module _ (R : ℕ) (V : Views) (s : State) (p : Place) (test : Arg) (outs : List ℕ) (l r : Flats) (code : List Instr) (lines : List Line) (x : FitState) (c : Choice) (b : IfBegins R V s test code lines x c) where
  abbrev pub first : Answer
  first = block R V (fit R V l.binds) (length b.next.entries) b.next.next no_list l.ending c.targets.now (begun_state b.next (learnt (defs_behind p b.next.defs) test)) c.yes.now (lines_of c.after.lines.now)

  abbrev step : Walk → Answer
  step go = f.if_step R V s code lines p outs test (fit R V l.binds) l.ending (fit R V r.binds) r.ending go

  abbrev other : State → List Line → Walk → Answer
  other s1 l1 go = if_other R V b.next c.targets.now c.no.now c.after.code.now outs l.ending (fit R V r.binds) r.ending go s1 l1

  pub first_unmet : (m : Unmet) → first ≡ f.Unmet (lines_of m.lines.now) → (go : Walk) → step go ≡ f.Unmet (lines_of m.lines.now)
  unfolding and_then
  first_unmet m e go = b.on p outs (fit R V l.binds) (fit R V r.binds) go l.ending r.ending ∙ ap (λ a. and_then a (λ s1 c1 l1. other s1 l1 go)) e

  pub then_second : (s1 : State) (ls : List Line) (new : FitState) (q : Result Rest Unmet) → first ≡ Found s1 [] ls → StepIs R new q (other s1 ls) → StepIs R new q step
  unfolding and_then
  then_second s1 ls new (Ok rest) e g = record {
    next = g.next;
    is = g.is;
    on = λ go. b.on p outs (fit R V l.binds) (fit R V r.binds) go l.ending r.ending ∙ ap (λ a. and_then a (λ s1 c1 l1. other s1 l1 go)) e ∙ g.on go;
  }
  then_second s1 ls new (Err m) e g = λ go. b.on p outs (fit R V l.binds) (fit R V r.binds) go l.ending r.ending ∙ ap (λ a. and_then a (λ s1 c1 l1. other s1 l1 go)) e ∙ g go
