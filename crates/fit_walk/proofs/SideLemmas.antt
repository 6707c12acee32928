-- The sides of an `if`, and the side of an `either`.
use Rattle.std.proofs.Common.{◌≡◌, ◌-◌, ℕ, suc, List, [], ◌∷◌, ◌++◌, length, take, refl, sym, ap, ◌∙◌, subst, arith}
use Rattle.std.specs.Prelude.{Option, Some, None, Result, Ok, Err}
use Rattle.bare_holds.specs.Bare.{bare_holds}
use Rattle.context_laws.specs.Stacks.{falls_at}
use Rattle.context_laws.specs.Steps.{FallsBack, falls_back}
use Rattle.facts.specs.Kept.{since}
use Rattle.fit_blocks.proofs.GrowsLemmas.{side_over}
use Rattle.fit_blocks.specs.Answers.{At, Over_at, Results}
use Rattle.fit_blocks.specs.Blocks.{begun_at, block_opened, side_closed, side_opened, with_branches}
use Rattle.fit_blocks.specs.Choices.{Leaves}
use Rattle.fit_blocks.specs.declared.block.Begun.{Begun}
use Rattle.fit_blocks.specs.declared.choice.Side.{Side}
use Rattle.fit_laws.proofs.Follows.{keeps_older}
use Rattle.fit_laws.specs.Older.{Older, Under}
use Rattle.fit_state.specs.States.{Grows, Is}
use Rattle.fit_state.specs.declared.state.FitState.{FitState}
use Rattle.fit_tokens.specs.Changes as t
use Rattle.fit_tokens.specs.Standing.{all_stand}
use Rattle.fit_tokens.specs.Changes.{after, before_all, changes_of, toks}
use Rattle.fit_walk.specs.Walks.{Side_at}
use Rattle.fits.specs.Follow.{Line, Answer, Found, Views, block, fit}
use Rattle.fits.specs.Places.{Entry, State, begun_state, spots_of}
use Rattle.nres_core.specs.FlatTree.{Binds, Ending}
use Rattle.ownership.specs.Entries.{shapes_of}
use Rattle.proof_lines.specs.Lines.{lines_of}
use Rattle.rule_check.specs.Context.{Def}
use Rattle.rule_check.specs.Steps.{no_list}
use Rattle.side_laws.proofs.Left.{left_of_a_side}
use Rattle.side_laws.proofs.Tails.{bare_length, spots_length}
use Rattle.side_laws.specs.Sides.{HeldAs}
use Rattle.target_code.specs.declared.tree.Instr.{Instr}

pub since_none : (ds : List Def) → since (length ds) ds ≡ []
since_none ds = let e : length ds - length ds ≡ 0 = omega arith in ap (λ n. take n ds) e

pub stand_count : (es : List Entry) → length (all_stand es) ≡ length es
stand_count [] = refl
stand_count (e ∷ es) = ap suc (stand_count es)

-- as many entries as there are in the definition
pub entries_count : (R : ℕ) (x : FitState) (u : State) → Is R x u → length x.rules.context.spots ≡ length u.entries
entries_count R x u is = sym (bare_length x.rules.context.spots) ∙ ap length is.held.same.spots ∙ bare_length (spots_of u.hold u.entries) ∙ spots_length u.hold u.entries

-- where a side begins
pub side_begins : (R : ℕ) (x : FitState) (u : State) → At R x u → At R (side_opened x) (begun_state u [])
side_begins R x u at = record {
  is = record {
    held = record { same = record { spots = at.is.held.same.spots; facts = at.is.held.same.facts }; defs = since_none x.rules.calculations };
    known = record { tokens = at.is.known.tokens; none = at.is.known.none; words = at.is.known.words; next = at.is.known.next; branch = at.is.known.branch };
  };
  under = at.under;
}

module _ (R : ℕ) (V : Views) (bs : Binds) (e : Ending) (rs : List ℕ) (x : FitState) (u : State) (at : At R x u) (code : List Instr) (lines : List Line) where
  abbrev of_side : Answer
  of_side = block R V (fit R V bs) (length u.entries) u.next no_list e rs (begun_state u []) code lines

  pub side_passes : (y new : FitState) (b : Begun) (side : Side) → b ≡ begun_at x → Grows (side_opened x) y → (o : Over_at R y e rs side.over of_side)
      → side.next ≡ y.next → new ≡ side_closed b y → FallsBack side.closed.went y.rules.context → changes_of side.closed.changes ≡ y.tokens.changes → Side_at R x new u e rs side of_side
  side_passes y new b side begun grows o next closed went changes =
      let older : Older (begun_state u []) o.last = keeps_older.blocks R V bs (length u.entries) u.next no_list e rs (begun_state u []) code lines at.under o.last [] (lines_of side.over.lines.now) o.found in
      let fell : falls_back side.closed.went y.rules.context (x.rules.context.spots ∷ x.rules.context.saved) = subst (falls_back side.closed.went y.rules.context) grows.rules.saved went in
      record {
        last = o.last;
        found = o.found;
        results = o.results;
        leaves = record {
          held = left_of_a_side x.rules.context.spots y.rules.context.spots side.closed.went o.last.hold older.made u.entries grows.falls fell (entries_count R x u at.is)
              (o.is.held.same.spots ∙ ap (λ es. bare_holds (spots_of o.last.hold es)) older.entries);
          numbers = older.numbers;
          tokens = ap (λ cs. after cs u.toks) changes ∙ ap (after y.tokens.changes) (sym (ap before_all grows.tokens ∙ at.is.known.tokens)) ∙ o.is.known.tokens;
          none = o.is.known.none;
          next = next ∙ o.is.known.next;
          later = older.next;
          below = o.below;
        };
        new = closed ∙ side_over x y b begun grows ∙ ap (with_branches x) o.is.known.branch;
      }
