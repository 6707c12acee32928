-- The first side of an `if`, and the side of an `either`.
use Rattle.std.proofs.Common.{◌≡◌, ◌-◌, ℕ, List, [], ◌∷◌, ◌++◌, length, drop, refl, sym, ap, ◌∙◌, subst}
use Rattle.std.specs.Prelude.{Option, Some, None, Result, Ok, Err}
use Rattle.fit_blocks.proofs.GrowsLemmas.{dropped}
use Rattle.fit_blocks.specs.Answers.{At, Goes_on}
use Rattle.fit_blocks.specs.Blocks.{begun_at, block_opened, with_branches}
use Rattle.fit_blocks.specs.Choices.{Leaves, forgetting, knowing}
use Rattle.fit_blocks.specs.Eithers.{SideGoes, Side_goes, side_end}
use Rattle.fit_blocks.specs.declared.block.Begun.{Begun}
use Rattle.fit_blocks.specs.declared.choice.Side.{Side}
use Rattle.fit_blocks.specs.declared.frame.Unmet.{Unmet}
use Rattle.fit_laws.proofs.Follows.{keeps_older}
use Rattle.fit_laws.specs.Older.{Older}
use Rattle.fit_state.specs.States.{Grows, Is}
use Rattle.fit_state.specs.declared.state.FitState.{FitState}
use Rattle.fit_state.specs.declared.view.Rest.{Rest}
use Rattle.fit_walk.proofs.SideLemmas.{since_none}
use Rattle.fit_walk.specs.Walks.{Goes, SideWalked, Side_at, StepIs}
use Rattle.fits.specs.Follow as f
use Rattle.fits.specs.Follow.{Line, Answer, Found, Views, Walk, and_then, block, fit, side_step}
use Rattle.fits.specs.Places.{State, begun_state, with_facts}
use Rattle.nres_core.specs.FlatTree.{Binds, Ending}
use Rattle.nres_core.specs.declared.flat.Arg.{Arg}
use Rattle.nres_core.specs.declared.place.Place.{Place}
use Rattle.proof_lines.specs.Lines.{lines_of}
use Rattle.rule_check.specs.Context.{Def, Fact}
use Rattle.rule_check.specs.Facts.{defs_behind, learnt}
use Rattle.rule_check.specs.Steps.{no_list}
use Rattle.rule_steps.specs.States as r
use Rattle.target_code.specs.declared.tree.Instr.{Instr}

module _ (R : ℕ) (V : Views) (bs : Binds) (e : Ending) (rs : List ℕ) (x : FitState) (u : State) (at : At R x u) (place : Place) (test : Arg) (code : List Instr) (lines : List Line) where
  abbrev told : List Fact
  told = learnt (defs_behind place u.defs) test

  -- the state in which the test holds
  abbrev pub yes_state : State
  yes_state = with_facts u (told ++ u.facts) u.defs

  abbrev of_yes : Answer
  of_yes = block R V (fit R V bs) (length u.entries) u.next no_list e rs (begun_state u told) code lines

  knows : (y : FitState) → y ≡ knowing (learnt (defs_behind place (r.ctx_of x.rules).defs) test) x → y ≡ knowing told x
  knows y k = k ∙ ap (λ (ds : List Def). knowing (learnt (defs_behind place ds) test) x) at.is.held.defs

  pub yes_begins : (y : FitState) → y ≡ knowing (learnt (defs_behind place (r.ctx_of x.rules).defs) test) x → At R y yes_state
  yes_begins y k = subst (λ z. At R z yes_state) (sym (knows y k)) (record {
    is = record {
      held = record { same = record { spots = at.is.held.same.spots; facts = ap (λ fs. told ++ fs) at.is.held.same.facts }; defs = at.is.held.defs };
      known = record { tokens = at.is.known.tokens; none = at.is.known.none; words = at.is.known.words; next = at.is.known.next; branch = at.is.known.branch };
    };
    under = at.under;
  })

  forgets : (n mark : ℕ) → mark ≡ length x.rules.facts → forgetting mark (with_branches (knowing told x) n) ≡ with_branches x n
  forgets n mark k =
      let d : drop (length (told ++ x.rules.facts) - mark) (told ++ x.rules.facts) ≡ x.rules.facts = dropped x.rules.facts (told ++ x.rules.facts) mark (told, refl) k in
      λ i. record { rules = record { context = x.rules.context; facts = d i; calculations = x.rules.calculations; start = x.rules.start }; tokens = x.tokens; words = x.words; next = x.next; branch = n }

  leaves_as : (y : FitState) (s : State) (side : Side) → y ≡ knowing told x → Leaves R y yes_state s rs side → Leaves R x u s rs side
  leaves_as y s side k l =
      let m : Leaves R (knowing told x) yes_state s rs side = subst (λ z. Leaves R z yes_state s rs side) k l in
      record { held = m.held; numbers = m.numbers; tokens = m.tokens; none = m.none; next = m.next; later = m.later; below = m.below }

  pub yes_over : (y mid new : FitState) (mark : ℕ) (side : Side) → y ≡ knowing (learnt (defs_behind place (r.ctx_of x.rules).defs) test) x → mark ≡ length x.rules.facts → new ≡ forgetting mark mid → SideWalked R y mid yes_state e rs (Ok side) of_yes → SideWalked R x new u e rs (Ok side) of_yes
  yes_over y mid new mark side k m forgot s =
      let q = knows y k in
      record {
        last = s.last;
        found = s.found;
        results = s.results;
        leaves = leaves_as y s.last side q s.leaves;
        new = forgot ∙ ap (forgetting mark) (s.new ∙ ap (λ z. with_branches z s.last.branch) q) ∙ forgets s.last.branch mark m;
      }

-- ---- the side of an `either`

pub taken_begins : (R : ℕ) (x y : FitState) (s : State) → At R x s → y ≡ block_opened x → At R y (begun_state s [])
taken_begins R x y s at e = subst (λ z. At R z (begun_state s [])) (sym e) (record {
  is = record {
    held = record { same = record { spots = at.is.held.same.spots; facts = at.is.held.same.facts }; defs = since_none x.rules.calculations };
    known = record { tokens = at.is.known.tokens; none = at.is.known.none; words = at.is.known.words; next = at.is.known.next; branch = at.is.known.branch };
  };
  under = at.under;
})

module _ (R : ℕ) (V : Views) (bs : Binds) (e : Ending) (outs : List ℕ) (x : FitState) (s : State) (at : At R x s) (code : List Instr) (lines : List Line) where
  abbrev followed : Answer
  followed = fit R V bs (begun_state s []) code lines

  pub taken_unmet : (new : FitState) (m : Unmet) → followed ≡ f.Unmet (lines_of m.lines.now) → StepIs R new (Err m) (side_step R V s code lines outs (fit R V bs) e)
  unfolding and_then
  taken_unmet new m h = λ go. ap (λ a. and_then a (side_end R V s outs e go)) h

  module _ (mid : FitState) (q : Rest) (g : Goes_on R mid q followed) where
    pub taken_older : Older s g.last
    taken_older =
        let o : Older (begun_state s []) g.last = keeps_older.binds R V bs (begun_state s []) code lines at.under g.last q.code.now (lines_of q.lines.now) g.found in
        record { made = o.made; entries = o.entries; next = o.next; numbers = o.numbers; under = o.under }

    pub taken_at : At R mid g.last
    taken_at = record { is = g.is; under = taken_older.under }

    at_end : (go : Walk) → side_step R V s code lines outs (fit R V bs) e go ≡ side_end R V s outs e go g.last q.code.now (lines_of q.lines.now)
    unfolding and_then
    at_end go = ap (λ a. and_then a (side_end R V s outs e go)) g.found

    pub taken_over : (new : FitState) (o : Result Rest Unmet) → SideGoes R V s outs e g.last q.code.now (lines_of q.lines.now) new o → StepIs R new o (side_step R V s code lines outs (fit R V bs) e)
    taken_over new (Ok rest) h = record { next = h.next; is = h.is; on = λ go. at_end go ∙ h.on go }
    taken_over new (Err m) h = λ go. at_end go ∙ h go

    pub taken_goes : (b : Begun) → b ≡ begun_at x → Grows (block_opened x) mid → (new : FitState) (o : Result Rest Unmet)
        → ((z : FitState) (w v : State) → At R z w → b ≡ begun_at z → Grows (block_opened z) mid → At R mid v → Older w v → SideGoes R V w outs e v q.code.now (lines_of q.lines.now) new o) → StepIs R new o (side_step R V s code lines outs (fit R V bs) e)
    taken_goes b begun grows new o h = taken_over new o (h x s g.last at begun grows taken_at taken_older)
