-- Lists of binds, and blocks.
use Rattle.std.proofs.Common.{◌≡◌, ◌+◌, ◌<◌, ◌≤◌, ℕ, suc, true, List, [], ◌∷◌, length, drop, refl, sym, ap, ◌∙◌, subst, arith, get_or, drop-cons}
use Rattle.std.specs.Prelude.{Option, Some, None, Result, Ok, Err}
use Rattle.fit_blocks.specs.Answers.{AnswerIs, At, BindIs, Bind_goes, Goes_on, OverIs, Over_at, ends_at}
use Rattle.fit_blocks.specs.declared.frame.Ends.{Ends}
use Rattle.fit_blocks.specs.declared.frame.Over.{Over}
use Rattle.fit_blocks.specs.declared.frame.Unmet.{Unmet}
use Rattle.fit_laws.proofs.Follows.{keeps_older}
use Rattle.fit_laws.specs.Older.{Older, Under}
use Rattle.fit_state.specs.States.{Is}
use Rattle.fit_state.specs.declared.state.FitState.{FitState}
use Rattle.fit_state.specs.declared.view.Rest.{Rest}
use Rattle.fit_walk.specs.Walks.{Goes, Reached, StepIs}
use Rattle.fits.specs.Follow as f
use Rattle.fits.specs.Follow.{Line, Answer, Found, Views, Walk, and_then, block, fit}
use Rattle.fits.specs.Places.{State}
use Rattle.nres_core.specs.FlatTree as t
use Rattle.nres_core.specs.FlatTree.{Before, Binds, Ending, before_of, binds_of, flats_of}
use Rattle.nres_core.specs.declared.flat.FlatBind.{FlatBind}
use Rattle.nres_core.specs.declared.flat.FlatBlock.{FlatBlock}
use Rattle.loop_regs.proofs.LinesLemmas.{binds_are}
use Rattle.proof_lines.specs.Lines.{lines_of}
use Rattle.rule_steps.specs.Ends.{astray_of}
use Rattle.sequential.specs.Sequential.{sequential}
use Rattle.target_code.specs.declared.tree.Instr.{Instr}

-- ---- the binds of a list

pub next_bind : (bs : List FlatBind) (i : ℕ) (d : FlatBind) → i < length bs → d ≡ get_or bs i d → binds_of (drop i bs) ≡ before_of d (binds_of (drop (i + 1) bs))
next_bind bs i d lt e = ap binds_of (drop-cons bs i d lt) ∙ (λ j. before_of (sym e j) (binds_of (drop (suc i) bs))) ∙ ap (λ n. before_of d (binds_of (drop n bs))) (one i)
  where
    one : (n : ℕ) → suc n ≡ n + 1
    one n = omega arith

-- a bind that is the same
pub bind_like : (R : ℕ) (V : Views) (b d : Before) (s : State) (code : List Instr) (lines : List Line) (new : FitState) (r : Result Rest Unmet) → b ≡ d → BindIs R V d s code lines new r → BindIs R V b s code lines new r
bind_like R V b d s code lines new r e h = subst (λ z. BindIs R V z s code lines new r) (sym e) h

-- a bind whose step goes on, or not
pub bind_steps : (R : ℕ) (V : Views) (b : Before) (s : State) (code : List Instr) (lines : List Line) (step : Walk → Answer) (new : FitState) (r : Result Rest Unmet) → ((rest : Binds) → fit R V (b rest) s code lines ≡ step (fit R V rest)) → StepIs R new r step → BindIs R V b s code lines new r
bind_steps R V b s code lines step new (Ok r) e g = record { next = g.next; is = g.is; on = λ rest. e rest ∙ g.on (fit R V rest) }
bind_steps R V b s code lines step new (Err m) e g = λ rest. e rest ∙ g (fit R V rest)

pub reached_first : (R : ℕ) (V : Views) (all : Binds) (s : State) (x : FitState) (r : Rest) → At R x s → Reached R V all all s r.code.now (lines_of r.lines.now) x r
reached_first R V all s x r at = record { here = s; at = at; on = refl }

module _ (R : ℕ) (V : Views) (s0 : State) (code : List Instr) (lines : List Line) where
  pub reached_next : (bs : List FlatBind) (i : ℕ) (d : FlatBind) (x new : FitState) (r left : Rest) → i < length bs → d ≡ get_or bs i d
      → (q : Reached R V (binds_of bs) (binds_of (drop i bs)) s0 code lines x r) → BindIs R V (before_of d) q.here r.code.now (lines_of r.lines.now) new (Ok left)
      → Reached R V (binds_of bs) (binds_of (drop (i + 1) bs)) s0 code lines new left
  reached_next bs i d x new r left lt e q g =
      let o : Older q.here g.next = keeps_older.binds R V (before_of d t.No_bind) q.here r.code.now (lines_of r.lines.now) q.at.under g.next left.code.now (lines_of left.lines.now) (g.on t.No_bind) in
      record {
        here = g.next;
        at = record { is = g.is; under = o.under };
        on = q.on ∙ ap (λ z. fit R V z q.here r.code.now (lines_of r.lines.now)) (next_bind bs i d lt e) ∙ g.on (binds_of (drop (i + 1) bs));
      }

  pub reached_unmet : (bs : List FlatBind) (i : ℕ) (d : FlatBind) (x new : FitState) (r : Rest) (m : Unmet) → i < length bs → d ≡ get_or bs i d
      → (q : Reached R V (binds_of bs) (binds_of (drop i bs)) s0 code lines x r) → BindIs R V (before_of d) q.here r.code.now (lines_of r.lines.now) new (Err m)
      → fit R V (binds_of bs) s0 code lines ≡ f.Unmet (lines_of m.lines.now)
  reached_unmet bs i d x new r m lt e q g = q.on ∙ ap (λ z. fit R V z q.here r.code.now (lines_of r.lines.now)) (next_bind bs i d lt e) ∙ g (binds_of (drop (i + 1) bs))

  pub reached_last : (bs rest : List FlatBind) (x : FitState) (r : Rest) → rest ≡ [] → (q : Reached R V (binds_of bs) (binds_of rest) s0 code lines x r) → Goes_on R x r (fit R V (binds_of bs) s0 code lines)
  reached_last bs rest x r none q = record { last = q.here; is = q.at.is; found = q.on ∙ ap (λ z. fit R V (binds_of z) q.here r.code.now (lines_of r.lines.now)) none }

-- ---- blocks

module _ (R : ℕ) (V : Views) (bs : Binds) (n : Ends) (e : Ending) (s : State) (code : List Instr) (lines : List Line) where
  abbrev of_block : Answer
  of_block = block R V (fit R V bs) n.count n.mark (astray_of n.owed) e n.targets.now s code lines

  pub block_unmet : (new : FitState) (m : Unmet) → AnswerIs R new (Err m) (fit R V bs s code lines) → of_block ≡ f.Unmet (lines_of m.lines.now)
  unfolding and_then
  block_unmet new m e1 = ap (λ a. and_then a (ends_at R V n e)) e1

  pub block_like : (mid new : FitState) (r : Rest) (g : Goes_on R mid r (fit R V bs s code lines)) → of_block ≡ ends_at R V n e g.last r.code.now (lines_of r.lines.now)
  unfolding and_then
  block_like mid new r g = ap (λ a. and_then a (ends_at R V n e)) g.found

  pub block_over : (mid new : FitState) (r : Rest) (g : Goes_on R mid r (fit R V bs s code lines)) (o : Result Over Unmet) → OverIs R new e n.targets.now o (ends_at R V n e g.last r.code.now (lines_of r.lines.now)) → OverIs R new e n.targets.now o of_block
  block_over mid new r g (Ok o) h = record { last = h.last; below = h.below; is = h.is; found = block_like mid new r g ∙ h.found; results = h.results }
  block_over mid new r g (Err m) h = block_like mid new r g ∙ h

-- the binds of a block
pub followed_at : (R : ℕ) (V : Views) (l : FlatBlock) (bs : List FlatBind) (s : State) (code : List Instr) (lines : List Line) (new : FitState) (o r : Result Rest Unmet) → bs ≡ l.binds → o ≡ r → AnswerIs R new o (fit R V (binds_of bs) s code lines) → AnswerIs R new r (fit R V (flats_of l).binds s code lines)
followed_at R V l bs s code lines new o r e k h = subst (λ z. AnswerIs R new r (fit R V z s code lines)) (binds_are l bs e) (subst (λ z. AnswerIs R new z (fit R V (binds_of bs) s code lines)) k h)

pub sequential_at : (l : FlatBlock) (bs : List FlatBind) → bs ≡ l.binds → sequential (flats_of l).binds ≡ true → sequential (binds_of bs) ≡ true
sequential_at l bs e h = ap sequential (binds_are l bs e) ∙ h
