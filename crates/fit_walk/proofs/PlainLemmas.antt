-- Binds without blocks.
use Rattle.std.proofs.Common.{◌≡◌, ℕ, Bool, true, false, List, [], ◌∷◌, refl, sym, ap, ◌∙◌, subst}
use Rattle.std.specs.Prelude.{Option, Some, None, Result, Ok, Err, IfOk}
use Rattle.fit_blocks.specs.Answers.{BindIs}
use Rattle.fit_blocks.specs.Asserts.{Asserted}
use Rattle.fit_blocks.specs.declared.frame.Unmet.{Unmet}
use Rattle.fit_state.specs.States.{Is}
use Rattle.fit_state.specs.declared.state.FitState.{FitState}
use Rattle.fit_state.specs.declared.view.Rest.{Rest}
use Rattle.fit_steps.specs.Going.{Steps}
use Rattle.fit_walk.specs.Plains.{PlainIs}
use Rattle.fits.specs.Follow as f
use Rattle.fits.specs.Follow.{Line, Answer, Views, Walk, asserted, fit, is_plain, need}
use Rattle.fits.specs.Places.{State}
use Rattle.nres_core.specs.FlatTree as t
use Rattle.nres_core.specs.FlatTree.{Before, Binds}
use Rattle.nres_core.specs.declared.flat.Arg.{Arg}
use Rattle.nres_core.specs.declared.place.Place.{Place}
use Rattle.proof_lines.specs.Lines.{lines_of}
use Rattle.target_code.specs.declared.tree.Instr.{Instr}

pub if_ok_then : {A E : Type 0} (r : Result A E) (P Q : A → Type 0) → ((x : A) → P x → Q x) → IfOk r P → IfOk r Q
if_ok_then (Ok x) P Q g p = g x p
if_ok_then (Err e) P Q g p = p

pub if_ok_both : {A E : Type 0} (r : Result A E) (P Q S : A → Type 0) → ((x : A) → P x → Q x → S x) → IfOk r P → IfOk r Q → IfOk r S
if_ok_both (Ok x) P Q S g p q = g x p q
if_ok_both (Err e) P Q S g p q = p

-- a bind by its step
pub plain_steps : (R : ℕ) (V : Views) (b d : Before) (s : State) (code : List Instr) (lines : List Line) (step : Walk → Answer) (new : FitState) (o : Option Rest) → b ≡ d → ((rest : Binds) → fit R V (d rest) s code lines ≡ step (fit R V rest)) → Steps R new lines step o → PlainIs R V b s code lines new o
plain_steps R V b d s code lines step new (Some r) k e g = record { next = g.next; is = g.is; on = λ rest. ap (λ (z : Before). fit R V (z rest) s code lines) k ∙ e rest ∙ g.on (fit R V rest) }
plain_steps R V b d s code lines step new None k e g = λ rest. ap (λ (z : Before). fit R V (z rest) s code lines) k ∙ e rest ∙ g (fit R V rest)

pub plain_as : (R : ℕ) (V : Views) (b d : Before) (s : State) (code : List Instr) (lines : List Line) (new : FitState) (o : Option Rest) → b ≡ d → PlainIs R V d s code lines new o → PlainIs R V b s code lines new o
plain_as R V b d s code lines new o e h = subst (λ z. PlainIs R V z s code lines new o) (sym e) h

module _ (R : ℕ) (V : Views) (s : State) (p : Place) (inner : Binds) (x : Arg) (new : FitState) (r : Rest) where
  pub assert_goes : Asserted R s inner x new true → PlainIs R V (t.Assert p inner x) s r.code.now (lines_of r.lines.now) new (Some r)
  unfolding need
  assert_goes h = record { next = asserted s inner x; is = h.1; on = λ rest. ap (λ b. need b (lines_of r.lines.now) (fit R V rest (asserted s inner x) r.code.now (lines_of r.lines.now))) h.0 }

  pub assert_stays : Asserted R s inner x new false → PlainIs R V (t.Assert p inner x) s r.code.now (lines_of r.lines.now) new None
  unfolding need
  assert_stays h = λ rest. ap (λ b. need b (lines_of r.lines.now) (fit R V rest (asserted s inner x) r.code.now (lines_of r.lines.now))) h

-- what a bind came to
pub plain_over : (R : ℕ) (V : Views) (b : Before) (s : State) (code : List Instr) (new : FitState) (r : Rest) (o : Option Rest) → PlainIs R V b s code (lines_of r.lines.now) new o → (left : Rest) → o ≡ Some left → BindIs R V b s code (lines_of r.lines.now) new (Ok left)
plain_over R V b s code new r o h left e = subst (λ z. PlainIs R V b s code (lines_of r.lines.now) new z) e h

pub plain_unmet : (R : ℕ) (V : Views) (b : Before) (s : State) (code : List Instr) (new : FitState) (r : Rest) (o : Option Rest) (m : Unmet) → m.lines.now ≡ r.lines.now → PlainIs R V b s code (lines_of r.lines.now) new o → o ≡ None → BindIs R V b s code (lines_of r.lines.now) new (Err m)
plain_unmet R V b s code new r o m k h e = λ rest. subst (λ z. PlainIs R V b s code (lines_of r.lines.now) new z) e h rest ∙ ap (λ z. f.Unmet (lines_of z)) (sym k)
