use Rattle.std.proofs.Common.{◌≡◌, [], ◌∷◌, Some, None, sym, ap, ◌∙◌, subst}
use Rattle.nres_core.specs.FlatTree.{FlatWhole}
use Rattle.nres_rules.specs.Flatten.{taken}
use Rattle.nres_rules.specs.Identify.{IsFlatOf}
use Rattle.soundness.specs.Behaviour.{of_spec}
use Rattle.soundness.specs.Bound.{IsBoundedFor}
use Rattle.soundness.specs.Samples.{array_get}
use Rattle.soundness.specs.Shape.{Shape}
use Rattle.soundness.specs.Sound.{Sound}
use Rattle.target_code.specs.Formed.{Formed}
use Rattle.target_code.specs.declared.tree.Program.{Program}
use Rattle.smallest_form.proofs.Forms.{form_read, form_found}
use Rattle.smallest_form.proofs.Right as right
use Rattle.smallest_form.specs.Programs.{HasWords, program_of}
use Rattle.smallest_form.specs.Smallest.{HasForm}
use Rattle.smallest_form.proofs.translation.translate.Goals as goal

pub returns-in-None-clause-none : goal.returns-in-None-clause-none
returns-in-None-clause-none c = λ e small. let r = form_read c.args.spec.now small.0 small.1 in let d : None ≡ Some small.0 = sym c.in-None.is ∙ c.form_in.ensures.exact ∙ r in cc d

has_form : (c : goal.In_ok-program_of-in-Some) → HasForm c.args.spec.now c.in-Some.form
has_form c = form_found c.args.spec.now c.in-Some.form (sym c.form_in.ensures.exact ∙ c.in-Some.is)

has_words : (c : goal.In_ok-program_of-in-Some) → HasWords c.in-Some.form
has_words c = c.in-Some.ensures.words

is_program : (c : goal.In_ok-program_of-in-Some) → c.in_ok-program_of-in-Some.field-0 ≡ program_of (taken c.args.spec.now.params) c.in-Some.form
is_program c = c.in_ok-program_of-in-Some.ensures ∙ ap (λ ps. program_of (taken ps) c.in-Some.form) c.as_slice.ensures

pub returns-in_ok-program_of-in-Some-clause-small : goal.returns-in_ok-program_of-in-Some-clause-small
returns-in_ok-program_of-in-Some-clause-small c = (c.in-Some.form, has_form c)

pub returns-in_ok-program_of-in-Some-clause-formed : goal.returns-in_ok-program_of-in-Some-clause-formed
returns-in_ok-program_of-in-Some-clause-formed c = subst Formed (sym (is_program c)) (right.formed c.args.spec.now c.in-Some.form (has_form c) (has_words c) c.requires.named)

pub returns-in_ok-program_of-in-Some-clause-shape : goal.returns-in_ok-program_of-in-Some-clause-shape
returns-in_ok-program_of-in-Some-clause-shape c =
    subst (λ (t : Program). (f : FlatWhole) × IsFlatOf c.args.spec.now f × Shape (array_get ∷ []) f t) (sym (is_program c)) (right.shaped c.args.spec.now c.in-Some.form (has_form c))

pub returns-in_ok-program_of-in-Some-clause-sound : goal.returns-in_ok-program_of-in-Some-clause-sound
returns-in_ok-program_of-in-Some-clause-sound c = subst (Sound c.args.spec.now) (sym (is_program c)) (right.right c.args.spec.now c.in-Some.form (has_form c) (has_words c)).sound

pub returns-in_ok-program_of-in-Some-clause-bounded : goal.returns-in_ok-program_of-in-Some-clause-bounded
returns-in_ok-program_of-in-Some-clause-bounded c = subst (IsBoundedFor (of_spec c.args.spec.now)) (sym (is_program c)) (right.right c.args.spec.now c.in-Some.form (has_form c) (has_words c)).bounded
