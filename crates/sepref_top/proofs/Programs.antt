-- Programs that are right for a specification: those of the smallest form, and those that were translated and checked.
use Rattle.std.proofs.Common.{◌≡◌, List, [], ◌∷◌, Option, Some, None, sym, subst}
use Rattle.std.specs.Prelude.{IfSome}
use Rattle.fits_promise.specs.Promise.{FitsTyped}
use Rattle.fits_promise.proofs.Promise.{shape, sound, bounded}
use Rattle.nres_core.specs.FlatTree.{FlatWhole, flat_whole_of}
use Rattle.nres_core.specs.declared.flat.Flat.{Flat}
use Rattle.nres_core.specs.declared.tree.Spec.{Spec}
use Rattle.nres_rules.specs.Identify.{IsFlatOf}
use Rattle.proof_lines.specs.Lines.{lines_of}
use Rattle.soundness.specs.Behaviour.{of_spec}
use Rattle.soundness.specs.Bound.{IsBoundedFor}
use Rattle.soundness.specs.Samples.{array_get}
use Rattle.soundness.specs.Shape.{Shape}
use Rattle.soundness.specs.Sound.{Sound}
use Rattle.target_code.specs.Formed.{Formed}
use Rattle.target_code.specs.declared.tree.Program.{Program}
use Rattle.target_lines.specs.Programs.{program_text}
use Rattle.sepref_synth.specs.Made.{IsMadeFor}
use Rattle.sepref_synth.specs.declared.making.Synthesized.{Synthesized}
use Rattle.sepref_top.specs.Making.{IsMade}
use Rattle.sepref_top.specs.Synthesis.{IsProgramOf, IsReadSpec, RulesSay}
use Rattle.sepref_top.specs.declared.making.Made.{Made}
use Rattle.sepref_top.specs.declared.status.Status.TheVariants as status
use Rattle.sepref_top.proofs.Grown.{grown}

-- ---- of the smallest form

smallest : (p : Spec) → RulesSay p None → (T : Program) → Formed T → (f : FlatWhole) × IsFlatOf p f × Shape (array_get ∷ []) f T → Sound p T → IsBoundedFor (of_spec p) T → IsProgramOf p T
smallest p passes T formed s sound bounded = record {
  flat = s.0;
  passes = passes;
  formed = formed;
  flat_is = s.1;
  shape = grown s.0 T s.2;
  sound = sound;
  bounded = bounded;
}

with_text : (p : Spec) (T : Program) → IsProgramOf p T → (x : Made) → x.program ≡ T → x.text.items ≡ program_text T → IsMade p x
with_text p T right x e w = record { right = subst (IsProgramOf p) (sym e) right; is_text = subst (λ (U : Program). x.text.items ≡ program_text U) (sym e) w }

pub small_made : (p : Spec) → RulesSay p None → (o : Option Program) → IfSome o (λ T. Formed T) → IfSome o (λ T. (f : FlatWhole) × IsFlatOf p f × Shape (array_get ∷ []) f T) → IfSome o (λ T. Sound p T)
    → IfSome o (λ T. IsBoundedFor (of_spec p) T) → (T : Program) → o ≡ Some T → (x : Made) → (x.program ≡ T) × (x.text.items ≡ program_text T) → IsMade p x
small_made p passes o formed shape sound bounded T e x w =
    with_text p T
    (smallest p passes T (subst (λ q. IfSome q (λ T. Formed T)) e formed) (subst (λ q. IfSome q (λ T. (f : FlatWhole) × IsFlatOf p f × Shape (array_get ∷ []) f T)) e shape)
    (subst (λ q. IfSome q (λ T. Sound p T)) e sound) (subst (λ q. IfSome q (λ T. IsBoundedFor (of_spec p) T)) e bounded))
    x w.0 w.1

-- ---- translated and checked

module _ (p : Spec) (reads : IsReadSpec p) (passes : RulesSay p None) (flat : Flat) (is : IsFlatOf p (flat_whole_of flat)) where
  abbrev fitted : (x : Synthesized) → IsMadeFor (flat_whole_of flat) x → FitsTyped
  fitted x made = record {
    text = reads.text;
    spec = p;
    withs = reads.withs;
    reads = reads.reads;
    flat = flat;
    flat_is = is;
    program = x.program;
    lines = lines_of x.lines;
    fits = made.fits;
  }

  checked : (x : Synthesized) → IsMadeFor (flat_whole_of flat) x → IsProgramOf p x.program
  checked x made = record {
    flat = flat_whole_of flat;
    passes = passes;
    formed = made.read.formed;
    flat_is = is;
    shape = shape (fitted x made);
    sound = sound (fitted x made);
    bounded = bounded (fitted x made);
  }

  pub checked_made : (o : Option Synthesized) → IfSome o (λ x. IsMadeFor (flat_whole_of flat) x) → (x : Synthesized) → o ≡ Some x → IsMade p (record { program = x.program; text = x.text })
  checked_made o made x e =
      let m : IsMadeFor (flat_whole_of flat) x = subst (λ q. IfSome q (λ x. IsMadeFor (flat_whole_of flat) x)) e made in
      record { right = checked x m; is_text = m.read.is_text }
