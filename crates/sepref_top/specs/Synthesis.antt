-- What `check` and `synth` write for a specification.
use Rattle.std.specs.Prelude.{◌≡◌, ℕ, Bool, List, Option, Some, None}
use Rattle.std.specs.List.{list_all}
use Rattle.target_code.specs.Formed.{Formed}
use Rattle.target_code.specs.declared.tree.Program.{Program}
use Rattle.target_lines.specs.Programs.{program_text}
use Rattle.nres_core.specs.FlatTree.{FlatWhole}
use Rattle.nres_core.specs.Texts.{SpecText}
use Rattle.nres_core.specs.declared.refusal.Refusal.{Refusal}
use Rattle.nres_rules.specs.Identify.{IsFlatOf}
use Rattle.nres_core.specs.Vocabulary.{is_free_name}
use Rattle.nres_core.specs.declared.tree.Param.{Param}
use Rattle.nres_core.specs.declared.tree.Spec.{Spec}
use Rattle.nres_core.specs.declared.tree.With.{With}
use Rattle.nres_print.specs.Blocks.{spec_text}
use Rattle.rule_check.specs.Check.{refusal_of}
use Rattle.rule_check.specs.Table.{row_for}
use Rattle.rule_lines.specs.RuleLines.{rule_line}
use Rattle.rule_table.specs.Library.{library}
use Rattle.sepref_top.specs.Statuses.{line_of}
use Rattle.sepref_top.specs.declared.status.Status.{Status}
use Rattle.sepref_top.specs.declared.status.Status.TheVariants as status
use Rattle.smallest_form.specs.Smallest.{IsSmallest}
use Rattle.soundness.specs.Behaviour.{of_spec}
use Rattle.soundness.specs.Bound.{IsBoundedFor}
use Rattle.soundness.specs.Shape.{Shape}
use Rattle.soundness.specs.Sound.{Sound}

-- what the rules say of the one flat tree of a specification: the first refusal, or none
pub record RulesSay (spec : Spec) (said : Option Refusal) : Type 0 where
  pub flat : FlatWhole
  pub flat_is : IsFlatOf spec flat
  pub only : (other : FlatWhole) → IsFlatOf spec other → other ≡ flat
  pub says : refusal_of row_for flat ≡ said

-- the rules pass, and the program is right for the specification: it is formed, has its shape over the library, is sound for it, and its runs are bounded where the
-- specification ends
pub record IsProgramOf (spec : Spec) (T : Program) : Type 0 where
  pub flat : FlatWhole
  pub passes : RulesSay spec None
  pub formed : Formed T
  pub flat_is : IsFlatOf spec flat
  pub shape : Shape library flat T
  pub sound : Sound spec T
  pub bounded : IsBoundedFor (of_spec spec) T

-- the output is the text of such a program
pub record Printed (spec : Spec) (output : List ℕ) : Type 0 where
  pub program : Program
  pub right : IsProgramOf spec program
  pub written : output ≡ program_text program

-- the rules pass, and the output is the canonical text
pub record Canonical (spec : Spec) (output : List ℕ) : Type 0 where
  pub passes : RulesSay spec None
  pub written : output ≡ spec_text spec

-- the rules refuse the specification, and the output tells the first refusal
pub record TellsRefusal (spec : Spec) (output : List ℕ) : Type 0 where
  pub refusal : Refusal
  pub refused : RulesSay spec (Some refusal)
  pub written : output ≡ rule_line refusal

-- the rules pass; the specification is not of the smallest form, and no program is given for it
pub record NotServed (spec : Spec) (output : List ℕ) : Type 0 where
  pub other : ¬ IsSmallest spec
  pub passes : RulesSay spec None
  pub written : output ≡ line_of status.NotYet

-- a status and an output tell what `synth` says of a typed specification, and what `check` says
abbrev pub Translated : Spec → Status → List ℕ → Type 0
Translated p status.Done output = Printed p output
Translated p status.NoRule output = TellsRefusal p output
Translated p status.NotYet output = NotServed p output
Translated p s output = ⊥

abbrev pub Checked : Spec → Status → List ℕ → Type 0
Checked p status.Done output = Canonical p output
Checked p status.NoRule output = TellsRefusal p output
Checked p s output = ⊥

-- a status and an output tell why no program is given for a typed specification
abbrev pub TellsUnmade : Spec → Status → List ℕ → Type 0
TellsUnmade p status.NoRule output = TellsRefusal p output
TellsUnmade p status.NotYet output = NotServed p output
TellsUnmade p s output = ⊥

-- some text reads as the specification
pub record IsReadSpec (spec : Spec) : Type 0 where
  pub text : List ℕ
  pub withs : List With
  pub reads : SpecText text spec withs

-- the names of parameters are names, and not reserved
abbrev pub have_names : List Param → Bool
have_names xs = list_all (λ x. is_free_name x.name) xs
