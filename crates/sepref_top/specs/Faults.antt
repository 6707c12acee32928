-- Why a text is told to be untyped.
use Rattle.std.specs.Prelude.{◌≢◌, ℕ, List}
use Rattle.nres_core.specs.Texts.{SpecText}
use Rattle.nres_rules.specs.Types.{refusal_of}
use Rattle.nres_core.specs.declared.tree.Spec.{Spec}
use Rattle.nres_core.specs.declared.tree.With.{With}
use Rattle.nres_types.specs.Wholes.{IsTold}
use Rattle.nres_types.specs.declared.refusal.TypeRefusal.{TypeRefusal}
use Rattle.nres_types.specs.declared.refusal.TypeRefusal.TheVariants as e

-- the text is that of a specification, of which this refusal tells the rule that is broken first
pub record IsRefused (text : List ℕ) (r : TypeRefusal) : Type 0 where
  pub spec : Spec
  pub withs : List With
  pub reads : SpecText text spec withs
  pub told : IsTold r (refusal_of spec)
  pub real : r ≢ e.Memory
