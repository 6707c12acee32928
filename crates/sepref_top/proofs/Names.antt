-- The parameters of what a text is have names.
use Rattle.std.proofs.Common.{◌≡◌, ℕ, Bool, true, false, List, [], ◌∷◌, refl}
use Rattle.nres_core.specs.Texts.{SpecText}
use Rattle.nres_core.specs.declared.tree.Param.{Param}
use Rattle.nres_core.specs.declared.tree.Spec.{Spec}
use Rattle.nres_core.specs.declared.tree.With.{With}
use Rattle.typing_laws.specs.Formed.{ParamsFormed}
use Rattle.typing_laws.proofs.FormedLemmas.{texts_are_formed}
use Rattle.typing_laws.proofs.TypedLemmas.{and_true}
use Rattle.sepref_top.specs.Synthesis.{have_names}

formed_have_names : (b : Bool) (xs : List Param) → ParamsFormed b xs → have_names xs ≡ true
formed_have_names b [] h = refl
formed_have_names b (x ∷ xs) h = and_true h.0.2 (formed_have_names b xs h.1)

pub parameters_have_names : {text : List ℕ} {p : Spec} {ws : List With} → SpecText text p ws → have_names p.params ≡ true
parameters_have_names {text = text} {p = p} {ws = ws} s = formed_have_names false p.params (texts_are_formed text p ws s).0.0
