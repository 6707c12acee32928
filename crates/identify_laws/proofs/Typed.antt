-- What is identified of a typed text is typed, and its binders are names.
use Rattle.typing_laws.proofs.DerivedLemmas.{spec_found, typed_found}
use Rattle.typing_laws.proofs.FormedLemmas.{texts_are_formed}
use Rattle.identify_laws.specs.Laws.{TextsAreTyped, TypedExactly}
use Rattle.identify_laws.proofs.BindersLemmas.{formed_are_named}
use Rattle.identify_laws.proofs.NotRefused.{typed_pass}
use Rattle.identify_laws.proofs.FormedTyped.{formed_are_typed}

pub texts_are_typed : TextsAreTyped
texts_are_typed text p ws u q s h i = let f = texts_are_formed text p ws s in record { typed = formed_are_typed p q f (typed_found p u q h i); binders = formed_are_named p u q f i }

pub typed_exactly : TypedExactly
typed_exactly text p ws u q s i h =
    let f = texts_are_formed text p ws s in (
      λ t. typed_pass p u.words q f h i.params i.shown i.body i.funs t,
      λ r. formed_are_typed p q f (spec_found p u.words q r h i.params i.shown i.body i.funs),
    )
