-- The flat tree of a typed text is typed.
use Rattle.identify_laws.proofs.Typed.{texts_are_typed}
use Rattle.flatten_laws.specs.Laws.{FlatTreesOfTextsAreTyped}
use Rattle.flatten_laws.proofs.TypedWholes.{typed_trees_stay_typed}

pub flat_trees_of_texts_are_typed : FlatTreesOfTextsAreTyped
flat_trees_of_texts_are_typed text p ws u q f s h i e = let one = texts_are_typed text p ws u q s h i in typed_trees_stay_typed q f e one.typed one.binders
