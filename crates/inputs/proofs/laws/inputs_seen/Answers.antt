use Rattle.std.proofs.Common.{◌≡◌, ℕ, List, [], ◌∷◌, codes, Ok, refl, ap, arith}
use Rattle.containers.proofs.SetItems.{items-from_list}
use Rattle.containers.specs.Sets as sets
use Rattle.nres_core.specs.declared.value.Value.TheVariants as v
use Rattle.inputs.specs.Inputs.{at_fault, by_types_and_bounds, chosen_of, first_from, fitting_inputs, unless}
use Rattle.inputs.specs.Samples.{bounded, set}
use Rattle.inputs.proofs.laws.inputs_seen.Goals as goal

-- a set, by its elements
of_set : (us l : List ℕ) → sets.items (sets.from_list us) ≡ l
    → fitting_inputs bounded (set us ∷ []) ≡ chosen_of (unless (codes "s") (at_fault (first_from 10 l)) (Ok ((codes "s", v.Set (sets.from_list us)) ∷ []))) (by_types_and_bounds bounded)
of_set us l e = ap (λ z. chosen_of (unless (codes "s") (at_fault (first_from 10 z)) (Ok ((codes "s", v.Set (sets.from_list us)) ∷ []))) (by_types_and_bounds bounded)) e

pub returns : goal.returns
returns c = record {
  none = refl;
  in_order = refl;
  in_any_order = refl;
  unknown = refl;
  twice = refl;
  other_type = refl;
  missing = refl;
  lines_first = refl;
  first_missing = refl;
  above = of_set (3 ∷ 10 ∷ 12 ∷ []) _ (items-from_list (3 ∷ 10 ∷ 12 ∷ []) ((omega arith, (omega arith, tt)), ((omega arith, tt), (tt, tt))));
  below = of_set (3 ∷ 9 ∷ []) _ (items-from_list (3 ∷ 9 ∷ []) ((omega arith, tt), (tt, tt)));
  any_element = refl;
  type_first = refl;
  of_program = refl;
  no_flag = refl;
}
