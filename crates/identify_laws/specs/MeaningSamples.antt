-- Words that are read and that are not, and values of a type and of another.
use Rattle.std.specs.Prelude.{◌≡◌, ℕ, false, true, List, [], ◌∷◌, None, Some, codes}
use Rattle.nres_core.specs.Samples.{at}
use Rattle.nres_core.specs.Tree as t
use Rattle.nres_rules.specs.Types.{bod_type}
use Rattle.nres_core.specs.declared.op.Op.TheVariants as o
use Rattle.nres_core.specs.declared.ty.Ty.TheVariants as ty
use Rattle.nres_core.specs.declared.value.Value.{Value}
use Rattle.nres_core.specs.declared.value.Value.TheVariants as v
use Rattle.nres_meaning.specs.WordOperations.{op_named}
use Rattle.identify_laws.specs.Taken.{BodyTakes}
use Rattle.identify_laws.specs.Values.{Of, AllOf}

-- an element that is taken out of h by this word
abbrev pub taken_by : List ℕ → t.Bod t.Word
taken_by w = t.Take (at 1 1) (w, None) (t.Var (record { name = codes "h"; place = at 1 1 }))

pub record Seen : Type 0 where
  pub pop_is_read : BodyTakes (taken_by (codes "pop"))
  pub len_is_not : ¬ BodyTakes (taken_by (codes "len"))
  -- typing would take it for `take_min`, but it stands for `len`
  pub len_is_typed : (bod_type [] (taken_by (codes "len")) ((codes "h", Some ty.Bag) ∷ [])).refusal ≡ None
  pub len_is_taken_for : (bod_type [] (taken_by (codes "len")) ((codes "h", Some ty.Bag) ∷ [])).words ≡ Some o.TakeMin ∷ []
  pub len_is : (x : Value) → op_named (codes "len", None) x ≡ Some o.Len
  pub a_number : (n : ℕ) → Of ty.Nat (v.Nat n)
  pub no_number : ¬ Of ty.Nat (v.Bool true)
  pub no_truth : (n : ℕ) → ¬ Of ty.Bool (v.Nat n)
  pub all_of : (xs : List ℕ) → AllOf (ty.Bool ∷ ty.List ∷ []) (v.Bool false ∷ v.List xs ∷ [])
  pub one_too_few : ¬ AllOf (ty.Bool ∷ ty.List ∷ []) (v.Bool false ∷ [])
  pub one_too_many : ¬ AllOf [] (v.Bool false ∷ [])
