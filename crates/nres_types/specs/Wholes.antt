-- What is told of whole specifications.
use Rattle.std.specs.Prelude.{◌≡◌, Option, Some, None, map}
use Rattle.nres_rules.specs.Types.{Wrong, Unbound, Mismatch, Arity, No_operation, Duplicate, Other_rep, Typed}
use Rattle.nres_core.specs.declared.tree.Typing.{Typing}
use Rattle.nres_types.specs.Findings.{Told}
use Rattle.nres_types.specs.declared.refusal.TypeRefusal.{TypeRefusal}
use Rattle.nres_types.specs.declared.refusal.TypeRefusal.TheVariants as e

abbrev pub typed_told : Typed → Told
typed_told x = record { refusal = x.refusal; binders = x.binders; words = x.words }

-- the refusal is this one, where memory sufficed to tell it
abbrev pub IsTold : TypeRefusal → Option Wrong → Type 0
IsTold (e.Unbound p x) w = w ≡ Some (Unbound p x)
IsTold (e.Mismatch p u v) w = w ≡ Some (Mismatch p u v)
IsTold (e.Arity p n m) w = w ≡ Some (Arity p n m)
IsTold (e.NoOperation p x u) w = w ≡ Some (No_operation p x u)
IsTold (e.Duplicate p x) w = w ≡ Some (Duplicate p x)
IsTold (e.OtherRep p x) w = w ≡ Some (Other_rep p x)
IsTold e.Memory w = Unit {0}

-- nothing is refused, and all types and operations are known
pub record IsTypedBy (x : Told) (u : Typing) : Type 0 where
  pub nothing_refused : x.refusal ≡ None
  pub binders : x.binders ≡ map (λ z. Some z) u.binders
  pub words : x.words ≡ map (λ z. Some z) u.words
