-- What a specification's typing says of the answer.
use Rattle.std.specs.Result.{IfOk, IfErr}
use Rattle.std.proofs.Common.{◌≡◌, ◌≢◌, Result, Ok, Err, List, [], ◌∷◌, map, Option, Some, None, refl, sym, ap, ◌∙◌}
use Rattle.nres_rules.specs.Types.{Wrong, HasTyping, spec_type}
use Rattle.nres_core.specs.declared.tree.Spec.{Spec}
use Rattle.nres_core.specs.declared.tree.Typing.{Typing}
use Rattle.nres_types.specs.Findings.{Told}
use Rattle.nres_types.specs.Wholes.{typed_told, IsTold, IsTypedBy}
use Rattle.nres_types.specs.declared.refusal.TypeRefusal.{TypeRefusal}
use Rattle.nres_types.specs.declared.refusal.TypeRefusal.TheVariants as e

all_same : {A : Type 0} (xs ys : List A) → map (λ x. Some x) xs ≡ map (λ y. Some y) ys → xs ≡ ys
all_same [] [] h = refl
all_same [] (y ∷ ys) h = cc
all_same (x ∷ xs) [] h = cc
all_same (x ∷ xs) (y ∷ ys) h =
    let one : x ≡ y = cc in
    let others : map (λ z. Some z) xs ≡ map (λ z. Some z) ys = cc in
    ap (λ z. z ∷ xs) one ∙ ap (λ z. y ∷ z) (all_same xs ys others)

no_refusal : (x : TypeRefusal) → IsTold x None → x ≡ e.Memory
no_refusal (e.Unbound p x) h = cc
no_refusal (e.Mismatch p u v) h = cc
no_refusal (e.Arity p n m) h = cc
no_refusal (e.NoOperation p x u) h = cc
no_refusal (e.Duplicate p x) h = cc
no_refusal (e.OtherRep p x) h = cc
no_refusal e.Memory h = refl

told_none : (x : TypeRefusal) (w : Option Wrong) → w ≡ None → IsTold x w → x ≡ e.Memory
told_none x None h k = no_refusal x k
told_none x (Some w) h k = cc

pub only_typed : (res : Result Typing TypeRefusal) (p : Spec) (told : Told) → told ≡ typed_told (spec_type p) → IfOk res (λ u. IsTypedBy told u) → IfErr res (λ x. IsTold x told.refusal) → (u : Typing) → HasTyping p u → res ≢ Err e.Memory → res ≡ Ok u
only_typed (Ok v) p told is typed refused u has ne =
    let binders : v.binders ≡ u.binders = all_same v.binders u.binders (sym typed.binders ∙ ap (λ z. z.binders) is ∙ has.binders) in
    let words : v.words ≡ u.words = all_same v.words u.words (sym typed.words ∙ ap (λ z. z.words) is ∙ has.words) in
    ap (λ z. Ok (record { binders = z; words = v.words })) binders ∙ ap (λ z. Ok (record { binders = u.binders; words = z })) words
only_typed (Err x) p told is typed refused u has ne =
    absurd (ne (ap Err (told_none x told.refusal (ap (λ z. z.refusal) is ∙ has.nothing_refused) refused)))
