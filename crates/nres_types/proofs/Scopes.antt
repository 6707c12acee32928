-- The names of a pattern are bound one by one.
use Rattle.std.proofs.Common.{◌⊎◌, inl, inr, slice_get, ◌≡◌, ℕ, ◌<◌, ◌≤◌, ◌+◌, List, [], ◌∷◌, length, drop, get_or, Option, Some, None, sym, ap, ◌∙◌, arith, add-one, drop-cons}
use Rattle.std.proofs.lemmas.List.{drop_all}
use Rattle.std.proofs.lemmas.Option.{slice_get-get_or, slice_get_past}
use Rattle.nres_rules.specs.Types.{Names, with_types}
use Rattle.nres_core.specs.declared.place.Named.{Named}
use Rattle.nres_core.specs.declared.ty.Ty.{Ty}
use Rattle.scopes.specs.Logs.{at_last}

-- the next name of a pattern
with_one : (xs : List Named) (us vs : List (Option Ty)) (u : Option Ty) (x : Named) (s : Names) → us ≡ u ∷ vs → with_types (x ∷ xs) us s ≡ with_types xs vs ((x.name, u) ∷ s)
with_one xs us vs u x s h = ap (λ z. with_types (x ∷ xs) z s) h

with_none : (xs : List Named) (us vs : List (Option Ty)) (x : Named) (s : Names) → us ≡ [] → vs ≡ [] → with_types (x ∷ xs) us s ≡ with_types xs vs ((x.name, None) ∷ s)
with_none xs us vs x s h k = ap (λ z. with_types (x ∷ xs) z s) h ∙ ap (λ z. with_types xs z ((x.name, None) ∷ s)) (sym k)

dropped : {A : Type 0} (xs : List A) (i : ℕ) (d : A) → i < length xs → drop i xs ≡ get_or xs i d ∷ drop (i + 1) xs
dropped xs i d lt = rw add-one (drop-cons xs i d lt)

with_inside : (xs : List Named) (us : List (Option Ty)) (s : Names) (i : ℕ) (x : Named) → i < length us → with_types (x ∷ xs) (drop i us) s ≡ with_types xs (drop (i + 1) us) ((x.name, at_last (slice_get us i)) ∷ s)
with_inside xs us s i x m =
    with_one xs (drop i us) (drop (i + 1) us) (get_or us i None) x s (dropped us i None m)
    ∙ ap (λ z. with_types xs (drop (i + 1) us) ((x.name, z) ∷ s)) (sym (ap at_last (slice_get-get_or us i None m)))

with_outside : (xs : List Named) (us : List (Option Ty)) (s : Names) (i : ℕ) (x : Named) → length us ≤ i → with_types (x ∷ xs) (drop i us) s ≡ with_types xs (drop (i + 1) us) ((x.name, at_last (slice_get us i)) ∷ s)
with_outside xs us s i x m =
    with_none xs (drop i us) (drop (i + 1) us) x s (drop_all i us m) (drop_all (i + 1) us (omega arith))
    ∙ ap (λ z. with_types xs (drop (i + 1) us) ((x.name, z) ∷ s)) (sym (ap at_last (slice_get_past us i m)))

with_either : (xs : List Named) (us : List (Option Ty)) (s : Names) (i : ℕ) (x : Named) → (i < length us) ⊎ (length us ≤ i) → with_types (x ∷ xs) (drop i us) s ≡ with_types xs (drop (i + 1) us) ((x.name, at_last (slice_get us i)) ∷ s)
with_either xs us s i x (inl m) = with_inside xs us s i x m
with_either xs us s i x (inr m) = with_outside xs us s i x m

lt_or_le : (i n : ℕ) → (i < n) ⊎ (n ≤ i)
lt_or_le i n = grind arith

pub with_step : (xs : List Named) (us : List (Option Ty)) (s : Names) (i : ℕ) (d : Named) → i < length xs → with_types (drop i xs) (drop i us) s ≡ with_types (drop (i + 1) xs) (drop (i + 1) us) (((get_or xs i d).name, at_last (slice_get us i)) ∷ s)
with_step xs us s i d lt = ap (λ z. with_types z (drop i us) s) (dropped xs i d lt) ∙ with_either (drop (i + 1) xs) us s i (get_or xs i d) (lt_or_le i (length us))

pub with_more : (all now next : Names) (xs : List Named) (us : List (Option Ty)) (i : ℕ) (d : Named) (x : List ℕ) (u : Option Ty) → i < length xs → all ≡ with_types (drop i xs) (drop i us) now → x ≡ (get_or xs i d).name → u ≡ at_last (slice_get us i) → next ≡ (x, u) ∷ now → all ≡ with_types (drop (i + 1) xs) (drop (i + 1) us) next
with_more all now next xs us i d x u lt h e f k =
    h ∙ with_step xs us now i d lt ∙ ap (λ z. with_types (drop (i + 1) xs) (drop (i + 1) us) ((z, at_last (slice_get us i)) ∷ now)) (sym e)
    ∙ ap (λ z. with_types (drop (i + 1) xs) (drop (i + 1) us) ((x, z) ∷ now)) (sym f) ∙ ap (λ z. with_types (drop (i + 1) xs) (drop (i + 1) us) z) (sym k)
