-- Lists of types, one element after the other.
use Rattle.std.proofs.Common.{◌≡◌, ℕ, zero, suc, ◌<◌, ◌≤◌, ◌+◌, List, [], ◌∷◌, ◌++◌, length, drop, get_or, slice_get, slice_set, Option, refl, sym, ap, ◌∙◌, arith, add-one, append_assoc, append-nil}
use Rattle.std.proofs.lemmas.List.{drop_all}
use Rattle.nres_rules.specs.Types.{Heads, types_for, types_of, tail_of}
use Rattle.nres_core.specs.declared.place.Named.{Named}
use Rattle.nres_core.specs.declared.place.Place.{Place}
use Rattle.nres_core.specs.declared.ty.Ty.{Ty}
use Rattle.nres_types.specs.Findings.{Told, bound_all, with_binders, set_from}
use Rattle.scopes.specs.Logs.{at_last}

pub length_types_for : (xs : List Named) (us : List (Option Ty)) → length (types_for xs us) ≡ length xs
length_types_for [] us = refl
length_types_for (x ∷ xs) [] = ap suc (length_types_for xs [])
length_types_for (x ∷ xs) (u ∷ us) = ap suc (length_types_for xs us)

next_type : (xs : List Named) (us : List (Option Ty)) (i : ℕ) → i < length xs → drop i (types_for xs us) ≡ at_last (slice_get us i) ∷ drop (suc i) (types_for xs us)
next_type [] us i lt = absurd (omega arith)
next_type (x ∷ xs) [] zero lt = refl
next_type (x ∷ xs) (u ∷ us) zero lt = refl
next_type (x ∷ xs) [] (suc i) lt = let less : i < length xs = omega arith in next_type xs [] i less
next_type (x ∷ xs) (u ∷ us) (suc i) lt = let less : i < length xs = omega arith in next_type xs us i less

type_step : (xs : List Named) (us : List (Option Ty)) (i : ℕ) → i < length xs → drop i (types_for xs us) ≡ at_last (slice_get us i) ∷ drop (i + 1) (types_for xs us)
type_step xs us i lt = rw add-one (next_type xs us i lt)

-- the types of names are added
pub binders_more : (start : Told) (now : Told) (bs : List (Option Ty)) (xs : List Named) (us : List (Option Ty)) (i : ℕ) (u : Option Ty) → i < length xs → u ≡ at_last (slice_get us i) → bs ≡ now.binders ++ u ∷ [] → bound_all start (types_for xs us) ≡ bound_all now (drop i (types_for xs us)) → bound_all start (types_for xs us) ≡ bound_all (record now { binders = bs }) (drop (i + 1) (types_for xs us))
binders_more start now bs xs us i u lt e f h =
    let rest = drop (i + 1) (types_for xs us) in
    h ∙ ap (bound_all now) (type_step xs us i lt ∙ ap (λ z. z ∷ rest) (sym e))
    ∙ ap (λ z. record now { binders = z }) (sym (append_assoc now.binders (u ∷ []) rest) ∙ ap (λ z. z ++ rest) (sym f))

pub binders_done : (start now : Told) (xs : List Named) (us : List (Option Ty)) (i : ℕ) → length xs ≤ i → bound_all start (types_for xs us) ≡ bound_all now (drop i (types_for xs us)) → now ≡ bound_all start (types_for xs us)
binders_done start now xs us i le h =
    let short : length (types_for xs us) ≤ i = omega (arith, length_types_for xs us) in
    sym (h ∙ ap (bound_all now) (drop_all i (types_for xs us) short) ∙ ap (λ z. record now { binders = z }) (append-nil now.binders))

-- the types of names are set
pub set_more : (start now : Told) (k i : ℕ) (xs : List Named) (us : List (Option Ty)) (u : Option Ty) → i < length xs → u ≡ at_last (slice_get us i) → with_binders start k (types_for xs us) ≡ with_binders now (k + i) (drop i (types_for xs us)) → with_binders start k (types_for xs us) ≡ with_binders (record now { binders = slice_set now.binders (k + i) u }) (k + (i + 1)) (drop (i + 1) (types_for xs us))
set_more start now k i xs us u lt e h =
    let rest = drop (i + 1) (types_for xs us) in
    let at : suc (k + i) ≡ k + (i + 1) = omega arith in
    h ∙ ap (with_binders now (k + i)) (type_step xs us i lt ∙ ap (λ z. z ∷ rest) (sym e))
    ∙ ap (λ z. record now { binders = set_from (slice_set now.binders (k + i) u) z rest }) at

pub set_done : (start now : Told) (k i : ℕ) (xs : List Named) (us : List (Option Ty)) → length xs ≤ i → with_binders start k (types_for xs us) ≡ with_binders now (k + i) (drop i (types_for xs us)) → now ≡ with_binders start k (types_for xs us)
set_done start now k i xs us le h =
    let short : length (types_for xs us) ≤ i = omega (arith, length_types_for xs us) in
    sym (h ∙ ap (with_binders now (k + i)) (drop_all i (types_for xs us) short))

-- ---- the types of expressions

pub length_types_of : (hs : Heads) → length (types_of hs) ≡ length hs
length_types_of [] = refl
length_types_of (h ∷ hs) = ap suc (length_types_of hs)

next_head : (hs : Heads) (i : ℕ) (d : Place × Option Ty) → i < length hs → drop i (types_of hs) ≡ (get_or hs i d).1 ∷ drop (suc i) (types_of hs)
next_head [] i d lt = absurd (omega arith)
next_head (h ∷ hs) zero d lt = refl
next_head (h ∷ hs) (suc i) d lt = let less : i < length hs = omega arith in next_head hs i d less

pub heads_more : (start now next : List (Option Ty)) (hs : Heads) (i k : ℕ) (d : Place × Option Ty) → i < length hs → next ≡ now ++ (get_or hs i d).1 ∷ [] → start ++ drop k (types_of hs) ≡ now ++ drop i (types_of hs) → start ++ drop k (types_of hs) ≡ next ++ drop (i + 1) (types_of hs)
heads_more start now next hs i k d lt e h =
    let step : drop i (types_of hs) ≡ (get_or hs i d).1 ∷ drop (i + 1) (types_of hs) = rw add-one (next_head hs i d lt) in
    h ∙ ap (λ z. now ++ z) step ∙ sym (append_assoc now ((get_or hs i d).1 ∷ []) (drop (i + 1) (types_of hs))) ∙ ap (λ z. z ++ drop (i + 1) (types_of hs)) (sym e)

pub heads_done : (start now : List (Option Ty)) (hs : Heads) (i k : ℕ) → length hs ≤ i → start ++ drop k (types_of hs) ≡ now ++ drop i (types_of hs) → now ≡ start ++ drop k (types_of hs)
heads_done start now hs i k le h =
    let short : length (types_of hs) ≤ i = omega (arith, length_types_of hs) in
    sym (h ∙ ap (λ z. now ++ z) (drop_all i (types_of hs) short) ∙ append-nil now)

pub tail_dropped : (us : List (Option Ty)) → tail_of us ≡ drop 1 us
tail_dropped [] = refl
tail_dropped (u ∷ us) = refl
