-- The types of several expressions, one after the other.
use Rattle.std.proofs.Common.{◌⊎◌, inl, inr, ◌≡◌, ℕ, ◌<◌, ◌≤◌, ◌+◌, min, List, [], ◌∷◌, length, drop, get_or, Option, None, refl, sym, ap, ◌∙◌, arith, add-one, drop-cons}
use Rattle.std.proofs.lemmas.List.{drop_all}
use Rattle.nres_rules.specs.Types.{Wrong, Heads, least, wants, wants_known, all_want, all_want_known}
use Rattle.nres_core.specs.declared.place.Place.{Place}
use Rattle.nres_core.specs.declared.ty.Ty.{Ty}
use Rattle.nres_types.specs.Findings.{Told, noted}
use Rattle.nres_types.proofs.Joins.{noted_none, noted_twice}

dropped : {A : Type 0} (xs : List A) (i : ℕ) (d : A) → i < length xs → drop i xs ≡ get_or xs i d ∷ drop (i + 1) xs
dropped xs i d lt = rw add-one (drop-cons xs i d lt)

want_step : (hs : Heads) (us : List Ty) (i : ℕ) (h : Place × Option Ty) (u : Ty) → i < length hs → i < length us → all_want (drop i hs) (drop i us) ≡ least (wants (get_or hs i h).0 (get_or us i u) (get_or hs i h).1) (all_want (drop (i + 1) hs) (drop (i + 1) us))
want_step hs us i h u l m = ap (λ z. all_want z (drop i us)) (dropped hs i h l) ∙ ap (λ z. all_want (get_or hs i h ∷ drop (i + 1) hs) z) (dropped us i u m)

known_step : (hs : Heads) (us : List (Option Ty)) (i : ℕ) (h : Place × Option Ty) (u : Option Ty) → i < length hs → i < length us → all_want_known (drop i hs) (drop i us) ≡ least (wants_known (get_or hs i h).0 (get_or us i u) (get_or hs i h).1) (all_want_known (drop (i + 1) hs) (drop (i + 1) us))
known_step hs us i h u l m = ap (λ z. all_want_known z (drop i us)) (dropped hs i h l) ∙ ap (λ z. all_want_known (get_or hs i h ∷ drop (i + 1) hs) z) (dropped us i u m)

want_nothing : (hs : Heads) → all_want hs [] ≡ None
want_nothing [] = refl
want_nothing (h ∷ hs) = refl

known_nothing : (hs : Heads) → all_want_known hs [] ≡ None
known_nothing [] = refl
known_nothing (h ∷ hs) = refl

want_end : (hs : Heads) (us : List Ty) (i : ℕ) → (length hs ≤ i) ⊎ (length us ≤ i) → all_want (drop i hs) (drop i us) ≡ None
want_end hs us i (inl le) = ap (λ z. all_want z (drop i us)) (drop_all i hs le)
want_end hs us i (inr le) = ap (λ z. all_want (drop i hs) z) (drop_all i us le) ∙ want_nothing (drop i hs)

known_end : (hs : Heads) (us : List (Option Ty)) (i : ℕ) → (length hs ≤ i) ⊎ (length us ≤ i) → all_want_known (drop i hs) (drop i us) ≡ None
known_end hs us i (inl le) = ap (λ z. all_want_known z (drop i us)) (drop_all i hs le)
known_end hs us i (inr le) = ap (λ z. all_want_known (drop i hs) z) (drop_all i us le) ∙ known_nothing (drop i hs)

-- one more of a list of faults is noted
note_more : (all now next : Told) (w rest more : Option Wrong) → all ≡ noted now rest → next ≡ noted now w → rest ≡ least w more → all ≡ noted next more
note_more all now next w rest more h k e = h ∙ ap (λ z. noted now z) e ∙ sym (noted_twice now w more) ∙ sym (ap (λ z. noted z more) k)

note_last : (all now : Told) (rest : Option Wrong) → all ≡ noted now rest → rest ≡ None → now ≡ all
note_last all now rest h e = sym (h ∙ ap (λ z. noted now z) e ∙ noted_none now)

shorter : (m n k i : ℕ) → k ≡ min m n → k ≤ i → (m ≤ i) ⊎ (n ≤ i)
shorter m n k i e h = grind arith

pub want_more : (all now next : Told) (hs : Heads) (us : List Ty) (i k : ℕ) (h : Place × Option Ty) (u : Ty) → k ≡ min (length hs) (length us) → i < k → all ≡ noted now (all_want (drop i hs) (drop i us)) → next ≡ noted now (wants (get_or hs i h).0 (get_or us i u) (get_or hs i h).1) → all ≡ noted next (all_want (drop (i + 1) hs) (drop (i + 1) us))
want_more all now next hs us i k h u e lt a b =
    let l : i < length hs = omega arith in
    let m : i < length us = omega arith in
    note_more all now next (wants (get_or hs i h).0 (get_or us i u) (get_or hs i h).1) (all_want (drop i hs) (drop i us)) (all_want (drop (i + 1) hs) (drop (i + 1) us)) a b (want_step hs us i h u l m)

pub want_last : (all now : Told) (hs : Heads) (us : List Ty) (i k : ℕ) → k ≡ min (length hs) (length us) → k ≤ i → all ≡ noted now (all_want (drop i hs) (drop i us)) → now ≡ all
want_last all now hs us i k e le a = note_last all now (all_want (drop i hs) (drop i us)) a (want_end hs us i (shorter (length hs) (length us) k i e le))

pub known_more : (all now next : Told) (hs : Heads) (us : List (Option Ty)) (i k : ℕ) (h : Place × Option Ty) (u : Option Ty) → k ≡ min (length hs) (length us) → i < k → all ≡ noted now (all_want_known (drop i hs) (drop i us)) → next ≡ noted now (wants_known (get_or hs i h).0 (get_or us i u) (get_or hs i h).1) → all ≡ noted next (all_want_known (drop (i + 1) hs) (drop (i + 1) us))
known_more all now next hs us i k h u e lt a b =
    let l : i < length hs = omega arith in
    let m : i < length us = omega arith in
    note_more all now next (wants_known (get_or hs i h).0 (get_or us i u) (get_or hs i h).1) (all_want_known (drop i hs) (drop i us)) (all_want_known (drop (i + 1) hs) (drop (i + 1) us)) a b (known_step hs us i h u l m)

pub known_last : (all now : Told) (hs : Heads) (us : List (Option Ty)) (i k : ℕ) → k ≡ min (length hs) (length us) → k ≤ i → all ≡ noted now (all_want_known (drop i hs) (drop i us)) → now ≡ all
known_last all now hs us i k e le a = note_last all now (all_want_known (drop i hs) (drop i us)) a (known_end hs us i (shorter (length hs) (length us) k i e le))
