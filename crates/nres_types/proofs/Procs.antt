-- The first procedure of each name is kept.
use Rattle.std.proofs.Common.{◌≡◌, ℕ, ◌<◌, ◌+◌, cond, List, ◌∷◌, length, drop, get_or, Bool, true, false, Option, Some, None, Bor, refl, sym, ap, ◌∙◌, add-one, drop-cons}
use Rattle.std.specs.Option.{is_some}
use Rattle.std.proofs.lemmas.Slice.Eq.{bytes_eq-Decides}
use Rattle.indexmap.specs.IndexMap.{IndexMap, get, get_by, Updates}
use Rattle.nres_core.specs.Tree.{same_name}
use Rattle.nres_rules.specs.Types as t
use Rattle.nres_rules.specs.Types.{profiles, profile_at, param_types, shown_types, some_types}
use Rattle.nres_core.specs.declared.tree.Fun.{Fun}
use Rattle.nres_core.specs.declared.ty.Ty.{Ty}
use Rattle.nres_types.specs.Procedures.{profile_view, known_profile, seen_profile, or_else}
use Rattle.nres_types.specs.declared.profiles.Profile.{Profile}

abbrev same : Bor (List ℕ) → Bor (List ℕ) → Bool
same x y = same_name x.now y.now

abbrev Seen : Type 0
Seen = Option (List Ty × List (Option Ty))

abbrev fun_profile : Fun → List Ty × List (Option Ty)
fun_profile f = (param_types f.params, some_types (shown_types f.shown))

first_known : (b : Bool) (f : Fun) (rest : Option t.Profile) → known_profile (cond b (Some (record { name = f.name; takes = param_types f.params; gives = shown_types f.shown })) rest) ≡ cond b (Some (fun_profile f)) (known_profile rest)
first_known true f rest = refl
first_known false f rest = refl

rest_at : (fs : List Fun) (i : ℕ) (f : Fun) (x : List ℕ) → i < length fs → known_profile (profile_at (profiles (drop i fs)) x) ≡ cond (same_name (get_or fs i f).name x) (Some (fun_profile (get_or fs i f))) (known_profile (profile_at (profiles (drop (i + 1) fs)) x))
rest_at fs i f x lt =
    let step : drop i fs ≡ get_or fs i f ∷ drop (i + 1) fs = rw add-one (drop-cons fs i f lt) in
    ap (λ z. known_profile (profile_at (profiles z) x)) step ∙ first_known (same_name (get_or fs i f).name x) (get_or fs i f) (profile_at (profiles (drop (i + 1) fs)) x)

-- the map finds the same for names of the same bytes
found_same : {S : Type 0} (m : IndexMap (Bor (List ℕ)) Profile S) (n q : Bor (List ℕ)) → same n q ≡ true → get same m q ≡ get same m n
found_same m n q h = ap (λ z. get_by (λ y. same_name z y.now) m) (sym ((bytes_eq-Decides n.now q.now).0 h))

kept : (b : Bool) (o : Seen) (p : List Ty × List (Option Ty)) (rest : Seen) → (b ≡ true → is_some o ≡ true) → or_else o (cond b (Some p) rest) ≡ or_else o rest
kept false o p rest h = refl
kept true None p rest h = let e = h refl in cc
kept true (Some x) p rest h = refl

put : (b : Bool) (o : Seen) (p : List Ty × List (Option Ty)) (rest : Seen) → (b ≡ true → o ≡ None) → or_else o (cond b (Some p) rest) ≡ or_else (cond b (Some p) o) rest
put false o p rest h = refl
put true o p rest h = ap (λ z. or_else z (Some p)) (h refl)

seen_put : (b : Bool) (p : Profile) (o : Option Profile) → seen_profile (cond b (Some p) o) ≡ cond b (Some (profile_view p)) (seen_profile o)
seen_put true p o = refl
seen_put false p o = refl

seen_some : (o : Option Profile) → is_some o ≡ true → is_some (seen_profile o) ≡ true
seen_some None h = h
seen_some (Some p) h = refl

seen_none : (o : Option Profile) → is_some o ≡ false → seen_profile o ≡ None
seen_none None h = refl
seen_none (Some p) h = cc

-- of these procedures, those from a place on are not yet in the map
abbrev pub Left : {S : Type 0} → List Fun → ℕ → IndexMap (Bor (List ℕ)) Profile S → Type 0
Left fs i m = (q : Bor (List ℕ)) → or_else (seen_profile (get same m q)) (known_profile (profile_at (profiles (drop i fs)) q.now)) ≡ known_profile (profile_at (profiles fs) q.now)

pub put_first : {S : Type 0} (fs : List Fun) (i : ℕ) (f : Fun) (m n : IndexMap (Bor (List ℕ)) Profile S) (x : Bor (List ℕ)) (p : Profile) (b : Bool) → i < length fs → f ≡ get_or fs i f → x.now ≡ f.name → b ≡ is_some (get same m x) → b ≡ false → profile_view p ≡ fun_profile f → Updates same m n x (Some p) → Left fs i m → Left fs (i + 1) n
put_first fs i f m n x p b lt is e h k v u left = λ q.
    let rest = known_profile (profile_at (profiles (drop (i + 1) fs)) q.now) in
    let old = seen_profile (get same m q) in
    let name : x.now ≡ (get_or fs i f).name = e ∙ ap (λ z. z.name) is in
    ap (λ o. or_else (seen_profile o) rest) (u.0 q) ∙ ap (λ o. or_else o rest) (seen_put (same x q) p (get same m q))
    ∙ sym (put (same x q) old (profile_view p) rest (λ t. seen_none (get same m q) (ap is_some (found_same m x q t) ∙ sym h ∙ k)))
    ∙ ap (λ z. or_else old (cond (same x q) (Some z) rest)) (v ∙ ap fun_profile is)
    ∙ ap (λ z. or_else old (cond (same_name z q.now) (Some (fun_profile (get_or fs i f))) rest)) name
    ∙ sym (ap (or_else old) (rest_at fs i f q.now lt)) ∙ left q

pub put_later : {S : Type 0} (fs : List Fun) (i : ℕ) (f : Fun) (m : IndexMap (Bor (List ℕ)) Profile S) (x : Bor (List ℕ)) (b : Bool) → i < length fs → f ≡ get_or fs i f → x.now ≡ f.name → b ≡ is_some (get same m x) → b ≡ true → Left fs i m → Left fs (i + 1) m
put_later fs i f m x b lt is e h k left = λ q.
    let rest = known_profile (profile_at (profiles (drop (i + 1) fs)) q.now) in
    let old = seen_profile (get same m q) in
    let name : x.now ≡ (get_or fs i f).name = e ∙ ap (λ z. z.name) is in
    sym (kept (same x q) old (fun_profile (get_or fs i f)) rest (λ t. seen_some (get same m q) (ap is_some (found_same m x q t) ∙ sym h ∙ k)))
    ∙ ap (λ z. or_else old (cond (same_name z q.now) (Some (fun_profile (get_or fs i f))) rest)) name
    ∙ sym (ap (or_else old) (rest_at fs i f q.now lt)) ∙ left q
