-- What stands behind tests.
use Rattle.std.proofs.Common.{◌≡◌, nat_eq, ◌&&◌, Bool, true, false, List, [], ◌∷◌, length, Option, Some, None, refl, sym, ap, ◌∙◌}
use Rattle.std.proofs.lemmas.Bool.{eqb-true}
use Rattle.nres_rules.specs.Typed.{same_types, when, and_then, is_one, are_these, is_any, only_type, all_apart, pattern_right}
use Rattle.nres_rules.specs.Types.{same_type}
use Rattle.nres_core.specs.declared.place.Named.{Named}
use Rattle.nres_core.specs.declared.ty.Ty.{Ty}
use Rattle.nres_core.specs.declared.ty.Ty.TheVariants as ty

pub some_same : {A : Type 0} {x y : A} → Some x ≡ Some y → x ≡ y
some_same h = cc

pub record Then {A B : Type 0} (o : Option A) (f : A → Option B) (y : B) : Type 0 where
  pub at : A
  pub is : o ≡ Some at
  pub goes : f at ≡ Some y

pub then_is : {A B : Type 0} (o : Option A) (f : A → Option B) (y : B) → and_then o f ≡ Some y → Then o f y
then_is None f y h = absurd (cc)
then_is (Some x) f y h = record { at = x; is = refl; goes = h }

pub record When {A : Type 0} (b : Bool) (x y : A) : Type 0 where
  pub holds : b ≡ true
  pub same : x ≡ y

pub when_is : {A : Type 0} (b : Bool) (x y : A) → when b x ≡ Some y → When b x y
when_is true x y h = record { holds = refl; same = some_same h }
when_is false x y h = absurd (cc)

pub record Both (b c : Bool) : Type 0 where
  pub left : b ≡ true
  pub right : c ≡ true

pub both : (b c : Bool) → (b && c) ≡ true → Both b c
both true c h = record { left = refl; right = h }
both false c h = absurd (cc)

-- two tests that hold
pub and_true : {b c : Bool} → b ≡ true → c ≡ true → (b && c) ≡ true
and_true {b} {c} h k = ap (λ z. z && c) h ∙ k

-- ---- what holds goes on

pub when_true : {A : Type 0} {b : Bool} (x : A) → b ≡ true → when b x ≡ Some x
when_true x h = ap (λ z. when z x) h

pub then_gives : {A B : Type 0} {o : Option A} {x : A} {y : Option B} (f : A → Option B) → o ≡ Some x → f x ≡ y → and_then o f ≡ y
then_gives f h k = ap (λ z. and_then z f) h ∙ k

-- ---- types

pub type_same : (u z : Ty) → same_type u z ≡ true → u ≡ z
type_same ty.Nat ty.Nat h = refl
type_same ty.Bool ty.Bool h = refl
type_same ty.List ty.List h = refl
type_same ty.Set ty.Set h = refl
type_same ty.Map ty.Map h = refl
type_same ty.Bag ty.Bag h = refl
type_same u z h = absurd (cc)

pub type_itself : (u : Ty) → same_type u u ≡ true
type_itself ty.Nat = refl
type_itself ty.Bool = refl
type_itself ty.List = refl
type_itself ty.Set = refl
type_itself ty.Map = refl
type_itself ty.Bag = refl

pub types_same : (us ws : List Ty) → same_types us ws ≡ true → us ≡ ws
types_same [] [] h = refl
types_same [] (w ∷ ws) h = absurd (cc)
types_same (u ∷ us) [] h = absurd (cc)
types_same (u ∷ us) (w ∷ ws) h =
    let two = both (same_type u w) (same_types us ws) h in
    λ i. type_same u w two.left i ∷ types_same us ws two.right i

pub types_themselves : (us : List Ty) → same_types us us ≡ true
types_themselves [] = refl
types_themselves (u ∷ us) = and_true (type_itself u) (types_themselves us)

pub one_is : (u : Ty) (o : Option Ty) → is_one u o ≡ true → o ≡ Some u
one_is u None h = absurd (cc)
one_is u (Some w) h = ap (λ z. Some z) (sym (type_same u w h))

pub these_are : (us : List Ty) (o : Option (List Ty)) → are_these us o ≡ true → o ≡ Some us
these_are us None h = absurd (cc)
these_are us (Some ws) h = ap (λ z. Some z) (sym (types_same us ws h))

pub right_one : {o : Option Ty} (u : Ty) → o ≡ Some u → is_one u o ≡ true
right_one u h = ap (is_one u) h ∙ type_itself u

pub right_these : {o : Option (List Ty)} (us : List Ty) → o ≡ Some us → are_these us o ≡ true
right_these us h = ap (are_these us) h ∙ types_themselves us

pub only_one : (us : List Ty) (u : Ty) → only_type us ≡ Some u → us ≡ u ∷ []
only_one [] u h = absurd (cc)
only_one (w ∷ []) u h = ap (λ z. z ∷ []) (some_same h)
only_one (w ∷ z ∷ us) u h = absurd (cc)

-- ---- patterns

-- some names, as many as there are types
pub record Fits (xs : List Named) (us : List Ty) : Type 0 where
  pub some : is_any xs ≡ true
  pub count : length xs ≡ length us

pub fits : (xs : List Named) (us : List Ty) → pattern_right xs us ≡ true → Fits xs us
fits xs us h =
    let one = both (is_any xs) (all_apart [] xs && nat_eq (length xs) (length us)) h in
    record { some = one.left; count = eqb-true (length xs) (length us) (both (all_apart [] xs) (nat_eq (length xs) (length us)) one.right).right }
