-- Outcomes of operations that choose or that may fail, and containers with an element less.
use Rattle.std.proofs.Common.{◌≡◌, ℕ, zero, suc, ◌-◌, ◌^◌, ◌<◌, Bool, true, false, List, [], ◌∷◌, length, refl, sym, ap, ◌∙◌, subst, arith, eq-eqb, lt-ltb, eqb}
use Rattle.std.proofs.lemmas.Bool.{cond-true, cond_both}
use Rattle.std.proofs.lemmas.List.Sorted.{IsPermutation-refl}
use Rattle.std.proofs.lemmas.Map.Views.{Contains-from_any}
use Rattle.std.specs.Cmp.{nat_cmp_total}
use Rattle.std.specs.FinMap as maps
use Rattle.std.specs.FinSet.{len-remove}
use Rattle.std.specs.List.{Contains}
use Rattle.std.specs.List.Sorted.{IsPermutation}
use Rattle.std.specs.Ordering.{nat_cmp, eq_by_cmp}
use Rattle.std.specs.Prelude.{slice_index, nat_lt, ◌||◌, Option, Some, None}
use Rattle.sequences.specs.Keys as keys
use Rattle.containers.specs.Sets as sets
use Rattle.containers.proofs.SetItems.{contains-items}
use Rattle.nres_core.specs.Ops.{one_of, in_some_order, found}
use Rattle.nres_core.specs.Runs.{Gives, Fails}
use Rattle.nres_core.specs.declared.value.Value.TheVariants as v
use Rattle.relations.specs.Represents.{Set, Map, IsSmall}
use Rattle.relations.proofs.Tables.{is_equal}

-- ---- outcomes with a choice

pub pick_some : (xs : List ℕ) → ¬ Fails (one_of xs) → (x : ℕ) × (keys.has x xs ≡ true)
pick_some [] ok = absurd (ok tt)
pick_some (x ∷ xs) ok = (x, ap (λ b. b || keys.has x xs) (eq-eqb x x refl))

pub gives_one : (xs : List ℕ) (y : ℕ) → Contains xs y → Gives (one_of xs) (v.Nat y ∷ [])
gives_one [] y c = absurd (let f : ⊥ = omega (arith, c.1) in f)
gives_one (x ∷ xs) y c = (v.Nat y, c, refl)

pub gives_any_order : (xs ys : List ℕ) → IsPermutation xs ys → length xs < 2 ^ 32 → Gives (in_some_order xs) (v.List ys ∷ [])
gives_any_order xs ys same lt =
    subst (λ y. Gives y (v.List ys ∷ [])) (sym (cond-true (nat_lt (length xs) (2 ^ 32)) _ _ (lt-ltb (length xs) (2 ^ 32) lt))) (v.List ys, same, refl)

pub gives_order : (xs : List ℕ) → length xs < 2 ^ 32 → Gives (in_some_order xs) (v.List xs ∷ [])
gives_order xs lt = gives_any_order xs xs (IsPermutation-refl xs) lt

pub is_item : (s : Set) (x : ℕ) → sets.contains s x ≡ true → Contains (sets.items s) x
is_item s x e = Contains-from_any {eq = eq_by_cmp nat_cmp} is_equal x (sets.items s) (sym (contains-items s x) ∙ e)

pub fewer_elements : (s : Set) (x : ℕ) → IsSmall (sets.len s) → IsSmall (sets.len (sets.remove s x))
fewer_elements s x small =
    subst (λ z. z < 2 ^ 32) (sym (len-remove nat_cmp_total s x))
    (cond_both (sets.contains s x) (sets.len s - 1) (sets.len s) (λ z. z < 2 ^ 32) (λ e. omega (arith, small)) (λ e. small))

pub contains_at : (xs : List ℕ) (i : ℕ) → i < length xs → keys.has (slice_index xs i) xs ≡ true
contains_at [] i lt = absurd (let f : ⊥ = omega (arith, lt) in f)
contains_at (x ∷ xs) zero lt = ap (λ b. b || keys.has x xs) (eq-eqb x x refl)
contains_at (x ∷ xs) (suc i) lt = or_on (eqb (slice_index xs i) x) (keys.has (slice_index xs i) xs) (contains_at xs i (omega (arith, lt)))
  where
    or_on : (a b : Bool) → b ≡ true → (a || b) ≡ true
    or_on true b e = refl
    or_on false b e = e

pub some_found : (x : Option ℕ) → ¬ Fails (found x) → (y : ℕ) × (x ≡ Some y)
some_found None ok = absurd (ok tt)
some_found (Some y) ok = (y, refl)

pub fewer_keys : (m : Map) (x : ℕ) → IsSmall (maps.len m) → IsSmall (maps.len (maps.remove m x))
fewer_keys m x small =
    subst (λ z. z < 2 ^ 32) (sym (maps.len-remove nat_cmp_total m x))
    (cond_both (maps.contains_key m x) (maps.len m - 1) (maps.len m) (λ z. z < 2 ^ 32) (λ e. omega (arith, small)) (λ e. small))
