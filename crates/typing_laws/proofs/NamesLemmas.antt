-- Lists of names.
use Rattle.std.specs.Cmp.Lexicographic.{same_text}
use Rattle.std.proofs.Common.{◌≡◌, ℕ, suc, ◌+◌, not, Bool, true, false, List, [], ◌∷◌, ◌++◌, length, length-append, refl, sym, ap, ◌∙◌, subst, arith}
use Rattle.target_code.specs.Names.{is_name}
use Rattle.target_code.specs.Reserved.{is_reserved}
use Rattle.nres_core.specs.Mirror.{named_params}
use Rattle.nres_core.specs.Tree.{same_name}
use Rattle.nres_core.specs.Vocabulary.{is_free_name}
use Rattle.nres_rules.specs.FlatTyped.{all_names}
use Rattle.nres_rules.specs.Flatten.{names_of, first_name, beyond}
use Rattle.nres_rules.specs.Typed.{all_free}
use Rattle.nres_rules.specs.Types.{param_types}
use Rattle.nres_core.specs.declared.place.Named.{Named}
use Rattle.nres_core.specs.declared.tree.Param.{Param}
use Rattle.typing_laws.proofs.TypedLemmas.{Both, both, and_true}

-- ---- names that are joined

pub joined : (xs ys : List (List ℕ)) → all_names xs ≡ true → all_names ys ≡ true → all_names (xs ++ ys) ≡ true
joined [] ys h k = k
joined (x ∷ xs) ys h k = let two = both (is_name x) (all_names xs) h in and_true two.left (joined xs ys two.right k)

pub apart : (xs ys : List (List ℕ)) → all_names (xs ++ ys) ≡ true → Both (all_names xs) (all_names ys)
apart [] ys h = record { left = refl; right = h }
apart (x ∷ xs) ys h =
    let two = both (is_name x) (all_names (xs ++ ys)) h in
    let rest = apart xs ys two.right in
    record { left = and_true two.left rest.left; right = rest.right }

-- one name behind others
pub then_one : (xs : List (List ℕ)) (x : List ℕ) → all_names xs ≡ true → is_name x ≡ true → all_names (xs ++ x ∷ []) ≡ true
then_one xs x h k = joined xs (x ∷ []) h (and_true k refl)

pub first_named : (xs : List Named) → all_names (names_of xs) ≡ true → is_name (first_name xs) ≡ true
first_named [] h = refl
first_named (x ∷ xs) h = (both (is_name x.name) (all_names (names_of xs)) h).left

-- free names are names
pub free_named : (xs : List Named) → all_free xs ≡ true → all_names (names_of xs) ≡ true
free_named [] h = refl
free_named (x ∷ xs) h =
    let two = both (is_free_name x.name) (all_free xs) h in
    and_true (both (is_name x.name) (not (is_reserved x.name)) two.left).left (free_named xs two.right)

-- ---- how many there are

pub names_length : (xs : List Named) → length (names_of xs) ≡ length xs
names_length [] = refl
names_length (x ∷ xs) = ap suc (names_length xs)

pub names_append : (xs ys : List (List ℕ)) → length (xs ++ ys) ≡ length xs + length ys
names_append xs ys = length-append xs ys

pub beyond_is : (xs : List Named) (k : ℕ) → beyond xs k ≡ k + length xs
beyond_is [] k = omega arith
beyond_is (x ∷ xs) k = omega (arith, beyond_is xs (suc k))

-- parameters have so many names, and so many types
pub named_length : (xs : List Param) → length (named_params xs) ≡ length xs
named_length [] = refl
named_length (x ∷ xs) = ap suc (named_length xs)

pub params_length : (xs : List Param) → length (named_params xs) ≡ length (param_types xs)
params_length [] = refl
params_length (x ∷ xs) = ap suc (params_length xs)

-- ---- one name and another

same_turned : (x y : List ℕ) → same_name x y ≡ true → same_name y x ≡ true
same_turned x y e =
    let one : x ≡ y = same_text x y (sym e) in
    subst (λ z. same_name y z ≡ true) (sym one) (subst (λ z. same_name z y ≡ true) one e)

pub name_turned : (x y : List ℕ) → same_name x y ≡ same_name y x
name_turned x y = pick (same_name x y) (same_name y x) refl refl
  where
    pick : (b c : Bool) → same_name x y ≡ b → same_name y x ≡ c → same_name x y ≡ same_name y x
    pick true c e k = e ∙ sym (same_turned x y e)
    pick false true e k = same_turned y x k ∙ sym k
    pick false false e k = e ∙ sym k
