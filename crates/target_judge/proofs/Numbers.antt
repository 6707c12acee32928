-- The map's look-up is that of the list.
use Rattle.std.proofs.Common.{◌≡◌, ℕ, Bool, cond, List, [], ◌∷◌, ◌++◌, Some, None, refl, ap, sym, ◌∙◌, Vec, ◌&&◌, is_some}
use Rattle.std.specs.List.{list_all}
use Rattle.std.specs.Str.{bytes_eq}
use Rattle.std.specs.Map as maps
use Rattle.target_judge.specs.Numbers.{Numbers, numbers_of, number_of, tell_at, tell_number, have_numbers}
use Rattle.std.proofs.lemmas.List.{map-append}

pub lookup_of : {A : Type 0} (k : List ℕ) (test : Vec ℕ A → Bool) → ((x : Vec ℕ A) → test x ≡ bytes_eq k x.items) → (es : List (Vec ℕ A × ℕ)) → maps.lookup test es ≡ number_of k (numbers_of es)
lookup_of k test same [] = refl
lookup_of k test same (e ∷ es) =
    ap (λ b. cond b (Some e.1) (maps.lookup test es)) (same e.0) ∙ ap (λ o. cond (bytes_eq k e.0.items) (Some e.1) o) (lookup_of k test same es)

pub told_new : {A : Type 0} (es fs : List (Vec ℕ A × ℕ)) (key : Vec ℕ A) (name : List ℕ) (n : ℕ) → key.items ≡ name → number_of name (numbers_of es) ≡ None → fs ≡ es ++ (key, n) ∷ []
    → Some (numbers_of fs) ≡ tell_number name n (numbers_of es)
unfolding tell_number
told_new {A = A} es fs key name n same none all =
    ap (λ (x : List (Vec ℕ A × ℕ)). Some (numbers_of x)) all
    ∙ ap (λ (x : Numbers). Some x) (map-append (λ (e : Vec ℕ A × ℕ). (e.0.items, e.1)) es ((key, n) ∷ []))
    ∙ ap (λ (x : List ℕ). Some (numbers_of es ++ (x, n) ∷ [])) same
    ∙ ap (λ o. tell_at o name n (numbers_of es)) (sym none)

pub keys_have : {A : Type 0} (ys : Numbers) (es : List (Vec ℕ A × ℕ)) → list_all (λ k. is_some (number_of k.items ys)) (maps.keys_of es) ≡ have_numbers ys (numbers_of es)
keys_have ys [] = refl
keys_have ys (e ∷ es) = ap (λ b. is_some (number_of e.0.items ys) && b) (keys_have ys es)
