-- Where the values behind a program begin.
use Rattle.std.proofs.Common.{◌≡◌, ℕ, ◌+◌, ◌≤◌, Bool, true, false, ◌&&◌, if◌then◌else◌, nat_eq, List, [], ◌∷◌, take, drop, length, Result, Ok, Err, ◌≢◌, refl, ap, ◌∙◌, sym, subst}
use Rattle.nres_core.specs.declared.place.Place.{Place}
use Rattle.nres_automaton.specs.declared.refusal.SyntaxRefusal.{SyntaxRefusal}
use Rattle.nres_automaton.specs.declared.refusal.SyntaxRefusal.TheVariants as refusal
use Rattle.execution_input.specs.Executions.{begins_values, feeds, front_of, rest_of}

-- so many bytes of the front and their line feeds are counted; the truth value says whether a line begins behind them
pub record Walked (text : List ℕ) (end line : ℕ) (begins : Bool) : Type 0 where
  pub within : end ≤ length text
  pub front : end + length (front_of begins (drop end text)) ≡ length (front_of true text)
  pub feeds_are : line + feeds (front_of begins (drop end text)) ≡ 1 + feeds (front_of true text)
  pub small : line ≤ end + 1

-- the front stands at the front

front_by : (t : Bool) (b : ℕ) (bs z : List ℕ) → take (length z) bs ≡ z → take (length (if t then [] else b ∷ z)) (b ∷ bs) ≡ (if t then [] else b ∷ z)
front_by true b bs z e = refl
front_by false b bs z e = ap (λ l. b ∷ l) e

front_stands : (begins : Bool) (text : List ℕ) → take (length (front_of begins text)) text ≡ front_of begins text
front_stands begins [] = refl
front_stands begins (b ∷ bs) = front_by (begins && begins_values (b ∷ bs)) b bs (front_of (nat_eq b 10) bs) (front_stands (nat_eq b 10) bs)

pub is_front : (text front : List ℕ) (n : ℕ) → front ≡ take n text → n ≡ length (front_of true text) → front ≡ front_of true text
is_front text front n e f = e ∙ ap (λ k. take k text) f ∙ front_stands true text

pub is_rest : (text rest : List ℕ) (n : ℕ) → rest ≡ drop n text → n ≡ length (front_of true text) → rest ≡ rest_of text
is_rest text rest n e f = e ∙ ap (λ k. drop k text) f

-- what holds of a line and a rest holds of what they are
pub at_values : (P : ℕ → List ℕ → Type 0) (n m : ℕ) (r s : List ℕ) → n ≡ m → r ≡ s → P n r → P m s
at_values P n m r s e f h = subst (λ k. P k s) e (subst (λ l. P n l) f h)

-- what is refused has no values
pub none_read : {A : Type 0} (r : Result A SyntaxRefusal) (q : Place) (x : A) → r ≡ Err (refusal.At q) → (r ≢ Err refusal.Memory → r ≡ Ok x) → ⊥
none_read r q x e only =
    let f : r ≡ Ok x = only (λ i. let g : Err (refusal.At q) ≡ Err refusal.Memory = sym e ∙ i in cc) in
    let g : Err (refusal.At q) ≡ Ok x = sym e ∙ f in
    cc
