-- Registers are looked at from the last to the first, with those behind in a set.
use Rattle.std.proofs.Common.{◌≡◌, ℕ, zero, suc, ◌<◌, nat_eq, not, ◌&&◌, Bool, true, false, List, [], ◌∷◌, length, drop, get_or, refl, ap, ◌∙◌, arith}
use Rattle.std.specs.List.{list_any}
use Rattle.target_code.specs.Reserved.{are_distinct}

-- where some end of a list has a thing twice, so has the list
pub end_twice : (k : ℕ) (xs : List ℕ) → are_distinct nat_eq (drop k xs) ≡ false → are_distinct nat_eq xs ≡ false
end_twice zero xs h = h
end_twice (suc k) [] h = h
end_twice (suc k) (x ∷ xs) h = by_first (not (list_any (nat_eq x) xs)) (end_twice k xs h)
  where
    by_first : (b : Bool) → are_distinct nat_eq xs ≡ false → (b && are_distinct nat_eq xs) ≡ false
    by_first true e = e
    by_first false e = refl

-- one more in front
pub front_more : (k : ℕ) (xs : List ℕ) → k < length xs → drop k xs ≡ get_or xs k 0 ∷ drop (suc k) xs
front_more zero [] h = absurd (omega arith)
front_more (suc k) [] h = absurd (omega arith)
front_more zero (x ∷ xs) h = refl
front_more (suc k) (x ∷ xs) h = front_more k xs (omega arith)

pub again : (k : ℕ) (xs : List ℕ) → k < length xs → list_any (nat_eq (get_or xs k 0)) (drop (suc k) xs) ≡ true → are_distinct nat_eq xs ≡ false
again k xs q e = end_twice k xs (ap (are_distinct nat_eq) (front_more k xs q) ∙ ap (λ b. not b && are_distinct nat_eq (drop (suc k) xs)) e)
