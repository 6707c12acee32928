-- Changes and parts of a list l ++ x ∷ r past the item x.
use Rattle.std.proofs.Common.{◌≡◌, ℕ, zero, suc, ◌+◌, ◌-◌, ◌<◌, List, [], ◌∷◌, ◌++◌, length, set, insert, remove, take, drop, replicate, Result, IfOk, refl, ap, ◌∙◌, subst, arith}
use Rattle.std.proofs.lemmas.List.{set-append_right}
use Rattle.std.proofs.lemmas.List.Edits.{insert-append_right, remove-append_right}

pub set-after : {T : Type 0} (l : List T) (x : T) (r : List T) (n i : ℕ) (y : T) → length l ≡ n → n < i → set (l ++ x ∷ r) i y ≡ l ++ x ∷ set r (i - n - 1) y
set-after l x r n i y e h =
    let next : i - n ≡ suc (i - n - 1) = omega arith in
    set-append_right l (x ∷ r) n i y e (omega arith) ∙ ap (λ k. l ++ set (x ∷ r) k y) next

pub insert-after : {T : Type 0} (l : List T) (x : T) (r : List T) (n i : ℕ) (y : T) → length l ≡ n → n < i → insert (l ++ x ∷ r) i y ≡ l ++ x ∷ insert r (i - n - 1) y
insert-after l x r n i y e h =
    let next : i - n ≡ suc (i - n - 1) = omega arith in
    insert-append_right l (x ∷ r) n i y e (omega arith) ∙ ap (λ k. l ++ insert (x ∷ r) k y) next

pub remove-after : {T : Type 0} (l : List T) (x : T) (r : List T) (n i : ℕ) → length l ≡ n → n < i → remove (l ++ x ∷ r) i ≡ l ++ x ∷ remove r (i - n - 1)
remove-after l x r n i e h =
    let next : i - n ≡ suc (i - n - 1) = omega arith in
    remove-append_right l (x ∷ r) n i e (omega arith) ∙ ap (λ k. l ++ remove (x ∷ r) k) next

pub remove-at : {T : Type 0} (l : List T) (x : T) (r : List T) (i : ℕ) → length l ≡ i → remove (l ++ x ∷ r) i ≡ l ++ r
remove-at l x r i e =
    let none : i - i ≡ 0 = omega arith in
    remove-append_right l (x ∷ r) i i e (omega arith) ∙ ap (λ k. l ++ remove (x ∷ r) k) none

pub take-after : {T : Type 0} (l : List T) (x : T) (r : List T) (i j : ℕ) → i ≡ length l + suc j → take i (l ++ x ∷ r) ≡ l ++ x ∷ take j r
take-after [] x r i j e = let next : i ≡ suc j = omega arith in ap (λ k. take k (x ∷ r)) next
take-after (y ∷ l) x r i j e =
    let next : i ≡ suc (length l + suc j) = omega arith in
    ap (λ k. take k (y ∷ (l ++ x ∷ r))) next ∙ ap (λ zs. y ∷ zs) (take-after l x r (length l + suc j) j refl)

pub drop-after : {T : Type 0} (l : List T) (x : T) (r : List T) (i j : ℕ) → i ≡ length l + suc j → drop i (l ++ x ∷ r) ≡ drop j r
drop-after [] x r i j e = let next : i ≡ suc j = omega arith in ap (λ k. drop k (x ∷ r)) next
drop-after (y ∷ l) x r i j e =
    let next : i ≡ suc (length l + suc j) = omega arith in
    ap (λ k. drop k (y ∷ (l ++ x ∷ r))) next ∙ drop-after l x r (length l + suc j) j refl

pub halves : {T : Type 0} (m n k : ℕ) (x : T) → k ≡ m + suc n → replicate m x ++ x ∷ replicate n x ≡ replicate k x
halves zero n k x e = let next : suc n ≡ k = omega arith in ap (λ i. replicate i x) next
halves (suc m) n k x e =
    let next : suc (m + suc n) ≡ k = omega arith in
    ap (λ zs. x ∷ zs) (halves m n (m + suc n) x refl) ∙ ap (λ i. replicate i x) next

-- what a result is may be told in another way
pub or_else_is : {T E : Type 0} {u v : List T} (r : Result (List T) E) → IfOk r (λ s. s ≡ u) → u ≡ v → IfOk r (λ s. s ≡ v)
or_else_is {T} {E} {u} {v} r h e = subst (λ w. IfOk r (λ s. s ≡ w)) e h
