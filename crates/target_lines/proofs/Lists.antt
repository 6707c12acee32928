-- Reading lists: the bound on their members does not matter, and a loop reads them.
use Rattle.std.proofs.Common.{◌≡◌, ℕ, zero, suc, ◌+◌, ◌-◌, ◌*◌, ◌≤◌, ◌<◌, min, nat_eq, cond, Bool, true, false, List, [], ◌∷◌, ◌++◌, length, drop, Option, Some, None, refl, ap, sym, ◌∙◌, append_assoc, arith}
use Rattle.std.proofs.lemmas.List.{length-drop}
use Rattle.target_code.specs.declared.tree.Hand.{Hand}
use Rattle.target_lines.specs.Reading.{is_digit, most, number_from, small_at, register_at, after_comma, listed_on, listed_at, begins, span_at, hand_at}

pub number_shorter : (n : ℕ) (bs : List ℕ) → length (number_from n bs).1 ≤ length bs
unfolding number_from
number_shorter n [] = omega arith
number_shorter n (b ∷ bs) =
    let m = min (min (n * 10) most + (b - 48)) most in
    elim (is_digit b) as (λ v. length (cond v (number_from m bs) (n, b ∷ bs)).1 ≤ suc (length bs)) [
      | true ↦ omega (arith, number_shorter m bs)
      | false ↦ omega arith
    ]

pub record Shrinks {A : Type 0} (item : List ℕ → A × List ℕ) : Type 0 where
  pub shorter : (bs : List ℕ) → length (item bs).1 ≤ length bs

pub register_shrinks : Shrinks register_at
unfolding register_at small_at
register_shrinks = record { shorter = λ bs. omega (arith, number_shorter 0 (drop 1 bs), length-drop 1 bs) }

span_shorter : (block : ℕ) (bs : List ℕ) → length (span_at block bs).1 ≤ length bs
span_shorter block bs =
    let offset = register_at (drop 6 bs) in
    let count = register_at (drop 5 offset.1) in
    let spanned : Hand × List ℕ = (record { block = block; span = Some (offset.0, count.0) }, count.1) in
    let bare : Hand × List ℕ = (record { block = block; span = None }, bs) in
    elim (begins 32 bs) as (λ v. length (cond v spanned bare).1 ≤ length bs) [
      | true ↦ omega (arith, register_shrinks.shorter (drop 5 offset.1), length-drop 5 offset.1, register_shrinks.shorter (drop 6 bs), length-drop 6 bs)
      | false ↦ omega arith
    ]

pub hand_shrinks : Shrinks hand_at
unfolding hand_at
hand_shrinks = record { shorter = λ bs. let block = register_at bs in omega (arith, span_shorter block.0 block.1, register_shrinks.shorter bs) }

shorter_if : (v : Bool) (bs more : List ℕ) → cond v (Some bs) None ≡ Some more → length more < suc (suc (length bs))
shorter_if true bs more e = let same : bs ≡ more = cc in omega (arith, ap length same)
shorter_if false bs more e = absurd cc

pub comma_shorter : (bs more : List ℕ) → after_comma bs ≡ Some more → length more < length bs
comma_shorter [] more e = absurd cc
comma_shorter (b ∷ []) more e = absurd cc
comma_shorter (b ∷ c ∷ bs) more e = shorter_if (nat_eq b 44) bs more e

same_on : {A : Type 0} (x : A) (f g : List ℕ → List A × List ℕ) (rest : List ℕ) (o : Option (List ℕ)) → ((more : List ℕ) → o ≡ Some more → f more ≡ g more) → listed_on f x rest o ≡ listed_on g x rest o
same_on x f g rest None h = refl
same_on {A = A} x f g rest (Some more) h = ap (λ (xs : List A × List ℕ). (x ∷ xs.0, xs.1)) (h more refl)

-- any bound above the length serves
pub enough : {A : Type 0} (item : List ℕ → A × List ℕ) → Shrinks item → (n m : ℕ) (bs : List ℕ) → length bs < n → length bs < m → listed_at item n bs ≡ listed_at item m bs
unfolding listed_at
enough item sh zero m bs p q = absurd (omega arith)
enough item sh (suc n) zero bs p q = absurd (omega arith)
enough item sh (suc n) (suc m) bs p q =
    same_on (item bs).0 (listed_at item n) (listed_at item m) (item bs).1 (after_comma (item bs).1)
    (λ more e. enough item sh n m more (omega (arith, comma_shorter (item bs).1 more e, sh.shorter bs)) (omega (arith, comma_shorter (item bs).1 more e, sh.shorter bs)))

-- what was read before, and what is still read
abbrev pub with_front : {A : Type 0} → List A → List A × List ℕ → List A × List ℕ
with_front front xs = (front ++ xs.0, xs.1)

abbrev pub all_at : {A : Type 0} → (List ℕ → A × List ℕ) → List ℕ → List A × List ℕ
all_at item bs = listed_at item (suc (length bs)) bs

pub goes_on : {A : Type 0} (item : List ℕ → A × List ℕ) → Shrinks item → (front : List A) (bs more : List ℕ) (whole : List A × List ℕ) → after_comma (item bs).1 ≡ Some more
    → with_front front (all_at item bs) ≡ whole → with_front (front ++ (item bs).0 ∷ []) (all_at item more) ≡ whole
unfolding listed_at
goes_on {A = A} item sh front bs more whole e h =
    let x = (item bs).0 in
    let same : listed_at item (length bs) more ≡ all_at item more = enough item sh (length bs) (suc (length more)) more (omega (arith, comma_shorter (item bs).1 more e, sh.shorter bs)) (omega arith) in
    let one : with_front front (all_at item bs) ≡ with_front front (listed_on (listed_at item (length bs)) x (item bs).1 (Some more)) = ap (λ o. with_front front (listed_on (listed_at item (length bs)) x (item bs).1 o)) e in
    let two : with_front (front ++ x ∷ []) (listed_at item (length bs) more) ≡ with_front front (listed_on (listed_at item (length bs)) x (item bs).1 (Some more)) = ap (λ (xs : List A). (xs, (listed_at item (length bs) more).1)) (append_assoc front (x ∷ []) (listed_at item (length bs) more).0) in
    ap (with_front (front ++ x ∷ [])) (sym same) ∙ two ∙ sym one ∙ h

pub is_done : {A : Type 0} (item : List ℕ → A × List ℕ) (front : List A) (bs : List ℕ) (whole : List A × List ℕ) → after_comma (item bs).1 ≡ None
    → with_front front (all_at item bs) ≡ whole → (front ++ (item bs).0 ∷ [], (item bs).1) ≡ whole
unfolding listed_at
is_done item front bs whole e h = sym (ap (λ o. with_front front (listed_on (listed_at item (length bs)) (item bs).0 (item bs).1 o)) e) ∙ h
