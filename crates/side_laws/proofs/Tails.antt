-- Lists that end alike.
use Rattle.std.proofs.Common.{◌≡◌, ℕ, suc, ◌+◌, ◌≤◌, Bool, true, false, cond, List, [], ◌∷◌, ◌++◌, length, refl, sym, ap, ◌∙◌, subst, arith, length-append, ltb, lt-ltb, le-ltb}
use Rattle.std.proofs.lemmas.Bool.{cond-true, cond-false}
use Rattle.bare_holds.specs.Bare.{bare_hold, bare_holds}
use Rattle.fits.specs.Places.{Entry, spot_of, spots_of}
use Rattle.rule_check.specs.Context.{Hold, Spot, outer}

abbrev rest_of : {A : Type 0} → List A → List A
rest_of [] = []
rest_of (x ∷ xs) = xs

pub tails : {A : Type 0} (xs zs ys ws : List A) → xs ++ ys ≡ zs ++ ws → length ys ≡ length ws → ys ≡ ws
tails [] [] ys ws e n = e
tails [] (z ∷ zs) ys ws e n =
    let k : length ys ≡ length (z ∷ (zs ++ ws)) = ap length e in
    let m : length (zs ++ ws) ≡ length zs + length ws = length-append zs ws in
    absurd (let o : ⊥ = omega (arith, k, m, n) in o)
tails (x ∷ xs) [] ys ws e n =
    let k : length (x ∷ (xs ++ ys)) ≡ length ws = ap length e in
    let m : length (xs ++ ys) ≡ length xs + length ys = length-append xs ys in
    absurd (let o : ⊥ = omega (arith, k, m, n) in o)
tails (x ∷ xs) (z ∷ zs) ys ws e n = tails xs zs ys ws (ap rest_of e) n

-- the oldest entries
pub outer_behind : (xs ys : List Spot) → outer (length ys) (xs ++ ys) ≡ ys
outer_behind [] [] = refl
outer_behind [] (y ∷ ys) = cond-true (ltb (length ys) (suc (length ys))) (y ∷ ys) (outer (suc (length ys)) ys) (lt-ltb (length ys) (suc (length ys)) (omega arith))
outer_behind (x ∷ xs) ys =
    let m : length (xs ++ ys) ≡ length xs + length ys = length-append xs ys in
    cond-false (ltb (length (xs ++ ys)) (length ys)) (x ∷ (xs ++ ys)) (outer (length ys) (xs ++ ys)) (le-ltb (length (xs ++ ys)) (length ys) (omega (arith, m))) ∙ outer_behind xs ys

pub bare_joined : (xs ys : List Spot) → bare_holds (xs ++ ys) ≡ bare_holds xs ++ bare_holds ys
bare_joined [] ys = refl
bare_joined (x ∷ xs) ys = ap (λ z. bare_hold x ∷ z) (bare_joined xs ys)

pub spots_joined : (h : ℕ → Hold) (ds es : List Entry) → spots_of h (ds ++ es) ≡ spots_of h ds ++ spots_of h es
spots_joined h [] es = refl
spots_joined h (d ∷ ds) es = ap (λ z. spot_of h d ∷ z) (spots_joined h ds es)

pub bare_length : (ss : List Spot) → length (bare_holds ss) ≡ length ss
bare_length [] = refl
bare_length (s ∷ ss) = ap suc (bare_length ss)

pub spots_length : (h : ℕ → Hold) (es : List Entry) → length (spots_of h es) ≡ length es
spots_length h [] = refl
spots_length h (e ∷ es) = ap suc (spots_length h es)
