-- Tests of all numbers below a bound.
use Rattle.std.proofs.Common.{◌≡◌, ℕ, zero, suc, ◌<◌, Bool, true, false, ◌&&◌, ◌||◌, not, refl, sym, ap, ◌∙◌, arith, ⊎_elim}
use Rattle.std.proofs.lemmas.Bool.{and_parts}
use Rattle.std.proofs.lemmas.Bool.Decides.{eqb_tells}
use Rattle.image_laws.specs.Held.{every, some}

pub both : (a b : Bool) → a ≡ true → b ≡ true → (a && b) ≡ true
both true b e f = f
both false b e f = absurd (let o : ⊥ = cc e in o)

pub implied : (a b : Bool) → (not a || b) ≡ true → a ≡ true → b ≡ true
implied true b e t = e
implied false b e t = absurd (let o : ⊥ = cc t in o)

pub implies : (a b : Bool) → (a ≡ true → b ≡ true) → (not a || b) ≡ true
implies true b f = f refl
implies false b f = refl

pub not_true : (a : Bool) → (a ≡ true → ⊥) → a ≡ false
not_true true f = absurd (f refl)
not_true false f = refl

pub same_test : (a b : Bool) → (a ≡ true → b ≡ true) → (b ≡ true → a ≡ true) → a ≡ b
same_test true b f g = sym (f refl)
same_test false true f g = g refl
same_test false false f g = refl

pub every_at : (test : ℕ → Bool) (n i : ℕ) → every test n ≡ true → i < n → test i ≡ true
every_at test zero i e lt = absurd (let f : ⊥ = omega (arith, lt) in f)
every_at test (suc n) i e lt =
    let p = and_parts (test n) (every test n) e in
    ⊎_elim (λ d. ap test d.1 ∙ p.0) (λ d. every_at test n i p.1 (omega (arith, lt, d.1))) (eqb_tells i n)

pub every_all : (test : ℕ → Bool) (n : ℕ) → ((i : ℕ) → i < n → test i ≡ true) → every test n ≡ true
every_all test zero f = refl
every_all test (suc n) f = both (test n) (every test n) (f n (omega arith)) (every_all test n (λ i lt. f i (omega (arith, lt))))

pub some_at : (test : ℕ → Bool) (n : ℕ) → some test n ≡ true → (i : ℕ) × (i < n) × (test i ≡ true)
some_at test zero e = absurd (let f : ⊥ = cc e in f)
some_at test (suc n) e = at (test n) refl e (some_at test n)
  where
    at : (b : Bool) → test n ≡ b → (b || some test n) ≡ true → (some test n ≡ true → (i : ℕ) × (i < n) × (test i ≡ true)) → (i : ℕ) × (i < suc n) × (test i ≡ true)
    at true d e go = (n, omega arith, d)
    at false d e go = let r = go e in (r.0, (let lt = r.1 in omega (arith, lt)), r.2)

pub some_by : (test : ℕ → Bool) (n i : ℕ) → i < n → test i ≡ true → some test n ≡ true
some_by test zero i lt e = absurd (let f : ⊥ = omega (arith, lt) in f)
some_by test (suc n) i lt e =
    ⊎_elim
    (λ d. ap (λ z. z || some test n) (sym (ap test d.1) ∙ e))
    (λ d. or_right (test n) (some test n) (some_by test n i (omega (arith, lt, d.1)) e))
    (eqb_tells i n)
  where
    or_right : (a b : Bool) → b ≡ true → (a || b) ≡ true
    or_right true b e = refl
    or_right false b e = e
