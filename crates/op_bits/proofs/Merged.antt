-- A set to which the elements of another are added one by one.
use Rattle.std.proofs.Common.{◌≡◌, ◌≢◌, ℕ, zero, suc, ◌+◌, ◌<◌, ◌≤◌, Bool, true, false, cond, ◌||◌, refl, sym, ap, ◌∙◌, subst, arith, ⊎_elim, ◌⊎◌}
use Rattle.std.proofs.Math.Bool.{or-true}
use Rattle.std.proofs.lemmas.Bool.{cond_both}
use Rattle.std.proofs.lemmas.Bool.Decides.{eqb_tells}
use Rattle.std.specs.Cmp.{nat_cmp_total}
use Rattle.containers.specs.Sets as sets
use Rattle.relations.specs.Represents.{Set}
use Rattle.op_bits.proofs.Words.{insert_here, insert_other, same, len_grows}

abbrev pub merged : Set → Set → ℕ → Set
merged s t zero = s
merged s t (suc i) = cond (sets.contains t i) (sets.insert (merged s t i) i) (merged s t i)

past : (s t : Set) (i y : ℕ) → i ≤ y → sets.contains (merged s t i) y ≡ sets.contains s y
past s t zero y le = refl
past s t (suc i) y le =
    let ne : y ≢ i = omega (arith, le) in
    cond_both (sets.contains t i) (sets.insert (merged s t i) i) (merged s t i) (λ z. sets.contains z y ≡ sets.contains s y)
    (λ e. insert_other (merged s t i) i y ne ∙ past s t i y (omega (arith, le))) (λ e. past s t i y (omega (arith, le)))

or_false : (a b : Bool) → b ≡ false → (a || b) ≡ a
or_false true b e = refl
or_false false b e = e

or_on : (a b : Bool) → b ≡ true → (a || b) ≡ true
or_on a b e = ap (λ z. a || z) e ∙ or-true a

here : (s t : Set) (i : ℕ) → sets.contains (merged s t (suc i)) i ≡ (sets.contains s i || sets.contains t i)
here s t i =
    cond_both (sets.contains t i) (sets.insert (merged s t i) i) (merged s t i) (λ z. sets.contains z i ≡ (sets.contains s i || sets.contains t i))
    (λ e. insert_here (merged s t i) i ∙ sym (or_on (sets.contains s i) (sets.contains t i) e))
    (λ e. past s t i i (omega arith) ∙ sym (or_false (sets.contains s i) (sets.contains t i) e))

below : (s t : Set) (i y : ℕ) → y < i → sets.contains (merged s t i) y ≡ (sets.contains s y || sets.contains t y)
below s t zero y lt = absurd (let f : ⊥ = omega (arith, lt) in f)
below s t (suc i) y lt =
    ⊎_elim
    (λ w. subst (λ z. sets.contains (merged s t (suc i)) z ≡ (sets.contains s z || sets.contains t z)) (sym w.1) (here s t i))
    (λ w. cond_both (sets.contains t i) (sets.insert (merged s t i) i) (merged s t i) (λ z. sets.contains z y ≡ (sets.contains s y || sets.contains t y))
    (λ e. insert_other (merged s t i) i y w.1 ∙ below s t i y (omega (arith, lt, w.1))) (λ e. below s t i y (omega (arith, lt, w.1))))
    (eqb_tells y i)

pub merged_all : (s t : Set) (u : ℕ) → ((y : ℕ) → sets.contains t y ≡ true → y < u) → merged s t u ≡ sets.union s t
merged_all s t u most = same (merged s t u) (sets.union s t) (λ y. at y (sets.contains t y) refl ∙ sym (sets.contains-union nat_cmp_total s t y))
  where
    at : (y : ℕ) (b : Bool) → sets.contains t y ≡ b → sets.contains (merged s t u) y ≡ (sets.contains s y || sets.contains t y)
    at y true e = below s t u y (most y e)
    at y false e =
        ⊎_elim (λ l. below s t u y l) (λ l. past s t u y l ∙ sym (or_false (sets.contains s y) (sets.contains t y) e)) (let o : (y < u) ⊎ (u ≤ y) = grind arith in o)

one_more : (s t : Set) (i : ℕ) → sets.len (merged s t i) ≤ sets.len (merged s t (suc i))
one_more s t i =
    cond_both (sets.contains t i) (sets.insert (merged s t i) i) (merged s t i) (λ z. sets.len (merged s t i) ≤ sets.len z)
    (λ e. len_grows (merged s t i) i) (λ e. omega arith)

pub merged_len : (s t : Set) (l i u : ℕ) → i + l ≡ u → sets.len (merged s t i) ≤ sets.len (merged s t u)
merged_len s t zero i u e = let d : i ≡ u = omega (arith, e) in subst (λ z. sets.len (merged s t i) ≤ sets.len (merged s t z)) d (omega arith)
merged_len s t (suc l) i u e = let a = one_more s t i in let b = merged_len s t l (suc i) u (omega (arith, e)) in omega (arith, a, b)
