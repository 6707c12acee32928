-- Results beyond the shorter of two lists differ in nothing.
use Rattle.std.proofs.Common.{◌≡◌, ◌≤◌, ◌⊎◌, inl, inr, ℕ, true, false, List, [], ◌∷◌, length, drop, min, refl, ap, ◌∙◌, nat_lt, arith}
use Rattle.std.proofs.lemmas.Bool.{ltb-true}
use Rattle.std.proofs.lemmas.List.{drop_all}
use Rattle.std.specs.Prelude.{None}
use Rattle.target_code.specs.declared.tree.Rep.{Rep}
use Rattle.ownership.specs.Entries.{spots_of}
use Rattle.ownership.specs.declared.entry.Entry.{Entry}
use Rattle.rule_check.specs.Check.{shape_reps}
use Rattle.rule_check.specs.Context.{Shape, shapes_of, first_other, first_unlike}

one_is_least : (a b i : ℕ) → min a b ≤ i → (a ≤ i) ⊎ (b ≤ i)
one_is_least a b i h = elim (nat_lt i a) as (λ c. nat_lt i a ≡ c → (a ≤ i) ⊎ (b ≤ i)) [
  | true ↦ λ e. let l = ltb-true i a e in inr (omega arith)
  | false ↦ λ e. inl (not_below i a e)
] refl
  where
    not_below : (a b : ℕ) → nat_lt a b ≡ false → b ≤ a
    not_below a b e = grind arith

other_none : (k : ℕ) (zs : List Shape) → first_other k zs [] ≡ None
other_none k [] = refl
other_none k (z ∷ zs) = refl

pub none_other : (xs ys : List Entry) (i k : ℕ) → min (length xs) (length ys) ≤ i → first_other k (shapes_of (spots_of (drop i xs))) (shapes_of (spots_of (drop i ys))) ≡ None
none_other xs ys i k h = elim (one_is_least (length xs) (length ys) i h) [
  | inl l ↦ ap (λ z. first_other k (shapes_of (spots_of z)) (shapes_of (spots_of (drop i ys)))) (drop_all i xs l)
  | inr l ↦ ap (λ z. first_other k (shapes_of (spots_of (drop i xs))) (shapes_of (spots_of z))) (drop_all i ys l) ∙ other_none k (shapes_of (spots_of (drop i xs)))
]

unlike_none : (k : ℕ) (zs : List Rep) → first_unlike k zs [] ≡ None
unlike_none k [] = refl
unlike_none k (z ∷ zs) = refl

pub none_unlike : (xs : List Rep) (ys : List Entry) (i k : ℕ) → min (length xs) (length ys) ≤ i → first_unlike k (drop i xs) (shape_reps (shapes_of (spots_of (drop i ys)))) ≡ None
none_unlike xs ys i k h = elim (one_is_least (length xs) (length ys) i h) [
  | inl l ↦ ap (λ z. first_unlike k z (shape_reps (shapes_of (spots_of (drop i ys))))) (drop_all i xs l)
  | inr l ↦ ap (λ z. first_unlike k (drop i xs) (shape_reps (shapes_of (spots_of z)))) (drop_all i ys l) ∙ unlike_none k (drop i xs)
]
