-- A multiset of the elements of a list.
use Rattle.std.proofs.Common.{◌≡◌, ℕ, ◌≤◌, Bool, true, false, cond, List, [], ◌∷◌, ◌++◌, refl, sym, ap, ◌∙◌, ◌⊎◌, inl, inr, arith}
use Rattle.std.proofs.lemmas.Bool.{le-leb}
use Rattle.std.proofs.lemmas.Bool.Decides.{leb_tells}
use Rattle.containers.specs.Bag.{Bag, bag_of, added, place, sorted_list, same_bag}

-- two elements may be put in their places in either order
module _ (m n : ℕ) (le : m ≤ n) where
  -- the greater goes behind the smaller, or is it
  behind : (xs : List ℕ) → place n (m ∷ xs) ≡ m ∷ place n xs ⊎ (n ≡ m)
  behind xs = elim (leb_tells n m) [
    | inl p ↦ inr (omega (arith, p.1, le))
    | inr p ↦ inl (ap (λ b. cond b (n ∷ m ∷ xs) (m ∷ place n xs)) p.0)
  ]

  ahead : (xs : List ℕ) → place m (n ∷ xs) ≡ m ∷ n ∷ xs
  ahead xs = ap (λ b. cond b (m ∷ n ∷ xs) (n ∷ place m xs)) (le-leb m n le)

  pub in_order : (xs : List ℕ) → place m (place n xs) ≡ place n (place m xs)
  in_order [] = elim (behind []) [
    | inl p ↦ ahead [] ∙ sym p
    | inr p ↦ ap (λ k. place m (k ∷ [])) p ∙ sym (ap (λ k. place k (m ∷ [])) p)
  ]
  in_order (x ∷ xs) = elim (leb_tells m x) [
    | inl p ↦ elim (behind (x ∷ xs)) [
      | inl q ↦
          let small : place m (x ∷ xs) ≡ m ∷ x ∷ xs = ap (λ b. cond b (m ∷ x ∷ xs) (x ∷ place m xs)) p.0 in
          elim (leb_tells n x) [
            | inl r ↦
                let great : place n (x ∷ xs) ≡ n ∷ x ∷ xs = ap (λ b. cond b (n ∷ x ∷ xs) (x ∷ place n xs)) r.0 in
                ap (place m) great ∙ ahead (x ∷ xs) ∙ sym (ap (place n) small ∙ q ∙ ap (λ ys. m ∷ ys) great)
            | inr r ↦
                let great : place n (x ∷ xs) ≡ x ∷ place n xs = ap (λ b. cond b (n ∷ x ∷ xs) (x ∷ place n xs)) r.0 in
                ap (place m) great ∙ ap (λ b. cond b (m ∷ x ∷ place n xs) (x ∷ place m (place n xs))) p.0 ∙ sym (ap (place n) small ∙ q ∙ ap (λ ys. m ∷ ys) great)
          ]
      | inr q ↦ ap (λ k. place m (place k (x ∷ xs))) q ∙ sym (ap (λ k. place k (place m (x ∷ xs))) q)
    ]
    | inr p ↦ elim (leb_tells n x) [
      | inl r ↦ absurd (omega (arith, p.1, r.1, le))
      | inr r ↦
          let small : place m (x ∷ xs) ≡ x ∷ place m xs = ap (λ b. cond b (m ∷ x ∷ xs) (x ∷ place m xs)) p.0 in
          let great : place n (x ∷ xs) ≡ x ∷ place n xs = ap (λ b. cond b (n ∷ x ∷ xs) (x ∷ place n xs)) r.0 in
          ap (place m) great
          ∙ ap (λ b. cond b (m ∷ x ∷ place n xs) (x ∷ place m (place n xs))) p.0
          ∙ ap (λ ys. x ∷ ys) (in_order xs)
          ∙ sym (ap (place n) small ∙ ap (λ b. cond b (n ∷ x ∷ place m xs) (x ∷ place n (place m xs))) r.0)
    ]
  ]

swapped : (m n : ℕ) (xs : List ℕ) → place m (place n xs) ≡ place n (place m xs)
swapped m n xs = elim (leb_tells m n) [
  | inl p ↦ in_order m n p.1 xs
  | inr p ↦ sym (in_order n m (omega (arith, p.1)) xs)
]

placed_last : (xs : List ℕ) (n : ℕ) → sorted_list (xs ++ n ∷ []) ≡ place n (sorted_list xs)
placed_last [] n = refl
placed_last (x ∷ xs) n = ap (place x) (placed_last xs n) ∙ swapped x n (sorted_list xs)

pub bag_added : (xs : List ℕ) (n : ℕ) → bag_of (xs ++ n ∷ []) ≡ added (bag_of xs) n
unfolding bag_of added
bag_added xs n = same_bag _ _ (placed_last xs n)

pub bag_pushed : (xs ys : List ℕ) (n : ℕ) (seen : Bag) → bag_of xs ≡ seen → ys ≡ xs ++ n ∷ [] → bag_of ys ≡ added seen n
bag_pushed xs ys n seen is h = ap bag_of h ∙ bag_added xs n ∙ ap (λ b. added b n) is
