-- Tests of small numbers one by one, and small facts on lists and sets.
use Rattle.std.proofs.Common.{◌≡◌, ℕ, zero, suc, ◌+◌, ◌<◌, ◌≤◌, ◌⊎◌, inl, inr, Bool, true, false, cond, ◌&&◌, List, [], ◌∷◌, length, refl, sym, subst, arith, nat_lt, ltb-true}
use Rattle.std.proofs.lemmas.Bool.{and_parts}
use Rattle.std.specs.Cmp.{nat_cmp_total}
use Rattle.std.specs.FinSet as sets
use Rattle.std.specs.List.{list_all}
use Rattle.std.specs.Ordering.{nat_cmp}
use Rattle.std.specs.Prelude.{◌^◌, slice_get, Some, None}
use Rattle.relations.specs.Blocks.{AreWords}
use Rattle.relations.specs.Samples.{set_of}

-- all numbers below n pass
abbrev pub every : (ℕ → Bool) → ℕ → Bool
every test zero = true
every test (suc n) = test n && every test n

pub every_at : (test : ℕ → Bool) (n i : ℕ) → every test n ≡ true → i < n → test i ≡ true
every_at test zero i e h = absurd (let f : ⊥ = omega arith in f)
every_at test (suc n) i e h =
    let both = and_parts (test n) (every test n) e in
    elim (split i n h) [ inl s ↦ subst (λ x. test x ≡ true) (sym s) both.0 | inr l ↦ every_at test n i both.1 l ]
  where
    split : (i n : ℕ) → i < suc n → (i ≡ n) ⊎ (i < n)
    split i n h = grind (arith, h)

pub words_tested : (ws : List ℕ) → list_all (λ x. nat_lt x (2 ^ 64)) ws ≡ true → AreWords ws
words_tested [] e i h = absurd (let f : ⊥ = omega arith in f)
words_tested (w ∷ ws) e zero h = ltb-true w (2 ^ 64) (and_parts (nat_lt w (2 ^ 64)) _ e).0
words_tested (w ∷ ws) e (suc i) h = words_tested ws (and_parts (nat_lt w (2 ^ 64)) _ e).1 i (omega arith)

pub word_first : (w : ℕ) (ws : List ℕ) → w < 2 ^ 64 → AreWords ws → AreWords (w ∷ ws)
word_first w ws lt all zero h = lt
word_first w ws lt all (suc i) h = all i (omega arith)

pub same_list : (xs ys : List ℕ) → ((i : ℕ) → slice_get xs i ≡ slice_get ys i) → xs ≡ ys
same_list [] [] e = refl
same_list [] (y ∷ ys) e = absurd (let d : None ≡ Some y = e 0 in cc d)
same_list (x ∷ xs) [] e = absurd (let d : Some x ≡ None = e 0 in cc d)
same_list (x ∷ xs) (y ∷ ys) e =
    let d : Some x ≡ Some y = e 0 in
    let heads : x ≡ y = cc d in
    let tails = same_list xs ys (λ i. e (suc i)) in
    λ i. heads i ∷ tails i

one_more : (b : Bool) (n : ℕ) → cond b n (n + 1) ≤ suc n
one_more true n = omega arith
one_more false n = omega arith

pub few : (ks : List ℕ) → sets.len (set_of ks) ≤ length ks
few [] = rw (sets.len-empty nat_cmp) (omega arith)
few (k ∷ ks) =
    let before = few ks in
    rw (sets.len-insert nat_cmp_total (set_of ks) k)
    (let one = one_more (sets.contains (set_of ks) k) (sets.len (set_of ks)) in omega (arith, one, before))
