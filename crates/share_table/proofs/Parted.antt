-- Between two borders an entry has the same of all places.
use Rattle.std.proofs.Common.{◌≡◌, ◌≢◌, ◌⊎◌, inl, inr, ⊎_elim, ℕ, zero, suc, ◌+◌, ◌-◌, ◌<◌, ◌≤◌, Bool, cond, length, List, [], ◌∷◌, ◌++◌, take, get_or, refl, sym, ap, ◌∙◌, subst, arith, lt_of_not-le}
use Rattle.std.specs.Prelude.{true, false, ◌&&◌, ◌==◌, nat_lt, nat_le, if◌then◌else◌}
use Rattle.std.proofs.lemmas.Bool.Decides.{nat_tests, eqb_tells}
use mathlib.Core.Logic.{dite}
use native.Mathlib.Decide.{ℕ_discrete, dec_le}
use Rattle.share_table.specs.Amounts.{covers, share_at, amount}
use Rattle.share_table.specs.declared.entry.Entry.{Entry}
use Rattle.share_table.proofs.Sums.{none, amount_more}

same_start : (f p j n : ℕ) → p ≤ j → j < n → (p < f → n ≤ f) → nat_le f j ≡ nat_le f p
same_start f p j n a b h = dite (dec_le f p) (λ k. grind (arith, nat_tests)) (λ k. let lt = lt_of_not-le k in let z = h lt in grind (arith, nat_tests))

same_end : (f p j n : ℕ) → p ≤ j → j < n → (p < f → n ≤ f) → nat_lt j f ≡ nat_lt p f
same_end f p j n a b h = dite (dec_le f p) (λ k. grind (arith, nat_tests)) (λ k. let lt = lt_of_not-le k in let z = h lt in grind (arith, nat_tests))

pub one_same : (e : Entry) (block p n o j : ℕ) → p ≤ j → j < n → (p < e.first → n ≤ e.first) → (p < e.first + e.count → n ≤ e.first + e.count) → amount (e ∷ []) o block j ≡ amount (e ∷ []) o block p
one_same e block p n o j a b h k =
    ap (λ t. (if e.owner == o then (if (e.block == block) && (t && nat_lt j (e.first + e.count)) then e.share else 0) else 0) + 0) (same_start e.first p j n a b h)
    ∙ ap (λ t. (if e.owner == o then (if (e.block == block) && (nat_le e.first p && t) then e.share else 0) else 0) + 0) (same_end (e.first + e.count) p j n a b k)

no_block : (t u : Bool) (s : ℕ) → t ≡ false → (if t && u then s else 0) ≡ 0
no_block true u s e = cc e
no_block false u s e = refl

-- an entry of another block
pub other_block : (e : Entry) (block o j : ℕ) → e.block ≢ block → amount (e ∷ []) o block j ≡ 0
other_block e block o j ne = go (e.owner == o)
  where
    none_at : share_at e block j ≡ 0
    none_at = no_block (e.block == block) (nat_le e.first j && nat_lt j (e.first + e.count)) e.share (⊎_elim (λ t. absurd (ne t.1)) (λ t. t.0) (eqb_tells e.block block))

    go : (t : Bool) → (if t then share_at e block j else 0) + 0 ≡ 0
    go true = let z = none_at in omega arith
    go false = refl

-- the next entry's borders are known
pub more_same : (es : List Entry) (i block p n m o j : ℕ) → i < length es → p ≤ j → j < m → m ≤ n
    → ((q k : ℕ) → p ≤ k → k < n → amount (take i es) q block k ≡ amount (take i es) q block p)
    → amount (get_or es i none ∷ []) o block j ≡ amount (get_or es i none ∷ []) o block p
    → amount (take (i + 1) es) o block j ≡ amount (take (i + 1) es) o block p
more_same es i block p n m o j lt a b c h e =
    amount_more es i o block j lt
    ∙ (ap (λ x. x + amount (get_or es i none ∷ []) o block j) (h o j a (omega arith))
    ∙ (ap (λ x. amount (take i es) o block p + x) e
    ∙ sym (amount_more es i o block p lt)))
