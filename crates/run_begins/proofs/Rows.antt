-- Blocks that lie one behind the other.
use Rattle.std.proofs.Common.{◌≡◌, ◌≢◌, ℕ, zero, suc, ◌+◌, ◌<◌, ◌≤◌, Bool, true, false, ◌&&◌, List, [], ◌∷◌, ◌++◌, length, refl, sym, ap, ◌∙◌, subst, arith}
use Rattle.std.specs.Prelude.{nat_lt, nat_le}
use Rattle.std.specs.List.{zip}
use Rattle.target_meaning.specs.Machine.{Heap, Cell, Never, Live, is_new, is_never}
use Rattle.branch_exec.specs.Branches.{Names}
use Rattle.branch_exec.specs.LeftRuns.{Fresh, NotAmong}
use Rattle.run_stores.specs.Rows.{IsInRow}

-- the blocks with their lengths
abbrev pub sizes : List (ℕ × List ℕ) → List (ℕ × ℕ)
sizes [] = []
sizes (b ∷ bs) = (b.0, length b.1) ∷ sizes bs

-- a row is no shorter than its beginning
pub row_end : (x : ℕ) (bs : List (ℕ × ℕ)) (e : ℕ) → IsInRow x bs e → x ≤ e + 1
row_end x [] e r = omega (arith, r)
row_end x (b ∷ bs) e r = let h = row_end (x + b.1 + 1) bs e r.1 in omega arith

-- what lies behind a front of a row
pub row_behind : (x : ℕ) (bs cs : List (ℕ × ℕ)) (m e : ℕ) → IsInRow x bs m → IsInRow x (bs ++ cs) e → IsInRow (m + 1) cs e
row_behind x [] cs m e r s = subst (λ z. IsInRow z cs e) r s
row_behind x (b ∷ bs) cs m e r s = row_behind (x + b.1 + 1) bs cs m e r.1 s.1

-- one name stands before all names of a row
pub not_in_row : (y x : ℕ) (bs : Names) (e : ℕ) → y < x → IsInRow x bs e → NotAmong y bs
not_in_row y x [] e lt r = tt
not_in_row y x (b ∷ bs) e lt r = ((λ q. let f = r.0 in omega (arith, q, f)), not_in_row y (x + b.1 + 1) bs e (omega arith) r.1)

new_true : (h : Heap) (x : ℕ) → 0 < x → x ≤ h.cap → h.cells x ≡ Never → is_new h x ≡ true
new_true h x lt le n =
    let a : nat_lt 0 x ≡ true = grind arith in
    let b : nat_le x h.cap ≡ true = grind arith in
    (λ i. (a i && b i) && is_never (n i))

-- names behind all those that were made are new
pub row_fresh : (h : Heap) (m : ℕ) (bs : Names) (e : ℕ) → IsInRow (m + 1) bs e → e ≤ h.cap → ((y : ℕ) → m < y → h.cells y ≡ Never) → Fresh h bs
row_fresh h m [] e r le n = tt
row_fresh h m (b ∷ bs) e r le n =
    let f : b.0 ≡ m + 1 = r.0 in
    let g : IsInRow (m + 1 + b.1 + 1) bs e = r.1 in
    let z = row_end (m + 1 + b.1 + 1) bs e g in (
      new_true h b.0 (omega (arith, f)) (omega (arith, f, z)) (n b.0 (omega (arith, f))),
      omega (arith, z),
      not_in_row b.0 (m + 1 + b.1 + 1) bs e (omega (arith, f)) g,
      row_fresh h (m + 1 + b.1) bs e g le (λ y lt. n y (omega arith)),
    )
