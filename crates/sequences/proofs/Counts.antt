-- How many keys are below one, among ascending keys l ++ x ∷ r.
use Rattle.std.proofs.Common.{◌≡◌, ℕ, suc, ◌+◌, ◌<◌, ◌≤◌, cond, ltb, List, [], ◌∷◌, ◌++◌, length, map, refl, ap, sym, subst, ◌∙◌, arith}
use Rattle.std.proofs.lemmas.List.{length-map}
use Rattle.std.proofs.lemmas.Bool.{lt-ltb, le-ltb}
use Rattle.sequences.specs.Keys.{AllFrom, IsAscending, below}
use Rattle.sequences.proofs.Places.{keys_of}

pub from_lower : (k x : ℕ) (xs : List ℕ) → k ≤ x → AllFrom x xs → AllFrom k xs
from_lower k x [] h a = tt
from_lower k x (y ∷ ys) h a = let b : x ≤ y = a.0 in (omega arith, from_lower k x ys h a.1)

from_middle : (k : ℕ) (l : List ℕ) (x : ℕ) (r : List ℕ) → AllFrom k (l ++ x ∷ r) → k ≤ x
from_middle k [] x r a = a.0
from_middle k (y ∷ l) x r a = from_middle k l x r a.1

from_front : (k : ℕ) (l m : List ℕ) → AllFrom k (l ++ m) → AllFrom k l
from_front k [] m a = tt
from_front k (y ∷ l) m a = (a.0, from_front k l m a.1)

ascending_front : (l m : List ℕ) → IsAscending (l ++ m) → IsAscending l
ascending_front [] m s = tt
ascending_front (y ∷ l) m s = (from_front y l m s.0, ascending_front l m s.1)

ascending_back : (l : List ℕ) (x : ℕ) (r : List ℕ) → IsAscending (l ++ x ∷ r) → AllFrom x r × IsAscending r
ascending_back [] x r s = s
ascending_back (y ∷ l) x r s = ascending_back l x r s.1

pub below_from : (k : ℕ) (xs : List ℕ) → AllFrom k xs → below k xs ≡ 0
below_from k [] a = refl
below_from k (y ∷ ys) a = let h : k ≤ y = a.0 in rw (le-ltb y k h) (below_from k ys a.1)

left_only : (k : ℕ) (l m : List ℕ) → AllFrom k m → below k (l ++ m) ≡ below k l
left_only k [] m a = below_from k m a
left_only k (y ∷ l) m a = ap (λ n. cond (ltb y k) (suc n) n) (left_only k l m a)

past_here : (k : ℕ) (l : List ℕ) (x : ℕ) (r : List ℕ) → x < k → IsAscending (l ++ x ∷ r) → below k (l ++ x ∷ r) ≡ length l + 1 + below k r
past_here k [] x r h s = rw (lt-ltb x k h) (omega arith)
past_here k (y ∷ l) x r h s =
    let b : y ≤ x = from_middle y l x r s.0 in
    let e : below k (l ++ x ∷ r) ≡ length l + 1 + below k r = past_here k l x r h s.1 in
    rw (lt-ltb y k (omega arith)) (omega (arith, e))

module _ {T : Type 0} (K : T → ℕ) where
  pub count_left : (self l : List T) (x : T) (r : List T) (k n : ℕ) → self ≡ l ++ x ∷ r → k ≤ K x → (IsAscending (map K l) → n ≡ below k (map K l)) → IsAscending (map K self) → n ≡ below k (map K self)
  count_left self l x r k n e h q s =
      let keys = keys_of K self l x r e in
      let s' = subst IsAscending keys s in
      let a : AllFrom k (K x ∷ map K r) = (h, from_lower k (K x) (map K r) h (ascending_back (map K l) (K x) (map K r) s').0) in
      q (ascending_front (map K l) (K x ∷ map K r) s') ∙ sym (ap (below k) keys ∙ left_only k (map K l) (K x ∷ map K r) a)

  pub count_right : (self l : List T) (x : T) (r : List T) (k n : ℕ) → self ≡ l ++ x ∷ r → K x < k → (IsAscending (map K r) → n ≡ below k (map K r)) → IsAscending (map K self) → length l + 1 + n ≡ below k (map K self)
  count_right self l x r k n e h q s =
      let keys = keys_of K self l x r e in
      let s' = subst IsAscending keys s in
      ap (λ m. length l + 1 + m) (q (ascending_back (map K l) (K x) (map K r) s').1)
      ∙ ap (λ m. m + 1 + below k (map K r)) (sym (length-map l K))
      ∙ sym (ap (below k) keys ∙ past_here k (map K l) (K x) (map K r) h s')
