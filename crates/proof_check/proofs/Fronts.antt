-- Procedures that have numbered names.
use Rattle.std.specs.Prelude.{◌≡◌, ℕ, zero, suc, ◌+◌, ◌≤◌, ◌<◌, nat_le, Bool, true, false, ◌&&◌, ◌||◌, cond, List, [], ◌∷◌, ◌++◌, length, take, drop, Some, None, decimal}
use Rattle.std.specs.Str.{bytes_eq}
use Rattle.std.proofs.Common.{refl, sym, ap, ◌∙◌, subst, arith}
use Rattle.std.proofs.Math.Dec.{leb-suc-suc, leb-suc-zero}
use Rattle.std.proofs.lemmas.Bool.{and_parts, le-leb}
use Rattle.std.proofs.lemmas.Slice.Eq.{bytes_eq-Decides}
use Rattle.rule_table.specs.Library.{library}
use Rattle.same_procs.specs.Same.{same_proc}
use Rattle.soundness.specs.Nodes.{numbered}
use Rattle.soundness.specs.Shape.{names_of}
use Rattle.target_code.specs.declared.tree.Proc.{Proc}
use Rattle.target_meaning.specs.Leaf.{find}
use Rattle.unfit_line.specs.Tests.{same_names, is_of, are_of}
use Rattle.fits_promise.proofs.Apart.{is_apart, all_apart, library_apart, past_numbered}
use Rattle.proof_check.specs.Whole.{numbered_front}

-- ---- how many there are at the front

more_le : (k n : ℕ) → nat_le (suc k) (suc n) ≡ nat_le k n
more_le k n = leb-suc-suc k n

pub front_is : (letter : List ℕ) (k i : ℕ) (qs : List Proc) → same_names (names_of (take k qs)) (numbered letter i k) ≡ nat_le k (numbered_front letter i qs)
front_is letter zero i qs = sym (le-leb 0 (numbered_front letter i qs) (omega arith))
front_is letter (suc k) i [] = sym (leb-suc-zero k)
front_is letter (suc k) i (q ∷ qs) = by (bytes_eq q.name (letter ++ decimal i)) (front_is letter k (suc i) qs)
  where
    by : (b : Bool) → same_names (names_of (take k qs)) (numbered letter (suc i) k) ≡ nat_le k (numbered_front letter (suc i) qs)
        → (b && same_names (names_of (take k qs)) (numbered letter (suc i) k)) ≡ nat_le (suc k) (cond b (suc (numbered_front letter (suc i) qs)) 0)
    by true h = h ∙ sym (more_le k (numbered_front letter (suc i) qs))
    by false h = sym (leb-suc-zero k)

pub front_within : (letter : List ℕ) (i : ℕ) (qs : List Proc) → numbered_front letter i qs ≤ length qs
front_within letter i [] = omega arith
front_within letter i (q ∷ qs) = by (bytes_eq q.name (letter ++ decimal i)) (front_within letter (suc i) qs)
  where
    by : (b : Bool) → numbered_front letter (suc i) qs ≤ length qs → cond b (suc (numbered_front letter (suc i) qs)) 0 ≤ suc (length qs)
    by true h = omega arith
    by false h = omega arith

-- one of them
pub record OneAt (letter : List ℕ) (i : ℕ) (qs : List Proc) : Type 0 where
  pub first : Proc
  pub others : List Proc
  pub is : qs ≡ first ∷ others
  pub named : first.name ≡ letter ++ decimal i

pub one_of : (letter : List ℕ) (m i : ℕ) (qs : List Proc) → m < numbered_front letter i qs → OneAt letter (i + m) (drop m qs)
one_of letter m i [] l = absurd (omega (arith, l))
one_of letter zero i (q ∷ qs) l = by (bytes_eq q.name (letter ++ decimal i)) refl l
  where
    by : (b : Bool) → bytes_eq q.name (letter ++ decimal i) ≡ b → zero < cond b (suc (numbered_front letter (suc i) qs)) 0 → OneAt letter (i + 0) (q ∷ qs)
    by true e h =
        let same : i ≡ i + 0 = omega arith in
        record { first = q; others = qs; is = refl; named = (bytes_eq-Decides q.name (letter ++ decimal i)).0 e ∙ ap (λ k. letter ++ decimal k) same }
    by false e h = absurd (omega (arith, h))
one_of letter (suc m) i (q ∷ qs) l = by (one_of letter m (suc i) qs) (bytes_eq q.name (letter ++ decimal i)) l
  where
    by : (m < numbered_front letter (suc i) qs → OneAt letter (suc i + m) (drop m qs)) → (b : Bool) → suc m < cond b (suc (numbered_front letter (suc i) qs)) 0 → OneAt letter (i + suc m) (drop m qs)
    by more true h =
        let less : m < numbered_front letter (suc i) qs = omega (arith, h) in
        let same : suc i + m ≡ i + suc m = omega arith in
        subst (λ k. OneAt letter k (drop m qs)) same (more less)
    by more false h = absurd (omega (arith, h))

-- ---- none of the library has such a name

not_apart : (x i : ℕ) (name : List ℕ) → name ≡ (x ∷ []) ++ decimal i → is_apart name ≡ true → ⊥
not_apart x i name e a = by (past_numbered x i 1 (it ∷ []) [] name (ap (λ z. z ∷ []) e) a) (bytes_eq name name) refl
  where
    it : Proc
    it = record { name = name; args = 0; regs = 0; code = record { list = [] }; ret = [] }

    by : find (it ∷ []) name ≡ None → (b : Bool) → bytes_eq name name ≡ b → ⊥
    by none true e = let o : Some it ≡ None = ap (λ c. cond c (Some it) None) (sym e) ∙ none in cc o
    by none false e = let o : false ≡ true = sym e ∙ (bytes_eq-Decides name name).1 refl in cc o

none_like : (x i : ℕ) (q : Proc) → q.name ≡ (x ∷ []) ++ decimal i → (ps : List Proc) → all_apart ps ≡ true → is_of same_proc q ps ≡ false
none_like x i q e [] a = refl
none_like x i q e (p ∷ ps) a =
    let parts = and_parts (is_apart p.name) (all_apart ps) a in
    by parts.0 (same_proc p q) refl (none_like x i q e ps parts.1)
  where
    by : is_apart p.name ≡ true → (b : Bool) → same_proc p q ≡ b → is_of same_proc q ps ≡ false → (b || is_of same_proc q ps) ≡ false
    by apart true same h =
        let named : p.name ≡ q.name = (bytes_eq-Decides p.name q.name).0 (and_parts (bytes_eq p.name q.name) _ same).0 in
        absurd (not_apart x i p.name (named ∙ e) apart)
    by apart false same h = h

-- where a procedure with such a name is the first, not all are the library's
first_not : (x i : ℕ) (q : Proc) (qs : List Proc) → q.name ≡ (x ∷ []) ++ decimal i → are_of same_proc (q ∷ qs) library ≡ false
first_not x i q qs e = ap (λ b. b && are_of same_proc qs library) (none_like x i q e library library_apart)

pub before_front : (x m i : ℕ) (qs : List Proc) → m < numbered_front (x ∷ []) i qs → are_of same_proc (drop m qs) library ≡ false
before_front x m i qs l = let one = one_of (x ∷ []) m i qs l in ap (λ z. are_of same_proc z library) one.is ∙ first_not x (i + m) one.first one.others one.named
