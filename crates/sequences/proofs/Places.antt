-- The place of a key among rising keys l ++ x ∷ r.
use Rattle.std.proofs.Common.{◌≡◌, ℕ, suc, ◌+◌, ◌<◌, Bool, true, false, cond, ◌||◌, eqb, ltb, List, [], ◌∷◌, ◌++◌, length, Result, Ok, Err, map, refl, ap, sym, subst, ◌∙◌, arith}
use Rattle.std.proofs.lemmas.List.{map-append, length-map}
use Rattle.std.proofs.lemmas.Bool.{lt-ltb, le-ltb, eq-eqb, ne_eqb}
use Rattle.sequences.specs.Keys.{AllAbove, IsRising, below, has, place_of}

pub above_lower : (k x : ℕ) (xs : List ℕ) → k < x → AllAbove x xs → AllAbove k xs
above_lower k x [] h a = tt
above_lower k x (y ∷ ys) h a = let b : x < y = a.0 in (omega arith, above_lower k x ys h a.1)

above_middle : (k : ℕ) (l : List ℕ) (x : ℕ) (r : List ℕ) → AllAbove k (l ++ x ∷ r) → k < x
above_middle k [] x r a = a.0
above_middle k (y ∷ l) x r a = above_middle k l x r a.1

above_front : (k : ℕ) (l m : List ℕ) → AllAbove k (l ++ m) → AllAbove k l
above_front k [] m a = tt
above_front k (y ∷ l) m a = (a.0, above_front k l m a.1)

pub rising_front : (l m : List ℕ) → IsRising (l ++ m) → IsRising l
rising_front [] m s = tt
rising_front (y ∷ l) m s = (above_front y l m s.0, rising_front l m s.1)

pub rising_back : (l : List ℕ) (x : ℕ) (r : List ℕ) → IsRising (l ++ x ∷ r) → AllAbove x r × IsRising r
rising_back [] x r s = s
rising_back (y ∷ l) x r s = rising_back l x r s.1

pub below_none : (k : ℕ) (xs : List ℕ) → AllAbove k xs → below k xs ≡ 0
below_none k [] a = refl
below_none k (y ∷ ys) a = let h : k < y = a.0 in rw (le-ltb y k (omega arith)) (below_none k ys a.1)

pub has_none : (k : ℕ) (xs : List ℕ) → AllAbove k xs → has k xs ≡ false
has_none k [] a = refl
has_none k (y ∷ ys) a = let h : k < y = a.0 in rw (ne_eqb k y (omega arith)) (has_none k ys a.1)

below_left : (k : ℕ) (l m : List ℕ) → AllAbove k m → below k (l ++ m) ≡ below k l
below_left k [] m a = below_none k m a
below_left k (y ∷ l) m a = ap (λ n. cond (ltb y k) (suc n) n) (below_left k l m a)

has_left : (k : ℕ) (l m : List ℕ) → AllAbove k m → has k (l ++ m) ≡ has k l
has_left k [] m a = has_none k m a
has_left k (y ∷ l) m a = ap (λ b. eqb k y || b) (has_left k l m a)

below_right : (k : ℕ) (l : List ℕ) (x : ℕ) (r : List ℕ) → x < k → IsRising (l ++ x ∷ r) → below k (l ++ x ∷ r) ≡ length l + 1 + below k r
below_right k [] x r h s = rw (lt-ltb x k h) (omega arith)
below_right k (y ∷ l) x r h s =
    let b : y < x = above_middle y l x r s.0 in
    let e : below k (l ++ x ∷ r) ≡ length l + 1 + below k r = below_right k l x r h s.1 in
    rw (lt-ltb y k (omega arith)) (omega (arith, e))

has_right : (k : ℕ) (l : List ℕ) (x : ℕ) (r : List ℕ) → x < k → IsRising (l ++ x ∷ r) → has k (l ++ x ∷ r) ≡ has k r
has_right k [] x r h s = rw (ne_eqb k x (omega arith)) refl
has_right k (y ∷ l) x r h s =
    let b : y < x = above_middle y l x r s.0 in
    rw (ne_eqb k y (omega arith)) (has_right k l x r h s.1)

below_here : (k : ℕ) (l r : List ℕ) → IsRising (l ++ k ∷ r) → below k (l ++ k ∷ r) ≡ length l
below_here k [] r s = rw (le-ltb k k (omega arith)) (below_none k r s.0)
below_here k (y ∷ l) r s =
    let b : y < k = above_middle y l k r s.0 in
    rw (lt-ltb y k b) (omega (arith, below_here k l r s.1))

has_here : (k : ℕ) (l r : List ℕ) → has k (l ++ k ∷ r) ≡ true
has_here k [] r = rw (eq-eqb k k refl) refl
has_here k (y ∷ l) r = rw (has_here k l r) (or_true (eqb k y))
  where
    or_true : (b : Bool) → (b || true) ≡ true
    or_true true = refl
    or_true false = refl

-- a place among those past x
abbrev pub past : ℕ → Result ℕ ℕ → Result ℕ ℕ
past n (Ok i) = Ok (n + i)
past n (Err i) = Err (n + i)

abbrev placed : Bool → ℕ → Result ℕ ℕ
placed b i = cond b (Ok i) (Err i)

past_cond : (n i j : ℕ) (b : Bool) → j ≡ n + i → placed b j ≡ past n (placed b i)
past_cond n i j true e = ap Ok e
past_cond n i j false e = ap Err e

pub place_left : (k : ℕ) (l : List ℕ) (x : ℕ) (r : List ℕ) → k < x → IsRising (l ++ x ∷ r) → place_of k (l ++ x ∷ r) ≡ place_of k l
place_left k l x r h s =
    let a : AllAbove k (x ∷ r) = (h, above_lower k x r h (rising_back l x r s).0) in
    rw (below_left k l (x ∷ r) a, has_left k l (x ∷ r) a) refl

pub place_here : (k : ℕ) (l r : List ℕ) → IsRising (l ++ k ∷ r) → place_of k (l ++ k ∷ r) ≡ Ok (length l)
place_here k l r s = rw (below_here k l r s, has_here k l r) refl

pub place_right : (k : ℕ) (l : List ℕ) (x : ℕ) (r : List ℕ) → x < k → IsRising (l ++ x ∷ r) → place_of k (l ++ x ∷ r) ≡ past (length l + 1) (place_of k r)
place_right k l x r h s = rw (has_right k l x r h s) (past_cond (length l + 1) (below k r) (below k (l ++ x ∷ r)) (has k r) (below_right k l x r h s))

module _ {T : Type 0} (K : T → ℕ) where
  pub keys_of : (self l : List T) (x : T) (r : List T) → self ≡ l ++ x ∷ r → map K self ≡ map K l ++ K x ∷ map K r
  keys_of self l x r e = ap (map K) e ∙ map-append K l (x ∷ r)

  pub search_left : (self l : List T) (x : T) (r : List T) (k : ℕ) (p : Result ℕ ℕ) → self ≡ l ++ x ∷ r → k < K x → (IsRising (map K l) → p ≡ place_of k (map K l)) → IsRising (map K self) → p ≡ place_of k (map K self)
  search_left self l x r k p e h q s =
      let keys = keys_of self l x r e in
      let s' = subst IsRising keys s in
      q (rising_front (map K l) (K x ∷ map K r) s') ∙ sym (ap (place_of k) keys ∙ place_left k (map K l) (K x) (map K r) h s')

  pub search_right : (self l : List T) (x : T) (r : List T) (k : ℕ) (p : Result ℕ ℕ) → self ≡ l ++ x ∷ r → K x < k → (IsRising (map K r) → p ≡ place_of k (map K r)) → IsRising (map K self) → past (length l + 1) p ≡ place_of k (map K self)
  search_right self l x r k p e h q s =
      let keys = keys_of self l x r e in
      let s' = subst IsRising keys s in
      ap (past (length l + 1)) (q (rising_back (map K l) (K x) (map K r) s').1)
      ∙ ap (λ n. past (n + 1) (place_of k (map K r))) (sym (length-map l K))
      ∙ sym (ap (place_of k) keys ∙ place_right k (map K l) (K x) (map K r) h s')

  pub search_here : (self l : List T) (x : T) (r : List T) (k : ℕ) → self ≡ l ++ x ∷ r → k ≡ K x → IsRising (map K self) → Ok (length l) ≡ place_of k (map K self)
  search_here self l x r k e h s =
      let keys = keys_of self l x r e ∙ ap (λ y. map K l ++ y ∷ map K r) (sym h) in
      let s' = subst IsRising keys s in
      ap Ok (sym (length-map l K)) ∙ sym (ap (place_of k) keys ∙ place_here k (map K l) (map K r) s')
