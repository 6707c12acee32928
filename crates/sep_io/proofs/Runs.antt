-- Reads and writes one after another.
use Rattle.std.proofs.Common.{◌≡◌, ℕ, ◌+◌, ◌-◌, List, ◌++◌, length, take, drop, arith, ap, ◌∙◌, sym, append_assoc, length-append, length-drop}
use Rattle.std.specs.Prelude.{Option, Some, None}
use Rattle.std.specs.Io.KnownBytes.{Appends, Consumes}
use Rattle.std.proofs.Math.Seq.{take-add}
use Rattle.std.proofs.lemmas.List.{take_all}
use Rattle.sep_io.specs.Faults.{Gave}

-- two pieces that went out one after the other
pub appends_more : (a b c : Option (List ℕ)) (xs ys : List ℕ) → Appends a b xs → Appends b c ys → Appends a c (xs ++ ys)
appends_more None b c xs ys h k = tt
appends_more (Some s) None c xs ys h k = absurd h
appends_more (Some s) (Some t) None xs ys h k = absurd k
appends_more (Some s) (Some t) (Some u) xs ys h k = k ∙ (ap (λ z. z ++ ys) h ∙ append_assoc s xs ys)

-- two pieces that were read one after the other
pub consumes_more : (a b c : Option (List ℕ)) (xs ys : List ℕ) → Consumes a b xs → Consumes b c ys → Consumes a c (xs ++ ys)
consumes_more None b c xs ys h k = tt
consumes_more (Some s) None c xs ys h k = absurd h
consumes_more (Some s) (Some t) None xs ys h k = absurd k
consumes_more (Some s) (Some t) (Some u) xs ys h k = h ∙ (ap (λ z. xs ++ z) k ∙ sym (append_assoc xs ys u))

-- a list cut to its own length
pub rest_whole : (xs : List ℕ) (n m : ℕ) → take m (take (length xs - n) (drop n xs)) ≡ take m (drop n xs)
rest_whole xs n m = ap (λ z. take m z) (take_all (length xs - n) (drop n xs) (omega (arith, length-drop n xs)))

-- a list that was sent up to n, and then m further bytes of it
pub sends_more : (a b c : Option (List ℕ)) (xs : List ℕ) (n m : ℕ) → Appends a b (take n xs) → Appends b c (take m (take (length xs - n) (drop n xs))) → Appends a c (take (n + m) xs)
sends_more a b c xs n m h k = rw (take-add n m xs) (appends_more a b c (take n xs) (take m (drop n xs)) h (rw (rest_whole xs n m) at k))

-- so many bytes were given, and then n more
pub gave_more : (a b c : Option (List ℕ)) (xs ys : List ℕ) (n : ℕ) → Consumes a b xs → Consumes b c ys → length ys ≡ n → Gave a c (length xs + n)
gave_more a b c xs ys n h k e = (xs ++ ys, (consumes_more a b c xs ys h k, length-append xs ys ∙ ap (λ m. length xs + m) e))
