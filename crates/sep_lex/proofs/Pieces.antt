-- One piece more of a text.
use Rattle.std.proofs.Common.{◌≡◌, ℕ, ◌+◌, ◌-◌, ◌<◌, ◌≤◌, List, [], ◌∷◌, ◌++◌, length, take, drop, ap, ◌∙◌, sym, subst, arith}
use Rattle.std.proofs.Common.{length-drop, length-take}
use Rattle.std.proofs.lemmas.List.{drop-drop, take_all, drop_all}
use Rattle.nres_core.specs.declared.place.Place.{Place}
use Rattle.nres_core.specs.declared.token.Token.{Token}
use Rattle.nres_core.specs.declared.token.TokenKind.{TokenKind}
use Rattle.nres_core.specs.declared.token.Piece.TheVariants as piece
use Rattle.nres_core.specs.Front.{front}
use Rattle.nres_core.specs.Tokens.{after, Lexes, StopsAt}
use Rattle.sep_lex.specs.Spans.{AllWithin}

spaced : {at n : ℕ} {p : Place} {ts : List Token} (z : List ℕ) → 0 < length z → front z ≡ piece.Space n
    → Lexes (at + n) (after p (take n z)) (drop n z) ts → Lexes at p z ts
spaced [] h e d = absurd (omega arith)
spaced (b ∷ z) h e d = Lexes.space e d

met : {at n : ℕ} {k : TokenKind} {p : Place} {ts : List Token} (z : List ℕ) → 0 < length z → front z ≡ piece.Token k n
    → Lexes (at + n) (after p (take n z)) (drop n z) ts → Lexes at p z (record { kind = k; start = at; end = at + n; place = p } ∷ ts)
met [] h e d = absurd (omega arith)
met (b ∷ z) h e d = Lexes.token e d

spaced_stop : {n : ℕ} {p q : Place} (z : List ℕ) → 0 < length z → front z ≡ piece.Space n → StopsAt (after p (take n z)) (drop n z) q → StopsAt p z q
spaced_stop [] h e d = absurd (omega arith)
spaced_stop (b ∷ z) h e d = StopsAt.space e d

met_stop : {n : ℕ} {k : TokenKind} {p q : Place} (z : List ℕ) → 0 < length z → front z ≡ piece.Token k n → StopsAt (after p (take n z)) (drop n z) q → StopsAt p z q
met_stop [] h e d = absurd (omega arith)
met_stop (b ∷ z) h e d = StopsAt.token e d

pub stop_here : {p : Place} (z : List ℕ) → 0 < length z → front z ≡ piece.Wrong → StopsAt p z p
stop_here [] h e = absurd (omega arith)
stop_here (b ∷ z) h e = StopsAt.here e

-- the text from an offset on, as a slice gives it
rest : List ℕ → ℕ → List ℕ
rest input at = take (length input - at) (drop at input)

rest_is : (input : List ℕ) (at : ℕ) → rest input at ≡ drop at input
unfolding rest
rest_is input at = let e : length (drop at input) ≤ length input - at = simp length-drop (omega arith) in take_all (length input - at) (drop at input) e

some : (input : List ℕ) (at : ℕ) → at < length input → 0 < length (drop at input)
some input at h = simp length-drop (omega arith)

module _ (input : List ℕ) (at n : ℕ) (p q : Place) (within : at < length input) where
  behind : drop n (drop at input) ≡ drop (at + n) input
  behind = drop-drop n at input

  pub space_lexes : piece.Space n ≡ front (take (length input - at) (drop at input)) → q ≡ after p (take n (take (length input - at) (drop at input)))
      → (ts : List Token) → Lexes (at + n) q (drop (at + n) input) ts → Lexes at p (drop at input) ts
  unfolding rest
  space_lexes e f ts d =
      let r = rest_is input at in
      spaced (drop at input) (some input at within) (ap front (sym r) ∙ sym e)
      (subst (λ z. Lexes (at + n) (after p (take n (drop at input))) z ts) (sym behind) (subst (λ x. Lexes (at + n) x (drop (at + n) input) ts) (f ∙ ap (λ z. after p (take n z)) r) d))

  pub space_stops : piece.Space n ≡ front (take (length input - at) (drop at input)) → q ≡ after p (take n (take (length input - at) (drop at input)))
      → (s : Place) → StopsAt q (drop (at + n) input) s → StopsAt p (drop at input) s
  unfolding rest
  space_stops e f s d =
      let r = rest_is input at in
      spaced_stop (drop at input) (some input at within) (ap front (sym r) ∙ sym e)
      (subst (λ z. StopsAt (after p (take n (drop at input))) z s) (sym behind) (subst (λ x. StopsAt x (drop (at + n) input) s) (f ∙ ap (λ z. after p (take n z)) r) d))

  pub token_lexes : (k : TokenKind) → piece.Token k n ≡ front (take (length input - at) (drop at input)) → q ≡ after p (take n (take (length input - at) (drop at input)))
      → (ts : List Token) → Lexes (at + n) q (drop (at + n) input) ts → Lexes at p (drop at input) (record { kind = k; start = at; end = at + n; place = p } ∷ ts)
  unfolding rest
  token_lexes k e f ts d =
      let r = rest_is input at in
      met (drop at input) (some input at within) (ap front (sym r) ∙ sym e)
      (subst (λ z. Lexes (at + n) (after p (take n (drop at input))) z ts) (sym behind) (subst (λ x. Lexes (at + n) x (drop (at + n) input) ts) (f ∙ ap (λ z. after p (take n z)) r) d))

  pub token_stops : (k : TokenKind) → piece.Token k n ≡ front (take (length input - at) (drop at input)) → q ≡ after p (take n (take (length input - at) (drop at input)))
      → (s : Place) → StopsAt q (drop (at + n) input) s → StopsAt p (drop at input) s
  unfolding rest
  token_stops k e f s d =
      let r = rest_is input at in
      met_stop (drop at input) (some input at within) (ap front (sym r) ∙ sym e)
      (subst (λ z. StopsAt (after p (take n (drop at input))) z s) (sym behind) (subst (λ x. StopsAt x (drop (at + n) input) s) (f ∙ ap (λ z. after p (take n z)) r) d))

  pub fits : n ≤ length (take (length input - at) (drop at input)) → length (take n (take (length input - at) (drop at input))) ≤ n
  fits h = simp length-take (omega arith)

  pub ends_within : n ≤ length (take (length input - at) (drop at input)) → at + n ≤ length input
  unfolding rest
  ends_within h = let r = ap length (rest_is input at) in let l : length (drop at input) ≡ length input - at = simp length-drop in omega (arith, h, r, l)

pub wrong_stops : (input : List ℕ) (at : ℕ) (p q : Place) → at < length input → piece.Wrong ≡ front (take (length input - at) (drop at input)) → p ≡ q → StopsAt p (drop at input) q
unfolding rest
wrong_stops input at p q h e f = subst (λ x. StopsAt p (drop at input) x) f (stop_here (drop at input) (some input at h) (ap front (sym (rest_is input at)) ∙ sym e))

pub all_read : (input : List ℕ) (at : ℕ) (p : Place) → length input ≤ at → Lexes at p (drop at input) []
all_read input at p h = subst (λ z. Lexes at p z []) (sym (drop_all at input h)) Lexes.ends

-- one token more within the text
pub one_more : (text : List ℕ) (ts : List Token) (t : Token) → AllWithin text ts → t.start ≤ t.end → t.end ≤ length text → AllWithin text (ts ++ t ∷ [])
one_more text [] t h i j = (i, j, tt)
one_more text (u ∷ us) t h i j = (h.0, h.1, one_more text us t h.2 i j)
