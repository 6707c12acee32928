-- A text has one reading.
use Rattle.std.proofs.Common.{◌≡◌, ℕ, ◌+◌, List, [], ◌∷◌, take, drop, refl, ap, ◌∙◌, sym, subst}
use Rattle.nres_core.specs.declared.place.Place.{Place}
use Rattle.nres_core.specs.declared.token.Token.{Token}
use Rattle.nres_core.specs.declared.token.TokenKind.{TokenKind}
use Rattle.nres_core.specs.declared.token.Piece.{Piece}
use Rattle.nres_core.specs.declared.token.Piece.TheVariants as piece
use Rattle.nres_core.specs.Front.{front}
use Rattle.nres_core.specs.Tokens.{after, Lexes, StopsAt}

-- what a reading has behind the piece at the front
data Reading : ℕ → Place → ℕ → List ℕ → Piece → List Token → Type 0 where
  space : {at b n : ℕ} {p : Place} {z : List ℕ} {ts : List Token} → Lexes (at + n) (after p (take n (b ∷ z))) (drop n (b ∷ z)) ts → Reading at p b z (piece.Space n) ts
  token : {at b n : ℕ} {k : TokenKind} {p : Place} {z : List ℕ} {ts : List Token} → Lexes (at + n) (after p (take n (b ∷ z))) (drop n (b ∷ z)) ts
      → Reading at p b z (piece.Token k n) (record { kind = k; start = at; end = at + n; place = p } ∷ ts)

reading : {at b : ℕ} {p : Place} {z : List ℕ} {ts : List Token} → Lexes at p (b ∷ z) ts → Reading at p b z (front (b ∷ z)) ts
reading {at = at} {b = b} {p = p} {z = z} {ts = ts} (Lexes.space e d) = subst (λ x. Reading at p b z x ts) (sym e) (space d)
reading {at = at} {b = b} {p = p} {z = z} (Lexes.token {n = n} {k = k} {ts = ts} e d) =
    subst (λ x. Reading at p b z x (record { kind = k; start = at; end = at + n; place = p } ∷ ts)) (sym e) (token d)

spaced : {at b n : ℕ} {p : Place} {z : List ℕ} {ts : List Token} → Reading at p b z (piece.Space n) ts → Lexes (at + n) (after p (take n (b ∷ z))) (drop n (b ∷ z)) ts
spaced (space d) = d

wrong : {at b : ℕ} {p : Place} {z : List ℕ} {ts : List Token} → Reading at p b z piece.Wrong ts → ⊥
wrong r = elim r [ ]

at_front : {at b : ℕ} {p : Place} {z : List ℕ} {ts : List Token} (x : Piece) → front (b ∷ z) ≡ x → Lexes at p (b ∷ z) ts → Reading at p b z x ts
at_front {at = at} {b = b} {p = p} {z = z} {ts = ts} x e d = subst (λ y. Reading at p b z y ts) e (reading d)

met : {at b n : ℕ} {k : TokenKind} {p : Place} {z : List ℕ} {ts : List Token} → Reading at p b z (piece.Token k n) ts
    → (us : List Token) × (ts ≡ record { kind = k; start = at; end = at + n; place = p } ∷ us) × Lexes (at + n) (after p (take n (b ∷ z))) (drop n (b ∷ z)) us
met (token {ts = ts} d) = (ts, refl, d)

-- a text with a reading has no place that no token has
pub either : {p q : Place} {z : List ℕ} → StopsAt p z q → (at : ℕ) (ts : List Token) → Lexes at p z ts → ⊥
either (StopsAt.here e) at ts d = wrong (at_front piece.Wrong e d)
either (StopsAt.space {n = n} e s) at ts d = either s (at + n) ts (spaced (at_front (piece.Space n) e d))
either (StopsAt.token {n = n} {k = k} e s) at ts d = let f = met (at_front (piece.Token k n) e d) in either s (at + n) f.0 f.2

nothing : {at : ℕ} {p : Place} {ts : List Token} → Lexes at p [] ts → ts ≡ []
nothing Lexes.ends = refl

pub one : {at : ℕ} {p : Place} {z : List ℕ} {ts : List Token} → Lexes at p z ts → (us : List Token) → Lexes at p z us → ts ≡ us
one Lexes.ends us d = sym (nothing d)
one (Lexes.space {n = n} e f) us d = one f us (spaced (at_front (piece.Space n) e d))
one (Lexes.token {at = at} {n = n} {k = k} {p = p} e f) us d =
    let g = met (at_front (piece.Token k n) e d) in
    ap (λ ts. record { kind = k; start = at; end = at + n; place = p } ∷ ts) (one f g.0 g.2) ∙ sym g.1
