-- The tokens of a text, and the first place at which it has none.
use Rattle.std.specs.Prelude.{◌≡◌, ℕ, ◌+◌, List, [], ◌∷◌, take, drop, if◌then◌else◌, ◌==◌}
use Rattle.nres_core.specs.declared.place.Place.{Place}
use Rattle.nres_core.specs.declared.token.Token.{Token}
use Rattle.nres_core.specs.declared.token.TokenKind.{TokenKind}
use Rattle.nres_core.specs.declared.token.Piece.TheVariants as piece
use Rattle.nres_core.specs.Front.{front}

-- the place behind a byte, and behind some bytes: a line feed begins a line
abbrev pub next : Place → ℕ → Place
next p b = if b == 10 then record { line = p.line + 1; column = 1 } else record { line = p.line; column = p.column + 1 }

abbrev pub after : Place → List ℕ → Place
after p [] = p
after p (b ∷ bs) = after (next p b) bs

-- the place of the first byte
abbrev pub first : Place
first = record { line = 1; column = 1 }

-- Lexes at p text tokens: the text, which stands at this offset and place, has these tokens
pub data Lexes : ℕ → Place → List ℕ → List Token → Type 0 where
  ends : {at : ℕ} {p : Place} → Lexes at p [] []
  space : {at n b : ℕ} {p : Place} {z : List ℕ} {ts : List Token} → front (b ∷ z) ≡ piece.Space n
      → Lexes (at + n) (after p (take n (b ∷ z))) (drop n (b ∷ z)) ts → Lexes at p (b ∷ z) ts
  token : {at n b : ℕ} {k : TokenKind} {p : Place} {z : List ℕ} {ts : List Token} → front (b ∷ z) ≡ piece.Token k n
      → Lexes (at + n) (after p (take n (b ∷ z))) (drop n (b ∷ z)) ts → Lexes at p (b ∷ z) (record { kind = k; start = at; end = at + n; place = p } ∷ ts)

-- StopsAt p text q: from this place on, q is the first at which no token, blank or comment stands
pub data StopsAt : Place → List ℕ → Place → Type 0 where
  here : {b : ℕ} {p : Place} {z : List ℕ} → front (b ∷ z) ≡ piece.Wrong → StopsAt p (b ∷ z) p
  space : {n b : ℕ} {p q : Place} {z : List ℕ} → front (b ∷ z) ≡ piece.Space n → StopsAt (after p (take n (b ∷ z))) (drop n (b ∷ z)) q → StopsAt p (b ∷ z) q
  token : {n b : ℕ} {k : TokenKind} {p q : Place} {z : List ℕ} → front (b ∷ z) ≡ piece.Token k n
      → StopsAt (after p (take n (b ∷ z))) (drop n (b ∷ z)) q → StopsAt p (b ∷ z) q
