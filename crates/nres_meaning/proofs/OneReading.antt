-- The text `first` has one list of tokens.
use Rattle.std.proofs.Common.{◌≡◌, ℕ, zero, suc, ◌+◌, List, [], ◌∷◌, take, drop, Option, Some, None, refl, sym, ap, subst}
use Rattle.std.specs.Prelude.{codes}
use Rattle.target_code.specs.Reserved.{reserved_words}
use Rattle.nres_core.specs.Front.{front, number, sign}
use Rattle.nres_core.specs.Samples.{first_text, at}
use Rattle.nres_core.specs.Tokens.{Lexes, after, first}
use Rattle.nres_core.specs.Vocabulary as w
use Rattle.nres_core.specs.Vocabulary.{Tok, all_seen}
use Rattle.nres_core.specs.declared.place.Place.{Place}
use Rattle.nres_core.specs.declared.token.Piece.{Piece}
use Rattle.nres_core.specs.declared.token.Piece.TheVariants as piece
use Rattle.nres_core.specs.declared.token.Token.{Token}

abbrev before : Token → Option (List Token) → Option (List Token)
before t None = None
before t (Some ts) = Some (t ∷ ts)

-- the tokens behind a piece, by what is read behind so many bytes
abbrev by_piece : ℕ → Place → (ℕ → Option (List Token)) → Piece → Option (List Token)
by_piece n p go (piece.Space k) = go k
by_piece n p go (piece.Token d k) = before (record { kind = d; start = n; end = n + k; place = p }) (go k)
by_piece n p go piece.Wrong = None

-- the tokens of a text of at most so many pieces
abbrev read : ℕ → ℕ → Place → List ℕ → Option (List Token)
read m n p [] = Some []
read zero n p (b ∷ z) = None
read (suc m) n p (b ∷ z) = by_piece n p (λ k. read m (n + k) (after p (take k (b ∷ z))) (drop k (b ∷ z))) (front (b ∷ z))

-- where tokens are read, they are these
abbrev Told : Option (List Token) → List Token → Type 0
Told None ts = Unit {0}
Told (Some us) ts = ts ≡ us

grown : (o : Option (List Token)) (t : Token) (ts : List Token) → Told o ts → Told (before t o) (t ∷ ts)
grown None t ts h = tt
grown (Some us) t ts h = ap (λ vs. t ∷ vs) h

told : {n : ℕ} {p : Place} {z : List ℕ} {ts : List Token} → Lexes n p z ts → (m : ℕ) → Told (read m n p z) ts
told Lexes.ends m = refl
told (Lexes.space e d) zero = tt
told (Lexes.token e d) zero = tt
told (Lexes.space {at = n} {n = k} {b = b} {p = p} {z = z} {ts = ts} e d) (suc m) =
    subst (λ q. Told (by_piece n p (λ j. read m (n + j) (after p (take j (b ∷ z))) (drop j (b ∷ z))) q) ts) (sym e) (told d m)
told (Lexes.token {at = n} {n = k} {b = b} {k = c} {p = p} {z = z} {ts = ts} e d) (suc m) =
    let t : Token = record { kind = c; start = n; end = n + k; place = p } in
    subst (λ q. Told (by_piece n p (λ j. read m (n + j) (after p (take j (b ∷ z))) (drop j (b ∷ z))) q) (t ∷ ts)) (sym e)
    (grown (read m (n + k) (after p (take k (b ∷ z))) (drop k (b ∷ z))) t ts (told d m))

-- the tokens of the text, from its end
abbrev pub at_end : List Tok
at_end = w.word (codes "end") (at 4 1) ∷ []

abbrev pub at_results : List Tok
at_results = w.name (codes "x") (at 3 10) ∷ at_end

abbrev pub at_return : List Tok
at_return = w.word (codes "return") (at 3 3) ∷ at_results

abbrev pub at_zero : List Tok
at_zero = w.number 0 (codes "0") (at 2 15) ∷ at_return

abbrev pub at_atoms : List Tok
at_atoms = w.name (codes "xs") (at 2 12) ∷ at_zero

abbrev pub at_get : List Tok
at_get = w.word (codes "get") (at 2 8) ∷ at_atoms

abbrev pub at_arrow : List Tok
at_arrow = w.sign (codes "<-") (at 2 5) ∷ at_get

abbrev pub at_block : List Tok
at_block = w.name (codes "x") (at 2 3) ∷ at_arrow

abbrev pub at_shown : List Tok
at_shown = w.word (codes "nat") (at 1 39) ∷ at_block

abbrev pub at_colon : List Tok
at_colon = w.sign (codes ":") (at 1 37) ∷ at_shown

abbrev pub at_close : List Tok
at_close = w.sign (codes ")") (at 1 35) ∷ at_colon

abbrev pub at_kept : List Tok
at_kept = w.word (codes "kept") (at 1 31) ∷ at_close

abbrev pub at_rep : List Tok
at_rep = w.word (codes "array") (at 1 25) ∷ at_kept

abbrev pub at_type : List Tok
at_type = w.word (codes "list") (at 1 17) ∷ w.word (codes "as") (at 1 22) ∷ at_rep

abbrev pub at_param : List Tok
at_param = w.name (codes "xs") (at 1 13) ∷ w.sign (codes ":") (at 1 15) ∷ at_type

abbrev pub at_params : List Tok
at_params = w.sign (codes "(") (at 1 12) ∷ at_param

abbrev pub at_first : List Tok
at_first = w.word (codes "spec") (at 1 1) ∷ w.name (codes "first") (at 1 6) ∷ at_params

pub one_reading : {ts : List Token} → Lexes 0 first first_text ts → all_seen first_text ts ≡ at_first
unfolding front number sign reserved_words
one_reading d = ap (λ ts. all_seen first_text ts) (told d 60)
