-- A text has no more tokens than bytes, and holds its tree.
use Rattle.std.proofs.Common.{◌≡◌, ◌≤◌, ℕ, suc, ◌+◌, ◌-◌, Bool, true, false, ◌||◌, ◌==◌, if◌then◌else◌, nat_le, List, [], ◌∷◌, take, drop, length, Option, Some, None, refl, ap, ◌∙◌, sym, arith}
use Rattle.std.proofs.lemmas.List.{length-drop}
use Rattle.std.specs.Char.{is_ascii_digit}
use Rattle.std.specs.Int.{is_in_range}
use Rattle.std.specs.List.{prefix_len, slice_index}
use Rattle.target_code.specs.Names.{is_name_byte, is_name_start}
use Rattle.target_code.specs.Reserved.{is_reserved}
use Rattle.nres_core.specs.Front as at_front
use Rattle.nres_core.specs.Front.{front}
use Rattle.nres_core.specs.Texts.{SpecText, operators, open_at_once}
use Rattle.nres_core.specs.Tokens.{Lexes}
use Rattle.nres_core.specs.Vocabulary.{all_seen}
use Rattle.nres_core.specs.declared.place.Place.{Place}
use Rattle.nres_core.specs.declared.token.Piece.TheVariants as piece
use Rattle.nres_core.specs.declared.token.Token.{Token}
use Rattle.nres_core.specs.declared.token.TokenKind.{TokenKind}
use Rattle.nres_core.specs.declared.token.TokenKind.TheVariants as kind
use Rattle.nres_core.proofs.Sizes.{no_larger_with_loops}
use Rattle.typing_laws.specs.Laws.{NoMoreTokensThanBytes, TextsHoldTheirTrees}
use Rattle.typing_laws.proofs.FreeNamesLemmas.{start_is_byte}

-- ---- a token has a byte

word_long : (short reserved : Bool) (m n : ℕ) (k : TokenKind) → (if short then (if reserved then piece.Token kind.Reserved m else piece.Token kind.Name m) else piece.Wrong) ≡ piece.Token k n → m ≡ n
word_long true true m n k e = cc
word_long true false m n k e = cc
word_long false reserved m n k e = absurd cc

numeral_long : (m n : ℕ) (k : TokenKind) (v : Option ℕ) → at_front.numeral m v ≡ piece.Token k n → m ≡ n
numeral_long m n k None e = absurd cc
numeral_long m n k (Some v) e = cc

number_long : (b : Bool) (m n : ℕ) (k : TokenKind) (v : Option ℕ) → (if b then at_front.numeral m v else piece.Wrong) ≡ piece.Token k n → m ≡ n
number_long true m n k v e = numeral_long m n k v e
number_long false m n k v e = absurd cc

sign_long : (a b : Bool) (n : ℕ) (k : TokenKind) → (if a then piece.Token kind.Sign 2 else (if b then piece.Token kind.Sign 1 else piece.Wrong)) ≡ piece.Token k n → 1 ≤ n
sign_long true b n k e = let l : 2 ≡ n = (cc) in omega (arith, l)
sign_long false true n k e = let l : 1 ≡ n = (cc) in omega (arith, l)
sign_long false false n k e = absurd cc

digit_wider : (d u l c : Bool) → d ≡ true → (((d || u) || l) || c) ≡ true
digit_wider d u l c e = rw e refl

digit_is_byte : (b : ℕ) → is_ascii_digit b ≡ true → is_name_byte b ≡ true
digit_is_byte b e = digit_wider (is_in_range 48 57 b) (is_in_range 65 90 b) (is_in_range 97 122 b) (b == 95) e

-- as long as its bytes of a name, of which the first is one
one_byte : (b : ℕ) (z : List ℕ) → is_name_byte b ≡ true → 1 ≤ prefix_len is_name_byte (b ∷ z)
one_byte b z e = let k : prefix_len is_name_byte (b ∷ z) ≡ suc (prefix_len is_name_byte z) = rw e (omega arith) in omega (arith, k)

word_has_byte : (b n : ℕ) (k : TokenKind) (z : List ℕ) → is_name_start b ≡ true → at_front.word (b ∷ z) ≡ piece.Token k n → 1 ≤ n
word_has_byte b n k z s e =
    let m = prefix_len is_name_byte (b ∷ z) in
    let l : m ≡ n = word_long (nat_le m 64) (is_reserved (take m (b ∷ z))) m n k e in
    omega (arith, l, one_byte b z (start_is_byte b s))

number_has_byte : (b n : ℕ) (k : TokenKind) (z : List ℕ) → is_ascii_digit b ≡ true → at_front.number (b ∷ z) ≡ piece.Token k n → 1 ≤ n
unfolding at_front.number
number_has_byte b n k z s e =
    let l : prefix_len is_name_byte (b ∷ z) ≡ n = number_long _ (prefix_len is_name_byte (b ∷ z)) n k _ e in
    omega (arith, l, one_byte b z (digit_is_byte b s))

sign_has_byte : (b c n : ℕ) (k : TokenKind) → at_front.sign b c ≡ piece.Token k n → 1 ≤ n
unfolding at_front.sign
sign_has_byte b c n k e = sign_long _ _ n k e

piece_has_byte : (blank hash start digit : Bool) (b c m n : ℕ) (k : TokenKind) (z : List ℕ) → is_name_start b ≡ start → is_ascii_digit b ≡ digit
    → (if blank then piece.Space 1 else (if hash then piece.Space m else (if start then at_front.word (b ∷ z) else (if digit then at_front.number (b ∷ z) else at_front.sign b c)))) ≡ piece.Token k n → 1 ≤ n
piece_has_byte true hash start digit b c m n k z s d e = absurd cc
piece_has_byte false true start digit b c m n k z s d e = absurd cc
piece_has_byte false false true digit b c m n k z s d e = word_has_byte b n k z s e
piece_has_byte false false false true b c m n k z s d e = number_has_byte b n k z d e
piece_has_byte false false false false b c m n k z s d e = sign_has_byte b c n k e

token_has_byte : (b n : ℕ) (k : TokenKind) (z : List ℕ) → front (b ∷ z) ≡ piece.Token k n → 1 ≤ n
unfolding front
token_has_byte b n k z e =
    piece_has_byte (at_front.is_blank b) (b == 35) (is_name_start b) (is_ascii_digit b) b (slice_index (b ∷ z) 1) (prefix_len at_front.is_inside (b ∷ z)) n k z refl refl e

-- ---- all tokens of a text

no_more_tokens : {at : ℕ} {p : Place} {z : List ℕ} {ts : List Token} → Lexes at p z ts → length ts ≤ length z
no_more_tokens Lexes.ends = omega arith
no_more_tokens {z = z} (Lexes.space {n = n} f d) = omega (arith, no_more_tokens d, length-drop n z)
no_more_tokens {z = z} (Lexes.token {n = n} {b = b} {k = k} {z = y} f d) = omega (arith, no_more_tokens d, token_has_byte b n k y f, length-drop n z)

pub no_more_tokens_than_bytes : NoMoreTokensThanBytes
no_more_tokens_than_bytes text ts d = no_more_tokens d

seen_length : (text : List ℕ) (ts : List Token) → length (all_seen text ts) ≡ length ts
seen_length text [] = refl
seen_length text (t ∷ ts) = ap suc (seen_length text ts)

pub texts_hold_their_trees : TextsHoldTheirTrees
texts_hold_their_trees text p ws s = omega (arith, no_larger_with_loops operators open_at_once (all_seen text s.0) p ws s.2, seen_length text s.0, no_more_tokens s.1)
