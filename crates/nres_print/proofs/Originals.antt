-- The tokens of a text: names are free, and numbers have 64 bits.
use Rattle.std.proofs.Common.{◌≡◌, ℕ, suc, ◌+◌, ◌-◌, ◌*◌, ◌<◌, Bool, true, false, not, ◌&&◌, ◌||◌, ◌==◌, if◌then◌else◌, nat_le, nat_lt, List, [], ◌∷◌, take, drop, length, Option, Some, None, refl, ap, ◌∙◌, sym, subst, arith}
use Rattle.std.proofs.lemmas.Bool.{cond_both, and_from, leb-true, le-leb, ltb-true}
use Rattle.std.proofs.lemmas.List.{drop-drop}
use Rattle.std.proofs.lemmas.List.Folds.{length-prefix_len}
use Rattle.std.specs.Char.{is_ascii_digit}
use Rattle.std.specs.List.{list_all, prefix_len, slice_index, slice_range}
use Rattle.target_code.specs.Names.{is_name, is_name_byte, is_name_start}
use Rattle.target_code.specs.Reserved.{is_reserved}
use Rattle.nres_core.specs.Front as at_front
use Rattle.nres_core.specs.Front.{front, value_from}
use Rattle.nres_core.specs.Tokens.{Lexes}
use Rattle.nres_core.specs.Vocabulary.{is_free_name}
use Rattle.nres_core.specs.Vocabulary.{Tok, all_seen}
use Rattle.nres_core.specs.declared.place.Place.{Place}
use Rattle.nres_core.specs.declared.token.Piece.{Piece}
use Rattle.nres_core.specs.declared.token.Piece.TheVariants as piece
use Rattle.nres_core.specs.declared.token.Token.{Token}
use Rattle.nres_core.specs.declared.token.TokenKind.{TokenKind}
use Rattle.nres_core.specs.declared.token.TokenKind.TheVariants as kind
use Rattle.nres_print.proofs.Fronts.{start_is_byte}

-- what a token of this kind says of its bytes
abbrev FineAs : TokenKind → List ℕ → Type 0
FineAs kind.Name x = is_free_name x ≡ true
FineAs (kind.Number n) x = n < 18446744073709551616
FineAs _ x = Unit {0}

abbrev pub AreFine : List Tok → Type 0
AreFine [] = Unit {0}
AreFine (t ∷ ts) = FineAs t.kind t.bytes × AreFine ts

-- ---- the piece at the front

abbrev FinePiece : List ℕ → Piece → Type 0
FinePiece text (piece.Space n) = Unit {0}
FinePiece text (piece.Token k n) = FineAs k (take n text)
FinePiece text piece.Wrong = Unit {0}

pass_more : (p : ℕ → Bool) (x : ℕ) (xs : List ℕ) (b : Bool) → p x ≡ b → list_all p (take (prefix_len p xs) xs) ≡ true → list_all p (take (prefix_len p (x ∷ xs)) (x ∷ xs)) ≡ true
pass_more p x xs true e h = let k : prefix_len p (x ∷ xs) ≡ suc (prefix_len p xs) = rw e (omega arith) in rw k (and_from _ _ e h)
pass_more p x xs false e h = rw e refl

all_pass : (p : ℕ → Bool) (xs : List ℕ) → list_all p (take (prefix_len p xs) xs) ≡ true
all_pass p [] = refl
all_pass p (x ∷ xs) = pass_more p x xs (p x) refl (all_pass p xs)

is_named : (b k : ℕ) (z : List ℕ) → k ≡ prefix_len is_name_byte z → is_name_start b ≡ true → nat_le (suc k) 64 ≡ true → is_name (b ∷ take k z) ≡ true
is_named b k z e s l =
    let short : nat_le (length (take k z)) 63 ≡ true =
    ap (λ m. nat_le (length (take m z)) 63) e ∙ ap (λ m. nat_le m 63) (length-prefix_len is_name_byte z) ∙ ap (λ m. nat_le m 63) (sym e) ∙ le-leb k 63 (omega (arith, leb-true (suc k) 64 l)) in
    let rest : list_all is_name_byte (take k z) ≡ true = ap (λ m. list_all is_name_byte (take m z)) e ∙ all_pass is_name_byte z in
    and_from _ _ (and_from _ _ s short) rest

is_free : (b : ℕ) (z : List ℕ) → is_name_start b ≡ true → nat_le (prefix_len is_name_byte (b ∷ z)) 64 ≡ true
    → is_reserved (take (prefix_len is_name_byte (b ∷ z)) (b ∷ z)) ≡ false → is_free_name (take (prefix_len is_name_byte (b ∷ z)) (b ∷ z)) ≡ true
is_free b z s l r =
    let k : prefix_len is_name_byte (b ∷ z) ≡ suc (prefix_len is_name_byte z) = rw (start_is_byte b s) (omega arith) in
    let n : is_name (take (prefix_len is_name_byte (b ∷ z)) (b ∷ z)) ≡ true = rw k (is_named b (prefix_len is_name_byte z) z refl s (ap (λ m. nat_le m 64) (sym k) ∙ l)) in
    and_from _ _ n (ap not r)

fine_word : (b : ℕ) (z : List ℕ) → is_name_start b ≡ true → FinePiece (b ∷ z) (at_front.word (b ∷ z))
fine_word b z s =
    let n = prefix_len is_name_byte (b ∷ z) in
    cond_both (nat_le n 64) (if is_reserved (take n (b ∷ z)) then piece.Token kind.Reserved n else piece.Token kind.Name n) piece.Wrong (FinePiece (b ∷ z))
    (λ l. cond_both (is_reserved (take n (b ∷ z))) (piece.Token kind.Reserved n) (piece.Token kind.Name n) (FinePiece (b ∷ z)) (λ r. tt) (λ r. is_free b z s l r)) (λ l. tt)

bounded : (n v : ℕ) (ds : List ℕ) → n < 18446744073709551616 → value_from n ds ≡ Some v → v < 18446744073709551616
bounded n v [] h e = let i : n ≡ v = cc in omega (arith, h, i)
bounded n v (b ∷ bs) h e = go (nat_lt (10 * n + (b - 48)) 18446744073709551616) refl (λ i j. bounded (10 * n + (b - 48)) v bs i j) e
  where
    go : (t : Bool) → nat_lt (10 * n + (b - 48)) 18446744073709551616 ≡ t → (10 * n + (b - 48) < 18446744073709551616 → value_from (10 * n + (b - 48)) bs ≡ Some v → v < 18446744073709551616)
        → (if t then value_from (10 * n + (b - 48)) bs else None) ≡ Some v → v < 18446744073709551616
    go true i f j = f (ltb-true (10 * n + (b - 48)) 18446744073709551616 i) j
    go false i f j = absurd cc

fine_numeral : (text : List ℕ) (n : ℕ) (o : Option ℕ) → ((v : ℕ) → o ≡ Some v → v < 18446744073709551616) → FinePiece text (at_front.numeral n o)
fine_numeral text n None h = tt
fine_numeral text n (Some v) h = h v refl

fine_number : (text : List ℕ) → FinePiece text (at_front.number text)
unfolding at_front.number
fine_number text =
    let n = prefix_len is_name_byte text in
    cond_both (prefix_len is_ascii_digit text == n && (n == 1 || not (slice_index text 0 == 48))) (at_front.numeral n (value_from 0 (take n text))) piece.Wrong (FinePiece text)
    (λ h. fine_numeral text n (value_from 0 (take n text)) (λ v e. bounded 0 v (take n text) (omega arith) e)) (λ h. tt)

fine_sign : (text : List ℕ) (b c : ℕ) → FinePiece text (at_front.sign b c)
unfolding at_front.sign
fine_sign text b c =
    cond_both (at_front.is_pair b c) (piece.Token kind.Sign 2) (if at_front.is_single b then piece.Token kind.Sign 1 else piece.Wrong) (FinePiece text)
    (λ h. tt) (λ h. cond_both (at_front.is_single b) (piece.Token kind.Sign 1) piece.Wrong (FinePiece text) (λ i. tt) (λ i. tt))

fine_front : (b : ℕ) (z : List ℕ) → FinePiece (b ∷ z) (front (b ∷ z))
unfolding front
fine_front b z =
    let s = at_front.sign b (slice_index (b ∷ z) 1) in
    let d = if is_ascii_digit b then at_front.number (b ∷ z) else s in
    let w = if is_name_start b then at_front.word (b ∷ z) else d in
    let c = piece.Space (prefix_len at_front.is_inside (b ∷ z)) in
    cond_both (at_front.is_blank b) (piece.Space 1) (if b == 35 then c else w) (FinePiece (b ∷ z)) (λ h. tt)
    (λ h. cond_both (b == 35) c w (FinePiece (b ∷ z)) (λ i. tt)
    (λ i. cond_both (is_name_start b) (at_front.word (b ∷ z)) d (FinePiece (b ∷ z)) (λ j. fine_word b z j)
    (λ j. cond_both (is_ascii_digit b) (at_front.number (b ∷ z)) s (FinePiece (b ∷ z)) (λ k. fine_number (b ∷ z)) (λ k. fine_sign (b ∷ z) b (slice_index (b ∷ z) 1)))))

-- ---- all tokens of a text

cut : (whole z : List ℕ) (at n : ℕ) → z ≡ drop at whole → slice_range whole at (at + n) ≡ take n z
cut whole z at n e = let m : (at + n) - at ≡ n = omega arith in ap (λ k. take k (drop at whole)) m ∙ ap (take n) (sym e)

behind : (whole z : List ℕ) (at n : ℕ) → z ≡ drop at whole → drop n z ≡ drop (at + n) whole
behind whole z at n e = ap (drop n) e ∙ drop-drop n at whole

pub tokens_fine : {at : ℕ} {p : Place} {z : List ℕ} {ts : List Token} (whole : List ℕ) → z ≡ drop at whole → Lexes at p z ts → AreFine (all_seen whole ts)
tokens_fine whole e Lexes.ends = tt
tokens_fine {at = at} {z = z} whole e (Lexes.space {n = n} f d) = tokens_fine whole (behind whole z at n e) d
tokens_fine {at = at} {z = z} whole e (Lexes.token {n = n} {b = b} {k = k} {z = y} f d) =
    (subst (FineAs k) (sym (cut whole z at n e)) (subst (FinePiece (b ∷ y)) f (fine_front b y)), tokens_fine whole (behind whole z at n e) d)
