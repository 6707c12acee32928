-- The tokens of a text that are names have free names for their bytes.
use Rattle.std.proofs.Common.{◌≡◌, ℕ, suc, ◌+◌, ◌-◌, Bool, true, false, not, ◌&&◌, ◌||◌, ◌==◌, if◌then◌else◌, nat_le, List, [], ◌∷◌, take, drop, length, Option, Some, None, refl, ap, ◌∙◌, sym, subst, arith}
use Rattle.std.proofs.lemmas.Bool.{leb-true, le-leb}
use Rattle.std.proofs.lemmas.List.{drop-drop}
use Rattle.std.proofs.lemmas.List.Folds.{length-prefix_len}
use Rattle.std.specs.Char.{is_ascii_digit}
use Rattle.std.specs.Int.{is_in_range}
use Rattle.std.specs.List.{list_all, prefix_len, slice_index, slice_range}
use Rattle.target_code.specs.Names.{is_name, is_name_byte, is_name_start}
use Rattle.target_code.specs.Reserved.{is_reserved}
use Rattle.nres_core.specs.Front as at_front
use Rattle.nres_core.specs.Front.{front}
use Rattle.nres_core.specs.Tokens.{Lexes}
use Rattle.nres_core.specs.Vocabulary.{is_free_name, all_seen}
use Rattle.nres_core.specs.declared.place.Place.{Place}
use Rattle.nres_core.specs.declared.token.Piece.TheVariants as piece
use Rattle.nres_core.specs.declared.token.Token.{Token}
use Rattle.nres_core.specs.declared.token.TokenKind.TheVariants as kind
use Rattle.typing_laws.specs.FreeNames.{AreFree}
use Rattle.typing_laws.specs.Laws.{NamesAreFree}
use Rattle.typing_laws.proofs.TypedLemmas.{and_true}

-- ---- the piece at the front

no_numeral : (m n : ℕ) (v : Option ℕ) → at_front.numeral m v ≡ piece.Token kind.Name n → ⊥
no_numeral m n None e = cc
no_numeral m n (Some v) e = cc

no_number : (b : Bool) (m n : ℕ) (v : Option ℕ) → (if b then at_front.numeral m v else piece.Wrong) ≡ piece.Token kind.Name n → ⊥
no_number true m n v e = no_numeral m n v e
no_number false m n v e = cc

number_names_nothing : (t : List ℕ) (n : ℕ) → at_front.number t ≡ piece.Token kind.Name n → ⊥
unfolding at_front.number
number_names_nothing t n e = no_number _ _ n _ e

no_sign : (a b : Bool) (n : ℕ) → (if a then piece.Token kind.Sign 2 else (if b then piece.Token kind.Sign 1 else piece.Wrong)) ≡ piece.Token kind.Name n → ⊥
no_sign true b n e = cc
no_sign false true n e = cc
no_sign false false n e = cc

sign_names_nothing : (b c n : ℕ) → at_front.sign b c ≡ piece.Token kind.Name n → ⊥
unfolding at_front.sign
sign_names_nothing b c n e = no_sign _ _ n e

-- a name begins as one
word_stands : (blank hash start digit : Bool) (b c m n : ℕ) (t : List ℕ)
    → (if blank then piece.Space 1 else (if hash then piece.Space m else (if start then at_front.word t else (if digit then at_front.number t else at_front.sign b c)))) ≡ piece.Token kind.Name n
    → (start ≡ true) × (at_front.word t ≡ piece.Token kind.Name n)
word_stands true hash start digit b c m n t e = absurd cc
word_stands false true start digit b c m n t e = absurd cc
word_stands false false true digit b c m n t e = (refl, e)
word_stands false false false true b c m n t e = absurd (number_names_nothing t n e)
word_stands false false false false b c m n t e = absurd (sign_names_nothing b c n e)

name_in_front : (b n : ℕ) (z : List ℕ) → front (b ∷ z) ≡ piece.Token kind.Name n → (is_name_start b ≡ true) × (at_front.word (b ∷ z) ≡ piece.Token kind.Name n)
unfolding front
name_in_front b n z e =
    word_stands (at_front.is_blank b) (b == 35) (is_name_start b) (is_ascii_digit b) b (slice_index (b ∷ z) 1) (prefix_len at_front.is_inside (b ∷ z)) n (b ∷ z) e

is_short : (short reserved : Bool) (m n : ℕ) → (if short then (if reserved then piece.Token kind.Reserved m else piece.Token kind.Name m) else piece.Wrong) ≡ piece.Token kind.Name n
    → (short ≡ true) × (reserved ≡ false) × (m ≡ n)
is_short true true m n e = absurd cc
is_short true false m n e = (refl, refl, cc)
is_short false reserved m n e = absurd cc

-- ---- its bytes

pass_more : (p : ℕ → Bool) (x : ℕ) (xs : List ℕ) (b : Bool) → p x ≡ b → list_all p (take (prefix_len p xs) xs) ≡ true → list_all p (take (prefix_len p (x ∷ xs)) (x ∷ xs)) ≡ true
pass_more p x xs true e h = let k : prefix_len p (x ∷ xs) ≡ suc (prefix_len p xs) = rw e (omega arith) in rw k (and_true e h)
pass_more p x xs false e h = rw e refl

all_pass : (p : ℕ → Bool) (xs : List ℕ) → list_all p (take (prefix_len p xs) xs) ≡ true
all_pass p [] = refl
all_pass p (x ∷ xs) = pass_more p x xs (p x) refl (all_pass p xs)

or_wider : (d u l c : Bool) → ((u || l) || c) ≡ true → (((d || u) || l) || c) ≡ true
or_wider true u l c e = refl
or_wider false u l c e = e

pub start_is_byte : (b : ℕ) → is_name_start b ≡ true → is_name_byte b ≡ true
start_is_byte b e = or_wider (is_in_range 48 57 b) (is_in_range 65 90 b) (is_in_range 97 122 b) (b == 95) e

is_named : (b k : ℕ) (z : List ℕ) → k ≡ prefix_len is_name_byte z → is_name_start b ≡ true → nat_le (suc k) 64 ≡ true → is_name (b ∷ take k z) ≡ true
is_named b k z e s l =
    let short : nat_le (length (take k z)) 63 ≡ true = ap (λ m. nat_le (length (take m z)) 63) e ∙ ap (λ m. nat_le m 63) (length-prefix_len is_name_byte z) ∙ ap (λ m. nat_le m 63) (sym e) ∙ le-leb k 63 (omega (arith, leb-true (suc k) 64 l)) in
    let rest : list_all is_name_byte (take k z) ≡ true = ap (λ m. list_all is_name_byte (take m z)) e ∙ all_pass is_name_byte z in
    and_true (and_true s short) rest

both : (a b : Bool) → a ≡ true → b ≡ false → (a && not b) ≡ true
both a b e f = rw (e, f) refl

is_free : (b : ℕ) (z : List ℕ) → is_name_start b ≡ true → nat_le (prefix_len is_name_byte (b ∷ z)) 64 ≡ true
    → is_reserved (take (prefix_len is_name_byte (b ∷ z)) (b ∷ z)) ≡ false → is_free_name (take (prefix_len is_name_byte (b ∷ z)) (b ∷ z)) ≡ true
is_free b z s l r =
    let k : prefix_len is_name_byte (b ∷ z) ≡ suc (prefix_len is_name_byte z) = rw (start_is_byte b s) (omega arith) in
    let n : is_name (take (prefix_len is_name_byte (b ∷ z)) (b ∷ z)) ≡ true = rw k (is_named b (prefix_len is_name_byte z) z refl s (ap (λ m. nat_le m 64) (sym k) ∙ l)) in
    both _ _ n r

name_is_free : (b n : ℕ) (z : List ℕ) → front (b ∷ z) ≡ piece.Token kind.Name n → is_free_name (take n (b ∷ z)) ≡ true
name_is_free b n z e =
    let f = name_in_front b n z e in
    let g = is_short _ _ _ n f.1 in
    subst (λ m. is_free_name (take m (b ∷ z)) ≡ true) g.2 (is_free b z f.0 g.0 g.1)

-- ---- all tokens of a text

cut : (whole z : List ℕ) (at n : ℕ) → z ≡ drop at whole → slice_range whole at (at + n) ≡ take n z
cut whole z at n e = let m : (at + n) - at ≡ n = omega arith in ap (λ k. take k (drop at whole)) m ∙ ap (take n) (sym e)

behind : (whole z : List ℕ) (at n : ℕ) → z ≡ drop at whole → drop n z ≡ drop (at + n) whole
behind whole z at n e = ap (drop n) e ∙ drop-drop n at whole

pub tokens_free : {at : ℕ} {p : Place} {z : List ℕ} {ts : List Token} (whole : List ℕ) → z ≡ drop at whole → Lexes at p z ts → AreFree (all_seen whole ts)
tokens_free whole e Lexes.ends = tt
tokens_free {at = at} {z = z} whole e (Lexes.space {n = n} f d) = tokens_free whole (behind whole z at n e) d
tokens_free {at = at} {z = z} whole e (Lexes.token {n = n} {b = b} {k = k} {z = y} f d) =
    ((λ i. subst (λ x. is_free_name x ≡ true) (sym (cut whole z at n e)) (name_is_free b n y (f ∙ ap (λ l. piece.Token l n) i))), tokens_free whole (behind whole z at n e) d)

pub names_are_free : NamesAreFree
names_are_free text ts d = tokens_free text refl d
