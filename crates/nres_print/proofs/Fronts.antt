-- The tokens of printed names, words and numbers.
use Rattle.std.proofs.Common.{◌≡◌, ℕ, zero, suc, ◌+◌, ◌-◌, ◌*◌, ◌/◌, ◌%◌, ◌<◌, ◌≤◌, inl, inr, Bool, true, false, not, ◌&&◌, ◌||◌, ◌==◌, if◌then◌else◌, nat_le, nat_lt, List, [], ◌∷◌, ◌++◌, take, length, Some, None, refl, ap, ◌∙◌, sym, decimal, arith}
use Rattle.std.proofs.Math.Seq.{take-append_seam}
use Rattle.std.proofs.lemmas.Bool.{agree_below_at, and_parts, and_from, or_cases, or_parts, or_left, or_right, leb-true, le-leb, eqb-true, eq-eqb, ne_eqb, lt-ltb, not_from_false}
use Rattle.std.proofs.lemmas.Fmt.{decimal_by_steps}
use Rattle.std.proofs.lemmas.List.{length-append}
use Rattle.std.specs.Char.{is_ascii_digit, is_ascii_alphabetic}
use Rattle.std.specs.Int.{is_in_range}
use Rattle.std.specs.List.{list_all, prefix_len, slice_index}
use Rattle.target_code.specs.Names.{is_name, is_name_byte, is_name_start}
use Rattle.target_code.specs.Reserved.{is_reserved}
use Rattle.nres_core.specs.Front as at_front
use Rattle.nres_core.specs.Front.{front, is_blank, value_from}
use Rattle.nres_core.specs.Vocabulary.{is_free_name}
use Rattle.nres_core.specs.declared.token.Piece.{Piece}
use Rattle.nres_core.specs.declared.token.Piece.TheVariants as piece
use Rattle.nres_core.specs.declared.token.TokenKind.TheVariants as kind
use Rattle.nres_print.proofs.Lexing.{Closed, Shows, IsTok, token_shows}

-- ---- which bytes are what

start_below : (c : ℕ) → is_name_start c ≡ true → c < 128
start_below c s = elim (or_cases (is_ascii_alphabetic c) (c == 95) s) [ inl a ↦ letter a | inr e ↦ let h = eqb-true c 95 e in omega (arith, h) ]
  where
    letter : is_ascii_alphabetic c ≡ true → c < 128
    letter a = elim (or_cases (is_in_range 65 90 c) (is_in_range 97 122 c) a) [
      | inl b ↦ let h = leb-true c 90 (and_parts (nat_le 65 c) (nat_le c 90) b).1 in omega (arith, h)
      | inr b ↦ let h = leb-true c 122 (and_parts (nat_le 97 c) (nat_le c 122) b).1 in omega (arith, h)
    ]

digit_below : (c : ℕ) → is_ascii_digit c ≡ true → c < 128
digit_below c s = let h = leb-true c 57 (and_parts (nat_le 48 c) (nat_le c 57) s).1 in omega (arith, h)

not_both : (a b : Bool) → (a && b) ≡ false → a ≡ true → b ≡ false
not_both a b e h = sym (ap (λ x. x && b) h) ∙ e

-- what no byte that begins a name is
pub start_apart : (c : ℕ) → is_name_start c ≡ true → ((is_blank c || c == 35) || c == 61) ≡ false
start_apart c s =
    not_both (is_name_start c) ((is_blank c || c == 35) || c == 61)
    (agree_below_at (λ b. is_name_start b && ((is_blank b || b == 35) || b == 61)) (λ b. false) 128 c refl (start_below c s)) s

-- what no digit is
pub digit_apart : (c : ℕ) → is_ascii_digit c ≡ true → (((is_blank c || c == 35) || c == 61) || is_name_start c) ≡ false
digit_apart c s =
    not_both (is_ascii_digit c) (((is_blank c || c == 35) || c == 61) || is_name_start c)
    (agree_below_at (λ b. is_ascii_digit b && (((is_blank b || b == 35) || b == 61) || is_name_start b)) (λ b. false) 128 c refl (digit_below c s)) s

pub start_is_byte : (c : ℕ) → is_name_start c ≡ true → is_name_byte c ≡ true
start_is_byte c s = wider (is_in_range 48 57 c) (is_in_range 65 90 c) (is_in_range 97 122 c) (c == 95) s
  where
    wider : (d u l e : Bool) → ((u || l) || e) ≡ true → (((d || u) || l) || e) ≡ true
    wider true u l e h = refl
    wider false u l e h = h

digit_is_byte : (c : ℕ) → is_ascii_digit c ≡ true → is_name_byte c ≡ true
digit_is_byte c s = or_left ((is_in_range 48 57 c || is_in_range 65 90 c) || is_in_range 97 122 c) (c == 95) (or_left (is_in_range 48 57 c || is_in_range 65 90 c) (is_in_range 97 122 c) (or_left (is_in_range 48 57 c) (is_in_range 65 90 c) s))

no_byte_no_digit : (c : ℕ) → is_name_byte c ≡ false → is_ascii_digit c ≡ false
no_byte_no_digit c s =
    (or_parts (is_in_range 48 57 c) (is_in_range 65 90 c)
    (or_parts (is_in_range 48 57 c || is_in_range 65 90 c) (is_in_range 97 122 c) (or_parts ((is_in_range 48 57 c || is_in_range 65 90 c) || is_in_range 97 122 c) (c == 95) s).0).0).0

-- ---- how many bytes in front pass

passing : (p : ℕ → Bool) (w z : List ℕ) → list_all p w ≡ true → prefix_len p z ≡ 0 → prefix_len p (w ++ z) ≡ length w
passing p [] z h e = e
passing p (x ∷ xs) z h e =
    let g = and_parts (p x) (list_all p xs) h in
    let n = passing p xs z g.1 e in
    let one : prefix_len p (x ∷ (xs ++ z)) ≡ 1 + prefix_len p (xs ++ z) = ap (λ b. if b then 1 + prefix_len p (xs ++ z) else 0) g.0 in
    omega (arith, one, n)

no_byte_first : (z : List ℕ) → Closed z → prefix_len is_name_byte z ≡ 0
no_byte_first [] c = refl
no_byte_first (b ∷ bs) c = ap (λ t. if t then 1 + prefix_len is_name_byte bs else 0) c

no_digit_first : (z : List ℕ) → Closed z → prefix_len is_ascii_digit z ≡ 0
no_digit_first [] c = refl
no_digit_first (b ∷ bs) c = ap (λ t. if t then 1 + prefix_len is_ascii_digit bs else 0) (no_byte_no_digit b c)

all_bytes : (ds : List ℕ) → list_all is_ascii_digit ds ≡ true → list_all is_name_byte ds ≡ true
all_bytes [] h = refl
all_bytes (d ∷ ds) h =
    let g = and_parts (is_ascii_digit d) (list_all is_ascii_digit ds) h in
    and_from (is_name_byte d) (list_all is_name_byte ds) (digit_is_byte d g.0) (all_bytes ds g.1)

-- ---- names and words

third : (a b c : Bool) (x y n r : Piece) → (a || b) ≡ false → c ≡ true → (if a then x else (if b then y else (if c then n else r))) ≡ n
third a b c x y n r e h = let g = or_parts a b e in rw (g.0, g.1, h) refl

fourth : (a b c d : Bool) (x y m n r : Piece) → (a || b) ≡ false → c ≡ false → d ≡ true → (if a then x else (if b then y else (if c then m else (if d then n else r)))) ≡ n
fourth a b c d x y m n r e h i = let g = or_parts a b e in rw (g.0, g.1, h, i) refl

word_or_name : Bool → ℕ → Piece
word_or_name b n = if b then piece.Token kind.Reserved n else piece.Token kind.Name n

word_first : (w z : List ℕ) → list_all is_name_byte w ≡ true → nat_le (length w) 64 ≡ true → Closed z → at_front.word (w ++ z) ≡ word_or_name (is_reserved w) (length w)
unfolding word_or_name
word_first w z h l c =
    ap (λ n. if nat_le n 64 then word_or_name (is_reserved (take n (w ++ z))) n else piece.Wrong) (passing is_name_byte w z h (no_byte_first z c))
    ∙ ap (λ b. if b then word_or_name (is_reserved (take (length w) (w ++ z))) (length w) else piece.Wrong) l
    ∙ ap (λ x. word_or_name (is_reserved x) (length w)) (take-append_seam w z)

named_first : (w z : List ℕ) → is_name w ≡ true → Closed z → front (w ++ z) ≡ word_or_name (is_reserved w) (length w)
unfolding front
named_first [] z h c = absurd cc
named_first (b ∷ w) z h c =
    let g = and_parts (is_name_start b && nat_le (length w) 63) (list_all is_name_byte w) h in
    let k = and_parts (is_name_start b) (nat_le (length w) 63) g.0 in
    let s = or_parts (is_blank b || b == 35) (b == 61) (start_apart b k.0) in
    let l : nat_le (suc (length w)) 64 ≡ true = le-leb (suc (length w)) 64 (omega (arith, leb-true (length w) 63 k.1)) in
    let all : list_all is_name_byte (b ∷ w) ≡ true = and_from (is_name_byte b) (list_all is_name_byte w) (start_is_byte b k.0) g.1 in
    third (is_blank b) (b == 35) (is_name_start b) (piece.Space 1) (piece.Space (prefix_len at_front.is_inside (b ∷ (w ++ z)))) (at_front.word (b ∷ (w ++ z)))
    (if is_ascii_digit b then at_front.number (b ∷ (w ++ z)) else at_front.sign b (slice_index (b ∷ (w ++ z)) 1)) s.0 k.0
    ∙ word_first (b ∷ w) z all l c

has_byte : (w : List ℕ) → is_name w ≡ true → suc 0 ≤ length w
has_byte [] h = absurd cc
has_byte (b ∷ w) h = omega arith

abbrev pub is_word : List ℕ → Bool
is_word w = is_name w && is_reserved w

pub word_shows : (w : List ℕ) → is_word w ≡ true → Shows Closed w (IsTok kind.Reserved w)
unfolding word_or_name
word_shows w h =
    let g = and_parts (is_name w) (is_reserved w) h in
    token_shows kind.Reserved w (has_byte w g.0) (λ z c. named_first w z g.0 c ∙ ap (λ b. word_or_name b (length w)) g.1)

not_true : (b : Bool) → not b ≡ true → b ≡ false
not_true true e = cc
not_true false e = refl

pub name_shows : (w : List ℕ) → is_free_name w ≡ true → Shows Closed w (IsTok kind.Name w)
unfolding word_or_name
name_shows w h =
    let g = and_parts (is_name w) (not (is_reserved w)) h in
    token_shows kind.Name w (has_byte w g.0) (λ z c. named_first w z g.0 c ∙ ap (λ b. word_or_name b (length w)) (not_true (is_reserved w) g.1))

-- ---- numbers

record Digits (n : ℕ) (ds : List ℕ) : Type 0 where
  some : suc 0 ≤ length ds
  digits : list_all is_ascii_digit ds ≡ true
  single : n ≡ 0 → length ds ≡ 1
  leads : 0 < n → (slice_index ds 0 == 48) ≡ false
  value : n < 18446744073709551616 → value_from 0 ds ≡ Some n

digit_of : (n : ℕ) → n < 10 → is_ascii_digit (48 + n) ≡ true
digit_of n h = and_from (nat_le 48 (48 + n)) (nat_le (48 + n) 57) (le-leb 48 (48 + n) (omega arith)) (le-leb (48 + n) 57 (omega (arith, h)))

one_digit : (n : ℕ) → n < 10 → Digits n ((48 + n) ∷ [])
one_digit n h = record {
  some = omega arith;
  digits = and_from (is_ascii_digit (48 + n)) true (digit_of n h) refl;
  single = λ e. refl;
  leads = λ e. ne_eqb (48 + n) 48 (λ i. omega (arith, e, i));
  value = λ e. let k : 10 * 0 + ((48 + n) - 48) ≡ n = omega arith in
      ap (λ m. if nat_lt m 18446744073709551616 then Some m else None) k ∙ ap (λ (b : Bool). if b then Some n else None) (lt-ltb n 18446744073709551616 e);
}

value_more : (m k d : ℕ) (ds : List ℕ) → value_from m ds ≡ Some k → nat_lt (10 * k + (d - 48)) 18446744073709551616 ≡ true → value_from m (ds ++ d ∷ []) ≡ Some (10 * k + (d - 48))
value_more m k d [] e h =
    let i : m ≡ k = cc in
    ap (λ x. if nat_lt (10 * x + (d - 48)) 18446744073709551616 then Some (10 * x + (d - 48)) else None) i ∙ ap (λ (b : Bool). if b then Some (10 * k + (d - 48)) else None) h
value_more m k d (b ∷ bs) e h = go (nat_lt (10 * m + (b - 48)) 18446744073709551616) (λ i. value_more (10 * m + (b - 48)) k d bs i h) e
  where
    go : (t : Bool) → (value_from (10 * m + (b - 48)) bs ≡ Some k → value_from (10 * m + (b - 48)) (bs ++ d ∷ []) ≡ Some (10 * k + (d - 48)))
        → (if t then value_from (10 * m + (b - 48)) bs else None) ≡ Some k → (if t then value_from (10 * m + (b - 48)) (bs ++ d ∷ []) else None) ≡ Some (10 * k + (d - 48))
    go true f i = f i
    go false f i = absurd cc

all_append : (p : ℕ → Bool) (xs ys : List ℕ) → list_all p xs ≡ true → list_all p ys ≡ true → list_all p (xs ++ ys) ≡ true
all_append p [] ys h i = i
all_append p (x ∷ xs) ys h i = let g = and_parts (p x) (list_all p xs) h in and_from (p x) (list_all p (xs ++ ys)) g.0 (all_append p xs ys g.1 i)

first_stays : (ds es : List ℕ) → suc 0 ≤ length ds → slice_index (ds ++ es) 0 ≡ slice_index ds 0
first_stays [] es h = absurd (omega (arith, h))
first_stays (d ∷ ds) es h = refl

more_digits : (n : ℕ) (ds : List ℕ) → 10 ≤ n → Digits (n / 10) ds → Digits n (ds ++ (48 + n % 10) ∷ [])
more_digits n ds h f =
    let r : n % 10 < 10 = omega arith in
    let q : 10 * (n / 10) + n % 10 ≡ n = omega arith in
    record {
      some = let l = length-append ds ((48 + n % 10) ∷ []) in omega (arith, l);
      digits = all_append is_ascii_digit ds ((48 + n % 10) ∷ []) f.digits (and_from (is_ascii_digit (48 + n % 10)) true (digit_of (n % 10) r) refl);
      single = λ e. absurd (omega (arith, h, e));
      leads = λ e. ap (λ x. x == 48) (first_stays ds ((48 + n % 10) ∷ []) f.some) ∙ f.leads (omega (arith, h));
      value = λ e.
          let m : 10 * (n / 10) + ((48 + n % 10) - 48) ≡ n = omega (arith, q) in
          let b : 10 * (n / 10) + ((48 + n % 10) - 48) < 18446744073709551616 = omega (arith, m, e) in
          value_more 0 (n / 10) (48 + n % 10) ds (f.value (omega (arith, e))) (lt-ltb (10 * (n / 10) + ((48 + n % 10) - 48)) 18446744073709551616 b) ∙ ap (λ x. Some x) m;
    }

decimal_digits : (n : ℕ) → n < 18446744073709551616 → Digits n (decimal n)
decimal_digits n h = decimal_by_steps Digits one_digit more_digits n h

no_zero_leads : {n : ℕ} (ds : List ℕ) → Digits n ds → (length ds == 1 || not (slice_index ds 0 == 48)) ≡ true
no_zero_leads {n = zero} ds f = or_left (length ds == 1) (not (slice_index ds 0 == 48)) (eq-eqb (length ds) 1 (f.single refl))
no_zero_leads {n = suc n} ds f = or_right (length ds == 1) (not (slice_index ds 0 == 48)) (not_from_false (slice_index ds 0 == 48) (f.leads (omega arith)))

number_first : (n : ℕ) (ds z : List ℕ) → Digits n ds → n < 18446744073709551616 → Closed z → at_front.number (ds ++ z) ≡ piece.Token (kind.Number n) (length ds)
unfolding at_front.number
number_first n ds z f h c =
    let a = passing is_name_byte ds z (all_bytes ds f.digits) (no_byte_first z c) in
    let b = passing is_ascii_digit ds z f.digits (no_digit_first z c) in
    let ok : (length ds == length ds && (length ds == 1 || not (slice_index (ds ++ z) 0 == 48))) ≡ true =
    and_from (length ds == length ds) (length ds == 1 || not (slice_index (ds ++ z) 0 == 48)) (eq-eqb (length ds) (length ds) refl)
    (ap (λ x. length ds == 1 || not (x == 48)) (first_stays ds z f.some) ∙ no_zero_leads ds f) in
    ap (λ m. if prefix_len is_ascii_digit (ds ++ z) == m && (m == 1 || not (slice_index (ds ++ z) 0 == 48)) then at_front.numeral m (value_from 0 (take m (ds ++ z))) else piece.Wrong) a
    ∙ ap (λ m. if m == length ds && (length ds == 1 || not (slice_index (ds ++ z) 0 == 48)) then at_front.numeral (length ds) (value_from 0 (take (length ds) (ds ++ z))) else piece.Wrong) b
    ∙ ap (λ t. if t then at_front.numeral (length ds) (value_from 0 (take (length ds) (ds ++ z))) else piece.Wrong) ok
    ∙ ap (λ x. at_front.numeral (length ds) (value_from 0 x)) (take-append_seam ds z)
    ∙ ap (λ v. at_front.numeral (length ds) v) (f.value h)

digits_first : (n : ℕ) (ds z : List ℕ) → Digits n ds → n < 18446744073709551616 → Closed z → front (ds ++ z) ≡ piece.Token (kind.Number n) (length ds)
unfolding front
digits_first n [] z f h c = absurd (omega (arith, f.some))
digits_first n (b ∷ w) z f h c =
    let d = (and_parts (is_ascii_digit b) (list_all is_ascii_digit w) f.digits).0 in
    let s = or_parts ((is_blank b || b == 35) || b == 61) (is_name_start b) (digit_apart b d) in
    let t = or_parts (is_blank b || b == 35) (b == 61) s.0 in
    fourth (is_blank b) (b == 35) (is_name_start b) (is_ascii_digit b) (piece.Space 1) (piece.Space (prefix_len at_front.is_inside (b ∷ (w ++ z)))) (at_front.word (b ∷ (w ++ z)))
    (at_front.number (b ∷ (w ++ z))) (at_front.sign b (slice_index (b ∷ (w ++ z)) 1)) t.0 s.1 d
    ∙ number_first n (b ∷ w) z f h c

pub number_shows : (n : ℕ) → n < 18446744073709551616 → Shows Closed (decimal n) (IsTok (kind.Number n) (decimal n))
number_shows n h = let f = decimal_digits n h in token_shows (kind.Number n) (decimal n) f.some (λ z c. digits_first n (decimal n) z f h c)

-- ---- none begins with `=`

name_not_equal : (w z : List ℕ) → is_name w ≡ true → (slice_index (w ++ z) 0 == 61) ≡ false
name_not_equal [] z h = absurd cc
name_not_equal (b ∷ w) z h =
    let g = and_parts (is_name_start b && nat_le (length w) 63) (list_all is_name_byte w) h in
    let k = and_parts (is_name_start b) (nat_le (length w) 63) g.0 in
    (or_parts (is_blank b || b == 35) (b == 61) (start_apart b k.0)).1

pub word_no_equal : (w z : List ℕ) → is_word w ≡ true → (slice_index (w ++ z) 0 == 61) ≡ false
word_no_equal w z h = name_not_equal w z (and_parts (is_name w) (is_reserved w) h).0

pub free_no_equal : (w z : List ℕ) → is_free_name w ≡ true → (slice_index (w ++ z) 0 == 61) ≡ false
free_no_equal w z h = name_not_equal w z (and_parts (is_name w) (not (is_reserved w)) h).0

digits_not_equal : (ds z : List ℕ) → suc 0 ≤ length ds → list_all is_ascii_digit ds ≡ true → (slice_index (ds ++ z) 0 == 61) ≡ false
digits_not_equal [] z h d = absurd (omega (arith, h))
digits_not_equal (b ∷ w) z h d =
    let s = or_parts ((is_blank b || b == 35) || b == 61) (is_name_start b) (digit_apart b (and_parts (is_ascii_digit b) (list_all is_ascii_digit w) d).0) in
    (or_parts (is_blank b || b == 35) (b == 61) s.0).1

pub number_no_equal : (n : ℕ) (z : List ℕ) → n < 18446744073709551616 → (slice_index (decimal n ++ z) 0 == 61) ≡ false
number_no_equal n z h = let f = decimal_digits n h in digits_not_equal (decimal n) z f.some f.digits
