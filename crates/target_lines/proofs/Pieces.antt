-- What stands at the front of a text is read again, whatever follows that cannot belong to it.
use Rattle.std.proofs.Common.{◌≡◌, ℕ, zero, suc, ◌+◌, ◌-◌, ◌*◌, ◌/◌, ◌%◌, ◌^◌, ◌≤◌, ◌<◌, min, nat_eq, nat_le, ◌&&◌, ◌||◌, not, cond, Bool, true, false, List, [], ◌∷◌, ◌++◌, length, take, drop, Option, Some, None, codes, decimal, refl, ap, sym, subst, ◌∙◌, append_assoc, arith}
use Rattle.std.specs.List.{flat_map, AllByRecursion}
use Rattle.std.proofs.lemmas.Bool.Decides.{nat_tests}
use Rattle.std.proofs.lemmas.Fmt.{decimal_by_steps}
use Rattle.std.proofs.lemmas.List.{append-nil, length-append}
use Rattle.std.proofs.lemmas.List.Concat.{flat_map-cons}
use Rattle.std.proofs.Math.Seq.{drop-append_seam, take-append_seam}
use Rattle.target_code.specs.declared.tree.Hand.{Hand}
use Rattle.target_lines.specs.Texts.{register_text, listed, registers_text, hand_text, hands_text}
use Rattle.std.specs.Prelude.{◌||◌, ◌==◌, nat_le}
use Rattle.std.specs.Int.{is_in_range}
use Rattle.std.specs.List.{list_all}
use Rattle.std.specs.Cmp.Derive.{both_true}
use Rattle.target_code.specs.Names.{is_name, is_name_start, is_name_byte}
use Rattle.target_lines.specs.Fits.{is_word, IsSmall, AreSmall, SpanFits, HandFits}
use Rattle.target_lines.specs.Reading.{is_digit, is_letter, most, number_from, number_at, letters, word_at, named, name_at, small, small_at, register_at, after_comma, listed_on, listed_at, registers_at, begins, span_at, hand_at, hands_at, begins_register}

-- ---- numbers

digit_is : (d : ℕ) → d < 10 → is_digit (48 + d) ≡ true
digit_is d lt = grind (arith, nat_tests)

digit_read : (n v d : ℕ) (rest : List ℕ) → d < 10 → v * 10 + d ≡ n → n < 2 ^ 64 → number_from v ((48 + d) ∷ rest) ≡ number_from n rest
unfolding number_from
digit_read n v d rest lt e fits =
    let value : min (min (v * 10) most + (48 + d - 48)) most ≡ n = omega arith in
    ap (λ t. cond t (number_from (min (min (v * 10) most + (48 + d - 48)) most) rest) (v, (48 + d) ∷ rest)) (digit_is d lt) ∙ ap (λ m. number_from m rest) value

abbrev IsRead : ℕ → List ℕ → Type 0
IsRead n ds = n < 2 ^ 64 → (rest : List ℕ) → number_from 0 (ds ++ rest) ≡ number_from n rest

digits_read : (n : ℕ) → n < 2 ^ 64 → (rest : List ℕ) → number_from 0 (decimal n ++ rest) ≡ number_from n rest
digits_read n lt =
    decimal_by_steps IsRead
    (λ n small fits rest. digit_read n 0 n rest small (omega arith) fits)
    (λ n ds large so_far fits rest.
    ap (number_from 0) (append_assoc ds ((48 + n % 10) ∷ []) rest)
    ∙ so_far (omega arith) ((48 + n % 10) ∷ rest)
    ∙ digit_read n (n / 10) (n % 10) rest (omega arith) (omega arith) fits)
    n lt lt

abbrev pub no_digit : List ℕ → Bool
no_digit [] = true
no_digit (b ∷ bs) = not (is_digit b)

read_no_more : (n : ℕ) (rest : List ℕ) → no_digit rest ≡ true → number_from n rest ≡ (n, rest)
unfolding number_from
read_no_more n [] h = refl
read_no_more n (b ∷ bs) h =
    let P : Bool → Type 0 = λ t. not t ≡ true → cond t (number_from (min (min (n * 10) most + (b - 48)) most) bs) (n, b ∷ bs) ≡ (n, b ∷ bs) in
    let all : (t : Bool) → P t = λ t. elim t as P [ true ↦ λ e. absurd cc | false ↦ λ e. refl ] in
    all (is_digit b) h

pub number_past : (n : ℕ) (rest : List ℕ) → n < 2 ^ 64 → no_digit rest ≡ true → number_at (decimal n ++ rest) ≡ (n, rest)
number_past n rest lt h = digits_read n lt rest ∙ read_no_more n rest h

pub small_past : (n : ℕ) (rest : List ℕ) → IsSmall n → no_digit rest ≡ true → small_at (decimal n ++ rest) ≡ (n, rest)
unfolding small_at
small_past n rest lt h =
    let kept : small n ≡ n = omega arith in
    ap (λ (x : ℕ × List ℕ). (small x.0, x.1)) (number_past n rest (omega arith) h) ∙ ap (λ m. (m, rest)) kept

pub register_past : (r : ℕ) (rest : List ℕ) → IsSmall r → no_digit rest ≡ true → register_at (register_text r ++ rest) ≡ (r, rest)
unfolding register_at
register_past r rest lt h = small_past r rest lt h

-- the same at the end of a line
pub number_last : (n : ℕ) → n < 2 ^ 64 → number_at (decimal n) ≡ (n, [])
number_last n lt = ap number_at (sym (append-nil (decimal n))) ∙ number_past n [] lt refl

pub small_last : (n : ℕ) → IsSmall n → small_at (decimal n) ≡ (n, [])
small_last n lt = ap small_at (sym (append-nil (decimal n))) ∙ small_past n [] lt refl

pub register_last : (r : ℕ) → IsSmall r → register_at (register_text r) ≡ (r, [])
register_last r lt = ap register_at (sym (append-nil (register_text r))) ∙ register_past r [] lt refl

-- a register's text is known by its first digit
pub begins_past : (r : ℕ) (rest : List ℕ) → IsSmall r → begins_register (register_text r ++ rest) ≡ true
begins_past r rest lt =
    let P : ℕ → List ℕ → Type 0 = λ n ds. (rest : List ℕ) → begins_register (114 ∷ (ds ++ rest)) ≡ true in
    decimal_by_steps P
    (λ n small rest. digit_is n small)
    (λ n ds large so_far rest. ap (λ bs. begins_register (114 ∷ bs)) (append_assoc ds ((48 + n % 10) ∷ []) rest) ∙ so_far ((48 + n % 10) ∷ rest))
    r (omega arith) rest

-- ---- words

abbrev pub no_letter : List ℕ → Bool
no_letter [] = true
no_letter (b ∷ bs) = not (is_letter b)

no_letters : (rest : List ℕ) → no_letter rest ≡ true → letters rest ≡ 0
unfolding letters
no_letters [] h = refl
no_letters (b ∷ bs) h =
    let P : Bool → Type 0 = λ t. not t ≡ true → cond t (suc (letters bs)) 0 ≡ 0 in
    let all : (t : Bool) → P t = λ t. elim t as P [ true ↦ λ e. absurd cc | false ↦ λ e. refl ] in
    all (is_letter b) h

pub and_parts : (a b : Bool) → (a && b) ≡ true → (a ≡ true) × (b ≡ true)
and_parts true true h = (refl, refl)
and_parts true false h = absurd cc
and_parts false b h = absurd cc

letters_past : (w rest : List ℕ) → is_word w ≡ true → no_letter rest ≡ true → letters (w ++ rest) ≡ length w
unfolding letters
letters_past [] rest h stop = no_letters rest stop
letters_past (b ∷ bs) rest h stop =
    let parts = and_parts (is_letter b) (is_word bs) h in
    ap (λ t. cond t (suc (letters (bs ++ rest))) 0) parts.0 ∙ ap suc (letters_past bs rest parts.1 stop)

pub word_past : (w rest : List ℕ) → is_word w ≡ true → no_letter rest ≡ true → word_at (w ++ rest) ≡ (w, rest)
word_past w rest h stop =
    ap (λ n. (take n (w ++ rest), drop n (w ++ rest))) (letters_past w rest h stop) ∙ ap (λ (x : List ℕ). (x, drop (length w) (w ++ rest))) (take-append_seam w rest) ∙ ap (λ (x : List ℕ). (w, x)) (drop-append_seam w rest)

pub word_last : (w : List ℕ) → is_word w ≡ true → word_at w ≡ (w, [])
word_last w h = ap word_at (sym (append-nil w)) ∙ word_past w [] h refl

-- ---- names

or_shift : (a b c d : Bool) → ((a || b) || c || d) ≡ true → (a || (c || (b || d))) ≡ true
or_shift true b c d h = refl
or_shift false true true d h = refl
or_shift false true false d h = refl
or_shift false false true d h = refl
or_shift false false false d h = h

or_start : (a b c d : Bool) → (b || c || d) ≡ true → (a || (c || (b || d))) ≡ true
or_start true b c d h = refl
or_start false true true d h = refl
or_start false true false d h = refl
or_start false false true d h = refl
or_start false false false d h = h

byte_is_letter : (b : ℕ) → is_name_byte b ≡ true → is_letter b ≡ true
byte_is_letter b h = or_shift (is_in_range 48 57 b) (is_in_range 65 90 b) (is_in_range 97 122 b) (b == 95) h

start_is_letter : (b : ℕ) → is_name_start b ≡ true → is_letter b ≡ true
start_is_letter b h = or_start (is_in_range 48 57 b) (is_in_range 65 90 b) (is_in_range 97 122 b) (b == 95) h

bytes_are_word : (bs : List ℕ) → list_all is_name_byte bs ≡ true → is_word bs ≡ true
bytes_are_word [] h = refl
bytes_are_word (b ∷ bs) h =
    let parts = and_parts (is_name_byte b) (list_all is_name_byte bs) h in
    both_true (byte_is_letter b parts.0) (bytes_are_word bs parts.1)

pub name_is_word : (name : List ℕ) → is_name name ≡ true → is_word name ≡ true
name_is_word [] h = absurd cc
name_is_word (b ∷ bs) h =
    let parts = and_parts (is_name_start b && nat_le (length bs) 63) (list_all is_name_byte bs) h in
    let start = and_parts (is_name_start b) (nat_le (length bs) 63) parts.0 in
    both_true (start_is_letter b start.0) (bytes_are_word bs parts.1)

pub name_past : (name rest : List ℕ) → is_name name ≡ true → no_letter rest ≡ true → name_at (name ++ rest) ≡ (name, rest)
name_past name rest h stop =
    ap (λ (w : List ℕ × List ℕ). (named w.0, w.1)) (word_past name rest (name_is_word name h) stop) ∙ ap (λ v. (cond v name (decimal 0), rest)) h

-- ---- lists

-- a text that is read again before what is no part of it
pub record Reads {A : Type 0} (text : A → List ℕ) (item : List ℕ → A × List ℕ) (Fit : A → Type 0) (stop : List ℕ → Bool) : Type 0 where
  pub past : (x : A) (rest : List ℕ) → Fit x → stop rest ≡ true → item (text x ++ rest) ≡ (x, rest)
  pub comma : (rest : List ℕ) → stop (44 ∷ rest) ≡ true

pub listed-cons : {A : Type 0} (text : A → List ℕ) (x y : A) (ys rest : List A) → listed text (x ∷ y ∷ ys) ≡ text x ++ (44 ∷ 32 ∷ listed text (y ∷ ys))
listed-cons text x y ys rest = ap (λ (z : List ℕ). text x ++ z) (flat_map-cons (λ y. codes ", " ++ text y) y ys)

listed_past : {A : Type 0} (text : A → List ℕ) (item : List ℕ → A × List ℕ) (Fit : A → Type 0) (stop : List ℕ → Bool) → Reads text item Fit stop
    → (x : A) (xs : List A) (rest : List ℕ) (n : ℕ) → length xs < n → AllByRecursion Fit (x ∷ xs) → stop rest ≡ true → after_comma rest ≡ None
    → listed_at item n (listed text (x ∷ xs) ++ rest) ≡ (x ∷ xs, rest)
unfolding listed_at
listed_past text item Fit stop reads x xs rest zero lt fits h end = absurd (omega arith)
listed_past text item Fit stop reads x [] rest (suc n) lt fits h end =
    ap (λ bs. listed_on (listed_at item n) (item bs).0 (item bs).1 (after_comma (item bs).1)) (ap (λ (z : List ℕ). z ++ rest) (append-nil (text x)))
    ∙ ap (λ y. listed_on (listed_at item n) y.0 y.1 (after_comma y.1)) (reads.past x rest fits.0 h)
    ∙ ap (λ o. listed_on (listed_at item n) x rest o) end
listed_past {A = A} text item Fit stop reads x (y ∷ ys) rest (suc n) lt fits h end =
    let more = listed text (y ∷ ys) ++ rest in
    let regrouped : listed text (x ∷ y ∷ ys) ++ rest ≡ text x ++ (44 ∷ 32 ∷ more) = ap (λ (z : List ℕ). z ++ rest) (listed-cons text x y ys []) ∙ append_assoc (text x) (44 ∷ 32 ∷ listed text (y ∷ ys)) rest in
    ap (λ bs. listed_on (listed_at item n) (item bs).0 (item bs).1 (after_comma (item bs).1)) regrouped
    ∙ ap (λ y. listed_on (listed_at item n) y.0 y.1 (after_comma y.1)) (reads.past x (44 ∷ 32 ∷ more) fits.0 (reads.comma (32 ∷ more)))
    ∙ ap (λ (r : List A × List ℕ). (x ∷ r.0, r.1)) (listed_past text item Fit stop reads y ys rest n (omega arith) fits.1 h end)

longer : {A : Type 0} (text : A → List ℕ) (x : A) (xs : List A) → length xs ≤ length (listed text (x ∷ xs))
longer text x [] = omega arith
longer text x (y ∷ ys) = omega (arith, longer text y ys, ap length (listed-cons text x y ys []), length-append (text x) (44 ∷ 32 ∷ listed text (y ∷ ys)))

all_past : {A : Type 0} (text : A → List ℕ) (item : List ℕ → A × List ℕ) (Fit : A → Type 0) (stop : List ℕ → Bool) → Reads text item Fit stop
    → (x : A) (xs : List A) (rest : List ℕ) → AllByRecursion Fit (x ∷ xs) → stop rest ≡ true → after_comma rest ≡ None
    → listed_at item (suc (length (listed text (x ∷ xs) ++ rest))) (listed text (x ∷ xs) ++ rest) ≡ (x ∷ xs, rest)
all_past text item Fit stop reads x xs rest fits h end =
    listed_past text item Fit stop reads x xs rest (suc (length (listed text (x ∷ xs) ++ rest))) (omega (arith, longer text x xs, length-append (listed text (x ∷ xs)) rest)) fits h end

pub registers_past : (r : ℕ) (rs rest : List ℕ) → AreSmall (r ∷ rs) → no_digit rest ≡ true → after_comma rest ≡ None → registers_at (registers_text (r ∷ rs) ++ rest) ≡ (r ∷ rs, rest)
unfolding registers_at
registers_past r rs rest fits h end = all_past register_text register_at IsSmall no_digit (record { past = register_past; comma = λ rest. refl }) r rs rest fits h end

pub registers_last : (r : ℕ) (rs : List ℕ) → AreSmall (r ∷ rs) → registers_at (registers_text (r ∷ rs)) ≡ (r ∷ rs, [])
registers_last r rs fits = ap registers_at (sym (append-nil (registers_text (r ∷ rs)))) ∙ registers_past r rs [] fits refl refl

abbrev no_hand : List ℕ → Bool
no_hand rest = no_digit rest && not (begins 32 rest)

bare_past : (block : ℕ) (rest : List ℕ) → not (begins 32 rest) ≡ true → span_at block rest ≡ (record { block = block; span = None }, rest)
bare_past block [] h = refl
bare_past block (b ∷ bs) h =
    let offset = register_at (drop 6 (b ∷ bs)) in
    let count = register_at (drop 5 offset.1) in
    let spanned : Hand × List ℕ = (record { block = block; span = Some (offset.0, count.0) }, count.1) in
    let bare : Hand × List ℕ = (record { block = block; span = None }, b ∷ bs) in
    let P : Bool → Type 0 = λ t. not t ≡ true → cond t spanned bare ≡ bare in
    let all : (t : Bool) → P t = λ t. elim t as P [ true ↦ λ e. absurd cc | false ↦ λ e. refl ] in
    all (nat_eq b 32) h

by_span : (block : ℕ) (span : Option (ℕ × ℕ)) (rest : List ℕ) → IsSmall block → SpanFits span → no_hand rest ≡ true
    → hand_at (hand_text (record { block = block; span = span }) ++ rest) ≡ (record { block = block; span = span }, rest)
unfolding hand_at
by_span block None rest small fits h =
    let parts = and_parts (no_digit rest) (not (begins 32 rest)) h in
    ap (λ bs. span_at (register_at bs).0 (register_at bs).1) (ap (λ (z : List ℕ). z ++ rest) (append-nil (register_text block)))
    ∙ ap (λ y. span_at y.0 y.1) (register_past block rest small parts.0)
    ∙ bare_past block rest parts.1
by_span block (Some s) rest small fits h =
    let parts = and_parts (no_digit rest) (not (begins 32 rest)) h in
    let after = codes " for " ++ (register_text s.1 ++ rest) in
    let regrouped : hand_text (record { block = block; span = Some s }) ++ rest ≡ register_text block ++ (codes " from " ++ (register_text s.0 ++ after)) = simp append_assoc in
    ap (λ bs. span_at (register_at bs).0 (register_at bs).1) regrouped
    ∙ ap (λ y. span_at y.0 y.1) (register_past block (codes " from " ++ (register_text s.0 ++ after)) small refl)
    ∙ ap (λ (o : ℕ × List ℕ). let count = register_at (drop 5 o.1) in let x : Hand × List ℕ = (record { block = block; span = Some (o.0, count.0) }, count.1) in x) (register_past s.0 after fits.0 refl)
    ∙ ap (λ (c : ℕ × List ℕ). let x : Hand × List ℕ = (record { block = block; span = Some (s.0, c.0) }, c.1) in x) (register_past s.1 rest fits.1 parts.0)

hand_past : (x : Hand) (rest : List ℕ) → HandFits x → no_hand rest ≡ true → hand_at (hand_text x ++ rest) ≡ (x, rest)
hand_past x rest fits h = by_span x.block x.span rest fits.0 fits.1 h

pub hands_past : (x : Hand) (xs : List Hand) (rest : List ℕ) → AllByRecursion HandFits (x ∷ xs) → no_hand rest ≡ true → after_comma rest ≡ None → hands_at (hands_text (x ∷ xs) ++ rest) ≡ (x ∷ xs, rest)
unfolding hands_at
hands_past x xs rest fits h end = all_past hand_text hand_at HandFits no_hand (record { past = hand_past; comma = λ rest. refl }) x xs rest fits h end

pub no_comma : (b : ℕ) (rest : List ℕ) → nat_eq b 44 ≡ false → after_comma (b ∷ rest) ≡ None
no_comma b [] h = refl
no_comma b (c ∷ cs) h = ap (λ v. cond v (Some cs) None) h

or_left : (a b : Bool) → a ≡ true → (a || b) ≡ true
or_left true b h = refl
or_left false b h = absurd cc

digit_is_letter : (d : ℕ) → d < 10 → is_letter (48 + d) ≡ true
digit_is_letter d lt = or_left (is_digit (48 + d)) _ (digit_is d lt)

and_both : (a b : Bool) → a ≡ true → b ≡ true → (a && b) ≡ true
and_both true b h e = e
and_both false b h e = absurd cc

words_append : (xs ys : List ℕ) → is_word xs ≡ true → is_word ys ≡ true → is_word (xs ++ ys) ≡ true
words_append [] ys h e = e
words_append (x ∷ xs) ys h e = let parts = and_parts (is_letter x) (is_word xs) h in and_both (is_letter x) (is_word (xs ++ ys)) parts.0 (words_append xs ys parts.1 e)

pub register_is_word : (r : ℕ) → IsSmall r → is_word (register_text r) ≡ true
register_is_word r lt =
    let P : ℕ → List ℕ → Type 0 = λ n ds. is_word ds ≡ true in
    let digit : (d : ℕ) → d < 10 → is_word ((48 + d) ∷ []) ≡ true = λ d small. and_both (is_letter (48 + d)) true (digit_is_letter d small) refl in
    decimal_by_steps P digit (λ n ds large so_far. words_append ds ((48 + n % 10) ∷ []) so_far (digit (n % 10) (omega arith))) r (omega arith)

-- what stands behind the first of some registers and before ` = `
pub behind_first : (rs more : List ℕ) → let rest = flat_map (λ y. codes ", " ++ register_text y) rs ++ (32 ∷ more) in (no_letter rest ≡ true) × (begins 40 rest ≡ false)
behind_first [] more = (refl, refl)
behind_first (r ∷ rs) more =
    let P : List ℕ → Type 0 = λ z. (no_letter (z ++ (32 ∷ more)) ≡ true) × (begins 40 (z ++ (32 ∷ more)) ≡ false) in
    subst P (sym (flat_map-cons (λ y. codes ", " ++ register_text y) r rs)) (refl, refl)
