-- A text is cut at the first line that is exactly some words.
use Rattle.std.proofs.Common.{◌≡◌, ℕ, suc, ◌+◌, ◌-◌, nat_eq, cond, ◌||◌, Bool, true, false, true≢false, List, [], ◌∷◌, ◌++◌, length, take, refl, ap, sym, subst, ◌∙◌, append_assoc, append-nil, arith}
use Rattle.std.specs.List.{list_all}
use Rattle.std.specs.Str.{bytes_eq}
use Rattle.std.proofs.lemmas.Bool.{eqb-true}
use Rattle.std.proofs.lemmas.List.{append_cancel_right, length-append}
use Rattle.std.proofs.lemmas.List.Concat.{flat_map-cons}
use Rattle.std.proofs.lemmas.Slice.Eq.{bytes_eq-Decides}
use Rattle.std.proofs.Math.Seq.{take-append_seam}
use Rattle.proof_text.specs.Readings.{in_front, lines_of}
use Rattle.proof_text.specs.Guesses.{Lacks}
use Rattle.proof_text.specs.Parts.{is_line, lines_before, lines_after, joined}
use Rattle.proof_text.proofs.Cuts.{has}
use Rattle.proof_text.proofs.Lines.{lines_cut, lines_last}

differ : (xs ys : List ℕ) → (xs ≡ ys → ⊥) → bytes_eq xs ys ≡ false
differ xs ys unlike = by_test (bytes_eq xs ys) refl
  where
    by_test : (v : Bool) → bytes_eq xs ys ≡ v → v ≡ false
    by_test true e = absurd (unlike ((bytes_eq-Decides xs ys).0 e))
    by_test false e = refl

equal : (xs ys : List ℕ) → xs ≡ ys → bytes_eq xs ys ≡ true
equal xs ys e = (bytes_eq-Decides xs ys).1 e

apart : (xs ys : List ℕ) → bytes_eq xs ys ≡ false → xs ≡ ys → ⊥
apart xs ys unlike e = true≢false (sym (equal xs ys e) ∙ unlike)

-- a line with a line feed
is_the_line : (words line : List ℕ) → Lacks 10 words → bytes_eq line words ≡ true → is_line words (line ++ (10 ∷ [])) ≡ true
is_the_line words line lacks is =
    let fed = line ++ (10 ∷ []) in
    let bare : bytes_eq fed words ≡ false = differ fed words (λ e. has 10 line [] (subst (Lacks 10) (sym e) lacks)) in
    let whole : bytes_eq fed (words ++ (10 ∷ [])) ≡ true = equal fed (words ++ (10 ∷ [])) (ap (λ (z : List ℕ). z ++ (10 ∷ [])) ((bytes_eq-Decides line words).0 is)) in
    ap (λ v. v || bytes_eq fed (words ++ (10 ∷ []))) bare ∙ whole

is_another_line : (words line : List ℕ) → Lacks 10 words → bytes_eq line words ≡ false → is_line words (line ++ (10 ∷ [])) ≡ false
is_another_line words line lacks unlike =
    let fed = line ++ (10 ∷ []) in
    let bare : bytes_eq fed words ≡ false = differ fed words (λ e. has 10 line [] (subst (Lacks 10) (sym e) lacks)) in
    let whole : bytes_eq fed (words ++ (10 ∷ [])) ≡ false = differ fed (words ++ (10 ∷ [])) (λ e. apart line words unlike (append_cancel_right line words (10 ∷ []) e)) in
    ap (λ v. v || bytes_eq fed (words ++ (10 ∷ []))) bare ∙ whole

-- the last line, without one
is_the_last : (words line : List ℕ) → Lacks 10 line → (v : Bool) → bytes_eq line words ≡ v → is_line words line ≡ v
is_the_last words line lacks true is = ap (λ v. v || bytes_eq line (words ++ (10 ∷ []))) is
is_the_last words line lacks false is =
    let whole : bytes_eq line (words ++ (10 ∷ [])) ≡ false = differ line (words ++ (10 ∷ [])) (λ e. has 10 words [] (subst (Lacks 10) e lacks)) in
    ap (λ v. v || bytes_eq line (words ++ (10 ∷ []))) is ∙ whole

pub joined-cons : (l : List ℕ) (ls : List (List ℕ)) → joined (l ∷ ls) ≡ l ++ joined ls
joined-cons l ls = flat_map-cons (λ (x : List ℕ). x) l ls

in_front_joined : (b : ℕ) (ls : List (List ℕ)) → joined (in_front b ls) ≡ b ∷ joined ls
in_front_joined b [] = joined-cons (b ∷ []) []
in_front_joined b (l ∷ ls) = joined-cons (b ∷ l) ls ∙ ap (λ (z : List ℕ). b ∷ z) (sym (joined-cons l ls))

pub all_lines : (text : List ℕ) → joined (lines_of text) ≡ text
all_lines [] = refl
all_lines (b ∷ bs) = by_test (nat_eq b 10) refl (all_lines bs)
  where
    by_test : (v : Bool) → nat_eq b 10 ≡ v → joined (lines_of bs) ≡ bs → joined (lines_of (b ∷ bs)) ≡ b ∷ bs
    by_test true e rest =
        ap (λ v. joined (cond v ((10 ∷ []) ∷ lines_of bs) (in_front b (lines_of bs)))) e ∙ joined-cons (10 ∷ []) (lines_of bs) ∙ ap (λ (z : List ℕ). 10 ∷ z) rest ∙ ap (λ z. z ∷ bs) (sym (eqb-true b 10 e))
    by_test false e rest =
        ap (λ v. joined (cond v ((10 ∷ []) ∷ lines_of bs) (in_front b (lines_of bs)))) e ∙ in_front_joined b (lines_of bs) ∙ ap (λ (z : List ℕ). b ∷ z) rest

-- what went before the rest holds no such line
pub record IsBehind (words text rest : List ℕ) : Type 0 where
  pub front : List ℕ
  pub split : text ≡ front ++ rest
  pub before : front ++ joined (lines_before words (lines_of rest)) ≡ joined (lines_before words (lines_of text))
  pub after : lines_after words (lines_of rest) ≡ lines_after words (lines_of text)

pub all_behind : (words text : List ℕ) → IsBehind words text text
all_behind words text = record { front = []; split = refl; before = refl; after = refl }

before_first : (words rest line after : List ℕ) → rest ≡ line ++ (10 ∷ after) → Lacks 10 line → (v : Bool) → is_line words (line ++ (10 ∷ [])) ≡ v → lines_before words (lines_of rest) ≡ cond v [] ((line ++ (10 ∷ [])) ∷ lines_before words (lines_of after))
before_first words rest line after e lacks v is =
    ap (lines_before words) (ap lines_of e ∙ lines_cut line after lacks) ∙ ap (λ t. cond t [] ((line ++ (10 ∷ [])) ∷ lines_before words (lines_of after))) is

after_first : (words rest line after : List ℕ) → rest ≡ line ++ (10 ∷ after) → Lacks 10 line → (v : Bool) → is_line words (line ++ (10 ∷ [])) ≡ v → lines_after words (lines_of rest) ≡ cond v (lines_of after) (lines_after words (lines_of after))
after_first words rest line after e lacks v is =
    ap (lines_after words) (ap lines_of e ∙ lines_cut line after lacks) ∙ ap (λ t. cond t (lines_of after) (lines_after words (lines_of after))) is

pub next_behind : (words text rest line after : List ℕ) → Lacks 10 words → IsBehind words text rest → rest ≡ line ++ (10 ∷ after) → Lacks 10 line → bytes_eq line words ≡ false → IsBehind words text after
next_behind words text rest line after free b e lacks unlike =
    let fed = line ++ (10 ∷ []) in
    let is = is_another_line words line free unlike in
    let regrouped : b.front ++ rest ≡ (b.front ++ fed) ++ after = ap (λ (z : List ℕ). b.front ++ z) (e ∙ sym (append_assoc line (10 ∷ []) after)) ∙ sym (append_assoc b.front fed after) in
    let lines : joined (lines_before words (lines_of rest)) ≡ fed ++ joined (lines_before words (lines_of after)) = ap joined (before_first words rest line after e lacks false is) ∙ joined-cons fed (lines_before words (lines_of after)) in
    record {
      front = b.front ++ fed;
      split = b.split ∙ regrouped;
      before = append_assoc b.front fed (joined (lines_before words (lines_of after))) ∙ ap (λ (z : List ℕ). b.front ++ z) (sym lines) ∙ b.before;
      after = sym (after_first words rest line after e lacks false is) ∙ b.after;
    }

-- the front of the text
taken : (text front rest : List ℕ) → text ≡ front ++ rest → take (length text - length rest) text ≡ front
taken text front rest e =
    let count : length text - length rest ≡ length front = omega (arith, ap length e, length-append front rest) in
    ap (λ n. take n text) count ∙ ap (λ (z : List ℕ). take (length front) z) e ∙ take-append_seam front rest

pub rest_within : (words text rest : List ℕ) → IsBehind words text rest → length rest + length (take (length text - length rest) text) ≡ length text
rest_within words text rest b = omega (arith, ap length (taken text b.front rest b.split), ap length b.split, length-append b.front rest)

-- the line is found
pub found_before : (words text rest line after : List ℕ) → Lacks 10 words → IsBehind words text rest → rest ≡ line ++ (10 ∷ after) → Lacks 10 line → bytes_eq line words ≡ true → take (length text - length rest) text ≡ joined (lines_before words (lines_of text))
found_before words text rest line after free b e lacks is =
    let none : lines_before words (lines_of rest) ≡ [] = before_first words rest line after e lacks true (is_the_line words line free is) in
    taken text b.front rest b.split ∙ sym (append-nil b.front) ∙ ap (λ ls. b.front ++ joined ls) (sym none) ∙ b.before

pub found_after : (words text rest line after : List ℕ) → Lacks 10 words → IsBehind words text rest → rest ≡ line ++ (10 ∷ after) → Lacks 10 line → bytes_eq line words ≡ true → lines_of after ≡ lines_after words (lines_of text)
found_after words text rest line after free b e lacks is = sym (after_first words rest line after e lacks true (is_the_line words line free is)) ∙ b.after

-- it is the last one, or there is none
pub last_before : (words text rest : List ℕ) → IsBehind words text rest → Lacks 10 rest → bytes_eq rest words ≡ true → take (length text - length rest) text ≡ joined (lines_before words (lines_of text))
last_before words text rest b lacks is = taken text b.front rest b.split ∙ sym (append-nil b.front) ∙ ap (λ ls. b.front ++ joined ls) (sym (none rest lacks is)) ∙ b.before
  where
    none : (rest : List ℕ) → Lacks 10 rest → bytes_eq rest words ≡ true → lines_before words (lines_of rest) ≡ []
    none [] lacks is = refl
    none (c ∷ cs) lacks is = ap (lines_before words) (lines_last c cs lacks) ∙ ap (λ t. cond t [] ((c ∷ cs) ∷ [])) (is_the_last words (c ∷ cs) lacks true is)

pub last_after : (words text rest : List ℕ) → IsBehind words text rest → Lacks 10 rest → [] ≡ lines_after words (lines_of text)
last_after words text rest b lacks = sym (none rest lacks) ∙ b.after
  where
    both : (v : Bool) → cond {A = List (List ℕ)} v [] [] ≡ []
    both true = refl
    both false = refl

    none : (rest : List ℕ) → Lacks 10 rest → lines_after words (lines_of rest) ≡ []
    none [] lacks = refl
    none (c ∷ cs) lacks = ap (lines_after words) (lines_last c cs lacks) ∙ both (is_line words (c ∷ cs))

pub no_line : (words text rest : List ℕ) → IsBehind words text rest → Lacks 10 rest → bytes_eq rest words ≡ false → text ≡ joined (lines_before words (lines_of text))
no_line words text rest b lacks is = b.split ∙ ap (λ (z : List ℕ). b.front ++ z) (sym (all rest lacks is)) ∙ b.before
  where
    all : (rest : List ℕ) → Lacks 10 rest → bytes_eq rest words ≡ false → joined (lines_before words (lines_of rest)) ≡ rest
    all [] lacks is = refl
    all (c ∷ cs) lacks is =
        ap (λ ls. joined (lines_before words ls)) (lines_last c cs lacks) ∙ ap (λ t. joined (cond t [] ((c ∷ cs) ∷ []))) (is_the_last words (c ∷ cs) lacks false is)
        ∙ joined-cons (c ∷ cs) [] ∙ append-nil (c ∷ cs)
