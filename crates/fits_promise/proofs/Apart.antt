-- The library's names are neither `main` nor a letter with a number.
use Rattle.std.specs.Prelude.{◌≡◌, ℕ, zero, suc, ◌+◌, ◌/◌, ◌%◌, ◌<◌, nat_le, Bool, true, false, ◌&&◌, not, cond, List, [], ◌∷◌, ◌++◌, Some, codes, decimal}
use Rattle.std.specs.Fmt.{digit_glyph, digits_onto, digits}
use Rattle.std.specs.Str.{bytes_eq}
use Rattle.std.proofs.Common.{refl, sym, ap, ◌∙◌, arith, eqb}
use Rattle.std.proofs.lemmas.Bool.{and_parts, le-leb, lt-ltb}
use Rattle.std.proofs.lemmas.Slice.Eq.{bytes_eq-Decides}
use Rattle.rule_table.specs.Library.{library}
use Rattle.soundness.specs.Nodes.{numbered}
use Rattle.soundness.specs.Shape.{names_of}
use Rattle.target_code.specs.declared.tree.Proc.{Proc}
use Rattle.target_meaning.specs.Leaf.{find}

-- ---- a number begins with a digit

abbrev is_digit : ℕ → Bool
is_digit c = nat_le 48 c && nat_le c 57

abbrev begins : List ℕ → Bool
begins [] = false
begins (c ∷ cs) = is_digit c

digit : (d : ℕ) → d < 10 → is_digit (digit_glyph false d) ≡ true
digit d l =
    ap (λ b. is_digit (cond b (48 + d) (87 + d))) (lt-ltb d 10 l)
    ∙ ap (λ b. b && nat_le (48 + d) 57) (le-leb 48 (48 + d) (omega (arith, l)))
    ∙ le-leb (48 + d) 57 (omega (arith, l))

abbrev last : ℕ → ℕ
last n = digit_glyph false (n % 10)

some_digits : (k n : ℕ) (more : List ℕ) → begins (digits_onto (suc k) 10 false n more) ≡ true
some_digits zero n more = by (eqb (n / 10) 0)
  where
    by : (b : Bool) → begins (cond b (last n ∷ more) (last n ∷ more)) ≡ true
    by true = digit (n % 10) (omega arith)
    by false = digit (n % 10) (omega arith)
some_digits (suc k) n more = by (eqb (n / 10) 0) (some_digits k (n / 10) (last n ∷ more))
  where
    by : (b : Bool) → begins (digits_onto (suc k) 10 false (n / 10) (last n ∷ more)) ≡ true → begins (cond b (last n ∷ more) (digits_onto (suc k) 10 false (n / 10) (last n ∷ more))) ≡ true
    by true h = digit (n % 10) (omega arith)
    by false h = h

as_digits : (n : ℕ) → digits_onto 64 10 false n [] ≡ decimal n
unfolding digits
as_digits n = refl

numbers_begin : (n : ℕ) → begins (decimal n) ≡ true
numbers_begin n = ap begins (sym (as_digits n)) ∙ some_digits 63 n []

-- ---- names that are apart from those of a program's own procedures

abbrev pub is_apart : List ℕ → Bool
is_apart [] = true
is_apart (c ∷ cs) = not (begins cs) && not (bytes_eq (c ∷ cs) (codes "main"))

abbrev pub all_apart : List Proc → Bool
all_apart [] = true
all_apart (p ∷ ps) = is_apart p.name && all_apart ps

pub library_apart : all_apart library ≡ true
unfolding library
library_apart = refl

not_numbered : (x i : ℕ) (name : List ℕ) → name ≡ (x ∷ []) ++ decimal i → is_apart name ≡ true → ⊥
not_numbered x i name e a =
    let parts = and_parts (not (begins (decimal i))) (not (bytes_eq (x ∷ decimal i) (codes "main"))) (ap is_apart (sym e) ∙ a) in
    let o : false ≡ true = sym (ap not (numbers_begin i)) ∙ parts.0 in
    cc o

not_main : (name : List ℕ) → name ≡ codes "main" → is_apart name ≡ true → ⊥
not_main name e a = let o : false ≡ true = ap is_apart (sym e) ∙ a in cc o

-- ---- such a name is looked for behind them

past_one : (p : Proc) (ps : List Proc) (name : List ℕ) → (p.name ≡ name → ⊥) → find (p ∷ ps) name ≡ find ps name
past_one p ps name other = by (bytes_eq p.name name) refl
  where
    by : (b : Bool) → bytes_eq p.name name ≡ b → cond b (Some p) (find ps name) ≡ find ps name
    by true e = absurd (other ((bytes_eq-Decides p.name name).0 e))
    by false e = refl

pub past_main : (main : Proc) (ps : List Proc) (name : List ℕ) → main.name ≡ codes "main" → is_apart name ≡ true → find (main ∷ ps) name ≡ find ps name
past_main main ps name e a = past_one main ps name (λ same. not_main name (sym same ∙ e) a)

pub past_numbered : (x i n : ℕ) (ps more : List Proc) (name : List ℕ) → names_of ps ≡ numbered (x ∷ []) i n → is_apart name ≡ true → find (ps ++ more) name ≡ find more name
past_numbered x i zero [] more name e a = refl
past_numbered x i zero (p ∷ ps) more name e a = absurd (cc e)
past_numbered x i (suc n) [] more name e a = absurd (cc e)
past_numbered x i (suc n) (p ∷ ps) more name e a =
    let here : p.name ≡ (x ∷ []) ++ decimal i = cc e in
    let later : names_of ps ≡ numbered (x ∷ []) (suc i) n = cc e in
    past_one p (ps ++ more) name (λ same. not_numbered x i name (sym same ∙ here) a) ∙ past_numbered x (suc i) n ps more name later a
