-- The lines of a text.
use Rattle.std.proofs.Common.{◌≡◌, ℕ, zero, suc, ◌≤◌, cond, Bool, true, false, nat_eq, List, [], ◌∷◌, ◌++◌, length, take, drop, map, refl, ap, sym, ◌∙◌, arith}
use Rattle.std.specs.List.{flat_map, list_all, AllByRecursion}
use Rattle.std.proofs.lemmas.Bool.{eqb-true}
use Rattle.std.proofs.lemmas.List.{take-append-drop}
use Rattle.std.proofs.lemmas.Grind.{flat_map-append}
use Rattle.target_lines.specs.declared.line.Line.{Line}
use Rattle.target_lines.specs.Texts.{line_text, is_inside, IsOneLine}
use Rattle.target_lines.specs.Programs.{line_feed, lines_text}
use Rattle.target_lines.proofs.Pieces.{and_parts}
use Rattle.target_text.specs.Refusals.{in_front, lines_of_text}
use Rattle.target_text.proofs.SameTexts.{not_true}
use Rattle.target_text.proofs.Peeled.{feed_apart}

abbrev pub flat : List (List ℕ) → List ℕ
flat xss = flat_map (λ x. x) xss

front_flat : (b : ℕ) (xss : List (List ℕ)) → flat (in_front b xss) ≡ b ∷ flat xss
front_flat b [] = refl
front_flat b (x ∷ xss) = refl

-- together they are the text
pub flat_lines : (bs : List ℕ) → flat (lines_of_text bs) ≡ bs
flat_lines [] = refl
flat_lines (b ∷ bs) = by_byte (flat_lines bs) (nat_eq b 10) refl
  where
    by_byte : flat (lines_of_text bs) ≡ bs → (v : Bool) → nat_eq b 10 ≡ v → flat (cond v ((10 ∷ []) ∷ lines_of_text bs) (in_front b (lines_of_text bs))) ≡ b ∷ bs
    by_byte rest true e = ap (λ (x : List ℕ). 10 ∷ x) rest ∙ ap (λ c. c ∷ bs) (sym (eqb-true b 10 e))
    by_byte rest false e = front_flat b (lines_of_text bs) ∙ ap (λ (x : List ℕ). b ∷ x) rest

line_first : (xs rest : List ℕ) → IsOneLine xs → lines_of_text (xs ++ (10 ∷ rest)) ≡ (xs ++ 10 ∷ []) ∷ lines_of_text rest
line_first [] rest h = refl
line_first (b ∷ bs) rest h =
    let parts = and_parts (is_inside b) (list_all is_inside bs) h in
    ap (λ v. cond v ((10 ∷ []) ∷ lines_of_text (bs ++ (10 ∷ rest))) (in_front b (lines_of_text (bs ++ (10 ∷ rest))))) (not_true (nat_eq b 10) parts.0)
    ∙ ap (in_front b) (line_first bs rest parts.1)

abbrev pub AreInside : Bool → List Line → Type 0
AreInside lends ls = AllByRecursion (λ l. IsOneLine (line_text lends l)) ls

-- lines with their line feeds are lines of the text
pub lines_first : (lends : Bool) (ls : List Line) (rest : List ℕ) → AreInside lends ls → lines_of_text (lines_text lends ls ++ rest) ≡ map (line_feed lends) ls ++ lines_of_text rest
lines_first lends [] rest h = refl
lines_first lends (l ∷ ls) rest h =
    ap lines_of_text (feed_apart lends l ls rest)
    ∙ line_first (line_text lends l) (lines_text lends ls ++ rest) h.0
    ∙ ap (λ (x : List (List ℕ)). line_feed lends l ∷ x) (lines_first lends ls rest h.1)

pub fed_flat : (lends : Bool) (ls : List Line) → flat (map (line_feed lends) ls) ≡ lines_text lends ls
fed_flat lends [] = refl
fed_flat lends (l ∷ ls) = ap (λ (x : List ℕ). line_feed lends l ++ x) (fed_flat lends ls)

pub flat_split : (k : ℕ) (xss : List (List ℕ)) → flat xss ≡ flat (take k xss) ++ flat (drop k xss)
flat_split k xss = ap flat (sym (take-append-drop k xss)) ∙ flat_map-append (λ (x : List ℕ). x) (take k xss) (drop k xss)

-- so many are taken only where there are so many
pub taken_within : {A : Type 0} (k : ℕ) (xs ys : List A) → k ≤ length xs → take k xs ≡ take k ys → k ≤ length ys
taken_within k xs ys h e = within k ys (omega (arith, long k xs h, ap length e))
  where
    long : {B : Type 0} (n : ℕ) (zs : List B) → n ≤ length zs → length (take n zs) ≡ n
    long zero zs q = refl
    long (suc n) [] q = absurd (omega arith)
    long (suc n) (z ∷ zs) q = ap suc (long n zs (omega arith))

    within : {B : Type 0} (n : ℕ) (zs : List B) → n ≤ length (take n zs) → n ≤ length zs
    within zero zs q = omega arith
    within (suc n) [] q = q
    within (suc n) (z ∷ zs) q = omega (arith, within n zs (omega arith))

-- what is left has a line more
pub some_line : (bs : List ℕ) → (bs ≡ [] → ⊥) → 1 ≤ length (lines_of_text bs)
some_line [] some = absurd (some refl)
some_line (b ∷ bs) some = by_byte (nat_eq b 10)
  where
    fronted : (xss : List (List ℕ)) → 1 ≤ length (in_front b xss)
    fronted [] = omega arith
    fronted (x ∷ xss) = omega arith

    by_byte : (v : Bool) → 1 ≤ length (cond v ((10 ∷ []) ∷ lines_of_text bs) (in_front b (lines_of_text bs)))
    by_byte true = omega arith
    by_byte false = fronted (lines_of_text bs)
