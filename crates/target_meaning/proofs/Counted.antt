-- Counts as words, and lines from another first line.
use Rattle.std.proofs.Common.{◌≡◌, ℕ, zero, suc, ◌+◌, ◌-◌, ◌<◌, ◌≤◌, List, [], ◌∷◌, length, drop, get_or, refl, sym, ap, ◌∙◌, arith}
use Rattle.std.proofs.Math.Numerals.{add-one}
use Rattle.std.specs.Prelude.{Option, Some, None, slice_get}
use Rattle.target_code.specs.declared.tree.Instr.{Instr, out-Instr}
use Rattle.target_code.specs.declared.tree.Instr.TheOpen as Open
use Rattle.target_code.specs.declared.tree.Code.{Code}
use Rattle.target_meaning.specs.declared.place.Inner.{Inner}
use Rattle.target_meaning.specs.declared.place.Inner.TheVariants.{Yes, No, Cond, Body}
use Rattle.target_meaning.specs.declared.place.Outer.{Outer}
use Rattle.target_meaning.specs.Lines.{counted, lines_of, lines_all, line_in}
use Rattle.target_meaning.specs.Place.{inner_of, inner_line, inner_first, place_line}

pub counted_add : (a b c : ℕ) → counted (counted (a + counted b) + c) ≡ counted (a + b + c)
counted_add a b c = omega arith

-- two counts and three more
pub counted_block : (x y a b : ℕ) → x ≡ counted a → y ≡ counted b → counted (3 + (x + y)) ≡ counted (3 + (a + b))
counted_block x y a b e f = omega (arith, e, f)

-- the count at the end of a list
pub lines_end : (is : List Instr) (n lines : ℕ) → lines < 18446744073709551616 → length is ≤ n → lines ≡ counted (lines + lines_all (drop n is))
lines_end [] zero lines lt le = omega (arith, lt)
lines_end [] (suc n) lines lt le = omega (arith, lt)
lines_end (x ∷ xs) zero lines lt le = absurd (let f : ⊥ = omega (arith, le) in f)
lines_end (x ∷ xs) (suc n) lines lt le = lines_end xs n lines lt (omega (arith, le))

pub counted_both : (a b : ℕ) → counted (counted a + counted b) ≡ counted (a + b)
counted_both a b = omega arith

pub counted_word : (a : ℕ) → a < 18446744073709551616 → counted a ≡ a
counted_word a lt = omega (arith, lt)

pub line_from : (first : ℕ) (is : List Instr) (n : ℕ) → line_in first is n ≡ first + line_in 0 is n
line_from first [] n = omega arith
line_from first (i ∷ is) zero = omega arith
line_from first (i ∷ is) (suc n) = omega (arith, line_from (first + lines_of i) is n, line_from (0 + lines_of i) is n)

pub line_past : (first : ℕ) (is : List Instr) → line_in first is (length is) ≡ first + lines_all is
line_past first [] = omega arith
line_past first (i ∷ is) = omega (arith, line_past (first + lines_of i) is)

-- the same line from a count that is cut off
pub line_counted : (a b : ℕ) (is : List Instr) (n : ℕ) → counted (line_in (counted (a + counted b)) is n) ≡ counted (line_in (a + b) is n)
line_counted a b is n =
    ap counted (line_from (counted (a + counted b)) is n) ∙ counted_add a b (line_in 0 is n) ∙ ap counted (sym (line_from (a + b) is n))

-- one instruction more of a list
line_next : (is : List Instr) (n left lines next : ℕ) (d : Instr) → n < length is → 0 < left → next ≡ counted (lines + counted (lines_of (get_or is n d))) → counted (line_in next (drop (suc n) is) (left - 1)) ≡ counted (line_in lines (drop n is) left)
line_next [] n left lines next d lt some e = absurd (let f : ⊥ = omega (arith, lt) in f)
line_next (x ∷ xs) zero zero lines next d lt some e = absurd (let f : ⊥ = omega (arith, some) in f)
line_next (x ∷ xs) zero (suc left) lines next d lt some e =
    ap (λ m. counted (line_in next xs m)) (let f : suc left - 1 ≡ left = omega arith in f) ∙ ap (λ m. counted (line_in m xs left)) e ∙ line_counted lines (lines_of x) xs left
line_next (x ∷ xs) (suc n) left lines next d lt some e = line_next xs n left lines next d (omega (arith, lt)) some e

pub line_more : (is : List Instr) (n left lines next : ℕ) (d : Instr) → n < length is → (left ≡ 0 → ⊥) → next ≡ counted (lines + counted (lines_of (get_or is n d))) → counted (line_in next (drop (n + 1) is) (left - 1)) ≡ counted (line_in lines (drop n is) left)
line_more is n left lines next d lt some e =
    ap (λ m. counted (line_in next (drop m is) (left - 1))) (add-one n) ∙ line_next is n left lines next d lt (let f : 0 < left = grind (arith, some) in f) e

pub line_all : (is : List Instr) → line_in 0 is (length is) ≡ lines_all is
line_all is = omega (arith, line_past 0 is)

pub line_end : (is : List Instr) (n left lines : ℕ) → lines < 18446744073709551616 → length is ≤ n → lines ≡ counted (line_in lines (drop n is) left)
line_end [] zero left lines lt le = omega (arith, lt)
line_end [] (suc n) left lines lt le = omega (arith, lt)
line_end (x ∷ xs) zero left lines lt le = absurd (let f : ⊥ = omega (arith, le) in f)
line_end (x ∷ xs) (suc n) left lines lt le = line_end xs n left lines lt (omega (arith, le))

pub line_here : (is : List Instr) (n lines : ℕ) → lines < 18446744073709551616 → lines ≡ counted (line_in lines (drop n is) 0)
line_here [] zero lines lt = omega (arith, lt)
line_here [] (suc n) lines lt = omega (arith, lt)
line_here (x ∷ xs) zero lines lt = omega (arith, lt)
line_here (x ∷ xs) (suc n) lines lt = line_here xs n lines lt

pub lines_next : (is : List Instr) (n : ℕ) (d : Instr) → n < length is → lines_all (drop n is) ≡ lines_of (get_or is n d) + lines_all (drop (suc n) is)
lines_next [] n d lt = absurd (let f : ⊥ = omega (arith, lt) in f)
lines_next (x ∷ xs) zero d lt = refl
lines_next (x ∷ xs) (suc n) d lt = lines_next xs n d (omega (arith, lt))

-- where an inner code begins
inner_line_from : (k : Inner) (line : ℕ) (o : Open.Instr-F Instr Code) → inner_line k line o ≡ line + inner_line k 0 o
inner_line_from Yes line o = omega arith
inner_line_from Cond line o = omega arith
inner_line_from No line (Open.If t c d) = omega arith
inner_line_from No line (Open.Const to v) = omega arith
inner_line_from No line (Open.Mov to from) = omega arith
inner_line_from No line (Open.Calc to word l r) = omega arith
inner_line_from No line (Open.Load to b i) = omega arith
inner_line_from No line (Open.Store b i v) = omega arith
inner_line_from No line (Open.Alloc to n) = omega arith
inner_line_from No line (Open.Free b) = omega arith
inner_line_from No line (Open.While c t d) = omega arith
inner_line_from No line (Open.Call to name args) = omega arith
inner_line_from No line (Open.Par l r) = omega arith
inner_line_from Body line (Open.While c t d) = omega arith
inner_line_from Body line (Open.Const to v) = omega arith
inner_line_from Body line (Open.Mov to from) = omega arith
inner_line_from Body line (Open.Calc to word l r) = omega arith
inner_line_from Body line (Open.Load to b i) = omega arith
inner_line_from Body line (Open.Store b i v) = omega arith
inner_line_from Body line (Open.Alloc to n) = omega arith
inner_line_from Body line (Open.Free b) = omega arith
inner_line_from Body line (Open.If t c d) = omega arith
inner_line_from Body line (Open.Call to name args) = omega arith
inner_line_from Body line (Open.Par l r) = omega arith

pub inner_from : (k : Inner) (line : ℕ) (o : Option Instr) → inner_first k line o ≡ line + inner_first k 0 o
inner_from k line None = omega arith
inner_from k line (Some i) = inner_line_from k line (out-Instr i)

pub place_from : (first : ℕ) (is : List Instr) (os : List Outer) (n : ℕ) → place_line first is os n ≡ first + place_line 0 is os n
place_from first is [] n = line_from first is n
place_from first is (o ∷ os) n =
    place_from (inner_first o.inner (line_in first is o.index) (slice_get is o.index)) (inner_of o.inner (slice_get is o.index)) os n ∙
    ap (λ x. x + place_line 0 (inner_of o.inner (slice_get is o.index)) os n) shift ∙
    let same = place_from (inner_first o.inner (line_in 0 is o.index) (slice_get is o.index)) (inner_of o.inner (slice_get is o.index)) os n in
    omega (arith, same)
  where
    shift : inner_first o.inner (line_in first is o.index) (slice_get is o.index) ≡ first + inner_first o.inner (line_in 0 is o.index) (slice_get is o.index)
    shift = omega (arith, inner_from o.inner (line_in first is o.index) (slice_get is o.index), inner_from o.inner (line_in 0 is o.index) (slice_get is o.index), line_from first is o.index)

-- one level more of a place
place_next : (is : List Instr) (os : List Outer) (k n first next : ℕ) (d : Outer) → k < length os → next ≡ counted (counted (first + counted (line_in 0 is (get_or os k d).index)) + counted (inner_first (get_or os k d).inner 0 (slice_get is (get_or os k d).index))) → counted (place_line next (inner_of (get_or os k d).inner (slice_get is (get_or os k d).index)) (drop (suc k) os) n) ≡ counted (place_line first is (drop k os) n)
place_next is [] k n first next d lt e = absurd (let f : ⊥ = omega (arith, lt) in f)
place_next is (o ∷ os) (suc k) n first next d lt e = place_next is os k n first next d (omega (arith, lt)) e
place_next is (o ∷ os) zero n first next d lt e =
    let x = slice_get is o.index in
    omega (arith, e, line_from first is o.index, inner_from o.inner (line_in first is o.index) x, place_from next (inner_of o.inner x) os n, place_from (inner_first o.inner (line_in first is o.index) x) (inner_of o.inner x) os n)

pub place_more : (is : List Instr) (os : List Outer) (k n first next : ℕ) (d : Outer) → k < length os → next ≡ counted (counted (first + counted (line_in 0 is (get_or os k d).index)) + counted (inner_first (get_or os k d).inner 0 (slice_get is (get_or os k d).index))) → counted (place_line next (inner_of (get_or os k d).inner (slice_get is (get_or os k d).index)) (drop (k + 1) os) n) ≡ counted (place_line first is (drop k os) n)
place_more is os k n first next d lt e =
    ap (λ m. counted (place_line next (inner_of (get_or os k d).inner (slice_get is (get_or os k d).index)) (drop m os) n)) (add-one k) ∙ place_next is os k n first next d lt e

pub place_end : (is : List Instr) (os : List Outer) (k n first : ℕ) → length os ≤ k → counted (first + counted (line_in 0 is n)) ≡ counted (place_line first is (drop k os) n)
place_end is [] zero n first le = omega (arith, line_from first is n)
place_end is [] (suc k) n first le = omega (arith, line_from first is n)
place_end is (o ∷ os) zero n first le = absurd (let f : ⊥ = omega (arith, le) in f)
place_end is (o ∷ os) (suc k) n first le = place_end is os k n first (omega (arith, le))

pub place_step : (is list : List Instr) (os : List Outer) (k n first x next : ℕ) (d : Outer) (o : Option Instr) → k < length os → o ≡ slice_get is (get_or os k d).index → x ≡ counted (first + counted (line_in 0 is (get_or os k d).index)) → next ≡ counted (x + counted (inner_first (get_or os k d).inner 0 o)) → list ≡ inner_of (get_or os k d).inner o → counted (place_line next list (drop (k + 1) os) n) ≡ counted (place_line first is (drop k os) n)
place_step is list os k n first x next d o lt at e f g =
    ap (λ l. counted (place_line next l (drop (k + 1) os) n)) (g ∙ ap (inner_of (get_or os k d).inner) at) ∙
    place_more is os k n first next d lt
    (f ∙ ap (λ m. counted (m + counted (inner_first (get_or os k d).inner 0 o))) e ∙ ap (λ p. counted (counted (first + counted (line_in 0 is (get_or os k d).index)) + counted (inner_first (get_or os k d).inner 0 p))) at)
