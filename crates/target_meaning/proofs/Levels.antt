-- Lists of levels, and what is left to do where an inner code is through.
use Rattle.std.proofs.Common.{◌≡◌, ℕ, zero, suc, ◌+◌, ◌<◌, List, [], ◌∷◌, ◌++◌, drop, length, refl, sym, ap, ◌∙◌, arith, append_assoc, slice_set}
use Rattle.std.specs.Prelude.{Option, Some, None, slice_get, MatchOption}
use Rattle.target_code.specs.declared.tree.Instr.{Instr, out-Instr}
use Rattle.target_meaning.specs.declared.place.Outer.{Outer}
use Rattle.target_meaning.specs.declared.place.Inner.{Inner}
use Rattle.target_meaning.specs.declared.place.Inner.TheVariants.{Yes, No, Cond, Body}
use Rattle.target_meaning.specs.Leaf.{Item, Test, do_all}
use Rattle.target_meaning.specs.Place.{inner_of, inner_code, inner_first, after_inner, after_of, list_at, place_line, items_at}
use Rattle.target_meaning.specs.Lines.{lines_of, second_line, line_in}
use Rattle.target_meaning.specs.Settled.{IsLoop, AtTest}
use Rattle.target_meaning.proofs.Rest.{drop_none}

-- the measure of the way out
abbrev pub weight_of : Inner → ℕ
weight_of Body = 2
weight_of Yes = 1
weight_of No = 1
weight_of Cond = 1

abbrev pub weight : List Outer → ℕ
weight [] = 0
weight (o ∷ os) = weight_of o.inner + weight os

pub weight-snoc : (os : List Outer) (o : Outer) → weight (os ++ o ∷ []) ≡ weight os + weight_of o.inner
weight-snoc [] o = omega arith
weight-snoc (x ∷ xs) o = omega (arith, weight-snoc xs o)

pub weight_some : (k : Inner) → 0 < weight_of k
weight_some Body = omega arith
weight_some Yes = omega arith
weight_some No = omega arith
weight_some Cond = omega arith

-- a list with its last element
pub snoc_front : {A : Type 0} (xs ys : List A) (x y : A) → xs ++ x ∷ [] ≡ ys ++ y ∷ [] → xs ≡ ys
snoc_front [] [] x y e = refl
snoc_front [] (b ∷ []) x y e = cc e
snoc_front [] (b ∷ c ∷ ys) x y e = cc e
snoc_front (a ∷ []) [] x y e = cc e
snoc_front (a ∷ c ∷ xs) [] x y e = cc e
snoc_front (a ∷ xs) (b ∷ ys) x y e =
    let h : a ≡ b = cc e in
    let t : xs ++ x ∷ [] ≡ ys ++ y ∷ [] = cc e in
    cc (h, snoc_front xs ys x y t)

pub snoc_last : {A : Type 0} (xs ys : List A) (x y : A) → xs ++ x ∷ [] ≡ ys ++ y ∷ [] → x ≡ y
snoc_last [] [] x y e = cc e
snoc_last [] (b ∷ []) x y e = cc e
snoc_last [] (b ∷ c ∷ ys) x y e = cc e
snoc_last (a ∷ []) [] x y e = cc e
snoc_last (a ∷ c ∷ xs) [] x y e = cc e
snoc_last (a ∷ xs) (b ∷ ys) x y e =
    let t : xs ++ x ∷ [] ≡ ys ++ y ∷ [] = cc e in
    snoc_last xs ys x y t

pub set_last : {A : Type 0} (xs : List A) (x y : A) → slice_set (xs ++ x ∷ []) (length xs) y ≡ xs ++ y ∷ []
set_last [] x y = refl
set_last (a ∷ xs) x y = ap (λ l. a ∷ l) (set_last xs x y)

-- the innermost level of a place
pub snoc_list : (is : List Instr) (os : List Outer) (o : Outer) → list_at is (os ++ o ∷ []) ≡ inner_of o.inner (slice_get (list_at is os) o.index)
snoc_list is [] o = refl
snoc_list is (b ∷ os) o = snoc_list (inner_of b.inner (slice_get is b.index)) os o

pub snoc_items : (top : ℕ) (is : List Instr) (os : List Outer) (o : Outer) (n : ℕ) → items_at top is (os ++ o ∷ []) n ≡ drop n (do_all (inner_first o.inner (place_line top is os o.index) (slice_get (list_at is os) o.index)) (inner_of o.inner (slice_get (list_at is os) o.index))) ++ (after_of o.inner (place_line top is os o.index) (slice_get (list_at is os) o.index) ++ items_at top is os (suc o.index))
snoc_items top is [] o n = refl
snoc_items top is (b ∷ os) o n =
    let line = line_in top is b.index in
    let inner = inner_of b.inner (slice_get is b.index) in
    let from = inner_first b.inner line (slice_get is b.index) in
    let more = after_of b.inner line (slice_get is b.index) ++ drop (suc b.index) (do_all top is) in
    let here = place_line from inner os o.index in
    let x = drop n (do_all (inner_first o.inner here (slice_get (list_at inner os) o.index)) (inner_of o.inner (slice_get (list_at inner os) o.index))) in
    let y = after_of o.inner here (slice_get (list_at inner os) o.index) in
    let z = items_at from inner os (suc o.index) in
    ap (λ l. l ++ more) (snoc_items from inner os o n) ∙ append_assoc x (y ++ z) more ∙ ap (λ l. x ++ l) (append_assoc y z more)

-- past the end of a list nothing more is left than at its end
drop_past : (line : ℕ) (is : List Instr) (n : ℕ) → slice_get is n ≡ None → drop (suc n) (do_all line is) ≡ []
drop_past line [] n e = refl
drop_past line (x ∷ xs) zero e = cc e
drop_past line (x ∷ xs) (suc n) e = drop_past (line + lines_of x) xs n e

pub past_end : (top : ℕ) (is : List Instr) (os : List Outer) (n : ℕ) → slice_get (list_at is os) n ≡ None → items_at top is os (suc n) ≡ items_at top is os n
past_end top is [] n e = drop_past top is n e ∙ sym (drop_none top is n e)
past_end top is (b ∷ os) n e =
    ap (λ l. l ++ (after_of b.inner (line_in top is b.index) (slice_get is b.index) ++ drop (suc b.index) (do_all top is)))
    (past_end (inner_first b.inner (line_in top is b.index) (slice_get is b.index)) (inner_of b.inner (slice_get is b.index)) os n e)

module _ (top : ℕ) (is : List Instr) (os : List Outer) (o : Outer) (n : ℕ) (over : slice_get (list_at is (os ++ o ∷ [])) n ≡ None) where
  abbrev here : ℕ
  here = place_line top is os o.index

  -- an inner code that is through, at an instruction
  pub through : (i : Instr) → slice_get (list_at is os) o.index ≡ Some i → items_at top is (os ++ o ∷ []) n ≡ after_inner o.inner here (out-Instr i) ++ items_at top is os (suc o.index)
  through i e =
      let inner = inner_of o.inner (slice_get (list_at is os) o.index) in
      let from = inner_first o.inner here (slice_get (list_at is os) o.index) in
      let k : slice_get inner n ≡ None = ap (λ l. slice_get l n) (sym (snoc_list is os o)) ∙ over in
      snoc_items top is os o n ∙
      ap (λ l. l ++ (after_of o.inner here (slice_get (list_at is os) o.index) ++ items_at top is os (suc o.index))) (drop_none from inner n k) ∙
      ap (λ x. after_of o.inner here x ++ items_at top is os (suc o.index)) e

  pub none_there : slice_get (list_at is os) o.index ≡ None → items_at top is (os ++ o ∷ []) n ≡ items_at top is os o.index
  none_there e =
      let at : Option Instr → List Item = λ x. drop n (do_all (inner_first o.inner here x) (inner_of o.inner x)) ++ (after_of o.inner here x ++ items_at top is os (suc o.index)) in
      snoc_items top is os o n ∙ ap at e ∙ ap (λ l. l ++ items_at top is os (suc o.index)) (drop_nil n) ∙ past_end top is os o.index e
    where
      drop_nil : (m : ℕ) → drop {A = Item} m [] ≡ []
      drop_nil zero = refl
      drop_nil (suc m) = refl

-- the inner codes of a loop from their beginning
pub from_first : (top : ℕ) (is : List Instr) (os : List Outer) (m : ℕ) (i : Instr) (t : ℕ) → slice_get (list_at is os) m ≡ Some i → (l : IsLoop t i) → items_at top is (os ++ (record { index = m; inner = Cond }) ∷ []) 0 ≡ do_all (suc (place_line top is os m)) l.cond ++ Test (place_line top is os m) l.cond t l.body ∷ items_at top is os (suc m)
from_first top is os m i t e l =
    let line = place_line top is os m in
    let at : Option Instr → List Item = λ x. do_all (inner_first Cond line x) (inner_of Cond x) ++ (after_of Cond line x ++ items_at top is os (suc m)) in
    snoc_items top is os (record { index = m; inner = Cond }) 0 ∙ ap at e ∙
    ap (λ n. do_all n (inner_code Cond (out-Instr i)) ++ (after_inner Cond line (out-Instr i) ++ items_at top is os (suc m))) (l.first_line line) ∙
    ap (λ x. do_all (suc line) x ++ (after_inner Cond line (out-Instr i) ++ items_at top is os (suc m))) l.first_code ∙
    ap (λ x. do_all (suc line) l.cond ++ (x ++ items_at top is os (suc m))) (l.first line)

pub from_second : (top : ℕ) (is : List Instr) (os : List Outer) (m : ℕ) (i : Instr) (t : ℕ) → slice_get (list_at is os) m ≡ Some i → (l : IsLoop t i) → items_at top is (os ++ (record { index = m; inner = Body }) ∷ []) 0 ≡ do_all (second_line (place_line top is os m) l.cond) l.body ++ (do_all (suc (place_line top is os m)) l.cond ++ Test (place_line top is os m) l.cond t l.body ∷ items_at top is os (suc m))
from_second top is os m i t e l =
    let line = place_line top is os m in
    let at : Option Instr → List Item = λ x. do_all (inner_first Body line x) (inner_of Body x) ++ (after_of Body line x ++ items_at top is os (suc m)) in
    snoc_items top is os (record { index = m; inner = Body }) 0 ∙ ap at e ∙
    ap (λ n. do_all n (inner_code Body (out-Instr i)) ++ (after_inner Body line (out-Instr i) ++ items_at top is os (suc m))) (l.lines line) ∙
    ap (λ x. do_all (second_line line l.cond) x ++ (after_inner Body line (out-Instr i) ++ items_at top is os (suc m))) l.second_code ∙
    ap (λ x. do_all (second_line line l.cond) l.body ++ (x ++ items_at top is os (suc m))) (l.second line) ∙
    ap (λ x. do_all (second_line line l.cond) l.body ++ x) (append_assoc (do_all (suc line) l.cond) (Test line l.cond t l.body ∷ []) (items_at top is os (suc m)))

-- the list after a pop
snoc_some : {A : Type 0} (xs : List A) (x : A) → xs ++ x ∷ [] ≡ [] → ⊥
snoc_some [] x e = cc e
snoc_some (y ∷ ys) x e = cc e

pub popped : {A : Type 0} (r : Option A) (old new front : List A) (level : A) → MatchOption r ((old ≡ []) × (new ≡ [])) (λ last. old ≡ new ++ last ∷ []) → old ≡ front ++ level ∷ [] → new ≡ front
popped None old new front level p e = absurd (snoc_some front level (sym e ∙ p.0))
popped (Some last) old new front level p e = snoc_front new front last level (sym p ∙ e)

module _ (code : List Instr) (old new front : List Outer) (level : Outer) (n : ℕ) (split : old ≡ front ++ level ∷ []) where
  pub lighter : new ≡ front → weight new < weight old
  lighter e = rw (e, split) (omega (arith, weight-snoc front level, weight_some level.inner))

  pub lighter_again : new ≡ front ++ (record { index = level.index; inner = Cond }) ∷ [] → level.inner ≡ Body → weight new < weight old
  lighter_again e b =
      let w : weight_of level.inner ≡ 2 = ap weight_of b in
      rw (e, split) (omega (arith, weight-snoc front level, weight-snoc front (record { index = level.index; inner = Cond }), w))

  pub moved_none : new ≡ front → slice_get (list_at code old) n ≡ None → slice_get (list_at code front) level.index ≡ None → items_at 1 code new level.index ≡ items_at 1 code old n
  moved_none e over none =
      let k : slice_get (list_at code (front ++ level ∷ [])) n ≡ None = ap (λ l. slice_get (list_at code l) n) (sym split) ∙ over in
      ap (λ l. items_at 1 code l level.index) e ∙ sym (ap (λ l. items_at 1 code l n) split ∙ none_there 1 code front level n k none)

  module _ (i : Instr) (next : ℕ) (over : slice_get (list_at code old) n ≡ None) (there : slice_get (list_at code front) level.index ≡ Some i) (is : next ≡ suc level.index) where
    abbrev line : ℕ
    line = place_line 1 code front level.index

    from_inner : items_at 1 code old n ≡ after_inner level.inner line (out-Instr i) ++ items_at 1 code front next
    from_inner =
        let k : slice_get (list_at code (front ++ level ∷ [])) n ≡ None = ap (λ l. slice_get (list_at code l) n) (sym split) ∙ over in
        ap (λ l. items_at 1 code l n) split ∙ through 1 code front level n k i there ∙ ap (λ m. after_inner level.inner line (out-Instr i) ++ items_at 1 code front m) (sym is)

    pub moved_behind : new ≡ front → ((line : ℕ) → after_inner level.inner line (out-Instr i) ≡ []) → items_at 1 code new next ≡ items_at 1 code old n
    moved_behind e a =
        ap (λ l. items_at 1 code l next) e ∙ sym (from_inner ∙ ap (λ l. l ++ items_at 1 code front next) (a line))

    pub moved_again : new ≡ front ++ (record { index = level.index; inner = Cond }) ∷ [] → level.inner ≡ Body → (t : ℕ) (l : IsLoop t i) → items_at 1 code new 0 ≡ items_at 1 code old n
    moved_again e b t l =
        ap (λ x. items_at 1 code x 0) e ∙ from_first 1 code front level.index i t there l ∙ ap (λ m. do_all (suc line) l.cond ++ Test line l.cond t l.body ∷ items_at 1 code front m) (sym is) ∙
        sym (from_inner ∙ ap (λ k. after_inner k line (out-Instr i) ++ items_at 1 code front next) b ∙ ap (λ x. x ++ items_at 1 code front next) (l.second line) ∙ append_assoc (do_all (suc line) l.cond) (Test line l.cond t l.body ∷ []) (items_at 1 code front next))

    pub at_test : level.inner ≡ Cond → (t : ℕ) (l : IsLoop t i) → AtTest code t next old n
    at_test b t l = record {
      line = line;
      cond = l.cond;
      body = l.body;
      front = front;
      level = level;
      split = split;
      begins = refl;
      inside = sym (ap (λ x. list_at code x) split ∙ snoc_list code front level ∙ ap (λ x. inner_of level.inner x) there ∙ ap (λ k. inner_code k (out-Instr i)) b ∙ l.first_code);
      is = from_inner ∙ ap (λ k. after_inner k line (out-Instr i) ++ items_at 1 code front next) b ∙ ap (λ x. x ++ items_at 1 code front next) (l.first line);
      again = from_second 1 code front level.index i t there l ∙ ap (λ m. do_all (second_line line l.cond) l.body ++ (do_all (suc line) l.cond ++ Test line l.cond t l.body ∷ items_at 1 code front m)) (sym is);
    }
