-- Slices that go on one of two sides alone.
use Rattle.std.proofs.Common.{◌≡◌, ◌≤◌, ◌<◌, ℕ, suc, Bool, true, false, cond, ◌&&◌, ◌||◌, not, List, [], ◌∷◌, ◌++◌, length, refl, sym, ap, ◌∙◌, nat_eq, nat_lt, arith}
use Rattle.std.proofs.lemmas.Bool.{eqb-true, lt-ltb, le-ltb, ltb-true, true≢false}
use Rattle.std.specs.Prelude.{Option, Some, None}
use Rattle.rule_check.specs.Context.{Hold, Owned, Kept, Gone, Spot, is_slice, is_container, is_owned, is_gone, is_among, or_else, all_fall, falls, first_unmet}
use Rattle.context_laws.specs.Meeting.{earlier, free_slice, free_slice_at, one_sided, first_one, first_either, var_in, var_at}
use Rattle.context_laws.specs.Stacks.{spot_in, is_free, gone_one, falls_at}
use Rattle.context_laws.proofs.StacksLemmas.{among_more, same_length, falls_vars, var_cond, gone_twice}

spot_low : (ss : List Spot) (j : ℕ) → length ss ≤ j → spot_in ss j ≡ None
spot_low [] j h = refl
spot_low (s ∷ ss) j h = ap (λ b. cond b (Some s) (spot_in ss j)) (other (length ss) j (omega arith)) ∙ spot_low ss j (omega arith)
  where
    other : (a b : ℕ) → a < b → nat_eq a b ≡ false
    other a b h = grind arith

-- ---- places are below the count

abbrev Below : ℕ → Option ℕ → Type 0
Below n o = (i : ℕ) → o ≡ Some i → i < n

none_below : (n : ℕ) → Below n None
none_below n i e = absurd (let o : ⊥ = cc e in o)

some_below : (n i : ℕ) → i < n → Below n (Some i)
some_below n i h j e = let k : i ≡ j = cc in omega arith

else_below : (n : ℕ) (o : Option ℕ) (b : Bool) → Below n o → Below (suc n) (or_else o (cond b (Some n) None))
else_below n (Some i) b h = some_below (suc n) i (let k = h i refl in omega arith)
else_below n None true h = some_below (suc n) n (omega arith)
else_below n None false h = none_below (suc n)

one_below : (is js : List ℕ) (ss : List Spot) → Below (length ss) (first_one is js ss)
one_below is js [] = none_below 0
one_below is js (s ∷ ss) = else_below (length ss) (first_one is js ss) (is_among (length ss) is && (not (is_among (length ss) js) && free_slice s)) (one_below is js ss)

either_below : (is js : List ℕ) (ss : List Spot) → Below (length ss) (first_either is js ss)
either_below is js [] = none_below 0
either_below is js (s ∷ ss) =
    else_below (length ss) (first_either is js ss) (free_slice s && (is_among (length ss) is && not (is_among (length ss) js) || not (is_among (length ss) is) && is_among (length ss) js)) (either_below is js ss)

spot_below : (ss : List Spot) (i : ℕ) (s : Spot) → spot_in ss i ≡ Some s → i < length ss
spot_below ss i s e = elim (nat_lt i (length ss)) as (λ b. nat_lt i (length ss) ≡ b → i < length ss) [
  | true ↦ λ h. ltb-true i (length ss) h
  | false ↦ λ h. let n = spot_low ss i (not_less i (length ss) h) in absurd (let o : ⊥ = cc in o)
] refl
  where
    not_less : (a b : ℕ) → nat_lt a b ≡ false → b ≤ a
    not_less a b e = grind arith

sided_below : (js : List ℕ) (ss : List Spot) (i : ℕ) → Below (length ss) (one_sided js ss i)
sided_below js ss i = at_spot (spot_in ss i) refl (not (is_among i js))
  where
    at_spot : (o : Option Spot) → spot_in ss i ≡ o → (b : Bool) → Below (length ss) (cond (b && free_slice_at o) (Some i) None)
    at_spot None e true = none_below (length ss)
    at_spot None e false = none_below (length ss)
    at_spot (Some s) e false = none_below (length ss)
    at_spot (Some s) e true = at_free (free_slice s)
      where
        at_free : (c : Bool) → Below (length ss) (cond c (Some i) None)
        at_free true = some_below (length ss) i (spot_below ss i s e)
        at_free false = none_below (length ss)

less : (a b : ℕ) → a < b → nat_lt a b ≡ true
less a b h = lt-ltb a b h

not_more : (a b : ℕ) → b ≤ a → nat_lt a b ≡ false
not_more a b h = le-ltb a b h

earlier_none : (o : Option ℕ) → earlier o None ≡ o
earlier_none None = refl
earlier_none (Some i) = refl

-- ---- one more place

more_here : (m : ℕ) (p : Option ℕ) (a c : Bool) → Below m p → or_else p (cond ((a || true) && c) (Some m) None) ≡ earlier (or_else p (cond (a && c) (Some m) None)) (cond c (Some m) None)
more_here m (Some i) a true h = ap (λ b. cond b (Some i) (Some m)) (sym (less i m (h i refl)))
more_here m (Some i) a false h = refl
more_here m None true true h = ap (λ b. cond b (Some m) (Some m)) (sym (not_more m m (omega arith)))
more_here m None true false h = refl
more_here m None false true h = refl
more_here m None false false h = refl

more_there : (m : ℕ) (p q : Option ℕ) (b : Bool) → Below m p → Below m q → or_else (earlier p q) (cond b (Some m) None) ≡ earlier (or_else p (cond b (Some m) None)) q
more_there m (Some i) None b h k = refl
more_there m (Some i) (Some j) b h k = at_order (nat_lt i j)
  where
    at_order : (c : Bool) → or_else (cond c (Some i) (Some j)) (cond b (Some m) None) ≡ cond c (Some i) (Some j)
    at_order true = refl
    at_order false = refl
more_there m None None b h k = sym (earlier_none (cond b (Some m) None))
more_there m None (Some j) true h k = ap (λ c. cond c (Some m) (Some j)) (sym (not_more m j (let l = k j refl in omega arith)))
more_there m None (Some j) false h k = refl

or_no : (a : Bool) → (a || false) ≡ a
or_no true = refl
or_no false = refl

pub one_more : (is js : List ℕ) (k : ℕ) (ss : List Spot) → first_one (is ++ k ∷ []) js ss ≡ earlier (first_one is js ss) (one_sided js ss k)
one_more is js k [] = at_end (not (is_among k js))
  where
    at_end : (b : Bool) → None ≡ cond (b && false) (Some k) None
    at_end true = refl
    at_end false = refl
one_more is js k (s ∷ ss) =
    ap (λ b. or_else (first_one (is ++ k ∷ []) js ss) (cond (b && (not (is_among (length ss) js) && free_slice s)) (Some (length ss)) None)) (among_more (length ss) k is)
    ∙ at_place (nat_eq (length ss) k) refl (one_more is js k ss)
  where
    at_place : (b : Bool) → nat_eq (length ss) k ≡ b → first_one (is ++ k ∷ []) js ss ≡ earlier (first_one is js ss) (one_sided js ss k)
        → or_else (first_one (is ++ k ∷ []) js ss) (cond ((is_among (length ss) is || (b || false)) && (not (is_among (length ss) js) && free_slice s)) (Some (length ss)) None)
        ≡ earlier (or_else (first_one is js ss) (cond (is_among (length ss) is && (not (is_among (length ss) js) && free_slice s)) (Some (length ss)) None)) (cond (not (is_among k js) && free_slice_at (cond b (Some s) (spot_in ss k))) (Some k) None)
    at_place true e ih =
        let q : length ss ≡ k = eqb-true (length ss) k e in
        let none : one_sided js ss k ≡ None = ap (λ o. cond (not (is_among k js) && free_slice_at o) (Some k) None) (spot_low ss k (omega arith)) ∙ and_no (not (is_among k js)) in
        ap (λ o. or_else o (cond ((is_among (length ss) is || true) && (not (is_among (length ss) js) && free_slice s)) (Some (length ss)) None)) (ih ∙ ap (earlier (first_one is js ss)) none ∙ earlier_none (first_one is js ss))
        ∙ more_here (length ss) (first_one is js ss) (is_among (length ss) is) (not (is_among (length ss) js) && free_slice s) (one_below is js ss)
        ∙ ap (λ n. earlier (or_else (first_one is js ss) (cond (is_among (length ss) is && (not (is_among (length ss) js) && free_slice s)) (Some (length ss)) None)) (cond (not (is_among n js) && free_slice s) (Some n) None)) q
      where
        and_no : (a : Bool) → cond (a && false) (Some k) None ≡ None
        and_no true = refl
        and_no false = refl
    at_place false e ih =
        ap (λ o. or_else o (cond ((is_among (length ss) is || false) && (not (is_among (length ss) js) && free_slice s)) (Some (length ss)) None)) ih
        ∙ ap (λ b. or_else (earlier (first_one is js ss) (one_sided js ss k)) (cond (b && (not (is_among (length ss) js) && free_slice s)) (Some (length ss)) None)) (or_no (is_among (length ss) is))
        ∙ more_there (length ss) (first_one is js ss) (one_sided js ss k) (is_among (length ss) is && (not (is_among (length ss) js) && free_slice s)) (one_below is js ss) (sided_below js ss k)

-- ---- both sides

both_here : (m : ℕ) (p q : Option ℕ) (f a b : Bool) → Below m p → Below m q
    → earlier (or_else p (cond (a && (not b && f)) (Some m) None)) (or_else q (cond (b && (not a && f)) (Some m) None)) ≡ or_else (earlier p q) (cond (f && (a && not b || not a && b)) (Some m) None)
both_here m (Some i) (Some j) f a b h k = at_order (nat_lt i j)
  where
    at_order : (c : Bool) → cond c (Some i) (Some j) ≡ or_else (cond c (Some i) (Some j)) (cond (f && (a && not b || not a && b)) (Some m) None)
    at_order true = refl
    at_order false = refl
both_here m (Some i) None f a b h k = at_other (b && (not a && f))
  where
    at_other : (c : Bool) → earlier (Some i) (cond c (Some m) None) ≡ Some i
    at_other true = ap (λ c. cond c (Some i) (Some m)) (less i m (h i refl))
    at_other false = refl
both_here m None (Some j) f a b h k = at_other (a && (not b && f))
  where
    at_other : (c : Bool) → earlier (cond c (Some m) None) (Some j) ≡ Some j
    at_other true = ap (λ c. cond c (Some m) (Some j)) (not_more m j (let l = k j refl in omega arith))
    at_other false = refl
both_here m None None true true true h k = refl
both_here m None None true true false h k = refl
both_here m None None true false true h k = refl
both_here m None None true false false h k = refl
both_here m None None false true true h k = refl
both_here m None None false true false h k = refl
both_here m None None false false true h k = refl
both_here m None None false false false h k = refl

pub both_sides : (is js : List ℕ) (ss : List Spot) → earlier (first_one is js ss) (first_one js is ss) ≡ first_either is js ss
both_sides is js [] = refl
both_sides is js (s ∷ ss) =
    both_here (length ss) (first_one is js ss) (first_one js is ss) (free_slice s) (is_among (length ss) is) (is_among (length ss) js) (one_below is js ss) (one_below js is ss)
    ∙ ap (λ o. or_else o (cond (free_slice s && (is_among (length ss) is && not (is_among (length ss) js) || not (is_among (length ss) is) && is_among (length ss) js)) (Some (length ss)) None)) (both_sides is js ss)

-- ---- the slice is that of the entries

abbrev fallen : Bool → Spot → Spot
fallen a s = cond a (gone_one s) s

owned_there : (h : Hold) → is_owned h ≡ true → is_gone h ≡ false
owned_there Owned e = refl
owned_there Kept e = refl
owned_there Gone e = absurd (true≢false (sym e))

odd_itself : (r g : Bool) → (r && (g && not g || not g && g)) ≡ false
odd_itself true true = refl
odd_itself true false = refl
odd_itself false g = refl

same_rep : (a : Bool) (s : Spot) → is_slice (fallen a s).rep ≡ is_slice s.rep
same_rep true s = at_free (is_free s)
  where
    at_free : (b : Bool) → is_slice (cond b (record s { hold = Gone }) s).rep ≡ is_slice s.rep
    at_free true = refl
    at_free false = refl
same_rep false s = refl

gone_free : (z : Bool) (s : Spot) → is_free s ≡ z → is_gone (cond z (record s { hold = Gone }) s).hold ≡ (z || is_gone s.hold)
gone_free true s e = refl
gone_free false s e = refl

free_there : (s : Spot) → is_free s ≡ true → is_gone s.hold ≡ false
free_there s e = owned_there s.hold (first (is_owned s.hold) (is_container s.rep) e)
  where
    first : (a b : Bool) → (a && b) ≡ true → a ≡ true
    first true b e = refl
    first false b e = e

odd_fallen : (s : Spot) (a b : Bool) → (is_slice (fallen a s).rep && (is_gone (fallen a s).hold && not (is_gone (fallen b s).hold) || not (is_gone (fallen a s).hold) && is_gone (fallen b s).hold)) ≡ (free_slice s && (a && not b || not a && b))
odd_fallen s true true = odd_itself (is_slice (gone_one s).rep) (is_gone (gone_one s).hold) ∙ sym (and_no (free_slice s))
  where
    and_no : (x : Bool) → (x && false) ≡ false
    and_no true = refl
    and_no false = refl
odd_fallen s false false = odd_itself (is_slice s.rep) (is_gone s.hold) ∙ sym (and_no (free_slice s))
  where
    and_no : (x : Bool) → (x && false) ≡ false
    and_no true = refl
    and_no false = refl
odd_fallen s true false =
    ap (λ r. r && (is_gone (gone_one s).hold && not (is_gone s.hold) || not (is_gone (gone_one s).hold) && is_gone s.hold)) (same_rep true s)
    ∙ ap (λ g. is_slice s.rep && (g && not (is_gone s.hold) || not g && is_gone s.hold)) (gone_free (is_free s) s refl)
    ∙ at_free (is_free s) refl (is_slice s.rep)
  where
    at_free : (z : Bool) → is_free s ≡ z → (r : Bool) → (r && ((z || is_gone s.hold) && not (is_gone s.hold) || not (z || is_gone s.hold) && is_gone s.hold)) ≡ ((r && z) && true)
    at_free true e true = ap (λ g. not g || false) (free_there s e)
    at_free true e false = refl
    at_free false e true = odd_itself true (is_gone s.hold)
    at_free false e false = refl
odd_fallen s false true =
    ap (λ g. is_slice s.rep && (is_gone s.hold && not g || not (is_gone s.hold) && g)) (gone_free (is_free s) s refl)
    ∙ at_free (is_free s) refl (is_slice s.rep)
  where
    at_free : (z : Bool) → is_free s ≡ z → (r : Bool) → (r && (is_gone s.hold && not (z || is_gone s.hold) || not (is_gone s.hold) && (z || is_gone s.hold))) ≡ ((r && z) && true)
    at_free true e true = ap (λ g. (g && false) || (not g && true)) (free_there s e)
    at_free true e false = refl
    at_free false e true = odd_itself true (is_gone s.hold)
    at_free false e false = refl

spot_there : (ss : List Spot) (i : ℕ) → i < length ss → spot_in ss i ≡ None → ⊥
spot_there [] i h = λ e. omega arith
spot_there (s ∷ ss) i h = at_head (spot_there ss i) (nat_eq (length ss) i) refl
  where
    not_same : (a b : ℕ) → nat_eq a b ≡ false → b < suc a → b < a
    not_same a b e l = grind arith

    at_head : (i < length ss → spot_in ss i ≡ None → ⊥) → (b : Bool) → nat_eq (length ss) i ≡ b → cond b (Some s) (spot_in ss i) ≡ None → ⊥
    at_head ih true f e = let o : ⊥ = cc e in o
    at_head ih false f e = ih (not_same (length ss) i f h) e

pub unmet_is : (is js : List ℕ) (ss : List Spot) → first_unmet (falls_at is ss) (falls_at js ss) ≡ var_at ss (first_either is js ss)
unmet_is is js [] = refl
unmet_is is js (s ∷ ss) =
    ap (λ b. or_else (first_unmet (falls_at is ss) (falls_at js ss)) (cond b (Some (fallen (is_among (length ss) is) s).var) None)) (odd_fallen s (is_among (length ss) is) (is_among (length ss) js))
    ∙ ap (λ v. or_else (first_unmet (falls_at is ss) (falls_at js ss)) (cond odd (Some v) None)) (sym (var_cond (is_among (length ss) is) s (gone_one s) (sym (var_cond (is_free s) s (record s { hold = Gone }) refl))))
    ∙ ap (λ o. or_else o (cond odd (Some s.var) None)) (unmet_is is js ss)
    ∙ at_found (first_either is js ss) (either_below is js ss) odd
  where
    odd : Bool
    odd = free_slice s && (is_among (length ss) is && not (is_among (length ss) js) || not (is_among (length ss) is) && is_among (length ss) js)

    at_found : (o : Option ℕ) → Below (length ss) o → (b : Bool) → or_else (var_at ss o) (cond b (Some s.var) None) ≡ var_at (s ∷ ss) (or_else o (cond b (Some (length ss)) None))
    at_found None h true = ap (λ b. var_in (cond b (Some s) (spot_in ss (length ss)))) (sym (same (length ss)))
      where
        same : (n : ℕ) → nat_eq n n ≡ true
        same n = grind arith
    at_found None h false = refl
    at_found (Some i) h b = at_spot (spot_in ss i) refl
      where
        apart : (a b : ℕ) → b < a → nat_eq a b ≡ false
        apart a b h = grind arith

        at_spot : (o : Option Spot) → spot_in ss i ≡ o → or_else (var_in o) (cond b (Some s.var) None) ≡ var_in (cond (nat_eq (length ss) i) (Some s) o)
        at_spot (Some t) e = ap (λ c. var_in (cond c (Some s) (Some t))) (sym (apart (length ss) i (h i refl)))
        at_spot None e = absurd (spot_there ss i (h i refl) e)

-- ---- the entries after both sides

fall_nothing : (ss : List Spot) → all_fall ss [] ≡ ss
fall_nothing [] = refl
fall_nothing (s ∷ ss) = refl

first_same : (x y : Spot) (xs ys : List Spot) → x ∷ xs ≡ y ∷ ys → x ≡ y
first_same x y xs ys e = cc

rest_same : (x y : Spot) (xs ys : List Spot) → x ∷ xs ≡ y ∷ ys → xs ≡ ys
rest_same x y xs ys e = cc

-- what went on one side falls no further than it does alone
once_gone : (a b : Bool) (s : Spot) (t : Spot) → cond b (gone_one s) s ≡ t → (gone_one s ≡ s → t ≡ s) → cond b (gone_one (fallen a s)) (fallen a s) ≡ cond a (gone_one s) t
once_gone true true s t e f = gone_twice s
once_gone true false s t e f = refl
once_gone false b s t e f = e

same_gone : (b : Bool) (s : Spot) → gone_one s ≡ s → cond b (gone_one s) s ≡ s
same_gone true s e = e
same_gone false s e = refl

-- an entry that went falls no more
gone_falls : (a : Bool) (s t : Spot) → (gone_one s ≡ s → falls s t ≡ s) → cond a (gone_one s) (falls s t) ≡ falls (fallen a s) t
gone_falls false s t f = refl
gone_falls true s t f = at_free (is_free s) refl
  where
    at_free : (z : Bool) → is_free s ≡ z → cond z (record s { hold = Gone }) s ≡ falls (cond z (record s { hold = Gone }) s) t
    at_free true e = refl
    at_free false e = sym (f (ap (λ b. cond b (record s { hold = Gone }) s) e))

pub both_fall : (is js : List ℕ) (ss os : List Spot) → falls_at js ss ≡ all_fall ss os → falls_at js (falls_at is ss) ≡ all_fall (falls_at is ss) os
both_fall is js [] os e = refl
both_fall is js (s ∷ ss) [] e =
    let a = is_among (length ss) is in
    let h : cond (is_among (length ss) js) (gone_one s) s ≡ s = first_same (cond (is_among (length ss) js) (gone_one s) s) s (falls_at js ss) ss e in
    ap (λ n. cond (is_among n js) (gone_one (fallen a s)) (fallen a s) ∷ falls_at js (falls_at is ss)) (sym (same_length ss (falls_at is ss) (falls_vars is ss)))
    ∙ ap (λ z. cond (is_among (length ss) js) (gone_one (fallen a s)) (fallen a s) ∷ z) (both_fall is js ss [] (rest_same (cond (is_among (length ss) js) (gone_one s) s) s (falls_at js ss) ss e ∙ sym (fall_nothing ss)) ∙ fall_nothing (falls_at is ss))
    ∙ ap (λ x. x ∷ falls_at is ss) (once_gone a (is_among (length ss) js) s s h (λ q. refl))
both_fall is js (s ∷ ss) (t ∷ os) e =
    let a = is_among (length ss) is in
    let h : cond (is_among (length ss) js) (gone_one s) s ≡ falls s t = first_same (cond (is_among (length ss) js) (gone_one s) s) (falls s t) (falls_at js ss) (all_fall ss os) e in
    let f : gone_one s ≡ s → falls s t ≡ s = λ q. sym h ∙ same_gone (is_among (length ss) js) s q in
    ap (λ n. cond (is_among n js) (gone_one (fallen a s)) (fallen a s) ∷ falls_at js (falls_at is ss)) (sym (same_length ss (falls_at is ss) (falls_vars is ss)))
    ∙ ap (λ z. cond (is_among (length ss) js) (gone_one (fallen a s)) (fallen a s) ∷ z) (both_fall is js ss os (rest_same (cond (is_among (length ss) js) (gone_one s) s) (falls s t) (falls_at js ss) (all_fall ss os) e))
    ∙ ap (λ x. x ∷ all_fall (falls_at is ss) os) (once_gone a (is_among (length ss) js) s (falls s t) h f ∙ gone_falls a s t f)
