-- The entries of a context by their places.
use Rattle.std.proofs.Common.{◌≡◌, ◌≤◌, ◌<◌, ℕ, suc, Bool, true, false, cond, ◌&&◌, ◌||◌, List, [], ◌∷◌, ◌++◌, length, refl, sym, ap, ◌∙◌, subst, nat_eq, nat_lt, arith}
use Rattle.std.proofs.lemmas.Bool.{cond_both, eqb-true, eq-eqb, lt-ltb, le-ltb, ltb-true}
use Rattle.std.specs.Prelude.{Some, None}
use Rattle.rule_check.specs.Context.{Hold, Owned, Kept, Gone, Spot, is_container, is_owned, is_among, goes, all_go, lent, outer}
use Rattle.context_laws.specs.Stacks.{place_in, found_in, spot_in, AllDiffer, is_free, lent_one, seen, gone_one, falls_at, undone, holding}

-- ---- the same variables

abbrev pub SameVars : List Spot → List Spot → Type 0
SameVars [] [] = Unit {0}
SameVars [] (t ∷ ts) = ⊥
SameVars (s ∷ ss) [] = ⊥
SameVars (s ∷ ss) (t ∷ ts) = (s.var ≡ t.var) × SameVars ss ts

pub same_length : (ss ts : List Spot) → SameVars ss ts → length ss ≡ length ts
same_length [] [] h = refl
same_length [] (t ∷ ts) h = absurd h
same_length (s ∷ ss) [] h = absurd h
same_length (s ∷ ss) (t ∷ ts) h = ap suc (same_length ss ts h.1)

pub same_place : (ss ts : List Spot) → SameVars ss ts → (v : ℕ) → place_in ss v ≡ place_in ts v
same_place [] [] h v = refl
same_place [] (t ∷ ts) h v = absurd h
same_place (s ∷ ss) [] h v = absurd h
same_place (s ∷ ss) (t ∷ ts) h v =
    ap (λ x. cond (nat_eq x v) (Some (length ss)) (place_in ss v)) h.0
    ∙ ap (λ n. cond (nat_eq t.var v) (Some n) (place_in ss v)) (same_length ss ts h.1)
    ∙ ap (λ o. cond (nat_eq t.var v) (Some (length ts)) o) (same_place ss ts h.1 v)

pub same_differ : (ss ts : List Spot) → SameVars ss ts → AllDiffer ss → AllDiffer ts
same_differ [] [] h d = tt
same_differ [] (t ∷ ts) h d = absurd h
same_differ (s ∷ ss) [] h d = absurd h
same_differ (s ∷ ss) (t ∷ ts) h d = (sym (same_place ss ts h.1 t.var) ∙ ap (place_in ss) (sym h.0) ∙ d.0, same_differ ss ts h.1 d.1)

pub var_cond : (b : Bool) (s t : Spot) → t.var ≡ s.var → s.var ≡ (cond b t s).var
var_cond true s t e = sym e
var_cond false s t e = refl

pub seen_vars : (k : ℕ) (ss : List Spot) → SameVars ss (seen k ss)
seen_vars k [] = tt
seen_vars k (s ∷ ss) = (var_cond (nat_lt (length ss) k) s (lent_one s) (sym (var_cond (is_free s) s (record s { hold = Kept }) refl)), seen_vars k ss)

pub undone_vars : (is : List ℕ) (ss : List Spot) → SameVars ss (undone is ss)
undone_vars is [] = tt
undone_vars is (s ∷ ss) = (var_cond (is_among (length ss) is) s (record s { hold = Owned }) refl, undone_vars is ss)

pub holding_vars : (i : ℕ) (h : Hold) (ss : List Spot) → SameVars ss (holding i h ss)
holding_vars i h [] = tt
holding_vars i h (s ∷ ss) = (var_cond (nat_eq (length ss) i) s (record s { hold = h }) refl, holding_vars i h ss)

pub falls_vars : (is : List ℕ) (ss : List Spot) → SameVars ss (falls_at is ss)
falls_vars is [] = tt
falls_vars is (s ∷ ss) = (var_cond (is_among (length ss) is) s (gone_one s) (sym (var_cond (is_free s) s (record s { hold = Gone }) refl)), falls_vars is ss)

-- ---- the oldest entries

pub outer_whole : (n : ℕ) (ss : List Spot) → length ss ≤ n → outer n ss ≡ ss
outer_whole n [] h = refl
outer_whole n (s ∷ ss) h = ap (λ b. cond b (s ∷ ss) (outer n ss)) (lt-ltb (length ss) n (omega arith))

pub outer_below : (n : ℕ) (s : Spot) (ss : List Spot) → n ≤ length ss → outer n (s ∷ ss) ≡ outer n ss
outer_below n s ss h = ap (λ b. cond b (s ∷ ss) (outer n ss)) (le-ltb (length ss) n h)

pub outer_length : (n : ℕ) (ss : List Spot) → n ≤ length ss → length (outer n ss) ≡ n
outer_length n [] h = omega arith
outer_length n (s ∷ ss) h = cond_both (nat_lt (length ss) n) (s ∷ ss) (outer n ss) (λ x. length x ≡ n)
    (λ e. let l = ltb-true (length ss) n e in omega arith)
    (λ e. outer_length n ss (not_below (length ss) n e))
  where
    not_below : (a b : ℕ) → nat_lt a b ≡ false → b ≤ a
    not_below a b e = grind arith

pub outer_seen : (n k : ℕ) (ss : List Spot) → outer n (seen k ss) ≡ seen k (outer n ss)
outer_seen n k [] = refl
outer_seen n k (s ∷ ss) =
    let x = cond (nat_lt (length ss) k) (lent_one s) s in
    ap (λ m. cond (nat_lt m n) (x ∷ seen k ss) (outer n (seen k ss))) (sym (same_length ss (seen k ss) (seen_vars k ss)))
    ∙ ap (λ z. cond (nat_lt (length ss) n) (x ∷ seen k ss) z) (outer_seen n k ss)
    ∙ either_list (nat_lt (length ss) n) (seen k) (s ∷ ss) (outer n ss)
  where
    either_list : (b : Bool) (f : List Spot → List Spot) (x y : List Spot) → cond b (f x) (f y) ≡ f (cond b x y)
    either_list true f x y = refl
    either_list false f x y = refl

-- ---- what is lent

same_lent : (s : Spot) → lent_one (lent_one s) ≡ lent_one s
same_lent s = elim (is_free s) as (λ b. is_free s ≡ b → lent_one (cond b (record s { hold = Kept }) s) ≡ cond b (record s { hold = Kept }) s) [
  | true ↦ λ e. refl
  | false ↦ λ e. ap (λ b. cond b (record s { hold = Kept }) s) e
] refl

lent_cond : (b : Bool) (s : Spot) → lent_one (cond b (lent_one s) s) ≡ lent_one s
lent_cond true s = same_lent s
lent_cond false s = refl

pub lent_seen : (n k : ℕ) (ss : List Spot) → length ss ≤ n → seen n ss ≡ lent (seen k ss)
lent_seen n k [] h = refl
lent_seen n k (s ∷ ss) h =
    ap (λ b. cond b (lent_one s) s ∷ seen n ss) (lt-ltb (length ss) n (omega arith))
    ∙ ap (λ x. x ∷ seen n ss) (sym (lent_cond (nat_lt (length ss) k) s))
    ∙ ap (λ z. lent_one (cond (nat_lt (length ss) k) (lent_one s) s) ∷ z) (lent_seen n k ss (omega arith))

-- ---- places

pub place_below : (ss : List Spot) (v i : ℕ) → place_in ss v ≡ Some i → i < length ss
place_below [] v i = λ e. absurd (let o : ⊥ = cc e in o)
place_below (s ∷ ss) v i = cond_both (nat_eq s.var v) (Some (length ss)) (place_in ss v) (λ o. o ≡ Some i → i < suc (length ss))
    (λ h e. let k : length ss ≡ i = cc in omega arith)
    (λ h e. let k = place_below ss v i e in omega arith)

-- a variable's newest entry stands at its place
pub found_there : (ss : List Spot) (v i : ℕ) → place_in ss v ≡ Some i → found_in ss v ≡ spot_in ss i
found_there [] v i = λ e. refl
found_there (s ∷ ss) v i = elim (nat_eq s.var v) as (λ b. cond b (Some (length ss)) (place_in ss v) ≡ Some i → cond b (Some s) (found_in ss v) ≡ cond (nat_eq (length ss) i) (Some s) (spot_in ss i)) [
  | true ↦ λ e. let k : length ss ≡ i = cc in ap (λ b. cond b (Some s) (spot_in ss i)) (sym (eq-eqb (length ss) i k))
  | false ↦ λ e.
      let l = place_below ss v i e in
      found_there ss v i e ∙ ap (λ b. cond b (Some s) (spot_in ss i)) (sym (apart (length ss) i (omega arith)))
]
  where
    apart : (a b : ℕ) → b < a → nat_eq a b ≡ false
    apart a b h = grind arith

pub found_nowhere : (ss : List Spot) (v : ℕ) → place_in ss v ≡ None → found_in ss v ≡ None
found_nowhere [] v = λ e. refl
found_nowhere (s ∷ ss) v = elim (nat_eq s.var v) as (λ b. cond b (Some (length ss)) (place_in ss v) ≡ None → cond b (Some s) (found_in ss v) ≡ None) [
  | true ↦ λ e. absurd (let o : ⊥ = cc e in o)
  | false ↦ λ e. found_nowhere ss v e
]

-- ---- one entry goes

pub low_holding : (i : ℕ) (h : Hold) (ss : List Spot) → length ss ≤ i → holding i h ss ≡ ss
low_holding i h [] e = refl
low_holding i h (s ∷ ss) e =
    ap (λ b. cond b (record s { hold = h }) s ∷ holding i h ss) (other (length ss) i (omega arith))
    ∙ ap (λ z. s ∷ z) (low_holding i h ss (omega arith))
  where
    other : (a b : ℕ) → a < b → nat_eq a b ≡ false
    other a b h = grind arith

pub low_falls : (i : ℕ) (ss : List Spot) → length ss ≤ i → falls_at (i ∷ []) ss ≡ ss
low_falls i [] e = refl
low_falls i (s ∷ ss) e =
    ap (λ b. cond (b || false) (gone_one s) s ∷ falls_at (i ∷ []) ss) (other (length ss) i (omega arith))
    ∙ ap (λ z. s ∷ z) (low_falls i ss (omega arith))
  where
    other : (a b : ℕ) → a < b → nat_eq a b ≡ false
    other a b h = grind arith

-- what an entry is seen as
abbrev pub seen_one : ℕ → ℕ → Spot → Spot
seen_one k i s = cond (nat_lt i k) (lent_one s) s

pub spot_seen : (k i : ℕ) (ss : List Spot) (s : Spot) → spot_in ss i ≡ Some s → spot_in (seen k ss) i ≡ Some (seen_one k i s)
spot_seen k i [] s = λ e. absurd (let o : ⊥ = cc e in o)
spot_seen k i (t ∷ ss) s =
    subst (λ n. cond (nat_eq (length ss) i) (Some t) (spot_in ss i) ≡ Some s → cond (nat_eq n i) (Some (seen_one k (length ss) t)) (spot_in (seen k ss) i) ≡ Some (seen_one k i s)) (same_length ss (seen k ss) (seen_vars k ss))
    (at_head (spot_seen k i ss s) (nat_eq (length ss) i) refl)
  where
    at_head : (spot_in ss i ≡ Some s → spot_in (seen k ss) i ≡ Some (seen_one k i s)) → (b : Bool) → nat_eq (length ss) i ≡ b → cond b (Some t) (spot_in ss i) ≡ Some s → cond b (Some (seen_one k (length ss) t)) (spot_in (seen k ss) i) ≡ Some (seen_one k i s)
    at_head ih true h e = let j = eqb-true (length ss) i h in let f : t ≡ s = cc in ap (λ n. Some (seen_one k n t)) j ∙ ap (λ x. Some (seen_one k i x)) f
    at_head ih false h e = ih e

pub nothing_seen : (k i : ℕ) (ss : List Spot) → spot_in ss i ≡ None → spot_in (seen k ss) i ≡ None
nothing_seen k i [] = λ e. refl
nothing_seen k i (t ∷ ss) =
    subst (λ n. cond (nat_eq (length ss) i) (Some t) (spot_in ss i) ≡ None → cond (nat_eq n i) (Some (seen_one k (length ss) t)) (spot_in (seen k ss) i) ≡ None) (same_length ss (seen k ss) (seen_vars k ss))
    (at_head (nothing_seen k i ss) (nat_eq (length ss) i))
  where
    at_head : (spot_in ss i ≡ None → spot_in (seen k ss) i ≡ None) → (b : Bool) → cond b (Some t) (spot_in ss i) ≡ None → cond b (Some (seen_one k (length ss) t)) (spot_in (seen k ss) i) ≡ None
    at_head ih true e = absurd (let o : ⊥ = cc e in o)
    at_head ih false e = ih e

-- where no entry that may be used up stands at the place, none goes
pub none_falls : (i : ℕ) (ss : List Spot) (s : Spot) → spot_in ss i ≡ Some s → is_free s ≡ false → falls_at (i ∷ []) ss ≡ ss
none_falls i [] s = λ e f. refl
none_falls i (t ∷ ss) s = at_head (none_falls i ss s) (nat_eq (length ss) i) refl
  where
    at_head : (spot_in ss i ≡ Some s → is_free s ≡ false → falls_at (i ∷ []) ss ≡ ss) → (b : Bool) → nat_eq (length ss) i ≡ b → cond b (Some t) (spot_in ss i) ≡ Some s → is_free s ≡ false → cond (b || false) (gone_one t) t ∷ falls_at (i ∷ []) ss ≡ t ∷ ss
    at_head ih true h e f =
        let g : t ≡ s = cc in
        ap (λ b. cond b (record t { hold = Gone }) t ∷ falls_at (i ∷ []) ss) (ap is_free g ∙ f)
        ∙ ap (λ z. t ∷ z) (low_falls i ss (let j = eqb-true (length ss) i h in omega arith))
    at_head ih false h e f = ap (λ z. t ∷ z) (ih e f)

pub nothing_falls : (i : ℕ) (ss : List Spot) → spot_in ss i ≡ None → falls_at (i ∷ []) ss ≡ ss
nothing_falls i [] = λ e. refl
nothing_falls i (t ∷ ss) = at_head (nothing_falls i ss) (nat_eq (length ss) i)
  where
    at_head : (spot_in ss i ≡ None → falls_at (i ∷ []) ss ≡ ss) → (b : Bool) → cond b (Some t) (spot_in ss i) ≡ None → cond (b || false) (gone_one t) t ∷ falls_at (i ∷ []) ss ≡ t ∷ ss
    at_head ih true e = absurd (let o : ⊥ = cc e in o)
    at_head ih false e = ap (λ z. t ∷ z) (ih e)

-- where one does, it is Gone
pub one_falls : (i : ℕ) (ss : List Spot) (s : Spot) → spot_in ss i ≡ Some s → is_free s ≡ true → falls_at (i ∷ []) ss ≡ holding i Gone ss
one_falls i [] s = λ e f. refl
one_falls i (t ∷ ss) s = at_head (one_falls i ss s) (nat_eq (length ss) i) refl
  where
    at_head : (spot_in ss i ≡ Some s → is_free s ≡ true → falls_at (i ∷ []) ss ≡ holding i Gone ss) → (b : Bool) → nat_eq (length ss) i ≡ b → cond b (Some t) (spot_in ss i) ≡ Some s → is_free s ≡ true → cond (b || false) (gone_one t) t ∷ falls_at (i ∷ []) ss ≡ cond b (record t { hold = Gone }) t ∷ holding i Gone ss
    at_head ih true h e f =
        let g : t ≡ s = cc in
        let j = eqb-true (length ss) i h in
        ap (λ b. cond b (record t { hold = Gone }) t ∷ falls_at (i ∷ []) ss) (ap is_free g ∙ f)
        ∙ ap (λ z. record t { hold = Gone } ∷ z) (low_falls i ss (omega arith) ∙ sym (low_holding i Gone ss (omega arith)))
    at_head ih false h e f = ap (λ z. t ∷ z) (ih e f)

pub seen_holding : (k i : ℕ) (h : Hold) (ss : List Spot) → k ≤ i → seen k (holding i h ss) ≡ holding i h (seen k ss)
seen_holding k i h [] e = refl
seen_holding k i h (s ∷ ss) e =
    ap (λ n. cond (nat_lt n k) (lent_one (cond (nat_eq (length ss) i) (record s { hold = h }) s)) (cond (nat_eq (length ss) i) (record s { hold = h }) s) ∷ seen k (holding i h ss)) (sym (same_length ss (holding i h ss) (holding_vars i h ss)))
    ∙ ap (λ z. cond (nat_lt (length ss) k) (lent_one (cond (nat_eq (length ss) i) (record s { hold = h }) s)) (cond (nat_eq (length ss) i) (record s { hold = h }) s) ∷ z) (seen_holding k i h ss e)
    ∙ ap (λ x. x ∷ holding i h (seen k ss)) (at_head (nat_eq (length ss) i) (nat_lt (length ss) k) refl refl)
    ∙ ap (λ n. cond (nat_eq n i) (record (seen_one k (length ss) s) { hold = h }) (seen_one k (length ss) s) ∷ holding i h (seen k ss)) (same_length ss (seen k ss) (seen_vars k ss))
  where
    at_head : (b c : Bool) → nat_eq (length ss) i ≡ b → nat_lt (length ss) k ≡ c
        → cond c (lent_one (cond b (record s { hold = h }) s)) (cond b (record s { hold = h }) s) ≡ cond b (record (cond c (lent_one s) s) { hold = h }) (cond c (lent_one s) s)
    at_head true true p q = absurd (let j = eqb-true (length ss) i p in let l = ltb-true (length ss) k q in omega arith)
    at_head true false p q = refl
    at_head false c p q = refl

-- one variable's entry goes: the place
goes_not : (v : ℕ) (s : Spot) → nat_eq s.var v ≡ false → goes (v ∷ []) s ≡ s
goes_not v s h = ap (λ b. cond (is_owned s.hold && (is_container s.rep && (b || false))) (record s { hold = Gone }) s) h ∙ never (is_owned s.hold) (is_container s.rep)
  where
    never : (a b : Bool) → cond (a && (b && false)) (record s { hold = Gone }) s ≡ s
    never true true = refl
    never true false = refl
    never false b = refl

goes_one : (v : ℕ) (s : Spot) → nat_eq s.var v ≡ true → goes (v ∷ []) s ≡ gone_one s
goes_one v s h = ap (λ b. cond (is_owned s.hold && (is_container s.rep && (b || false))) (record s { hold = Gone }) s) h ∙ always (is_owned s.hold) (is_container s.rep)
  where
    always : (a b : Bool) → cond (a && (b && true)) (record s { hold = Gone }) s ≡ cond (a && b) (record s { hold = Gone }) s
    always true true = refl
    always true false = refl
    always false b = refl

pub go_nowhere : (v : ℕ) (ss : List Spot) → place_in ss v ≡ None → all_go (v ∷ []) ss ≡ ss
go_nowhere v [] = λ e. refl
go_nowhere v (s ∷ ss) = at_head (go_nowhere v ss) (nat_eq s.var v) refl
  where
    at_head : (place_in ss v ≡ None → all_go (v ∷ []) ss ≡ ss) → (b : Bool) → nat_eq s.var v ≡ b → cond b (Some (length ss)) (place_in ss v) ≡ None → goes (v ∷ []) s ∷ all_go (v ∷ []) ss ≡ s ∷ ss
    at_head ih true h e = absurd (let o : ⊥ = cc e in o)
    at_head ih false h e = ap (λ x. x ∷ all_go (v ∷ []) ss) (goes_not v s h) ∙ ap (λ z. s ∷ z) (ih e)

pub go_falls : (v i : ℕ) (ss : List Spot) → AllDiffer ss → place_in ss v ≡ Some i → all_go (v ∷ []) ss ≡ falls_at (i ∷ []) ss
go_falls v i [] = λ d e. refl
go_falls v i (s ∷ ss) = λ d. at_head (go_falls v i ss d.1) d (nat_eq s.var v) refl
  where
    other : (a b : ℕ) → b < a → nat_eq a b ≡ false
    other a b h = grind arith

    at_head : (place_in ss v ≡ Some i → all_go (v ∷ []) ss ≡ falls_at (i ∷ []) ss) → AllDiffer (s ∷ ss) → (b : Bool) → nat_eq s.var v ≡ b → cond b (Some (length ss)) (place_in ss v) ≡ Some i → goes (v ∷ []) s ∷ all_go (v ∷ []) ss ≡ cond (nat_eq (length ss) i || false) (gone_one s) s ∷ falls_at (i ∷ []) ss
    at_head ih d true h e =
        let j : length ss ≡ i = cc in
        let w = eqb-true s.var v h in
        ap (λ x. x ∷ all_go (v ∷ []) ss) (goes_one v s h)
        ∙ ap (λ z. gone_one s ∷ z) (go_nowhere v ss (ap (place_in ss) (sym w) ∙ d.0) ∙ sym (low_falls i ss (omega arith)))
        ∙ ap (λ b. cond (b || false) (gone_one s) s ∷ falls_at (i ∷ []) ss) (sym (eq-eqb (length ss) i j))
    at_head ih d false h e =
        let l = place_below ss v i e in
        ap (λ x. x ∷ all_go (v ∷ []) ss) (goes_not v s h)
        ∙ ap (λ z. s ∷ z) (ih e)
        ∙ ap (λ b. cond (b || false) (gone_one s) s ∷ falls_at (i ∷ []) ss) (sym (other (length ss) i l))

-- ---- several entries go in turn

pub among_more : (n i : ℕ) (is : List ℕ) → is_among n (is ++ i ∷ []) ≡ (is_among n is || (nat_eq n i || false))
among_more n i [] = refl
among_more n i (j ∷ is) = ap (λ b. nat_eq n j || b) (among_more n i is) ∙ sym (or_or (nat_eq n j) (is_among n is) (nat_eq n i || false))
  where
    or_or : (a b c : Bool) → ((a || b) || c) ≡ (a || (b || c))
    or_or true b c = refl
    or_or false b c = refl

pub none_fall : (ss : List Spot) → falls_at [] ss ≡ ss
none_fall [] = refl
none_fall (s ∷ ss) = ap (λ z. s ∷ z) (none_fall ss)

pub gone_twice : (s : Spot) → gone_one (gone_one s) ≡ gone_one s
gone_twice s = elim (is_free s) as (λ b. is_free s ≡ b → gone_one (cond b (record s { hold = Gone }) s) ≡ cond b (record s { hold = Gone }) s) [
  | true ↦ λ e. refl
  | false ↦ λ e. ap (λ b. cond b (record s { hold = Gone }) s) e
] refl

gone_cond : (a b : Bool) (s : Spot) → cond (a || b) (gone_one s) s ≡ cond b (gone_one (cond a (gone_one s) s)) (cond a (gone_one s) s)
gone_cond true true s = sym (gone_twice s)
gone_cond true false s = refl
gone_cond false true s = refl
gone_cond false false s = refl

abbrev fallen : List ℕ → ℕ → Spot → Spot
fallen is n x = cond (is_among n is) (gone_one x) x

pub falls_more : (is : List ℕ) (i : ℕ) (ss : List Spot) → falls_at (is ++ i ∷ []) ss ≡ falls_at (i ∷ []) (falls_at is ss)
falls_more is i [] = refl
falls_more is i (s ∷ ss) =
    ap (λ b. cond b (gone_one s) s ∷ falls_at (is ++ i ∷ []) ss) (among_more (length ss) i is)
    ∙ ap (λ x. x ∷ falls_at (is ++ i ∷ []) ss) (gone_cond (is_among (length ss) is) (nat_eq (length ss) i || false) s)
    ∙ ap (λ z. cond (nat_eq (length ss) i || false) (gone_one (fallen is (length ss) s)) (fallen is (length ss) s) ∷ z) (falls_more is i ss)
    ∙ ap (λ n. cond (nat_eq n i || false) (gone_one (fallen is (length ss) s)) (fallen is (length ss) s) ∷ falls_at (i ∷ []) (falls_at is ss)) (same_length ss (falls_at is ss) (falls_vars is ss))

-- ---- what went comes back in turn

pub none_undone : (ss : List Spot) → undone [] ss ≡ ss
none_undone [] = refl
none_undone (s ∷ ss) = ap (λ z. s ∷ z) (none_undone ss)

abbrev there : ℕ → ℕ → Spot → Spot
there i n x = cond (nat_eq n i) (record x { hold = Owned }) x

pub undone_more : (is : List ℕ) (i : ℕ) (ss : List Spot) → undone (is ++ i ∷ []) ss ≡ undone is (holding i Owned ss)
undone_more is i [] = refl
undone_more is i (s ∷ ss) =
    ap (λ b. cond b (record s { hold = Owned }) s ∷ undone (is ++ i ∷ []) ss) (among_more (length ss) i is)
    ∙ ap (λ x. x ∷ undone (is ++ i ∷ []) ss) (back (is_among (length ss) is) (nat_eq (length ss) i))
    ∙ ap (λ z. cond (is_among (length ss) is) (record (there i (length ss) s) { hold = Owned }) (there i (length ss) s) ∷ z) (undone_more is i ss)
    ∙ ap (λ n. cond (is_among n is) (record (there i (length ss) s) { hold = Owned }) (there i (length ss) s) ∷ undone is (holding i Owned ss)) (same_length ss (holding i Owned ss) (holding_vars i Owned ss))
  where
    back : (a b : Bool) → cond (a || (b || false)) (record s { hold = Owned }) s ≡ cond a (record (cond b (record s { hold = Owned }) s) { hold = Owned }) (cond b (record s { hold = Owned }) s)
    back true true = refl
    back true false = refl
    back false true = refl
    back false false = refl
