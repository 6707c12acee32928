-- Marks: what steps change of the entries from before them, and what they give back.
use Rattle.std.proofs.Common.{◌≡◌, ◌≤◌, ℕ, Bool, true, false, cond, ◌&&◌, ◌||◌, List, [], ◌∷◌, ◌++◌, length, drop, take, refl, sym, ap, ◌∙◌, subst, nat_eq, nat_lt, inl, inr, arith, length-append}
use Rattle.std.proofs.lemmas.Bool.{and_parts, or_cases, cond_both, eqb-true, ltb-true, false≢true}
use Rattle.std.proofs.lemmas.List.{take-append-le, drop-append-le, take_all, drop_all}
use Rattle.std.specs.Prelude.{Some}
use Rattle.rule_check.specs.Context.{Hold, Owned, Kept, Gone, Spot, is_container, is_owned, is_gone, is_among, outer, falls, all_fall}
use Rattle.context_laws.specs.Stacks.{spot_in, is_free, lent_one, seen, gone_one, falls_at, undone, holding, AllWent, Mark, before, saved_of, Fits, AllFit}
use Rattle.context_laws.proofs.StacksLemmas.{same_length, seen_vars, undone_vars, holding_vars, outer_whole, outer_below, outer_length, outer_seen, none_undone, among_more}

-- ---- one more entry

pub before_push : (m : Mark) (k : ℕ) (s : Spot) (ss : List Spot) (is : List ℕ) → Fits k ss is m → before m (s ∷ ss) is ≡ before m ss is
before_push m k s ss is f = ap (undone (drop m.gone is)) (outer_below m.entries s ss f.entries)

pub saved_push : (k : ℕ) (s : Spot) (ss : List Spot) (is : List ℕ) (ms : List Mark) → AllFit k ss is ms → saved_of (s ∷ ss) is ms ≡ saved_of ss is ms
saved_push k s ss is [] f = refl
saved_push k s ss is (m ∷ ms) f = ap (λ o. seen m.kept_below o ∷ saved_of o (take m.gone is) ms) (before_push m k s ss is f.0)

pub fit_push : (k : ℕ) (s : Spot) (ss : List Spot) (is : List ℕ) (ms : List Mark) → AllFit k ss is ms → AllFit k (s ∷ ss) is ms
fit_push k s ss is [] f = tt
fit_push k s ss is (m ∷ ms) f = (
  record {
    entries = let h = f.0.entries in omega arith;
    gone = f.0.gone;
    later = f.0.later;
    within = f.0.within;
    went = subst (AllWent m.kept_below (drop m.gone is)) (sym (outer_below m.entries s ss f.0.entries)) f.0.went;
  },
  subst (λ o. AllFit m.kept_below o (take m.gone is) ms) (sym (before_push m k s ss is f.0)) f.1,
)

-- ---- one entry goes

-- a container that is owned stands at the place, where there is one
abbrev pub OwnedAt : ℕ → List Spot → Type 0
OwnedAt i [] = Unit {0}
OwnedAt i (s ∷ ss) = (nat_eq (length ss) i ≡ true → (is_owned s.hold ≡ true) × (is_container s.rep ≡ true)) × OwnedAt i ss

owned_low : (i : ℕ) (ss : List Spot) → length ss ≤ i → OwnedAt i ss
owned_low i [] h = tt
owned_low i (s ∷ ss) h = (λ e. let j = eqb-true (length ss) i e in absurd (omega arith), owned_low i ss (omega arith))

pub owned_at : (i : ℕ) (ss : List Spot) (s : Spot) → spot_in ss i ≡ Some s → is_free s ≡ true → OwnedAt i ss
owned_at i [] s = λ e f. tt
owned_at i (t ∷ ss) s = at_head (owned_at i ss s) (nat_eq (length ss) i) refl
  where
    at_head : (spot_in ss i ≡ Some s → is_free s ≡ true → OwnedAt i ss) → (b : Bool) → nat_eq (length ss) i ≡ b → cond b (Some t) (spot_in ss i) ≡ Some s → is_free s ≡ true → OwnedAt i (t ∷ ss)
    at_head ih true h e f =
        let g : t ≡ s = cc in
        let p = and_parts (is_owned t.hold) (is_container t.rep) (ap is_free g ∙ f) in
        (λ x. (p.0, p.1), owned_low i ss (let j = eqb-true (length ss) i h in omega arith))
    at_head ih false h e f = (λ x. absurd (false≢true (sym h ∙ x)), ih e f)

outer_owned : (n i : ℕ) (ss : List Spot) → OwnedAt i ss → OwnedAt i (outer n ss)
outer_owned n i [] h = tt
outer_owned n i (s ∷ ss) h = cond_both (nat_lt (length ss) n) (s ∷ ss) (outer n ss) (OwnedAt i) (λ e. h) (λ e. outer_owned n i ss h.1)

outer_holding : (n i : ℕ) (h : Hold) (ss : List Spot) → outer n (holding i h ss) ≡ holding i h (outer n ss)
outer_holding n i h [] = refl
outer_holding n i h (s ∷ ss) =
    let x = cond (nat_eq (length ss) i) (record s { hold = h }) s in
    ap (λ m. cond (nat_lt m n) (x ∷ holding i h ss) (outer n (holding i h ss))) (sym (same_length ss (holding i h ss) (holding_vars i h ss)))
    ∙ ap (λ z. cond (nat_lt (length ss) n) (x ∷ holding i h ss) z) (outer_holding n i h ss)
    ∙ either_list (nat_lt (length ss) n) (holding i h) (s ∷ ss) (outer n ss)
  where
    either_list : (b : Bool) (f : List Spot → List Spot) (x y : List Spot) → cond b (f x) (f y) ≡ f (cond b x y)
    either_list true f x y = refl
    either_list false f x y = refl

-- what goes at a place comes back there
undone_gone : (is : List ℕ) (i : ℕ) (ss : List Spot) → OwnedAt i ss → undone (is ++ i ∷ []) (holding i Gone ss) ≡ undone is ss
undone_gone is i [] h = refl
undone_gone is i (s ∷ ss) h =
    ap (λ n. cond (is_among n (is ++ i ∷ [])) (record (held s) { hold = Owned }) (held s) ∷ undone (is ++ i ∷ []) (holding i Gone ss)) (sym (same_length ss (holding i Gone ss) (holding_vars i Gone ss)))
    ∙ ap (λ b. cond b (record (held s) { hold = Owned }) (held s) ∷ undone (is ++ i ∷ []) (holding i Gone ss)) (among_more (length ss) i is)
    ∙ ap (λ x. x ∷ undone (is ++ i ∷ []) (holding i Gone ss)) (back (is_among (length ss) is) (nat_eq (length ss) i) refl)
    ∙ ap (λ z. cond (is_among (length ss) is) (record s { hold = Owned }) s ∷ z) (undone_gone is i ss h.1)
  where
    held : Spot → Spot
    held x = cond (nat_eq (length ss) i) (record x { hold = Gone }) x

    owned : (x : Hold) → is_owned x ≡ true → Owned ≡ x
    owned Owned e = refl
    owned Kept e = absurd (false≢true e)
    owned Gone e = absurd (false≢true e)

    back : (a b : Bool) → nat_eq (length ss) i ≡ b → cond (a || (b || false)) (record (cond b (record s { hold = Gone }) s) { hold = Owned }) (cond b (record s { hold = Gone }) s) ≡ cond a (record s { hold = Owned }) s
    back true b e = gives b
      where
        gives : (b : Bool) → record (cond b (record s { hold = Gone }) s) { hold = Owned } ≡ record s { hold = Owned }
        gives true = refl
        gives false = refl
    back false true e = ap (λ x. record s { hold = x }) (owned s.hold (h.0 e).0)
    back false false e = refl

-- and it went
went_more : (k : ℕ) (is : List ℕ) (i : ℕ) (ss : List Spot) → OwnedAt i ss → k ≤ i → AllWent k is ss → AllWent k (is ++ i ∷ []) (holding i Gone ss)
went_more k is i [] h l w = tt
went_more k is i (s ∷ ss) h l w = (
  subst (λ n. is_among n (is ++ i ∷ []) ≡ true → (is_container (cond (nat_eq (length ss) i) (record s { hold = Gone }) s).rep ≡ true) × ((cond (nat_eq (length ss) i) (record s { hold = Gone }) s).hold ≡ Gone) × (k ≤ n)) (same_length ss (holding i Gone ss) (holding_vars i Gone ss))
      (λ a. at_head (nat_eq (length ss) i) refl (sym (among_more (length ss) i is) ∙ a)),
  went_more k is i ss h.1 l w.1,
)
  where
    at_head : (b : Bool) → nat_eq (length ss) i ≡ b → (is_among (length ss) is || (b || false)) ≡ true
        → (is_container (cond b (record s { hold = Gone }) s).rep ≡ true) × ((cond b (record s { hold = Gone }) s).hold ≡ Gone) × (k ≤ length ss)
    at_head true e a = ((h.0 e).1, refl, let j = eqb-true (length ss) i e in omega arith)
    at_head false e a = elim (or_cases (is_among (length ss) is) false a) [
      | inl x ↦ w.0 x
      | inr x ↦ absurd (false≢true x)
    ]

drop_more : (n i : ℕ) (is : List ℕ) → n ≤ length is → drop n (is ++ i ∷ []) ≡ drop n is ++ i ∷ []
drop_more n i is h = drop-append-le n is (i ∷ []) h

take_more : (n i : ℕ) (is : List ℕ) → n ≤ length is → take n (is ++ i ∷ []) ≡ take n is
take_more n i is h = take-append-le n is (i ∷ []) h

pub before_hold : (m : Mark) (k i : ℕ) (ss : List Spot) (is : List ℕ) → OwnedAt i ss → Fits k ss is m → before m (holding i Gone ss) (is ++ i ∷ []) ≡ before m ss is
before_hold m k i ss is h f =
    ap (λ js. undone js (outer m.entries (holding i Gone ss))) (drop_more m.gone i is f.gone)
    ∙ ap (undone (drop m.gone is ++ i ∷ [])) (outer_holding m.entries i Gone ss)
    ∙ undone_gone (drop m.gone is) i (outer m.entries ss) (outer_owned m.entries i ss h)

pub saved_hold : (k i : ℕ) (ss : List Spot) (is : List ℕ) (ms : List Mark) → OwnedAt i ss → AllFit k ss is ms → saved_of (holding i Gone ss) (is ++ i ∷ []) ms ≡ saved_of ss is ms
saved_hold k i ss is [] h f = refl
saved_hold k i ss is (m ∷ ms) h f =
    ap (λ o. seen m.kept_below o ∷ saved_of o (take m.gone (is ++ i ∷ [])) ms) (before_hold m k i ss is h f.0)
    ∙ ap (λ js. seen m.kept_below (before m ss is) ∷ saved_of (before m ss is) js ms) (take_more m.gone i is f.0.gone)

pub fit_hold : (k i : ℕ) (ss : List Spot) (is : List ℕ) (ms : List Mark) → OwnedAt i ss → k ≤ i → AllFit k ss is ms → AllFit k (holding i Gone ss) (is ++ i ∷ []) ms
fit_hold k i ss is [] h l f = tt
fit_hold k i ss is (m ∷ ms) h l f = (
  record {
    entries = let e = same_length ss (holding i Gone ss) (holding_vars i Gone ss) in let g = f.0.entries in omega arith;
    gone = let g = f.0.gone in omega (arith, length-append is (i ∷ []));
    later = f.0.later;
    within = f.0.within;
    went = subst (λ js. AllWent m.kept_below js (outer m.entries (holding i Gone ss))) (sym (drop_more m.gone i is f.0.gone))
        (subst (AllWent m.kept_below (drop m.gone is ++ i ∷ [])) (sym (outer_holding m.entries i Gone ss))
        (went_more m.kept_below (drop m.gone is) i (outer m.entries ss) (outer_owned m.entries i ss h) (let g = f.0.later in omega arith) f.0.went));
  },
  subst (λ o. AllFit m.kept_below o (take m.gone (is ++ i ∷ [])) ms) (sym (before_hold m k i ss is h f.0))
      (subst (λ js. AllFit m.kept_below (before m ss is) js ms) (sym (take_more m.gone i is f.0.gone)) f.1),
)

-- ---- a new mark, and more that is lent

pub before_now : (k : ℕ) (ss : List Spot) (is : List ℕ) (m : Mark) → m.entries ≡ length ss → m.gone ≡ length is → before m ss is ≡ ss
before_now k ss is m e g =
    ap (λ n. undone (drop m.gone is) (outer n ss)) e
    ∙ ap (undone (drop m.gone is)) (outer_whole (length ss) ss (omega arith))
    ∙ ap (λ n. undone (drop n is) ss) g
    ∙ ap (λ js. undone js ss) (drop_all (length is) is (omega arith))
    ∙ none_undone ss

take_now : (is : List ℕ) (n : ℕ) → n ≡ length is → take n is ≡ is
take_now is n g = take_all n is (omega arith)

pub saved_mark : (k : ℕ) (ss : List Spot) (is : List ℕ) (m : Mark) (ms : List Mark) → m.entries ≡ length ss → m.gone ≡ length is → m.kept_below ≡ k → saved_of ss is (m ∷ ms) ≡ seen k ss ∷ saved_of ss is ms
saved_mark k ss is m ms e g h =
    ap (λ o. seen m.kept_below o ∷ saved_of o (take m.gone is) ms) (before_now k ss is m e g)
    ∙ ap (λ js. seen m.kept_below ss ∷ saved_of ss js ms) (take_now is m.gone g)
    ∙ ap (λ n. seen n ss ∷ saved_of ss is ms) h

none_went : (k : ℕ) (ss : List Spot) → AllWent k [] ss
none_went k [] = tt
none_went k (s ∷ ss) = (λ e. absurd (false≢true e), none_went k ss)

pub fit_mark : (k : ℕ) (ss : List Spot) (is : List ℕ) (m : Mark) (ms : List Mark) → k ≤ length ss → m.entries ≡ length ss → m.gone ≡ length is → m.kept_below ≡ k → AllFit k ss is ms → AllFit k ss is (m ∷ ms)
fit_mark k ss is m ms l e g h f = (
  record {
    entries = omega arith;
    gone = omega arith;
    later = omega arith;
    within = omega arith;
    went = subst (λ js. AllWent m.kept_below js (outer m.entries ss)) (sym (drop_all m.gone is (omega arith))) (none_went m.kept_below (outer m.entries ss));
  },
  subst (λ o. AllFit m.kept_below o (take m.gone is) ms) (sym (before_now k ss is m e g))
      (subst (λ js. AllFit m.kept_below ss js ms) (sym (take_now is m.gone g)) (subst (λ n. AllFit n ss is ms) (sym h) f)),
)

pub fit_lend : (k n : ℕ) (ss : List Spot) (is : List ℕ) (ms : List Mark) → k ≤ n → AllFit k ss is ms → AllFit n ss is ms
fit_lend k n ss is [] l f = tt
fit_lend k n ss is (m ∷ ms) l f = (
  record { entries = f.0.entries; gone = f.0.gone; later = let h = f.0.later in omega arith; within = f.0.within; went = f.0.went },
  f.1,
)

-- ---- what went since a mark

owned_gone : (h : Hold) → (is_owned h && is_gone h) ≡ false
owned_gone Owned = refl
owned_gone Kept = refl
owned_gone Gone = refl

not_falls : (x t : Spot) → (is_owned x.hold && is_gone t.hold) ≡ false → falls x t ≡ x
not_falls x t h = at_head (is_owned x.hold) (is_container x.rep) (is_gone t.hold) h
  where
    at_head : (a b c : Bool) → (a && c) ≡ false → cond (a && (b && c)) (record x { hold = Gone }) x ≡ x
    at_head true true c h = ap (λ z. cond z (record x { hold = Gone }) x) h
    at_head true false c h = refl
    at_head false b c h = refl

-- an entry that did not go since does not fall
no_fall : (s : Spot) (z : Bool) → is_free s ≡ z → (b c : Bool) → falls (cond b (cond z (record s { hold = Kept }) s) s) (cond c (cond z (record s { hold = Kept }) s) s) ≡ cond b (cond z (record s { hold = Kept }) s) s
no_fall s true e true c = refl
no_fall s true e false true = not_falls s (record s { hold = Kept }) (and_no (is_owned s.hold))
  where
    and_no : (a : Bool) → (a && false) ≡ false
    and_no true = refl
    and_no false = refl
no_fall s true e false false = not_falls s s (owned_gone s.hold)
no_fall s false e true true = not_falls s s (owned_gone s.hold)
no_fall s false e true false = not_falls s s (owned_gone s.hold)
no_fall s false e false true = not_falls s s (owned_gone s.hold)
no_fall s false e false false = not_falls s s (owned_gone s.hold)

pub trail_falls : (k m : ℕ) (is : List ℕ) (ss : List Spot) → AllWent m is ss → falls_at is (seen m (undone is ss)) ≡ all_fall (seen m (undone is ss)) (seen k ss)
trail_falls k m is [] w = refl
trail_falls k m is (s ∷ ss) w =
    let n : length ss ≡ length (seen m (undone is ss)) = same_length ss (undone is ss) (undone_vars is ss) ∙ same_length (undone is ss) (seen m (undone is ss)) (seen_vars m (undone is ss)) in
    let e : length ss ≡ length (undone is ss) = same_length ss (undone is ss) (undone_vars is ss) in
    ap (λ j. cond (is_among j is) (gone_one (old (length (undone is ss)))) (old (length (undone is ss))) ∷ falls_at is (seen m (undone is ss))) (sym n)
    ∙ ap (λ z. cond (is_among (length ss) is) (gone_one (old (length (undone is ss)))) (old (length (undone is ss))) ∷ z) (trail_falls k m is ss w.1)
    ∙ ap (λ x. x ∷ all_fall (seen m (undone is ss)) (seen k ss)) (ap (λ j. cond (is_among (length ss) is) (gone_one (old j)) (old j)) (sym e)
    ∙ at_head (is_among (length ss) is) refl (nat_lt (length ss) m) refl (nat_lt (length ss) k)
    ∙ ap (λ j. falls (old j) (cond (nat_lt (length ss) k) (lent_one s) s)) e)
  where
    old : ℕ → Spot
    old j = cond (nat_lt j m) (lent_one (cond (is_among (length ss) is) (record s { hold = Owned }) s)) (cond (is_among (length ss) is) (record s { hold = Owned }) s)

    still_gone : s.hold ≡ Gone → (c : Bool) → is_gone (cond c (lent_one s) s).hold ≡ true
    still_gone g true = ap (λ x. is_gone (cond (x && is_container s.rep) (record s { hold = Kept }) s).hold) (ap is_owned g) ∙ ap is_gone g
    still_gone g false = ap is_gone g

    at_gone : is_container s.rep ≡ true → s.hold ≡ Gone → m ≤ length ss → (b : Bool) → nat_lt (length ss) m ≡ b → (c : Bool)
        → gone_one (cond b (lent_one (record s { hold = Owned })) (record s { hold = Owned })) ≡ falls (cond b (lent_one (record s { hold = Owned })) (record s { hold = Owned })) (cond c (lent_one s) s)
    at_gone q g l true f c = absurd (let h = ltb-true (length ss) m f in omega arith)
    at_gone q g l false f c =
        ap (λ x. cond x (record s { hold = Gone }) (record s { hold = Owned })) q
        ∙ sym (ap (λ x. cond (x && is_gone (cond c (lent_one s) s).hold) (record s { hold = Gone }) (record s { hold = Owned })) q
        ∙ ap (λ x. cond x (record s { hold = Gone }) (record s { hold = Owned })) (still_gone g c))

    at_head : (a : Bool) → is_among (length ss) is ≡ a → (b : Bool) → nat_lt (length ss) m ≡ b → (c : Bool)
        → cond a (gone_one (cond b (lent_one (cond a (record s { hold = Owned }) s)) (cond a (record s { hold = Owned }) s))) (cond b (lent_one (cond a (record s { hold = Owned }) s)) (cond a (record s { hold = Owned }) s))
        ≡ falls (cond b (lent_one (cond a (record s { hold = Owned }) s)) (cond a (record s { hold = Owned }) s)) (cond c (lent_one s) s)
    at_head true e b f c = let p = w.0 e in at_gone p.0 p.1 p.2 b f c
    at_head false e b f c = sym (no_fall s (is_free s) refl b c)

pub went_falls : (k : ℕ) (ss : List Spot) (is : List ℕ) (m : Mark) → Fits k ss is m
    → falls_at (drop m.gone is) (seen m.kept_below (before m ss is)) ≡ all_fall (seen m.kept_below (before m ss is)) (outer (length (seen m.kept_below (before m ss is))) (seen k ss))
went_falls k ss is m f =
    let o = before m ss is in
    let n : length (seen m.kept_below o) ≡ m.entries = sym (same_length o (seen m.kept_below o) (seen_vars m.kept_below o)) ∙ sym (same_length (outer m.entries ss) o (undone_vars (drop m.gone is) (outer m.entries ss))) ∙ outer_length m.entries ss f.entries in
    trail_falls k m.kept_below (drop m.gone is) (outer m.entries ss) f.went
    ∙ ap (all_fall (seen m.kept_below o)) (sym (outer_seen m.entries k ss) ∙ ap (λ j. outer j (seen k ss)) (sym n))
