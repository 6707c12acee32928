-- The entries that stand at places.
use Rattle.std.proofs.Common.{suc, ◌≡◌, ℕ, ◌<◌, ◌≤◌, cond, List, [], ◌∷◌, ◌++◌, length, Bool, true, false, ◌&&◌, ◌||◌, nat_eq, Option, Some, None, refl, sym, ap, ◌∙◌, arith, inl, inr}
use Rattle.std.proofs.lemmas.Bool.{or_cases, eqb-true, cond_both}
use Rattle.rule_check.specs.Context.{Spot, Kept, Gone, is_container, is_owned, is_gone, is_among, or_else, lends, all_lend, part, first_missed, falls, put_back}
use Rattle.context_laws.specs.Stacks.{place_in, spot_in, AllDiffer}
use Rattle.context_laws.proofs.StacksLemmas.{place_below}
use Rattle.range_split.specs.Places.{Places, Above, picked, oldest_gone}
use Rattle.range_split.proofs.OrderLemmas.{same_number, other_number, number_other, among_end}

pub places_none : (ss : List Spot) → Places [] [] ss
places_none [] = tt
places_none (s ∷ ss) = (refl, places_none ss)

-- the place of a variable, and where it has none
abbrev IsAt : ℕ → ℕ → List Spot → Type 0
IsAt v i [] = Unit {0}
IsAt v i (s ∷ ss) = (nat_eq (length ss) i ≡ nat_eq s.var v) × IsAt v i ss

abbrev IsNot : ℕ → List Spot → Type 0
IsNot v [] = Unit {0}
IsNot v (s ∷ ss) = (nat_eq s.var v ≡ false) × IsNot v ss

not_there : (v : ℕ) (ss : List Spot) → place_in ss v ≡ None → IsNot v ss
not_there v [] h = tt
not_there v (s ∷ ss) h = pick (nat_eq s.var v) refl h (not_there v ss)
  where
    pick : (b : Bool) → nat_eq s.var v ≡ b → cond b (Some (length ss)) (place_in ss v) ≡ None → (place_in ss v ≡ None → IsNot v ss) → (nat_eq s.var v ≡ false) × IsNot v ss
    pick true e g f = absurd cc
    pick false e g f = (e, f g)

at_top : (v i : ℕ) (ss : List Spot) → IsNot v ss → length ss ≤ i → IsAt v i ss
at_top v i [] h le = tt
at_top v i (s ∷ ss) h le =
    let lt : length ss < i = omega arith in
    let le2 : length ss ≤ i = omega arith in
    (other_number (length ss) i lt ∙ sym h.0, at_top v i ss h.1 le2)

at_place : (v i : ℕ) (ss : List Spot) → AllDiffer ss → place_in ss v ≡ Some i → IsAt v i ss
at_place v i [] d h = tt
at_place v i (s ∷ ss) d h = pick (nat_eq s.var v) refl h (at_place v i ss d.1)
  where
    pick : (b : Bool) → nat_eq s.var v ≡ b → cond b (Some (length ss)) (place_in ss v) ≡ Some i → (place_in ss v ≡ Some i → IsAt v i ss) → (nat_eq (length ss) i ≡ nat_eq s.var v) × IsAt v i ss
    pick true e g f =
        let k : length ss ≡ i = cc in
        let le : length ss ≤ i = omega arith in
        (ap (λ n. nat_eq (length ss) n) (sym k) ∙ same_number (length ss) ∙ sym e, at_top v i ss (not_there v ss (ap (place_in ss) (sym (eqb-true s.var v e)) ∙ d.0)) le)
    pick false e g f = (number_other (length ss) i (place_below ss v i g) ∙ sym e, f g)

or_turn : (x y p q : Bool) → x ≡ y → p ≡ q → (x || p) ≡ (q || y)
or_turn true y true q e f = sym (ap (λ z. z || y) (sym f))
or_turn true y false q e f = e2
  where
    e2 : true ≡ (q || y)
    e2 = sym (ap (λ z. z || y) (sym f) ∙ sym e)
or_turn false y p q e f = f ∙ (or_false q ∙ ap (λ z. q || z) e)
  where
    or_false : (x : Bool) → x ≡ (x || false)
    or_false true = refl
    or_false false = refl

-- one more variable
pub places_more : (us is js : List ℕ) (v i : ℕ) (ss : List Spot) → IsAt v i ss → Places us is ss → ((n : ℕ) → is_among n js ≡ (nat_eq n i || is_among n is)) → Places (us ++ v ∷ []) js ss
places_more us is js v i [] m h f = tt
places_more us is js v i (s ∷ ss) m h f = (
  f (length ss) ∙ or_turn (nat_eq (length ss) i) (nat_eq s.var v) (is_among (length ss) is) (is_among s.var us) m.0 h.0 ∙ sym (among_end us v s.var),
  places_more us is js v i ss m.1 h.1 f,
)

pub places_found : (us is js : List ℕ) (v i : ℕ) (ss : List Spot) → AllDiffer ss → place_in ss v ≡ Some i → Places us is ss → ((n : ℕ) → is_among n js ≡ (nat_eq n i || is_among n is)) → Places (us ++ v ∷ []) js ss
places_found us is js v i ss d e h f = places_more us is js v i ss (at_place v i ss d e) h f

or_none : (x y : Bool) → y ≡ false → x ≡ (x || y)
or_none true y e = refl
or_none false y e = sym e

places_past : (us is : List ℕ) (v : ℕ) (ss : List Spot) → IsNot v ss → Places us is ss → Places (us ++ v ∷ []) is ss
places_past us is v [] m h = tt
places_past us is v (s ∷ ss) m h = (h.0 ∙ or_none (is_among s.var us) (nat_eq s.var v) m.0 ∙ sym (among_end us v s.var), places_past us is v ss m.1 h.1)

pub places_missed : (us is : List ℕ) (v : ℕ) (ss : List Spot) → place_in ss v ≡ None → Places us is ss → Places (us ++ v ∷ []) is ss
places_missed us is v ss e h = places_past us is v ss (not_there v ss e) h

-- ---- what stands there

pub picked_part : (us is : List ℕ) (ss : List Spot) → Places us is ss → picked is ss ≡ part us ss
picked_part us is [] h = refl
picked_part us is (s ∷ ss) h = λ i. cond (h.0 i) (s ∷ picked_part us is ss h.1 i) (picked_part us is ss h.1 i)

pub lend_length : (vs : List ℕ) (ss : List Spot) → length (all_lend vs ss) ≡ length ss
lend_length vs [] = refl
lend_length vs (s ∷ ss) = ap suc (lend_length vs ss)

lend_var : (vs : List ℕ) (s : Spot) → (lends vs s).var ≡ s.var
lend_var vs s = cond_both (is_owned s.hold && (is_container s.rep && is_among s.var vs)) (record s { hold = Kept }) s (λ t. t.var ≡ s.var) (λ e. refl) (λ e. refl)

pub places_lend : (us is vs : List ℕ) (ss : List Spot) → Places us is ss → Places us is (all_lend vs ss)
places_lend us is vs [] h = tt
places_lend us is vs (s ∷ ss) h = (ap (λ n. is_among n is) (lend_length vs ss) ∙ h.0 ∙ ap (λ v. is_among v us) (sym (lend_var vs s)), places_lend us is vs ss h.1)

pub spot_lend : (vs : List ℕ) (ss : List Spot) (p : ℕ) (s : Spot) → spot_in ss p ≡ Some s → spot_in (all_lend vs ss) p ≡ Some (lends vs s)
spot_lend vs [] p s h = absurd cc
spot_lend vs (x ∷ ss) p s h = ap (λ n. cond (nat_eq n p) (Some (lends vs x)) (spot_in (all_lend vs ss) p)) (lend_length vs ss) ∙ pick (nat_eq (length ss) p) h (spot_lend vs ss p s)
  where
    pick : (b : Bool) → cond b (Some x) (spot_in ss p) ≡ Some s → (spot_in ss p ≡ Some s → spot_in (all_lend vs ss) p ≡ Some (lends vs s)) → cond b (Some (lends vs x)) (spot_in (all_lend vs ss) p) ≡ Some (lends vs s)
    pick true g f = let e : x ≡ s = cc in ap (λ y. Some (lends vs y)) e
    pick false g f = f g

pub none_lend : (vs : List ℕ) (ss : List Spot) (p : ℕ) → spot_in ss p ≡ None → spot_in (all_lend vs ss) p ≡ None
none_lend vs [] p h = refl
none_lend vs (x ∷ ss) p h = ap (λ n. cond (nat_eq n p) (Some (lends vs x)) (spot_in (all_lend vs ss) p)) (lend_length vs ss) ∙ pick (nat_eq (length ss) p) h (none_lend vs ss p)
  where
    pick : (b : Bool) → cond b (Some x) (spot_in ss p) ≡ None → (spot_in ss p ≡ None → spot_in (all_lend vs ss) p ≡ None) → cond b (Some (lends vs x)) (spot_in (all_lend vs ss) p) ≡ None
    pick true g f = absurd cc
    pick false g f = f g

-- ---- the first place

picked_above : (is : List ℕ) (ss : List Spot) → ((q : ℕ) → is_among q is ≡ true → length ss ≤ q) → picked is ss ≡ []
picked_above is [] h = refl
picked_above is (s ∷ ss) h = pick (is_among (length ss) is) refl (picked_above is ss (λ q e. let le : suc (length ss) ≤ q = h q e in omega arith))
  where
    pick : (b : Bool) → is_among (length ss) is ≡ b → picked is ss ≡ [] → cond b (s ∷ picked is ss) (picked is ss) ≡ []
    pick true e g = let le : suc (length ss) ≤ length ss = h (length ss) e in absurd (omega arith)
    pick false e g = g

not_among : (q : ℕ) (is : List ℕ) → (is_among q is ≡ true → ⊥) → is_among q is ≡ false
not_among q is f = pick (is_among q is) refl
  where
    pick : (b : Bool) → is_among q is ≡ b → is_among q is ≡ false
    pick true e = absurd (f e)
    pick false e = e

-- the entry at the first place is the last
pub pick_first : (p : ℕ) (is : List ℕ) (ss : List Spot) (s : Spot) → Above p is → spot_in ss p ≡ Some s → picked (p ∷ is) ss ≡ picked is ss ++ s ∷ []
pick_first p is [] s a h = absurd cc
pick_first p is (x ∷ ss) s a h = pick (nat_eq (length ss) p) refl h (pick_first p is ss s a)
  where
    pick : (b : Bool) → nat_eq (length ss) p ≡ b → cond b (Some x) (spot_in ss p) ≡ Some s → (spot_in ss p ≡ Some s → picked (p ∷ is) ss ≡ picked is ss ++ s ∷ [])
        → cond (b || is_among (length ss) is) (x ∷ picked (p ∷ is) ss) (picked (p ∷ is) ss) ≡ cond (is_among (length ss) is) (x ∷ picked is ss) (picked is ss) ++ s ∷ []
    pick true e g f =
        let k : length ss ≡ p = eqb-true (length ss) p e in
        let y : x ≡ s = cc in
        let none : picked is ss ≡ [] = picked_above is ss (λ q i. let lt : p < q = a q i in omega arith) in
        let both : picked (p ∷ is) ss ≡ [] = picked_above (p ∷ is) ss (λ q i. elim (or_cases (nat_eq q p) (is_among q is) i) [
          | inl m ↦ let t : q ≡ p = eqb-true q p m in omega arith
          | inr m ↦ let lt : p < q = a q m in omega arith
        ]) in
        let out : is_among (length ss) is ≡ false = not_among (length ss) is (λ i. let lt : p < length ss = a (length ss) i in omega arith) in
        (λ i. y i ∷ both i) ∙ sym (ap (λ b. cond b (x ∷ picked is ss) (picked is ss) ++ s ∷ []) out ∙ ap (λ z. z ++ s ∷ []) none)
    pick false e g f = (λ i. cond (is_among (length ss) is) (x ∷ f g i) (f g i)) ∙ join (is_among (length ss) is)
      where
        join : (b : Bool) → cond b (x ∷ (picked is ss ++ s ∷ [])) (picked is ss ++ s ∷ []) ≡ cond b (x ∷ picked is ss) (picked is ss) ++ s ∷ []
        join true = refl
        join false = refl

-- at a place past all entries there is none
pub pick_missing : (p : ℕ) (is : List ℕ) (ss : List Spot) → spot_in ss p ≡ None → picked (p ∷ is) ss ≡ picked is ss
pick_missing p is [] h = refl
pick_missing p is (x ∷ ss) h = pick (nat_eq (length ss) p) h (pick_missing p is ss)
  where
    pick : (b : Bool) → cond b (Some x) (spot_in ss p) ≡ None → (spot_in ss p ≡ None → picked (p ∷ is) ss ≡ picked is ss)
        → cond (b || is_among (length ss) is) (x ∷ picked (p ∷ is) ss) (picked (p ∷ is) ss) ≡ cond (is_among (length ss) is) (x ∷ picked is ss) (picked is ss)
    pick true g f = absurd cc
    pick false g f = λ i. cond (is_among (length ss) is) (x ∷ f g i) (f g i)

-- ---- the oldest that is gone

or_else_none : (o : Option ℕ) → or_else o None ≡ o
or_else_none (Some v) = refl
or_else_none None = refl

missed_one : (vs : List ℕ) (s : Spot) (b : Bool) (o : Option ℕ) (ss : List Spot) → o ≡ oldest_gone ss → or_else o (cond (is_container s.rep && (is_gone s.hold && b)) (Some s.var) None) ≡ oldest_gone (cond b (s ∷ ss) ss)
missed_one vs s true o ss h = (λ i. or_else (h i) (cond (is_container s.rep && and_true (is_gone s.hold) i) (Some s.var) None))
  where
    and_true : (x : Bool) → (x && true) ≡ x
    and_true true = refl
    and_true false = refl
missed_one vs s false o ss h = ap (λ c. or_else o (cond c (Some s.var) None)) (never (is_container s.rep) (is_gone s.hold)) ∙ or_else_none o ∙ h
  where
    never : (x y : Bool) → (x && (y && false)) ≡ false
    never true true = refl
    never true false = refl
    never false y = refl

pub missed_oldest : (us is : List ℕ) (ss : List Spot) → Places us is ss → first_missed us ss ≡ oldest_gone (picked is ss)
missed_oldest us is [] h = refl
missed_oldest us is (s ∷ ss) h =
    missed_one us s (is_among s.var us) (first_missed us ss) (picked is ss) (missed_oldest us is ss h.1) ∙ ap (λ b. oldest_gone (cond b (s ∷ picked is ss) (picked is ss))) (sym h.0)

pub oldest_last : (xs : List Spot) (s : Spot) → oldest_gone (xs ++ s ∷ []) ≡ cond (is_container s.rep && is_gone s.hold) (Some s.var) (oldest_gone xs)
oldest_last [] s = refl
oldest_last (x ∷ xs) s = ap (λ o. or_else o (cond (is_container x.rep && is_gone x.hold) (Some x.var) None)) (oldest_last xs s) ∙ pick (is_container s.rep && is_gone s.hold)
  where
    pick : (b : Bool) → or_else (cond b (Some s.var) (oldest_gone xs)) (cond (is_container x.rep && is_gone x.hold) (Some x.var) None) ≡ cond b (Some s.var) (oldest_gone (x ∷ xs))
    pick true = refl
    pick false = refl

-- ---- places stay

falls_var : (s t : Spot) → (falls s t).var ≡ s.var
falls_var s t = cond_both (is_owned s.hold && (is_container s.rep && is_gone t.hold)) (record s { hold = Gone }) s (λ x. x.var ≡ s.var) (λ e. refl) (λ e. refl)

pub put_length : (ws : List ℕ) (ss ts : List Spot) → length (put_back ws ss ts) ≡ length ss
put_length ws [] ts = refl
put_length ws (s ∷ ss) [] = refl
put_length ws (s ∷ ss) (t ∷ ts) = pick (is_among s.var ws) (put_length ws ss ts) (put_length ws ss (t ∷ ts))
  where
    pick : (b : Bool) → length (put_back ws ss ts) ≡ length ss → length (put_back ws ss (t ∷ ts)) ≡ length ss → length (cond b (falls s t ∷ put_back ws ss ts) (s ∷ put_back ws ss (t ∷ ts))) ≡ suc (length ss)
    pick true g h = ap suc g
    pick false g h = ap suc h

-- where one branch was put back the other finds its places
pub places_put : (us is ws : List ℕ) (ss ts : List Spot) → Places us is ss → Places us is (put_back ws ss ts)
places_put us is ws [] ts h = tt
places_put us is ws (s ∷ ss) [] h = h
places_put us is ws (s ∷ ss) (t ∷ ts) h = pick (is_among s.var ws) (places_put us is ws ss ts h.1) (places_put us is ws ss (t ∷ ts) h.1)
  where
    pick : (b : Bool) → Places us is (put_back ws ss ts) → Places us is (put_back ws ss (t ∷ ts)) → Places us is (cond b (falls s t ∷ put_back ws ss ts) (s ∷ put_back ws ss (t ∷ ts)))
    pick true g k = (ap (λ n. is_among n is) (put_length ws ss ts) ∙ h.0 ∙ ap (λ v. is_among v us) (sym (falls_var s t)), g)
    pick false g k = (ap (λ n. is_among n is) (put_length ws ss (t ∷ ts)) ∙ h.0, k)
