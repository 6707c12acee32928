-- The steps of the code.
use Rattle.std.proofs.Common.{zero, suc, ◌≡◌, ℕ, ◌<◌, ◌≤◌, ◌+◌, cond, List, [], ◌∷◌, ◌++◌, length, drop, take, get_or, drop-cons, Bool, true, false, ◌&&◌, ◌||◌, nat_eq, nat_lt, Option, Some, None, Result, Ok, Err, refl, sym, ap, ◌∙◌, arith, subst, append_assoc, length-append}
use Rattle.std.proofs.lemmas.List.{take_more, take_all}
use Rattle.std.proofs.lemmas.Bool.Decides.{nat_tests}
use Rattle.std.specs.Result.{OnOk, IfOk}
use Rattle.std.specs.Option.{MatchOption}
use Rattle.rule_check.specs.Context.{Spot, is_container, is_gone, is_among, all_lend, lends, put_back, outer}
use Rattle.rule_check.specs.Steps.{branch_spots}
use Rattle.context_laws.specs.Stacks.{Held, spot_in}
use Rattle.context_laws.specs.Steps.{with_spots}
use Rattle.range_split.specs.Places.{Places, Above, Ascending, picked, put_at, oldest_gone, gone_one_of, added, Puts}
use Rattle.range_split.proofs.OrderLemmas.{among_end, below_last, ascend_front}
use Rattle.range_split.proofs.PlacesLemmas.{picked_part, places_lend, spot_lend, none_lend, pick_first, pick_missing, oldest_last}
use Rattle.range_split.proofs.PuttingLemmas.{put_same, put_last, outer_next}

pub on_ok : {A E : Type 0} (r : Result A E) {P Q : Type 0} → (P → Q) → OnOk r P → OnOk r Q
on_ok (Ok x) f h = f h
on_ok (Err e) f h = h

pub if_ok : {A E : Type 0} (r : Result A E) {P Q : A → Type 0} → ((x : A) → P x → Q x) → IfOk r P → IfOk r Q
if_ok (Ok x) f h = f x h
if_ok (Err e) f h = h

pub none_case : {A : Type 0} (o : Option A) (P : Type 0) (Q : A → Type 0) → o ≡ None → MatchOption o P Q → P
none_case None P Q e h = h
none_case (Some x) P Q e h = absurd cc

drop_more : (ps : List ℕ) (i : ℕ) → i < length ps → drop i ps ≡ get_or ps i 0 ∷ drop (i + 1) ps
drop_more ps i h = drop-cons ps i 0 h ∙ ap (λ n. get_or ps i 0 ∷ drop n ps) (one i)
  where
    one : (n : ℕ) → suc n ≡ n + 1
    one n = omega arith

drop_past : (ps : List ℕ) (i : ℕ) → length ps ≤ i → drop i ps ≡ []
drop_past ps zero h = none ps h
  where
    none : (xs : List ℕ) → length xs ≤ 0 → xs ≡ []
    none [] g = refl
    none (x ∷ xs) g = absurd (omega arith)
drop_past [] (suc i) h = refl
drop_past (x ∷ ps) (suc i) h = let g : length ps ≤ i = omega arith in drop_past ps i g

-- ---- a list of numbers as a set

turn : (x : Bool) (b : Bool) → cond x true b ≡ (b || x)
turn true true = refl
turn true false = refl
turn false true = refl
turn false false = refl

pub set_more : (vs : List ℕ) (i v : ℕ) (b : Bool) → i < length vs → b ≡ is_among v (take i vs) → cond (nat_eq (get_or vs i 0) v) true b ≡ is_among v (take (i + 1) vs)
set_more vs i v b h e =
    turn (nat_eq (get_or vs i 0) v) b ∙ (λ j. e j || swap (get_or vs i 0) v j) ∙ sym (among_end (take i vs) (get_or vs i 0) v) ∙ ap (is_among v) (sym (take_more vs i 0 h))
  where
    swap : (x y : ℕ) → nat_eq x y ≡ nat_eq y x
    swap x y = grind (arith, nat_tests)

pub among_all : (vs : List ℕ) (i v : ℕ) → length vs ≤ i → is_among v (take i vs) ≡ is_among v vs
among_all vs i v h = ap (is_among v) (take_all i vs h)

-- ---- the first that is gone

abbrev pub next : Option ℕ → Option ℕ → Option ℕ
next (Some v) o = Some v
next None o = o

ascend_drop : (ps : List ℕ) (i : ℕ) → i < length ps → Ascending (drop i ps) → Above (get_or ps i 0) (drop (i + 1) ps) × Ascending (drop (i + 1) ps)
ascend_drop ps i h a = subst Ascending (drop_more ps i h) a

pub gone_first : (ps : List ℕ) (i : ℕ) (ss : List Spot) → i < length ps → Ascending (drop i ps)
    → oldest_gone (picked (drop i ps) ss) ≡ next (gone_one_of (spot_in ss (get_or ps i 0))) (oldest_gone (picked (drop (i + 1) ps) ss))
gone_first ps i ss h a = ap (λ z. oldest_gone (picked z ss)) (drop_more ps i h) ∙ at_spot (spot_in ss (get_or ps i 0)) refl
  where
    at_spot : (o : Option Spot) → spot_in ss (get_or ps i 0) ≡ o → oldest_gone (picked (get_or ps i 0 ∷ drop (i + 1) ps) ss) ≡ next (gone_one_of o) (oldest_gone (picked (drop (i + 1) ps) ss))
    at_spot None e = ap oldest_gone (pick_missing (get_or ps i 0) (drop (i + 1) ps) ss e)
    at_spot (Some s) e = ap oldest_gone (pick_first (get_or ps i 0) (drop (i + 1) ps) ss s (ascend_drop ps i h a).0 e) ∙ oldest_last (picked (drop (i + 1) ps) ss) s ∙ pick (is_container s.rep && is_gone s.hold)
      where
        pick : (b : Bool) → cond b (Some s.var) (oldest_gone (picked (drop (i + 1) ps) ss)) ≡ next (cond b (Some s.var) None) (oldest_gone (picked (drop (i + 1) ps) ss))
        pick true = refl
        pick false = refl

picked_none : (ss : List Spot) → picked [] ss ≡ []
picked_none [] = refl
picked_none (s ∷ ss) = picked_none ss

pub none_gone : (ps : List ℕ) (i : ℕ) (ss : List Spot) → length ps ≤ i → oldest_gone (picked (drop i ps) ss) ≡ None
none_gone ps i ss h = ap (λ z. oldest_gone (picked z ss)) (drop_past ps i h) ∙ ap oldest_gone (picked_none ss)

-- ---- opening

pub open_step : (ps : List ℕ) (i : ℕ) (ss : List Spot) (vs : List ℕ) (o : Option Spot) (x y : Held) (end : List Spot) → i < length ps → Ascending (drop i ps) → o ≡ spot_in ss (get_or ps i 0) → y ≡ added vs o x
    → picked (drop i ps) (all_lend vs ss) ++ x.spots ≡ end → picked (drop (i + 1) ps) (all_lend vs ss) ++ y.spots ≡ end
open_step ps i ss vs None x y end h a e g inv =
    ap (λ z. picked (drop (i + 1) ps) (all_lend vs ss) ++ z.spots) g
    ∙ ap (λ z. z ++ x.spots) (sym (ap (λ z. picked z (all_lend vs ss)) (drop_more ps i h) ∙ pick_missing (get_or ps i 0) (drop (i + 1) ps) (all_lend vs ss) (none_lend vs ss (get_or ps i 0) (sym e)))) ∙ inv
open_step ps i ss vs (Some s) x y end h a e g inv =
    let rest = (ascend_drop ps i h a).0 in
    ap (λ z. picked (drop (i + 1) ps) (all_lend vs ss) ++ z.spots) g ∙ sym (append_assoc (picked (drop (i + 1) ps) (all_lend vs ss)) (lends vs s ∷ []) x.spots)
    ∙ ap (λ z. z ++ x.spots) (sym (ap (λ z. picked z (all_lend vs ss)) (drop_more ps i h) ∙ pick_first (get_or ps i 0) (drop (i + 1) ps) (all_lend vs ss) (lends vs s) rest (spot_lend vs ss (get_or ps i 0) s (sym e)))) ∙ inv

pub saved_step : (vs : List ℕ) (o : Option Spot) (x y : Held) → y ≡ added vs o x → y.saved ≡ x.saved
saved_step vs None x y e = ap (λ z. z.saved) e
saved_step vs (Some s) x y e = ap (λ z. z.saved) e

pub ascend_step : (ps : List ℕ) (i : ℕ) → i < length ps → Ascending (drop i ps) → Ascending (drop (i + 1) ps)
ascend_step ps i h a = (ascend_drop ps i h a).1

pub opened : (ps : List ℕ) (i : ℕ) (ss : List Spot) (us vs : List ℕ) (x : Held) → length ps ≤ i → Places us ps ss → picked (drop i ps) (all_lend vs ss) ++ x.spots ≡ picked ps (all_lend vs ss) → x.spots ≡ branch_spots ss us vs
opened ps i ss us vs x h p inv =
    sym (ap (λ z. picked z (all_lend vs ss) ++ x.spots) (drop_past ps i h) ∙ ap (λ z. z ++ x.spots) (picked_none (all_lend vs ss))) ∙ inv ∙ picked_part us ps (all_lend vs ss) (places_lend us ps vs ss p)

-- ---- closing

pub close_step : (left before : List ℕ) (p : ℕ) (x y : Held) (o : Option Spot) (ts end : List Spot) → left ≡ before ++ p ∷ [] → Ascending left → o ≡ spot_in ts (length before) → Puts p o x y
    → put_at left x.spots (outer (length left) ts) ≡ end → put_at before y.spots (outer (length before) ts) ≡ end
close_step left before p x y None ts end e a g h inv = absurd h
close_step left before p x y (Some t) ts end e a g h inv =
    let k : length left ≡ suc (length before) = let l : length left ≡ length (before ++ p ∷ []) = ap length e in omega (arith, length-append before (p ∷ [])) in
    ap (λ z. put_at before z.spots (outer (length before) ts)) h.1
    ∙ sym (put_last before p x.spots t (outer (length before) ts) (below_last before p (subst Ascending e a)) h.0)
    ∙ (λ i. put_at (sym e i) x.spots (sym (ap (λ n. outer n ts) k ∙ outer_next (length before) ts t (sym g)) i)) ∙ inv

pub close_front : (left before : List ℕ) (p : ℕ) → left ≡ before ++ p ∷ [] → Ascending left → Ascending before
close_front left before p e a = ascend_front before p (subst Ascending e a)

outer_none : (ts : List Spot) → outer 0 ts ≡ []
outer_none [] = refl
outer_none (t ∷ ts) = pick (nat_lt (length ts) 0) refl (outer_none ts)
  where
    pick : (b : Bool) → nat_lt (length ts) 0 ≡ b → outer 0 ts ≡ [] → cond b (t ∷ ts) (outer 0 ts) ≡ []
    pick true e g = absurd (let lt : length ts < 0 = grind (arith, nat_tests) in omega arith)
    pick false e g = g

put_done : (ss : List Spot) → put_at [] ss [] ≡ ss
put_done [] = refl
put_done (s ∷ ss) = refl

pub closed : (left ps : List ℕ) (n : ℕ) (us : List ℕ) (x y : Held) (ts : List Spot) → left ≡ [] → length ps ≡ n → y.saved ≡ x.saved → put_at left y.spots (outer (length left) ts) ≡ put_at ps x.spots (outer (length ps) ts)
    → Places us ps x.spots → y ≡ with_spots x (put_back us x.spots (outer n ts))
closed left ps n us x y ts e k s inv p =
    let spots : y.spots ≡ put_back us x.spots (outer n ts) =
    sym (ap (λ z. put_at z y.spots (outer (length z) ts)) e ∙ ap (λ z. put_at [] y.spots z) (outer_none ts) ∙ put_done y.spots) ∙ inv ∙ ap (λ m. put_at ps x.spots (outer m ts)) k ∙ put_same us ps x.spots (outer n ts) p in
    λ i. record { spots = spots i; saved = s i }
