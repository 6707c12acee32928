-- Calls: why they are refused, and the lists that their steps make.
use Rattle.std.proofs.Common.{zero, suc, ◌≡◌, ℕ, ◌<◌, ◌≤◌, ◌+◌, min, cond, List, [], ◌∷◌, ◌++◌, length, drop, get_or, drop-cons, Bool, true, false, not, ◌&&◌, Option, Some, None, Result, Ok, Err, refl, sym, ap, ◌∙◌, arith, append_assoc, codes}
use Rattle.std.proofs.lemmas.List.{append-nil}
use Rattle.std.specs.Result.{OnOk}
use Rattle.nres_core.specs.declared.refusal.Refusal.{Refusal}
use Rattle.nres_core.specs.declared.refusal.Why.{Why}
use Rattle.nres_core.specs.declared.refusal.Why.TheVariants as w
use Rattle.ownership.specs.Entries.{shape_of, shapes_of, spot_of, spots_of}
use Rattle.ownership.specs.Faults.{or_next, unless_refused}
use Rattle.ownership.specs.declared.entry.Entry.{Entry}
use Rattle.ownership.specs.declared.entry.Fault.TheVariants as f
use Rattle.ownership.specs.declared.entry.Shape.{Shape}
use Rattle.rule_check.specs.Context as d
use Rattle.rule_check.specs.Context.{Spot, reps_of, looked_up, first_gone, first_kept, first_twice, is_container, is_slice}
use Rattle.rule_check.specs.Steps.{Sig, stand_for, handed, lists, call_tests, refused, name_at, unless, when, call_shapes, next_list, other_lists, bare}
use Rattle.proc_rules.specs.Calls.{if_fit, hand_one, list_one, shape_one, lists_left, CallsRefused}
use Rattle.target_code.specs.declared.tree.InParam.{InParam}
use Rattle.target_code.specs.declared.tree.Rep.{Rep}

tests : (names : List (List ℕ)) (refuse : Why → Refusal) (g : Sig) (a b c : Option ℕ) (t : Bool)
    → unless a (λ v. refuse (w.Gone (name_at names v))) (when t (refuse w.Missing) (unless b (λ v. refuse (w.Twice (name_at names v))) (unless c (λ v. refuse (w.Held (name_at names v))) (Ok g))))
    ≡ unless_refused names refuse (or_next f.Gone a (if_fit t (or_next f.Twice b (or_next f.Held c None)))) (Ok g)
unfolding unless when
tests names refuse g (Some v) b c t = refl
tests names refuse g None b c false = refl
tests names refuse g None (Some v) c true = refl
tests names refuse g None None (Some v) true = refl
tests names refuse g None None None true = refl

pub calls_refused : CallsRefused
calls_refused book x p k us g e =
    let ss = looked_up x.spots us in
    let refuse = refused p (codes "call") (reps_of ss) in
    ap (λ o. unless (first_gone ss) (λ v. refuse (w.Gone (name_at book.names v))) (call_tests book ss refuse o)) e
    ∙ tests book.names refuse g (first_gone ss) (first_twice ss) (first_kept (handed g.params ss)) (stand_for (reps_of ss) g.params)

-- ---- the lists that the steps make

next_one : (n : ℕ) → suc n ≡ n + 1
next_one n = omega arith

drop_param : (ps : List InParam) (i : ℕ) (p : InParam) → i < length ps → p ≡ get_or ps i p → drop i ps ≡ p ∷ drop (i + 1) ps
drop_param ps i p h e = drop-cons ps i p h ∙ (λ j. sym e j ∷ drop (next_one i j) ps)

drop_entry : (es : List Entry) (i : ℕ) (d : Entry) → i < length es → drop i es ≡ get_or es i d ∷ drop (i + 1) es
drop_entry es i d h = drop-cons es i d h ∙ ap (λ n. get_or es i d ∷ drop n es) (next_one i)

joined : {A : Type 0} (b : Bool) (x : A) (xs : List A) → cond b (x ∷ xs) xs ≡ cond b (x ∷ []) [] ++ xs
joined true x xs = refl
joined false x xs = refl

pub hand_step : (ps : List InParam) (es : List Entry) (i : ℕ) (p : InParam) (d : Entry) (xs ys fs : List Spot) → i < length ps → i < length es → p ≡ get_or ps i p
    → ys ≡ xs ++ hand_one p (spot_of (get_or es i d)) → xs ++ handed (drop i ps) (spots_of (drop i es)) ≡ fs → ys ++ handed (drop (i + 1) ps) (spots_of (drop (i + 1) es)) ≡ fs
hand_step ps es i p d xs ys fs h k e g inv =
    let s = spot_of (get_or es i d) in
    let rest = handed (drop (i + 1) ps) (spots_of (drop (i + 1) es)) in
    ap (λ z. z ++ rest) g ∙ append_assoc xs (hand_one p s) rest ∙ ap (λ z. xs ++ z) (sym (joined (is_container p.rep && not p.kept) s rest))
    ∙ ap (λ z. xs ++ z) (sym (λ j. handed (drop_param ps i p h e j) (spots_of (drop_entry es i d k j)))) ∙ inv

pub list_step : (ps : List InParam) (es : List Entry) (i : ℕ) (p : InParam) (e0 : Entry) (xs ys fs : List d.Shape) → i < length ps → i < length es → p ≡ get_or ps i p
    → ys ≡ xs ++ list_one p (spot_of (get_or es i e0)) → xs ++ lists (drop i ps) (spots_of (drop i es)) ≡ fs → ys ++ lists (drop (i + 1) ps) (spots_of (drop (i + 1) es)) ≡ fs
list_step ps es i p e0 xs ys fs h k e g inv =
    let s = spot_of (get_or es i e0) in
    let rest = lists (drop (i + 1) ps) (spots_of (drop (i + 1) es)) in
    ap (λ z. z ++ rest) g ∙ append_assoc xs (list_one p s) rest ∙ ap (λ z. xs ++ z) (sym (joined (is_slice p.rep && not p.kept) (d.shape_of s) rest))
    ∙ ap (λ z. xs ++ z) (sym (λ j. lists (drop_param ps i p h e j) (spots_of (drop_entry es i e0 k j)))) ∙ inv

pub handed_past : (ps : List InParam) (es : List Entry) (i : ℕ) → min (length ps) (length es) ≤ i → handed (drop i ps) (spots_of (drop i es)) ≡ []
handed_past [] es zero h = refl
handed_past [] es (suc i) h = refl
handed_past (p ∷ ps) [] zero h = refl
handed_past (p ∷ ps) (e ∷ es) zero h = absurd (omega arith)
handed_past (p ∷ ps) [] (suc i) h = none (drop i ps)
  where
    none : (qs : List InParam) → handed qs [] ≡ []
    none [] = refl
    none (q ∷ qs) = refl
handed_past (p ∷ ps) (e ∷ es) (suc i) h = let g : min (length ps) (length es) ≤ i = omega arith in handed_past ps es i g

pub lists_past : (ps : List InParam) (es : List Entry) (i : ℕ) → min (length ps) (length es) ≤ i → lists (drop i ps) (spots_of (drop i es)) ≡ []
lists_past [] es zero h = refl
lists_past [] es (suc i) h = refl
lists_past (p ∷ ps) [] zero h = refl
lists_past (p ∷ ps) (e ∷ es) zero h = absurd (omega arith)
lists_past (p ∷ ps) [] (suc i) h = none (drop i ps)
  where
    none : (qs : List InParam) → lists qs [] ≡ []
    none [] = refl
    none (q ∷ qs) = refl
lists_past (p ∷ ps) (e ∷ es) (suc i) h = let g : min (length ps) (length es) ≤ i = omega arith in lists_past ps es i g

pub ends : {A : Type 0} (xs ys fs : List A) → ys ≡ [] → xs ++ ys ≡ fs → xs ≡ fs
ends xs ys fs e h = sym (append-nil xs) ∙ ap (λ s. xs ++ s) (sym e) ∙ h

shapes_push : (zs : List Shape) (z : Shape) → shapes_of (zs ++ z ∷ []) ≡ shapes_of zs ++ shape_of z ∷ []
shapes_push [] z = refl
shapes_push (x ∷ zs) z = ap (λ s. shape_of x ∷ s) (shapes_push zs z)

shapes_next : (y : Rep) (ys : List Rep) (zs : List d.Shape) → call_shapes (y ∷ ys) zs ≡ shape_one y zs ∷ call_shapes ys (lists_left y zs)
shapes_next y ys zs = pick (is_slice y)
  where
    pick : (b : Bool) → cond b (next_list zs ∷ call_shapes ys (other_lists zs)) (bare y ∷ call_shapes ys zs) ≡ cond b (next_list zs) (bare y) ∷ call_shapes ys (cond b (other_lists zs) zs)
    pick true = refl
    pick false = refl

pub shape_step : (ys : List Rep) (i : ℕ) (y : Rep) (xs ws : List Shape) (z : Shape) (zs vs fs : List d.Shape) → i < length ys → ws ≡ xs ++ z ∷ [] → shape_of z ≡ shape_one (get_or ys i y) zs → vs ≡ lists_left (get_or ys i y) zs
    → shapes_of xs ++ call_shapes (drop i ys) zs ≡ fs → shapes_of ws ++ call_shapes (drop (i + 1) ys) vs ≡ fs
shape_step ys i y xs ws z zs vs fs h e g k inv =
    let r = get_or ys i y in
    (λ j. shapes_of (e j) ++ call_shapes (drop (i + 1) ys) (k j)) ∙ ap (λ s. s ++ call_shapes (drop (i + 1) ys) (lists_left r zs)) (shapes_push xs z)
    ∙ append_assoc (shapes_of xs) (shape_of z ∷ []) (call_shapes (drop (i + 1) ys) (lists_left r zs)) ∙ ap (λ s. shapes_of xs ++ s ∷ call_shapes (drop (i + 1) ys) (lists_left r zs)) g
    ∙ ap (λ s. shapes_of xs ++ s) (sym (ap (λ s. call_shapes s zs) (drop-cons ys i y h ∙ ap (λ n. r ∷ drop n ys) (next_one i)) ∙ shapes_next r (drop (i + 1) ys) zs)) ∙ inv

pub stand_empty : (es : List Entry) (i : ℕ) (ps : List InParam) → i < length es → length ps < 1 → stand_for (reps_of (spots_of (drop i es))) ps ≡ false
stand_empty [] i ps h k = absurd (omega arith)
stand_empty (e ∷ es) zero [] h k = refl
stand_empty (e ∷ es) zero (p ∷ ps) h k = absurd (omega arith)
stand_empty (e ∷ es) (suc i) ps h k = let g : i < length es = omega arith in stand_empty es i ps g k

-- ---- one more

pub on_ok : {A E : Type 0} (r : Result A E) {P Q : Type 0} → (P → Q) → OnOk r P → OnOk r Q
on_ok (Ok x) f h = f h
on_ok (Err e) f h = h

spots_push : (es : List Entry) (e : Entry) → spots_of (es ++ e ∷ []) ≡ spots_of es ++ spot_of e ∷ []
spots_push [] e = refl
spots_push (x ∷ es) e = ap (λ s. spot_of x ∷ s) (spots_push es e)

pub hand_more : (y : InParam) (es fs : List Entry) (e : Entry) → is_container y.rep ≡ true → y.kept ≡ false → fs ≡ es ++ e ∷ [] → spots_of fs ≡ spots_of es ++ hand_one y (spot_of e)
hand_more y es fs e h k g = ap spots_of g ∙ spots_push es e ∙ ap (λ s. spots_of es ++ s) (sym (λ i. cond (h i && not (k i)) (spot_of e ∷ []) []))

pub list_more : (y : InParam) (e : Entry) (xs ys : List Shape) (z : Shape) → is_slice y.rep ≡ true → y.kept ≡ false → shape_of z ≡ d.shape_of (spot_of e) → ys ≡ xs ++ z ∷ [] → shapes_of ys ≡ shapes_of xs ++ list_one y (spot_of e)
list_more y e xs ys z h k j g =
    ap shapes_of g ∙ shapes_push xs z ∙ ap (λ s. shapes_of xs ++ s ∷ []) j ∙ ap (λ s. shapes_of xs ++ s) (sym (λ i. cond (h i && not (k i)) (d.shape_of (spot_of e) ∷ []) []))
