-- A context as it is kept.
use Rattle.std.proofs.Common.{◌≡◌, ◌≤◌, ◌<◌, ◌+◌, ◌-◌, ℕ, zero, suc, Bool, true, false, cond, List, [], ◌∷◌, ◌++◌, length, drop, take, refl, sym, ap, ◌∙◌, subst, nat_eq, nat_lt, arith, slice_set, get_or}
use Rattle.std.proofs.Math.Seq.{take-suc}
use Rattle.std.proofs.lemmas.Bool.{true≢false, eq-eqb, eqb-true, ltb-true, lt-ltb, and_parts}
use Rattle.std.proofs.lemmas.List.{drop-append-le, take-append-le, drop_all, take_all}
use Rattle.std.specs.List.{slice_get}
use Rattle.std.specs.Borrow.{Bor}
use Rattle.std.specs.Option.{option_map, option_copied, is_some}
use Rattle.std.specs.Prelude.{Option, Some, None, Result, Ok, Err}
use Rattle.std.specs.Result.{is_ok, is_err, OnOk, OnErr, IfOk}
use Rattle.indexmap.specs.IndexMap.{IndexMap, get, UpdatesBy}
use Rattle.context_laws.specs.Stacks as s
use Rattle.context_laws.specs.Stacks.{Held, place_in, found_in, spot_in, AllDiffer, is_free, lent_one, seen, falls_at, undone, holding, before, saved_of, held_of, Fits, AllFit}
use Rattle.context_laws.specs.Steps.{with_spots, with_spot, kept_all, marked, back_to, back_at, falls_back, FallsBack}
use Rattle.context_laws.proofs.StacksLemmas.{SameVars, same_length, same_place, same_differ, seen_vars, undone_vars, holding_vars, outer_whole, outer_below, outer_length, lent_seen, place_below, found_there, found_nowhere, seen_one, spot_seen, nothing_seen, none_falls, nothing_falls, one_falls, seen_holding, go_falls, go_nowhere, none_fall, falls_more, none_undone, undone_more, low_holding}
use Rattle.context_laws.proofs.MarksLemmas.{saved_push, fit_push, OwnedAt, owned_at, saved_hold, fit_hold, saved_mark, fit_mark, fit_lend, went_falls}
use Rattle.ownership.specs.Entries.{hold_of, spot_of, onto}
use Rattle.ownership.specs.Marks.{mark_of, marks_of}
use Rattle.ownership.specs.Sound.{IsContext}
use Rattle.ownership.specs.Tables.{Agrees}
use Rattle.ownership.specs.declared.context.Mark.{Mark}
use Rattle.ownership.specs.declared.entry.Entry.{Entry}
use Rattle.rule_check.specs.Context.{Hold, Owned, Kept, Gone, Spot, all_go, outer, lent}

-- ---- outcomes

pub ok_of : {A E : Type 0} (r : Result A E) (P : Type 0) → is_err r ≡ false → OnOk r P → P
ok_of (Ok x) P e p = p
ok_of (Err x) P e p = absurd (true≢false e)

-- ---- the stack

pub onto_push : (es : List Entry) (e : Entry) (ss : List Spot) → onto (es ++ e ∷ []) ss ≡ spot_of e ∷ onto es ss
onto_push [] e ss = refl
onto_push (x ∷ es) e ss = onto_push es e (spot_of x ∷ ss)

pub onto_length : (es : List Entry) (ss : List Spot) → length (onto es ss) ≡ length es + length ss
onto_length [] ss = omega arith
onto_length (e ∷ es) ss = let h = onto_length es (spot_of e ∷ ss) in omega arith

spot_low : (ss : List Spot) (j : ℕ) → length ss ≤ j → spot_in ss j ≡ None
spot_low [] j h = refl
spot_low (s ∷ ss) j h = ap (λ b. cond b (Some s) (spot_in ss j)) (other (length ss) j (omega arith)) ∙ spot_low ss j (omega arith)
  where
    other : (a b : ℕ) → a < b → nat_eq a b ≡ false
    other a b h = grind arith

spot_above : (e : Spot) (ss : List Spot) (j : ℕ) → j < length ss → spot_in (e ∷ ss) j ≡ spot_in ss j
spot_above e ss j h = ap (λ b. cond b (Some e) (spot_in ss j)) (other (length ss) j h)
  where
    other : (a b : ℕ) → b < a → nat_eq a b ≡ false
    other a b h = grind arith

spot_deep : (es : List Entry) (ss : List Spot) (j : ℕ) → j < length ss → spot_in (onto es ss) j ≡ spot_in ss j
spot_deep [] ss j h = refl
spot_deep (e ∷ es) ss j h = spot_deep es (spot_of e ∷ ss) j (omega arith) ∙ spot_above (spot_of e) ss j h

spot_top : (s : Spot) (ss : List Spot) (j : ℕ) → j ≡ length ss → spot_in (s ∷ ss) j ≡ Some s
spot_top s ss j h = ap (λ b. cond b (Some s) (spot_in ss j)) (eq-eqb (length ss) j (sym h))

pub onto_get : (es : List Entry) (i : ℕ) (ss : List Spot) → option_map spot_of (slice_get es i) ≡ spot_in (onto es ss) (length ss + i)
onto_get [] i ss = sym (spot_low ss (length ss + i) (omega arith))
onto_get (e ∷ es) zero ss = sym (spot_deep es (spot_of e ∷ ss) (length ss + zero) (omega arith) ∙ spot_top (spot_of e) ss (length ss + zero) (omega arith))
onto_get (e ∷ es) (suc i) ss =
    let n : suc (length ss) + i ≡ length ss + suc i = omega arith in
    onto_get es i (spot_of e ∷ ss) ∙ ap (spot_in (onto es (spot_of e ∷ ss))) n

pub get_spot : (es : List Entry) (i : ℕ) → option_map spot_of (slice_get es i) ≡ spot_in (onto es []) i
get_spot es i = let n : 0 + i ≡ i = omega arith in onto_get es i [] ∙ ap (spot_in (onto es [])) n

pub spot_within : (es : List Entry) (i : ℕ) (s : Spot) → spot_in (onto es []) i ≡ Some s → i < length es
spot_within es i s e = elim (nat_lt i (length es)) as (λ b. nat_lt i (length es) ≡ b → i < length es) [
  | true ↦ λ h. ltb-true i (length es) h
  | false ↦ λ h.
      let l : length es ≤ i = not_below i (length es) h in
      let n = spot_low (onto es []) i (let k = onto_length es [] in omega arith) in
      absurd (let o : ⊥ = cc in o)
] refl
  where
    not_below : (a b : ℕ) → nat_lt a b ≡ false → b ≤ a
    not_below a b e = grind arith

holding_deep : (es : List Entry) (i : ℕ) (h : Hold) (ss : List Spot) → i < length ss → holding i h (onto es ss) ≡ onto es (holding i h ss)
holding_deep [] i h ss l = refl
holding_deep (e ∷ es) i h ss l =
    holding_deep es i h (spot_of e ∷ ss) (omega arith)
    ∙ ap (λ b. onto es (cond b (record (spot_of e) { hold = h }) (spot_of e) ∷ holding i h ss)) (other (length ss) i l)
  where
    other : (a b : ℕ) → b < a → nat_eq a b ≡ false
    other a b h = grind arith

onto_held : (es : List Entry) (i : ℕ) (d : Entry) (h : Hold) (ss : List Spot) → i < length es
    → ((s : Spot) → spot_in (onto es ss) (length ss + i) ≡ Some s → spot_of d ≡ record s { hold = h }) → onto (slice_set es i d) ss ≡ holding (length ss + i) h (onto es ss)
onto_held [] i d h ss l e = absurd (omega arith)
onto_held (x ∷ es) zero d h ss l e =
    let j : length ss + zero ≡ length ss = omega arith in
    let q : spot_of d ≡ record (spot_of x) { hold = h } = e (spot_of x) (spot_deep es (spot_of x ∷ ss) (length ss + zero) (omega arith) ∙ spot_top (spot_of x) ss (length ss + zero) j) in
    ap (λ y. onto es (y ∷ ss)) q
    ∙ sym (holding_deep es (length ss + zero) h (spot_of x ∷ ss) (omega arith)
    ∙ ap (λ b. onto es (cond b (record (spot_of x) { hold = h }) (spot_of x) ∷ holding (length ss + zero) h ss)) (eq-eqb (length ss) (length ss + zero) (sym j))
    ∙ ap (λ z. onto es (record (spot_of x) { hold = h } ∷ z)) (low_holding (length ss + zero) h ss (omega arith)))
onto_held (x ∷ es) (suc i) d h ss l e =
    let n : suc (length ss) + i ≡ length ss + suc i = omega arith in
    onto_held es i d h (spot_of x ∷ ss) (omega arith) (λ s f. e s (ap (spot_in (onto es (spot_of x ∷ ss))) (sym n) ∙ f))
    ∙ ap (λ j. holding j h (onto es (spot_of x ∷ ss))) n

held_same : (h : Hold) (s t : Spot) → s ≡ t → record s { hold = h } ≡ record t { hold = h }
held_same h s t e = let f : Spot → Spot = λ x. record x { hold = h } in ap f e

-- an entry of the stack is held otherwise
pub onto_set : (es : List Entry) (i : ℕ) (d : Entry) (h : Hold) (s : Spot) → spot_in (onto es []) i ≡ Some s → spot_of d ≡ record s { hold = h } → onto (slice_set es i d) [] ≡ holding i h (onto es [])
onto_set es i d h s e f =
    let n : 0 + i ≡ i = omega arith in
    onto_held es i d h [] (spot_within es i s e) (λ t g. f ∙ held_same h s t (same t (sym e ∙ ap (spot_in (onto es [])) (sym n) ∙ g)))
    ∙ (let f : ℕ → List Spot = λ j. holding j h (onto es []) in ap f n)
  where
    same : (t : Spot) → Some s ≡ Some t → s ≡ t
    same t q = cc

-- ---- what is read

pub view_spots : (ss : List Spot) (is : List ℕ) (ms : List s.Mark) (k : ℕ) (x : Held) → held_of ss is ms k ≡ x → seen k ss ≡ x.spots
view_spots ss is ms k x e = ap (λ y. y.spots) e

pub view_saved : (ss : List Spot) (is : List ℕ) (ms : List s.Mark) (k : ℕ) (x : Held) → held_of ss is ms k ≡ x → saved_of ss is ms ≡ x.saved
view_saved ss is ms k x e = ap (λ y. y.saved) e

pub counted : (es : List Entry) (is : List ℕ) (ms : List s.Mark) (k : ℕ) (x : Held) → held_of (onto es []) is ms k ≡ x → length es ≡ length x.spots
counted es is ms k x e =
    let a = onto_length es [] in
    let b : length es ≡ length (onto es []) = omega arith in
    b ∙ same_length (onto es []) (seen k (onto es [])) (seen_vars k (onto es [])) ∙ ap length (view_spots (onto es []) is ms k x e)

pub differing : {S : Type 0} (ss : List Spot) (table : IndexMap ℕ ℕ S) (is : List ℕ) (ms : List s.Mark) (k : ℕ) (x : Held) → IsContext ss table is ms k → held_of ss is ms k ≡ x → AllDiffer x.spots
differing ss table is ms k x h e = subst AllDiffer (view_spots ss is ms k x e) (same_differ ss (seen k ss) (seen_vars k ss) h.differ)

pub placed : {S : Type 0} (ss : List Spot) (table : IndexMap ℕ ℕ S) (is : List ℕ) (ms : List s.Mark) (k v : ℕ) (x : Held) → IsContext ss table is ms k → held_of ss is ms k ≡ x → get nat_eq table v ≡ place_in x.spots v
placed ss table is ms k v x h e = h.agrees v ∙ same_place ss (seen k ss) (seen_vars k ss) v ∙ ap (λ z. place_in z v) (view_spots ss is ms k x e)

some_of : (o : Option Entry) (e : Entry) → o ≡ Some e → option_map spot_of o ≡ Some (spot_of e)
some_of o e h = ap (option_map spot_of) h

pub read_some : (es : List Entry) (is : List ℕ) (ms : List s.Mark) (k i : ℕ) (x : Held) (e r : Entry) → held_of (onto es []) is ms k ≡ x → slice_get es i ≡ Some e → spot_of r ≡ seen_one k i (spot_of e) → Some (spot_of r) ≡ spot_in x.spots i
read_some es is ms k i x e r v g q =
    ap Some q
    ∙ sym (spot_seen k i (onto es []) (spot_of e) (sym (get_spot es i) ∙ some_of (slice_get es i) e g))
    ∙ ap (λ z. spot_in z i) (view_spots (onto es []) is ms k x v)

pub read_none : (es : List Entry) (is : List ℕ) (ms : List s.Mark) (k i : ℕ) (x : Held) → held_of (onto es []) is ms k ≡ x → slice_get es i ≡ None → None ≡ spot_in x.spots i
read_none es is ms k i x v g =
    sym (nothing_seen k i (onto es []) (sym (get_spot es i) ∙ ap (option_map spot_of) g))
    ∙ ap (λ z. spot_in z i) (view_spots (onto es []) is ms k x v)

-- ---- one more entry

pub add_sound : {S : Type 0} (es ds : List Entry) (table tabled : IndexMap ℕ ℕ S) (is : List ℕ) (ms : List s.Mark) (k i : ℕ) (e : Entry)
    → IsContext (onto es []) table is ms k → i ≡ length es → get nat_eq table e.var ≡ None → ds ≡ es ++ e ∷ [] → UpdatesBy nat_eq (nat_eq e.var) table tabled (Some i) → IsContext (onto ds []) tabled is ms k
add_sound es ds table tabled is ms k i e h n a d u =
    let l : i ≡ length (onto es []) = let g = onto_length es [] in omega arith in
    subst (λ ss. IsContext ss tabled is ms k) (sym (ap (λ z. onto z []) d ∙ onto_push es e []))
    (record {
      kept = let g = h.kept in omega arith;
      agrees = λ v. u.0 v ∙ ap (λ o. cond (nat_eq e.var v) (Some i) o) (h.agrees v) ∙ ap (λ j. cond (nat_eq e.var v) (Some j) (place_in (onto es []) v)) l;
      differ = (sym (h.agrees e.var) ∙ a, h.differ);
      marks = fit_push k (spot_of e) (onto es []) is ms h.marks;
    })

not_lent : (k : ℕ) (s : Spot) (ss : List Spot) → k ≤ length ss → seen k (s ∷ ss) ≡ s ∷ seen k ss
not_lent k s ss h = ap (λ b. cond b (lent_one s) s ∷ seen k ss) (other (length ss) k h)
  where
    other : (a b : ℕ) → b ≤ a → nat_lt a b ≡ false
    other a b h = grind arith

pub add_view : {S : Type 0} (es ds : List Entry) (table : IndexMap ℕ ℕ S) (is : List ℕ) (ms : List s.Mark) (k : ℕ) (e : Entry) (x : Held)
    → IsContext (onto es []) table is ms k → held_of (onto es []) is ms k ≡ x → ds ≡ es ++ e ∷ [] → held_of (onto ds []) is ms k ≡ with_spot (spot_of e) x
add_view es ds table is ms k e x h v d =
    ap (λ ss. held_of ss is ms k) (ap (λ z. onto z []) d ∙ onto_push es e [])
    ∙ ap (λ z. record { spots = z; saved = saved_of (spot_of e ∷ onto es []) is ms }) (not_lent k (spot_of e) (onto es []) h.kept)
    ∙ ap (λ z. record { spots = spot_of e ∷ seen k (onto es []); saved = z }) (saved_push k (spot_of e) (onto es []) is ms h.marks)
    ∙ ap (with_spot (spot_of e)) v

-- ---- one entry goes

lent_bound : (s : Spot) → is_free (lent_one s) ≡ false
lent_bound s = elim (is_free s) as (λ b. is_free s ≡ b → is_free (cond b (record s { hold = Kept }) s) ≡ false) [
  | true ↦ λ e. refl
  | false ↦ λ e. e
] refl

-- what is seen to be free is free, and stands above what is lent
pub record Free (k i : ℕ) (ss : List Spot) (s : Spot) : Type 0 where
  pub above : k ≤ i
  pub there : spot_in ss i ≡ Some s

pub free_seen : (k i : ℕ) (ss : List Spot) (s : Spot) → spot_in (seen k ss) i ≡ Some s → is_free s ≡ true → Free k i ss s
free_seen k i [] s = λ e f. absurd (let o : ⊥ = cc e in o)
free_seen k i (t ∷ ss) s =
    subst (λ n. cond (nat_eq n i) (Some (seen_one k (length ss) t)) (spot_in (seen k ss) i) ≡ Some s → is_free s ≡ true → Free k i (t ∷ ss) s) (same_length ss (seen k ss) (seen_vars k ss))
    (at_head (free_seen k i ss s) (nat_eq (length ss) i) refl (nat_lt (length ss) k) refl)
  where
    not_below : (a b : ℕ) → nat_lt a b ≡ false → b ≤ a
    not_below a b e = grind arith

    at_head : (spot_in (seen k ss) i ≡ Some s → is_free s ≡ true → Free k i ss s) → (b : Bool) → nat_eq (length ss) i ≡ b → (c : Bool) → nat_lt (length ss) k ≡ c
        → cond b (Some (cond c (lent_one t) t)) (spot_in (seen k ss) i) ≡ Some s → is_free s ≡ true → Free k i (t ∷ ss) s
    at_head ih true h true g e f = let q : lent_one t ≡ s = cc in absurd (true≢false (sym f ∙ ap is_free (sym q) ∙ lent_bound t))
    at_head ih true h false g e f =
        let q : t ≡ s = cc in
        let j = eqb-true (length ss) i h in
        record { above = let l = not_below (length ss) k g in omega arith; there = ap (λ b. cond b (Some t) (spot_in ss i)) h ∙ ap Some q }
    at_head ih false h c g e f = let r = ih e f in record { above = r.above; there = ap (λ b. cond b (Some t) (spot_in ss i)) h ∙ r.there }

pub fell_within : (es : List Entry) (is : List ℕ) (ms : List s.Mark) (k i : ℕ) (e : Entry) (x : Held) → held_of (onto es []) is ms k ≡ x → spot_in x.spots i ≡ Some (spot_of e) → is_free (spot_of e) ≡ true → i < length es
fell_within es is ms k i e x v t f =
    let r = free_seen k i (onto es []) (spot_of e) (ap (λ z. spot_in z i) (view_spots (onto es []) is ms k x v) ∙ t) f in
    spot_within es i (spot_of e) r.there

pub fell_sound : {S : Type 0} (es ds : List Entry) (table : IndexMap ℕ ℕ S) (is js : List ℕ) (ms : List s.Mark) (k i : ℕ) (e d : Entry) (x : Held)
    → IsContext (onto es []) table is ms k → held_of (onto es []) is ms k ≡ x → spot_in x.spots i ≡ Some (spot_of e) → is_free (spot_of e) ≡ true
    → spot_of d ≡ record (spot_of e) { hold = Gone } → ds ≡ slice_set es i d → js ≡ is ++ i ∷ [] → IsContext (onto ds []) table js ms k
fell_sound es ds table is js ms k i e d x h v t f q dd jj =
    let r = free_seen k i (onto es []) (spot_of e) (ap (λ z. spot_in z i) (view_spots (onto es []) is ms k x v) ∙ t) f in
    let o : OwnedAt i (onto es []) = owned_at i (onto es []) (spot_of e) r.there f in
    subst (λ z. IsContext (onto ds []) table z ms k) (sym jj)
    (subst (λ ss. IsContext ss table (is ++ i ∷ []) ms k) (sym (ap (λ z. onto z []) dd ∙ onto_set es i d Gone (spot_of e) r.there q))
    (record {
      kept = let n = same_length (onto es []) (holding i Gone (onto es [])) (holding_vars i Gone (onto es [])) in let g = h.kept in omega arith;
      agrees = λ w. h.agrees w ∙ same_place (onto es []) (holding i Gone (onto es [])) (holding_vars i Gone (onto es [])) w;
      differ = same_differ (onto es []) (holding i Gone (onto es [])) (holding_vars i Gone (onto es [])) h.differ;
      marks = fit_hold k i (onto es []) is ms o r.above h.marks;
    }))

pub fell_view : {S : Type 0} (es ds : List Entry) (table : IndexMap ℕ ℕ S) (is js : List ℕ) (ms : List s.Mark) (k i : ℕ) (e d : Entry) (x : Held)
    → IsContext (onto es []) table is ms k → held_of (onto es []) is ms k ≡ x → spot_in x.spots i ≡ Some (spot_of e) → is_free (spot_of e) ≡ true
    → spot_of d ≡ record (spot_of e) { hold = Gone } → ds ≡ slice_set es i d → js ≡ is ++ i ∷ [] → held_of (onto ds []) js ms k ≡ with_spots x (holding i Gone x.spots)
fell_view es ds table is js ms k i e d x h v t f q dd jj =
    let r = free_seen k i (onto es []) (spot_of e) (ap (λ z. spot_in z i) (view_spots (onto es []) is ms k x v) ∙ t) f in
    let o : OwnedAt i (onto es []) = owned_at i (onto es []) (spot_of e) r.there f in
    ap (λ z. held_of (onto ds []) z ms k) jj
    ∙ ap (λ ss. held_of ss (is ++ i ∷ []) ms k) (ap (λ z. onto z []) dd ∙ onto_set es i d Gone (spot_of e) r.there q)
    ∙ ap (λ z. record { spots = seen k (holding i Gone (onto es [])); saved = z }) (saved_hold k i (onto es []) is ms o h.marks)
    ∙ ap (λ z. record { spots = z; saved = saved_of (onto es []) is ms }) (seen_holding k i Gone (onto es []) r.above)
    ∙ ap (λ y. with_spots y (holding i Gone y.spots)) v

-- ---- marks

pub marks_push : (xs : List Mark) (m : Mark) (ms : List s.Mark) → marks_of (xs ++ m ∷ []) ms ≡ mark_of m ∷ marks_of xs ms
marks_push [] m ms = refl
marks_push (x ∷ xs) m ms = marks_push xs m (mark_of x ∷ ms)

pub mark_sound : {S : Type 0} (es : List Entry) (table : IndexMap ℕ ℕ S) (is : List ℕ) (xs ys : List Mark) (k : ℕ) (m : Mark)
    → IsContext (onto es []) table is (marks_of xs []) k → m.entries ≡ length es → m.gone ≡ length is → m.kept_below ≡ k → ys ≡ xs ++ m ∷ [] → IsContext (onto es []) table is (marks_of ys []) k
mark_sound es table is xs ys k m h e g l y =
    let n : m.entries ≡ length (onto es []) = let j = onto_length es [] in omega arith in
    subst (λ ms. IsContext (onto es []) table is ms k) (sym (ap (λ z. marks_of z []) y ∙ marks_push xs m []))
    (record { kept = h.kept; agrees = h.agrees; differ = h.differ; marks = fit_mark k (onto es []) is (mark_of m) (marks_of xs []) h.kept n g l h.marks })

pub mark_view : (es : List Entry) (is : List ℕ) (xs ys : List Mark) (k : ℕ) (m : Mark) (x : Held)
    → held_of (onto es []) is (marks_of xs []) k ≡ x → m.entries ≡ length es → m.gone ≡ length is → m.kept_below ≡ k → ys ≡ xs ++ m ∷ [] → held_of (onto es []) is (marks_of ys []) k ≡ marked x
mark_view es is xs ys k m x v e g l y =
    let n : m.entries ≡ length (onto es []) = let j = onto_length es [] in omega arith in
    ap (λ ms. held_of (onto es []) is ms k) (ap (λ z. marks_of z []) y ∙ marks_push xs m [])
    ∙ ap (λ z. record { spots = seen k (onto es []); saved = z }) (saved_mark k (onto es []) is (mark_of m) (marks_of xs []) n g l)
    ∙ ap marked v

pub lend_sound : {S : Type 0} (es : List Entry) (table : IndexMap ℕ ℕ S) (is : List ℕ) (ms : List s.Mark) (k n : ℕ) → IsContext (onto es []) table is ms k → n ≡ length es → IsContext (onto es []) table is ms n
lend_sound es table is ms k n h e =
    let l : n ≡ length (onto es []) = let j = onto_length es [] in omega arith in
    let g = h.kept in
    record { kept = omega arith; agrees = h.agrees; differ = h.differ; marks = fit_lend k n (onto es []) is ms (omega arith) h.marks }

pub lend_view : (es : List Entry) (is : List ℕ) (ms : List s.Mark) (k n : ℕ) (x : Held) → held_of (onto es []) is ms k ≡ x → n ≡ length es → held_of (onto es []) is ms n ≡ kept_all x
lend_view es is ms k n x v e =
    let j = onto_length es [] in
    ap (λ z. record { spots = z; saved = saved_of (onto es []) is ms }) (lent_seen n k (onto es []) (omega arith))
    ∙ ap kept_all v

outer_differ : (n : ℕ) (ss : List Spot) → AllDiffer ss → AllDiffer (outer n ss)
outer_differ n [] h = tt
outer_differ n (s ∷ ss) h = at_head (outer_differ n ss h.1) (nat_lt (length ss) n)
  where
    at_head : AllDiffer (outer n ss) → (b : Bool) → AllDiffer (cond b (s ∷ ss) (outer n ss))
    at_head ih true = h
    at_head ih false = ih

pub undo_sound : {S : Type 0} (es fs : List Entry) (table tabled : IndexMap ℕ ℕ S) (is js : List ℕ) (xs ys : List Mark) (k : ℕ) (m : Mark) (os : List Spot)
    → IsContext (onto es []) table is (marks_of xs []) k → xs ≡ ys ++ m ∷ [] → os ≡ outer m.entries (onto es []) → Agrees os tabled → onto fs [] ≡ undone (drop m.gone is) os → js ≡ take m.gone is
    → IsContext (onto fs []) tabled js (marks_of ys []) m.kept_below
undo_sound es fs table tabled is js xs ys k m os h y o a f j =
    let a2 : Agrees (outer m.entries (onto es [])) tabled = subst (λ z. Agrees z tabled) o a in
    let e : onto fs [] ≡ before (mark_of m) (onto es []) is = f ∙ ap (undone (drop m.gone is)) o in
    let w : AllFit k (onto es []) is (mark_of m ∷ marks_of ys []) = subst (AllFit k (onto es []) is) (ap (λ z. marks_of z []) y ∙ marks_push ys m []) h.marks in
    let vars = undone_vars (drop m.gone is) (outer m.entries (onto es [])) in
    let b = before (mark_of m) (onto es []) is in
    subst (λ ss. IsContext ss tabled js (marks_of ys []) m.kept_below) (sym e)
    (subst (λ z. IsContext b tabled z (marks_of ys []) m.kept_below) (sym j)
    (record {
      kept = let n = sym (same_length (outer m.entries (onto es [])) b vars) ∙ outer_length m.entries (onto es []) w.0.entries in let l = w.0.within in omega arith;
      agrees = λ v. a2 v ∙ same_place (outer m.entries (onto es [])) b vars v;
      differ = same_differ (outer m.entries (onto es [])) b vars (outer_differ m.entries (onto es []) h.differ);
      marks = w.1;
    }))

pub undo_view : (es fs : List Entry) (is js : List ℕ) (xs ys : List Mark) (k : ℕ) (m : Mark) (os : List Spot) (x : Held)
    → held_of (onto es []) is (marks_of xs []) k ≡ x → xs ≡ ys ++ m ∷ [] → os ≡ outer m.entries (onto es []) → onto fs [] ≡ undone (drop m.gone is) os → js ≡ take m.gone is
    → held_of (onto fs []) js (marks_of ys []) m.kept_below ≡ back_at x
undo_view es fs is js xs ys k m os x v y o f j =
    ap (λ ss. held_of ss js (marks_of ys []) m.kept_below) (f ∙ ap (undone (drop m.gone is)) o)
    ∙ ap (λ z. held_of (before (mark_of m) (onto es []) is) z (marks_of ys []) m.kept_below) j
    ∙ ap back_at (sym (ap (λ ms. held_of (onto es []) is ms k) (ap (λ z. marks_of z []) y ∙ marks_push ys m [])) ∙ v)

-- the last mark is the first of those that a context has
pub record Last (xs : List Mark) (acc : List s.Mark) (m : Mark) : Type 0 where
  pub others : List s.Mark
  pub is : marks_of xs acc ≡ mark_of m ∷ others

last_from : (x : Mark) (xs : List Mark) (acc : List s.Mark) (m : Mark) (n : ℕ) → n ≡ length xs → slice_get (x ∷ xs) n ≡ Some m → Last (x ∷ xs) acc m
last_from x [] acc m zero l e = record { others = acc; is = ap (λ z. mark_of z ∷ acc) (let q : x ≡ m = cc in q) }
last_from x [] acc m (suc n) l e = absurd (omega arith)
last_from x (y ∷ xs) acc m zero l e = absurd (omega arith)
last_from x (y ∷ xs) acc m (suc n) l e =
    let r = last_from y xs (mark_of x ∷ acc) m n (omega arith) e in
    record { others = r.others; is = r.is }

pub last_mark : (xs : List Mark) (m : Mark) → slice_get xs (length xs - 1) ≡ Some m → Last xs [] m
last_mark [] m e = absurd (let o : ⊥ = cc e in o)
last_mark (x ∷ xs) m e = last_from x xs [] m (length (x ∷ xs) - 1) (omega arith) e

pub went_within : {S : Type 0} (ss : List Spot) (table : IndexMap ℕ ℕ S) (is : List ℕ) (xs : List Mark) (k : ℕ) (m : Mark) → IsContext ss table is (marks_of xs []) k → slice_get xs (length xs - 1) ≡ Some m → m.gone ≤ length is
went_within ss table is xs k m h e =
    let r = last_mark xs m e in
    let f : AllFit k ss is (mark_of m ∷ r.others) = subst (AllFit k ss is) r.is h.marks in
    f.0.gone

pub went_back : {S : Type 0} (ss : List Spot) (table : IndexMap ℕ ℕ S) (is : List ℕ) (xs : List Mark) (k : ℕ) (m : Mark) (x : Held) → IsContext ss table is (marks_of xs []) k → held_of ss is (marks_of xs []) k ≡ x → slice_get xs (length xs - 1) ≡ Some m → FallsBack (drop m.gone is) x
went_back ss table is xs k m x h v e =
    let r = last_mark xs m e in
    let f : AllFit k ss is (mark_of m ∷ r.others) = subst (AllFit k ss is) r.is h.marks in
    subst (FallsBack (drop m.gone is)) (sym (ap (λ ms. held_of ss is ms k) r.is) ∙ v) (went_falls k ss is (mark_of m) f.0)

no_marks : (xs : List Mark) → slice_get xs (length xs - 1) ≡ None → xs ≡ []
no_marks [] e = refl
no_marks (x ∷ xs) e = absurd (let o : ⊥ = at_end x xs (length (x ∷ xs) - 1) (omega arith) e in o)
  where
    at_end : (x : Mark) (xs : List Mark) (n : ℕ) → n ≤ length xs → slice_get (x ∷ xs) n ≡ None → ⊥
    at_end x xs zero l e = let o : ⊥ = cc e in o
    at_end x [] (suc n) l e = omega arith
    at_end x (y ∷ xs) (suc n) l e = at_end y xs n (omega arith) e

pub none_back : (ss : List Spot) (is : List ℕ) (xs : List Mark) (k : ℕ) (x : Held) → held_of ss is (marks_of xs []) k ≡ x → slice_get xs (length xs - 1) ≡ None → FallsBack [] x
none_back ss is xs k x v e = subst (FallsBack []) (ap (λ z. held_of ss is (marks_of z []) k) (sym (no_marks xs e)) ∙ v) refl

-- ---- loops

pub shorten_step : {S : Type 0} (es ds : List Entry) (table tabled : IndexMap ℕ ℕ S) (n : ℕ) (e : Entry) → es ≡ ds ++ e ∷ [] → n < length es → outer n (onto es []) ≡ outer n (onto ds [])
shorten_step es ds table tabled n e d l =
    let a = onto_length ds [] in
    let b : length (onto es []) ≡ suc (length (onto ds [])) = ap (λ z. length (onto z [])) d ∙ ap length (onto_push ds e []) in
    let c = onto_length es [] in
    ap (λ z. outer n (onto z [])) d ∙ ap (outer n) (onto_push ds e []) ∙ outer_below n (spot_of e) (onto ds []) (omega arith)

pub shorten_differ : (es ds : List Entry) (e : Entry) → es ≡ ds ++ e ∷ [] → AllDiffer (onto es []) → AllDiffer (onto ds [])
shorten_differ es ds e d h =
    let k : AllDiffer (spot_of e ∷ onto ds []) = subst AllDiffer (ap (λ z. onto z []) d ∙ onto_push ds e []) h in
    k.1

pub shorten_agrees : {S : Type 0} (es ds : List Entry) (table tabled : IndexMap ℕ ℕ S) (e : Entry) → es ≡ ds ++ e ∷ [] → AllDiffer (onto es []) → Agrees (onto es []) table → UpdatesBy nat_eq (nat_eq e.var) table tabled None → Agrees (onto ds []) tabled
shorten_agrees es ds table tabled e d h a u v =
    let s : onto es [] ≡ spot_of e ∷ onto ds [] = ap (λ z. onto z []) d ∙ onto_push ds e [] in
    let k : AllDiffer (spot_of e ∷ onto ds []) = subst AllDiffer s h in
    u.0 v ∙ ap (λ o. cond (nat_eq e.var v) None o) (a v ∙ ap (λ z. place_in z v) s) ∙ at_var (nat_eq e.var v) refl k.0
  where
    at_var : (b : Bool) → nat_eq e.var v ≡ b → place_in (onto ds []) e.var ≡ None → cond b None (cond b (Some (length (onto ds []))) (place_in (onto ds []) v)) ≡ place_in (onto ds []) v
    at_var true q n = sym n ∙ ap (place_in (onto ds [])) (eqb-true e.var v q)
    at_var false q n = refl

pub restore_step : (is js : List ℕ) (i n : ℕ) (ss ts : List Spot) → is ≡ js ++ i ∷ [] → n < length is → ts ≡ holding i Owned ss → undone (drop n is) ss ≡ undone (drop n js) ts
restore_step is js i n ss ts e l t =
    let k : length is ≡ length js + 1 = ap length e ∙ count js in
    ap (λ z. undone (drop n z) ss) e
    ∙ ap (λ z. undone z ss) (drop-append-le n js (i ∷ []) (omega arith))
    ∙ undone_more (drop n js) i ss
    ∙ ap (undone (drop n js)) (sym t)
  where
    count : (js : List ℕ) → length (js ++ i ∷ []) ≡ length js + 1
    count [] = refl
    count (j ∷ js) = let h = count js in omega arith

pub restore_take : (is js : List ℕ) (i n : ℕ) → is ≡ js ++ i ∷ [] → n < length is → take n is ≡ take n js
restore_take is js i n e l =
    let k : length is ≡ length js + 1 = ap length e ∙ count js in
    ap (take n) e ∙ take-append-le n js (i ∷ []) (omega arith)
  where
    count : (js : List ℕ) → length (js ++ i ∷ []) ≡ length js + 1
    count [] = refl
    count (j ∷ js) = let h = count js in omega arith

-- ---- steps of the code

pub absent : (o : Option ℕ) → is_some o ≡ false → o ≡ None
absent None e = refl
absent (Some n) e = absurd (true≢false e)

pub owned_set : (es ds : List Entry) (i : ℕ) (e d : Entry) → slice_get es i ≡ Some e → spot_of d ≡ record (spot_of e) { hold = Owned } → ds ≡ slice_set es i d → onto ds [] ≡ holding i Owned (onto es [])
owned_set es ds i e d g q s = ap (λ z. onto z []) s ∙ onto_set es i d Owned (spot_of e) (sym (get_spot es i) ∙ some_of (slice_get es i) e g) q

spot_past : (ss : List Spot) (i : ℕ) → spot_in ss i ≡ None → (h : Hold) → holding i h ss ≡ ss
spot_past [] i = λ e h. refl
spot_past (s ∷ ss) i = λ e h. at_head h (spot_past ss i) (nat_eq (length ss) i) e
  where
    at_head : (h : Hold) → (spot_in ss i ≡ None → (h : Hold) → holding i h ss ≡ ss) → (b : Bool) → cond b (Some s) (spot_in ss i) ≡ None → cond b (record s { hold = h }) s ∷ holding i h ss ≡ s ∷ ss
    at_head h ih true e = absurd (let o : ⊥ = cc e in o)
    at_head h ih false e = ap (λ z. s ∷ z) (ih e h)

pub owned_none : (es : List Entry) (i : ℕ) → slice_get es i ≡ None → onto es [] ≡ holding i Owned (onto es [])
owned_none es i g = sym (spot_past (onto es []) i (sym (get_spot es i) ∙ ap (option_map spot_of) g) Owned)

pub fall_step : (xs : List ℕ) (i : ℕ) (x y z : Held) → i < length xs → y ≡ with_spots x (falls_at (take i xs) x.spots) → z ≡ with_spots y (falls_at (get_or xs i 0 ∷ []) y.spots) → z ≡ with_spots x (falls_at (take (i + 1) xs) x.spots)
fall_step xs i x y z l e f =
    let n : suc i ≡ i + 1 = omega arith in
    f ∙ ap (λ w. with_spots w (falls_at (get_or xs i 0 ∷ []) w.spots)) e
    ∙ ap (with_spots x) (sym (falls_more (take i xs) (get_or xs i 0) x.spots) ∙ ap (λ js. falls_at js x.spots) (sym (take-suc xs i 0 l) ∙ ap (λ j. take j xs) n))

pub ok_with : {E : Type 0} (r : Result (Unit {0}) E) (x y : Held) (ss ts : List Spot) → OnOk r (y ≡ with_spots x ss) → ss ≡ ts → OnOk r (y ≡ with_spots x ts)
ok_with (Ok u) x y ss ts h e = h ∙ ap (with_spots x) e
ok_with (Err z) x y ss ts h e = tt

pub last_is : (o : Option (Bor Mark)) (m : Bor Mark) (xs ys : List Mark) → ys ≡ xs → option_copied o ≡ slice_get ys (length ys - 1) → o ≡ Some m → slice_get xs (length xs - 1) ≡ Some m.now
last_is o m xs ys e f g = ap (λ z. slice_get z (length z - 1)) (sym e) ∙ sym f ∙ ap option_copied g

pub since_back : {S E : Type 0} (r : Result (List ℕ) E) (ss : List Spot) (table : IndexMap ℕ ℕ S) (is : List ℕ) (xs : List Mark) (k : ℕ) (m : Mark) (x : Held) → IsContext ss table is (marks_of xs []) k → held_of ss is (marks_of xs []) k ≡ x
    → slice_get xs (length xs - 1) ≡ Some m → (js ks : List ℕ) → js ≡ is → ks ≡ drop m.gone js → IfOk r (λ it. it ≡ ks) → IfOk r (λ it. FallsBack it x)
since_back (Ok it) ss table is xs k m x h v l js ks e f q = subst (λ z. FallsBack z x) (sym (q ∙ f ∙ ap (drop m.gone) e)) (went_back ss table is xs k m x h v l)
since_back (Err z) ss table is xs k m x h v l js ks e f q = tt
