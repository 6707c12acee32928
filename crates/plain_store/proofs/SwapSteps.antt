-- One more cell of a list is joined, swapped or cut.
use Rattle.std.proofs.Common.{◌≡◌, ◌≢◌, ℕ, suc, ◌+◌, ◌<◌, ◌≤◌, ◌^◌, Bool, true, false, cond, List, [], ◌∷◌, ◌++◌, length, refl, sym, ap, ◌∙◌, subst, arith, eqb, eq-eqb, ne_eqb, ⊎_elim, take}
use Rattle.std.proofs.lemmas.Bool.{cond-true, cond-false}
use Rattle.std.proofs.lemmas.Bool.Decides.{eqb_tells}
use Rattle.std.proofs.lemmas.List.{length-set}
use Rattle.std.proofs.lemmas.Option.{slice_get_within}
use Rattle.std.specs.Prelude.{Option, Some, None, slice_get, slice_set}
use Rattle.plain_store.specs.Levels.{kept_in, other_in, is_lent}
use Rattle.plain_store.specs.Swaps.{with_amount, AreJoined, AreSwapped, IsWithin, joined_cell, swapped_cell, swapped_entry}
use Rattle.plain_store.specs.declared.cells.Cell.{Cell}
use Rattle.plain_store.specs.declared.forks.Lent.{Lent}
use Rattle.plain_store.proofs.Gets.{set_same, set_other}
use Rattle.plain_store.proofs.LentLists.{if_at, kept_more, other_more, lent_more, other_none, by_cases, lent_at, kept_at, other_at, get_within, take_next}

pub here : (e : Lent) (i n : ℕ) → e.at ≡ i → if_at e i n ≡ n
here e i n q = cond-true (eqb e.at i) n 0 (eq-eqb e.at i q)

pub gone : (e : Lent) (i n : ℕ) → i ≢ e.at → if_at e i n ≡ 0
gone e i n q = cond-false (eqb e.at i) n 0 (ne_eqb e.at i (λ x. q (sym x)))

pub set_at : (cells : List Cell) (f i : ℕ) (d v : Cell) → slice_get cells f ≡ Some d → i ≡ f → slice_get (slice_set cells f v) i ≡ Some v
set_at cells f i d v at e = ap (slice_get (slice_set cells f v)) e ∙ set_same cells f v (slice_get_within cells f d at)

amounts : (c : Cell) (n m stamp : ℕ) → n ≡ m → Some (with_amount c n stamp) ≡ Some (with_amount c m stamp)
amounts c n m stamp e = ap (λ k. Some (with_amount c k stamp)) e

some_same : (o : Option Cell) (d c : Cell) → o ≡ Some d → o ≡ Some c → d ≡ c
some_same None d c e f = cc e
some_same (Some x) d c e f = cc (e, f)

pub join_none : (cells : List Cell) → AreJoined cells cells []
join_none cells = record { len = refl; joined = λ i c at. at ∙ amounts c c.amount (c.amount + (0 + 0)) c.stamp (omega arith) }

pub join_next : (old new : List Cell) (xs : List Lent) (e : Lent) (d : Cell) → slice_get new e.at ≡ Some d → AreJoined old new xs → AreJoined old (slice_set new e.at (joined_cell d e)) (xs ++ e ∷ [])
join_next old new xs e d at j = record {
  len = length-set new e.at (joined_cell d e) ∙ j.len;
  joined = λ i c is.
      let k = kept_more xs e i in let o = other_more xs e i in
      ⊎_elim
      (λ w. let q : e.at ≡ i = sym w.1 in
      let was = j.joined i c is in
      let same : d ≡ with_amount c (c.amount + (kept_in xs i + other_in xs i)) c.stamp = some_same (slice_get new i) d (with_amount c (c.amount + (kept_in xs i + other_in xs i)) c.stamp) (ap (slice_get new) w.1 ∙ at) was in
      let hk = here e i e.kept q in let ho = here e i e.other q in
      set_at new e.at i d (joined_cell d e) at w.1 ∙
      (ap (λ x. Some (joined_cell x e)) same ∙ amounts c (c.amount + (kept_in xs i + other_in xs i) + e.kept + e.other) (c.amount + (kept_in (xs ++ e ∷ []) i + other_in (xs ++ e ∷ []) i)) c.stamp (omega arith)))
      (λ w. let hk = gone e i e.kept w.1 in let ho = gone e i e.other w.1 in
      set_other new e.at i (joined_cell d e) w.1 ∙ (j.joined i c is ∙ amounts c (c.amount + (kept_in xs i + other_in xs i)) (c.amount + (kept_in (xs ++ e ∷ []) i + other_in (xs ++ e ∷ []) i)) c.stamp (omega arith)))
      (eqb_tells i e.at);
}

pub swap_none : (cells : List Cell) (stamp : ℕ) → AreSwapped cells cells [] [] stamp
swap_none cells stamp = record { len = refl; swapped = λ i c at e. absurd (let z : ⊥ = cc e in z); same = λ i e. refl; kept = λ i. refl; places = λ i. refl }

pub lent_there : (t u : Bool) → cond t true u ≡ true → u ≡ false → t ≡ true
lent_there true u e f = refl
lent_there false u e f = cc (e, f)

pub lent_not : (t u : Bool) → cond t true u ≡ false → (t ≡ false) × (u ≡ false)
lent_not true u e = cc e
lent_not false u e = (refl, e)

pub not_at : (x : Lent) (i : ℕ) → eqb x.at i ≡ false → i ≢ x.at
not_at x i f q = let z = eq-eqb x.at i (sym q) in cc (z, f)

pub swap_next : (old new : List Cell) (xs ys : List Lent) (stamp : ℕ) (e : Lent) (d : Cell) → slice_get new e.at ≡ Some d → ((i : ℕ) (c : Cell) → slice_get old i ≡ Some c → c.stamp < stamp) → AreSwapped old new xs ys stamp → AreSwapped old (slice_set new e.at (swapped_cell d e stamp)) (xs ++ e ∷ []) (ys ++ swapped_entry d e stamp ∷ []) stamp
swap_next old new xs ys stamp e d at fresh j = record {
  len = length-set new e.at (swapped_cell d e stamp) ∙ j.len;
  swapped = λ i c is lent.
      let o = other_more xs e i in let u = other_more ys (swapped_entry d e stamp) i in
      ⊎_elim
      (λ w. let q : e.at ≡ i = sym w.1 in
      by_cases ((slice_get (slice_set new e.at (swapped_cell d e stamp)) i ≡ Some (with_amount c (other_in (xs ++ e ∷ []) i) stamp)) × (other_in (ys ++ swapped_entry d e stamp ∷ []) i ≡ c.amount)) (is_lent xs i)
      (λ t.
      let was = j.swapped i c is t in
      let same : d ≡ with_amount c (other_in xs i) stamp = some_same (slice_get new i) d (with_amount c (other_in xs i) stamp) (ap (slice_get new) w.1 ∙ at) was.0 in
      let ho = here e i e.other q in
      let b : eqb d.stamp stamp ≡ true = eq-eqb d.stamp stamp (ap (λ (x : Cell). x.stamp) same) in
      let hu = here (swapped_entry d e stamp) i (cond (eqb d.stamp stamp) 0 d.amount) q in
      let hz : cond (eqb d.stamp stamp) 0 d.amount ≡ 0 = cond-true (eqb d.stamp stamp) 0 d.amount b in
      let w1 = was.1 in
      let am : d.amount ≡ other_in xs i = ap (λ (x : Cell). x.amount) same in (
        set_at new e.at i d (swapped_cell d e stamp) at w.1 ∙ (ap (λ n. Some (with_amount d n stamp)) (cond-true (eqb d.stamp stamp) (d.amount + e.other) e.other b) ∙ (ap (λ x. Some (with_amount x (d.amount + e.other) stamp)) same ∙ amounts c (d.amount + e.other) (other_in (xs ++ e ∷ []) i) stamp (omega arith))),
        omega arith,
      ))
      (λ t.
      let was : slice_get new i ≡ Some c = j.same i t ∙ is in
      let same : d ≡ c = some_same (slice_get new i) d c (ap (slice_get new) w.1 ∙ at) was in
      let ho = here e i e.other q in
      let lt : d.stamp < stamp = subst (λ (x : Cell). x.stamp < stamp) (sym same) (fresh i c is) in
      let b : eqb d.stamp stamp ≡ false = ne_eqb d.stamp stamp (λ r. let f : ⊥ = omega arith in f) in
      let hu = here (swapped_entry d e stamp) i (cond (eqb d.stamp stamp) 0 d.amount) q in
      let hz : cond (eqb d.stamp stamp) 0 d.amount ≡ d.amount = cond-false (eqb d.stamp stamp) 0 d.amount b in
      let xn = other_none xs i t in let yn = other_none ys i (j.places i ∙ t) in
      let am : d.amount ≡ c.amount = ap (λ (x : Cell). x.amount) same in (
        set_at new e.at i d (swapped_cell d e stamp) at w.1 ∙ (ap (λ n. Some (with_amount d n stamp)) (cond-false (eqb d.stamp stamp) (d.amount + e.other) e.other b) ∙ (ap (λ x. Some (with_amount x e.other stamp)) same ∙ amounts c e.other (other_in (xs ++ e ∷ []) i) stamp (omega arith))),
        omega arith,
      )))
      (λ w. let ho = gone e i e.other w.1 in
      let hu = gone (swapped_entry d e stamp) i (cond (eqb d.stamp stamp) 0 d.amount) w.1 in
      let t : is_lent xs i ≡ true = lent_there (is_lent xs i) (eqb e.at i) (sym (lent_more xs e i) ∙ lent) (ne_eqb e.at i (λ x. w.1 (sym x))) in
      let was = j.swapped i c is t in let w1 = was.1 in
      (set_other new e.at i (swapped_cell d e stamp) w.1 ∙ (was.0 ∙ amounts c (other_in xs i) (other_in (xs ++ e ∷ []) i) stamp (omega arith)), omega arith))
      (eqb_tells i e.at);
  same = λ i n.
      let both = lent_not (is_lent xs i) (eqb e.at i) (sym (lent_more xs e i) ∙ n) in
      set_other new e.at i (swapped_cell d e stamp) (not_at e i both.1) ∙ j.same i both.0;
  kept = λ i.
      kept_more ys (swapped_entry d e stamp) i ∙ (ap (λ n. n + if_at e i e.kept) (j.kept i) ∙ sym (kept_more xs e i));
  places = λ i. lent_more ys (swapped_entry d e stamp) i ∙ (ap (λ b. cond b true (eqb e.at i)) (j.places i) ∙ sym (lent_more xs e i));
}

-- the next entry's cell can be joined
pub join_ready : (old new : List Cell) (lent : List Lent) (k : ℕ) (e : Lent) → slice_get lent k ≡ Some e → ((i : ℕ) → is_lent lent i ≡ true → i < length old) → ((i : ℕ) (c : Cell) → slice_get old i ≡ Some c → c.amount + (kept_in lent i + other_in lent i) ≤ 2 ^ 64) → AreJoined old new (take k lent) → IsWithin new e (λ c. c.amount + e.kept + e.other ≤ 2 ^ 64)
join_ready old new lent k e at within most j =
    let g = get_within old e.at (within e.at (lent_at k lent e at)) in
    let m = most e.at g.0 g.1 in
    let a = kept_at k lent e at in let b = other_at k lent e at in
    (with_amount g.0 (g.0.amount + (kept_in (take k lent) e.at + other_in (take k lent) e.at)) g.0.stamp, j.joined e.at g.0 g.1, omega arith)

pub join_step : (old new : List Cell) (lent : List Lent) (k : ℕ) (e : Lent) (d : Cell) (next : List Cell) → slice_get lent k ≡ Some e → slice_get new e.at ≡ Some d → next ≡ slice_set new e.at (joined_cell d e) → AreJoined old new (take k lent) → AreJoined old next (take (suc k) lent)
join_step old new lent k e d next at is eq j =
    subst (λ l. AreJoined old l (take (suc k) lent)) (sym eq) (subst (λ l. AreJoined old (slice_set new e.at (joined_cell d e)) l) (sym (take_next k lent e at)) (join_next old new (take k lent) e d is j))

-- the next entry's cell can be swapped
pub swap_ready : (old new : List Cell) (lent after : List Lent) (stamp k : ℕ) (e : Lent) → slice_get lent k ≡ Some e → ((i : ℕ) → is_lent lent i ≡ true → i < length old) → ((i : ℕ) (c : Cell) → slice_get old i ≡ Some c → c.amount + other_in lent i ≤ 2 ^ 64) → AreSwapped old new (take k lent) after stamp → IsWithin new e (λ c. c.amount + e.other ≤ 2 ^ 64)
swap_ready old new lent after stamp k e at within most j =
    let g = get_within old e.at (within e.at (lent_at k lent e at)) in
    let m = most e.at g.0 g.1 in
    let b = other_at k lent e at in
    by_cases (IsWithin new e (λ c. c.amount + e.other ≤ 2 ^ 64)) (is_lent (take k lent) e.at)
    (λ t. (with_amount g.0 (other_in (take k lent) e.at) stamp, (j.swapped e.at g.0 g.1 t).0, omega arith))
    (λ t. (g.0, j.same e.at t ∙ g.1, omega arith))

pub swap_step : (old new next : List Cell) (lent ys after : List Lent) (stamp k : ℕ) (e : Lent) (d : Cell) → slice_get lent k ≡ Some e → slice_get new e.at ≡ Some d → next ≡ slice_set new e.at (swapped_cell d e stamp) → after ≡ ys ++ swapped_entry d e stamp ∷ [] → ((i : ℕ) (c : Cell) → slice_get old i ≡ Some c → c.stamp < stamp) → AreSwapped old new (take k lent) ys stamp → AreSwapped old next (take (suc k) lent) after stamp
swap_step old new next lent ys after stamp k e d at is eq f fresh j =
    subst (λ l. AreSwapped old l (take (suc k) lent) after stamp) (sym eq)
    (subst (λ l. AreSwapped old (slice_set new e.at (swapped_cell d e stamp)) (take (suc k) lent) l stamp) (sym f)
    (subst (λ l. AreSwapped old (slice_set new e.at (swapped_cell d e stamp)) l (ys ++ swapped_entry d e stamp ∷ []) stamp) (sym (take_next k lent e at)) (swap_next old new (take k lent) ys stamp e d is fresh j)))
