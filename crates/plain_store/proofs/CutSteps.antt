-- One more cell of a list is cut.
use Rattle.std.proofs.Common.{◌≡◌, ◌⊎◌, inl, inr, ℕ, zero, suc, ◌+◌, ◌-◌, ◌<◌, ◌≤◌, Bool, true, false, cond, List, [], ◌∷◌, ◌++◌, refl, sym, ap, ◌∙◌, subst, arith, eqb, ne_eqb, ⊎_elim, take}
use Rattle.std.proofs.lemmas.Bool.Decides.{eqb_tells}
use Rattle.std.proofs.lemmas.List.{length-set}
use Rattle.std.specs.Prelude.{Some, slice_get, slice_set}
use Rattle.plain_store.specs.Levels.{kept_in, other_in, is_lent}
use Rattle.plain_store.specs.Swaps.{with_amount, AreCut, AllAgree, IsSomeCell, IsWithin, first_kept, first_other, cut_cell, no_entry}
use Rattle.plain_store.specs.declared.cells.Cell.{Cell}
use Rattle.plain_store.specs.declared.forks.Lent.{Lent}
use Rattle.plain_store.proofs.Gets.{set_other}
use Rattle.plain_store.proofs.LentLists.{kept_more, other_more, lent_more, kept_none, other_none, by_cases, lent_at, take_next}
use Rattle.plain_store.proofs.SwapSteps.{here, gone, set_at, lent_there, lent_not, not_at}
use Rattle.plain_store.proofs.Widened.{some_same}

pub cut_next : (old new : List Cell) (xs ys : List Lent) (K R : ℕ → ℕ) (stamp : ℕ) (e : Lent) (d : Cell) → slice_get new e.at ≡ Some d → slice_get old e.at ≡ Some d → is_lent xs e.at ≡ false → e.kept ≡ K e.at → e.other ≡ R e.at → AreCut old new xs ys K R stamp → AreCut old (slice_set new e.at (cut_cell d e stamp)) (xs ++ e ∷ []) (ys ++ e ∷ []) K R stamp
cut_next old new xs ys K R stamp e d at was out ek er j = record {
  len = length-set new e.at (cut_cell d e stamp) ∙ j.len;
  cut = λ i c is lent.
      let k = kept_more ys e i in let o = other_more ys e i in
      ⊎_elim
      (λ w. let q : e.at ≡ i = sym w.1 in
      let same : d ≡ c = some_same (slice_get old i) d c (ap (slice_get old) w.1 ∙ was) is in
      let hk = here e i e.kept q in let ho = here e i e.other q in
      let n = j.places e.at ∙ out in
      let yk = kept_none ys i (ap (is_lent ys) w.1 ∙ n) in let yo = other_none ys i (ap (is_lent ys) w.1 ∙ n) in
      let ek2 : e.kept ≡ K i = ek ∙ ap K q in let er2 : e.other ≡ R i = er ∙ ap R q in (
        set_at new e.at i d (cut_cell d e stamp) at w.1 ∙ (ap (λ x. Some (cut_cell x e stamp)) same
            ∙ (ap (λ n. Some (with_amount c ((c.amount - n) - e.other) stamp)) ek2 ∙ ap (λ n. Some (with_amount c ((c.amount - K i) - n) stamp)) er2)),
        (let z : kept_in (ys ++ e ∷ []) i ≡ K i = omega arith in z),
        (let z : other_in (ys ++ e ∷ []) i ≡ R i = omega arith in z),
      ))
      (λ w. let hk = gone e i e.kept w.1 in let ho = gone e i e.other w.1 in
      let t : is_lent xs i ≡ true = lent_there (is_lent xs i) (eqb e.at i) (sym (lent_more xs e i) ∙ lent) (ne_eqb e.at i (λ x. w.1 (sym x))) in
      let b = j.cut i c is t in let b1 = b.1 in let b2 = b.2 in
      (set_other new e.at i (cut_cell d e stamp) w.1 ∙ b.0, (let z : kept_in (ys ++ e ∷ []) i ≡ K i = omega arith in z), (let z : other_in (ys ++ e ∷ []) i ≡ R i = omega arith in z)))
      (eqb_tells i e.at);
  same = λ i n.
      let both = lent_not (is_lent xs i) (eqb e.at i) (sym (lent_more xs e i) ∙ n) in
      set_other new e.at i (cut_cell d e stamp) (not_at e i both.1) ∙ j.same i both.0;
  places = λ i. lent_more ys e i ∙ (ap (λ b. cond b true (eqb e.at i)) (j.places i) ∙ sym (lent_more xs e i));
}

pub cut_again : (old new : List Cell) (xs ys : List Lent) (K R : ℕ → ℕ) (stamp : ℕ) (e : Lent) → is_lent xs e.at ≡ true → AreCut old new xs ys K R stamp → AreCut old new (xs ++ e ∷ []) (ys ++ no_entry e.at ∷ []) K R stamp
cut_again old new xs ys K R stamp e in_ j = record {
  len = j.len;
  cut = λ i c is lent.
      let k = kept_more ys (no_entry e.at) i in let o = other_more ys (no_entry e.at) i in
      let t : is_lent xs i ≡ true = ⊎_elim (λ w. ap (is_lent xs) w.1 ∙ in_) (λ w. lent_there (is_lent xs i) (eqb e.at i) (sym (lent_more xs e i) ∙ lent) (ne_eqb e.at i (λ x. w.1 (sym x)))) (eqb_tells i e.at) in
      let b = j.cut i c is t in let b1 = b.1 in let b2 = b.2 in let z = nothing (eqb e.at i) in
      (b.0, (let z : kept_in (ys ++ no_entry e.at ∷ []) i ≡ K i = omega arith in z), (let z : other_in (ys ++ no_entry e.at ∷ []) i ≡ R i = omega arith in z));
  same = λ i n. j.same i (lent_not (is_lent xs i) (eqb e.at i) (sym (lent_more xs e i) ∙ n)).0;
  places = λ i. lent_more ys (no_entry e.at) i ∙ (ap (λ b. cond b true (eqb e.at i)) (j.places i) ∙ sym (lent_more xs e i));
}
  where
    nothing : (t : Bool) → cond t zero zero ≡ zero
    nothing true = refl
    nothing false = refl

-- the next entry's cell can be cut
pub cut_ready : (old new : List Cell) (lent ys : List Lent) (stamp k : ℕ) (e : Lent) → slice_get lent k ≡ Some e → ((i : ℕ) → is_lent lent i ≡ true → IsSomeCell old i (first_kept lent i + first_other lent i)) → AllAgree lent → AreCut old new (take k lent) ys (first_kept lent) (first_other lent) stamp → IsWithin new e (λ c. (c.stamp ≡ stamp) ⊎ (e.kept + e.other ≤ c.amount))
cut_ready old new lent ys stamp k e at within agree j =
    let g = within e.at (lent_at k lent e at) in
    let a = agree k e at in let a0 = a.0 in let a1 = a.1 in let g2 = g.2 in
    by_cases (IsWithin new e (λ c. (c.stamp ≡ stamp) ⊎ (e.kept + e.other ≤ c.amount))) (is_lent (take k lent) e.at)
    (λ t. (with_amount g.0 ((g.0.amount - first_kept lent e.at) - first_other lent e.at) stamp, (j.cut e.at g.0 g.1 t).0, inl refl))
    (λ t. (g.0, j.same e.at t ∙ g.1, inr (let z : e.kept + e.other ≤ g.0.amount = omega arith in z)))

pub cut_step : (old new next : List Cell) (lent ys : List Lent) (stamp k : ℕ) (e r : Lent) → slice_get lent k ≡ Some e → ((i : ℕ) → is_lent lent i ≡ true → IsSomeCell old i (first_kept lent i + first_other lent i)) → AllAgree lent → ((i : ℕ) (c : Cell) → slice_get old i ≡ Some c → c.stamp < stamp) → ((d : Cell) → slice_get new e.at ≡ Some d → d.stamp ≡ stamp → (r ≡ no_entry e.at) × (next ≡ new)) → ((d : Cell) → slice_get new e.at ≡ Some d → d.stamp < stamp → (r ≡ e) × (next ≡ slice_set new e.at (cut_cell d e stamp))) → AreCut old new (take k lent) ys (first_kept lent) (first_other lent) stamp → AreCut old next (take (suc k) lent) (ys ++ r ∷ []) (first_kept lent) (first_other lent) stamp
cut_step old new next lent ys stamp k e r at within agree fresh again first j =
    let g = within e.at (lent_at k lent e at) in
    let a = agree k e at in
    subst (λ l. AreCut old next l (ys ++ r ∷ []) (first_kept lent) (first_other lent) stamp) (sym (take_next k lent e at))
    (by_cases (AreCut old next (take k lent ++ e ∷ []) (ys ++ r ∷ []) (first_kept lent) (first_other lent) stamp) (is_lent (take k lent) e.at)
    (λ t. let w = again (with_amount g.0 ((g.0.amount - first_kept lent e.at) - first_other lent e.at) stamp) (j.cut e.at g.0 g.1 t).0 refl in
    subst (λ x. AreCut old x (take k lent ++ e ∷ []) (ys ++ r ∷ []) (first_kept lent) (first_other lent) stamp) (sym w.1)
    (subst (λ x. AreCut old new (take k lent ++ e ∷ []) (ys ++ x ∷ []) (first_kept lent) (first_other lent) stamp) (sym w.0)
    (cut_again old new (take k lent) ys (first_kept lent) (first_other lent) stamp e t j)))
    (λ t. let w = first g.0 (j.same e.at t ∙ g.1) (fresh e.at g.0 g.1) in
    subst (λ x. AreCut old x (take k lent ++ e ∷ []) (ys ++ r ∷ []) (first_kept lent) (first_other lent) stamp) (sym w.1)
    (subst (λ x. AreCut old (slice_set new e.at (cut_cell g.0 e stamp)) (take k lent ++ e ∷ []) (ys ++ x ∷ []) (first_kept lent) (first_other lent) stamp) (sym w.0)
    (cut_next old new (take k lent) ys (first_kept lent) (first_other lent) stamp e g.0 (j.same e.at t ∙ g.1) g.1 t a.0 a.1 j))))
