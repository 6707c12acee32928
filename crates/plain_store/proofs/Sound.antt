-- A store stays sound.
use Rattle.std.proofs.Common.{◌≡◌, ◌⊎◌, inl, inr, ℕ, zero, suc, ◌+◌, ◌<◌, ◌≤◌, Bool, true, false, cond, List, [], ◌∷◌, ◌++◌, length, refl, sym, ap, ◌∙◌, subst, arith, ⊎_elim}
use Rattle.std.specs.Prelude.{Some, None, slice_get}
use Rattle.target_meaning.specs.Piece.{whole}
use Rattle.plain_store.specs.Cells.{IsPlaced}
use Rattle.plain_store.specs.Levels.{kept_in, other_in, is_lent, lent_of, waiting, Nested, AllFrom, AllLent, IsSound}
use Rattle.plain_store.specs.Swaps.{with_amount, AreJoined, AreSwapped}
use Rattle.plain_store.specs.declared.cells.Cell.{Cell}
use Rattle.plain_store.specs.declared.forks.Fork.{Fork}
use Rattle.plain_store.specs.declared.forks.Lent.{Lent}
use Rattle.plain_store.proofs.LentLists.{by_cases, other_none, come, from_come}
use Rattle.plain_store.proofs.Pieces.{nested_last}
use Rattle.plain_store.proofs.Widened.{by_cell, none_same, some_same, begun_as}

pub lent_of-last : (fs : List Fork) (f : Fork) (i : ℕ) → lent_of (fs ++ f ∷ []) i ≡ lent_of fs i + (kept_in f.lent.items i + other_in f.lent.items i)
lent_of-last [] f i = let z : (kept_in f.lent.items i + other_in f.lent.items i) + 0 ≡ 0 + (kept_in f.lent.items i + other_in f.lent.items i) = omega arith in z
lent_of-last (g ∷ fs) f i = let r = lent_of-last fs f i in let z : (kept_in g.lent.items i + other_in g.lent.items i) + lent_of (fs ++ f ∷ []) i ≡ ((kept_in g.lent.items i + other_in g.lent.items i) + lent_of fs i) + (kept_in f.lent.items i + other_in f.lent.items i) = omega arith in z

pub waiting-last : (fs : List Fork) (f : Fork) → waiting (fs ++ f ∷ []) ≡ waiting fs + cond f.begun 0 1
waiting-last [] f = let z : cond f.begun 0 1 + 0 ≡ 0 + cond f.begun 0 1 = omega arith in z
waiting-last (g ∷ fs) f = let r = waiting-last fs f in let z : cond g.begun 0 1 + waiting (fs ++ f ∷ []) ≡ (cond g.begun 0 1 + waiting fs) + cond f.begun 0 1 = omega arith in z

pub lent-last : (cells : List Cell) (fs : List Fork) (f : Fork) → AllLent cells (fs ++ f ∷ []) → AllLent cells fs × AllFrom cells f.high f.lent.items
lent-last cells [] f l = (tt, l.0)
lent-last cells (g ∷ fs) f l = let r = lent-last cells fs f l.1 in ((l.0, r.0), r.1)

pub lent-more : (cells : List Cell) (fs : List Fork) (f : Fork) → AllLent cells fs → AllFrom cells f.high f.lent.items → AllLent cells (fs ++ f ∷ [])
lent-more cells [] f l a = (a, tt)
lent-more cells (g ∷ fs) f l a = (l.0, lent-more cells fs f l.1 a)

pub nested-more : (fs : List Fork) (f : Fork) (low border : ℕ) → Nested low fs f.low → f.low < f.high → border ≡ f.high → Nested low (fs ++ f ∷ []) border
nested-more [] f low border n lt e = ((n, (let z : low < f.high = omega (arith, n) in z)), e)
nested-more (g ∷ fs) f low border n lt e = (n.0, nested-more fs f g.high border n.1 lt e)

-- each cell keeps home and value, and gets no older
abbrev pub Later : List Cell → List Cell → Type 0
Later old new = (i : ℕ) (d : Cell) → slice_get new i ≡ Some d → (c : Cell) × (slice_get old i ≡ Some c) × (d.home ≡ c.home) × (d.value ≡ c.value) × (c.stamp ≤ d.stamp)

abbrev pub Stays : List Cell → List Cell → Type 0
Stays old new = (i : ℕ) (c : Cell) → slice_get old i ≡ Some c → (d : Cell) × (slice_get new i ≡ Some d) × (c.stamp ≤ d.stamp)

pub placed_later : (old new : List Cell) → Later old new → IsPlaced old → IsPlaced new
placed_later old new later placed i d n at name home =
    let x = later i d at in
    let y = later d.home n name in
    let hx = x.2 in let hy = y.2 in let vy = y.3 in
    let p = placed i x.0 y.0 x.1 (ap (slice_get old) (sym x.2) ∙ y.1) (sym y.2 ∙ (home ∙ x.2)) in omega arith

pub from_later : (old new : List Cell) (high : ℕ) (lent : List Lent) → Stays old new → AllFrom old high lent → AllFrom new high lent
from_later old new high lent stays from = from_come new high lent (λ i t.
    let g = come old high lent from i t in let le = g.2 in
    let s = stays i g.0 g.1 in let l2 = s.2 in (s.0, s.1, omega arith))

pub lent_later : (old new : List Cell) (fs : List Fork) → Stays old new → AllLent old fs → AllLent new fs
lent_later old new [] stays l = tt
lent_later old new (f ∷ fs) stays l = (from_later old new f.high f.lent.items stays l.0, lent_later old new fs stays l.1)

there : (old new : List Cell) (i : ℕ) (d : Cell) → length new ≡ length old → slice_get new i ≡ Some d → slice_get old i ≡ None → ⊥
there old new i d len at none = let q = sym (none_same old new i len none) ∙ at in cc q

pub joined_later : (old new : List Cell) (lent : List Lent) → AreJoined old new lent → Later old new
joined_later old new lent j i d at =
    by_cell ((c : Cell) × (slice_get old i ≡ Some c) × (d.home ≡ c.home) × (d.value ≡ c.value) × (c.stamp ≤ d.stamp)) old i
    (λ c is. let q = some_same (slice_get new i) d (with_amount c (c.amount + (kept_in lent i + other_in lent i)) c.stamp) at (j.joined i c is) in
    let s : d.stamp ≡ c.stamp = ap (λ (x : Cell). x.stamp) q in
    (c, is, ap (λ (x : Cell). x.home) q, ap (λ (x : Cell). x.value) q, omega arith))
    (λ none. absurd (there old new i d j.len at none))

pub joined_sound : (old new : List Cell) (fs : List Fork) (f : Fork) (border last : ℕ) → IsSound old (fs ++ f ∷ []) border last → AreJoined old new f.lent.items → IsSound new fs f.low last
joined_sound old new fs f border last s j =
    let n = nested_last fs f 0 border s.nested in
    let n0 = n.0 in let n1 = n.1 in let b = s.bounded in
    let w = waiting-last fs f in let sp = s.spare in
    record {
      most = λ i d at. by_cell (d.amount + lent_of fs i ≤ whole) old i
          (λ c is. let q = ap (λ (x : Cell). x.amount) (some_same (slice_get new i) d (with_amount c (c.amount + (kept_in f.lent.items i + other_in f.lent.items i)) c.stamp) at (j.joined i c is)) in
          let m = s.most i c is in let l = lent_of-last fs f i in omega arith)
          (λ none. absurd (there old new i d j.len at none));
      placed = placed_later old new (joined_later old new f.lent.items j) s.placed;
      stamped = λ i d at. by_cell (d.stamp ≤ last) old i
          (λ c is. let q = ap (λ (x : Cell). x.stamp) (some_same (slice_get new i) d (with_amount c (c.amount + (kept_in f.lent.items i + other_in f.lent.items i)) c.stamp) at (j.joined i c is)) in
          let m = s.stamped i c is in omega arith)
          (λ none. absurd (there old new i d j.len at none));
      nested = n.2;
      bounded = omega arith;
      lent = lent_later old new fs (λ i c is. (with_amount c (c.amount + (kept_in f.lent.items i + other_in f.lent.items i)) c.stamp, j.joined i c is, (let z : c.stamp ≤ c.stamp = omega arith in z))) (lent-last old fs f s.lent).0;
      spare = omega arith;
    }

pub swapped_cases : (old new : List Cell) (lent after : List Lent) (fresh i : ℕ) (d : Cell) → AreSwapped old new lent after fresh → slice_get new i ≡ Some d →
    (c : Cell) × (slice_get old i ≡ Some c) × (((d ≡ with_amount c (other_in lent i) fresh) × (other_in after i ≡ c.amount)) ⊎ ((d ≡ c) × (other_in lent i ≡ 0) × (other_in after i ≡ 0)))
swapped_cases old new lent after fresh i d j at =
    by_cell ((c : Cell) × (slice_get old i ≡ Some c) × (((d ≡ with_amount c (other_in lent i) fresh) × (other_in after i ≡ c.amount)) ⊎ ((d ≡ c) × (other_in lent i ≡ 0) × (other_in after i ≡ 0)))) old i
    (λ c is. (
      c,
      is,
      by_cases (((d ≡ with_amount c (other_in lent i) fresh) × (other_in after i ≡ c.amount)) ⊎ ((d ≡ c) × (other_in lent i ≡ 0) × (other_in after i ≡ 0))) (is_lent lent i)
          (λ t. inl (some_same (slice_get new i) d (with_amount c (other_in lent i) fresh) at (j.swapped i c is t).0, (j.swapped i c is t).1))
          (λ t. inr (some_same (slice_get new i) d c at (j.same i t ∙ is), other_none lent i t, other_none after i (j.places i ∙ t))),
    ))
    (λ none. absurd (there old new i d j.len at none))

waits_not : (t : Bool) → t ≡ true → cond t zero (suc zero) ≡ zero
waits_not true e = refl
waits_not false e = cc e

pub waits_yet : (t : Bool) → t ≡ false → cond t zero (suc zero) ≡ suc zero
waits_yet true e = cc e
waits_yet false e = refl

pub swapped_sound : (old new : List Cell) (fs : List Fork) (f g : Fork) (border last fresh : ℕ) → IsSound old (fs ++ f ∷ []) border last → fresh ≡ last + 1 → begun_as f g fresh → AreSwapped old new f.lent.items g.lent.items fresh → IsSound new (fs ++ g ∷ []) fresh fresh
swapped_sound old new fs f g border last fresh s fe is j =
    let n = nested_last fs f 0 border s.nested in
    let n0 = n.0 in let n1 = n.1 in let b = s.bounded in
    let w = waiting-last fs f in let v = waiting-last fs g in let sp = s.spare in
    let wf = waits_yet f.begun is.0 in
    let wg = waits_not g.begun is.3 in
    let gl : g.low ≡ f.low = is.1 in let gh : g.high ≡ fresh = is.2 in
    let young : (i : ℕ) (c : Cell) → slice_get old i ≡ Some c → c.stamp ≤ fresh = λ i c at. let m = s.stamped i c at in omega arith in
    record {
      most = λ i d at.
          let q = swapped_cases old new f.lent.items g.lent.items fresh i d j at in
          let m = s.most i q.0 q.1 in let l = lent_of-last fs f i in let k = lent_of-last fs g i in let jk = j.kept i in
          ⊎_elim
          (λ u. let a = ap (λ (x : Cell). x.amount) u.0 in let o = u.1 in let z : d.amount + lent_of (fs ++ g ∷ []) i ≤ whole = omega arith in z)
          (λ u. let a = ap (λ (x : Cell). x.amount) u.0 in let o = u.1 in let p = u.2 in let z : d.amount + lent_of (fs ++ g ∷ []) i ≤ whole = omega arith in z)
          q.2;
      placed = placed_later old new (λ i d at.
          let q = swapped_cases old new f.lent.items g.lent.items fresh i d j at in
          let y = young i q.0 q.1 in
          ⊎_elim
          (λ u. let t = ap (λ (x : Cell). x.stamp) u.0 in (q.0, q.1, ap (λ (x : Cell). x.home) u.0, ap (λ (x : Cell). x.value) u.0, omega arith))
          (λ u. let t = ap (λ (x : Cell). x.stamp) u.0 in (q.0, q.1, ap (λ (x : Cell). x.home) u.0, ap (λ (x : Cell). x.value) u.0, omega arith))
          q.2) s.placed;
      stamped = λ i d at.
          let q = swapped_cases old new f.lent.items g.lent.items fresh i d j at in
          let y = young i q.0 q.1 in
          ⊎_elim
          (λ u. let t = ap (λ (x : Cell). x.stamp) u.0 in let z : d.stamp ≤ fresh = omega arith in z)
          (λ u. let t = ap (λ (x : Cell). x.stamp) u.0 in let z : d.stamp ≤ fresh = omega arith in z)
          q.2;
      nested = nested-more fs g 0 fresh (subst (λ x. Nested 0 fs x) (sym gl) n.2) (omega arith) (sym gh);
      bounded = omega arith;
      lent = lent-more new fs g
          (lent_later old new fs (λ i c at. by_cases ((d : Cell) × (slice_get new i ≡ Some d) × (c.stamp ≤ d.stamp)) (is_lent f.lent.items i)
          (λ t. (with_amount c (other_in f.lent.items i) fresh, (j.swapped i c at t).0, young i c at))
          (λ t. (c, j.same i t ∙ at, (let z : c.stamp ≤ c.stamp = omega arith in z)))) (lent-last old fs f s.lent).0)
          (from_come new g.high g.lent.items (λ i t. let u : is_lent f.lent.items i ≡ true = sym (j.places i) ∙ t in
          let x = come old f.high f.lent.items (lent-last old fs f s.lent).1 i u in
          (with_amount x.0 (other_in f.lent.items i) fresh, (j.swapped i x.0 x.1 u).0, (let z : g.high ≤ fresh = omega arith in z))));
      spare = omega arith;
    }
