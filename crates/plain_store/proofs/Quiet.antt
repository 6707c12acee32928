-- Changes of the running branch's own cells leave the pieces of the forks.
use Rattle.std.proofs.Common.{◌≡◌, ◌⊎◌, inl, inr, ℕ, ◌+◌, ◌≤◌, Bool, true, false, cond, List, [], ◌∷◌, refl, sym, ap, ◌∙◌, subst, arith, eqb, ⊎_elim}
use Rattle.std.specs.Prelude.{Option, Some, None, slice_get}
use Rattle.target_meaning.specs.Piece.{Nil, Piece, whole}
use Rattle.branch_exec.specs.Stores.{Level}
use Rattle.plain_store.specs.Cells.{share_in, piece_by, amount_between}
use Rattle.plain_store.specs.Levels.{kept_in, other_in, is_lent, is_from, kept_by, level_of, levels, lent_of, Nested, AllLent, IsSound}
use Rattle.plain_store.specs.declared.cells.Cell.{Cell}
use Rattle.plain_store.specs.declared.forks.Fork.{Fork}
use Rattle.plain_store.proofs.LentLists.{by_cases, kept_none, other_none}
use Rattle.plain_store.proofs.Pieces.{piece_same, between_above, nested_le}

-- a cell that is there came to the branch with this border, or to one in it
abbrev pub IsYoung : ℕ → Option Cell → Type 0
IsYoung h None = Unit {0}
IsYoung h (Some c) = h ≤ c.stamp

-- where a cell changes, no fork has anything of it
abbrev pub Quiet : ℕ → List Fork → List Cell → List Cell → Type 0
Quiet h fs old new = (i : ℕ) → (slice_get new i ≡ slice_get old i) ⊎ ((lent_of fs i ≡ 0) × IsYoung h (slice_get old i) × IsYoung h (slice_get new i))

share_none : (b : ℕ) (o : Option Cell) → share_in b 0 o ≡ Nil
share_none b None = refl
share_none b (Some c) = both (eqb c.home b)
  where
    both : (t : Bool) → cond t Nil Nil ≡ Nil
    both true = refl
    both false = refl

young_none : (low high h : ℕ) (o : Option Cell) → high ≤ h → IsYoung h o → amount_between low high o ≡ 0
young_none low high h None le y = refl
young_none low high h (Some c) le y = between_above low high c (omega (arith, y, le))

module _ (h : ℕ) (old new : List Cell) (f : Fork) (le : f.high ≤ h) where
  abbrev nothing_of : ℕ → Type 0
  nothing_of i = (kept_in f.lent.items i ≡ 0) × (other_in f.lent.items i ≡ 0)

  kept_same : (i b : ℕ) → (slice_get new i ≡ slice_get old i) ⊎ (nothing_of i × IsYoung h (slice_get old i) × IsYoung h (slice_get new i)) → share_in b (kept_by old f i) (slice_get old i) ≡ share_in b (kept_by new f i) (slice_get new i)
  kept_same i b (inl q) = ap (λ o. share_in b (amount_between f.low f.high o + (kept_in f.lent.items i + cond f.begun (other_in f.lent.items i) 0)) o) (sym q)
  kept_same i b (inr q) =
      let k = q.0.0 in let o = q.0.1 in let m = q.0 in
      let zo = young_none f.low f.high h (slice_get old i) le q.1 in
      let zn = young_none f.low f.high h (slice_get new i) le q.2 in
      let w = none_begun f.begun (other_in f.lent.items i) o in
      ap (λ n. share_in b n (slice_get old i)) (let z : kept_by old f i ≡ 0 = omega (arith, zo, k, w) in z)
      ∙ (share_none b (slice_get old i) ∙ sym (ap (λ n. share_in b n (slice_get new i)) (let z : kept_by new f i ≡ 0 = omega (arith, zn, k, w) in z) ∙ share_none b (slice_get new i)))
    where
      none_begun : (t : Bool) (n : ℕ) → n ≡ 0 → cond t n 0 ≡ 0
      none_begun true n e = e
      none_begun false n e = refl

  right_same : (i b : ℕ) → (slice_get new i ≡ slice_get old i) ⊎ (nothing_of i × IsYoung h (slice_get old i) × IsYoung h (slice_get new i)) → share_in b (other_in f.lent.items i) (slice_get old i) ≡ share_in b (other_in f.lent.items i) (slice_get new i)
  right_same i b (inl q) = ap (share_in b (other_in f.lent.items i)) (sym q)
  right_same i b (inr q) =
      ap (λ n. share_in b n (slice_get old i)) q.0.1
      ∙ (share_none b (slice_get old i) ∙ sym (ap (λ n. share_in b n (slice_get new i)) q.0.1 ∙ share_none b (slice_get new i)))

  pub level_quiet : ((i : ℕ) → (slice_get new i ≡ slice_get old i) ⊎ (nothing_of i × IsYoung h (slice_get old i) × IsYoung h (slice_get new i))) → level_of new f ≡ level_of old f
  level_quiet q =
      let a = piece_same old new (kept_by old f) (kept_by new f) (λ i b. kept_same i b (q i)) in
      let r = piece_same old new (other_in f.lent.items) (other_in f.lent.items) (λ i b. right_same i b (q i)) in
      ap (λ (p : Piece). level_as p (cond f.begun None (Some (piece_by new (other_in f.lent.items))))) (sym a)
      ∙ ap (λ (p : Piece). level_as (piece_by old (kept_by old f)) (cond f.begun None (Some p))) (sym r)
    where
      level_as : Piece → Option Piece → Level
      level_as p q = record { kept = p; right = q }

pub quiet_levels : (h : ℕ) (old new : List Cell) (fs : List Fork) (acc : List Level) (low : ℕ) → Nested low fs h → Quiet h fs old new → levels new fs acc ≡ levels old fs acc
quiet_levels h old new [] acc low n q = refl
quiet_levels h old new (f ∷ fs) acc low n q =
    ap (λ l. levels new fs (l ∷ acc)) (level_quiet h old new f (nested_le fs f.high h n.1) (λ i. ⊎_elim (λ e. inl e) (λ e. let z = e.0 in inr (((let w : kept_in f.lent.items i ≡ 0 = omega (arith, z) in w), (let w : other_in f.lent.items i ≡ 0 = omega (arith, z) in w)), e.1, e.2)) (q i)))
    ∙ quiet_levels h old new fs (level_of old f ∷ acc) f.high n.1 (λ i. ⊎_elim (λ e. inl e) (λ e. let z = e.0 in inr ((let w : lent_of fs i ≡ 0 = omega (arith, z) in w), e.1, e.2)) (q i))

-- of a cell that is held whole no fork has anything
pub whole_alone : (cells : List Cell) (fs : List Fork) (border last i : ℕ) (c : Cell) → IsSound cells fs border last → slice_get cells i ≡ Some c → c.amount ≡ whole → lent_of fs i ≡ 0
whole_alone cells fs border last i c s at w = let m = s.most i c at in omega (arith, m, w)

-- nor of one that is not there
pub absent_alone : (cells : List Cell) (fs : List Fork) (i : ℕ) → AllLent cells fs → slice_get cells i ≡ None → lent_of fs i ≡ 0
absent_alone cells [] i l n = refl
absent_alone cells (f ∷ fs) i l n =
    let r = absent_alone cells fs i l.1 n in
    let out = by_cases (is_lent f.lent.items i ≡ false) (is_lent f.lent.items i)
    (λ t. let w = sym (ap (is_from f.high) n) ∙ l.0 i t in cc w)
    (λ t. t) in
    let k = kept_none f.lent.items i out in let o = other_none f.lent.items i out in
    omega (arith, r, k, o)

pub young_some : (h i : ℕ) (cells : List Cell) (c : Cell) → slice_get cells i ≡ Some c → h ≤ c.stamp → IsYoung h (slice_get cells i)
young_some h i cells c at le = subst (IsYoung h) (sym at) le

pub young_absent : (h i : ℕ) (cells : List Cell) → slice_get cells i ≡ None → IsYoung h (slice_get cells i)
young_absent h i cells n = subst (IsYoung h) (sym n) tt
