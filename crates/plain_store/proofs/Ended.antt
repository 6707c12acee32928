-- How a fork goes on and ends.
use Rattle.std.proofs.Common.{◌≡◌, ℕ, ◌+◌, ◌<◌, ◌≤◌, ◌^◌, Bool, true, false, cond, List, [], ◌∷◌, ◌++◌, refl, sym, ap, ◌∙◌, subst, arith}
use Rattle.std.specs.Prelude.{Option, Some, None, slice_get, Result, Ok, Err, is_ok}
use Rattle.std.specs.Result.{IsOk}
use Rattle.target_meaning.specs.Piece.{Piece, plus}
use Rattle.branch_exec.specs.Stores.{Level, with_right, HasRight, IsSome}
use Rattle.plain_store.specs.Cells.{top_of, piece_by}
use Rattle.plain_store.specs.Levels.{level_of, levels, IsSound, other_in}
use Rattle.plain_store.specs.Swaps.{AreJoined, AreSwapped}
use Rattle.plain_store.specs.declared.cells.Cell.{Cell}
use Rattle.plain_store.specs.declared.forks.Fork.{Fork}
use Rattle.plain_store.proofs.LentLists.{come}
use Rattle.plain_store.proofs.Pieces.{levels_last, levels_frame, nested_last}
use Rattle.plain_store.proofs.Widened.{widened, joined_below, turned_top, turned_kept, swapped_below, begun_as}
use Rattle.plain_store.proofs.Sound.{joined_sound, swapped_sound, lent-last, waiting-last, waits_yet}

heads : {A : Type 0} (x y : A) (xs ys : List A) → x ∷ xs ≡ y ∷ ys → (x ≡ y) × (xs ≡ ys)
heads x y xs ys e = (cc e, cc e)

pub ended_sound : (old new : List Cell) (forks fs : List Fork) (f : Fork) (border last : ℕ) → forks ≡ fs ++ f ∷ [] → IsSound old forks border last → AreJoined old new f.lent.items → IsSound new fs f.low last
ended_sound old new forks fs f border last e s j = joined_sound old new fs f border last (subst (λ l. IsSound old l border last) e s) j

pub ended : (old new : List Cell) (forks fs : List Fork) (f : Fork) (border last : ℕ) (l : Level) (ls : List Level) → forks ≡ fs ++ f ∷ [] → IsSound old forks border last → AreJoined old new f.lent.items → levels old forks [] ≡ l ∷ ls → (levels new fs [] ≡ ls) × (top_of new f.low ≡ plus l.kept (with_right l.right (top_of old border)))
ended old new forks fs f border last l ls e s j is =
    let t = subst (λ x. IsSound old x border last) e s in
    let n = nested_last fs f 0 border t.nested in
    let from = come old f.high f.lent.items (lent-last old fs f t.lent).1 in
    let h = heads (level_of old f) l (levels old fs []) ls (sym (ap (λ x. levels old x []) e ∙ levels_last old fs f []) ∙ is) in
    let lt = n.1 in (
      levels_frame f.low old new fs [] 0 n.2 (joined_below old new f f.low (omega arith) from j) ∙ h.1,
      widened old new f (let z : f.low ≤ f.high = omega arith in z) from j
          ∙ (ap (λ (x : Level). plus x.kept (with_right x.right (top_of old f.high))) h.0 ∙ ap (λ x. plus l.kept (with_right l.right (top_of old x))) (sym n.0)),
    )

-- the right branch of the innermost fork begins
pub begun_sound : (old new : List Cell) (forks fs : List Fork) (f g : Fork) (border last fresh : ℕ) → forks ≡ fs ++ f ∷ [] → IsSound old forks border last → fresh ≡ last + 1 → begun_as f g fresh → AreSwapped old new f.lent.items g.lent.items fresh → IsSound new (fs ++ g ∷ []) fresh fresh
begun_sound old new forks fs f g border last fresh e s q is j = swapped_sound old new fs f g border last fresh (subst (λ l. IsSound old l border last) e s) q is j

begun_none : (t : Bool) (p : Piece) → t ≡ true → cond t None (Some p) ≡ None
begun_none true p e = refl
begun_none false p e = cc e

begun_some : (t : Bool) (p q : Piece) → t ≡ false → cond t None (Some p) ≡ Some q → p ≡ q
begun_some true p q e f = cc e
begun_some false p q e f = cc f

level_parts : (x : Level) (k : Piece) (r : Option Piece) → x.kept ≡ k → x.right ≡ r → x ≡ record { kept = k; right = r }
level_parts x k r a b = ap (λ p. as_level p x.right) a ∙ ap (as_level k) b
  where
    as_level : Piece → Option Piece → Level
    as_level p q = record { kept = p; right = q }

pub begun : (old new : List Cell) (forks fs : List Fork) (f g : Fork) (border last fresh : ℕ) (k p : Piece) (ls : List Level) → forks ≡ fs ++ f ∷ [] → IsSound old forks border last → fresh ≡ last + 1 → begun_as f g fresh → AreSwapped old new f.lent.items g.lent.items fresh → levels old forks [] ≡ record { kept = k; right = Some p } ∷ ls →
    (levels new (fs ++ g ∷ []) [] ≡ record { kept = plus k (top_of old border); right = None } ∷ ls) × (top_of new fresh ≡ p)
begun old new forks fs f g border last fresh k p ls e s q is j now =
    let t = subst (λ x. IsSound old x border last) e s in
    let n = nested_last fs f 0 border t.nested in
    let from = come old f.high f.lent.items (lent-last old fs f t.lent).1 in
    let h = heads (level_of old f) (record { kept = k; right = Some p }) (levels old fs []) ls (sym (ap (λ x. levels old x []) e ∙ levels_last old fs f []) ∙ now) in
    let lt = n.1 in let b = t.bounded in let n0 = n.0 in
    let young : (i : ℕ) (c : Cell) → slice_get old i ≡ Some c → c.stamp < fresh = λ i c at. let m = t.stamped i c at in omega arith in
    let kept = turned_kept old new f g fresh is (let z : f.low ≤ f.high = omega arith in z) young from j in
    let below = levels_frame f.low old new fs [] 0 n.2 (swapped_below old new f g.lent.items f.low fresh (omega arith) (omega arith) from j) in (
      levels_last new fs g [] ∙ (ap (λ x. x ∷ levels new fs []) (level_parts (level_of new g) (plus k (top_of old border)) None
          (kept ∙ (ap (λ (x : Level). plus x.kept (top_of old f.high)) h.0 ∙ ap (λ x. plus k (top_of old x)) (sym n.0)))
          (begun_none g.begun (piece_by new (other_in g.lent.items)) is.3))
          ∙ ap (λ x. record { kept = plus k (top_of old border); right = None } ∷ x) (below ∙ h.1)),
      turned_top old new f.lent.items g.lent.items fresh young j ∙ begun_some f.begun (piece_by old (other_in f.lent.items)) p is.0 (ap (λ (x : Level). x.right) h.0),
    )

-- a fork whose right branch waits can begin it
some_waits : (t : Bool) (p : Piece) → IsSome (cond t None (Some p)) → t ≡ false
some_waits true p h = absurd h
some_waits false p h = refl

pub may_begin : (old : List Cell) (forks fs : List Fork) (f : Fork) (border last : ℕ) → forks ≡ fs ++ f ∷ [] → IsSound old forks border last → HasRight (levels old forks []) → (f.begun ≡ false) × (last + 1 < 2 ^ 64)
may_begin old forks fs f border last e s h =
    let t = subst (λ x. IsSound old x border last) e s in
    let r : HasRight (level_of old f ∷ levels old fs []) = subst HasRight (ap (λ x. levels old x []) e ∙ levels_last old fs f []) h in
    let b = some_waits f.begun (piece_by old (other_in f.lent.items)) r in
    let w = waiting-last fs f in let y = waits_yet f.begun b in let sp = t.spare in
    (b, omega arith)

pub all_pushed : {A B : Type 0} (r : Result A B) (xs ys : List Fork) (g : Fork) → IsOk r → ys ≡ cond (is_ok r) (xs ++ g ∷ []) xs → ys ≡ xs ++ g ∷ []
all_pushed (Ok x) xs ys g h e = e
all_pushed (Err x) xs ys g h e = cc h
