-- Pieces by amounts of cells.
use Rattle.std.proofs.Common.{◌≡◌, ◌⊎◌, ℕ, ◌+◌, ◌<◌, ◌≤◌, Bool, true, false, cond, ◌&&◌, List, [], ◌∷◌, ◌++◌, refl, sym, ap, ◌∙◌, arith, eqb, ⊎_elim, le-leb, lt-ltb}
use Rattle.std.proofs.lemmas.Bool.{cond-true, cond-false}
use Rattle.std.proofs.Math.Path.{fun_ext}
use Rattle.std.specs.Prelude.{Option, Some, None, slice_get, nat_le, nat_lt}
use Rattle.target_meaning.specs.Piece.{Nil, add, plus, Piece, share_of}
use Rattle.target_meaning.proofs.Keeps.{share-add}
use Rattle.branch_exec.specs.Stores.{Level}
use Rattle.plain_store.specs.Cells.{share_in, piece_by, amount_from, amount_between}
use Rattle.plain_store.specs.Levels.{kept_in, other_in, kept_by, level_of, levels, Nested}
use Rattle.plain_store.specs.declared.cells.Cell.{Cell}
use Rattle.plain_store.specs.declared.forks.Fork.{Fork}

share_sum : (t : Bool) (v m n : ℕ) → add (cond t (share_of v m) Nil) (cond t (share_of v n) Nil) ≡ cond t (share_of v (m + n)) Nil
share_sum true v m n = share-add v m n
share_sum false v m n = refl

in_sum : (b m n : ℕ) (o : Option Cell) → add (share_in b m o) (share_in b n o) ≡ share_in b (m + n) o
in_sum b m n None = refl
in_sum b m n (Some c) = share_sum (eqb c.home b) c.value m n

pub piece_sum : (cells : List Cell) (A B : ℕ → ℕ) → plus (piece_by cells A) (piece_by cells B) ≡ piece_by cells (λ i. A i + B i)
piece_sum cells A B = fun_ext (λ b. fun_ext (λ j. in_sum b (A (b + j)) (B (b + j)) (slice_get cells (b + j))))

pub piece_same : (old new : List Cell) (A B : ℕ → ℕ) → ((i b : ℕ) → share_in b (A i) (slice_get old i) ≡ share_in b (B i) (slice_get new i)) → piece_by old A ≡ piece_by new B
piece_same old new A B e = fun_ext (λ b. fun_ext (λ j. e (b + j) b))

-- one cell's share, by its home and value
pub share_cells : (c d : Cell) (b m n : ℕ) → d.home ≡ c.home → d.value ≡ c.value → m ≡ n → share_in b m (Some c) ≡ share_in b n (Some d)
share_cells c d b m n h v e =
    ap (λ k. cond (eqb c.home b) (share_of c.value k) Nil) e
    ∙ (ap (λ u. cond (eqb c.home b) (share_of u n) Nil) (sym v) ∙ ap (λ u. cond (eqb u b) (share_of d.value n) Nil) (sym h))

-- from one border on is up to another and from that one on
le_cases : (t u : Bool) (n : ℕ) → (u ≡ false → t ≡ true) → cond t n 0 ≡ cond (t && u) n 0 + cond (cond u false true) n 0
le_cases true true n f = let z : n ≡ n + 0 = omega arith in z
le_cases true false n f = let z : n ≡ 0 + n = omega arith in z
le_cases false true n f = let z : 0 ≡ 0 + 0 = omega arith in z
le_cases false false n f = cc (f refl)

pub from_low : (low : ℕ) (c : Cell) → low ≤ c.stamp → amount_from low (Some c) ≡ c.amount
from_low low c le = cond-true (nat_le low c.stamp) c.amount 0 (le-leb low c.stamp le)

pub from_not : (low : ℕ) (c : Cell) → c.stamp < low → amount_from low (Some c) ≡ 0
from_not low c lt = cond-false (nat_le low c.stamp) c.amount 0 (not_le low c.stamp lt)
  where
    not_le : (a d : ℕ) → d < a → nat_le a d ≡ false
    not_le a d l = grind arith

pub between_above : (low high : ℕ) (c : Cell) → high ≤ c.stamp → amount_between low high (Some c) ≡ 0
between_above low high c le = rw (not_lt c.stamp high le) (none (nat_le low c.stamp))
  where
    not_lt : (a d : ℕ) → d ≤ a → nat_lt a d ≡ false
    not_lt a d l = grind arith

    none : (t : Bool) → cond (t && false) c.amount 0 ≡ 0
    none true = refl
    none false = refl

pub between_below : (low high : ℕ) (c : Cell) → c.stamp < low → amount_between low high (Some c) ≡ 0
between_below low high c lt = rw (not_le low c.stamp lt) refl
  where
    not_le : (a d : ℕ) → d < a → nat_le a d ≡ false
    not_le a d l = grind arith

pub between_in : (low high : ℕ) (c : Cell) → low ≤ c.stamp → c.stamp < high → amount_between low high (Some c) ≡ c.amount
between_in low high c le lt = rw (le-leb low c.stamp le, lt-ltb c.stamp high lt) refl

pub from_split : (low high : ℕ) (o : Option Cell) → low ≤ high → amount_from low o ≡ amount_between low high o + amount_from high o
from_split low high None le = let z : 0 ≡ 0 + 0 = omega arith in z
from_split low high (Some c) le =
    ⊎_elim
    (λ (w : c.stamp < low). from_not low c w ∙ sym (let a = between_below low high c w in let b = from_not high c (omega arith) in let z : amount_between low high (Some c) + amount_from high (Some c) ≡ 0 = omega arith in z))
    (λ (w : low ≤ c.stamp). ⊎_elim
    (λ (v : c.stamp < high). from_low low c w ∙ sym (let a = between_in low high c w v in let b = from_not high c v in let z : amount_between low high (Some c) + amount_from high (Some c) ≡ c.amount = omega arith in z))
    (λ (v : high ≤ c.stamp). from_low low c w ∙ sym (let a = between_above low high c v in let b = from_low high c v in let z : amount_between low high (Some c) + amount_from high (Some c) ≡ c.amount = omega arith in z))
    (let o : (c.stamp < high) ⊎ (high ≤ c.stamp) = grind arith in o))
    (let o : (c.stamp < low) ⊎ (low ≤ c.stamp) = grind arith in o)

-- the innermost fork stands last
pub levels_last : (cells : List Cell) (fs : List Fork) (f : Fork) (acc : List Level) → levels cells (fs ++ f ∷ []) acc ≡ level_of cells f ∷ levels cells fs acc
levels_last cells [] f acc = refl
levels_last cells (g ∷ fs) f acc = levels_last cells fs f (level_of cells g ∷ acc)

pub nested_last : (fs : List Fork) (f : Fork) (low border : ℕ) → Nested low (fs ++ f ∷ []) border → (border ≡ f.high) × (f.low < f.high) × Nested low fs f.low
nested_last [] f low border n = let a = n.0.0 in let b = n.0.1 in (n.1, (let z : f.low < f.high = omega arith in z), n.0.0)
nested_last (g ∷ fs) f low border n = let r = nested_last fs f g.high border n.1 in (r.0, r.1, (n.0, r.2))

pub nested_le : (fs : List Fork) (low border : ℕ) → Nested low fs border → low ≤ border
nested_le [] low border n = let z : low ≤ border = omega (arith, n) in z
nested_le (g ∷ fs) low border n = let a = n.0.1 in let r = nested_le fs g.high border n.1 in omega arith

-- cells that differ only from a border on, and not in home and value
abbrev pub SameBelow : ℕ → List Cell → List Cell → Type 0
SameBelow h old new = (i : ℕ) → (slice_get new i ≡ slice_get old i) ⊎ ((c : Cell) × (d : Cell) × (slice_get old i ≡ Some c) × (slice_get new i ≡ Some d) × (d.home ≡ c.home) × (d.value ≡ c.value) × (h ≤ c.stamp) × (h ≤ d.stamp))

by_same : (h : ℕ) (old new : List Cell) (A : Option Cell → ℕ → ℕ) → SameBelow h old new → ((i : ℕ) (c d : Cell) → h ≤ c.stamp → h ≤ d.stamp → A (Some c) i ≡ A (Some d) i) → piece_by old (λ i. A (slice_get old i) i) ≡ piece_by new (λ i. A (slice_get new i) i)
by_same h old new A same e = piece_same old new (λ i. A (slice_get old i) i) (λ i. A (slice_get new i) i) (λ i b.
    ⊎_elim
    (λ q. ap (λ o. share_in b (A o i) o) (sym q))
    (λ q. ap (λ o. share_in b (A o i) o) q.2 ∙ (share_cells q.0 q.1 b (A (Some q.0) i) (A (Some q.1) i) q.4 q.5 (e i q.0 q.1 q.6 q.7) ∙ sym (ap (λ o. share_in b (A o i) o) q.3)))
    (same i))

pub level_frame : (h : ℕ) (old new : List Cell) (f : Fork) → f.high ≤ h → SameBelow h old new → level_of new f ≡ level_of old f
level_frame h old new f le same =
    let a = by_same h old new (λ o i. amount_between f.low f.high o + (kept_in f.lent.items i + cond f.begun (other_in f.lent.items i) 0)) same
    (λ i c d x y. ap (λ n. n + (kept_in f.lent.items i + cond f.begun (other_in f.lent.items i) 0)) (between_above f.low f.high c (omega arith) ∙ sym (between_above f.low f.high d (omega arith)))) in
    let r = by_same h old new (λ o i. other_in f.lent.items i) same (λ i c d x y. refl) in
    ap (λ (p : Piece). level_as p (cond f.begun None (Some (piece_by new (other_in f.lent.items))))) (sym a)
    ∙ ap (λ (p : Piece). level_as (piece_by old (kept_by old f)) (cond f.begun None (Some p))) (sym r)
  where
    level_as : Piece → Option Piece → Level
    level_as p q = record { kept = p; right = q }

pub levels_frame : (h : ℕ) (old new : List Cell) (fs : List Fork) (acc : List Level) (low : ℕ) → Nested low fs h → SameBelow h old new → levels new fs acc ≡ levels old fs acc
levels_frame h old new [] acc low n same = refl
levels_frame h old new (f ∷ fs) acc low n same =
    ap (λ l. levels new fs (l ∷ acc)) (level_frame h old new f (nested_le fs f.high h n.1) same)
    ∙ levels_frame h old new fs (level_of old f ∷ acc) f.high n.1 same
