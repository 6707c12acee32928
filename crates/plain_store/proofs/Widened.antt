-- What joins and swaps of a fork's cells do to the pieces that they hold.
use Rattle.std.proofs.Common.{◌≡◌, ◌⊎◌, inl, inr, ℕ, ◌+◌, ◌<◌, ◌≤◌, Bool, true, false, cond, List, length, refl, sym, ap, ◌∙◌, subst, arith, ⊎_elim}
use Rattle.std.specs.Prelude.{Option, Some, None, slice_get}
use Rattle.target_meaning.specs.Piece.{plus}
use Rattle.branch_exec.specs.Stores.{with_right}
use Rattle.plain_store.specs.Cells.{share_in, piece_by, amount_from, amount_between, top_of}
use Rattle.plain_store.specs.Levels.{kept_in, other_in, is_lent, kept_by, level_of}
use Rattle.plain_store.specs.Swaps.{with_amount, AreJoined, AreSwapped}
use Rattle.plain_store.specs.declared.cells.Cell.{Cell}
use Rattle.plain_store.specs.declared.forks.Fork.{Fork}
use Rattle.plain_store.specs.declared.forks.Lent.{Lent}
use Rattle.plain_store.proofs.Gets.{past}
use Rattle.plain_store.proofs.LentLists.{by_cases, kept_none, other_none, get_within, AllCome}
use Rattle.plain_store.proofs.Pieces.{piece_sum, piece_same, share_cells, from_split, from_low, from_not, between_above, between_in, between_below, SameBelow}

pub some_same : (o : Option Cell) (d c : Cell) → o ≡ Some d → o ≡ Some c → d ≡ c
some_same None d c e g = cc e
some_same (Some x) d c e g = cc (e, g)

-- a cell that is there or not
pub by_cell : (P : Type 0) (cells : List Cell) (i : ℕ) → ((c : Cell) → slice_get cells i ≡ Some c → P) → (slice_get cells i ≡ None → P) → P
by_cell P cells i f g = option (slice_get cells i) f g
  where
    option : (o : Option Cell) → ((c : Cell) → o ≡ Some c → P) → (o ≡ None → P) → P
    option None u v = v refl
    option (Some c) u v = u c refl

pub none_same : (old new : List Cell) (i : ℕ) → length new ≡ length old → slice_get old i ≡ None → slice_get new i ≡ None
none_same old new i len none =
    ⊎_elim
    (λ (w : i < length old). let g = get_within old i w in let f = sym none ∙ g.1 in cc f)
    (λ (w : length old ≤ i). past new i (omega arith))
    (let o : (i < length old) ⊎ (length old ≤ i) = grind arith in o)

-- what is kept and the top, and the right branch's piece where it waits
all_back : (t : Bool) (cells : List Cell) (A K R B : ℕ → ℕ) → plus (piece_by cells (λ i. A i + (K i + cond t (R i) 0))) (with_right (cond t None (Some (piece_by cells R))) (piece_by cells B)) ≡ piece_by cells (λ i. (A i + B i) + (K i + R i))
all_back true cells A K R B =
    piece_sum cells (λ i. A i + (K i + R i)) B
    ∙ piece_same cells cells (λ i. (A i + (K i + R i)) + B i) (λ i. (A i + B i) + (K i + R i)) (λ i b. ap (λ n. share_in b n (slice_get cells i)) (let z : (A i + (K i + R i)) + B i ≡ (A i + B i) + (K i + R i) = omega arith in z))
all_back false cells A K R B =
    ap (plus (piece_by cells (λ i. A i + (K i + 0)))) (piece_sum cells B R)
    ∙ (piece_sum cells (λ i. A i + (K i + 0)) (λ i. B i + R i)
    ∙ piece_same cells cells (λ i. (A i + (K i + 0)) + (B i + R i)) (λ i. (A i + B i) + (K i + R i)) (λ i b. ap (λ n. share_in b n (slice_get cells i)) (let z : (A i + (K i + 0)) + (B i + R i) ≡ (A i + B i) + (K i + R i) = omega arith in z)))

-- a cell that is joined
joined_amount : (f : Fork) (c : Cell) (i : ℕ) → f.low ≤ f.high → (is_lent f.lent.items i ≡ true → f.high ≤ c.stamp) → (amount_between f.low f.high (Some c) + amount_from f.high (Some c)) + (kept_in f.lent.items i + other_in f.lent.items i) ≡ amount_from f.low (Some (with_amount c (c.amount + (kept_in f.lent.items i + other_in f.lent.items i)) c.stamp))
joined_amount f c i le from =
    let s = from_split f.low f.high (Some c) le in
    let k = kept_in f.lent.items i in let o = other_in f.lent.items i in
    let d = with_amount c (c.amount + (k + o)) c.stamp in
    by_cases ((amount_between f.low f.high (Some c) + amount_from f.high (Some c)) + (k + o) ≡ amount_from f.low (Some d)) (is_lent f.lent.items i)
    (λ t. let h = from t in
    let a = from_low f.low c (omega arith) in let b = from_low f.low d (let z : f.low ≤ c.stamp = omega arith in z) in omega arith)
    (λ t. let kn = kept_none f.lent.items i t in let on = other_none f.lent.items i t in
    ⊎_elim
    (λ (w : c.stamp < f.low). let a = from_not f.low c w in let b = from_not f.low d w in let z : (amount_between f.low f.high (Some c) + amount_from f.high (Some c)) + (k + o) ≡ amount_from f.low (Some d) = omega arith in z)
    (λ (w : f.low ≤ c.stamp). let a = from_low f.low c w in let b = from_low f.low d w in let z : (amount_between f.low f.high (Some c) + amount_from f.high (Some c)) + (k + o) ≡ amount_from f.low (Some d) = omega arith in z)
    (let o : (c.stamp < f.low) ⊎ (f.low ≤ c.stamp) = grind arith in o))

pub widened : (old new : List Cell) (f : Fork) → f.low ≤ f.high → AllCome old f.high f.lent.items → AreJoined old new f.lent.items → top_of new f.low ≡ plus (level_of old f).kept (with_right (level_of old f).right (top_of old f.high))
widened old new f le from j =
    sym (all_back f.begun old (λ i. amount_between f.low f.high (slice_get old i)) (kept_in f.lent.items) (other_in f.lent.items) (λ i. amount_from f.high (slice_get old i))
    ∙ piece_same old new (λ i. (amount_between f.low f.high (slice_get old i) + amount_from f.high (slice_get old i)) + (kept_in f.lent.items i + other_in f.lent.items i)) (λ i. amount_from f.low (slice_get new i)) at)
  where
    at : (i b : ℕ) → share_in b ((amount_between f.low f.high (slice_get old i) + amount_from f.high (slice_get old i)) + (kept_in f.lent.items i + other_in f.lent.items i)) (slice_get old i) ≡ share_in b (amount_from f.low (slice_get new i)) (slice_get new i)
    at i b =
        by_cell (share_in b ((amount_between f.low f.high (slice_get old i) + amount_from f.high (slice_get old i)) + (kept_in f.lent.items i + other_in f.lent.items i)) (slice_get old i) ≡ share_in b (amount_from f.low (slice_get new i)) (slice_get new i)) old i
        (λ c is.
        let d = with_amount c (c.amount + (kept_in f.lent.items i + other_in f.lent.items i)) c.stamp in
        ap (λ o. share_in b ((amount_between f.low f.high o + amount_from f.high o) + (kept_in f.lent.items i + other_in f.lent.items i)) o) is
        ∙ (share_cells c d b ((amount_between f.low f.high (Some c) + amount_from f.high (Some c)) + (kept_in f.lent.items i + other_in f.lent.items i)) (amount_from f.low (Some d)) refl refl
        (joined_amount f c i le (λ t. let g = from i t in let q : g.0 ≡ c = some_same (slice_get old i) g.0 c g.1 is in subst (λ (x : Cell). f.high ≤ x.stamp) q g.2))
        ∙ sym (ap (λ o. share_in b (amount_from f.low o) o) (j.joined i c is))))
        (λ none. ap (share_in b _) none ∙ sym (ap (share_in b (amount_from f.low (slice_get new i))) (none_same old new i j.len none)))

-- joins change nothing below the border of their fork
pub joined_below : (old new : List Cell) (f : Fork) (h : ℕ) → h ≤ f.high → AllCome old f.high f.lent.items → AreJoined old new f.lent.items → SameBelow h old new
joined_below old new f h le from j i =
    by_cases ((slice_get new i ≡ slice_get old i) ⊎ ((c : Cell) × (d : Cell) × (slice_get old i ≡ Some c) × (slice_get new i ≡ Some d) × (d.home ≡ c.home) × (d.value ≡ c.value) × (h ≤ c.stamp) × (h ≤ d.stamp))) (is_lent f.lent.items i)
    (λ t. let g = from i t in let s = g.2 in
    inr (g.0, with_amount g.0 (g.0.amount + (kept_in f.lent.items i + other_in f.lent.items i)) g.0.stamp, g.1, j.joined i g.0 g.1, refl, refl, omega arith, omega arith))
    (λ t. let kn = kept_none f.lent.items i t in let on = other_none f.lent.items i t in
    inl (by_cell (slice_get new i ≡ slice_get old i) old i
    (λ c is. j.joined i c is ∙ (ap (λ n. Some (with_amount c n c.stamp)) (let z : c.amount + (kept_in f.lent.items i + other_in f.lent.items i) ≡ c.amount = omega arith in z) ∙ sym is))
    (λ none. none_same old new i j.len none ∙ sym none)))

-- the right branch's piece comes to the top
pub turned_top : (old new : List Cell) (lent after : List Lent) (fresh : ℕ) → ((i : ℕ) (c : Cell) → slice_get old i ≡ Some c → c.stamp < fresh) → AreSwapped old new lent after fresh → top_of new fresh ≡ piece_by old (other_in lent)
turned_top old new lent after fresh young j =
    sym (piece_same old new (other_in lent) (λ i. amount_from fresh (slice_get new i)) (λ i b.
    by_cell (share_in b (other_in lent i) (slice_get old i) ≡ share_in b (amount_from fresh (slice_get new i)) (slice_get new i)) old i
    (λ c is. by_cases (share_in b (other_in lent i) (slice_get old i) ≡ share_in b (amount_from fresh (slice_get new i)) (slice_get new i)) (is_lent lent i)
    (λ t. let d = with_amount c (other_in lent i) fresh in
    ap (share_in b (other_in lent i)) is
    ∙ (share_cells c d b (other_in lent i) (amount_from fresh (Some d)) refl refl (sym (from_low fresh d (let z : fresh ≤ fresh = omega arith in z)))
    ∙ sym (ap (λ o. share_in b (amount_from fresh o) o) (j.swapped i c is t).0)))
    (λ t. let lt = young i c is in
    ap (share_in b (other_in lent i)) is
    ∙ (share_cells c c b (other_in lent i) (amount_from fresh (Some c)) refl refl (other_none lent i t ∙ sym (from_not fresh c lt))
    ∙ sym (ap (λ o. share_in b (amount_from fresh o) o) (j.same i t ∙ is)))))
    (λ none. ap (share_in b (other_in lent i)) none ∙ sym (ap (share_in b (amount_from fresh (slice_get new i))) (none_same old new i j.len none)))))

-- a fork whose right branch has begun
abbrev pub begun_as : Fork → Fork → ℕ → Type 0
begun_as f g fresh = (f.begun ≡ false) × (g.low ≡ f.low) × (g.high ≡ fresh) × (g.begun ≡ true)

kept_cond : (t u : Bool) (A K R : ℕ) → t ≡ u → A + (K + cond t R 0) ≡ A + (K + cond u R 0)
kept_cond t u A K R e = ap (λ x. A + (K + cond x R 0)) e

-- what is kept of a cell, with what the left branch left
turned_amount : (f g : Fork) (fresh : ℕ) (c d : Cell) (i : ℕ) → begun_as f g fresh → f.low ≤ f.high → c.stamp < fresh → (is_lent f.lent.items i ≡ true → f.high ≤ c.stamp) → ((is_lent f.lent.items i ≡ true) → (d.stamp ≡ fresh) × (other_in g.lent.items i ≡ c.amount)) → ((is_lent f.lent.items i ≡ false) → (d ≡ c) × (other_in g.lent.items i ≡ 0)) → kept_in g.lent.items i ≡ kept_in f.lent.items i →
    (amount_between f.low f.high (Some c) + (kept_in f.lent.items i + cond f.begun (other_in f.lent.items i) 0)) + amount_from f.high (Some c) ≡ amount_between g.low g.high (Some d) + (kept_in g.lent.items i + cond g.begun (other_in g.lent.items i) 0)
turned_amount f g fresh c d i is le young from lent not_lent keeps =
    let K = kept_in f.lent.items i in let R = other_in f.lent.items i in let S = other_in g.lent.items i in
    let s = from_split f.low f.high (Some c) le in
    let A = amount_between f.low f.high (Some c) in let B = amount_from f.high (Some c) in
    let x : cond f.begun R 0 ≡ 0 = ap (λ t. cond t R 0) is.0 in
    let y : cond g.begun S 0 ≡ S = ap (λ t. cond t S 0) is.3 in
    let D = amount_between g.low g.high (Some d) in
    let e : D ≡ amount_between f.low fresh (Some d) = ap (λ n. amount_between n g.high (Some d)) is.1 ∙ ap (λ n. amount_between f.low n (Some d)) is.2 in
    by_cases ((A + (K + cond f.begun R 0)) + B ≡ D + (kept_in g.lent.items i + cond g.begun S 0)) (is_lent f.lent.items i)
    (λ t. let h = from t in let l = lent t in let l0 = l.0 in let l1 = l.1 in
    let z = between_above f.low fresh d (let q : fresh ≤ d.stamp = omega arith in q) in
    let a = from_low f.low c (let q : f.low ≤ c.stamp = omega arith in q) in omega arith)
    (λ t. let l = not_lent t in let l1 = l.1 in
    let u : amount_between f.low fresh (Some d) ≡ amount_between f.low fresh (Some c) = ap (λ q. amount_between f.low fresh (Some q)) l.0 in
    let v = from_split_young c f.low fresh young in omega arith)
  where
    from_split_young : (c : Cell) (low fresh : ℕ) → c.stamp < fresh → amount_from low (Some c) ≡ amount_between low fresh (Some c)
    from_split_young c low fresh lt =
        ⊎_elim
        (λ (w : c.stamp < low). from_not low c w ∙ sym (between_below low fresh c w))
        (λ (w : low ≤ c.stamp). from_low low c w ∙ sym (between_in low fresh c w lt))
        (let o : (c.stamp < low) ⊎ (low ≤ c.stamp) = grind arith in o)

-- the top goes to what is kept
pub turned_kept : (old new : List Cell) (f g : Fork) (fresh : ℕ) → begun_as f g fresh → f.low ≤ f.high → ((i : ℕ) (c : Cell) → slice_get old i ≡ Some c → c.stamp < fresh) → AllCome old f.high f.lent.items → AreSwapped old new f.lent.items g.lent.items fresh → (level_of new g).kept ≡ plus (level_of old f).kept (top_of old f.high)
turned_kept old new f g fresh is le young from j =
    sym (piece_sum old (kept_by old f) (λ i. amount_from f.high (slice_get old i))
    ∙ piece_same old new (λ i. kept_by old f i + amount_from f.high (slice_get old i)) (kept_by new g) (λ i b.
    by_cell (share_in b (kept_by old f i + amount_from f.high (slice_get old i)) (slice_get old i) ≡ share_in b (kept_by new g i) (slice_get new i)) old i
    (λ c at.
    by_cell (share_in b (kept_by old f i + amount_from f.high (slice_get old i)) (slice_get old i) ≡ share_in b (kept_by new g i) (slice_get new i)) new i
    (λ d to.
    ap (λ o. share_in b ((amount_between f.low f.high o + (kept_in f.lent.items i + cond f.begun (other_in f.lent.items i) 0)) + amount_from f.high o) o) at
    ∙ (share_cells c d b ((amount_between f.low f.high (Some c) + (kept_in f.lent.items i + cond f.begun (other_in f.lent.items i) 0)) + amount_from f.high (Some c)) (amount_between g.low g.high (Some d) + (kept_in g.lent.items i + cond g.begun (other_in g.lent.items i) 0)) (same_home i c d at to) (same_value i c d at to)
    (turned_amount f g fresh c d i is le (young i c at) (λ t. let q = from i t in subst (λ (x : Cell). f.high ≤ x.stamp) (some_same (slice_get old i) q.0 c q.1 at) q.2)
    (λ t. (ap (λ (x : Cell). x.stamp) (some_same (slice_get new i) d (with_amount c (other_in f.lent.items i) fresh) to (j.swapped i c at t).0), (j.swapped i c at t).1))
    (λ t. (some_same (slice_get new i) d c to (j.same i t ∙ at), other_none g.lent.items i (j.places i ∙ t)))
    (j.kept i))
    ∙ sym (ap (λ o. share_in b (amount_between g.low g.high o + (kept_in g.lent.items i + cond g.begun (other_in g.lent.items i) 0)) o) to)))
    (λ none. absurd (lost i c at none)))
    (λ none. ap (share_in b (kept_by old f i + amount_from f.high (slice_get old i))) none ∙ sym (ap (share_in b (kept_by new g i)) (none_same old new i j.len none)))))
  where
    same_home : (i : ℕ) (c d : Cell) → slice_get old i ≡ Some c → slice_get new i ≡ Some d → d.home ≡ c.home
    same_home i c d at to = by_cases (d.home ≡ c.home) (is_lent f.lent.items i)
        (λ t. ap (λ (x : Cell). x.home) (some_same (slice_get new i) d (with_amount c (other_in f.lent.items i) fresh) to (j.swapped i c at t).0))
        (λ t. ap (λ (x : Cell). x.home) (some_same (slice_get new i) d c to (j.same i t ∙ at)))

    same_value : (i : ℕ) (c d : Cell) → slice_get old i ≡ Some c → slice_get new i ≡ Some d → d.value ≡ c.value
    same_value i c d at to = by_cases (d.value ≡ c.value) (is_lent f.lent.items i)
        (λ t. ap (λ (x : Cell). x.value) (some_same (slice_get new i) d (with_amount c (other_in f.lent.items i) fresh) to (j.swapped i c at t).0))
        (λ t. ap (λ (x : Cell). x.value) (some_same (slice_get new i) d c to (j.same i t ∙ at)))

    lost : (i : ℕ) (c : Cell) → slice_get old i ≡ Some c → slice_get new i ≡ None → ⊥
    lost i c at none = by_cases ⊥ (is_lent f.lent.items i)
        (λ t. let q = sym none ∙ (j.swapped i c at t).0 in cc q)
        (λ t. let q = sym none ∙ (j.same i t ∙ at) in cc q)

-- swaps change nothing below the border of their fork
pub swapped_below : (old new : List Cell) (f : Fork) (after : List Lent) (h fresh : ℕ) → h ≤ f.high → h ≤ fresh → AllCome old f.high f.lent.items → AreSwapped old new f.lent.items after fresh → SameBelow h old new
swapped_below old new f after h fresh le young from j i =
    by_cases ((slice_get new i ≡ slice_get old i) ⊎ ((c : Cell) × (d : Cell) × (slice_get old i ≡ Some c) × (slice_get new i ≡ Some d) × (d.home ≡ c.home) × (d.value ≡ c.value) × (h ≤ c.stamp) × (h ≤ d.stamp))) (is_lent f.lent.items i)
    (λ t. let g = from i t in let s = g.2 in
    inr (g.0, with_amount g.0 (other_in f.lent.items i) fresh, g.1, (j.swapped i g.0 g.1 t).0, refl, refl, omega arith, young))
    (λ t. inl (j.same i t))
