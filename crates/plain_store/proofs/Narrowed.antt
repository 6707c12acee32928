-- What the cut of a fork's cells does to the pieces that they hold.
use Rattle.std.proofs.Common.{◌≡◌, ◌≢◌, ◌⊎◌, inl, inr, ℕ, zero, suc, ◌+◌, ◌-◌, ◌<◌, ◌≤◌, Bool, true, false, cond, List, [], ◌∷◌, ◌++◌, length, refl, sym, ap, ◌∙◌, subst, arith, eqb, eq-eqb, ne_eqb, ⊎_elim}
use Rattle.std.proofs.lemmas.Bool.{cond-true, cond-false}
use Rattle.std.proofs.lemmas.Bool.Decides.{eqb_tells}
use Rattle.std.proofs.Math.Path.{fun_ext}
use Rattle.std.specs.Prelude.{Option, Some, None, slice_get}
use Rattle.target_meaning.specs.Held.{all_given, all_kept}
use Rattle.target_meaning.specs.Piece.{Nil, Piece, share_of, whole}
use Rattle.target_meaning.specs.declared.frame.Starting.{Starting}
use Rattle.branch_exec.specs.Stores.{Level, both_kept, right_given, takes_of_left, takes_of_right}
use Rattle.plain_store.specs.Cells.{share_in, piece_by, amount_from, amount_between, top_of}
use Rattle.plain_store.specs.Cuts.{left_by, after_left, after_both, IsListed}
use Rattle.plain_store.specs.Levels.{kept_in, other_in, is_lent, kept_by, levels, waiting, IsSound, Nested}
use Rattle.plain_store.specs.Swaps.{with_amount, AreCut, first_kept, first_other}
use Rattle.plain_store.specs.declared.cells.Cell.{Cell}
use Rattle.plain_store.specs.declared.forks.Fork.{Fork}
use Rattle.plain_store.specs.declared.forks.Lent.{Lent}
use Rattle.plain_store.proofs.LentLists.{by_cases, kept_none, other_none, from_come}
use Rattle.plain_store.proofs.Listed.{first_is, rest_is}
use Rattle.plain_store.proofs.Pieces.{from_low, from_not, between_above, between_below, between_in, levels_last, levels_frame, SameBelow}
use Rattle.plain_store.proofs.Sound.{placed_later, lent_later, lent-more, nested-more, lent_of-last, waiting-last, waits_yet}
use Rattle.plain_store.proofs.Takings.{kept_by_takes, given_by_takes, left_none, left_le}
use Rattle.plain_store.proofs.Widened.{by_cell, some_same, none_same}

-- a piece that follows from the top place by place is that of other cells
module _ (old new : List Cell) (A B : ℕ → ℕ) (F : Piece) (G : ℕ → ℕ → ℕ → ℕ)
    (by : (b j v n : ℕ) → piece_by old A b j ≡ share_of v n → F b j ≡ share_of v (G b j n))
    (none : (b j : ℕ) → G b j 0 ≡ 0)
    (len : length new ≡ length old)
    (cells : (i : ℕ) (c : Cell) → slice_get old i ≡ Some c → c.home ≤ i → (d : Cell) × (slice_get new i ≡ Some d) × (d.home ≡ c.home) × (d.value ≡ c.value) × (B i ≡ G c.home (i - c.home) (A i)))
    (homes : (i : ℕ) (c d : Cell) → slice_get old i ≡ Some c → slice_get new i ≡ Some d → d.home ≡ c.home) where
  nothing : (b j : ℕ) → piece_by old A b j ≡ Nil → F b j ≡ Nil
  nothing b j e = by b j 0 0 e ∙ ap (share_of 0) (none b j)

  elsewhere : (b n : ℕ) (c : Cell) → c.home ≢ b → share_in b n (Some c) ≡ Nil
  elsewhere b n c ne = cond-false (eqb c.home b) (share_of c.value n) Nil (ne_eqb c.home b ne)

  here : (b n : ℕ) (c : Cell) → c.home ≡ b → share_in b n (Some c) ≡ share_of c.value n
  here b n c e = cond-true (eqb c.home b) (share_of c.value n) Nil (eq-eqb c.home b e)

  at_place : (b j : ℕ) → piece_by new B b j ≡ F b j
  at_place b j =
      by_cell (piece_by new B b j ≡ F b j) old (b + j)
      (λ c at.
      by_cell (piece_by new B b j ≡ F b j) new (b + j)
      (λ d to.
      ⊎_elim
      (λ e.
      let h : c.home ≡ b = e.1 in
      let le : c.home ≤ b + j = omega (arith, h) in
      let x = cells (b + j) c at le in
      let q : x.0 ≡ d = some_same (slice_get new (b + j)) x.0 d x.1 to in
      let place : (b + j) - c.home ≡ j = omega (arith, h) in
      let old_is : piece_by old A b j ≡ share_of c.value (A (b + j)) = ap (share_in b (A (b + j))) at ∙ here b (A (b + j)) c h in
      ap (share_in b (B (b + j))) to
      ∙ (here b (B (b + j)) d (ap (λ (y : Cell). y.home) (sym q) ∙ (x.2 ∙ h))
      ∙ (ap (λ v. share_of v (B (b + j))) (ap (λ (y : Cell). y.value) (sym q) ∙ x.3)
      ∙ (ap (share_of c.value) (x.4 ∙ (ap (λ m. G m ((b + j) - c.home) (A (b + j))) h ∙ ap (λ m. G b m (A (b + j))) place))
      ∙ sym (by b j c.value (A (b + j)) old_is)))))
      (λ e.
      ap (share_in b (B (b + j))) to ∙ (elsewhere b (B (b + j)) d (λ q. e.1 (sym (homes (b + j) c d at to) ∙ q))
      ∙ sym (nothing b j (ap (share_in b (A (b + j))) at ∙ elsewhere b (A (b + j)) c e.1))))
      (eqb_tells c.home b))
      (λ gone. absurd (let z : ⊥ = lost (b + j) c at gone in z)))
      (λ gone. ap (share_in b (B (b + j))) (none_same old new (b + j) len gone) ∙ sym (nothing b j (ap (share_in b (A (b + j))) gone)))
    where
      lost : (i : ℕ) (c : Cell) → slice_get old i ≡ Some c → slice_get new i ≡ None → ⊥
      lost i c at gone = let q = sym (none_same new old i (sym len) gone) ∙ at in cc q

  pub by_taken : piece_by new B ≡ F
  by_taken = fun_ext (λ b. fun_ext (λ j. at_place b j))

-- a fork whose branches have not begun
abbrev pub opened_as : Fork → List Lent → ℕ → ℕ → Type 0
opened_as f after border fresh = (f.low ≡ border) × (f.high ≡ fresh) × (f.begun ≡ false) × (f.lent.items ≡ after)

module _ (old new : List Cell) (fs : List Fork) (border last fresh : ℕ) (l r : Starting) (lent : List Lent) (f : Fork)
    (s : IsSound old fs border last) (h : IsListed old border l r lent) (cut : AreCut old new lent f.lent.items (first_kept lent) (first_other lent) fresh)
    (low : f.low ≡ border) (high : f.high ≡ fresh) (begun : f.begun ≡ false) (next : fresh ≡ last + 1) where
  abbrev before : Cell → ℕ
  before c = amount_from border (Some c)

  -- what becomes of a cell
  record Becomes (i : ℕ) (c : Cell) : Type 0 where
    new_cell : Cell
    at : slice_get new i ≡ Some new_cell
    home : new_cell.home ≡ c.home
    value : new_cell.value ≡ c.value
    stamp : c.stamp ≤ new_cell.stamp
    late : new_cell.stamp ≤ fresh
    most : new_cell.amount + (kept_in f.lent.items i + other_in f.lent.items i) ≤ c.amount
    top : c.home ≤ i → amount_from fresh (Some new_cell) ≡ before c - after_left l i c (before c)
    kept : c.home ≤ i → amount_between border fresh (Some new_cell) + kept_in f.lent.items i ≡ after_both l r i c (before c)
    right : c.home ≤ i → other_in f.lent.items i ≡ after_left l i c (before c) - after_both l r i c (before c)
    frame : (slice_get new i ≡ slice_get old i) ⊎ ((border ≤ c.stamp) × (border ≤ new_cell.stamp))

  between_young : (c : Cell) → c.stamp < fresh → amount_between border fresh (Some c) ≡ before c
  between_young c lt =
      ⊎_elim
      (λ (w : c.stamp < border). between_below border fresh c w ∙ sym (from_not border c w))
      (λ (w : border ≤ c.stamp). between_in border fresh c w lt ∙ sym (from_low border c w))
      (let o : (c.stamp < border) ⊎ (border ≤ c.stamp) = grind arith in o)

  becomes : (i : ℕ) (c : Cell) → slice_get old i ≡ Some c → Becomes i c
  becomes i c at =
      let old_stamp = s.stamped i c at in let bounded = s.bounded in
      let young : c.stamp < fresh = omega (arith, old_stamp, next) in
      by_cases (Becomes i c) (is_lent lent i)
      (λ t.
      let x = cut.cut i c at t in
      let g = first_is old border l r lent i h.cut t in
      let q : g.0 ≡ c = some_same (slice_get old i) g.0 c g.1 at in
      let from : border ≤ c.stamp = subst (λ (y : Cell). border ≤ y.stamp) q g.2 in
      let K = first_kept lent i in let R = first_other lent i in
      let ka : K ≡ after_both l r i c c.amount = g.3 ∙ ap (λ (y : Cell). after_both l r i y y.amount) q in
      let kr : K + R ≡ after_left l i c c.amount = g.4 ∙ ap (λ (y : Cell). after_left l i y y.amount) q in
      let d = with_amount c ((c.amount - K) - R) fresh in
      let n : before c ≡ c.amount = from_low border c from in
      let x1 = x.1 in let x2 = x.2 in
      let le : after_left l i c c.amount ≤ c.amount = left_le (takes_of_left l) c.home (i - c.home) c.amount in
      let dt : amount_from fresh (Some d) ≡ (c.amount - K) - R = from_low fresh d (let z : fresh ≤ fresh = omega arith in z) in
      let db : amount_between border fresh (Some d) ≡ 0 = between_above border fresh d (let z : fresh ≤ fresh = omega arith in z) in
      let ln : after_left l i c (before c) ≡ after_left l i c c.amount = ap (after_left l i c) n in
      let bn : after_both l r i c (before c) ≡ after_both l r i c c.amount = ap (after_both l r i c) n in
      record {
        new_cell = d;
        at = x.0;
        home = refl;
        value = refl;
        stamp = omega (arith, young);
        late = omega arith;
        most = omega (arith, x1, x2, kr, le);
        top = λ _. omega (arith, dt, ln, n, kr);
        kept = λ _. omega (arith, db, x1, bn, ka);
        right = λ _. omega (arith, x2, ln, bn, ka, kr);
        frame = inr (from, (let z : border ≤ fresh = omega (arith, bounded, next) in z));
      })
      (λ t.
      let same = cut.same i t in
      let out = cut.places i ∙ t in
      let k0 = kept_none f.lent.items i out in let o0 = other_none f.lent.items i out in
      let tf = from_not fresh c young in
      let b = between_young c young in
      record {
        new_cell = c;
        at = same ∙ at;
        home = refl;
        value = refl;
        stamp = omega arith;
        late = omega (arith, young);
        most = omega (arith, k0, o0);
        top = λ le. let w = (rest_is old border l r lent h i c at le t).0 in omega (arith, tf, w);
        kept = λ le. let w = (rest_is old border l r lent h i c at le t).1 in omega (arith, b, k0, w);
        right = λ le. let w = (rest_is old border l r lent h i c at le t).0 in let v = (rest_is old border l r lent h i c at le t).1 in omega (arith, o0, w, v);
        frame = inl same;
      })

  same_home : (i : ℕ) (c d : Cell) → slice_get old i ≡ Some c → slice_get new i ≡ Some d → d.home ≡ c.home
  same_home i c d at to = let x = becomes i c at in ap (λ (y : Cell). y.home) (some_same (slice_get new i) d x.new_cell to x.at) ∙ x.home

  none_less : (m : ℕ) → 0 - m ≡ 0
  none_less m = omega arith

  abbrev top_amount : ℕ → ℕ
  top_amount i = amount_from border (slice_get old i)

  pub top_is : top_of new fresh ≡ all_given (takes_of_left l) (top_of old border)
  top_is = by_taken old new top_amount (λ i. amount_from fresh (slice_get new i)) (all_given (takes_of_left l) (top_of old border)) (λ b j n. n - left_by (takes_of_left l) b j n)
      (λ b j v n e. given_by_takes (takes_of_left l) (top_of old border) b j v n e)
      (λ b j. none_less (left_by (takes_of_left l) b j 0))
      cut.len
      (λ i c at le. let x = becomes i c at in (
        x.new_cell,
        x.at,
        x.home,
        x.value,
        ap (amount_from fresh) x.at ∙ (x.top le ∙ ap (λ o. amount_from border o - left_by (takes_of_left l) c.home (i - c.home) (amount_from border o)) (sym at)),
      ))
      same_home

  abbrev kept_left : Piece
  kept_left = all_kept (takes_of_left l) (top_of old border)

  right_is : piece_by new (other_in f.lent.items) ≡ right_given l r (top_of old border)
  right_is = by_taken old new top_amount (other_in f.lent.items) (right_given l r (top_of old border))
      (λ b j n. left_by (takes_of_left l) b j n - left_by (takes_of_right l r) b j (left_by (takes_of_left l) b j n))
      (λ b j v n e. given_by_takes (takes_of_right l r) kept_left b j v (left_by (takes_of_left l) b j n) (kept_by_takes (takes_of_left l) (top_of old border) b j v n e))
      (λ b j. ap (λ m. m - left_by (takes_of_right l r) b j m) (left_none (takes_of_left l) b j) ∙ none_less (left_by (takes_of_right l r) b j 0))
      cut.len
      (λ i c at le. let x = becomes i c at in (
        x.new_cell,
        x.at,
        x.home,
        x.value,
        x.right le ∙ ap (λ o. after_left l i c (amount_from border o) - after_both l r i c (amount_from border o)) (sym at),
      ))
      same_home

  kept_cond : (t : Bool) (a k n : ℕ) → t ≡ false → a + (k + cond t n 0) ≡ a + k
  kept_cond true a k n e = cc e
  kept_cond false a k n e = omega arith

  kept_is : piece_by new (kept_by new f) ≡ both_kept l r (top_of old border)
  kept_is = by_taken old new top_amount (kept_by new f) (both_kept l r (top_of old border))
      (λ b j n. left_by (takes_of_right l r) b j (left_by (takes_of_left l) b j n))
      (λ b j v n e. kept_by_takes (takes_of_right l r) kept_left b j v (left_by (takes_of_left l) b j n) (kept_by_takes (takes_of_left l) (top_of old border) b j v n e))
      (λ b j. ap (left_by (takes_of_right l r) b j) (left_none (takes_of_left l) b j) ∙ left_none (takes_of_right l r) b j)
      cut.len
      (λ i c at le. let x = becomes i c at in (
        x.new_cell,
        x.at,
        x.home,
        x.value,
        kept_cond f.begun (amount_between f.low f.high (slice_get new i)) (kept_in f.lent.items i) (other_in f.lent.items i) begun
            ∙ (ap (λ k. amount_between k f.high (slice_get new i) + kept_in f.lent.items i) low
            ∙ (ap (λ k. amount_between border k (slice_get new i) + kept_in f.lent.items i) high
            ∙ (ap (λ o. amount_between border fresh o + kept_in f.lent.items i) x.at
            ∙ (x.kept le ∙ ap (λ o. after_both l r i c (amount_from border o)) (sym at))))),
      ))
      same_home

  frame_below : SameBelow border old new
  frame_below i =
      by_cell ((slice_get new i ≡ slice_get old i) ⊎ ((c : Cell) × (d : Cell) × (slice_get old i ≡ Some c) × (slice_get new i ≡ Some d) × (d.home ≡ c.home) × (d.value ≡ c.value) × (border ≤ c.stamp) × (border ≤ d.stamp))) old i
      (λ c at. let x = becomes i c at in ⊎_elim (λ e. inl e) (λ e. inr (c, x.new_cell, at, x.at, x.home, x.value, e.0, e.1)) x.frame)
      (λ gone. inl (none_same old new i cut.len gone ∙ sym gone))

  right_cond : (t : Bool) (p q : Piece) → t ≡ false → p ≡ q → cond t None (Some p) ≡ Some q
  right_cond true p q e g = cc e
  right_cond false p q e g = ap Some g

  abbrev as_level : Piece → Option Piece → Level
  as_level p q = record { kept = p; right = q }

  pub opened_levels : levels new (fs ++ f ∷ []) [] ≡ record { kept = both_kept l r (top_of old border); right = Some (right_given l r (top_of old border)) } ∷ levels old fs []
  opened_levels =
      levels_last new fs f []
      ∙ (ap (λ x. x ∷ levels new fs [])
      (ap (λ p. as_level p (cond f.begun None (Some (piece_by new (other_in f.lent.items))))) kept_is ∙ ap (as_level (both_kept l r (top_of old border))) (right_cond f.begun (piece_by new (other_in f.lent.items)) (right_given l r (top_of old border)) begun right_is))
      ∙ ap (λ x. as_level (both_kept l r (top_of old border)) (Some (right_given l r (top_of old border))) ∷ x) (levels_frame border old new fs [] 0 s.nested frame_below))

  was_there : (i : ℕ) (d : Cell) → slice_get new i ≡ Some d → (c : Cell) × (slice_get old i ≡ Some c)
  was_there i d at = by_cell ((c : Cell) × (slice_get old i ≡ Some c)) old i (λ c e. (c, e)) (λ gone. let q = sym (none_same old new i cut.len gone) ∙ at in cc q)

  pub opened_sound : fresh + (waiting fs + 1) < whole → IsSound new (fs ++ f ∷ []) fresh fresh
  opened_sound spare =
      let w = waiting-last fs f in let y = waits_yet f.begun begun in let bounded = s.bounded in
      record {
        most = λ i d at.
            let c = was_there i d at in let x = becomes i c.0 c.1 in
            let q = ap (λ (y : Cell). y.amount) (some_same (slice_get new i) d x.new_cell at x.at) in
            let m = s.most i c.0 c.1 in let n = x.most in let e = lent_of-last fs f i in
            omega (arith, q, m, n, e);
        placed = placed_later old new (λ i d at.
            let c = was_there i d at in let x = becomes i c.0 c.1 in
            let q = some_same (slice_get new i) d x.new_cell at x.at in
            let st = x.stamp in let sq = ap (λ (y : Cell). y.stamp) q in
            (c.0, c.1, ap (λ (y : Cell). y.home) q ∙ x.home, ap (λ (y : Cell). y.value) q ∙ x.value, (let z : c.0.stamp ≤ d.stamp = omega (arith, st, sq) in z))) s.placed;
        stamped = λ i d at.
            let c = was_there i d at in let x = becomes i c.0 c.1 in
            let sq = ap (λ (y : Cell). y.stamp) (some_same (slice_get new i) d x.new_cell at x.at) in let late = x.late in
            omega (arith, sq, late);
        nested = nested-more fs f 0 fresh (subst (λ x. Nested_from fs x) (sym low) s.nested) (omega (arith, low, high, bounded, next)) (sym high);
        bounded = omega arith;
        lent = lent-more new fs f
            (lent_later old new fs (λ i c at. let x = becomes i c at in (x.new_cell, x.at, x.stamp)) s.lent)
            (from_come new f.high f.lent.items (λ i t.
            let u : is_lent lent i ≡ true = sym (cut.places i) ∙ t in
            let g = first_is old border l r lent i h.cut u in
            (with_amount g.0 ((g.0.amount - first_kept lent i) - first_other lent i) fresh, (cut.cut i g.0 g.1 u).0, (let z : f.high ≤ fresh = omega (arith, high) in z))));
        spare = omega (arith, spare, w, y);
      }
    where
      Nested_from : List Fork → ℕ → Type 0
      Nested_from gs x = Nested 0 gs x

-- the forks that wait are at most all
pub waiting_le : (fs : List Fork) → waiting fs ≤ length fs
waiting_le [] = omega arith
waiting_le (f ∷ fs) = let r = waiting_le fs in let w = one_most f.begun in let z : cond f.begun 0 1 + waiting fs ≤ suc (length fs) = omega (arith, r, w) in z
  where
    one_most : (t : Bool) → cond t zero (suc zero) ≤ suc zero
    one_most true = omega arith
    one_most false = omega arith
