-- The running branch's own calls leave a store sound, and the forks as they were.
use Rattle.std.proofs.Common.{◌≡◌, ◌≢◌, ◌⊎◌, inl, inr, ℕ, ◌+◌, ◌<◌, ◌≤◌, List, [], length, refl, sym, ap, ◌∙◌, arith, ⊎_elim}
use Rattle.std.proofs.lemmas.Bool.Decides.{eqb_tells}
use Rattle.std.proofs.lemmas.Option.{slice_get_within}
use Rattle.std.specs.Prelude.{Option, Some, None, slice_get}
use Rattle.target_meaning.specs.Piece.{Piece, whole}
use Rattle.branch_exec.specs.Stores.{Kept, Level}
use Rattle.plain_store.specs.Cells.{IsPlaced, new_name, new_word, no_place}
use Rattle.plain_store.specs.Changed.{AreCleared, HasGrown, IsPut, cleared}
use Rattle.plain_store.specs.Levels.{levels, lent_of, IsSound}
use Rattle.plain_store.specs.declared.cells.Cell.{Cell}
use Rattle.plain_store.specs.declared.forks.Fork.{Fork}
use Rattle.plain_store.proofs.Gets.{past}
use Rattle.plain_store.proofs.Quiet.{Quiet, IsYoung, quiet_levels, whole_alone, absent_alone, young_some, young_absent}
use Rattle.plain_store.proofs.Sound.{placed_later, lent_later}
use Rattle.plain_store.proofs.Widened.{some_same}

-- a store by what it is seen as
abbrev pub as_kept : List Level → Piece → ℕ → List (ℕ × ℕ) → ℕ → Kept
as_kept below top walked drawn cap = record { below = below; top = top; drawn = drawn; walked = walked; cap = cap; place = no_place; weight = 0 }

pub kept_as : (b d : List Level) (p q : Piece) (m n : ℕ) (drawn : List (ℕ × ℕ)) (cap : ℕ) → b ≡ d → p ≡ q → m ≡ n → as_kept b p m drawn cap ≡ as_kept d q n drawn cap
kept_as b d p q m n drawn cap e f g =
    ap (λ x. as_kept x p m drawn cap) e ∙ (ap (λ x. as_kept d x m drawn cap) f ∙ ap (λ x. as_kept d q x drawn cap) g)

-- a word is changed
module _ (old new : List Cell) (fs : List Fork) (border last f v : ℕ) (s : IsSound old fs border last) (p : IsPut old new border f v) where
  put_quiet : Quiet border fs old new
  put_quiet i =
      ⊎_elim
      (λ e. inr (
        ap (lent_of fs) e.1 ∙ whole_alone old fs border last f p.cell s p.at p.held,
        young_some border i old p.cell (ap (slice_get old) e.1 ∙ p.at) p.top,
        young_some border i new (record { home = p.cell.home; value = v; amount = p.cell.amount; stamp = p.cell.stamp }) (ap (slice_get new) e.1 ∙ p.put) p.top,
      ))
      (λ e. inl (p.same i e.1))
      (eqb_tells i f)

  pub put_levels : levels new fs [] ≡ levels old fs []
  put_levels = quiet_levels border old new fs [] 0 s.nested put_quiet

  abbrev changed : Cell
  changed = record { home = p.cell.home; value = v; amount = p.cell.amount; stamp = p.cell.stamp }

  -- each new cell was there, with the same but for its value
  put_from : (i : ℕ) (d : Cell) → slice_get new i ≡ Some d → (c : Cell) × (slice_get old i ≡ Some c) × (d.home ≡ c.home) × (d.amount ≡ c.amount) × (d.stamp ≡ c.stamp)
  put_from i d at =
      ⊎_elim
      (λ e. let q = some_same (slice_get new i) d changed at (ap (slice_get new) e.1 ∙ p.put) in
      (p.cell, ap (slice_get old) e.1 ∙ p.at, ap (λ (x : Cell). x.home) q, ap (λ (x : Cell). x.amount) q, ap (λ (x : Cell). x.stamp) q))
      (λ e. (d, sym (p.same i e.1) ∙ at, refl, refl, refl))
      (eqb_tells i f)

  put_to : (i : ℕ) (c : Cell) → slice_get old i ≡ Some c → (d : Cell) × (slice_get new i ≡ Some d) × (c.stamp ≤ d.stamp)
  put_to i c at =
      ⊎_elim
      (λ e. let q = ap (λ (x : Cell). x.stamp) (some_same (slice_get old i) c p.cell at (ap (slice_get old) e.1 ∙ p.at)) in
      (changed, ap (slice_get new) e.1 ∙ p.put, (let z : c.stamp ≤ p.cell.stamp = omega (arith, q) in z)))
      (λ e. (c, p.same i e.1 ∙ at, (let z : c.stamp ≤ c.stamp = omega arith in z)))
      (eqb_tells i f)

  put_placed : IsPlaced new
  put_placed i c n at name home =
      let x = put_from i c at in
      let w = p.word in
      ⊎_elim
      (λ e. let q = ap (λ (y : Cell). y.home) (some_same (slice_get new c.home) n changed name (ap (slice_get new) e.1 ∙ p.put)) in
      let e1 = e.1 in
      absurd (let z : ⊥ = omega (arith, w, q, home, e1) in z))
      (λ e. let r = s.placed i x.0 n x.1 (ap (slice_get old) (sym x.2) ∙ (sym (p.same c.home e.1) ∙ name)) (home ∙ x.2) in
      let h = x.2 in let z : i ≤ c.home + n.value = omega (arith, r, h) in z)
      (eqb_tells c.home f)

  pub put_sound : IsSound new fs border last
  put_sound = record {
    most = λ i d at. let x = put_from i d at in let m = s.most i x.0 x.1 in let a = x.3 in omega (arith, m, a);
    placed = put_placed;
    stamped = λ i d at. let x = put_from i d at in let m = s.stamped i x.0 x.1 in let a = x.4 in omega (arith, m, a);
    nested = s.nested;
    bounded = s.bounded;
    lent = lent_later old new fs put_to s.lent;
    spare = s.spare;
  }

-- a block is given up
module _ (old new : List Cell) (fs : List Fork) (border last b n : ℕ) (s : IsSound old fs border last) (a : AreCleared old new border b n) where
  abbrev Outside : ℕ → Type 0
  Outside i = (i < b) ⊎ (b + n < i)

  where_is : (i : ℕ) → Outside i ⊎ ((b ≤ i) × (i ≤ b + n))
  where_is i =
      ⊎_elim
      (λ (w : i < b). inl (inl w))
      (λ (w : b ≤ i). ⊎_elim (λ (v : b + n < i). inl (inr v)) (λ (v : i ≤ b + n). inr (w, v)) (let o : (b + n < i) ⊎ (i ≤ b + n) = grind arith in o))
      (let o : (i < b) ⊎ (b ≤ i) = grind arith in o)

  clear_quiet : Quiet border fs old new
  clear_quiet i =
      ⊎_elim
      (λ w. inl (a.same i w))
      (λ w. let c = a.cleared i w.0 w.1 in inr (
        whole_alone old fs border last i c.0 s c.1 c.4,
        young_some border i old c.0 c.1 c.3,
        young_some border i new (cleared c.0) c.5 c.3,
      ))
      (where_is i)

  pub clear_levels : levels new fs [] ≡ levels old fs []
  clear_levels = quiet_levels border old new fs [] 0 s.nested clear_quiet

  clear_from : (i : ℕ) (d : Cell) → slice_get new i ≡ Some d → (c : Cell) × (slice_get old i ≡ Some c) × (d.home ≡ c.home) × (d.value ≡ c.value) × (d.amount ≤ c.amount) × (d.stamp ≡ c.stamp)
  clear_from i d at =
      ⊎_elim
      (λ w. (d, sym (a.same i w) ∙ at, refl, refl, (let z : d.amount ≤ d.amount = omega arith in z), refl))
      (λ w. let c = a.cleared i w.0 w.1 in let q = some_same (slice_get new i) d (cleared c.0) at c.5 in
      let m = ap (λ (x : Cell). x.amount) q in
      (c.0, c.1, ap (λ (x : Cell). x.home) q, ap (λ (x : Cell). x.value) q, (let z : d.amount ≤ c.0.amount = omega (arith, m) in z), ap (λ (x : Cell). x.stamp) q))
      (where_is i)

  clear_to : (i : ℕ) (c : Cell) → slice_get old i ≡ Some c → (d : Cell) × (slice_get new i ≡ Some d) × (c.stamp ≤ d.stamp)
  clear_to i c at =
      ⊎_elim
      (λ w. (c, a.same i w ∙ at, (let z : c.stamp ≤ c.stamp = omega arith in z)))
      (λ w. let x = a.cleared i w.0 w.1 in
      let q = ap (λ (y : Cell). y.stamp) (some_same (slice_get old i) c x.0 at x.1) in
      (cleared x.0, x.5, (let z : c.stamp ≤ x.0.stamp = omega (arith, q) in z)))
      (where_is i)

  pub clear_sound : IsSound new fs border last
  clear_sound = record {
    most = λ i d at. let x = clear_from i d at in let m = s.most i x.0 x.1 in let q = x.4 in omega (arith, m, q);
    placed = placed_later old new (λ i d at. let x = clear_from i d at in let q = x.5 in (x.0, x.1, x.2, x.3, (let z : x.0.stamp ≤ d.stamp = omega (arith, q) in z))) s.placed;
    stamped = λ i d at. let x = clear_from i d at in let m = s.stamped i x.0 x.1 in let q = x.5 in omega (arith, m, q);
    nested = s.nested;
    bounded = s.bounded;
    lent = lent_later old new fs clear_to s.lent;
    spare = s.spare;
  }

-- a block is made
module _ (old new : List Cell) (fs : List Fork) (border last n : ℕ) (s : IsSound old fs border last) (g : HasGrown old new border n) where
  -- an old cell, or a new one
  cell_cases : (i : ℕ) (d : Cell) → slice_get new i ≡ Some d → ((i < length old) × (slice_get old i ≡ Some d)) ⊎ ((length old ≤ i) × (i ≤ length old + n) × (d.home ≡ length old) × (d.amount ≡ whole) × (d.stamp ≡ border))
  cell_cases i d at =
      ⊎_elim
      (λ (w : i < length old). inl (w, sym (g.front i w) ∙ at))
      (λ (w : length old ≤ i).
      let l = slice_get_within new i d at in let k = g.len in
      let le : i ≤ length old + n = omega (arith, l, k) in
      ⊎_elim
      (λ e. let q = some_same (slice_get new i) d (new_name (length old) n border) at (ap (slice_get new) e.1 ∙ g.name) in
      inr (w, le, ap (λ (x : Cell). x.home) q, ap (λ (x : Cell). x.amount) q, ap (λ (x : Cell). x.stamp) q))
      (λ e. let ne = e.1 in
      let lt : length old < i = lt_ne (length old) i w (λ q. ne (sym q)) in
      let q = some_same (slice_get new i) d (new_word (length old) border) at (g.words i lt le) in
      inr (w, le, ap (λ (x : Cell). x.home) q, ap (λ (x : Cell). x.amount) q, ap (λ (x : Cell). x.stamp) q))
      (eqb_tells i (length old)))
      (let o : (i < length old) ⊎ (length old ≤ i) = grind arith in o)
    where
      lt_ne : (x y : ℕ) → x ≤ y → (x ≢ y) → x < y
      lt_ne x y l m = ⊎_elim (λ (q : x < y). q) (λ (q : x ≡ y). absurd (m q)) (let o : (x < y) ⊎ (x ≡ y) = grind arith in o)

  grow_young : (i : ℕ) → length old ≤ i → IsYoung border (slice_get new i)
  grow_young i le = by (slice_get new i) refl
    where
      by : (o : Option Cell) → slice_get new i ≡ o → IsYoung border (slice_get new i)
      by None e = young_absent border i new e
      by (Some d) e = young_some border i new d e
          (⊎_elim (λ w. let lt = w.0 in absurd (let z : ⊥ = omega (arith, lt, le) in z)) (λ w. let q = w.4 in let z : border ≤ d.stamp = omega (arith, q) in z) (cell_cases i d e))

  grow_quiet : Quiet border fs old new
  grow_quiet i =
      ⊎_elim
      (λ (w : i < length old). inl (g.front i w))
      (λ (w : length old ≤ i). inr (absent_alone old fs i s.lent (past old i w), young_absent border i old (past old i w), grow_young i w))
      (let o : (i < length old) ⊎ (length old ≤ i) = grind arith in o)

  pub grow_levels : levels new fs [] ≡ levels old fs []
  grow_levels = quiet_levels border old new fs [] 0 s.nested grow_quiet

  grow_placed : IsPlaced new
  grow_placed i c m at name home =
      ⊎_elim
      (λ x. ⊎_elim
      (λ y. s.placed i c m x.1 y.1 home)
      (λ y. let a = x.0 in let b = y.0 in let z : i ≤ c.home + m.value = omega (arith, a, b) in z)
      (cell_cases c.home m name))
      (λ x. let v = ap (λ (d : Cell). d.value) (some_same (slice_get new c.home) m (new_name (length old) n border) name (ap (slice_get new) x.2 ∙ g.name)) in
      let a = x.1 in let h = x.2 in let z : i ≤ c.home + m.value = omega (arith, v, a, h) in z)
      (cell_cases i c at)

  pub grow_sound : IsSound new fs border last
  grow_sound = record {
    most = λ i d at. ⊎_elim
        (λ w. s.most i d w.1)
        (λ w. let q = w.3 in let l = absent_alone old fs i s.lent (past old i w.0) in let z : d.amount + lent_of fs i ≤ whole = omega (arith, q, l) in z)
        (cell_cases i d at);
    placed = grow_placed;
    stamped = λ i d at. ⊎_elim
        (λ w. s.stamped i d w.1)
        (λ w. let q = w.4 in let b = s.bounded in let z : d.stamp ≤ last = omega (arith, q, b) in z)
        (cell_cases i d at);
    nested = s.nested;
    bounded = s.bounded;
    lent = lent_later old new fs (λ i c at. (c, g.front i (slice_get_within old i c at) ∙ at, (let z : c.stamp ≤ c.stamp = omega arith in z))) s.lent;
    spare = s.spare;
  }
