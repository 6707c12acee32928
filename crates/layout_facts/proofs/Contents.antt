-- What a piece with known contents is, and what lies in its part.
use Rattle.std.proofs.Common.{◌≡◌, ℕ, zero, suc, ◌+◌, ◌-◌, ◌/◌, ◌<◌, ◌≤◌, Bool, true, false, cond, ◌&&◌, List, length, refl, sym, ap, ◌∙◌, subst, arith, eqb, eqb-true, ⊎_elim, ◌⊎◌, nat_lt, nat_le, ltb-true, leb-true}
use Rattle.std.proofs.lemmas.Bool.{cond-true, cond-false, and_parts, le-ltb, lt-ltb, le-leb}
use Rattle.std.proofs.lemmas.Bool.Decides.{eqb_tells}
use Rattle.std.proofs.Math.Path.{fun_ext}
use Rattle.std.specs.Prelude.{Option, Some, None, slice_get, slice_index}
use Rattle.target_meaning.specs.Machine.{Heap, Cell, Never, Live, Freed}
use Rattle.target_meaning.specs.Piece.{whole, Share, Nil, Some_of, Clash, Piece, none, plus, at_place, Fits, Holds, share_of, half, rest, IsWhole, IsAllWhole, AreDisjoint}
use Rattle.target_meaning.specs.Held.{in_part, in_span, IsHeld, Places, Spanned}
use Rattle.target_meaning.proofs.Lists.{get_past}
use Rattle.target_meaning.proofs.Shares.{fits_left, fits_right}
use Rattle.target_meaning.proofs.Keeps.{none_here}
use Rattle.triple_logic.specs.Blocks as whole_blocks
use Rattle.triple_logic.specs.Parts.{Inside, Outside, AtLeast, half_of, rest_of}
use Rattle.triple_logic.specs.Sample.{HasValue}
use Rattle.triple_logic.proofs.Blocks.{get_some}
use Rattle.relations.specs.Blocks.{Contents, nothing, block, in_range, range, Has, Exactly, wholly, whole_piece}
use Rattle.relations.proofs.Layouts.{block_here}
use Rattle.layout_facts.specs.Footprints.{Footprint, Empty, Block_of, Range_of, contents, footprint_part, Keeps}

-- ---- shares

pub has_nil : (x : Share) (o : Option ℕ) → Has x o → o ≡ None → x ≡ Nil
has_nil x o h e = subst (Has x) e h

pub has_none : (x : Share) (o : Option ℕ) → Has x o → x ≡ Nil → o ≡ None
has_none x None h e = refl
has_none x (Some v) h e = absurd (let d : Nil ≡ Some_of v h.0 = sym e ∙ h.2 in cc d)

pub has_held : (x : Share) (v : ℕ) → Has x (Some v) → IsHeld x
has_held x v h = subst IsHeld (sym h.2) tt

pub has_value : (x : Share) (v : ℕ) → Has x (Some v) → HasValue x v
has_value x v h = subst (λ y. HasValue y v) (sym h.2) refl

has_fits : (x : Share) (v : ℕ) (o : Option ℕ) → Has x (Some v) → Fits x o → o ≡ Some v
has_fits x v o h f = (let g : Fits (Some_of v h.0) o = subst (λ y. Fits y o) h.2 f in g).0

has_whole : (x : Share) (o : Option ℕ) → Has x o → (x ≡ Nil) ⊎ IsWhole x → x ≡ wholly o
has_whole x None h w = h
has_whole x (Some v) h w =
    ⊎_elim
    (λ e. absurd (let d : Nil ≡ Some_of v h.0 = sym e ∙ h.2 in cc d))
    (λ q. let z : suc h.0 ≡ whole = subst IsWhole h.2 q in let y : h.0 ≡ whole - 1 = omega (arith, z) in h.2 ∙ ap (Some_of v) y) w

-- ---- any contents

pub exact_kept : (f : Contents) (p q : Piece) → Keeps p q → Exactly f p → Exactly f q
exact_kept f p q k e b j = k b j (f b j) (e b j)

pub exact_whole : (f : Contents) (p : Piece) → Exactly f p → IsAllWhole p → p ≡ whole_piece f
exact_whole f p e w = fun_ext (λ b. fun_ext (λ j. has_whole (p b j) (f b j) (e b j) (w b j)))

pub exact_nothing : (p : Piece) → Exactly nothing p → p ≡ none
exact_nothing p e = fun_ext (λ b. fun_ext (λ j. e b j))

-- half of each share, and the other half, where none is less than 2
half_has : (x : Share) (o : Option ℕ) → AtLeast 2 x → Has x o → Has (half x) o
half_has x None l h = ap half h
half_has x (Some v) l h =
    let at : 2 ≤ suc h.0 = subst (AtLeast 2) h.2 l in
    subst (λ y. Has (half y) (Some v)) (sym h.2) (sized v (suc h.0 / 2) (omega (arith, at)) (let lt = h.1 in omega (arith, lt)))
  where
    sized : (v k : ℕ) → 1 ≤ k → k ≤ whole → Has (share_of v k) (Some v)
    sized v zero a b = absurd (let z : ⊥ = omega (arith, a) in z)
    sized v (suc k) a b = (k, omega (arith, b), refl)

rest_has : (x : Share) (o : Option ℕ) → AtLeast 2 x → Has x o → Has (rest x) o
rest_has x None l h = ap rest h
rest_has x (Some v) l h =
    let at : 2 ≤ suc h.0 = subst (AtLeast 2) h.2 l in
    subst (λ y. Has (rest y) (Some v)) (sym h.2) (sized v (suc h.0 - suc h.0 / 2) (omega (arith, at)) (let lt = h.1 in omega (arith, lt)))
  where
    sized : (v k : ℕ) → 1 ≤ k → k ≤ whole → Has (share_of v k) (Some v)
    sized v zero a b = absurd (let z : ⊥ = omega (arith, a) in z)
    sized v (suc k) a b = (k, omega (arith, b), refl)

pub keeps_itself : (p : Piece) → Keeps p p
keeps_itself p b j o h = h

pub half_keeps : (p : Piece) → ((b j : ℕ) → AtLeast 2 (p b j)) → Keeps p (half_of p)
half_keeps p l b j o h = half_has (p b j) o (l b j) h

pub rest_keeps : (p : Piece) → ((b j : ℕ) → AtLeast 2 (p b j)) → Keeps p (rest_of p)
rest_keeps p l b j o h = rest_has (p b j) o (l b j) h

-- ---- a block

pub block_off : (b : ℕ) (ws : List ℕ) (c j : ℕ) → eqb c b ≡ false → block b ws c j ≡ None
block_off b ws c j e = cond-false (eqb c b) (at_place (Live ws) j) None e

module _ (b : ℕ) (ws : List ℕ) (p : Piece) (e : Exactly (block b ws) p) where
  pub name_has : Has (p b 0) (Some (length ws))
  name_has = subst (Has (p b 0)) (block_here b ws 0) (e b 0)

  pub word_has : (i : ℕ) → i < length ws → Has (p b (suc i)) (Some (slice_index ws i))
  word_has i lt = subst (Has (p b (suc i))) (block_here b ws (suc i) ∙ get_some ws i lt) (e b (suc i))

  pub past_nil : (i : ℕ) → length ws ≤ i → p b (suc i) ≡ Nil
  past_nil i le = has_nil (p b (suc i)) _ (e b (suc i)) (block_here b ws (suc i) ∙ get_past ws i le)

  -- words are read by their values, whatever the shares
  pub block_reads : whole_blocks.Reads b 0 ws p
  block_reads i lt = has_value (p b (suc (0 + i))) (slice_index ws i) (subst (λ k. Has (p b (suc k)) (Some (slice_index ws i))) (let z : i ≡ 0 + i = omega arith in z) (word_has i lt))

-- a block that is held whole is the block of triple_logic
pub wholly_is : (ws : List ℕ) (j : ℕ) → wholly (at_place (Live ws) j) ≡ whole_blocks.block_share ws j
wholly_is ws zero = refl
wholly_is ws (suc i) = by (slice_get ws i)
  where
    by : (o : Option ℕ) → wholly o ≡ whole_blocks.held_word o
    by None = refl
    by (Some v) = refl

pub block_is : (b : ℕ) (ws : List ℕ) (p : Piece) → Exactly (block b ws) p → IsAllWhole p → p ≡ whole_blocks.block b ws
block_is b ws p e w = exact_whole (block b ws) p e w ∙ fun_ext (λ c. fun_ext (λ j. at c j (eqb c b) refl))
  where
    at : (c j : ℕ) (t : Bool) → eqb c b ≡ t → wholly (cond (eqb c b) (at_place (Live ws) j) None) ≡ cond (eqb c b) (whole_blocks.block_share ws j) Nil
    at c j true z = ap wholly (cond-true (eqb c b) (at_place (Live ws) j) None z) ∙ wholly_is ws j ∙ sym (cond-true (eqb c b) (whole_blocks.block_share ws j) Nil z)
    at c j false z = ap wholly (cond-false (eqb c b) (at_place (Live ws) j) None z) ∙ sym (cond-false (eqb c b) (whole_blocks.block_share ws j) Nil z)

-- ---- a range

pub range_here : (b off : ℕ) (ws : List ℕ) (j : ℕ) → range b off ws b j ≡ in_range off ws j
range_here b off ws j = cond-true (eqb b b) (in_range off ws j) None (let z : eqb b b ≡ true = eqb_same b in z)
  where
    eqb_same : (b : ℕ) → eqb b b ≡ true
    eqb_same b = ⊎_elim (λ k. k.0) (λ k. absurd (k.1 refl)) (eqb_tells b b)

pub range_word : (off : ℕ) (ws : List ℕ) (i : ℕ) → off ≤ i → in_range off ws (suc i) ≡ slice_get ws (i - off)
range_word off ws i le = cond-false (nat_lt i off) None (slice_get ws (i - off)) (le-ltb i off le)

pub range_before : (off : ℕ) (ws : List ℕ) (i : ℕ) → i < off → in_range off ws (suc i) ≡ None
range_before off ws i lt = cond-true (nat_lt i off) None (slice_get ws (i - off)) (lt-ltb i off lt)

pub range_past : (off : ℕ) (ws : List ℕ) (i : ℕ) → off + length ws ≤ i → in_range off ws (suc i) ≡ None
range_past off ws i le = range_word off ws i (omega (arith, le)) ∙ get_past ws (i - off) (omega (arith, le))

module _ (b off : ℕ) (ws : List ℕ) (p : Piece) (e : Exactly (range b off ws) p) where
  pub range_has : (i : ℕ) → off ≤ i → i < off + length ws → Has (p b (suc i)) (Some (slice_index ws (i - off)))
  range_has i lo hi =
      subst (Has (p b (suc i))) (range_here b off ws (suc i) ∙ range_word off ws i lo ∙ get_some ws (i - off) (omega (arith, lo, hi))) (e b (suc i))

  pub range_reads : whole_blocks.Reads b off ws p
  range_reads i lt =
      has_value (p b (suc (off + i))) (slice_index ws i)
      (subst (λ k. Has (p b (suc (off + i))) (Some (slice_index ws k))) (let z : (off + i) - off ≡ i = omega arith in z) (range_has (off + i) (omega arith) (omega (arith, lt))))

-- ---- parts

-- nothing lies outside the part
part_nothing : (s : Footprint) (b j : ℕ) → in_part (footprint_part s) b j ≡ false → contents s b j ≡ None
part_nothing Empty b j o = refl
part_nothing (Block_of c ws) b j o = block_off c ws b j (off (eqb b c) o)
  where
    off : (t : Bool) → t && true ≡ false → t ≡ false
    off true e = e
    off false e = refl
part_nothing (Range_of c off ws) b j o = at (eqb b c) refl
  where
    place : (j : ℕ) → in_span (Some (off, length ws)) j ≡ false → in_range off ws j ≡ None
    place zero e = refl
    place (suc i) e =
        ⊎_elim (λ lt. range_before off ws i lt)
        (λ k. ⊎_elim (λ le. range_past off ws i le) (λ hi. absurd (let z : true ≡ false = sym (inside i k hi) ∙ e in cc z)) (let y : (off + length ws ≤ i) ⊎ (i < off + length ws) = grind arith in y))
        (let y : (i < off) ⊎ (off ≤ i) = grind arith in y)
      where
        inside : (i : ℕ) → off ≤ i → i < off + length ws → in_span (Some (off, length ws)) (suc i) ≡ true
        inside i lo hi = ap (λ t. t && nat_le (suc i) (off + length ws)) (lt-ltb off (suc i) (omega (arith, lo))) ∙ le-leb (suc i) (off + length ws) (omega (arith, hi))

    at : (t : Bool) → eqb b c ≡ t → range c off ws b j ≡ None
    at true e = cond-true (eqb b c) (in_range off ws j) None e ∙ place j (sym (ap (λ t. t && in_span (Some (off, length ws)) j) e) ∙ o)
    at false e = cond-false (eqb b c) (in_range off ws j) None e

pub exact_inside : (s : Footprint) (p : Piece) → Exactly (contents s) p → Inside (footprint_part s) p
exact_inside s p e b j o = has_nil (p b j) (contents s b j) (e b j) (part_nothing s b j o)

-- each place of the part is held
pub exact_full : (s : Footprint) (p : Piece) (P : ℕ → Type 0) → Exactly (contents s) p → ((j : ℕ) → IsHeld (p (footprint_part s).block j) → P j) → Places (footprint_part s) p P
exact_full Empty p P e f = λ i lo hi. absurd (let z : ⊥ = omega (arith, lo, hi) in z)
exact_full (Block_of b ws) p P e f = by (p b 0) (name_has b ws p e)
  where
    by : (x : Share) → Has x (Some (length ws)) → Spanned None x P
    by Nil h = absurd (let d : Nil ≡ Some_of (length ws) h.0 = h.2 in cc d)
    by Clash h = absurd (let d : Clash ≡ Some_of (length ws) h.0 = h.2 in cc d)
    by (Some_of n k) h =
        let d : Some_of n k ≡ Some_of (length ws) h.0 = h.2 in let en : n ≡ length ws = cc d in (
          f 0 (has_held (p b 0) (length ws) (name_has b ws p e)),
          λ i lt. f (suc i) (has_held (p b (suc i)) (slice_index ws i) (word_has b ws p e i (subst (λ y. i < y) en lt))),
        )
exact_full (Range_of b off ws) p P e f = λ i lo hi. f (suc i) (has_held (p b (suc i)) (slice_index ws (i - off)) (range_has b off ws p e i lo hi))

-- nothing of the part is in a piece beside it, where a heap has both
pub exact_outside : (s : Footprint) (p q : Piece) (h : Heap) → Exactly (contents s) p → AreDisjoint p q → Holds (plus p q) h → Outside (footprint_part s) q
exact_outside Empty p q h e a hs c j w = absurd (let z = and_parts (eqb c 0) (nat_lt 0 j && nat_le j 0) w in let y = and_parts (nat_lt 0 j) (nat_le j 0) z.1 in none_in j (ltb-true 0 j y.0) (leb-true j 0 y.1))
  where
    none_in : (j : ℕ) → 0 < j → j ≤ 0 → ⊥
    none_in j a b = omega (arith, a, b)
exact_outside (Block_of b ws) p q h e a hs c j w = subst (λ y. q y j ≡ Nil) (sym (eqb-true c b (and_parts (eqb c b) true w).0)) (at j)
  where
    beside : (j v : ℕ) → Has (p b j) (Some v) → q b j ≡ Nil
    beside j v hv = ⊎_elim (λ n. absurd (let d : Nil ≡ Some_of v hv.0 = sym n ∙ hv.2 in cc d)) (λ n. n) (a b j)

    beyond : (c : Cell) (i : ℕ) → at_place c 0 ≡ Some (length ws) → length ws ≤ i → at_place c (suc i) ≡ None
    beyond Never i z le = refl
    beyond Freed i z le = refl
    beyond (Live us) i z le = get_past us i (let n : length us ≡ length ws = cc z in omega (arith, n, le))

    cell : at_place (h.cells b) 0 ≡ Some (length ws)
    cell = has_fits (p b 0) (length ws) (at_place (h.cells b) 0) (name_has b ws p e) (fits_left (p b 0) (q b 0) (at_place (h.cells b) 0) (hs.places b 0))

    at : (j : ℕ) → q b j ≡ Nil
    at zero = beside 0 (length ws) (name_has b ws p e)
    at (suc i) =
        ⊎_elim (λ lt. beside (suc i) (slice_index ws i) (word_has b ws p e i lt))
        (λ le. none_here (q b (suc i)) (subst (λ o. Fits (q b (suc i)) o) (beyond (h.cells b) i cell le) (fits_right (p b (suc i)) (q b (suc i)) (at_place (h.cells b) (suc i)) (hs.places b (suc i)))))
        (let o : (i < length ws) ⊎ (length ws ≤ i) = grind arith in o)
exact_outside (Range_of b off ws) p q h e a hs c j w =
    let z = and_parts (eqb c b) (nat_lt off j && nat_le j (off + length ws)) w in
    let y = and_parts (nat_lt off j) (nat_le j (off + length ws)) z.1 in
    subst (λ k. q k j ≡ Nil) (sym (eqb-true c b z.0)) (at j (ltb-true off j y.0) (leb-true j (off + length ws) y.1))
  where
    at : (j : ℕ) → off < j → j ≤ off + length ws → q b j ≡ Nil
    at zero lo hi = absurd (let z : ⊥ = omega (arith, lo) in z)
    at (suc i) lo hi =
        let hv = range_has b off ws p e i (omega (arith, lo)) (omega (arith, hi)) in
        ⊎_elim (λ n. absurd (let d : Nil ≡ Some_of (slice_index ws (i - off)) hv.0 = sym n ∙ hv.2 in cc d)) (λ n. n) (a b (suc i))
