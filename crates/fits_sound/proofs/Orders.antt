-- Hands name entries in any order.
use Rattle.std.proofs.Common.{◌≡◌, ℕ, Bool, true, false, ◌&&◌, ◌||◌, List, [], ◌∷◌, map, refl, sym, ap, ◌∙◌, subst, eqb, eq-eqb, ◌⊎◌, ⊎_elim, inl, inr}
use Rattle.std.proofs.lemmas.Bool.{and_parts, cond_both}
use Rattle.std.specs.Prelude.{Option, Some, None, slice_index}
use Rattle.target_code.specs.declared.tree.Hand.{Hand}
use Rattle.target_code.specs.declared.tree.Rep.{Rep}
use Rattle.target_code.specs.declared.tree.Rep.TheVariants as rep
use Rattle.target_meaning.specs.Leaf.{Part, parts_of, span_of}
use Rattle.target_meaning.specs.Machine.{Heap}
use Rattle.target_meaning.specs.Piece.{Piece, plus}
use Rattle.target_meaning.specs.Held.{Take, is_among, same_span}
use Rattle.target_meaning.proofs.Shares.{plus-comm, plus-assoc}
use Rattle.triple_logic.specs.Parts.{pieces_of}
use Rattle.layout_facts.specs.Footprints.{first_word, span_in}
use Rattle.rule_check.specs.Context.{Hold}
use Rattle.fits.specs.Places.{Token, Entry, has_token}
use Rattle.fits.specs.Follow as follow
use Rattle.fits.specs.Follow.{behind, hand_is, hands_are, named_by, on_named, span_is}
use Rattle.fits_sound.specs.Meant.{Dyn, word, Known}
use Rattle.fits_sound.proofs.Basic.{has_is, some_is}
use Rattle.fits_sound.proofs.Forks.{All_full, All_least, parts_in}
use Rattle.fits_sound.proofs.Sharing.{part_of, Off, All_ready, Away, Pairs, Outs, named}

-- an entry is taken out, and these are left
abbrev pub Taken : Entry → List Entry → List Entry → Type 0
Taken e rest [] = ⊥
Taken e rest (d ∷ es) = ((d ≡ e) × (rest ≡ es)) ⊎ ((more : List Entry) × (rest ≡ d ∷ more) × Taken e more es)

-- the same entries, in some order
abbrev pub Order : List Entry → List Entry → Type 0
Order [] es = es ≡ []
Order (e ∷ xs) es = (rest : List Entry) × Taken e rest es × Order xs rest

module _ (D : Dyn) (hold : ℕ → Hold) (h : Heap) where
  -- what is so of each of them, by its own
  module _ (P : Entry → Type 0) (All : List Entry → Type 0) (none : All []) (cons : (e : Entry) (es : List Entry) → P e → All es → All (e ∷ es)) (head : (e : Entry) (es : List Entry) → All (e ∷ es) → P e) (tail : (e : Entry) (es : List Entry) → All (e ∷ es) → All es) where
    taken_all : (e : Entry) (rest es : List Entry) → Taken e rest es → All es → P e × All rest
    taken_all e rest [] t a = absurd t
    taken_all e rest (d ∷ es) t a =
        ⊎_elim (λ q. (subst P q.0 (head d es a), subst All (sym q.1) (tail d es a)))
        (λ q. let k = taken_all e q.0 es q.2 (tail d es a) in (k.0, subst All (sym q.1) (cons d q.0 (head d es a) k.1))) t

    pub order_all : (xs es : List Entry) → Order xs es → All es → All xs
    order_all [] es o a = none
    order_all (e ∷ xs) es o a =
        let k = taken_all e o.0 es o.1 a in
        cons e xs k.0 (order_all xs o.0 o.2 k.1)

  taken_away : (d e : Entry) (rest es : List Entry) → Taken e rest es → Away D hold h d es → Off D hold h d e × Off D hold h e d × Away D hold h d rest
  taken_away d e rest [] t a = absurd t
  taken_away d e rest (c ∷ es) t a =
      ⊎_elim (λ q. (subst (Off D hold h d) q.0 a.0, subst (λ y. Off D hold h y d) q.0 a.1, subst (Away D hold h d) (sym q.1) a.2))
      (λ q. let k = taken_away d e q.0 es q.2 a.2 in (k.0, k.1, subst (Away D hold h d) (sym q.1) (a.0, a.1, k.2))) t

  taken_pairs : (e : Entry) (rest es : List Entry) → Taken e rest es → Pairs D hold h es → Away D hold h e rest × Pairs D hold h rest
  taken_pairs e rest [] t p = absurd t
  taken_pairs e rest (d ∷ es) t p =
      ⊎_elim (λ q. (subst (λ y. Away D hold h y rest) q.0 (subst (Away D hold h d) (sym q.1) p.0), subst (Pairs D hold h) (sym q.1) p.1))
      (λ q.
      let k = taken_pairs e q.0 es q.2 p.1 in
      let a = taken_away d e q.0 es q.2 p.0 in
      (subst (Away D hold h e) (sym q.1) (a.1, a.0, k.0), subst (Pairs D hold h) (sym q.1) (a.2, k.1))) t

  away_order : (e : Entry) (xs es : List Entry) → Order xs es → Away D hold h e es → Away D hold h e xs
  away_order e [] es o a = tt
  away_order e (x ∷ xs) es o a =
      let k = taken_away e x o.0 es o.1 a in
      (k.0, k.1, away_order e xs o.0 o.2 k.2)

  pub order_pairs : (xs es : List Entry) → Order xs es → Pairs D hold h es → Pairs D hold h xs
  order_pairs [] es o p = tt
  order_pairs (e ∷ xs) es o p =
      let k = taken_pairs e o.0 es o.1 p in
      (away_order e xs o.0 o.2 k.0, order_pairs xs o.0 o.2 k.1)

  turn : (q x y : Piece) → plus q (plus x y) ≡ plus x (plus q y)
  turn q x y = sym (plus-assoc q x y) ∙ ap (λ z. plus z y) (plus-comm q x) ∙ plus-assoc x q y

  taken_sum : (all : Bool) (G : ℕ → Piece) (e : Entry) (rest es : List Entry) → Taken e rest es → plus (G e.var) (pieces_of (named D hold h all G rest)) ≡ pieces_of (named D hold h all G es)
  taken_sum all G e rest [] t = absurd t
  taken_sum all G e rest (d ∷ es) t =
      ⊎_elim (λ q. ap (λ y. plus (G e.var) (pieces_of (named D hold h all G y))) q.1 ∙ ap (λ y. plus (G y.var) (pieces_of (named D hold h all G es))) (sym q.0))
      (λ q.
      ap (λ y. plus (G e.var) (pieces_of (named D hold h all G y))) q.1 ∙ turn (G e.var) (G d.var) (pieces_of (named D hold h all G q.0)) ∙
      ap (plus (G d.var)) (taken_sum all G e q.0 es q.2)) t

  pub order_sum : (all : Bool) (G : ℕ → Piece) (xs es : List Entry) → Order xs es → pieces_of (named D hold h all G xs) ≡ pieces_of (named D hold h all G es)
  order_sum all G [] es o = ap (λ y. pieces_of (named D hold h all G y)) (sym o)
  order_sum all G (e ∷ xs) es o = ap (plus (G e.var)) (order_sum all G xs o.0 o.2) ∙ taken_sum all G e o.0 es o.1

  -- ---- each property

  pub order_ready : (xs es : List Entry) → Order xs es → All_ready D hold h es → All_ready D hold h xs
  order_ready = order_all _ (All_ready D hold h) tt (λ e es p a. (p, a)) (λ e es a. a.0) (λ e es a. a.1)

  pub order_full : (G : ℕ → Piece) (xs es : List Entry) → Order xs es → All_full D G es → All_full D G xs
  order_full G = order_all _ (All_full D G) tt (λ e es p a. (p, a)) (λ e es a. a.0) (λ e es a. a.1)

  pub order_least : (m : ℕ) (xs es : List Entry) → Order xs es → All_least m D es → All_least m D xs
  order_least m = order_all _ (All_least m D) tt (λ e es p a. (p, a)) (λ e es a. a.0) (λ e es a. a.1)

  pub order_outs : (r : Piece) (xs es : List Entry) → Order xs es → Outs D hold h es r → Outs D hold h xs r
  order_outs r = order_all _ (λ es. Outs D hold h es r) tt (λ e es p a. (p, a)) (λ e es a. a.0) (λ e es a. a.1)

-- ---- what a list of hands names

named_is : (toks : ℕ → Option Token) (k : Hand) (es : List Entry) (x : Entry × List Entry) → named_by toks k es ≡ Some x → Taken x.0 x.1 es × (hand_is toks k x.0 ≡ true)
named_is toks k [] x e = absurd (let z : ⊥ = cc e in z)
named_is toks k (d ∷ es) x e =
    cond_both {A = Option (Entry × List Entry)} (hand_is toks k d) (Some (d, es)) (behind d (named_by toks k es)) (λ y. y ≡ Some x → Taken x.0 x.1 (d ∷ es) × (hand_is toks k x.0 ≡ true))
    (λ w e. let q : (d, es) ≡ x = some_is (d, es) x e in (inl (ap (λ y. y.0) q, sym (ap (λ y. y.1) q)), subst (λ y. hand_is toks k y.0 ≡ true) q w))
    (λ w e. by (λ y eo. named_is toks k es y eo) (named_by toks k es) refl e) e
  where
    by : ((y : Entry × List Entry) → named_by toks k es ≡ Some y → Taken y.0 y.1 es × (hand_is toks k y.0 ≡ true)) → (o : Option (Entry × List Entry)) → named_by toks k es ≡ o → behind d o ≡ Some x → Taken x.0 x.1 (d ∷ es) × (hand_is toks k x.0 ≡ true)
    by ih None eo e = absurd (let z : ⊥ = cc e in z)
    by ih (Some y) eo e =
        let q : (y.0, d ∷ y.1) ≡ x = some_is (y.0, d ∷ y.1) x e in
        let n = ih y eo in
        subst (λ z. Taken z.0 z.1 (d ∷ es) × (hand_is toks k z.0 ≡ true)) q (inr (y.1, refl, n.0), n.1)

-- the code's hands are the parts of entries
pub record Handed (D : Dyn) (hold : ℕ → Hold) (h : Heap) (hs : List Hand) (regs : List ℕ) (es : List Entry) : Type 0 where
  pub entries : List Entry
  pub order : Order entries es
  pub parts : parts_of hs regs ≡ parts_in D hold h entries

module _ (D : Dyn) (hold : ℕ → Hold) (h : Heap) (toks : ℕ → Option Token) (n : ℕ) (regs : List ℕ) (k : Known toks n D regs) where
  span_same : (o : Option (ℕ × ℕ)) (x : Rep) (ws : List Token) → span_is toks o x ws ≡ true → span_of o regs ≡ span_in x (map (word D) ws)
  span_same (Some s) rep.Slice (t ∷ u ∷ z ∷ []) e =
      let a = and_parts (has_token (toks s.0) u) (has_token (toks s.1) z) e in
      ap (λ y. Some (y, slice_index regs s.1)) (k.is s.0 u (has_is (toks s.0) u a.0)) ∙ ap (λ y. Some (word D u, y)) (k.is s.1 z (has_is (toks s.1) z a.1))
  span_same (Some s) rep.Slice [] e = cc e
  span_same (Some s) rep.Slice (t ∷ []) e = cc e
  span_same (Some s) rep.Slice (t ∷ u ∷ []) e = cc e
  span_same (Some s) rep.Slice (t ∷ u ∷ z ∷ y ∷ ws) e = cc e
  span_same None rep.Slice ws e = cc e
  span_same None rep.Word ws e = refl
  span_same None rep.Flag ws e = refl
  span_same None rep.Array ws e = refl
  span_same None rep.Vec ws e = refl
  span_same None (rep.Bits u) ws e = refl
  span_same None rep.Hset ws e = refl
  span_same None (rep.Amap u) ws e = refl
  span_same None rep.Hmap ws e = refl
  span_same None rep.Heap ws e = refl
  span_same (Some s) rep.Word ws e = cc e
  span_same (Some s) rep.Flag ws e = cc e
  span_same (Some s) rep.Array ws e = cc e
  span_same (Some s) rep.Vec ws e = cc e
  span_same (Some s) (rep.Bits u) ws e = cc e
  span_same (Some s) rep.Hset ws e = cc e
  span_same (Some s) (rep.Amap u) ws e = cc e
  span_same (Some s) rep.Hmap ws e = cc e
  span_same (Some s) rep.Heap ws e = cc e

  first_same : (r : ℕ) (ws : List Token) → follow.first_word (toks r) ws ≡ true → slice_index regs r ≡ first_word (map (word D) ws)
  first_same r [] e = cc e
  first_same r (t ∷ ws) e = k.is r t (has_is (toks r) t e)

  part_same : (y : Hand) (d : Entry) → hand_is toks y d ≡ true → record { block = slice_index regs y.block; span = span_of y.span regs } ≡ part_of D d
  part_same y d e =
      let b = and_parts (follow.first_word (toks y.block) d.words) (span_is toks y.span d.shape.rep d.words) e in
      ap (λ z. record { block = slice_index regs y.block; span = z }) (span_same y.span d.shape.rep d.words b.1) ∙
      ap (λ z. record { block = z; span = span_in d.shape.rep (map (word D) d.words) }) (first_same y.block d.words b.0)

  pub handed : (hs : List Hand) (es : List Entry) → hands_are toks hs es ≡ true → Handed D hold h hs regs es
  handed [] [] e = record { entries = []; order = refl; parts = refl }
  handed [] (d ∷ es) e = absurd (let z : ⊥ = cc e in z)
  handed (y ∷ hs) es e = by (λ rest. handed hs rest) (named_by toks y es) refl e
    where
      by : ((rest : List Entry) → hands_are toks hs rest ≡ true → Handed D hold h hs regs rest) → (o : Option (Entry × List Entry)) → named_by toks y es ≡ o → on_named o (λ rest. hands_are toks hs rest) ≡ true → Handed D hold h (y ∷ hs) regs es
      by ih None eo e = absurd (let z : ⊥ = cc e in z)
      by ih (Some x) eo e =
          let w = named_is toks y es x eo in
          let m = ih x.1 e in
          record {
            entries = x.0 ∷ m.entries;
            order = (x.1, w.0, m.order);
            parts = ap (λ z. z ∷ parts_of hs regs) (part_same y x.0 w.1) ∙ ap (λ z. part_of D x.0 ∷ z) m.parts;
          }

-- ---- parts among those that are lent

abbrev pub All_in : List Part → List Part → Type 0
All_in [] ys = Unit {0}
All_in (x ∷ xs) ys = (is_among x ys ≡ true) × All_in xs ys

or_true : (a : Bool) → (a || true) ≡ true
or_true true = refl
or_true false = refl

all_in_more : (xs ys : List Part) (y : Part) → All_in xs ys → All_in xs (y ∷ ys)
all_in_more [] ys y a = tt
all_in_more (x ∷ xs) ys y a = (ap (λ b. ((eqb x.block y.block) && same_span x.span y.span) || b) a.0 ∙ or_true ((eqb x.block y.block) && same_span x.span y.span), all_in_more xs ys y a.1)

same_self : (o : Option (ℕ × ℕ)) → same_span o o ≡ true
same_self None = refl
same_self (Some s) = ap (λ b. b && eqb s.1 s.1) (eq-eqb s.0 s.0 refl) ∙ eq-eqb s.1 s.1 refl

pub rests_all : (xs ys : List Part) → All_in xs ys → map {B = Take} (λ p. record { part = p; all = is_among p ys }) xs ≡ map {B = Take} (λ p. record { part = p; all = true }) xs
rests_all [] ys a = refl
rests_all (x ∷ xs) ys a = ap (λ b. record { part = x; all = b } ∷ map {B = Take} (λ p. record { part = p; all = is_among p ys }) xs) a.0 ∙ ap (λ z. record { part = x; all = true } ∷ z) (rests_all xs ys a.1)

module _ (D : Dyn) (hold : ℕ → Hold) (h : Heap) where
  -- all parts of entries stand in a list of parts, in whatever order
  among_order : (ps : List Part) (xs es : List Entry) → Order xs es → All_in (parts_in D hold h es) ps → All_in (parts_in D hold h xs) ps
  among_order ps = order_all D hold h (λ e. is_among (part_of D e) ps ≡ true) (λ es. All_in (parts_in D hold h es) ps) tt (λ e es p a. (p, a)) (λ e es a. a.0) (λ e es a. a.1)

  abbrev In_parts : List Part → Entry → Type 0
  In_parts ps e = is_among (part_of D e) ps ≡ true

  among_more : (x y : Part) (ps : List Part) → is_among x ps ≡ true → is_among x (y ∷ ps) ≡ true
  among_more x y ps a = ap (λ b. ((eqb x.block y.block) && same_span x.span y.span) || b) a ∙ or_true ((eqb x.block y.block) && same_span x.span y.span)

  in_front : (x : Part) (ps : List Part) → is_among x (x ∷ ps) ≡ true
  in_front x ps = ap (λ b. (b && same_span x.span x.span) || is_among x ps) (eq-eqb x.block x.block refl) ∙ ap (λ b. b || is_among x ps) (same_self x.span)

  -- an entry that was taken out stands in front
  taken_in : (e : Entry) (rest es : List Entry) (ps : List Part) → Taken e rest es → All_in (parts_in D hold h rest) ps → All_in (parts_in D hold h es) (part_of D e ∷ ps)
  taken_in e rest [] ps t a = absurd t
  taken_in e rest (d ∷ es) ps t a =
      ⊎_elim (λ q.
      (subst (In_parts (part_of D e ∷ ps)) (sym q.0) (in_front (part_of D e) ps), all_in_more (parts_in D hold h es) ps (part_of D e) (subst (λ y. All_in (parts_in D hold h y) ps) q.1 a)))
      (λ q.
      let b = subst (λ y. All_in (parts_in D hold h y) ps) q.1 a in
      (among_more (part_of D d) (part_of D e) ps b.0, taken_in e q.0 es ps q.2 b.1)) t

  -- all entries stand among them in another order
  all_among : (xs es : List Entry) → Order xs es → All_in (parts_in D hold h es) (parts_in D hold h xs)
  all_among [] es o = subst (λ y. All_in (parts_in D hold h y) []) (sym o) tt
  all_among (e ∷ xs) es o = taken_in e o.0 es (parts_in D hold h xs) o.1 (all_among xs o.0 o.2)

  -- the right gets all that is left of what was lent to the left, in whatever order both name it
  pub lend_rests : (xs ys es : List Entry) → Order xs es → Order ys es → map {B = Take} (λ p. record { part = p; all = is_among p (parts_in D hold h xs) }) (parts_in D hold h ys) ≡ map {B = Take} (λ p. record { part = p; all = true }) (parts_in D hold h ys)
  lend_rests xs ys es ox oy = rests_all (parts_in D hold h ys) (parts_in D hold h xs) (among_order (parts_in D hold h xs) ys es oy (all_among xs es ox))
