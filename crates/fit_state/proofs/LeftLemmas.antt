-- Containers that are left, by places.
use Rattle.std.proofs.Common.{◌≡◌, ◌≤◌, ◌<◌, inl, inr, ℕ, zero, suc, Bool, true, false, cond, ◌&&◌, ◌||◌, not, List, [], ◌∷◌, length, refl, sym, ap, ◌∙◌, nat_eq, nat_lt, arith}
use Rattle.std.proofs.lemmas.Bool.{true≢false, eq-eqb, ne_eqb, ltb-true, ltb-false, lt-ltb, le-ltb}
use Rattle.std.specs.Prelude.{Option, Some, None}
use Rattle.bare_holds.specs.Bare.{bare_holds}
use Rattle.bind_laws.proofs.Goings.{goners_at}
use Rattle.context_laws.specs.Stacks.{spot_in}
use Rattle.entry_falls.specs.Falls.{Fell, AllFell}
use Rattle.fit_state.proofs.InfosLemmas.{SameSpot, same_spot, first_same, others_same}
use Rattle.fit_state.specs.Left.{is_left, none_at, none_below, is_past, IsLeftBelow}
use Rattle.fits.specs.Places.{Entry, spot_of, spots_of, goners, none_left}
use Rattle.rule_check.specs.Context.{Hold, Gone, Spot, is_container, is_gone, is_among}

-- ---- the walk over places

not_left : (gone : List ℕ) (s : Spot) (b : Bool) → is_left gone s ≡ false → (not (is_left gone s) && b) ≡ b
not_left gone s b e = ap (λ c. not c && b) e

pub past_here : (mark : ℕ) (gone : List ℕ) (o : Option Spot) (s : Spot) → o ≡ Some s → nat_lt s.var mark ≡ false → is_left gone s ≡ false → is_past mark gone o ≡ true
past_here mark gone o s e a b = ap (is_past mark gone) e ∙ ap (λ c. not c && not (is_left gone s)) a ∙ ap (λ c. true && not c) b

pub none_here : (ss : List Spot) (mark : ℕ) (gone : List ℕ) (n : ℕ) (s : Spot) → spot_in ss n ≡ Some s → nat_lt s.var mark ≡ false → is_left gone s ≡ false → none_below ss mark gone (suc n) ≡ none_below ss mark gone n
none_here ss mark gone n s e a b =
    ap (λ o. none_at mark gone o (none_below ss mark gone n)) e ∙ ap (λ c. cond c true (not (is_left gone s) && none_below ss mark gone n)) a ∙ not_left gone s (none_below ss mark gone n) b

pub none_older : (ss : List Spot) (mark : ℕ) (gone : List ℕ) (n : ℕ) (s : Spot) → spot_in ss n ≡ Some s → nat_lt s.var mark ≡ true → none_below ss mark gone (suc n) ≡ true
none_older ss mark gone n s e a = ap (λ o. none_at mark gone o (none_below ss mark gone n)) e ∙ ap (λ c. cond c true (not (is_left gone s) && none_below ss mark gone n)) a

pub none_out : (ss : List Spot) (mark : ℕ) (gone : List ℕ) (n : ℕ) → spot_in ss n ≡ None → none_below ss mark gone (suc n) ≡ true
none_out ss mark gone n e = ap (λ o. none_at mark gone o (none_below ss mark gone n)) e

pub left_here : (ss : List Spot) (mark : ℕ) (gone : List ℕ) (n : ℕ) (s : Spot) → spot_in ss n ≡ Some s → nat_lt s.var mark ≡ false → is_left gone s ≡ true → none_below ss mark gone (suc n) ≡ false
left_here ss mark gone n s e a b =
    ap (λ o. none_at mark gone o (none_below ss mark gone n)) e ∙ ap (λ c. cond c true (not (is_left gone s) && none_below ss mark gone n)) a ∙ ap (λ c. not c && none_below ss mark gone n) b

-- places that were passed
abbrev pub AllPast : List Spot → ℕ → List ℕ → ℕ → ℕ → Type 0
AllPast ss mark gone low high = (n : ℕ) → low ≤ n → n < high → is_past mark gone (spot_in ss n) ≡ true

pub past_more : (ss : List Spot) (mark : ℕ) (gone : List ℕ) (low high : ℕ) → AllPast ss mark gone (suc low) high → is_past mark gone (spot_in ss low) ≡ true → AllPast ss mark gone low high
past_more ss mark gone low high a p n l h = pick (nat_eq low n) refl
  where
    above : (a b : ℕ) → nat_eq a b ≡ false → a ≤ b → suc a ≤ b
    above a b e l = grind arith

    at_low : (a b : ℕ) → nat_eq a b ≡ true → a ≡ b
    at_low a b e = grind arith

    pick : (b : Bool) → nat_eq low n ≡ b → is_past mark gone (spot_in ss n) ≡ true
    pick true e = ap (λ k. is_past mark gone (spot_in ss k)) (sym (at_low low n e)) ∙ p
    pick false e = a n (above low n e l) h

-- what was passed is not left
pub none_past : (ss : List Spot) (mark : ℕ) (gone : List ℕ) (low high : ℕ) → low ≤ high → AllPast ss mark gone low high → none_below ss mark gone high ≡ none_below ss mark gone low
none_past ss mark gone low zero l a = let e : zero ≡ low = omega arith in ap (none_below ss mark gone) e
none_past ss mark gone low (suc h) l a = pick (nat_lt low (suc h)) refl (λ k. none_past ss mark gone low h k (λ n p q. a n p (omega arith)))
  where
    less : (a b : ℕ) → nat_lt a (suc b) ≡ true → a ≤ b
    less a b e = grind arith

    same : (a b : ℕ) → nat_lt a b ≡ false → a ≤ b → b ≡ a
    same a b e l = grind arith

    passed : (o : Option Spot) (b : Bool) → is_past mark gone o ≡ true → none_at mark gone o b ≡ b
    passed None b e = absurd (true≢false (sym e))
    passed (Some s) b e = by (nat_lt s.var mark) (is_left gone s) e
      where
        by : (x y : Bool) → (not x && not y) ≡ true → cond x true (not y && b) ≡ b
        by true y e = absurd (true≢false (sym e))
        by false true e = absurd (true≢false (sym e))
        by false false e = refl

    pick : (b : Bool) → nat_lt low (suc h) ≡ b → (low ≤ h → none_below ss mark gone h ≡ none_below ss mark gone low) → none_below ss mark gone (suc h) ≡ none_below ss mark gone low
    pick true e ih = let k : low ≤ h = less low h e in passed (spot_in ss h) (none_below ss mark gone h) (a h k (omega arith)) ∙ ih k
    pick false e ih = ap (none_below ss mark gone) (same low (suc h) e l)

-- ---- entries that go

fell_past : (mark : ℕ) (gone : List ℕ) (s t : Spot) → Fell s t → is_past mark gone (Some s) ≡ true → is_past mark gone (Some t) ≡ true
fell_past mark gone s t (inl e) p = ap (λ x. is_past mark gone (Some x)) e ∙ p
fell_past mark gone s t (inr e) p =
    ap (λ x. is_past mark gone (Some x)) e.1 ∙ by (nat_lt s.var mark) (is_container s.rep) (is_left gone s) p
  where
    by : (x y z : Bool) → (not x && not z) ≡ true → (not x && not (y && (false && not (is_among s.var gone)))) ≡ true
    by true y z p = p
    by false true z p = refl
    by false false z p = refl

fell_count : (ss ts : List Spot) → AllFell ss ts → length ss ≡ length ts
fell_count [] [] f = refl
fell_count [] (t ∷ ts) f = absurd f
fell_count (s ∷ ss) [] f = absurd f
fell_count (s ∷ ss) (t ∷ ts) f = ap suc (fell_count ss ts f.1)

pub all_fell_past : (mark : ℕ) (gone : List ℕ) (ss ts : List Spot) (n : ℕ) → AllFell ss ts → is_past mark gone (spot_in ss n) ≡ true → is_past mark gone (spot_in ts n) ≡ true
all_fell_past mark gone [] [] n f p = p
all_fell_past mark gone [] (t ∷ ts) n f p = absurd f
all_fell_past mark gone (s ∷ ss) [] n f p = absurd f
all_fell_past mark gone (s ∷ ss) (t ∷ ts) n f p =
    let c = fell_count ss ts f.1 in
    ap (λ k. is_past mark gone (cond (nat_eq k n) (Some t) (spot_in ts n))) (sym c) ∙ pick (nat_eq (length ss) n) p (all_fell_past mark gone ss ts n f.1)
  where
    pick : (b : Bool) → is_past mark gone (cond b (Some s) (spot_in ss n)) ≡ true → (is_past mark gone (spot_in ss n) ≡ true → is_past mark gone (spot_in ts n) ≡ true) → is_past mark gone (cond b (Some t) (spot_in ts n)) ≡ true
    pick true p ih = fell_past mark gone s t f.0 p
    pick false p ih = ih p

pub fell_length : (ss ts : List Spot) → AllFell ss ts → length ss ≡ length ts
fell_length ss ts f = fell_count ss ts f

-- ---- as the definition has it

other_way : (a b : ℕ) → b < a → nat_eq a b ≡ false
other_way a b h = grind arith

none_deeper : (s : Spot) (ss : List Spot) (mark : ℕ) (gone : List ℕ) (n : ℕ) → n ≤ length ss → none_below (s ∷ ss) mark gone n ≡ none_below ss mark gone n
none_deeper s ss mark gone zero h = refl
none_deeper s ss mark gone (suc n) h =
    ap (λ b. none_at mark gone (cond b (Some s) (spot_in ss n)) (none_below (s ∷ ss) mark gone n)) (other_way (length ss) n (omega arith))
    ∙ ap (none_at mark gone (spot_in ss n)) (none_deeper s ss mark gone n (omega arith))

pub none_same : (ss : List Spot) (h : ℕ → Hold) (es : List Entry) (mark : ℕ) (gone : List ℕ) → bare_holds ss ≡ bare_holds (spots_of h es) → none_below ss mark gone (length ss) ≡ none_left mark (goners gone h) es
none_same [] h [] mark gone e = refl
none_same [] h (x ∷ es) mark gone e = absurd (no_spot _ _ e)
  where
    no_spot : (s : Spot) (ss : List Spot) → [] ≡ s ∷ ss → ⊥
    no_spot s ss e = let o : ⊥ = cc in o
none_same (s ∷ ss) h [] mark gone e = absurd (no_spot _ _ (sym e))
  where
    no_spot : (s : Spot) (ss : List Spot) → [] ≡ s ∷ ss → ⊥
    no_spot s ss e = let o : ⊥ = cc in o
none_same (s ∷ ss) h (x ∷ es) mark gone e =
    let q = same_spot s (spot_of h x) (first_same _ _ _ _ e) in
    ap (λ b. none_at mark gone (cond b (Some s) (spot_in ss (length ss))) (none_below (s ∷ ss) mark gone (length ss))) (eq-eqb (length ss) (length ss) refl)
    ∙ ap (none_at mark gone (Some s)) (none_deeper s ss mark gone (length ss) (omega arith) ∙ none_same ss h es mark gone (others_same _ _ _ _ e))
    ∙ ap (λ v. cond (nat_lt v mark) true (not (is_left gone s) && none_left mark (goners gone h) es)) q.var
    ∙ ap (λ b. cond (nat_lt x.var mark) true (b && none_left mark (goners gone h) es)) (left_same q)
  where
    left_same : SameSpot s (spot_of h x) → not (is_left gone s) ≡ (not (is_container x.shape.rep) || is_gone (goners gone h x.var))
    left_same q =
        by (is_container s.rep) refl
        ∙ ap (λ y. not (is_container y) || is_gone (cond (is_among x.var gone) Gone (h x.var))) q.rep
        ∙ ap (λ y. not (is_container x.shape.rep) || is_gone y) (sym (goners_at gone h x.var))
      where
        hold_in : (g a : Bool) (k : Hold) → g ≡ is_gone k → not (not g && not a) ≡ is_gone (cond a Gone k)
        hold_in g true k e = pick g
          where
            pick : (b : Bool) → not (not b && false) ≡ true
            pick true = refl
            pick false = refl
        hold_in true false k e = e
        hold_in false false k e = e

        by : (b : Bool) → is_container s.rep ≡ b → not (is_left gone s) ≡ (not (is_container s.rep) || is_gone (cond (is_among x.var gone) Gone (h x.var)))
        by true c =
            ap (λ z. not (z && (not (is_gone s.hold) && not (is_among s.var gone)))) c
            ∙ ap (λ z. not (not (is_gone s.hold) && not (is_among z gone))) q.var
            ∙ hold_in (is_gone s.hold) (is_among x.var gone) (h x.var) (ap is_gone (q.hold c))
            ∙ sym (ap (λ z. not z || is_gone (cond (is_among x.var gone) Gone (h x.var))) c)
        by false c =
            ap (λ z. not (z && (not (is_gone s.hold) && not (is_among s.var gone)))) c
            ∙ sym (ap (λ z. not z || is_gone (cond (is_among x.var gone) Gone (h x.var))) c)

zero_less : (p : ℕ) → nat_eq p 0 ≡ nat_lt p 1
zero_less zero = eq-eqb 0 0 refl ∙ sym (lt-ltb 0 1 (omega arith))
zero_less (suc p) = ne_eqb (suc p) 0 (λ e. omega arith) ∙ sym (le-ltb (suc p) 1 (omega arith))

pub none_is : (ss : List Spot) (h : ℕ → Hold) (es : List Entry) (mark : ℕ) (gone : List ℕ) (n p : ℕ) → bare_holds ss ≡ bare_holds (spots_of h es) → n ≡ length ss → none_below ss mark gone n ≡ nat_lt p 1 → nat_eq p 0 ≡ none_left mark (goners gone h) es
none_is ss h es mark gone n p e l q = zero_less p ∙ sym q ∙ ap (none_below ss mark gone) l ∙ none_same ss h es mark gone e

pub none_then : (ss : List Spot) (h : ℕ → Hold) (es : List Entry) (mark : ℕ) (gone : List ℕ) (p : ℕ) → bare_holds ss ≡ bare_holds (spots_of h es) → none_below ss mark gone (length ss) ≡ nat_lt p 1 → none_left mark (goners gone h) es ≡ nat_lt p 1
none_then ss h es mark gone p e q = sym (none_same ss h es mark gone e) ∙ q

-- after an instruction is passed
pub past_after : (ss ts : List Spot) (mark : ℕ) (gone : List ℕ) (low p : ℕ) → AllFell ss ts → low ≤ length ss → AllPast ss mark gone low (length ss) → IsLeftBelow ts mark gone low p → (0 < p) → AllPast ts mark gone p (length ts)
past_after ss ts mark gone low p f w a l z n q h = pick (nat_lt n low) refl
  where
    pick : (b : Bool) → nat_lt n low ≡ b → is_past mark gone (spot_in ts n) ≡ true
    pick true e = l.past z n q (ltb-true n low e)
    pick false e = all_fell_past mark gone ss ts n f (a n (ltb-false n low e) (let c = fell_length ss ts f in omega arith))

pub none_after : (ss ts : List Spot) (mark : ℕ) (gone : List ℕ) (low p : ℕ) → AllFell ss ts → low ≤ length ss → AllPast ss mark gone low (length ss) → IsLeftBelow ts mark gone low p → none_below ts mark gone (length ts) ≡ nat_lt p 1
none_after ss ts mark gone low p f w a l =
    let c = fell_length ss ts f in
    none_past ts mark gone low (length ts) (omega arith) (λ n q h. all_fell_past mark gone ss ts n f (a n q (omega arith))) ∙ l.none
