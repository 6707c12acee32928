-- The owner of a block, by places.
use Rattle.std.proofs.Common.{◌≡◌, ◌≤◌, ◌<◌, ℕ, zero, suc, Bool, true, false, cond, ◌&&◌, not, List, [], ◌∷◌, length, refl, sym, ap, ◌∙◌, nat_eq, nat_lt, arith}
use Rattle.std.proofs.lemmas.Bool.{eq-eqb}
use Rattle.std.specs.Prelude.{Option, Some, None}
use Rattle.std.specs.Option.{is_some}
use Rattle.std.proofs.lemmas.Bool.{true≢false}
use Rattle.bare_holds.specs.Bare.{bare_holds}
use Rattle.context_laws.specs.Stacks.{spot_in}
use Rattle.fit_state.proofs.InfosLemmas.{SameSpot, same_spot, first_same, others_same}
use Rattle.fit_state.specs.Owners.{owns, owner_in, owned_in, owner_below}
use Rattle.fit_tokens.specs.Standing.{Standing, standing_in, all_stand, has_head, NoHead, IsNext}
use Rattle.fits.specs.Follow as f
use Rattle.fits.specs.Follow.{owner, first_word}
use Rattle.fits.specs.Places.{Token, Entry, spot_of, spots_of}
use Rattle.rule_check.specs.Context.{Hold, Spot, is_container, is_slice, is_owned, or_else}

-- ---- by places

other_way : (a b : ℕ) → b < a → nat_eq a b ≡ false
other_way a b h = grind arith

spot_above : (s : Spot) (ss : List Spot) (j : ℕ) → j < length ss → spot_in (s ∷ ss) j ≡ spot_in ss j
spot_above s ss j h = ap (λ b. cond b (Some s) (spot_in ss j)) (other_way (length ss) j h)

standing_above : (w : Standing) (ws : List Standing) (j : ℕ) → j < length ws → standing_in (w ∷ ws) j ≡ standing_in ws j
standing_above w ws j h = ap (λ b. cond b (Some w) (standing_in ws j)) (other_way (length ws) j h)

below_deeper : (s : Spot) (ss : List Spot) (w : Standing) (ws : List Standing) (o : Option Token) (n : ℕ) → n ≤ length ss → length ss ≡ length ws → owner_below (s ∷ ss) (w ∷ ws) o n ≡ owner_below ss ws o n
below_deeper s ss w ws o zero h e = refl
below_deeper s ss w ws o (suc n) h e =
    ap (λ z. or_else (owned_in o z (standing_in (w ∷ ws) n)) (owner_below (s ∷ ss) (w ∷ ws) o n)) (spot_above s ss n (omega arith))
    ∙ ap (λ z. or_else (owned_in o (spot_in ss n) z) (owner_below (s ∷ ss) (w ∷ ws) o n)) (standing_above w ws n (omega arith))
    ∙ ap (or_else (owned_in o (spot_in ss n) (standing_in ws n))) (below_deeper s ss w ws o n (omega arith) e)

pub owner_all : (ss : List Spot) (ws : List Standing) (o : Option Token) → length ss ≡ length ws → owner_in ss ws o ≡ owner_below ss ws o (length ss)
owner_all [] ws o e = refl
owner_all (s ∷ ss) [] o e = absurd (omega arith)
owner_all (s ∷ ss) (w ∷ ws) o e =
    let n : length ss ≡ length ws = omega arith in
    ap (cond (owns o s w) (Some s.var)) (owner_all ss ws o n ∙ sym (below_deeper s ss w ws o (length ss) (omega arith) n))
    ∙ pick (owns o s w) (owner_below (s ∷ ss) (w ∷ ws) o (length ss))
    ∙ ap (λ z. or_else (owned_in o z (Some w)) (owner_below (s ∷ ss) (w ∷ ws) o (length ss))) (sym (ap (λ b. cond b (Some s) (spot_in ss (length ss))) (eq-eqb (length ss) (length ss) refl)))
    ∙ ap (λ z. or_else (owned_in o (spot_in (s ∷ ss) (length ss)) z) (owner_below (s ∷ ss) (w ∷ ws) o (length ss))) (sym (ap (λ b. cond b (Some w) (standing_in ws (length ss))) (eq-eqb (length ws) (length ss) (sym n))))
  where
    pick : (b : Bool) (x : Option ℕ) → cond b (Some s.var) x ≡ or_else (cond b (Some s.var) None) x
    pick true x = refl
    pick false x = refl

-- ---- without a first word

never : (a b c : Bool) → c ≡ false → (a && b && c) ≡ false
never true true c e = e
never true false c e = refl
never false true c e = refl
never false false c e = refl

not_owned : (t : Token) (s : Option Spot) (w : Option Standing) → has_head t w ≡ false → owned_in (Some t) s w ≡ None
not_owned t None w h = refl
not_owned t (Some s) None h = refl
not_owned t (Some s) (Some w) h = ap (λ b. cond b (Some s.var) None) (never (f.is_block s.rep) (is_owned s.hold) (first_word (Some t) w.words) h)

skipped : (ss : List Spot) (ws : List Standing) (t : Token) (low high : ℕ) → low ≤ high → NoHead ws t low high → owner_below ss ws (Some t) high ≡ owner_below ss ws (Some t) low
skipped ss ws t low zero l n = let e : zero ≡ low = omega arith in ap (owner_below ss ws (Some t)) e
skipped ss ws t low (suc h) l n = pick (nat_lt low (suc h)) refl (λ k. skipped ss ws t low h k (λ j a b. n j a (omega arith)))
  where
    less : (a b : ℕ) → nat_lt a (suc b) ≡ true → a ≤ b
    less a b e = grind arith

    same : (a b : ℕ) → nat_lt a b ≡ false → a ≤ b → b ≡ a
    same a b e l = grind arith

    pick : (b : Bool) → nat_lt low (suc h) ≡ b → (low ≤ h → owner_below ss ws (Some t) h ≡ owner_below ss ws (Some t) low) → owner_below ss ws (Some t) (suc h) ≡ owner_below ss ws (Some t) low
    pick true e ih = let k : low ≤ h = less low h e in ap (λ o. or_else o (owner_below ss ws (Some t) h)) (not_owned t (spot_in ss h) (standing_in ws h) (n h k (omega arith))) ∙ ih k
    pick false e ih = ap (owner_below ss ws (Some t)) (same low (suc h) e l)

-- ---- the walk over places

-- where a walk goes on
abbrev pub limit : Option ℕ → ℕ
limit None = 0
limit (Some i) = suc i

pub next_place : (ss : List Spot) (ws : List Standing) (t : Token) (high : ℕ) (o : Option ℕ) → IsNext ws t high o → owner_below ss ws (Some t) high ≡ owner_below ss ws (Some t) (limit o)
next_place ss ws t high None n = skipped ss ws t 0 high (omega arith) n
next_place ss ws t high (Some k) n = let l = n.0 in skipped ss ws t (suc k) high (omega arith) n.1

pub next_less : (ws : List Standing) (t : Token) (high : ℕ) (o : Option ℕ) → IsNext ws t high o → limit o ≤ high
next_less ws t high None n = omega arith
next_less ws t high (Some k) n = let l = n.0 in omega arith

pub owner_here : (ss : List Spot) (ws : List Standing) (t : Token) (i : ℕ) (found : Option ℕ) → found ≡ owned_in (Some t) (spot_in ss i) (standing_in ws i) → is_some found ≡ true → owner_below ss ws (Some t) (suc i) ≡ found
owner_here ss ws t i None e s = absurd (true≢false (sym s))
owner_here ss ws t i (Some v) e s = ap (λ o. or_else o (owner_below ss ws (Some t) i)) (sym e)

pub owner_lower : (ss : List Spot) (ws : List Standing) (t : Token) (i : ℕ) (found : Option ℕ) → found ≡ owned_in (Some t) (spot_in ss i) (standing_in ws i) → is_some found ≡ false → owner_below ss ws (Some t) (suc i) ≡ owner_below ss ws (Some t) i
owner_lower ss ws t i (Some v) e s = absurd (true≢false s)
owner_lower ss ws t i None e s = ap (λ o. or_else o (owner_below ss ws (Some t) i)) (sym e)

-- ---- as the definition has it

block_holds : (s t : Spot) → SameSpot s t → (f.is_block s.rep && is_owned s.hold) ≡ (f.is_block t.rep && is_owned t.hold)
block_holds s t q = pick (is_container s.rep) refl ∙ ap (λ x. f.is_block x && is_owned t.hold) q.rep
  where
    pick : (a : Bool) → is_container s.rep ≡ a → (f.is_block s.rep && is_owned s.hold) ≡ (f.is_block s.rep && is_owned t.hold)
    pick true e = ap (λ h. f.is_block s.rep && is_owned h) (q.hold e)
    pick false e = ap (λ c. (c && not (is_slice s.rep)) && is_owned s.hold) e ∙ sym (ap (λ c. (c && not (is_slice s.rep)) && is_owned t.hold) e)

pub owner_same : (ss : List Spot) (h : ℕ → Hold) (es : List Entry) (ws : List Standing) (o : Option Token) → bare_holds ss ≡ bare_holds (spots_of h es) → ws ≡ all_stand es → owner_in ss ws o ≡ owner es h o
owner_same ss h es ws o e w = ap (λ z. owner_in ss z o) w ∙ both ss es e
  where
    no_spot : (s : Spot) (ss : List Spot) → [] ≡ s ∷ ss → ⊥
    no_spot s ss e = let o : ⊥ = cc in o

    both : (ss : List Spot) (es : List Entry) → bare_holds ss ≡ bare_holds (spots_of h es) → owner_in ss (all_stand es) o ≡ owner es h o
    both [] [] e = refl
    both [] (x ∷ es) e = absurd (no_spot _ _ e)
    both (s ∷ ss) [] e = absurd (no_spot _ _ (sym e))
    both (s ∷ ss) (x ∷ es) e =
        let q = same_spot s (spot_of h x) (first_same _ _ _ _ e) in
        ap (λ b. cond (b && first_word o x.words) (Some s.var) (owner_in ss (all_stand es) o)) (block_holds s (spot_of h x) q)
        ∙ ap (λ v. cond (f.is_block x.shape.rep && is_owned (h x.var) && first_word o x.words) (Some v) (owner_in ss (all_stand es) o)) q.var
        ∙ ap (cond (f.is_block x.shape.rep && is_owned (h x.var) && first_word o x.words) (Some x.var)) (both ss es (others_same _ _ _ _ e))

pub owner_none : (es : List Entry) (h : ℕ → Hold) → owner es h None ≡ None
owner_none [] h = refl
owner_none (e ∷ es) h = ap (λ b. cond b (Some e.var) (owner es h None)) (never (f.is_block e.shape.rep) (is_owned (h e.var)) (first_word None e.words) (no_word e.words)) ∙ owner_none es h
  where
    no_word : (ts : List Token) → first_word None ts ≡ false
    no_word [] = refl
    no_word (t ∷ ts) = refl

pub owner_init : (ss : List Spot) (ws : List Standing) (t : Token) (o : Option ℕ) → IsNext ws t (length ws) o → length ss ≡ length ws → owner_in ss ws (Some t) ≡ owner_below ss ws (Some t) (limit o)
owner_init ss ws t o n e = owner_all ss ws (Some t) e ∙ ap (owner_below ss ws (Some t)) e ∙ next_place ss ws t (length ws) o n
