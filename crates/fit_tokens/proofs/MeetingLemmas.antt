-- Where sides meet, and where a turn of a loop ends.
use Rattle.std.proofs.Common.{◌≡◌, ◌≤◌, ◌<◌, ◌+◌, ℕ, zero, suc, Bool, true, false, cond, ◌&&◌, ◌||◌, List, [], ◌∷◌, ◌++◌, length, drop, take, refl, sym, ap, ◌∙◌, subst, nat_eq, nat_lt, arith, get_or, append_assoc}
use Rattle.std.proofs.Math.Path.{fun_ext}
use Rattle.std.proofs.lemmas.Bool.{true≢false, eq-eqb, eqb-true, ltb-true, lt-ltb, and_parts, or_parts, and_from}
use Rattle.std.proofs.lemmas.List.{drop_all}
use Rattle.std.specs.Prelude.{Option, Some, None}
use Rattle.fits.specs.Places.{Token, Number, Of, put, same_token, has_token, both_tokens, keeps_token, keep_tokens}
use Rattle.fit_tokens.specs.Changes.{Known, Change, change, changes_of, change_of, after, before_all, toks, toks_at_mark, with_change, with_changes, back_to, back_at, seen_at, agreed, all_kept, NoneFrom}
use Rattle.fit_tokens.proofs.ChangesLemmas.{after_append, toks_change, toks_changes, taken, dropped, changes_more}
use Rattle.fit_tokens.specs.declared.table.Change.{Change as CodeChange}

-- ---- a token is the same as itself

same_self : (t : Token) → same_token t t ≡ true
same_self (Number n) = eq-eqb n n refl
same_self (Of v j) = and_from (nat_eq v v) (nat_eq j j) (eq-eqb v v refl) (eq-eqb j j refl)

keeps_self : (o : Option Token) → keeps_token o o ≡ true
keeps_self None = refl
keeps_self (Some t) = same_self t

both_self : (o : Option Token) → both_tokens o o ≡ o
both_self None = refl
both_self (Some t) = ap (λ b. cond b (Some t) None) (same_self t)

-- what both leave is left again
both_again : (o p : Option Token) → both_tokens (both_tokens o p) p ≡ both_tokens o p
both_again None p = refl
both_again (Some t) p = elim (has_token p t) as (λ b. has_token p t ≡ b → both_tokens (cond b (Some t) None) p ≡ cond b (Some t) None) [
  | true ↦ λ e. ap (λ b. cond b (Some t) None) e
  | false ↦ λ e. refl
] refl

-- ---- registers that are changed

-- one of these changes is of a register
abbrev pub touches : ℕ → List Change → Bool
touches r [] = false
touches r (c ∷ cs) = nat_eq r c.reg || touches r cs

pub touches_both : (r : ℕ) (cs ds : List Change) → touches r (cs ++ ds) ≡ (touches r cs || touches r ds)
touches_both r [] ds = refl
touches_both r (c ∷ cs) ds = ap (λ b. nat_eq r c.reg || b) (touches_both r cs ds) ∙ or_or (nat_eq r c.reg) (touches r cs) (touches r ds)
  where
    or_or : (a b c : Bool) → (a || (b || c)) ≡ ((a || b) || c)
    or_or true b c = refl
    or_or false b c = refl

pub after_other : (r : ℕ) (cs : List Change) (f : ℕ → Option Token) → touches r cs ≡ false → after cs f r ≡ f r
after_other r [] f e = refl
after_other r (c ∷ cs) f e =
    let p = or_parts (nat_eq r c.reg) (touches r cs) e in
    after_other r cs (put f c.reg c.token) p.1 ∙ ap (λ b. cond b c.token (f r)) p.0

-- ---- meeting

pub agreed_is : (l g : ℕ → Option Token) (cs : List Change) (r : ℕ) → agreed l (seen_at g cs) r ≡ cond (touches r cs) (both_tokens (l r) (g r)) (l r)
agreed_is l g [] r = refl
agreed_is l g (c ∷ cs) r = agreed_is (put l c.reg (both_tokens (l c.reg) (g c.reg))) g cs r ∙ pick (nat_eq r c.reg) refl (touches r cs)
  where
    here : nat_eq r c.reg ≡ true → both_tokens (l c.reg) (g c.reg) ≡ both_tokens (l r) (g r)
    here e = ap (λ k. both_tokens (l k) (g k)) (sym (eqb-true r c.reg e))

    pick : (a : Bool) → nat_eq r c.reg ≡ a → (b : Bool)
        → cond b (both_tokens (cond a (both_tokens (l c.reg) (g c.reg)) (l r)) (g r)) (cond a (both_tokens (l c.reg) (g c.reg)) (l r)) ≡ cond (a || b) (both_tokens (l r) (g r)) (l r)
    pick true e true = ap (λ o. both_tokens o (g r)) (here e) ∙ both_again (l r) (g r)
    pick true e false = here e
    pick false e true = refl
    pick false e false = refl

-- sides that begin with the same tokens
pub met_is : (f : ℕ → Option Token) (left right : List Change) (r : ℕ) → agreed (after left f) (seen_at (after right f) (left ++ right)) r ≡ both_tokens (after left f r) (after right f r)
met_is f left right r = agreed_is (after left f) (after right f) (left ++ right) r ∙ pick (touches r (left ++ right)) refl
  where
    pick : (b : Bool) → touches r (left ++ right) ≡ b → cond b (both_tokens (after left f r) (after right f r)) (after left f r) ≡ both_tokens (after left f r) (after right f r)
    pick true e = refl
    pick false e =
        let p = or_parts (touches r left) (touches r right) (sym (touches_both r left right) ∙ e) in
        let a = after_other r left f p.0 in
        let b = after_other r right f p.1 in
        sym (ap (λ o. both_tokens (after left f r) o) (b ∙ sym a) ∙ both_self (after left f r))

pub seen_both : (g : ℕ → Option Token) (cs ds : List Change) → seen_at g (cs ++ ds) ≡ seen_at g cs ++ seen_at g ds
seen_both g [] ds = refl
seen_both g (c ∷ cs) ds = ap (λ z. change c.reg (g c.reg) ∷ z) (seen_both g cs ds)

pub note_step : (g : ℕ → Option Token) (cs : List CodeChange) (i : ℕ) (c d : CodeChange) (ns ms : List CodeChange) (old : List Change) → i < length cs → changes_of ns ≡ old ++ seen_at g (changes_of (take i cs))
    → change_of d ≡ change (get_or cs i c).reg (g (get_or cs i c).reg) → ms ≡ ns ++ d ∷ [] → changes_of ms ≡ old ++ seen_at g (changes_of (take (i + 1) cs))
note_step g cs i c d ns ms old h inv q m =
    ap changes_of m ∙ changes_more ns d ∙ ap (λ z. z ++ change_of d ∷ []) inv ∙ ap (λ s. (old ++ seen_at g (changes_of (take i cs))) ++ s ∷ []) q
    ∙ append_assoc old (seen_at g (changes_of (take i cs))) (change (get_or cs i c).reg (g (get_or cs i c).reg) ∷ [])
    ∙ ap (λ z. old ++ z) (sym (ap (λ z. seen_at g (changes_of z)) (taken cs i c h) ∙ ap (seen_at g) (changes_more (take i cs) (get_or cs i c)) ∙ seen_both g (changes_of (take i cs)) (change_of (get_or cs i c) ∷ [])))

pub note_none : (ns : List CodeChange) → changes_of ns ≡ changes_of ns ++ []
note_none [] = refl
note_none (n ∷ ns) = ap (λ z. change_of n ∷ z) (note_none ns)

pub agree_step : (f : ℕ → Option Token) (cs : List CodeChange) (i : ℕ) (c : CodeChange) (q o : Option Token) (y z : Known) → i < length cs → agreed f (changes_of cs) ≡ agreed (toks y) (changes_of (drop i cs))
    → q ≡ toks y (get_or cs i c).reg → o ≡ both_tokens q (change_of (get_or cs i c)).token → z ≡ with_change y (change (get_or cs i c).reg o) → agreed f (changes_of cs) ≡ agreed (toks z) (changes_of (drop (i + 1) cs))
agree_step f cs i c q o y z h e p d w =
    e ∙ ap (λ x. agreed (toks y) (changes_of x)) (dropped cs i c h)
    ∙ ap (λ x. agreed (put (toks y) (get_or cs i c).reg x) (changes_of (drop (i + 1) cs))) (sym (d ∙ ap (λ x. both_tokens x (change_of (get_or cs i c)).token) p))
    ∙ ap (λ g. agreed g (changes_of (drop (i + 1) cs))) (sym (ap toks w ∙ toks_change y (get_or cs i c).reg o))

-- ---- at a mark

pub back_toks : (x : Known) → toks (back_at x) ≡ toks_at_mark x
back_toks x = pick x.saved
  where
    pick : (css : List (List Change)) → toks (back_to x css) ≡ before_all css
    pick [] = refl
    pick (cs ∷ css) = refl

-- what the call that meets comes to
pub meets : (x y z w : Known) (start left noted1 since noted2 : List CodeChange) → start ≡ [] → changes_of noted1 ≡ changes_of start ++ seen_at (toks x) (changes_of left) → changes_of since ≡ x.changes → changes_of noted2 ≡ changes_of noted1 ++ seen_at (toks x) (changes_of since)
    → y ≡ back_at x → z ≡ with_changes y (changes_of left) → toks w ≡ agreed (toks z) (changes_of noted2) → (r : ℕ) → toks w r ≡ both_tokens (after (changes_of left) (toks_at_mark x) r) (toks x r)
meets x y z w start left noted1 since noted2 n a b c d f g r =
    let seen : changes_of noted2 ≡ seen_at (toks x) (changes_of left ++ x.changes) = c ∙ ap (λ u. u ++ seen_at (toks x) (changes_of since)) (a ∙ ap (λ u. changes_of u ++ seen_at (toks x) (changes_of left)) n) ∙ ap (λ u. seen_at (toks x) (changes_of left) ++ seen_at (toks x) u) b ∙ sym (seen_both (toks x) (changes_of left) x.changes) in
    let l : toks z ≡ after (changes_of left) (toks_at_mark x) = ap toks f ∙ toks_changes y (changes_of left) ∙ ap (after (changes_of left)) (ap toks d ∙ back_toks x) in
    ap (λ h. h r) (g ∙ ap (agreed (toks z)) seen ∙ ap (λ h. agreed h (seen_at (toks x) (changes_of left ++ x.changes))) l)
    ∙ met_is (toks_at_mark x) (changes_of left) x.changes r

-- ---- loops

both_ways : (a b : Bool) → (a ≡ true → b ≡ true) → (b ≡ true → a ≡ true) → a ≡ b
both_ways true true f g = refl
both_ways true false f g = sym (f refl)
both_ways false true f g = g refl
both_ways false false f g = refl

kept_there : (f g : ℕ → Option Token) (cs : List Change) (r : ℕ) → all_kept f (seen_at g cs) ≡ true → touches r cs ≡ true → keeps_token (f r) (g r) ≡ true
kept_there f g [] r k t = absurd (true≢false (sym t))
kept_there f g (c ∷ cs) r k t =
    let p = and_parts (keeps_token (f c.reg) (g c.reg)) (all_kept f (seen_at g cs)) k in
    pick p.0 (kept_there f g cs r p.1) (nat_eq r c.reg) refl t
  where
    pick : keeps_token (f c.reg) (g c.reg) ≡ true → (touches r cs ≡ true → keeps_token (f r) (g r) ≡ true) → (b : Bool) → nat_eq r c.reg ≡ b → (b || touches r cs) ≡ true → keeps_token (f r) (g r) ≡ true
    pick p ih true e u = ap (λ i. keeps_token (f i) (g i)) (eqb-true r c.reg e) ∙ p
    pick p ih false e u = ih u

kept_everywhere : (f : ℕ → Option Token) (cs : List Change) → all_kept f (seen_at (after cs f) cs) ≡ true → (r : ℕ) → keeps_token (f r) (after cs f r) ≡ true
kept_everywhere f cs k r = pick (touches r cs) refl
  where
    pick : (b : Bool) → touches r cs ≡ b → keeps_token (f r) (after cs f r) ≡ true
    pick true e = kept_there f (after cs f) cs r k e
    pick false e = ap (keeps_token (f r)) (after_other r cs f e) ∙ keeps_self (f r)

all_below : (R : ℕ) (f g : ℕ → Option Token) → ((r : ℕ) → keeps_token (f r) (g r) ≡ true) → keep_tokens R f g ≡ true
all_below zero f g k = refl
all_below (suc n) f g k = and_from (keeps_token (f n) (g n)) (keep_tokens n f g) (k n) (all_below n f g k)

kept_below : (R : ℕ) (f g : ℕ → Option Token) → keep_tokens R f g ≡ true → (r : ℕ) → r < R → keeps_token (f r) (g r) ≡ true
kept_below zero f g k r l = absurd (omega arith)
kept_below (suc n) f g k r l =
    let p = and_parts (keeps_token (f n) (g n)) (keep_tokens n f g) k in
    pick p.0 (kept_below n f g p.1 r) (nat_eq r n) refl
  where
    less : (a b : ℕ) → nat_eq a b ≡ false → a < suc b → a < b
    less a b e l = grind arith

    pick : keeps_token (f n) (g n) ≡ true → (r < n → keeps_token (f r) (g r) ≡ true) → (b : Bool) → nat_eq r n ≡ b → keeps_token (f r) (g r) ≡ true
    pick p ih true e = ap (λ i. keeps_token (f i) (g i)) (eqb-true r n e) ∙ p
    pick p ih false e = ih (less r n e l)

seen_kept : (f g : ℕ → Option Token) (cs : List Change) → ((r : ℕ) → keeps_token (f r) (g r) ≡ true) → all_kept f (seen_at g cs) ≡ true
seen_kept f g [] k = refl
seen_kept f g (c ∷ cs) k = and_from (keeps_token (f c.reg) (g c.reg)) (all_kept f (seen_at g cs)) (k c.reg) (seen_kept f g cs k)

pub kept_is : (R : ℕ) (f : ℕ → Option Token) (cs : List Change) → NoneFrom R f → all_kept f (seen_at (after cs f) cs) ≡ keep_tokens R f (after cs f)
kept_is R f cs none = both_ways _ _ (λ k. all_below R f (after cs f) (kept_everywhere f cs k)) (λ k. seen_kept f (after cs f) cs (λ r. pick k r (nat_lt r R) refl))
  where
    pick : keep_tokens R f (after cs f) ≡ true → (r : ℕ) (b : Bool) → nat_lt r R ≡ b → keeps_token (f r) (after cs f r) ≡ true
    pick k r true e = kept_below R f (after cs f) k r (ltb-true r R e)
    pick k r false e = ap (λ o. keeps_token o (after cs f r)) (none r e)

pub kept_step : (f : ℕ → Option Token) (cs : List CodeChange) (i : ℕ) (c : CodeChange) → i < length cs → all_kept f (changes_of (drop i cs)) ≡ (keeps_token (f (get_or cs i c).reg) (change_of (get_or cs i c)).token && all_kept f (changes_of (drop (i + 1) cs)))
kept_step f cs i c h = ap (λ z. all_kept f (changes_of z)) (dropped cs i c h)

pub kept_end : (f : ℕ → Option Token) (cs : List CodeChange) (i : ℕ) → length cs ≤ i → all_kept f (changes_of (drop i cs)) ≡ true
kept_end f cs i h = ap (λ z. all_kept f (changes_of z)) (drop_all i cs h)

-- what the call that undoes comes to
pub undo_keeps : (x y : Known) (start since noted : List CodeChange) (b : Bool) → start ≡ [] → changes_of since ≡ x.changes → changes_of noted ≡ changes_of start ++ seen_at (toks x) (changes_of since) → y ≡ back_at x → b ≡ all_kept (toks y) (changes_of noted)
    → (R : ℕ) → NoneFrom R (toks_at_mark x) → b ≡ keep_tokens R (toks_at_mark x) (toks x)
undo_keeps x y start since noted b n a c d e R none =
    e ∙ ap (λ f. all_kept f (changes_of noted)) (ap toks d ∙ back_toks x) ∙ ap (all_kept (toks_at_mark x)) (c ∙ ap (λ u. changes_of u ++ seen_at (toks x) (changes_of since)) n ∙ ap (seen_at (toks x)) a) ∙ kept_is R (toks_at_mark x) x.changes none
