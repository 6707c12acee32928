-- Shares that are lent: their sums, and what a branch begins with.
use Rattle.std.proofs.Common.{◌≡◌, ℕ, zero, suc, ◌+◌, ◌-◌, ◌*◌, ◌^◌, ◌<◌, ◌≤◌, Bool, true, false, cond, ◌&&◌, ◌||◌, not, List, [], ◌∷◌, map, refl, sym, ap, ◌∙◌, subst, arith, ◌⊎◌, ⊎_elim}
use Rattle.std.proofs.Math.Nat.{pow-succ'}
use Rattle.std.proofs.Math.Path.{fun_ext}
use Rattle.std.proofs.lemmas.Bool.{and_parts, cond_both}
use Rattle.std.specs.Prelude.{None}
use Rattle.target_meaning.specs.Piece as pieces
use Rattle.target_meaning.specs.Piece.{whole, Nil, Some_of, Clash, add, Piece, none, plus, half, rest, IsWhole, IsAllWhole}
use Rattle.target_meaning.proofs.Keeps.{take_sum}
use Rattle.target_meaning.proofs.Shares.{plus-comm, plus-assoc}
use Rattle.triple_logic.specs.Parts.{AtLeast, half_of, rest_of}
use Rattle.triple_logic.proofs.Parts.{half_least, power_step}
use Rattle.relations.specs.Represents.{Represents}
use Rattle.rule_check.specs.Context.{Hold, Owned, Kept, Gone, is_gone, is_container}
use Rattle.fits.specs.Places.{Entry}
use Rattle.fits.specs.Follow.{is_there, both, one, there_all, share_entry, branch_entries}
use Rattle.fits_sound.specs.Meant.{Least, Dyn, word, at_hold, live, Rels, Share}
use Rattle.fits_sound.proofs.Sharing.{keep, neither, Used_there, there_hold}
use Rattle.fits_sound.proofs.Take.{no_piece}

-- ---- halves

pub half_rest : (x : pieces.Share) → add (half x) (rest x) ≡ x
half_rest x = ap (λ y. y 0 0) (take_sum (record { part = record { block = 0; span = None }; all = false }) (λ b j. x))

pub halves : (p : Piece) → plus (half_of p) (rest_of p) ≡ p
halves p = fun_ext (λ b. fun_ext (λ j. half_rest (p b j)))

least_down : (m n : ℕ) (x : pieces.Share) → m ≤ n → AtLeast n x → AtLeast m x
least_down m n Nil le w = tt
least_down m n (Some_of v k) le w = omega (arith, le, w)
least_down m n Clash le w = w

power_pos : (k : ℕ) → 1 ≤ 2 ^ k
power_pos zero = (let z : 1 ≤ 1 = omega arith in z)
power_pos (suc k) = let p = power_pos k in let e : 2 ^ suc k ≡ 2 * 2 ^ k = pow-succ' 2 k in omega (arith, p, e)

power_more : (a d : ℕ) → 2 ^ a ≤ 2 ^ (d + a)
power_more a zero = subst (λ y. 2 ^ a ≤ 2 ^ y) (let e : a ≡ 0 + a = omega arith in e) (let z : 2 ^ a ≤ 2 ^ a = omega arith in z)
power_more a (suc d) =
    subst (λ y. 2 ^ a ≤ 2 ^ y) (let e : suc (d + a) ≡ suc d + a = omega arith in e)
    (let p = power_more a d in let e : 2 ^ suc (d + a) ≡ 2 * 2 ^ (d + a) = pow-succ' 2 (d + a) in omega (arith, p, e))

-- below f forks
module _ (f : ℕ) (lt : f < 64) where
  abbrev m1 : ℕ
  m1 = 2 ^ (64 - suc f)

  pub two_least : (p : Piece) → Least (2 ^ (64 - f)) p → Least 2 p
  two_least p l b j = least_down 2 (2 ^ (64 - f)) (p b j) (two (2 ^ (64 - f)) m1 (power_step f lt) (power_pos (64 - suc f))) (l b j)
    where
      two : (a c : ℕ) → a ≡ 2 * c → 1 ≤ c → 2 ≤ a
      two a c e p = omega (arith, e, p)

  pub less_least : (p : Piece) → Least (2 ^ (64 - f)) p → Least m1 p
  less_least p l b j = least_down m1 (2 ^ (64 - f)) (p b j) (two (2 ^ (64 - f)) m1 (power_step f lt)) (l b j)
    where
      two : (a c : ℕ) → a ≡ 2 * c → c ≤ a
      two a c e = omega (arith, e)

  pub half_part : (p : Piece) → Least (2 ^ (64 - f)) p → Least m1 (half_of p)
  half_part p l b j = (half_least m1 (p b j) (subst (λ y. AtLeast y (p b j)) (power_step f lt) (l b j))).0

  pub rest_part : (p : Piece) → Least (2 ^ (64 - f)) p → Least m1 (rest_of p)
  rest_part p l b j = (half_least m1 (p b j) (subst (λ y. AtLeast y (p b j)) (power_step f lt) (l b j))).1

whole_least : (f : ℕ) (p : Piece) → IsAllWhole p → Least (2 ^ (64 - f)) p
whole_least f p w b j = ⊎_elim (λ e. subst (AtLeast (2 ^ (64 - f))) (sym e) tt) (λ k. at (p b j) k) (w b j)
  where
    most : 2 ^ (64 - f) ≤ whole
    most = ⊎_elim
        (λ le. subst (λ y. 2 ^ (64 - f) ≤ 2 ^ y) (let e : f + (64 - f) ≡ 64 = omega (arith, le) in e) (power_more (64 - f) f))
        (λ gt. subst (λ y. 2 ^ y ≤ whole) (let e : 0 ≡ 64 - f = omega (arith, gt) in e) (power_more 0 64))
        (let o : (f ≤ 64) ⊎ (64 < f) = grind arith in o)

    at : (x : pieces.Share) → IsWhole x → AtLeast (2 ^ (64 - f)) x
    at Nil w = absurd w
    at (Some_of v k) w = subst (λ y. 2 ^ (64 - f) ≤ y) (sym w) most
    at Clash w = absurd w

pub share_is_least : (f : ℕ) (D : Dyn) (c : Bool) (p : Piece) (es : List Entry) → Share f D c p es → Least (2 ^ (64 - f)) p
share_is_least f D true p es s = s.0
share_is_least f D false p es s = whole_least f p s

-- ---- sums

abbrev pub all_held : ℕ → Hold
all_held v = Kept

shuffle4 : (q L R S N : Piece) → plus q (plus L (plus R (plus S N))) ≡ plus L (plus q (plus R (plus S N)))
shuffle4 q L R S N = sym (plus-assoc q L (plus R (plus S N))) ∙ ap (λ y. plus y (plus R (plus S N))) (plus-comm q L) ∙ plus-assoc L q (plus R (plus S N))

swap : (q a b : Piece) → plus q (plus a b) ≡ plus a (plus q b)
swap q a b = sym (plus-assoc q a b) ∙ ap (λ y. plus y b) (plus-comm q a) ∙ plus-assoc a q b

abbrev with_if : Bool → Piece → Piece → Piece
with_if true q X = plus q X
with_if false q X = X

live_if : (b : Bool) (e : Entry) (es : List Entry) (h : ℕ → Hold) (P : ℕ → Piece) → live (cond b (e ∷ es) es) h P ≡ with_if b (at_hold (h e.var) (P e.var)) (live es h P)
live_if true e es h P = refl
live_if false e es h P = refl

part_out : (a b : Bool) (q L R S N : Piece) → plus q (plus L (plus R (plus S N))) ≡ plus (with_if (a && not b) q L) (plus (with_if (b && not a) q R) (plus (with_if (a && b) q S) (with_if (not a && not b) q N)))
part_out true true q L R S N = swap q L (plus R (plus S N)) ∙ ap (plus L) (swap q R (plus S N) ∙ ap (plus R) (sym (plus-assoc q S N)))
part_out true false q L R S N = sym (plus-assoc q L (plus R (plus S N)))
part_out false true q L R S N = swap q L (plus R (plus S N)) ∙ ap (plus L) (sym (plus-assoc q R (plus S N)))
part_out false false q L R S N = swap q L (plus R (plus S N)) ∙ ap (plus L) (swap q R (plus S N) ∙ ap (plus R) (swap q S N))

-- what is held: the left's, the right's, what both use, and what neither uses
pub parted : (l r : ℕ → Bool) (h : ℕ → Hold) (P : ℕ → Piece) (es : List Entry) → live es h P ≡ plus (live (keep (one l r) es) h P) (plus (live (keep (one r l) es) h P) (plus (live (keep (both l r) es) h P) (live (keep (neither l r) es) h P)))
parted l r h P [] = refl
parted l r h P (d ∷ es) =
    let q = at_hold (h d.var) (P d.var) in
    ap (plus q) (parted l r h P es) ∙ part_out (l d.var) (r d.var) q (live (keep (one l r) es) h P) (live (keep (one r l) es) h P) (live (keep (both l r) es) h P) (live (keep (neither l r) es) h P) ∙
    ap (λ y. plus y (plus (with_if (r d.var && not (l d.var)) q (live (keep (one r l) es) h P)) (plus (with_if (l d.var && r d.var) q (live (keep (both l r) es) h P)) (with_if (not (l d.var) && not (r d.var)) q (live (keep (neither l r) es) h P))))) (sym (live_if (l d.var && not (r d.var)) d (keep (one l r) es) h P)) ∙
    ap (λ y. plus (live (keep (one l r) (d ∷ es)) h P) (plus y (plus (with_if (l d.var && r d.var) q (live (keep (both l r) es) h P)) (with_if (not (l d.var) && not (r d.var)) q (live (keep (neither l r) es) h P))))) (sym (live_if (r d.var && not (l d.var)) d (keep (one r l) es) h P)) ∙
    ap (λ y. plus (live (keep (one l r) (d ∷ es)) h P) (plus (live (keep (one r l) (d ∷ es)) h P) (plus y (with_if (not (l d.var) && not (r d.var)) q (live (keep (neither l r) es) h P))))) (sym (live_if (l d.var && r d.var) d (keep (both l r) es) h P)) ∙
    ap (λ y. plus (live (keep (one l r) (d ∷ es)) h P) (plus (live (keep (one r l) (d ∷ es)) h P) (plus (live (keep (both l r) (d ∷ es)) h P) y))) (sym (live_if (not (l d.var) && not (r d.var)) d (keep (neither l r) es) h P))

-- holds and pieces that are the same on what is chosen
pub keep_same : (u : ℕ → Bool) (g h : ℕ → Hold) (P P' : ℕ → Piece) (es : List Entry) → ((v : ℕ) → u v ≡ true → at_hold (g v) (P v) ≡ at_hold (h v) (P' v)) → live (keep u es) g P ≡ live (keep u es) h P'
keep_same u g h P P' [] w = refl
keep_same u g h P P' (e ∷ es) w =
    let more = keep_same u g h P P' es w in
    cond_both {A = List Entry} (u e.var) (e ∷ keep u es) (keep u es) (λ y. live y g P ≡ live y h P')
    (λ k. ap (λ y. plus y (live (keep u es) g P)) (w e.var k) ∙ ap (plus (at_hold (h e.var) (P' e.var))) more) (λ k. more)

there_kept : (g : Hold) (p : Piece) → is_there g ≡ true → at_hold g p ≡ p
there_kept Owned p e = refl
there_kept Kept p e = refl
there_kept Gone p e = cc e

not_or : (a b : Bool) → (not a || b) ≡ true → a ≡ true → b ≡ true
not_or true b e w = e
not_or false b e w = cc w

none_held : (g : Hold) (p : Piece) → p ≡ none → at_hold g p ≡ p
none_held Owned p e = refl
none_held Kept p e = refl
none_held Gone p e = sym e

-- a container that is there is held; what is no container has nothing
pub used_held : (D : Dyn) (hold : ℕ → Hold) (e : Entry) → Represents e.shape.rep (D.value e.var) (map (word D) e.words) (D.piece e.var) → (is_container e.shape.rep ≡ true → is_gone (hold e.var) ≡ false) → at_hold (hold e.var) (D.piece e.var) ≡ D.piece e.var
used_held D hold e r t = by (is_container e.shape.rep) refl
  where
    by : (c : Bool) → is_container e.shape.rep ≡ c → at_hold (hold e.var) (D.piece e.var) ≡ D.piece e.var
    by true c = there_hold (hold e.var) (D.piece e.var) (t c)
    by false c = none_held (hold e.var) (D.piece e.var) (no_piece e.shape.rep (D.value e.var) (map (word D) e.words) (D.piece e.var) c r)

-- what is chosen is all there
pub keep_there : (sel used : ℕ → Bool) → ((v : ℕ) → sel v ≡ true → used v ≡ true) → (h : ℕ → Hold) (D : Dyn) (es : List Entry) → Rels D es → Used_there used h es → live (keep sel es) h D.piece ≡ live (keep sel es) all_held D.piece
keep_there sel used w h D [] r t = refl
keep_there sel used w h D (e ∷ es) r t =
    let more = keep_there sel used w h D es r.1 t.1 in
    cond_both {A = List Entry} (sel e.var) (e ∷ keep sel es) (keep sel es) (λ y. live y h D.piece ≡ live y all_held D.piece)
    (λ k. ap (λ y. plus y (live (keep sel es) h D.piece)) (used_held D h e r.0.0 (t.0 (w e.var k))) ∙ ap (plus (D.piece e.var)) more) (λ k. more)

-- halves and rests are all
pub halves_sum : (P : ℕ → Piece) (es : List Entry) → plus (live es all_held (λ v. half_of (P v))) (live es all_held (λ v. rest_of (P v))) ≡ live es all_held P
halves_sum P [] = refl
halves_sum P (e ∷ es) =
    let a = half_of (P e.var) in let b = rest_of (P e.var) in
    let A = live es all_held (λ v. half_of (P v)) in let B = live es all_held (λ v. rest_of (P v)) in
    plus-assoc a A (plus b B) ∙ ap (plus a) (swap A b B) ∙ sym (plus-assoc a b (plus A B)) ∙ ap (λ y. plus y (plus A B)) (halves (P e.var)) ∙ ap (plus (P e.var)) (halves_sum P es)

-- what a branch holds: what it alone uses, and what is lent
pub branch_live : (l r : ℕ → Bool) (h : ℕ → Hold) (P G : ℕ → Piece) (es : List Entry) → there_all (both l r) h es ≡ true → live (branch_entries l r es) h (λ v. cond (r v) (G v) (P v)) ≡ plus (live (keep (one l r) es) h P) (live (keep (both l r) es) all_held G)
branch_live l r h P G [] t = refl
branch_live l r h P G (e ∷ es) t =
    let a = and_parts (not (l e.var && r e.var) || is_there (h e.var)) (there_all (both l r) h es) t in
    at (l e.var) (r e.var) refl refl a.0 (branch_live l r h P G es a.1)
  where
    Q : ℕ → Piece
    Q v = cond (r v) (G v) (P v)

    at : (x y : Bool) → l e.var ≡ x → r e.var ≡ y → (not (l e.var && r e.var) || is_there (h e.var)) ≡ true → live (branch_entries l r es) h Q ≡ plus (live (keep (one l r) es) h P) (live (keep (both l r) es) all_held G) → live (branch_entries l r (e ∷ es)) h Q ≡ plus (live (keep (one l r) (e ∷ es)) h P) (live (keep (both l r) (e ∷ es)) all_held G)
    at x y ex ey ok ih =
        live_if (l e.var) (share_entry r e) (branch_entries l r es) h Q ∙ by x y ex ey ok ∙
        ap (λ z. plus z (with_if (l e.var && r e.var) (G e.var) (live (keep (both l r) es) all_held G))) (sym (live_if (l e.var && not (r e.var)) e (keep (one l r) es) h P)) ∙
        ap (plus (live (keep (one l r) (e ∷ es)) h P)) (sym (live_if (l e.var && r e.var) e (keep (both l r) es) all_held G))
      where
        A : Piece
        A = live (keep (one l r) es) h P

        B : Piece
        B = live (keep (both l r) es) all_held G

        by : (x y : Bool) → l e.var ≡ x → r e.var ≡ y → (not (l e.var && r e.var) || is_there (h e.var)) ≡ true → with_if (l e.var) (at_hold (h e.var) (Q e.var)) (live (branch_entries l r es) h Q) ≡ plus (with_if (l e.var && not (r e.var)) (at_hold (h e.var) (P e.var)) A) (with_if (l e.var && r e.var) (G e.var) B)
        by true true ex ey ok =
            ap (λ z. with_if z (at_hold (h e.var) (Q e.var)) (live (branch_entries l r es) h Q)) ex ∙
            ap (λ z. plus z (live (branch_entries l r es) h Q)) (ap (at_hold (h e.var)) (ap (λ z. cond z (G e.var) (P e.var)) ey) ∙ there_kept (h e.var) (G e.var) (not_or (l e.var && r e.var) (is_there (h e.var)) ok (ap (λ z. z && r e.var) ex ∙ ey))) ∙
            ap (plus (G e.var)) ih ∙ swap (G e.var) A B ∙
            sym (ap (λ z. plus (with_if (z && not (r e.var)) (at_hold (h e.var) (P e.var)) A) (with_if (z && r e.var) (G e.var) B)) ex ∙ ap (λ z. plus (with_if (not z) (at_hold (h e.var) (P e.var)) A) (with_if z (G e.var) B)) ey)
        by true false ex ey ok =
            ap (λ z. with_if z (at_hold (h e.var) (Q e.var)) (live (branch_entries l r es) h Q)) ex ∙
            ap (λ z. plus z (live (branch_entries l r es) h Q)) (ap (at_hold (h e.var)) (ap (λ z. cond z (G e.var) (P e.var)) ey)) ∙
            ap (plus (at_hold (h e.var) (P e.var))) ih ∙ sym (plus-assoc (at_hold (h e.var) (P e.var)) A B) ∙
            sym (ap (λ z. plus (with_if (z && not (r e.var)) (at_hold (h e.var) (P e.var)) A) (with_if (z && r e.var) (G e.var) B)) ex ∙ ap (λ z. plus (with_if (not z) (at_hold (h e.var) (P e.var)) A) (with_if z (G e.var) B)) ey)
        by false y ex ey ok =
            ap (λ z. with_if z (at_hold (h e.var) (Q e.var)) (live (branch_entries l r es) h Q)) ex ∙ ih ∙
            sym (ap (λ z. plus (with_if (z && not (r e.var)) (at_hold (h e.var) (P e.var)) A) (with_if (z && r e.var) (G e.var) B)) ex)
