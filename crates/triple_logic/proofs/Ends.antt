-- The laws of runs of one leaf that never forks: safety, steps and claims together.
use Rattle.std.proofs.Common.{◌≡◌, ℕ, zero, suc, ◌+◌, ◌≤◌, Bool, true, false, cond, List, [], ◌∷◌, refl, sym, ap, ◌∙◌, subst, arith, eqb, eqb-true}
use Rattle.std.proofs.lemmas.Bool.{cond_both, cond-true, cond-false}
use Rattle.std.proofs.Math.Path.{fun_ext}
use Rattle.std.specs.Prelude.{Option, Some, None}
use Rattle.target_code.specs.declared.tree.Proc.{Proc}
use Rattle.target_meaning.specs.declared.path.Side.{Side}
use Rattle.target_meaning.specs.Leaf.{Stack, Run, End, Caller, Act, Go, Read, Write, Make, Cut, Split, Over, Bad, act, resume}
use Rattle.target_meaning.specs.Machine.{Heap, Room, Cell, Never, Live, Freed, Tree, Leaf, move, depth}
use Rattle.target_meaning.specs.Piece.{Share, Nil, Some_of, Clash, add, add_if, Piece, plus, at_place, Fits, Holds}
use Rattle.target_meaning.specs.Held.{block_of, stored, with_new, without, holdings, AllWhole, Fine}
use Rattle.target_meaning.specs.Runs.{OnMoved, IsLive}
use Rattle.triple_logic.specs.Safe.{Halt, at_end, AtRoot, Safe}
use Rattle.triple_logic.specs.Bounded.{Bounded}
use Rattle.target_meaning.proofs.Shares.{add-nil, fits_left, holds_left}
use Rattle.triple_logic.proofs.Par.{root_map}
use Rattle.triple_logic.proofs.Moves.{Moves, read_moves, write_moves, make_moves, cut_moves}
use Rattle.triple_logic.proofs.Frame.{whole_sum, fine_more}
use Rattle.target_meaning.proofs.Covers.{write_framed}
use Rattle.target_meaning.proofs.Races.{cut_alone}
use Rattle.triple_logic.proofs.Bind.{act_map, Under}
use Rattle.triple_logic.proofs.Call.{on_call, call_wait}
use Rattle.triple_logic.proofs.Bounded.{ends_safe}
use Rattle.triple_logic.specs.Weakest.{End_fact, MayMake, Next, Ends, Ended, Beside}

abbrev pub Duty : Type 1
Duty = List ℕ → Stack → Piece → Type 0

-- ---- monotony

pub may_map : (a : List ℕ) (n : ℕ) (R S : List ℕ → Type 0) → ((c : List ℕ) → R c → S c) → MayMake a n R → MayMake a n S
may_map [] n R S e m = m
may_map (w ∷ ws) n R S e m = (m.0, e ws m.1)

pub next_map : (R S : Duty) → ((a : List ℕ) (s : Stack) (p : Piece) → R a s p → S a s p) → (a : List ℕ) (x : Act) (p : Piece) → Next R a x p → Next S a x p
next_map R S e a (Go u) p n = e a u p n
next_map R S e a (Read b i k) p n = (n.0, n.1, n.2, e a (k n.0) p n.3)
next_map R S e a (Write b i v u) p n = (n.0, e a u (stored p b i v) n.1)
next_map R S e a (Make l k) p n = may_map a l _ _ (λ c g x f. e c (k x) (with_new p x l) (g x f)) n
next_map R S e a (Cut b u) p n = (n.0, e a u (without p b) n.1)
next_map R S e a (Split l r w) p n = n
next_map R S e a Over p n = n
next_map R S e a (Bad r) p n = n

module _ (T : List Proc) (halt : Halt) (Q : End_fact) where
  pub here : (b : ℕ) (a : List ℕ) (s : Stack) (p : Piece) → ((h : Heap) → Holds p h → Ends T halt Q b a s p) → Ends T halt Q b a s p
  unfolding Ends
  here zero a s p w = λ h hs. w h hs h hs
  here (suc b) a s p w = λ h hs. w h hs h hs

  pub longer : (b : ℕ) (a : List ℕ) (s : Stack) (p : Piece) → Ends T halt Q b a s p → Ends T halt Q (suc b) a s p
  unfolding Ends
  longer zero a s p w = λ h hs. root_map (halt s) _ _ _ _ (λ vs m. m) (λ f. absurd f) (w h hs)
  longer (suc b) a s p w = λ h hs. root_map (halt s) _ _ _ _ (λ vs m. m) (next_map (Ends T halt Q b) (Ends T halt Q (suc b)) (λ c u q m. longer b c u q m) a (act T s) p) (w h hs)

  pub longer_by : (k b : ℕ) (a : List ℕ) (s : Stack) (p : Piece) → Ends T halt Q b a s p → Ends T halt Q (k + b) a s p
  longer_by zero b a s p w = subst (λ y. Ends T halt Q y a s p) (let e : b ≡ 0 + b = omega arith in e) w
  longer_by (suc k) b a s p w = subst (λ y. Ends T halt Q y a s p) (let e : suc (k + b) ≡ suc k + b = omega arith in e) (longer (k + b) a s p (longer_by k b a s p w))

  pub ends_over : (b : ℕ) (a : List ℕ) (s : Stack) (p : Piece) (vs : List ℕ) → halt s ≡ Some vs → ((h : Heap) → Holds p h → Q a vs p) → Ends T halt Q b a s p
  unfolding Ends
  ends_over zero a s p vs o m = λ h hs. subst (λ y. AtRoot y (λ vs. Q a vs p) ⊥) (sym o) (m h hs)
  ends_over (suc b) a s p vs o m = λ h hs. subst (λ y. AtRoot y (λ vs. Q a vs p) (Next (Ends T halt Q b) a (act T s) p)) (sym o) (m h hs)

  pub ends_step : (b : ℕ) (a : List ℕ) (s : Stack) (p : Piece) (x : Act) → halt s ≡ None → act T s ≡ x → Next (Ends T halt Q b) a x p → Ends T halt Q (suc b) a s p
  unfolding Ends
  ends_step b a s p x o e n = λ h hs. subst (λ y. AtRoot y (λ vs. Q a vs p) (Next (Ends T halt Q b) a (act T s) p)) (sym o) (subst (λ y. Next (Ends T halt Q b) a y p) (sym e) n)

  -- a weaker end
  pub ends_weaker : (R : End_fact) → ((a : List ℕ) (vs : List ℕ) (q : Piece) (h : Heap) → Holds q h → Q a vs q → R a vs q) → (b : ℕ) (a : List ℕ) (s : Stack) (p : Piece) → Ends T halt Q b a s p → Ends T halt R b a s p
  unfolding Ends
  ends_weaker R e zero a s p w = λ h hs. root_map (halt s) _ _ _ _ (λ vs m. e a vs p h hs m) (λ f. f) (w h hs)
  ends_weaker R e (suc b) a s p w = λ h hs. root_map (halt s) _ _ _ _ (λ vs m. e a vs p h hs m) (next_map (Ends T halt Q b) (Ends T halt R b) (λ c u q m. ends_weaker R e b c u q m) a (act T s) p) (w h hs)

-- ---- bounded runs are safe, and end

module _ (P : Tree Piece → Type 0) (f : ℕ) where
  make_moved : (R : Duty) → ((a : List ℕ) (s : Stack) (p : Piece) → R a s p → P (Leaf p s)) → (a : List ℕ) (n : ℕ) (k : ℕ → Stack) (p : Piece) (h : Heap) → Holds p h → Next R a (Make n k) p → Moves P f p (Make n k) h
  make_moved R e [] n k p h hs m = absurd m
  make_moved R e (w ∷ ws) n k p h hs m = make_moves P f p n k h hs (λ x free. e ws (k x) (with_new p x n) (m.1 x free))

  pub step_moved : (R : Duty) → ((a : List ℕ) (s : Stack) (p : Piece) → R a s p → P (Leaf p s)) → (a : List ℕ) (x : Act) (p : Piece) (h : Heap) → Holds p h → Next R a x p → Fine f x p × Moves P f p x h
  step_moved R e a (Go u) p h hs n = (tt, λ room d l. e a u p n)
  step_moved R e a (Read b i k) p h hs n = read_moves P f p b i n.0 n.1 k h hs n.2 (e a (k n.0) p n.3)
  step_moved R e a (Write b i v u) p h hs n = write_moves P f p b i v u h n.0 (e a u (stored p b i v) n.1)
  step_moved R e a (Make l k) p h hs n = (tt, make_moved R e a l k p h hs n)
  step_moved R e a (Cut b u) p h hs n = cut_moves P f p b u h n.0 (e a u (without p b) n.1)
  step_moved R e a (Split l r w) p h hs n = absurd n
  step_moved R e a Over p h hs n = absurd n
  step_moved R e a (Bad r) p h hs n = absurd n

module _ (T : List Proc) (halt : Halt) (Q : End_fact) (f : ℕ) where
  abbrev pub Some_left : List ℕ → Piece → Type 0
  Some_left vs q = (c : List ℕ) × Q c vs q

  pub ends_bounded : (b : ℕ) (a : List ℕ) (s : Stack) (p : Piece) → Ends T halt Q b a s p → Bounded T halt Some_left b f (Leaf p s)
  unfolding Ends Bounded
  ends_bounded zero a s p w = λ h hs. root_map (halt s) _ _ _ _ (λ vs m. (a, m)) (λ g. g) (w h hs)
  ends_bounded (suc b) a s p w = λ h hs.
      root_map (halt s) _ _ _ _ (λ vs m. (a, m))
      (λ g. let st = step_moved (Bounded T halt Some_left b f) f (Ends T halt Q b) (λ c u q m. ends_bounded b c u q m) a (act T s) p h hs g in
      (st.0, λ room path x. at_path room path x h st.1)) (w h hs)
    where
      at_path : (room : Room) (path : List Side) (x : ℕ) (h : Heap) → Moves (Bounded T halt Some_left b f) f p (act T s) h → OnMoved (move holdings room T (Leaf p s) h path x) (λ u k. f + depth u ≤ 64 → Bounded T halt Some_left b f u)
      at_path room [] x h m = m room x
      at_path room (d ∷ ds) x h m = tt

  pub ends_are_safe : (n b : ℕ) (a : List ℕ) (s : Stack) (p : Piece) → Ends T halt Q b a s p → Safe T halt Some_left n f (Leaf p s)
  ends_are_safe n b a s p w = ends_safe T halt Some_left n b f (Leaf p s) (ends_bounded b a s p w)

-- ---- calls

module _ (T : List Proc) (halt : Halt) (c : Caller) (cs : List Caller) (U : Under T at_end halt (on_call c cs) (call_wait c cs)) (Q1 Q : End_fact) (m : ℕ) where
  abbrev pub After_call : Type 0
  After_call = (a vs : List ℕ) (q : Piece) → Q1 a vs q → Ends T halt Q m a (Run (resume c vs) cs) q

  may_on : (a : List ℕ) (n : ℕ) (R S : List ℕ → Type 0) → ((c : List ℕ) → R c → S c) → MayMake a n R → MayMake a n S
  may_on = may_map

  next_on : (R S : Duty) → ((a : List ℕ) (s : Stack) (p : Piece) → R a s p → S a (on_call c cs s) p) → (a : List ℕ) (x : Act) (p : Piece) → Next R a x p → Next S a (act_map (on_call c cs) (call_wait c cs) x) p
  next_on R S e a (Go u) p n = e a u p n
  next_on R S e a (Read b i k) p n = (n.0, n.1, n.2, e a (k n.0) p n.3)
  next_on R S e a (Write b i v u) p n = (n.0, e a u (stored p b i v) n.1)
  next_on R S e a (Make l k) p n = may_map a l _ _ (λ c g x f. e c (k x) (with_new p x l) (g x f)) n
  next_on R S e a (Cut b u) p n = (n.0, e a u (without p b) n.1)
  next_on R S e a (Split l r w) p n = n
  next_on R S e a Over p n = n
  next_on R S e a (Bad r) p n = n

  pub ends_call : (b : ℕ) (a : List ℕ) (s : Stack) (p : Piece) → Ends T at_end Q1 b a s p → After_call → Ends T halt Q (b + m) a (on_call c cs s) p
  unfolding Ends
  ends_call zero a (Run g ds) p w next = here T halt Q (0 + m) a (on_call c cs (Run g ds)) p (λ h hs. absurd (w h hs))
  ends_call zero a (End vs) p w next = subst (λ y. Ends T halt Q y a (on_call c cs (End vs)) p) (let e : m ≡ 0 + m = omega arith in e) (here T halt Q m a (on_call c cs (End vs)) p (λ h hs. next a vs p (w h hs)))
  ends_call (suc b) a (End vs) p w next =
      longer_by T halt Q (suc b) m a (on_call c cs (End vs)) p (here T halt Q m a (on_call c cs (End vs)) p (λ h hs. next a vs p (w h hs)))
  ends_call (suc b) a (Run g ds) p w next =
      subst (λ y. Ends T halt Q y a (on_call c cs (Run g ds)) p) (let e : suc (b + m) ≡ suc b + m = omega arith in e)
      (here T halt Q (suc (b + m)) a (on_call c cs (Run g ds)) p (λ h hs.
      ends_step T halt Q (b + m) a (on_call c cs (Run g ds)) p _ (U.goes (Run g ds) refl) (U.acts (Run g ds) refl)
      (next_on (Ends T at_end Q1 b) (Ends T halt Q (b + m)) (λ d u q r. ends_call b d u q r next) a (act T (Run g ds)) p (w h hs))))

-- ---- frames

value_if : (e : Bool) (v k j : ℕ) (o : Option ℕ) → Fits (add_if e v k j) o → (l : ℕ) × (add_if e v k j ≡ Some_of v l)
value_if true v k j o f = (suc (k + j), refl)
value_if false v k j o f = absurd f

value_sum : (v k : ℕ) (y : Share) (o : Option ℕ) → Fits (add (Some_of v k) y) o → (l : ℕ) × (add (Some_of v k) y ≡ Some_of v l)
value_sum v k Nil o f = (k, refl)
value_sum v k Clash o f = absurd f
value_sum v k (Some_of u j) o f = value_if (eqb v u) v k j o f

pub nil_right : (x y : Share) → add x y ≡ Nil → y ≡ Nil
nil_right Nil y e = e
nil_right Clash y e = absurd (let f : ⊥ = cc e in f)
nil_right (Some_of v k) Nil e = refl
nil_right (Some_of v k) Clash e = refl_absurd e
  where
    refl_absurd : Clash ≡ Nil → Clash ≡ Nil
    refl_absurd d = d
nil_right (Some_of v k) (Some_of u j) e = absurd (at (eqb v u) e)
  where
    at : (b : Bool) → add_if b v k j ≡ Nil → ⊥
    at true d = cc d
    at false d = cc d

nil_left : (x y : Share) → add x y ≡ Nil → x ≡ Nil
nil_left Nil y e = refl
nil_left Clash y e = e
nil_left (Some_of v k) Nil e = e
nil_left (Some_of v k) Clash e = absurd (let f : ⊥ = cc e in f)
nil_left (Some_of v k) (Some_of u j) e = absurd (at (eqb v u) e)
  where
    at : (b : Bool) → add_if b v k j ≡ Nil → ⊥
    at true d = cc d
    at false d = cc d

pub live_of : (x : Share) (at : ℕ → Share) (c : Cell) → AllWhole x at → Fits x (at_place c 0) → IsLive c
live_of Nil at c w f = absurd w
live_of Clash at c w f = absurd w
live_of (Some_of n k) at Never w f = absurd (let g : ⊥ = cc f.0 in g)
live_of (Some_of n k) at Freed w f = absurd (let g : ⊥ = cc f.0 in g)
live_of (Some_of n k) at (Live ws) w f = tt

module _ (q : Piece) where
  pub new_sum : (p : Piece) (x n : ℕ) → ((j : ℕ) → q x j ≡ Nil) → with_new (plus p q) x n ≡ plus (with_new p x n) q
  new_sum p x n alone = fun_ext (λ c. fun_ext (λ j.
      cond_both (eqb c x) (block_of n j) (p c j)
      (λ y. cond (eqb c x) (block_of n j) (add (p c j) (q c j)) ≡ add y (q c j))
      (λ d. let bit : q c j ≡ Nil = rw (eqb-true c x d) (alone j) in cond-true (eqb c x) _ _ d ∙ sym (ap (add (block_of n j)) bit ∙ add-nil (block_of n j)))
      (λ d. cond-false (eqb c x) _ _ d)))

  pub cut_sum : (p : Piece) (b : ℕ) → ((j : ℕ) → q b j ≡ Nil) → without (plus p q) b ≡ plus (without p b) q
  cut_sum p b alone = fun_ext (λ c. fun_ext (λ j.
      cond_both (eqb c b) Nil (p c j)
      (λ y. cond (eqb c b) Nil (add (p c j) (q c j)) ≡ add y (q c j))
      (λ d. let bit : q c j ≡ Nil = rw (eqb-true c b d) (alone j) in cond-true (eqb c b) _ _ d ∙ sym bit)
      (λ d. cond-false (eqb c b) _ _ d)))

  make_frame : (R S : Duty) → ((a : List ℕ) (s : Stack) (p : Piece) → R a s p → S a s (plus p q)) → (a : List ℕ) (n : ℕ) (k : ℕ → Stack) (p : Piece) → Next R a (Make n k) p → Next S a (Make n k) (plus p q)
  make_frame R S e [] n k p m = m
  make_frame R S e (w ∷ ws) n k p m = (
    m.0,
    λ x free.
        subst (S ws (k x)) (sym (new_sum p x n (λ j. nil_right (p x j) (q x j) (free j)))) (e ws (k x) (with_new p x n) (m.1 x (λ j. nil_left (p x j) (q x j) (free j)))),
  )

  next_frame : (R S : Duty) → ((a : List ℕ) (s : Stack) (p : Piece) → R a s p → S a s (plus p q)) → (a : List ℕ) (x : Act) (p : Piece) (h : Heap) → Holds (plus p q) h → Next R a x p → Next S a x (plus p q)
  next_frame R S e a (Go u) p h hs n = e a u p n
  next_frame R S e a (Read b i k) p h hs n =
      let v = value_sum n.0 n.1 (q b (suc i)) (at_place (h.cells b) (suc i)) (subst (λ y. Fits (add y (q b (suc i))) (at_place (h.cells b) (suc i))) n.2 (hs.places b (suc i))) in
      (n.0, v.0, ap (λ y. add y (q b (suc i))) n.2 ∙ v.1, e a (k n.0) p n.3)
  next_frame R S e a (Write b i v u) p h hs n = (
    whole_sum (p b (suc i)) (q b (suc i)) _ n.0 (hs.places b (suc i)),
    subst (S a u) (sym (write_framed p q h b i v 0 u hs n.0)) (e a u (stored p b i v) n.1),
  )
  next_frame R S e a (Make l k) p h hs n = make_frame R S e a l k p n
  next_frame R S e a (Cut b u) p h hs n = (
    fine_more 0 (Cut b u) p q h hs n.0,
    subst (S a u) (sym (cut_sum p b (λ j. cut_alone p q h b j (h.cells b) refl (live_of (p b 0) (p b) (h.cells b) n.0 (fits_left (p b 0) (q b 0) _ (hs.places b 0))) n.0 hs))) (e a u (without p b) n.1),
  )
  next_frame R S e a (Split l r w) p h hs n = absurd n
  next_frame R S e a Over p h hs n = absurd n
  next_frame R S e a (Bad r) p h hs n = absurd n

  module _ (T : List Proc) (halt : Halt) (Q : End_fact) where
    pub ends_frame : (b : ℕ) (a : List ℕ) (s : Stack) (p : Piece) → Ends T halt Q b a s p → Ends T halt (Beside Q q) b a s (plus p q)
    unfolding Ends
    ends_frame zero a s p w = λ h hs. root_map (halt s) _ _ _ _ (λ vs m. (p, refl, m)) (λ f. f) (w h (holds_left p q h hs))
    ends_frame (suc b) a s p w = λ h hs.
        root_map (halt s) _ _ _ _ (λ vs m. (p, refl, m))
        (next_frame (Ends T halt Q b) (Ends T halt (Beside Q q) b) (λ c u r m. ends_frame b c u r m) a (act T s) p h hs) (w h (holds_left p q h hs))

-- a law whose end has that shape, where another end is asked for
pub by_law : (T : List Proc) (X : Type 0) (A V : X → List ℕ) (P : X → Piece) (R : End_fact) (b : ℕ) (a : List ℕ) (s : Stack) (p : Piece) → Ends T at_end (Ended X A V P) b a s p → ((x : X) → R (A x) (V x) (P x)) → Ends T at_end R b a s p
by_law T X A V P R b a s p w f =
    ends_weaker T at_end (Ended X A V P) R
    (λ c vs q h hs m. subst (λ y. R y vs q) (sym m.1) (subst (λ y. R (A m.0) y q) (sym m.2) (subst (λ y. R (A m.0) (V m.0) y) (sym m.3) (f m.0)))) b a s p w
