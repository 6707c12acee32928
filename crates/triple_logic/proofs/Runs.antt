-- From safety for every number of steps to each state that a schedule reaches.
use Rattle.std.proofs.Common.{◌≡◌, ℕ, suc, ◌+◌, ◌≤◌, List, [], ◌∷◌, refl, sym, subst, arith, ⊎_elim, length}
use Rattle.target_code.specs.declared.tree.Proc.{Proc}
use Rattle.target_meaning.specs.declared.path.Side.{Side}
use Rattle.target_meaning.specs.Leaf.{Stack, Run, End, act}
use Rattle.target_meaning.specs.Machine.{Heap, Room, IsSized, Tree, Leaf, Fork, Answer, Moved, Stuck, Full, NoSuchLeaf, NameUsed, nothing, move, depth}
use Rattle.target_meaning.specs.Piece.{Piece, none, Holds, Covers}
use Rattle.target_meaning.specs.Held.{holdings, total, AllFine}
use Rattle.target_meaning.specs.Runs.{Schedule, OnMoved, reach, IsShallow, Race, bare, bare_answer}
use Rattle.target_meaning.proofs.Shares.{plus-none}
use Rattle.target_meaning.proofs.Moved.{moved_map, moved_all, moved_both, moved_then}
use Rattle.target_meaning.proofs.Keeps.{Kept, keeps}
use Rattle.target_meaning.specs.Unowned.{SomeUnowned}
use Rattle.target_meaning.proofs.Cases.{fine_owned}
use Rattle.target_meaning.proofs.Races.{no_race}
use Rattle.target_meaning.proofs.Bare.{reach_bare, shallow_bare, race_bare}
use Rattle.target_meaning.proofs.Stuck.{no_stuck}
use Rattle.target_meaning.proofs.Covers.{Covered, covers_kept}
use Rattle.triple_logic.specs.Safe.{at_end, Safe}
use Rattle.triple_logic.specs.Bounded.{Bounded}
use Rattle.triple_logic.specs.Reached.{RootMeets, Good, IsReached}
use Rattle.triple_logic.proofs.Par.{fine_of, steps_of}
use Rattle.triple_logic.proofs.Bounded.{Lower, bounded_fine, bounded_steps}

-- leaves that are fine are owned
pub all_owned : (T : List Proc) (f : ℕ) (t : Tree Piece) → AllFine T f t → SomeUnowned T f t → ⊥
all_owned T f (Leaf p s) w u = fine_owned f (act T s) p w u
all_owned T f (Fork p v l r) w u = ⊎_elim (all_owned T (suc f) l w.0) (all_owned T (suc f) r w.1) u

module _ (room : Room) (T : List Proc) (Q : List ℕ → Piece → Type 0) where
  root_meets : (t : Tree Piece) (h : Heap) → Holds (total t) h → Safe T at_end Q 1 0 t → RootMeets Q t
  unfolding Safe
  root_meets (Leaf p (Run f cs)) h hs s = tt
  root_meets (Leaf p (End vs)) h hs s = s h hs
  root_meets (Fork p w l r) h hs s = tt

  good_now : (t : Tree Piece) (h : Heap) → Holds (total t) h → Safe T at_end Q 1 0 t → Good room T Q t h
  good_now t h hs s =
      let fine = fine_of T Q 0 0 t h hs s in
      record {
        fine = fine;
        owned = all_owned T 0 t fine;
        holds = hs;
        meets = root_meets t h hs s;
        free = λ path x. no_stuck room T 0 t h path x fine hs;
        calm = no_race T 0 t h fine hs;
      }

  pub shallow_now : (es : Schedule) (t : Tree Piece) (h : Heap) → IsShallow holdings room T es t h → depth t ≤ 64
  shallow_now [] t h w = w
  shallow_now (e ∷ es) t h w = w.0

  module _ (sized : IsSized room) where
    -- one step from a safe tree: what is held is there, and the tree is safe
    pub safe_step : (t : Tree Piece) (h : Heap) (path : List Side) (x : ℕ) → Holds (total t) h → ((n : ℕ) → Safe T at_end Q n 0 t) → OnMoved (move holdings room T t h path x) (λ u g. Holds (total u) g × ((n : ℕ) → 0 + depth u ≤ 64 → Safe T at_end Q n 0 u))
    safe_step t h path x hs s =
        let a = move holdings room T t h path x in
        moved_both a (λ u g. Holds (total u) g) (λ u g. (n : ℕ) → 0 + depth u ≤ 64 → Safe T at_end Q n 0 u) _ (λ u g m v. (m, v))
        (moved_map a (Kept none) _ (λ u g m. subst (λ y. Holds y g) (plus-none (total u)) m)
        (keeps room sized T 0 t none h path x (fine_of T Q 0 0 t h hs (s 1)) (subst (λ y. Holds y h) (sym (plus-none (total t))) hs)))
        (moved_all a (λ n u g. 0 + depth u ≤ 64 → Safe T at_end Q n 0 u) (λ n. steps_of T Q n 0 t h hs (s (suc n)) room path x))

    -- each state that a schedule reaches from a safe one
    pub run_safe : (es : Schedule) (t : Tree Piece) (h : Heap) → Holds (total t) h → ((n : ℕ) → Safe T at_end Q n 0 t) → IsShallow holdings room T es t h → OnMoved (reach holdings room T es t h) (λ u g. Good room T Q u g)
    run_safe [] t h hs s w = good_now t h hs (s 1)
    run_safe (e ∷ es) t h hs s w =
        let a = move holdings room T t h e.0 e.1 in
        moved_then a (λ u g. reach holdings room T es u g) (λ u g. Good room T Q u g)
        (moved_both a (λ u g. Holds (total u) g × ((n : ℕ) → 0 + depth u ≤ 64 → Safe T at_end Q n 0 u)) (λ u g. IsShallow holdings room T es u g) _
        (λ u g m v. run_safe es u g m.0 (λ n. m.1 n (let d = shallow_now es u g v in omega (arith, d))) v)
        (safe_step t h e.0 e.1 hs s)
        w.1)

    -- what each step of fine leaves keeps holds at the end of a schedule, if it holds at its beginning
    module _ (I : Tree Piece → Heap → Type 0) (step : (t : Tree Piece) (h : Heap) (path : List Side) (x : ℕ) → AllFine T 0 t → Holds (total t) h → I t h → OnMoved (move holdings room T t h path x) I) where
      pub run_keeps : (es : Schedule) (t : Tree Piece) (h : Heap) → Holds (total t) h → ((n : ℕ) → Safe T at_end Q n 0 t) → IsShallow holdings room T es t h → I t h → OnMoved (reach holdings room T es t h) I
      run_keeps [] t h hs s w i = i
      run_keeps (e ∷ es) t h hs s w i =
          moved_then (move holdings room T t h e.0 e.1) (λ u g. reach holdings room T es u g) I
          (moved_both (move holdings room T t h e.0 e.1) (λ u g. Holds (total u) g × ((n : ℕ) → 0 + depth u ≤ 64 → Safe T at_end Q n 0 u)) (λ u g. IsShallow holdings room T es u g × I u g) _
          (λ u g m v. run_keeps es u g m.0 (λ n. m.1 n (let d = shallow_now es u g v.0 in omega (arith, d))) v.0 v.1)
          (safe_step t h e.0 e.1 hs s)
          (moved_both (move holdings room T t h e.0 e.1) (λ u g. IsShallow holdings room T es u g) I _ (λ u g m v. (m, v)) w.1 (step t h e.0 e.1 (fine_of T Q 0 0 t h hs (s 1)) hs i)))

    covers_step : (t : Tree Piece) (h : Heap) (path : List Side) (x : ℕ) → AllFine T 0 t → Holds (total t) h → Covers (total t) h → OnMoved (move holdings room T t h path x) (λ u g. Covers (total u) g)
    covers_step t h path x fine hs cv =
        moved_map (move holdings room T t h path x) (Covered none) (λ u g. Covers (total u) g) (λ u g m. subst (λ y. Covers y g) (plus-none (total u)) m)
        (covers_kept room T 0 t none h path x fine (subst (λ y. Holds y h) (sym (plus-none (total t))) hs) (subst (λ y. Covers y h) (sym (plus-none (total t))) cv))

    -- from a start in which all that is live is held, all that is live is held in each state reached
    pub run_covers : (es : Schedule) (t : Tree Piece) (h : Heap) → Holds (total t) h → ((n : ℕ) → Safe T at_end Q n 0 t) → IsShallow holdings room T es t h → Covers (total t) h → OnMoved (reach holdings room T es t h) (λ u g. Covers (total u) g)
    run_covers es t h hs s w cv = run_keeps (λ u g. Covers (total u) g) covers_step es t h hs s w cv

-- no schedule from a bounded tree is longer than its bound
module _ (room : Room) (sized : IsSized room) (T : List Proc) (Q : List ℕ → Piece → Type 0) where
  pub run_bounded : (es : Schedule) (b : ℕ) (t : Tree Piece) (h : Heap) → Holds (total t) h → Bounded T at_end Q b 0 t → IsShallow holdings room T es t h → OnMoved (reach holdings room T es t h) (λ u g. length es ≤ b)
  run_bounded [] b t h hs w sh = omega arith
  run_bounded (e ∷ es) b t h hs w sh =
      let a = move holdings room T t h e.0 e.1 in
      moved_then a (λ u g. reach holdings room T es u g) (λ u g. length (e ∷ es) ≤ b)
      (moved_both a (λ u g. Holds (total u) g) (λ u g. (0 + depth u ≤ 64 → Lower T Q b 0 u) × IsShallow holdings room T es u g) _
      (λ u g m v. let lo = v.0 (let d = shallow_now room T Q es u g v.1 in omega (arith, d)) in
      moved_map (reach holdings room T es u g) (λ x y. length es ≤ lo.0) (λ x y. length (e ∷ es) ≤ b) (λ x y le. omega (arith, le, lo.1)) (run_bounded es lo.0 u g m lo.2 v.1))
      (moved_map a (Kept none) _ (λ u g m. subst (λ y. Holds y g) (plus-none (total u)) m)
      (keeps room sized T 0 t none h e.0 e.1 (bounded_fine T Q b 0 t h hs w) (subst (λ y. Holds y h) (sym (plus-none (total t))) hs)))
      (moved_both a (λ u g. 0 + depth u ≤ 64 → Lower T Q b 0 u) (λ u g. IsShallow holdings room T es u g) _ (λ u g m v. (m, v)) (bounded_steps T Q b 0 t h hs w room e.0 e.1) sh.1))

moved_onto : {A : Type 0} (a : Answer A) (P : Tree A → Heap → Type 0) → OnMoved a P → OnMoved (bare_answer a) (λ u h. (t : Tree A) × (bare t ≡ u) × P t h)
moved_onto (Moved t h) P m = (t, refl, m)
moved_onto (Stuck r) P m = tt
moved_onto Full P m = tt
moved_onto NoSuchLeaf P m = tt
moved_onto NameUsed P m = tt

-- what holds of each tree with pieces that a schedule reaches holds of the machine's own states
module _ (room : Room) (T : List Proc) (p : Piece) (s : Stack) (h : Heap) (P : Tree Piece → Heap → Type 0) where
  pub on_machine : (es : Schedule) → (IsShallow holdings room T es (Leaf p s) h → OnMoved (reach holdings room T es (Leaf p s) h) P) → IsShallow nothing room T es (Leaf tt s) h → OnMoved (reach nothing room T es (Leaf tt s) h) (IsReached P)
  on_machine es f w =
      subst (λ y. OnMoved y (IsReached P)) (reach_bare holdings room T es (Leaf p s) h)
      (moved_onto (reach holdings room T es (Leaf p s) h) P (f (shallow_bare holdings room T es (Leaf p s) h w)))

-- a state with no race among the leaves that hold pieces has none in the machine
pub calm_bare : (room : Room) (T : List Proc) (Q : List ℕ → Piece → Type 0) (t : Tree (Unit {0})) (h : Heap) → IsReached (Good room T Q) t h → Race T h t → ⊥
calm_bare room T Q t h m r = m.2.calm (race_bare T h m.0 (subst (λ y. Race T h y) (sym m.1) r))
