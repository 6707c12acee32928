-- The turns of a whole schedule.
use Rattle.std.proofs.Common.{◌≡◌, below_more, ℕ, zero, suc, ◌+◌, ◌<◌, ◌≤◌, Bool, false, List, [], ◌∷◌, length, take, drop, get_or, refl, sym, ap, ◌∙◌, subst, arith, add-one}
use Rattle.std.specs.Prelude.{Some, None}
use Rattle.target_code.specs.declared.tree.Proc.{Proc}
use Rattle.target_meaning.specs.declared.path.Side.{Side}
use Rattle.target_meaning.specs.Machine as machine
use Rattle.target_meaning.specs.Machine.{Heap, Tree, Answer, move, nothing, has_room}
use Rattle.target_meaning.specs.Runs.{Schedule, and_then, reach, HasMoved}
use Rattle.target_meaning.specs.States.{MachineState}
use Rattle.replay.specs.declared.answer.ReplayEnd.{ReplayEnd}
use Rattle.replay.specs.declared.schedule.Move.{Move}
use Rattle.replay.specs.Told.{steps_of, here_told, reached_told, after, told_at, is_full, IsAfter, Replays}
use Rattle.replay.specs.Turns.{Turned, IsLast, Follows}
use Rattle.replay.proofs.Turning.{not_full}

and_then_same : (a : Answer (Unit {0})) → and_then a (λ t h. machine.Moved t h) ≡ a
and_then_same (machine.Moved t h) = refl
and_then_same (machine.Stuck r) = refl
and_then_same machine.Full = refl
and_then_same machine.NoSuchLeaf = refl
and_then_same machine.NameUsed = refl

-- the same behind a first step
later : (T : List Proc) (es fs : Schedule) (u : Tree (Unit {0})) (g : Heap) (e : List Side × ℕ)
    → ((v : Tree (Unit {0})) (k : Heap) → reach nothing has_room T es v k ≡ machine.Moved u g → reach nothing has_room T fs v k ≡ move nothing has_room T u g e.0 e.1)
    → (a : Answer (Unit {0})) → and_then a (λ v k. reach nothing has_room T es v k) ≡ machine.Moved u g → and_then a (λ v k. reach nothing has_room T fs v k) ≡ move nothing has_room T u g e.0 e.1
later T es fs u g e f (machine.Moved v k) r = f v k r
later T es fs u g e f (machine.Stuck q) r = absurd cc
later T es fs u g e f machine.Full r = absurd cc
later T es fs u g e f machine.NoSuchLeaf r = absurd cc
later T es fs u g e f machine.NameUsed r = absurd cc

-- one more step of a run
one_more : (T : List Proc) (es : Schedule) (n : ℕ) (e : List Side × ℕ) (rest : Schedule) (t u : Tree (Unit {0})) (h g : Heap) → drop n es ≡ e ∷ rest → reach nothing has_room T (take n es) t h ≡ machine.Moved u g → reach nothing has_room T (take (suc n) es) t h ≡ move nothing has_room T u g e.0 e.1
one_more T [] n e rest t u h g d r = absurd (let f : [] ≡ e ∷ rest = none n ∙ d in cc)
  where
    none : (n : ℕ) → [] ≡ drop n (let l : Schedule = [] in l)
    none zero = refl
    none (suc n) = refl
one_more T (f ∷ es) zero e rest t u h g d r =
    let first : f ≡ e = cc in
    let tree : t ≡ u = cc in
    let heap : h ≡ g = cc in
    let at : Tree (Unit {0}) → Heap → List Side × ℕ → Answer (Unit {0}) = λ v k x. move nothing has_room T v k x.0 x.1 in
    and_then_same (at t h f) ∙ (ap (λ v. at v h f) tree ∙ (ap (λ k. at u k f) heap ∙ ap (at u g) first))
one_more T (f ∷ es) (suc n) e rest t u h g d r =
    later T (take n es) (take (suc n) es) u g e (λ v k. one_more T es n e rest v u k g d) (move nothing has_room T t h f.0 f.1) r

-- what is told at a number of steps, by the state that they reach and what is left of the schedule
told_here : (T : List Proc) (es rest : Schedule) (s now : MachineState) (n : ℕ) → after T es s n ≡ machine.Moved now.tree now.heap → drop n es ≡ rest → told_at T es s n ≡ here_told T n rest now.tree now.heap
unfolding told_at
told_here T es rest s now n r d = ap (λ a. reached_told T n (drop n es) a) r ∙ ap (λ l. here_told T n l now.tree now.heap) d

left_after : (T : List Proc) (es : Schedule) (s now left : MachineState) (n : ℕ) (b : Bool) → after T es s n ≡ machine.Moved now.tree now.heap → left ≡ record { tree = now.tree; heap = now.heap; full = b } → IsAfter T es s n b left
left_after T es s now left n b r is = subst (λ a. HasMoved a (λ t h. left ≡ record { tree = t; heap = h; full = b })) (sym r) is

pub follow_first : (T : List Proc) (es : Schedule) (s : MachineState) → s.full ≡ false → Follows T es s 0 s
follow_first T es s full = record { reached = refl; room = full; before = λ n lt. absurd (omega (arith, lt)) }

-- a step was made
pub follow_more : (T : List Proc) (es rest : Schedule) (e : List Side × ℕ) (s now left : MachineState) (n : ℕ) → Follows T es s n now → drop n es ≡ e ∷ rest → Turned T n e now left None → Follows T es s (n + 1) left
follow_more T es rest e s now left n f d t = record {
  reached = ap (λ m. after T es s m) (add-one n) ∙ (one_more T es n e rest s.tree now.tree s.heap now.heap d f.reached ∙ t.leads.0);
  room = t.leads.1;
  before = below_more (λ m. told_at T es s m ≡ None) n f.before (told_here T es (e ∷ rest) s now n f.reached d ∙ t.is);
}

-- something was told
pub follow_some : (T : List Proc) (es rest : Schedule) (e : List Side × ℕ) (s now left : MachineState) (n : ℕ) (end : ReplayEnd) → Follows T es s n now → drop n es ≡ e ∷ rest → Turned T n e now left (Some end) → Replays T es s end left
follow_some T es rest e s now left n end f d t = record {
  steps = n;
  told = told_here T es (e ∷ rest) s now n f.reached d ∙ t.is;
  before = f.before;
  reached = left_after T es s now left n (is_full end) f.reached t.leads;
}

-- the schedule is over
pub follow_last : (T : List Proc) (es : Schedule) (s now : MachineState) (n : ℕ) (end : ReplayEnd) → Follows T es s n now → drop n es ≡ [] → IsLast T n now end → Replays T es s end now
follow_last T es s now n end f d last =
    let told : (here_told T n [] now.tree now.heap ≡ Some end) × (is_full end ≡ false) = last f.room in
    record {
      steps = n;
      told = told_here T es [] s now n f.reached d ∙ told.0;
      before = f.before;
      reached = left_after T es s now now n (is_full end) f.reached (not_full now (is_full end) f.room told.1);
    }

-- the state that was reached so far
pub follow_after : (T : List Proc) (es : Schedule) (s now : MachineState) (n : ℕ) → Follows T es s n now → (made : ℕ) × IsAfter T es s made false now
follow_after T es s now n f = (n, left_after T es s now now n false f.reached (not_full now false f.room refl))

-- the step of a schedule at an index
pub at_step : (ms : List Move) (k : ℕ) (m : Move) → k < length ms → m ≡ get_or ms k m → drop k (steps_of ms) ≡ (m.path, m.name) ∷ drop (suc k) (steps_of ms)
at_step [] k m lt is = absurd (omega (arith, lt))
at_step (x ∷ xs) zero m lt is = let step : Move → List Side × ℕ = λ y. (y.path, y.name) in ap (λ y. step y ∷ steps_of xs) (sym is)
at_step (x ∷ xs) (suc k) m lt is = at_step xs k m (omega (arith, lt)) is

pub no_step : (ms : List Move) (k : ℕ) → length ms ≤ k → drop k (steps_of ms) ≡ []
no_step [] zero le = refl
no_step [] (suc k) le = refl
no_step (x ∷ xs) zero le = absurd (omega (arith, le))
no_step (x ∷ xs) (suc k) le = no_step xs k (omega (arith, le))
