-- What an answer tells of the state in which it comes.
use Rattle.std.proofs.Common.{◌≡◌, ℕ, suc, Bool, true, false, List, [], ◌∷◌, refl, subst}
use Rattle.std.specs.Prelude.{Option, Some, None, IsSome, if◌then◌else◌}
use Rattle.target_code.specs.declared.tree.Proc.{Proc}
use Rattle.target_meaning.specs.declared.answer.Reason.{Reason}
use Rattle.target_meaning.specs.declared.path.Side.{Side}
use Rattle.target_meaning.specs.declared.view.LeafView.{LeafView}
use Rattle.target_meaning.specs.LeftFirst.{has_ended}
use Rattle.target_meaning.specs.Machine as machine
use Rattle.target_meaning.specs.Machine.{Heap, Tree, Answer, move, nothing, has_room}
use Rattle.target_meaning.specs.Runs.{Schedule}
use Rattle.target_meaning.specs.Views.{leaves_of}
use Rattle.replay.specs.declared.answer.ReplayEnd.{ReplayEnd}
use Rattle.replay.specs.declared.answer.ReplayEnd.TheVariants.{Race, Stuck, Full, End, Open, BadStep, Depth}
use Rattle.replay.specs.Sights.{first_race, first_stuck, passes_at}
use Rattle.replay.specs.Told.{or_else, race_told, stuck_told, end_told, answer_told, next_told, here_told, reached_told}

-- by the race that is found, the stuck leaf that is found, and whether the root has ended
abbrev pub Tells : Option (List Side × List Side) → Option (LeafView × Reason) → Bool → ReplayEnd → Type 0
Tells o s b (Race after p q) = IsSome o
Tells o s b (Stuck after path proc line why) = IsSome s
Tells o s b (End at) = b ≡ true
Tells o s b (Full at) = Unit {0}
Tells o s b (Open steps) = Unit {0}
Tells o s b (BadStep at used) = Unit {0}
Tells o s b (Depth path) = Unit {0}

-- an answer of the next step
abbrev IsNext : ReplayEnd → Type 0
IsNext (Race after p q) = ⊥
IsNext (Stuck after path proc line why) = ⊥
IsNext (End at) = ⊥
IsNext (Full at) = Unit {0}
IsNext (Open steps) = Unit {0}
IsNext (BadStep at used) = Unit {0}
IsNext (Depth path) = Unit {0}

next_tells : (o : Option (List Side × List Side)) (s : Option (LeafView × Reason)) (b : Bool) (e : ReplayEnd) → IsNext e → Tells o s b e
next_tells o s b (Race after p q) n = absurd n
next_tells o s b (Stuck after path proc line why) n = absurd n
next_tells o s b (End at) n = absurd n
next_tells o s b (Full at) n = tt
next_tells o s b (Open steps) n = tt
next_tells o s b (BadStep at used) n = tt
next_tells o s b (Depth path) n = tt

some_same : (x e : ReplayEnd) (P : ReplayEnd → Type 0) → Some x ≡ Some e → P x → P e
some_same x e P is p = subst P (let same : x ≡ e = cc in same) p

answer_next : (at : ℕ) (a : Answer (Unit {0})) (e : ReplayEnd) → answer_told at a ≡ Some e → IsNext e
answer_next at (machine.Moved t h) e is = absurd cc
answer_next at (machine.Stuck r) e is = absurd cc
answer_next at machine.Full e is = some_same (Full at) e IsNext is tt
answer_next at machine.NoSuchLeaf e is = some_same (BadStep at false) e IsNext is tt
answer_next at machine.NameUsed e is = some_same (BadStep at true) e IsNext is tt

depth_next : (b : Bool) (path : List Side) (at : ℕ) (a : Answer (Unit {0})) (e : ReplayEnd) → (if b then Some (Depth path) else answer_told at a) ≡ Some e → IsNext e
depth_next true path at a e is = some_same (Depth path) e IsNext is tt
depth_next false path at a e is = answer_next at a e is

next_next : (T : List Proc) (made : ℕ) (views : List LeafView) (t : Tree (Unit {0})) (h : Heap) (rest : Schedule) (e : ReplayEnd) → next_told T made views t h rest ≡ Some e → IsNext e
next_next T made views t h [] e is = some_same (Open made) e IsNext is tt
next_next T made views t h (x ∷ xs) e is = depth_next (passes_at x.0 views) x.0 (suc made) (move nothing has_room T t h x.0 x.1) e is

tells_by : (made : ℕ) (o : Option (List Side × List Side)) (s : Option (LeafView × Reason)) (b : Bool) (n : Option ReplayEnd) (e : ReplayEnd) → (n ≡ Some e → IsNext e) → or_else (or_else (race_told made o) (stuck_told made s)) (or_else (end_told made b) n) ≡ Some e → Tells o s b e
tells_by made (Some p) s b n e f is = some_same (Race made p.0 p.1) e (Tells (Some p) s b) is refl
tells_by made None (Some x) b n e f is = some_same (Stuck made x.0.path x.0.proc x.0.line x.1) e (Tells None (Some x) b) is refl
tells_by made None None true n e f is = some_same (End made) e (Tells None None true) is refl
tells_by made None None false n e f is = next_tells None None false e (f is)

pub tells : (T : List Proc) (made : ℕ) (rest : Schedule) (t : Tree (Unit {0})) (h : Heap) (e : ReplayEnd) → here_told T made rest t h ≡ Some e → Tells (first_race (leaves_of T h [] t)) (first_stuck (leaves_of T h [] t)) (has_ended t) e
tells T made rest t h e is =
    tells_by made (first_race (leaves_of T h [] t)) (first_stuck (leaves_of T h [] t)) (has_ended t) (next_told T made (leaves_of T h [] t) t h rest) e (next_next T made (leaves_of T h [] t) t h rest e) is

-- a state was reached in which the answer comes
pub record ComesIn (T : List Proc) (made : ℕ) (rest : Schedule) (a : Answer (Unit {0})) (e : ReplayEnd) : Type 0 where
  pub tree : Tree (Unit {0})
  pub heap : Heap
  pub is : a ≡ machine.Moved tree heap
  pub here : here_told T made rest tree heap ≡ Some e

pub comes_in : (T : List Proc) (made : ℕ) (rest : Schedule) (a : Answer (Unit {0})) (e : ReplayEnd) → reached_told T made rest a ≡ Some e → ComesIn T made rest a e
comes_in T made rest (machine.Moved t h) e is = record { tree = t; heap = h; is = refl; here = is }
comes_in T made rest (machine.Stuck r) e is = absurd cc
comes_in T made rest machine.Full e is = absurd cc
comes_in T made rest machine.NoSuchLeaf e is = absurd cc
comes_in T made rest machine.NameUsed e is = absurd cc
