-- What is answered of a sound program.
use Rattle.std.proofs.Common.{◌≡◌, ℕ, true, List, [], take, drop, refl, sym, ap, ◌∙◌, subst, arith}
use Rattle.std.specs.Prelude.{Option, Some, None, IsSome}
use Rattle.nres_core.specs.declared.value.Value.{Value}
use Rattle.target_code.specs.declared.tree.Proc.{Proc}
use Rattle.target_code.specs.declared.tree.Program.{Program}
use Rattle.target_meaning.specs.declared.answer.Reason.{Reason}
use Rattle.target_meaning.specs.declared.view.LeafView.{LeafView}
use Rattle.target_meaning.specs.Held.{holdings}
use Rattle.target_meaning.specs.Leaf as leaf
use Rattle.target_meaning.specs.Leaf.{Stack}
use Rattle.target_meaning.specs.LeftFirst.{has_ended}
use Rattle.target_meaning.specs.Machine as machine
use Rattle.target_meaning.specs.Machine.{Heap, Tree, Leaf, Fork, Answer, move, nothing, has_room}
use Rattle.target_meaning.specs.Piece.{Piece}
use Rattle.target_meaning.specs.Runs as runs
use Rattle.target_meaning.specs.Runs.{Schedule, OnMoved, HasMoved, IsNoStuck, bare, bare_answer, reach}
use Rattle.target_meaning.specs.States.{MachineState}
use Rattle.target_meaning.specs.Views.{leaves_of}
use Rattle.target_meaning.proofs.Bare.{move_bare, race_bare}
use Rattle.triple_logic.specs.Reached.{IsReached}
use Rattle.triple_logic.proofs.Runs.{on_machine}
use Rattle.relations.specs.Values.{live}
use Rattle.soundness.specs.Behaviour.{Behaviour}
use Rattle.soundness.specs.Good.{Good}
use Rattle.soundness.specs.Sound.{Calm}
use Rattle.replay.specs.declared.answer.ReplayEnd.{ReplayEnd}
use Rattle.replay.specs.declared.answer.ReplayEnd.TheVariants.{Race, Stuck, Full, End, Open, BadStep, Depth}
use Rattle.replay.specs.Facts.{RacesAreTold, ToldAreStuck}
use Rattle.replay.specs.Sights.{first_race, first_stuck}
use Rattle.replay.specs.Told.{after, told_at, is_full, Replays}
use Rattle.replay_laws.specs.Calm.{begun, IsCalmEnd, SoundIsCalm}
use Rattle.replay_laws.proofs.Shallow.{shallow}
use Rattle.replay_laws.proofs.Tells.{Tells, tells, ComesIn, comes_in}

ended_bare : {A : Type 0} (t : Tree A) → has_ended (bare t) ≡ has_ended t
ended_bare (Leaf a (leaf.End vs)) = refl
ended_bare (Leaf a (leaf.Run f cs)) = refl
ended_bare (Fork a w l r) = refl

stuck_bare : {A : Type 0} (a : Answer A) (r : Reason) → bare_answer a ≡ machine.Stuck r → IsNoStuck a → ⊥
stuck_bare (machine.Moved t h) r e n = cc
stuck_bare (machine.Stuck q) r e n = n
stuck_bare machine.Full r e n = cc
stuck_bare machine.NoSuchLeaf r e n = cc
stuck_bare machine.NameUsed r e n = cc

comes : (T : List Proc) (es : Schedule) (s : MachineState) (n : ℕ) (e : ReplayEnd) → told_at T es s n ≡ Some e → ComesIn T n (drop n es) (after T es s n) e
unfolding told_at
comes T es s n e is = comes_in T n (drop n es) (after T es s n) e is

found : (o : Option (LeafView × Reason)) → IsSome o → (v : LeafView) × (r : Reason) × (o ≡ Some (v, r))
found None w = absurd cc
found (Some x) w = (x.0, x.1, refl)

module _ (m : Behaviour) (races : RacesAreTold) (stuck : ToldAreStuck) (T : Program) (us : List Value) (pieces : List Piece) where
  -- a calm state
  abbrev Holds : Tree Piece → Heap → Type 0
  Holds t g = Calm T t g × (has_ended t ≡ true → Good m T us pieces t g)

  calm_end : (u : Tree (Unit {0})) (g : Heap) (left : MachineState) (e : ReplayEnd) → IsReached Holds u g → left ≡ record { tree = u; heap = g; full = is_full e } → Tells (first_race (leaves_of T.procs g [] u)) (first_stuck (leaves_of T.procs g [] u)) (has_ended u) e → IsCalmEnd m T us pieces left e
  calm_end u g left (Race k p q) w is told =
      w.2.0.no_race (race_bare T.procs g w.0 (subst (λ y. runs.Race T.procs g y) (sym w.1) ((races T.procs g u).1 told)))
  calm_end u g left (Stuck k path proc line why) w is told =
      let f = found (first_stuck (leaves_of T.procs g [] u)) told in
      let there : move nothing has_room T.procs (bare w.0) g f.0.path 0 ≡ machine.Stuck f.1 =
      ap (λ y. move nothing has_room T.procs y g f.0.path 0) w.1 ∙ stuck T.procs g u f.0 0 f.1 f.2 in
      stuck_bare (move holdings has_room T.procs w.0 g f.0.path 0) f.1 (move_bare holdings has_room T.procs w.0 g f.0.path 0 ∙ there) (w.2.0.no_stuck f.0.path 0)
  calm_end u g left (End at) w is told =
      let tree : u ≡ left.tree = ap (λ (x : MachineState). x.tree) (sym is) in
      let heap : g ≡ left.heap = ap (λ (x : MachineState). x.heap) (sym is) in
      (w.0, w.1 ∙ tree, subst (λ k. Good m T us pieces w.0 k) heap (w.2.1 (sym (ended_bare w.0) ∙ ap (λ y. has_ended y) w.1 ∙ told)))
  calm_end u g left (Full at) w is told = tt
  calm_end u g left (Open steps) w is told = tt
  calm_end u g left (BadStep at used) w is told = tt
  calm_end u g left (Depth path) w is told = tt

  -- the state in which an answer comes is one that the schedule reaches
  pub calm : (s : Stack) (h : Heap) (es : Schedule) (e : ReplayEnd) (left : MachineState) → ((n : ℕ) → runs.IsShallow nothing has_room T.procs (take n es) (Leaf tt s) h → OnMoved (reach nothing has_room T.procs (take n es) (Leaf tt s) h) (IsReached Holds)) → Replays T.procs es (begun s h) e left → IsCalmEnd m T us pieces left e
  calm s h es e left sound r =
      let c = comes T.procs es (begun s h) r.steps e r.told in
      let low : runs.IsShallow nothing has_room T.procs (take r.steps es) (Leaf tt s) h = shallow T.procs es (begun s h) r.steps (omega arith) r.before in
      let at : IsReached Holds c.tree c.heap = subst (λ a. OnMoved a (IsReached Holds)) c.is (sound r.steps low) in
      let is : left ≡ record { tree = c.tree; heap = c.heap; full = is_full e } = subst (λ a. HasMoved a (λ t k. left ≡ record { tree = t; heap = k; full = is_full e })) c.is r.reached in
      calm_end c.tree c.heap left e at is (tells T.procs r.steps (drop r.steps es) c.tree c.heap e c.here)

pub sound_is_calm : (m : Behaviour) → RacesAreTold → ToldAreStuck → SoundIsCalm m
sound_is_calm m races stuck T sound us s h start safe es e left r =
    calm m races stuck T us start.pieces s h es e left
    (λ n low. on_machine has_room T.procs (live h) s h (λ t g. Calm T t g × (has_ended t ≡ true → Good m T us start.pieces t g)) (take n es) (λ w. sound us s h start safe (take n es) w) low) r
