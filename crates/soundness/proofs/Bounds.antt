-- What has a bound by the logic has one by the machine, and what is asked less is met as well.
use Rattle.std.proofs.Common.{◌≡◌, ℕ, ◌≤◌, ◌⊎◌, inl, inr, ⊎_elim, List, length, true, sym, subst}
use Rattle.nres_core.specs.declared.value.Value.{Value}
use Rattle.target_code.specs.declared.tree.Program.{Program}
use Rattle.target_meaning.specs.declared.path.Side.{Side}
use Rattle.target_meaning.specs.Held.{holdings, total}
use Rattle.target_meaning.specs.Leaf.{Stack}
use Rattle.target_meaning.specs.LeftFirst.{has_ended}
use Rattle.target_meaning.specs.Machine.{Heap, Tree, Leaf, Full, has_room, move, no_blocks}
use Rattle.target_meaning.specs.Piece.{Piece, Holds, Covers}
use Rattle.target_meaning.specs.Runs.{Schedule, HasMoved, OnMoved, IsShallow, reach}
use Rattle.target_meaning.proofs.Keeps.{room_sized}
use Rattle.target_meaning.proofs.Moved.{moved_map, moved_both}
use Rattle.triple_logic.specs.Bounded.{Bounded}
use Rattle.triple_logic.specs.Reached as reached
use Rattle.triple_logic.specs.Safe.{Safe, at_end}
use Rattle.triple_logic.proofs.Bounded.{ends_safe}
use Rattle.triple_logic.proofs.Runs.{run_safe, run_covers, run_keeps, run_bounded}
use Rattle.relations.specs.Values.{union, live}
use Rattle.soundness.proofs.Rest.{IsCounted, name_left, move_counted, blocks_counted, none_counted, Goes, moves_or_full, goes_on}
use Rattle.soundness.proofs.SafeEnds.{live_is, live_held, live_covered, end_good}
use Rattle.soundness.specs.Behaviour.{Behaviour, CanBeGiven, Refines}
use Rattle.soundness.specs.Bound.{IsAtRest, IsFull}
use Rattle.soundness.specs.Good.{Good}
use Rattle.soundness.specs.Laws.{BoundedEnds, SoundCarried, BoundsCarried}
use Rattle.soundness.specs.SafeEnds.{EndsGood}
use Rattle.soundness.specs.Start.{Start}

start_counted : (T : Program) (us : List Value) (s : Stack) (h : Heap) → Start T us s h → IsCounted h
start_counted T us s h start = subst IsCounted (sym start.made) (blocks_counted start.blocks (no_blocks h.cap) (none_counted h.cap))

-- a state that is at rest has ended or is full
rests : (m : Behaviour) (T : Program) (us : List Value) (ps : List Piece) (t : Tree Piece) (g : Heap) → reached.Good has_room T.procs (EndsGood m T us ps) t g → Covers (total t) g → IsCounted g → IsAtRest T t g → (Good m T us ps t g ⊎ IsFull T t g)
rests m T us ps t g r cv k rest =
    let x = name_left g k in
    ⊎_elim
    (λ (e : has_ended t ≡ true). inl (end_good m T us ps t g r cv e))
    (λ (w : (path : List Side) × Goes (move holdings has_room T.procs t g path x.0)).
    ⊎_elim
    (λ (z : HasMoved (move holdings has_room T.procs t g w.0 x.0) (λ u i. Unit {0})). absurd (rest w.0 x.0 z))
    (λ (z : move holdings has_room T.procs t g w.0 x.0 ≡ Full). inr (w.0, x.0, z))
    (moves_or_full (move holdings has_room T.procs t g w.0 x.0) w.1))
    (goes_on holdings T.procs t g x.0 x.1 (λ path. r.free path x.0))

module _ (m : Behaviour) (T : Program) (us : List Value) (s : Stack) (h : Heap) (start : Start T us s h) where
  abbrev Ending : List ℕ → Piece → Type 0
  Ending = EndsGood m T us start.pieces

  within : (bound : ℕ) → Bounded T.procs at_end Ending bound 0 (Leaf (union start.pieces) s) → (es : Schedule) → IsShallow holdings has_room T.procs es (Leaf (live h) s) h
      → OnMoved (reach holdings has_room T.procs es (Leaf (live h) s) h) (λ t g. (length es ≤ bound) × (IsAtRest T t g → (Good m T us start.pieces t g ⊎ IsFull T t g)))
  within bound w es shallow =
      let a = reach holdings has_room T.procs es (Leaf (live h) s) h in
      let from : Bounded T.procs at_end Ending bound 0 (Leaf (live h) s) = subst (λ y. Bounded T.procs at_end Ending bound 0 (Leaf y s)) (live_is T us s h start) w in
      let safe : (n : ℕ) → Safe T.procs at_end Ending n 0 (Leaf (live h) s) = λ n. ends_safe T.procs at_end Ending n bound 0 (Leaf (live h) s) from in
      let hs = live_held T us s h start in
      moved_both a (λ t g. length es ≤ bound) (λ t g. IsAtRest T t g → (Good m T us start.pieces t g ⊎ IsFull T t g)) _ (λ t g x y. (x, y))
      (run_bounded has_room room_sized T.procs Ending es bound (Leaf (live h) s) h hs from shallow)
      (moved_both a (reached.Good has_room T.procs Ending) (λ t g. Covers (total t) g × IsCounted g) _ (λ t g r c. rests m T us start.pieces t g r c.0 c.1)
      (run_safe has_room T.procs Ending room_sized es (Leaf (live h) s) h hs safe shallow)
      (moved_both a (λ t g. Covers (total t) g) (λ t g. IsCounted g) _ (λ t g x y. (x, y))
      (run_covers has_room T.procs Ending room_sized es (Leaf (live h) s) h hs safe shallow (live_covered T us s h start))
      (run_keeps has_room T.procs Ending room_sized (λ t g. IsCounted g) (λ t g path x fine held k. move_counted holdings T.procs t g path x k) es (Leaf (live h) s) h hs safe shallow (start_counted T us s h start))))

pub bounded_ends : (m : Behaviour) → BoundedEnds m
bounded_ends m T bounded n us s h start ends =
    let b = bounded n us s h start ends in
    (b.0, λ es shallow. within m T us s h start b.0 b.1 es shallow)

-- ---- what is asked less

module _ (m k : Behaviour) (T : Program) (r : Refines T m k) (us : List Value) (s : Stack) (h : Heap) (start : Start T us s h) where
  given : CanBeGiven T us
  given = (start.regs, start.pieces, start.inputs)

  good_too : (t : Tree Piece) (g : Heap) → Good m T us start.pieces t g → Good k T us start.pieces t g
  good_too t g e = record {
    note = e.note;
    regs = e.regs;
    results = e.results;
    outs = e.outs;
    ended = e.ended;
    allowed = r.allows us e.results given e.allowed;
    related = e.related;
    all_live = e.all_live;
  }

pub sound_carried : (m k : Behaviour) → SoundCarried m k
sound_carried m k T r sound us s h start safely es shallow =
    moved_map (reach holdings has_room T.procs es (Leaf (live h) s) h) _ _
    (λ t g w. (w.0, λ e. good_too m k T r us s h start t g (w.1 e)))
    (sound us s h start (λ f. safely (r.can_fail us (given m k T r us s h start) f)) es shallow)

pub bounds_carried : (m k : Behaviour) → BoundsCarried m k
bounds_carried m k T r bounded n us s h start ends =
    let b = bounded n us s h start (r.ends n us (given m k T r us s h start) ends) in (
      b.0,
      λ es shallow.
          moved_map (reach holdings has_room T.procs es (Leaf (live h) s) h) _ _
          (λ t g w. (w.0, λ rest. ⊎_elim (λ e. inl (good_too m k T r us s h start t g e)) (λ f. inr f) (w.1 rest)))
          (b.1 es shallow),
    )
