-- A program that has only some of the procedures runs as with all of them; so it is sound and bounded where that is.
use Rattle.std.specs.Prelude.{◌≡◌, ◌≤◌, ◌⊎◌, true, length, List, [], codes}
use Rattle.std.proofs.Common.{sym, subst, inl, inr, ⊎_elim}
use Rattle.nres_core.specs.declared.value.Value.{Value}
use Rattle.target_code.specs.declared.tree.Proc.{Proc}
use Rattle.target_code.specs.declared.tree.Program.{Program}
use Rattle.target_meaning.specs.declared.path.Side.{Side}
use Rattle.target_meaning.specs.Held.{holdings}
use Rattle.target_meaning.specs.Leaf.{Stack}
use Rattle.target_meaning.specs.LeftFirst.{has_ended}
use Rattle.target_meaning.specs.Machine.{Heap, Tree, Leaf, Full, Notes, has_room, move}
use Rattle.target_meaning.specs.Piece.{Piece}
use Rattle.target_meaning.specs.Runs.{Schedule, OnMoved, HasMoved, IsNoStuck, IsShallow, reach}
use Rattle.target_meaning.proofs.Moved.{moved_both}
use Rattle.relations.specs.Values.{live}
use Rattle.soundness.specs.Behaviour.{Behaviour}
use Rattle.soundness.specs.Bound.{IsAtRest, IsFull}
use Rattle.soundness.specs.Good.{Good}
use Rattle.soundness.specs.Sound.{Calm}
use Rattle.soundness.specs.Start.{Start}
use Rattle.fewer_procs.specs.Fewer.{AreOf, RunAlike, with_procs, FewerAreSound, FewerAreBounded}
use Rattle.fewer_procs.proofs.Codes.{Good_stack, Good_tree, begins}
use Rattle.fewer_procs.proofs.Moves.{move_same, reach_good, reach_same, shallow_more, shallow_few, race_same, unowned_same}

pub run_alike : {A : Type 0} (N : Notes A) (few more : List Proc) → AreOf more few → RunAlike N few more
run_alike N few more k = record {
  reached = λ room a name p args es h e. reach_same few more k N room es _ h (begins few k.closed name p args e, tt);
  deeper = λ room a name p args es h e. shallow_more few more k N room es _ h (begins few k.closed name p args e, tt);
  as_shallow = λ room a name p args es h e. shallow_few few more k N room es _ h (begins few k.closed name p args e, tt);
}

module _ (m : Behaviour) (T : Program) (more : List Proc) (k : AreOf more T.procs) where
  abbrev T' : Program
  T' = with_procs T more

  -- a stack at the beginning of a procedure that is found
  start_good : (us : List Value) (s : Stack) (h : Heap) (start : Start T us s h) → Good_stack T.procs s
  start_good us s h start = subst (Good_stack T.procs) (sym start.beginning) (begins T.procs k.closed (codes "main") start.main start.regs start.is_main, tt)

  more_start : (us : List Value) (s : Stack) (h : Heap) → Start T us s h → Start T' us s h
  more_start us s h start = record {
    main = start.main;
    regs = start.regs;
    pieces = start.pieces;
    blocks = start.blocks;
    is_main = k.found _ start.main start.is_main;
    beginning = start.beginning;
    inputs = start.inputs;
    all_live = start.all_live;
    made = start.made;
    named = start.named;
    capacity = start.capacity;
    room = start.room;
  }

  good_too : (us : List Value) (ps : List Piece) (t : Tree Piece) (g : Heap) → Good m T' us ps t g → Good m T us ps t g
  good_too us ps t g e = record {
    note = e.note;
    regs = e.regs;
    results = e.results;
    outs = e.outs;
    ended = e.ended;
    allowed = e.allowed;
    related = e.related;
    all_live = e.all_live;
  }

  calm_too : (t : Tree Piece) (g : Heap) → Good_tree T.procs t → Calm T' t g → Calm T t g
  calm_too t g good c = record {
    no_stuck = λ path x. subst IsNoStuck (sym (move_same T.procs more k holdings has_room t g path x good)) (c.no_stuck path x);
    no_race = λ r. c.no_race (race_same T.procs more k g t good r);
    no_unowned = λ u. c.no_unowned (unowned_same T.procs more k 0 t good u);
  }

  rest_more : (t : Tree Piece) (g : Heap) → Good_tree T.procs t → IsAtRest T t g → IsAtRest T' t g
  rest_more t g good rest = λ path x z. rest path x (subst (λ y. HasMoved y (λ u i. Unit {0})) (sym (move_same T.procs more k holdings has_room t g path x good)) z)

  full_too : (t : Tree Piece) (g : Heap) → Good_tree T.procs t → IsFull T' t g → IsFull T t g
  full_too t g good f = (f.0, f.1, subst (λ y. y ≡ Full) (sym (move_same T.procs more k holdings has_room t g f.0 f.1 good)) f.2)

  -- from a start each schedule reaches the same, where what is reached is good code
  reached : (s : Stack) (h : Heap) → Good_stack T.procs s → (es : Schedule) (P Q : Tree Piece → Heap → Type 0) → ((t : Tree Piece) (g : Heap) → Good_tree T.procs t → P t g → Q t g)
      → OnMoved (reach holdings has_room more es (Leaf (live h) s) h) P → OnMoved (reach holdings has_room T.procs es (Leaf (live h) s) h) Q
  reached s h good es P Q f w =
      moved_both (reach holdings has_room T.procs es (Leaf (live h) s) h) (λ t g. Good_tree T.procs t) P Q f
      (reach_good T.procs more k holdings has_room es (Leaf (live h) s) h good)
      (subst (λ y. OnMoved y P) (sym (reach_same T.procs more k holdings has_room es (Leaf (live h) s) h good)) w)

  pub fewer_sound : FewerAreSound m T more
  unfolding more_start
  fewer_sound sound us s h start safely es shallow =
      let good = start_good us s h start in
      reached s h good es (λ t g. Calm T' t g × (has_ended t ≡ true → Good m T' us start.pieces t g)) (λ t g. Calm T t g × (has_ended t ≡ true → Good m T us start.pieces t g))
      (λ t g b w. (calm_too t g b w.0, λ e. good_too us start.pieces t g (w.1 e)))
      (sound us s h (more_start us s h start) safely es (shallow_more T.procs more k holdings has_room es (Leaf (live h) s) h good shallow))

  pub fewer_bounded : FewerAreBounded m T more
  unfolding more_start
  fewer_bounded bounded n us s h start ends =
      let good = start_good us s h start in
      let b = bounded n us s h (more_start us s h start) ends in (
        b.0,
        λ es shallow.
            reached s h good es (λ t g. (length es ≤ b.0) × (IsAtRest T' t g → (Good m T' us start.pieces t g ⊎ IsFull T' t g))) (λ t g. (length es ≤ b.0) × (IsAtRest T t g → (Good m T us start.pieces t g ⊎ IsFull T t g)))
            (λ t g c w. (w.0, λ rest. ⊎_elim (λ e. inl (good_too us start.pieces t g e)) (λ f. inr (full_too t g c f)) (w.1 (rest_more t g c rest))))
            (b.1 es (shallow_more T.procs more k holdings has_room es (Leaf (live h) s) h good shallow)),
      )
