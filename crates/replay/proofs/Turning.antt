-- One turn at a step of a schedule.
use Rattle.std.proofs.Common.{◌≡◌, ℕ, suc, ◌+◌, Bool, true, false, List, [], ◌∷◌, ◌++◌, refl, sym, ap, ◌∙◌, subst, nat_lt, length, add-one}
use Rattle.std.specs.Prelude.{Option, Some, None, if◌then◌else◌}
use Rattle.target_code.specs.declared.tree.Proc.{Proc}
use Rattle.target_meaning.specs.declared.answer.Reason.{Reason}
use Rattle.target_meaning.specs.declared.answer.Reason.TheVariants.{Block, Index}
use Rattle.target_meaning.specs.declared.answer.StepAnswer.{StepAnswer}
use Rattle.target_meaning.specs.declared.path.Side.{Side}
use Rattle.target_meaning.specs.declared.path.Side.TheVariants.{Left, Right}
use Rattle.target_meaning.specs.declared.view.LeafView.{LeafView}
use Rattle.target_meaning.specs.declared.view.Next.{Next}
use Rattle.target_meaning.specs.declared.view.Next.TheVariants as seen
use Rattle.target_meaning.specs.Leaf as leaf
use Rattle.target_meaning.specs.LeftFirst.{has_ended}
use Rattle.target_meaning.specs.Machine as machine
use Rattle.target_meaning.specs.Machine.{Heap, Cell, Never, Live, Freed, Tree, Leaf, Fork, Answer, words_of, is_new, read_cell, write_cell, cut_cell, perform, join_both, inside, move, nothing, has_room}
use Rattle.target_meaning.specs.States.{MachineState, by_answer, step_by, step_of}
use Rattle.target_meaning.specs.Views.{word_reason, block_reason, or_stuck, act_next, items_next, view_of, leaves_of}
use Rattle.replay.specs.declared.answer.ReplayEnd.{ReplayEnd}
use Rattle.replay.specs.declared.answer.ReplayEnd.TheVariants.{Race, Stuck, End, Open, Depth}
use Rattle.replay.specs.Sights.{first_race, stuck_or, first_stuck, passes_at}
use Rattle.replay.specs.Told.{or_else, race_told, stuck_told, end_told, leaves_told, answer_told, here_told, is_full}
use Rattle.replay.specs.Turns.{depth_told, before_told, answered, LeadsTo, Turned, IsLast}

-- ---- first of two answers

or_assoc : (a b c : Option ReplayEnd) → or_else (or_else a b) c ≡ or_else a (or_else b c)
or_assoc None b c = refl
or_assoc (Some e) b c = refl

none_first : (o p : Option ReplayEnd) → or_else o p ≡ None → o ≡ None
none_first None p h = refl
none_first (Some e) p h = absurd cc

none_second : (o p : Option ReplayEnd) → or_else o p ≡ None → p ≡ None
none_second None p h = h
none_second (Some e) p h = absurd cc

depth_by : (b : Bool) (e : ReplayEnd) (a : Option ReplayEnd) → (if b then Some e else a) ≡ or_else (if b then Some e else None) a
depth_by true e a = refl
depth_by false e a = refl

-- what is told in a state is what is told before the step, and else what the machine answers to it
pub here_by : (T : List Proc) (made : ℕ) (e : List Side × ℕ) (t : Tree (Unit {0})) (h : Heap) → here_told T made (e ∷ []) t h ≡ or_else (before_told T made e.0 t h) (answer_told (suc made) (move nothing has_room T t h e.0 e.1))
here_by T made e t h =
    let views : List LeafView = leaves_of T h [] t in
    let first : Option ReplayEnd = leaves_told made views in
    let second : Option ReplayEnd = end_told made (has_ended t) in
    let third : Option ReplayEnd = depth_told e.0 views in
    let last : Option ReplayEnd = answer_told (suc made) (move nothing has_room T t h e.0 e.1) in
    ap (λ o. or_else first (or_else second o)) (depth_by (passes_at e.0 views) (Depth e.0) last) ∙
    (sym (or_assoc first second (or_else third last)) ∙ sym (or_assoc (or_else first second) third last))

-- ---- what is told before a step does not make the machine full

abbrev NotFull : Option ReplayEnd → Type 0
NotFull o = (e : ReplayEnd) → o ≡ Some e → is_full e ≡ false

some_not : (x : ReplayEnd) → is_full x ≡ false → NotFull (Some x)
some_not x h e is = ap is_full (let same : e ≡ x = cc in same) ∙ h

none_not : NotFull None
none_not e is = absurd cc

or_not : (o p : Option ReplayEnd) → NotFull o → NotFull p → NotFull (or_else o p)
or_not None p f g = g
or_not (Some x) p f g = f

race_not : (made : ℕ) (o : Option (List Side × List Side)) → NotFull (race_told made o)
race_not made None = none_not
race_not made (Some p) = some_not (Race made p.0 p.1) refl

stuck_not : (made : ℕ) (o : Option (LeafView × Reason)) → NotFull (stuck_told made o)
stuck_not made None = none_not
stuck_not made (Some s) = some_not (Stuck made s.0.path s.0.proc s.0.line s.1) refl

end_not : (made : ℕ) (b : Bool) → NotFull (end_told made b)
end_not made true = some_not (End made) refl
end_not made false = none_not

depth_not : (b : Bool) (path : List Side) → NotFull (if b then Some (Depth path) else None)
depth_not true path = some_not (Depth path) refl
depth_not false path = none_not

leaves_not : (made : ℕ) (views : List LeafView) → NotFull (leaves_told made views)
leaves_not made views = or_not (race_told made (first_race views)) (stuck_told made (first_stuck views)) (race_not made (first_race views)) (stuck_not made (first_stuck views))

told_not : (T : List Proc) (made : ℕ) (t : Tree (Unit {0})) (h : Heap) → NotFull (or_else (leaves_told made (leaves_of T h [] t)) (end_told made (has_ended t)))
told_not T made t h = or_not (leaves_told made (leaves_of T h [] t)) (end_told made (has_ended t)) (leaves_not made (leaves_of T h [] t)) (end_not made (has_ended t))

before_not : (T : List Proc) (made : ℕ) (path : List Side) (t : Tree (Unit {0})) (h : Heap) → NotFull (before_told T made path t h)
before_not T made path t h =
    or_not (or_else (leaves_told made (leaves_of T h [] t)) (end_told made (has_ended t))) (depth_told path (leaves_of T h [] t)) (told_not T made t h) (depth_not (passes_at path (leaves_of T h [] t)) path)

-- ---- a leaf that is stuck is seen to be

stuck_index : (v : Bool) (t : Tree (Unit {0})) (g : Heap) (n : Next) (r : Reason) → (if v then machine.Moved t g else machine.Stuck Index) ≡ machine.Stuck r → or_stuck (if v then None else Some Index) n ≡ seen.Stuck r
stuck_index true t g n r e = absurd cc
stuck_index false t g n r e = ap seen.Stuck (let same : Index ≡ r = cc in same)

stuck_read : (c : Cell) (b i : ℕ) (k : ℕ → leaf.Stack) (h : Heap) (r : Reason) → read_cell nothing c i tt k h ≡ machine.Stuck r → or_stuck (word_reason (words_of c) i) (seen.Read b i) ≡ seen.Stuck r
stuck_read Never b i k h r e = ap seen.Stuck (let same : Block ≡ r = cc in same)
stuck_read Freed b i k h r e = ap seen.Stuck (let same : Block ≡ r = cc in same)
stuck_read (Live ws) b i k h r e = stuck_index (nat_lt i (length ws)) _ h (seen.Read b i) r e

stuck_write : (c : Cell) (b i v : ℕ) (s : leaf.Stack) (h : Heap) (r : Reason) → write_cell nothing c b i v tt s h ≡ machine.Stuck r → or_stuck (word_reason (words_of c) i) (seen.Write b i) ≡ seen.Stuck r
stuck_write Never b i v s h r e = ap seen.Stuck (let same : Block ≡ r = cc in same)
stuck_write Freed b i v s h r e = ap seen.Stuck (let same : Block ≡ r = cc in same)
stuck_write (Live ws) b i v s h r e = stuck_index (nat_lt i (length ws)) _ _ (seen.Write b i) r e

stuck_cut : (c : Cell) (b : ℕ) (s : leaf.Stack) (h : Heap) (r : Reason) → cut_cell nothing c b tt s h ≡ machine.Stuck r → or_stuck (block_reason (words_of c)) (seen.Free b) ≡ seen.Stuck r
stuck_cut Never b s h r e = ap seen.Stuck (let same : Block ≡ r = cc in same)
stuck_cut Freed b s h r e = ap seen.Stuck (let same : Block ≡ r = cc in same)
stuck_cut (Live ws) b s h r e = absurd cc

stuck_make : (v w : Bool) (t : Tree (Unit {0})) (g : Heap) (r : Reason) → (if v then (if w then machine.Moved t g else machine.NameUsed) else machine.Full) ≡ machine.Stuck r → ⊥
stuck_make true true t g r e = cc
stuck_make true false t g r e = cc
stuck_make false w t g r e = cc

-- a stuck step is that of a leaf that is seen to be stuck
stuck_act : (a : leaf.Act) (n : Next) (h : Heap) (x : ℕ) (r : Reason) → perform nothing has_room tt a h x ≡ machine.Stuck r → act_next h a n ≡ seen.Stuck r
stuck_act (leaf.Go s) n h x r e = absurd cc
stuck_act (leaf.Read b i k) n h x r e = stuck_read (h.cells b) b i k h r e
stuck_act (leaf.Write b i v s) n h x r e = stuck_write (h.cells b) b i v s h r e
stuck_act (leaf.Make len k) n h x r e = absurd (stuck_make (has_room h len) (is_new h x) _ _ r e)
stuck_act (leaf.Cut b s) n h x r e = stuck_cut (h.cells b) b s h r e
stuck_act (leaf.Split l s w) n h x r e = absurd cc
stuck_act leaf.Over n h x r e = absurd cc
stuck_act (leaf.Bad q) n h x r e = ap seen.Stuck (let same : q ≡ r = cc in same)

stuck_inside : (f : Tree (Unit {0}) → Tree (Unit {0})) (a : Answer (Unit {0})) (r : Reason) → inside nothing f a ≡ machine.Stuck r → a ≡ machine.Stuck r
stuck_inside f (machine.Moved t h) r e = absurd cc
stuck_inside f (machine.Stuck q) r e = e
stuck_inside f machine.Full r e = e
stuck_inside f machine.NoSuchLeaf r e = e
stuck_inside f machine.NameUsed r e = e

stuck_join : (w : leaf.Wait) (l s : Tree (Unit {0})) (h : Heap) (r : Reason) → join_both nothing tt w l s h ≡ machine.Stuck r → ⊥
stuck_join w (Fork p v x y) s h r e = cc
stuck_join w (Leaf p (leaf.Run f cs)) (Leaf q u) h r e = cc
stuck_join w (Leaf p (leaf.Run f cs)) (Fork q v x y) h r e = cc
stuck_join w (Leaf p (leaf.End xs)) (Fork q v x y) h r e = cc
stuck_join w (Leaf p (leaf.End xs)) (Leaf q (leaf.Run f cs)) h r e = cc
stuck_join w (Leaf p (leaf.End xs)) (Leaf q (leaf.End ys)) h r e = cc

pub stuck_or_none : (v : LeafView) (n : Next) (o : Option (LeafView × Reason)) → stuck_or v n o ≡ None → o ≡ None
stuck_or_none v (seen.Stuck r) o e = absurd cc
stuck_or_none v (seen.Read b i) o e = e
stuck_or_none v (seen.Write b i) o e = e
stuck_or_none v (seen.Free b) o e = e
stuck_or_none v (seen.Call m) o e = e
stuck_or_none v seen.Fork o e = e
stuck_or_none v seen.Other o e = e

stuck_or_some : (v : LeafView) (n : Next) (r : Reason) (o : Option (LeafView × Reason)) → n ≡ seen.Stuck r → stuck_or v n o ≡ None → ⊥
stuck_or_some v n r o is e = let some : stuck_or v n o ≡ Some (v, r) = ap (λ m. stuck_or v m o) is in cc

stuck_left : (vs us : List LeafView) → first_stuck (vs ++ us) ≡ None → first_stuck vs ≡ None
stuck_left [] us e = refl
stuck_left (v ∷ vs) us e = ap (λ o. stuck_or v v.next o) (stuck_left vs us (stuck_or_none v v.next (first_stuck (vs ++ us)) e)) ∙ here v.next (first_stuck (vs ++ us)) e
  where
    here : (n : Next) (o : Option (LeafView × Reason)) → stuck_or v n o ≡ None → stuck_or v n None ≡ None
    here (seen.Stuck r) o e = absurd cc
    here (seen.Read b i) o e = refl
    here (seen.Write b i) o e = refl
    here (seen.Free b) o e = refl
    here (seen.Call m) o e = refl
    here seen.Fork o e = refl
    here seen.Other o e = refl

stuck_right : (vs us : List LeafView) → first_stuck (vs ++ us) ≡ None → first_stuck us ≡ None
stuck_right [] us e = e
stuck_right (v ∷ vs) us e = stuck_right vs us (stuck_or_none v v.next (first_stuck (vs ++ us)) e)

-- where no leaf is seen to be stuck, no step is
pub no_stuck : (T : List Proc) (t : Tree (Unit {0})) (h : Heap) (path at : List Side) (x : ℕ) (r : Reason) → first_stuck (leaves_of T h path t) ≡ None → move nothing has_room T t h at x ≡ machine.Stuck r → ⊥
no_stuck T (Leaf a (leaf.Run f cs)) h path [] x r e m =
    stuck_or_some (view_of T h path f cs) (view_of T h path f cs).next r None (stuck_act (leaf.act T (leaf.Run f cs)) (items_next T f.items) h x r m) e
no_stuck T (Leaf a (leaf.End vs)) h path [] x r e m = cc
no_stuck T (Leaf a s) h path (d ∷ ds) x r e m = cc
no_stuck T (Fork a w l s) h path [] x r e m = stuck_join w l s h r m
no_stuck T (Fork a w l s) h path (Left ∷ ds) x r e m =
    no_stuck T l h (path ++ Left ∷ []) ds x r (stuck_left (leaves_of T h (path ++ Left ∷ []) l) (leaves_of T h (path ++ Right ∷ []) s) e) (stuck_inside (λ t. Fork a w t s) (move nothing has_room T l h ds x) r m)
no_stuck T (Fork a w l s) h path (Right ∷ ds) x r e m =
    no_stuck T s h (path ++ Right ∷ []) ds x r (stuck_right (leaves_of T h (path ++ Left ∷ []) l) (leaves_of T h (path ++ Right ∷ []) s) e) (stuck_inside (λ t. Fork a w l t) (move nothing has_room T s h ds x) r m)

-- ---- the turn

-- a state that is not full, with this tree and heap
pub not_full : (s : MachineState) (b : Bool) → s.full ≡ false → b ≡ false → s ≡ record { tree = s.tree; heap = s.heap; full = b }
not_full s b full is = let put : Bool → MachineState = λ c. record { tree = s.tree; heap = s.heap; full = c } in ap put (full ∙ sym is)

stepped : (H : Option ReplayEnd) (a : Answer (Unit {0})) (s left : MachineState) (x : StepAnswer) (at : ℕ) → s.full ≡ false → H ≡ answer_told at a → ((r : Reason) → a ≡ machine.Stuck r → ⊥) → ◌≡◌ {A = StepAnswer × MachineState} (x, left) (by_answer a s) → (H ≡ answered at x) × LeadsTo a s left (answered at x)
stepped H (machine.Moved t h) s left x at full e ns p = subst (λ (q : StepAnswer × MachineState). (H ≡ answered at q.0) × LeadsTo (machine.Moved t h) s q.1 (answered at q.0)) (sym p) (e, (refl, refl))
stepped H (machine.Stuck r) s left x at full e ns p = absurd (ns r refl)
stepped H machine.Full s left x at full e ns p = subst (λ (q : StepAnswer × MachineState). (H ≡ answered at q.0) × LeadsTo machine.Full s q.1 (answered at q.0)) (sym p) (e, refl)
stepped H machine.NoSuchLeaf s left x at full e ns p = subst (λ (q : StepAnswer × MachineState). (H ≡ answered at q.0) × LeadsTo machine.NoSuchLeaf s q.1 (answered at q.0)) (sym p) (e, not_full s false full refl)
stepped H machine.NameUsed s left x at full e ns p = subst (λ (q : StepAnswer × MachineState). (H ≡ answered at q.0) × LeadsTo machine.NameUsed s q.1 (answered at q.0)) (sym p) (e, not_full s false full refl)

stuck_told_none : (made : ℕ) (o : Option (LeafView × Reason)) → stuck_told made o ≡ None → o ≡ None
stuck_told_none made None e = refl
stuck_told_none made (Some s) e = absurd cc

end_told_none : (made : ℕ) (b : Bool) → end_told made b ≡ None → b ≡ false
end_told_none made true e = absurd cc
end_told_none made false e = refl

-- something is told before the step, which is then not made
pub turned_some : (T : List Proc) (made : ℕ) (e : List Side × ℕ) (s left : MachineState) (end : ReplayEnd) → before_told T made e.0 s.tree s.heap ≡ Some end → left ≡ s → s.full ≡ false → Turned T made e s left (Some end)
turned_some T made e s left end is same full = record {
  is = here_by T made e s.tree s.heap ∙ ap (λ o. or_else o (answer_told (suc made) (move nothing has_room T s.tree s.heap e.0 e.1))) is;
  leads = same ∙ not_full s (is_full end) full (before_not T made e.0 s.tree s.heap end is);
}

-- nothing is, and the step was made
pub turned_none : (T : List Proc) (made : ℕ) (e : List Side × ℕ) (s left : MachineState) (x : StepAnswer) → before_told T made e.0 s.tree s.heap ≡ None → ◌≡◌ {A = StepAnswer × MachineState} (x, left) (step_of T s e.0 e.1) → s.full ≡ false → Turned T made e s left (answered (made + 1) x)
turned_none T made e s left x none p full =
    let views : List LeafView = leaves_of T s.heap [] s.tree in
    let a : Answer (Unit {0}) = move nothing has_room T s.tree s.heap e.0 e.1 in
    let told : or_else (leaves_told made views) (end_told made (has_ended s.tree)) ≡ None = none_first (or_else (leaves_told made views) (end_told made (has_ended s.tree))) (depth_told e.0 views) none in
    let calm : leaves_told made views ≡ None = none_first (leaves_told made views) (end_told made (has_ended s.tree)) told in
    let free : first_stuck views ≡ None = stuck_told_none made (first_stuck views) (none_second (race_told made (first_race views)) (stuck_told made (first_stuck views)) calm) in
    let going : has_ended s.tree ≡ false = end_told_none made (has_ended s.tree) (none_second (leaves_told made views) (end_told made (has_ended s.tree)) told) in
    let moved : ◌≡◌ {A = StepAnswer × MachineState} (x, left) (by_answer a s) =
    p ∙ (ap (λ b. step_by b (has_ended s.tree) T s e.0 e.1) full ∙ ap (λ b. step_by false b T s e.0 e.1) going) in
    let here : here_told T made (e ∷ []) s.tree s.heap ≡ answer_told (suc made) a =
    here_by T made e s.tree s.heap ∙ ap (λ o. or_else o (answer_told (suc made) a)) none in
    let both : (here_told T made (e ∷ []) s.tree s.heap ≡ answered (suc made) x) × LeadsTo a s left (answered (suc made) x) =
    stepped (here_told T made (e ∷ []) s.tree s.heap) a s left x (suc made) full here (λ r. no_stuck T s.tree s.heap [] e.0 e.1 r free) moved in
    subst (λ n. Turned T made e s left (answered n x)) (sym (add-one made)) (record { is = both.0; leads = both.1 })

-- the schedule is over
pub last_some : (T : List Proc) (made : ℕ) (s : MachineState) (end : ReplayEnd) → or_else (leaves_told made (leaves_of T s.heap [] s.tree)) (end_told made (has_ended s.tree)) ≡ Some end → IsLast T made s end
last_some T made s end is full = (
  sym (or_assoc (leaves_told made (leaves_of T s.heap [] s.tree)) (end_told made (has_ended s.tree)) (Some (Open made))) ∙ ap (λ o. or_else o (Some (Open made))) is,
  told_not T made s.tree s.heap end is,
)

pub last_none : (T : List Proc) (made : ℕ) (s : MachineState) → or_else (leaves_told made (leaves_of T s.heap [] s.tree)) (end_told made (has_ended s.tree)) ≡ None → IsLast T made s (Open made)
last_none T made s is full = (
  sym (or_assoc (leaves_told made (leaves_of T s.heap [] s.tree)) (end_told made (has_ended s.tree)) (Some (Open made))) ∙ ap (λ o. or_else o (Some (Open made))) is,
  refl,
)
