-- Where nothing was told before, no leaf ever lay below more than 64 forks.
use Rattle.std.proofs.Common.{◌≡◌, ℕ, zero, suc, ◌+◌, ◌<◌, ◌≤◌, Bool, true, false, ◌&&◌, ◌||◌, List, [], ◌∷◌, ◌++◌, length, take, drop, refl, sym, ap, ◌∙◌, subst, slice_index, nat_lt, ltb-false, length-append, append_assoc, append-nil, arith}
use Rattle.std.specs.Prelude.{Option, Some, None, if◌then◌else◌}
use Rattle.target_code.specs.declared.tree.Proc.{Proc}
use Rattle.target_meaning.specs.declared.answer.Reason.{Reason}
use Rattle.target_meaning.specs.declared.answer.Reason.TheVariants.{Index}
use Rattle.target_meaning.specs.declared.path.Side.{Side}
use Rattle.target_meaning.specs.declared.path.Side.TheVariants.{Left, Right}
use Rattle.target_meaning.specs.declared.view.LeafView.{LeafView}
use Rattle.target_meaning.specs.declared.view.Next.{Next}
use Rattle.target_meaning.specs.Leaf as leaf
use Rattle.target_meaning.specs.LeftFirst.{has_ended}
use Rattle.target_meaning.specs.Machine as machine
use Rattle.target_meaning.specs.Machine.{Heap, Cell, Never, Live, Freed, Tree, Leaf, Fork, Answer, read_cell, write_cell, cut_cell, perform, is_new, join_both, inside, move, nothing, has_room, depth}
use Rattle.target_meaning.specs.Runs.{Schedule, OnMoved, and_then, reach, IsShallow}
use Rattle.target_meaning.specs.States.{MachineState}
use Rattle.target_meaning.specs.Views.{act_next, items_next, view_of, leaves_of}
use Rattle.replay.specs.declared.answer.ReplayEnd.{ReplayEnd}
use Rattle.replay.specs.declared.answer.ReplayEnd.TheVariants.{Depth}
use Rattle.replay.specs.Sights.{passes, same_path, passes_at}
use Rattle.replay.specs.Told.{or_else, leaves_told, end_told, answer_told, next_told, here_told, reached_told, after, told_at}

-- ---- one step

abbrev IsLow : ℕ → Answer (Unit {0}) → Type 0
IsLow n a = OnMoved a (λ t h. n + depth t ≤ 64)

same_self : (ds : List Side) → same_path ds ds ≡ true
same_self [] = refl
same_self (Left ∷ ds) = same_self ds
same_self (Right ∷ ds) = same_self ds

or_left : (a b : Bool) → (a || b) ≡ false → a ≡ false
or_left true b e = e
or_left false b e = refl

or_right : (a b : Bool) → (a || b) ≡ false → b ≡ false
or_right true b e = absurd (let f : true ≡ false = e in cc)
or_right false b e = e

and_second : (a b : Bool) → a ≡ true → (a && b) ≡ false → b ≡ false
and_second true b e f = f
and_second false b e f = absurd (let g : false ≡ true = e in cc)

passes_left : (path : List Side) (vs us : List LeafView) → passes_at path (vs ++ us) ≡ false → passes_at path vs ≡ false
passes_left path [] us e = refl
passes_left path (v ∷ vs) us e =
    by_parts (same_path path v.path && passes v.frames v.regs (length path) v.next) (passes_at path (vs ++ us)) (passes_at path vs) e (passes_left path vs us)
  where
    by_parts : (a b d : Bool) → (a || b) ≡ false → (b ≡ false → d ≡ false) → (a || d) ≡ false
    by_parts true b d e f = e
    by_parts false b d e f = f e

passes_right : (path : List Side) (vs us : List LeafView) → passes_at path (vs ++ us) ≡ false → passes_at path us ≡ false
passes_right path [] us e = e
passes_right path (v ∷ vs) us e =
    passes_right path vs us (or_right (same_path path v.path && passes v.frames v.regs (length path) v.next) (passes_at path (vs ++ us)) e)

low_index : (v : Bool) (n : ℕ) (t : Tree (Unit {0})) (g : Heap) (r : Reason) → n + depth t ≤ 64 → IsLow n (if v then machine.Moved t g else machine.Stuck r)
low_index true n t g r le = le
low_index false n t g r le = tt

low_read : (c : Cell) (n i : ℕ) (k : ℕ → leaf.Stack) (h : Heap) → n ≤ 64 → IsLow n (read_cell nothing c i tt k h)
low_read Never n i k h le = tt
low_read Freed n i k h le = tt
low_read (Live ws) n i k h le = low_index (nat_lt i (length ws)) n (Leaf tt (k (slice_index ws i))) h Index (omega (arith, le))

low_write : (c : Cell) (n b i v : ℕ) (s : leaf.Stack) (h : Heap) → n ≤ 64 → IsLow n (write_cell nothing c b i v tt s h)
low_write Never n b i v s h le = tt
low_write Freed n b i v s h le = tt
low_write (Live ws) n b i v s h le = low_index (nat_lt i (length ws)) n (Leaf tt s) _ Index (omega (arith, le))

low_cut : (c : Cell) (n b : ℕ) (s : leaf.Stack) (h : Heap) → n ≤ 64 → IsLow n (cut_cell nothing c b tt s h)
low_cut Never n b s h le = tt
low_cut Freed n b s h le = tt
low_cut (Live ws) n b s h le = omega (arith, le)

low_make : (v w : Bool) (n : ℕ) (t : Tree (Unit {0})) (g : Heap) → n + depth t ≤ 64 → IsLow n (if v then (if w then machine.Moved t g else machine.NameUsed) else machine.Full)
low_make true true n t g le = le
low_make true false n t g le = tt
low_make false w n t g le = tt

low_act : (a : leaf.Act) (w : Next) (frames regs n : ℕ) (h : Heap) (x : ℕ) → n ≤ 64 → passes frames regs n (act_next h a w) ≡ false → IsLow n (perform nothing has_room tt a h x)
low_act (leaf.Go s) w frames regs n h x le e = omega (arith, le)
low_act (leaf.Read b i k) w frames regs n h x le e = low_read (h.cells b) n i k h le
low_act (leaf.Write b i v s) w frames regs n h x le e = low_write (h.cells b) n b i v s h le
low_act (leaf.Make len k) w frames regs n h x le e = low_make (has_room h len) (is_new h x) n (Leaf tt (k x)) _ (omega (arith, le))
low_act (leaf.Cut b s) w frames regs n h x le e = low_cut (h.cells b) n b s h le
low_act (leaf.Split l r v) w frames regs n h x le e = let more : n + 1 ≤ 64 = ltb-false 64 (n + 1) e in omega (arith, more)
low_act leaf.Over w frames regs n h x le e = tt
low_act (leaf.Bad r) w frames regs n h x le e = tt

low_join : (w : leaf.Wait) (l r : Tree (Unit {0})) (n : ℕ) (h : Heap) → n ≤ 64 → IsLow n (join_both nothing tt w l r h)
low_join w (Fork p v x y) r n h le = tt
low_join w (Leaf p (leaf.Run f cs)) (Leaf q u) n h le = tt
low_join w (Leaf p (leaf.Run f cs)) (Fork q v x y) n h le = tt
low_join w (Leaf p (leaf.End xs)) (Fork q v x y) n h le = tt
low_join w (Leaf p (leaf.End xs)) (Leaf q (leaf.Run f cs)) n h le = tt
low_join w (Leaf p (leaf.End xs)) (Leaf q (leaf.End ys)) n h le = omega (arith, le)

low_left : (a : Answer (Unit {0})) (w : leaf.Wait) (r : Tree (Unit {0})) (n m : ℕ) → m ≡ n + 1 → n + 1 + depth r ≤ 64 → IsLow m a → IsLow n (inside nothing (λ t. Fork tt w t r) a)
low_left (machine.Moved t h) w r n m e le low = omega (arith, e, le, low)
low_left (machine.Stuck q) w r n m e le low = tt
low_left machine.Full w r n m e le low = tt
low_left machine.NoSuchLeaf w r n m e le low = tt
low_left machine.NameUsed w r n m e le low = tt

low_right : (a : Answer (Unit {0})) (w : leaf.Wait) (l : Tree (Unit {0})) (n m : ℕ) → m ≡ n + 1 → n + 1 + depth l ≤ 64 → IsLow m a → IsLow n (inside nothing (λ t. Fork tt w l t) a)
low_right (machine.Moved t h) w l n m e le low = omega (arith, e, le, low)
low_right (machine.Stuck q) w l n m e le low = tt
low_right machine.Full w l n m e le low = tt
low_right machine.NoSuchLeaf w l n m e le low = tt
low_right machine.NameUsed w l n m e le low = tt

-- a step that passes no limit leaves no leaf below more than 64 forks
low_step : (T : List Proc) (t : Tree (Unit {0})) (h : Heap) (q ds : List Side) (x : ℕ) → length q + depth t ≤ 64 → passes_at (q ++ ds) (leaves_of T h q t) ≡ false → IsLow (length q) (move nothing has_room T t h ds x)
low_step T (Leaf a (leaf.Run f cs)) h q [] x le e =
    let v : LeafView = view_of T h q f cs in
    let here : passes_at q (v ∷ []) ≡ false = subst (λ p. passes_at p (v ∷ []) ≡ false) (append-nil q) e in
    low_act (leaf.act T (leaf.Run f cs)) (items_next T f.items) v.frames v.regs (length q) h x (omega (arith, le))
    (and_second (same_path q q) (passes v.frames v.regs (length q) v.next) (same_self q) (or_left (same_path q q && passes v.frames v.regs (length q) v.next) false here))
low_step T (Leaf a (leaf.End vs)) h q [] x le e = tt
low_step T (Leaf a s) h q (d ∷ ds) x le e = tt
low_step T (Fork a w l r) h q [] x le e = low_join w l r (length q) h (omega (arith, le))
low_step T (Fork a w l r) h q (Left ∷ ds) x le e =
    let n : length (q ++ Left ∷ []) ≡ length q + 1 = length-append q (Left ∷ []) in
    low_left (move nothing has_room T l h ds x) w r (length q) (length (q ++ Left ∷ [])) n (omega (arith, le))
    (low_step T l h (q ++ Left ∷ []) ds x (omega (arith, le, n))
    (subst (λ p. passes_at p (leaves_of T h (q ++ Left ∷ []) l) ≡ false) (sym (append_assoc q (Left ∷ []) ds)) (passes_left (q ++ Left ∷ ds) (leaves_of T h (q ++ Left ∷ []) l) (leaves_of T h (q ++ Right ∷ []) r) e)))
low_step T (Fork a w l r) h q (Right ∷ ds) x le e =
    let n : length (q ++ Right ∷ []) ≡ length q + 1 = length-append q (Right ∷ []) in
    low_right (move nothing has_room T r h ds x) w l (length q) (length (q ++ Right ∷ [])) n (omega (arith, le))
    (low_step T r h (q ++ Right ∷ []) ds x (omega (arith, le, n))
    (subst (λ p. passes_at p (leaves_of T h (q ++ Right ∷ []) r) ≡ false) (sym (append_assoc q (Right ∷ []) ds)) (passes_right (q ++ Right ∷ ds) (leaves_of T h (q ++ Left ∷ []) l) (leaves_of T h (q ++ Right ∷ []) r) e)))

-- ---- along a schedule

none_second : (o p : Option ReplayEnd) → or_else o p ≡ None → p ≡ None
none_second None p h = h
none_second (Some e) p h = absurd cc

no_depth : (b : Bool) (e : ReplayEnd) (o : Option ReplayEnd) → (if b then Some e else o) ≡ None → b ≡ false
no_depth true e o h = absurd cc
no_depth false e o h = refl

-- where nothing is told before a step, it passes no limit
not_passed : (T : List Proc) (made : ℕ) (e : List Side × ℕ) (rest : Schedule) (t : Tree (Unit {0})) (h : Heap) → here_told T made (e ∷ rest) t h ≡ None → passes_at e.0 (leaves_of T h [] t) ≡ false
not_passed T made e rest t h none =
    let last : Option ReplayEnd = next_told T made (leaves_of T h [] t) t h (e ∷ rest) in
    no_depth (passes_at e.0 (leaves_of T h [] t)) (Depth e.0) (answer_told (suc made) (move nothing has_room T t h e.0 e.1))
    (none_second (end_told made (has_ended t)) last (none_second (leaves_told made (leaves_of T h [] t)) (or_else (end_told made (has_ended t)) last) none))

and_then_same : (a : Answer (Unit {0})) → and_then a (λ t h. machine.Moved t h) ≡ a
and_then_same (machine.Moved t h) = refl
and_then_same (machine.Stuck r) = refl
and_then_same machine.Full = refl
and_then_same machine.NoSuchLeaf = refl
and_then_same machine.NameUsed = refl

behind_first : (a : Answer (Unit {0})) (f g : Tree (Unit {0}) → Heap → Answer (Unit {0})) (k : Tree (Unit {0}) → Heap → Answer (Unit {0})) → ((u : Tree (Unit {0})) (h : Heap) → f u h ≡ and_then (g u h) k) → and_then a f ≡ and_then (and_then a g) k
behind_first (machine.Moved t h) f g k e = e t h
behind_first (machine.Stuck r) f g k e = refl
behind_first machine.Full f g k e = refl
behind_first machine.NoSuchLeaf f g k e = refl
behind_first machine.NameUsed f g k e = refl

-- one more step of a run
more : (T : List Proc) (es : Schedule) (n : ℕ) (e : List Side × ℕ) (rest : Schedule) (t : Tree (Unit {0})) (h : Heap) → drop n es ≡ e ∷ rest → reach nothing has_room T (take (suc n) es) t h ≡ and_then (reach nothing has_room T (take n es) t h) (λ u g. move nothing has_room T u g e.0 e.1)
more T [] zero e rest t h d = absurd cc
more T [] (suc n) e rest t h d = absurd cc
more T (f ∷ es) zero e rest t h d =
    let first : f ≡ e = cc in
    and_then_same (move nothing has_room T t h f.0 f.1) ∙ ap (λ (p : List Side × ℕ). move nothing has_room T t h p.0 p.1) first
more T (f ∷ es) (suc n) e rest t h d =
    behind_first (move nothing has_room T t h f.0 f.1) (λ u g. reach nothing has_room T (take (suc n) es) u g) (λ u g. reach nothing has_room T (take n es) u g) (λ u g. move nothing has_room T u g e.0 e.1)
    (λ u g. more T es n e rest u g d)

behind_moved : (a : Answer (Unit {0})) (f : Tree (Unit {0}) → Heap → Answer (Unit {0})) (P Q R : Tree (Unit {0}) → Heap → Type 0) → OnMoved a P → OnMoved (and_then a f) Q → ((u : Tree (Unit {0})) (g : Heap) → P u g → OnMoved (f u g) Q → R u g) → OnMoved a R
behind_moved (machine.Moved t h) f P Q R p q k = k t h p q
behind_moved (machine.Stuck r) f P Q R p q k = tt
behind_moved machine.Full f P Q R p q k = tt
behind_moved machine.NoSuchLeaf f P Q R p q k = tt
behind_moved machine.NameUsed f P Q R p q k = tt

-- a schedule with one more step is shallow where the state behind it is
shallow_more : (T : List Proc) (es : Schedule) (n : ℕ) (e : List Side × ℕ) (rest : Schedule) (t : Tree (Unit {0})) (h : Heap) → drop n es ≡ e ∷ rest → IsShallow nothing has_room T (take n es) t h → OnMoved (reach nothing has_room T (take (suc n) es) t h) (λ u g. depth u ≤ 64) → IsShallow nothing has_room T (take (suc n) es) t h
shallow_more T [] zero e rest t h d w m = absurd cc
shallow_more T [] (suc n) e rest t h d w m = absurd cc
shallow_more T (f ∷ es) zero e rest t h d w m = (w, subst (λ a. OnMoved a (λ u g. depth u ≤ 64)) (and_then_same (move nothing has_room T t h f.0 f.1)) m)
shallow_more T (f ∷ es) (suc n) e rest t h d w m = (
  w.0,
  behind_moved (move nothing has_room T t h f.0 f.1) (λ u g. reach nothing has_room T (take (suc n) es) u g)
      (λ u g. IsShallow nothing has_room T (take n es) u g) (λ u g. depth u ≤ 64) (λ u g. IsShallow nothing has_room T (take (suc n) es) u g) w.1 m
      (λ u g p q. shallow_more T es n e rest u g d p q),
)

over : (es : Schedule) (n : ℕ) → drop n es ≡ [] → take (suc n) es ≡ take n es
over [] zero d = refl
over [] (suc n) d = refl
over (f ∷ es) zero d = absurd cc
over (f ∷ es) (suc n) d = ap (λ l. f ∷ l) (over es n d)

told_here : (T : List Proc) (es rest : Schedule) (s : MachineState) (n : ℕ) (t : Tree (Unit {0})) (h : Heap) → after T es s n ≡ machine.Moved t h → drop n es ≡ rest → told_at T es s n ≡ here_told T n rest t h
unfolding told_at
told_here T es rest s n t h r d = ap (λ a. reached_told T n (drop n es) a) r ∙ ap (λ l. here_told T n l t h) d

-- the state that so many steps reach has no leaf below more than 64 forks
record Low (T : List Proc) (es : Schedule) (s : MachineState) (n : ℕ) : Type 0 where
  all : IsShallow nothing has_room T (take n es) s.tree s.heap
  last : OnMoved (after T es s n) (λ t h. depth t ≤ 64)

low_next : (T : List Proc) (es rest : Schedule) (e : List Side × ℕ) (s : MachineState) (n : ℕ) (a : Answer (Unit {0})) → after T es s n ≡ a → drop n es ≡ e ∷ rest → told_at T es s n ≡ None → OnMoved a (λ t h. depth t ≤ 64) → OnMoved (and_then a (λ u g. move nothing has_room T u g e.0 e.1)) (λ t h. depth t ≤ 64)
low_next T es rest e s n (machine.Moved t h) r d none le =
    on_low (move nothing has_room T t h e.0 e.1)
    (low_step T t h [] e.0 e.1 (omega (arith, le)) (not_passed T n e rest t h (sym (told_here T es (e ∷ rest) s n t h r d) ∙ none)))
  where
    on_low : (a : Answer (Unit {0})) → IsLow 0 a → OnMoved a (λ t h. depth t ≤ 64)
    on_low (machine.Moved t h) le = omega (arith, le)
    on_low (machine.Stuck r) le = tt
    on_low machine.Full le = tt
    on_low machine.NoSuchLeaf le = tt
    on_low machine.NameUsed le = tt
low_next T es rest e s n (machine.Stuck q) r d none le = tt
low_next T es rest e s n machine.Full r d none le = tt
low_next T es rest e s n machine.NoSuchLeaf r d none le = tt
low_next T es rest e s n machine.NameUsed r d none le = tt

low_more : (T : List Proc) (es : Schedule) (s : MachineState) (n : ℕ) (l : Schedule) → drop n es ≡ l → told_at T es s n ≡ None → Low T es s n → Low T es s (suc n)
low_more T es s n [] d none low =
    let same : take n es ≡ take (suc n) es = sym (over es n d) in
    record {
      all = subst (λ l. IsShallow nothing has_room T l s.tree s.heap) same low.all;
      last = subst (λ l. OnMoved (reach nothing has_room T l s.tree s.heap) (λ t h. depth t ≤ 64)) same low.last;
    }
low_more T es s n (e ∷ rest) d none low =
    let last : OnMoved (after T es s (suc n)) (λ t h. depth t ≤ 64) =
    subst (λ a. OnMoved a (λ t h. depth t ≤ 64)) (sym (more T es n e rest s.tree s.heap d)) (low_next T es rest e s n (after T es s n) refl d none low.last) in
    record { all = shallow_more T es n e rest s.tree s.heap d low.all last; last = last }

low_all : (T : List Proc) (es : Schedule) (s : MachineState) (n : ℕ) → depth s.tree ≤ 64 → ((j : ℕ) → j < n → told_at T es s j ≡ None) → Low T es s n
low_all T es s zero le none = record { all = le; last = le }
low_all T es s (suc n) le none =
    low_more T es s n (drop n es) refl (none n (omega arith)) (low_all T es s n le (λ j lt. none j (omega (arith, lt))))

pub shallow : (T : List Proc) (es : Schedule) (s : MachineState) (n : ℕ) → depth s.tree ≤ 64 → ((j : ℕ) → j < n → told_at T es s j ≡ None) → IsShallow nothing has_room T (take n es) s.tree s.heap
shallow T es s n le none = (low_all T es s n le none).all
