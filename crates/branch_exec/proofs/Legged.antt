-- How a leg ends.
use Rattle.std.proofs.Common.{◌≡◌, ℕ, suc, ◌+◌, ◌<◌, ◌≤◌, ◌⊎◌, inl, inr, ⊎_elim, List, [], ◌∷◌, ◌++◌, length, map, refl, sym, ap, ◌∙◌, subst, arith, append_assoc}
use Rattle.std.specs.Prelude.{Option, Some, None, true}
use Rattle.target_code.specs.declared.tree.Proc.{Proc}
use Rattle.target_meaning.specs.Leaf as leaf
use Rattle.target_meaning.specs.Piece.{Piece}
use Rattle.target_meaning.specs.declared.answer.Reason.{Reason}
use Rattle.target_meaning.specs.declared.path.Side.{Side}
use Rattle.target_meaning.specs.declared.frame.Starting.{Starting}
use Rattle.target_meaning.specs.declared.frame.Todo.TheVariants as todo
use Rattle.target_meaning.specs.declared.stack.Stack.{Stack}
use Rattle.target_meaning.specs.declared.stack.Stack.TheVariants as stack
use Rattle.target_meaning.specs.declared.stack.Frames.{Frames}
use Rattle.target_meaning.specs.Stacks.{callers_of, frame_of, stack_of}
use Rattle.target_meaning.specs.Turns.{IsSplit, TellsAll, part_of, run_of, wait_of}
use Rattle.branch_exec.specs.Stores.{Kept, CanGive, CannotGive}
use Rattle.branch_exec.specs.Leaves.{IsSized, PassesLimit, most_forks}
use Rattle.branch_exec.specs.Legs.{GoesOn, TurnIs, StuckBy, UnownedAt}
use Rattle.branch_exec.specs.Branches.{Runner, Names}
use Rattle.branch_exec.specs.Ends.{Cause, FullAt, IsBad, IsSpot, IsUnderWay, TooDeep}
use Rattle.branch_exec.specs.Turned.{DepthOf, EndedWith, ForkEnds, ForkGoes, ForkTold, OverWith, StuckIs, TurnEnds, TurnLegs, Turned, UnownedIs}
use Rattle.branch_exec.specs.Went.{runner, Ran, LegIs, EndsLeg, IsStop, KeepsOne, Kin, LegEnds, LegGoes, LegKeeps, Forks, Stopped}
use Rattle.branch_exec.specs.declared.run.Turn.{Turn}
use Rattle.branch_exec.specs.declared.run.Turn.TheVariants as turn
use Rattle.branch_exec.specs.declared.leaf.Leaf.{Leaf}
use Rattle.branch_exec.specs.declared.leg.Leg.{Leg}
use Rattle.branch_exec.specs.declared.leg.Leg.TheVariants as leg
use Rattle.branch_exec.specs.declared.end.BranchEnd.{BranchEnd}
use Rattle.branch_exec.specs.declared.end.BranchEnd.TheVariants as end
use Rattle.branch_exec.proofs.Took.{append_none, goes_on, silent, ran_then}
use Rattle.branch_exec.proofs.Sizes.{ActSizes, IsOne, act_sizes, callers_none}

kin_on : (s t : Kept) (xs : List (ℕ × ℕ)) (q : Piece) → GoesOn s t xs q → Kin s t
kin_on s t xs q g = record { below = g.below; cap = g.cap; place = g.place; weight = g.weight }

pub kin_then : (s m t : Kept) → Kin s m → Kin m t → Kin s t
kin_then s m t g h = record { below = h.below ∙ g.below; cap = h.cap ∙ g.cap; place = h.place ∙ g.place; weight = h.weight ∙ g.weight }

pub ran_kin : (T : List Proc) (b d : ℕ) (v : Stack) (s : Kept) (c : ℕ) (u : Stack) (t : Kept) (e : ℕ) → Ran T b d v s c u t e → Kin s t
ran_kin T b d v s c u t e r = kin_on s t r.names t.top r.on

-- the store after a turn that is no step
pub stays_on : (T : List Proc) (r : Turn) (a : leaf.Act) (s t : Kept) (v u : Stack) → (r ≡ turn.On → ⊥) → TurnIs T r a s t v u → GoesOn s t [] s.top
stays_on T turn.On a s t v u n x = absurd (n refl)
stays_on T turn.Over a s t v u n x = x.2
stays_on T (turn.Stuck r) a s t v u n x = x.2
stays_on T (turn.Unowned b o) a s t v u n x = x.2
stays_on T (turn.Full at len) a s t v u n x = x.4
stays_on T (turn.Fork l r) a s t v u n x = x.2
stays_on T turn.Deep a s t v u n x = x.2
stays_on T turn.Memory a s t v u n x = x.1

-- a leaf that stops by itself
own_stop : (T : List Proc) (b d : ℕ) (path : List Side) (v w : Stack) (s m t : Kept) (c n : ℕ) (x : BranchEnd) → Ran T b d v s c w m n → GoesOn m t [] m.top → Cause T b path x (runner T m.top n w) → FullAt x s t → Stopped true T b d path (runner T s.top c v) s x t
own_stop T b d path v w s m t c n x r g y f = record {
  names = r.names;
  more = [];
  lone = λ z. refl;
  below = [];
  last = runner T m.top n w;
  stops = r.run;
  cause = subst (λ z. Cause T b z x (runner T m.top n w)) (append_none path) y;
  drawn = g.drawn ∙ (ap (λ z. z ++ []) r.on.drawn ∙ append_assoc s.drawn r.names []);
  walked = let i = g.walked in let j = r.on.walked in omega arith;
  full = f;
}

-- a leg whose last turn tells why it stops
module _ (T : List Proc) (b d : ℕ) (v : Stack) (s : Kept) (c : ℕ) (l : Leaf) (t : Kept) where
  abbrev Stops_by : BranchEnd → Type 0
  Stops_by x = Stopped true T b d l.path (runner T s.top c v) s x t

  spot_back : (w : Stack) (x : _) → stack_of T l.stack ≡ stack_of T w → IsSpot x l.path (stack_of T l.stack) → IsSpot x l.path (stack_of T w)
  spot_back w x e h = subst (IsSpot x l.path) e h

  stop_stuck : (r : Reason) (x : BranchEnd) → LegIs T b d (turn.Stuck r) v s c l.stack t l.done → StuckIs T x r l → Stops_by x
  stop_stuck r (end.Stuck spot reason) g y =
      own_stop T b d l.path v g.stack s g.store t c l.done (end.Stuck spot reason) g.ran g.last.2
      (g.unspent, subst (StuckBy (leaf.act T (stack_of T g.stack)) g.store.top) (sym y.1) g.last.0, spot_back g.stack spot g.last.1 y.0) tt
  stop_stuck r end.Memory g y = own_stop T b d l.path v g.stack s g.store t c l.done end.Memory g.ran g.last.2 tt tt
  stop_stuck r (end.Done a e) g y = absurd y
  stop_stuck r (end.Unowned a e o) g y = absurd y
  stop_stuck r (end.OutOfSteps a) g y = absurd y
  stop_stuck r (end.Full a e) g y = absurd y
  stop_stuck r (end.Depth a) g y = absurd y

  stop_unowned : (k o : ℕ) (x : BranchEnd) → LegIs T b d (turn.Unowned k o) v s c l.stack t l.done → UnownedIs T x k o l → Stops_by x
  stop_unowned k o (end.Unowned spot block offset) g y =
      own_stop T b d l.path v g.stack s g.store t c l.done (end.Unowned spot block offset) g.ran g.last.2 (
        g.unspent,
        subst (λ z. UnownedAt (leaf.act T (stack_of T g.stack)) g.store.top z offset) (sym y.1) (subst (λ z. UnownedAt (leaf.act T (stack_of T g.stack)) g.store.top k z) (sym y.2) g.last.0),
        spot_back g.stack spot g.last.1 y.0,
      ) tt
  stop_unowned k o end.Memory g y = own_stop T b d l.path v g.stack s g.store t c l.done end.Memory g.ran g.last.2 tt tt
  stop_unowned k o (end.Done a e) g y = absurd y
  stop_unowned k o (end.Stuck a e) g y = absurd y
  stop_unowned k o (end.OutOfSteps a) g y = absurd y
  stop_unowned k o (end.Full a e) g y = absurd y
  stop_unowned k o (end.Depth a) g y = absurd y

  stop_full : (at len : ℕ) → LegIs T b d (turn.Full at len) v s c l.stack t l.done → Stops_by (end.Full at len)
  stop_full at len g =
      let i = g.ran.on.walked in let j = g.last.4.walked in let k = g.last.1 in let n = g.last.2 in let p = g.ran.on.cap in
      own_stop T b d l.path v g.stack s g.store t c l.done (end.Full at len) g.ran g.last.4 (g.unspent, g.last.0) (omega arith, omega arith, omega arith)

  stop_deep : (x : BranchEnd) → LegIs T b d turn.Deep v s c l.stack t l.done → DepthOf x l.path → Stops_by x
  stop_deep (end.Depth p) g y =
      own_stop T b d l.path v g.stack s g.store t c l.done (end.Depth p) g.ran g.last.2
      (g.unspent, subst (λ a. TooDeep a l.path (stack_of T g.stack)) (sym g.last.0) g.last.1, y) tt
  stop_deep end.Memory g y = own_stop T b d l.path v g.stack s g.store t c l.done end.Memory g.ran g.last.2 tt tt
  stop_deep (end.Done a e) g y = absurd y
  stop_deep (end.Stuck a e) g y = absurd y
  stop_deep (end.Unowned a e o) g y = absurd y
  stop_deep (end.OutOfSteps a) g y = absurd y
  stop_deep (end.Full a e) g y = absurd y

  stop_memory : (r : Turn) → (r ≡ turn.On → ⊥) → LegIs T b d r v s c l.stack t l.done → Stops_by end.Memory
  stop_memory r n g = own_stop T b d l.path v g.stack s g.store t c l.done end.Memory g.ran (stays_on T r (leaf.act T (stack_of T g.stack)) g.store t g.stack l.stack n g.last) tt tt

-- a child of a fork, by what it starts with
abbrev pub child_by : List Proc → Starting → leaf.Child
child_by T l = record { stack = run_of T l.frames; hands = map part_of l.hands.items; lends = map part_of l.lends.items }

child_is : (c : leaf.Child) (s : leaf.Stack) (h l : List leaf.Part) → c.stack ≡ s → c.hands ≡ h → c.lends ≡ l → c ≡ record { stack = s; hands = h; lends = l }
child_is c s h l e f g =
    ap (λ x. record { stack = x; hands = c.hands; lends = c.lends }) e
    ∙ (ap (λ x. record { stack = s; hands = x; lends = c.lends }) f
    ∙ ap (λ x. record { stack = s; hands = h; lends = x }) g)

pub split_by : (T : List Proc) (a : leaf.Act) (l r : Starting) (fs : Frames) → IsSplit T a l r fs → a ≡ leaf.Split (child_by T l) (child_by T r) (wait_of T fs)
split_by T a l r fs s =
    s.is
    ∙ (ap (λ x. leaf.Split x s.second (wait_of T fs)) (child_is s.first (run_of T l.frames) (map part_of l.hands.items) (map part_of l.lends.items) s.first_stack s.first_hands s.first_lends)
    ∙ ap (λ x. leaf.Split (child_by T l) x (wait_of T fs)) (child_is s.second (run_of T r.frames) (map part_of r.hands.items) (map part_of r.lends.items) s.second_stack s.second_hands s.second_lends))

-- a turn that tells of a fork
pub record Splits (T : List Proc) (a : leaf.Act) (l r : Starting) (u : Stack) : Type 0 where
  pub frames : Frames
  pub stack : u ≡ stack.Run frames
  pub split : IsSplit T a l r frames

pub splits : (T : List Proc) (a : leaf.Act) (l r : Starting) (u : Stack) → TellsAll T a (todo.Split l r) u → Splits T a l r u
splits T a l r (stack.Run fs) h = record { frames = fs; stack = refl; split = h }
splits T a l r (stack.End vs) h = absurd h

one_of : (T : List Proc) (fs : Frames) → IsOne (run_of T fs) → fs.below.items ≡ []
one_of T fs h = callers_none T fs.below.items h

split_ones : (T : List Proc) (w : Stack) (l r : leaf.Child) (k : leaf.Wait) → leaf.act T (stack_of T w) ≡ leaf.Split l r k → IsOne l.stack × IsOne r.stack
split_ones T (stack.Run fs) l r k e = subst (ActSizes (frame_of T fs.top) (callers_of T fs.below.items [])) e (act_sizes T (frame_of T fs.top) (callers_of T fs.below.items []))
split_ones T (stack.End vs) l r k e = absurd (let z : ⊥ = cc e in z)

-- the branches of a fork begin with one frame each
pub fork_ones : (T : List Proc) (w u : Stack) (l r : Starting) → TellsAll T (leaf.act T (stack_of T w)) (todo.Split l r) u → (l.frames.below.items ≡ []) × (r.frames.below.items ≡ [])
fork_ones T w u l r h =
    let s = splits T (leaf.act T (stack_of T w)) l r u h in
    let e = split_ones T w (child_by T l) (child_by T r) (wait_of T s.frames) (split_by T (leaf.act T (stack_of T w)) l r s.frames s.split) in
    (one_of T l.frames e.0, one_of T r.frames e.1)

module _ (T : List Proc) (b d : ℕ) (v : Stack) (s : Kept) (c : ℕ) (l : Leaf) (t : Kept) where
  stop_fork : (x y : Starting) (e : BranchEnd) → LegIs T b d (turn.Fork x y) v s c l.stack t l.done → ForkEnds T e x y t.top l → Stopped true T b d l.path (runner T s.top c v) s e t
  stop_fork x y (end.Depth p) g h =
      let a = leaf.act T (stack_of T g.stack) in
      let sp = splits T a x y l.stack g.last.0 in
      own_stop T b d l.path v g.stack s g.store t c l.done (end.Depth p) g.ran g.last.2
      (g.unspent, subst (λ z. TooDeep z l.path (stack_of T g.stack)) (sym (split_by T a x y sp.frames sp.split)) h.1, h.0) tt
  stop_fork x y (end.Unowned spot block offset) g h =
      let a = leaf.act T (stack_of T g.stack) in
      let sp = splits T a x y l.stack g.last.0 in
      own_stop T b d l.path v g.stack s g.store t c l.done (end.Unowned spot block offset) g.ran g.last.2 (
        g.unspent,
        subst (λ z. UnownedAt z g.store.top block offset) (sym (split_by T a x y sp.frames sp.split)) (subst (λ z. CannotGive z x y block offset) g.last.2.top h.1),
        subst (IsSpot spot l.path) g.last.1 h.0,
      ) tt
  stop_fork x y end.Memory g h = own_stop T b d l.path v g.stack s g.store t c l.done end.Memory g.ran g.last.2 tt tt
  stop_fork x y (end.Done i j) g h = absurd h
  stop_fork x y (end.Stuck i j) g h = absurd h
  stop_fork x y (end.OutOfSteps i) g h = absurd h
  stop_fork x y (end.Full i j) g h = absurd h

  -- an end with results comes where the leaf had ended
  over_ran : LegIs T b d turn.Over v s c l.stack t l.done → Ran T b d v s c l.stack t l.done
  over_ran g = ran_then T b d v g.stack l.stack s g.store t c l.done l.done g.ran (silent T b d g.stack l.stack g.store t l.done g.last.1 g.last.2)

  abbrev Ends_by : BranchEnd → Type 0
  Ends_by e = LegEnds T b d l.path v s c e t

  leg_kin : (r : Turn) → (r ≡ turn.On → ⊥) → LegIs T b d r v s c l.stack t l.done → Kin s t
  leg_kin r n g = kin_then s g.store t (ran_kin T b d v s c g.stack g.store l.done g.ran) (kin_on g.store t [] g.store.top (stays_on T r (leaf.act T (stack_of T g.stack)) g.store t g.stack l.stack n g.last))

  bad_ends : (r : Turn) (e : BranchEnd) → (r ≡ turn.On → ⊥) → LegIs T b d r v s c l.stack t l.done → IsBad e → Stopped true T b d l.path (runner T s.top c v) s e t → Ends_by e
  bad_ends r e n g i x = record { kin = leg_kin r n g; ran = λ regs steps q. absurd (subst IsBad q i); stopped = λ j. x }

  over_ends : (e : BranchEnd) → LegIs T b d turn.Over v s c l.stack t l.done → OverWith e l → Ends_by e
  over_ends (end.Done regs steps) g y = record {
    kin = leg_kin turn.Over (λ q. cc q) g;
    ran = λ xs n q.
        let i : regs ≡ xs = cc q in
        let j : steps ≡ n = cc q in
        let lt = g.unspent in let y1 = y.1 in (
          subst (λ z. Ran T b d v s c (stack.End z) t n) i (subst (λ z. Ran T b d v s c (stack.End regs) t z) j (subst (λ z. Ran T b d v s c (stack.End regs) t z) (sym y.1) (subst (λ z. Ran T b d v s c z t l.done) y.0 (over_ran g)))),
          inr (omega arith),
        );
    stopped = λ z. absurd z;
  }
  over_ends end.Memory g y = bad_ends turn.Over end.Memory (λ q. cc q) g tt (stop_memory T b d v s c l t turn.Over (λ q. cc q) g)
  over_ends (end.Stuck i j) g h = absurd h
  over_ends (end.Unowned i j k) g h = absurd h
  over_ends (end.OutOfSteps i) g h = absurd h
  over_ends (end.Full i j) g h = absurd h
  over_ends (end.Depth i) g h = absurd h

  stuck_bad : (r : Reason) (x : BranchEnd) → StuckIs T x r l → IsBad x
  stuck_bad r (end.Done i j) y = absurd y
  stuck_bad r (end.Stuck i j) y = tt
  stuck_bad r (end.Unowned i j k) y = tt
  stuck_bad r (end.OutOfSteps i) y = tt
  stuck_bad r (end.Full i j) y = tt
  stuck_bad r (end.Depth i) y = tt
  stuck_bad r end.Memory y = tt

  unowned_bad : (k o : ℕ) (x : BranchEnd) → UnownedIs T x k o l → IsBad x
  unowned_bad k o (end.Done i j) y = absurd y
  unowned_bad k o (end.Stuck i j) y = tt
  unowned_bad k o (end.Unowned i j m) y = tt
  unowned_bad k o (end.OutOfSteps i) y = tt
  unowned_bad k o (end.Full i j) y = tt
  unowned_bad k o (end.Depth i) y = tt
  unowned_bad k o end.Memory y = tt

  depth_bad : (x : BranchEnd) → DepthOf x l.path → IsBad x
  depth_bad (end.Done i j) y = absurd y
  depth_bad (end.Stuck i j) y = tt
  depth_bad (end.Unowned i j m) y = tt
  depth_bad (end.OutOfSteps i) y = tt
  depth_bad (end.Full i j) y = tt
  depth_bad (end.Depth i) y = tt
  depth_bad end.Memory y = tt

  fork_bad : (x y : Starting) (e : BranchEnd) → ForkEnds T e x y t.top l → IsBad e
  fork_bad x y (end.Done i j) h = absurd h
  fork_bad x y (end.Stuck i j) h = tt
  fork_bad x y (end.Unowned i j m) h = tt
  fork_bad x y (end.OutOfSteps i) h = tt
  fork_bad x y (end.Full i j) h = tt
  fork_bad x y (end.Depth i) h = tt
  fork_bad x y end.Memory h = tt

  turn_ends : (r : Turn) (e : BranchEnd) → (r ≡ turn.On → ⊥) → LegIs T b d r v s c l.stack t l.done → TurnEnds T r e l → Ends_by e
  turn_ends turn.On e n g y = absurd (n refl)
  turn_ends turn.Over e n g y = over_ends e g y
  turn_ends (turn.Stuck r) e n g y = bad_ends (turn.Stuck r) e n g (stuck_bad r e y) (stop_stuck T b d v s c l t r e g y)
  turn_ends (turn.Unowned k o) e n g y = bad_ends (turn.Unowned k o) e n g (unowned_bad k o e y) (stop_unowned T b d v s c l t k o e g y)
  turn_ends (turn.Full at len) e n g y = subst Ends_by (sym y) (bad_ends (turn.Full at len) (end.Full at len) n g tt (stop_full T b d v s c l t at len g))
  turn_ends turn.Deep e n g y = bad_ends turn.Deep e n g (depth_bad e y) (stop_deep T b d v s c l t e g y)
  turn_ends turn.Memory e n g y = subst Ends_by (sym y) (bad_ends turn.Memory end.Memory n g tt (stop_memory T b d v s c l t turn.Memory n g))
  turn_ends (turn.Fork x z) e n g y = absurd y

  -- as many steps as it may make
  none_ends : (e : BranchEnd) → Ran T b d v s c l.stack t l.done × ((l.done ≤ b) ⊎ (l.done ≡ c)) × (b ≤ l.done) → EndedWith e l → Ends_by e
  none_ends (end.Done regs steps) r y = record {
    kin = ran_kin T b d v s c l.stack t l.done r.0;
    ran = λ xs n q.
        let i : regs ≡ xs = cc q in
        let j : steps ≡ n = cc q in
        let y1 = y.1 in (
          subst (λ z. Ran T b d v s c (stack.End z) t n) i (subst (λ z. Ran T b d v s c (stack.End regs) t z) (sym y.1 ∙ j) (subst (λ z. Ran T b d v s c z t l.done) y.0 r.0)),
          ⊎_elim (λ h. inr (omega arith)) (λ h. inl (omega arith)) r.1,
        );
    stopped = λ z. absurd z;
  }
  none_ends (end.OutOfSteps p) r y = record {
    kin = ran_kin T b d v s c l.stack t l.done r.0;
    ran = λ xs n q. absurd (let z : ⊥ = cc q in z);
    stopped = λ z. own_stop T b d l.path v l.stack s t t c l.done (end.OutOfSteps p) r.0 (goes_on t) (r.2, y.0 T, y.1) tt;
  }
  none_ends end.Memory r y = record {
    kin = ran_kin T b d v s c l.stack t l.done r.0;
    ran = λ xs n q. absurd (let z : ⊥ = cc q in z);
    stopped = λ z. own_stop T b d l.path v l.stack s t t c l.done end.Memory r.0 (goes_on t) tt tt;
  }
  none_ends (end.Stuck i j) r y = absurd y
  none_ends (end.Unowned i j k) r y = absurd y
  none_ends (end.Full i j) r y = absurd y
  none_ends (end.Depth i) r y = absurd y

no_on : (r : Turn) → IsStop r → r ≡ turn.On → ⊥
no_on r h e = subst IsStop e h

pub none_goes : (T : List Proc) (d : ℕ) (o : Option Turn) (v u : Leaf) (s t : Kept) (e : BranchEnd) → o ≡ None → EndsLeg T v.budget d o v.stack s v.done u.stack t u.done → u.path ≡ v.path → EndedWith e u → LegEnds T v.budget d v.path v.stack s v.done e t
none_goes T d o v u s t e is g p y =
    subst (λ z. LegEnds T v.budget d z v.stack s v.done e t) p
    (none_ends T v.budget d v.stack s v.done u t e (subst (λ z. EndsLeg T v.budget d z v.stack s v.done u.stack t u.done) is g) y)

-- what a turn that is no step ends a leg with
turned_goes : (T : List Proc) (d : ℕ) (r : Turn) (v u w : Leaf) (s t : Kept) (x : Leg) → IsStop r → LegIs T v.budget d r v.stack s v.done u.stack t u.done → u.path ≡ v.path → Turned T r x t.top u w → LegGoes T d x v s w t
turned_goes T d turn.On v u w s t x n g p y = absurd n
turned_goes T d turn.Over v u w s t (leg.Ended e) n g p y = subst (λ z. LegEnds T v.budget d z v.stack s v.done e t) p (turn_ends T v.budget d v.stack s v.done u t turn.Over e (no_on turn.Over n) g y)
turned_goes T d turn.Over v u w s t (leg.Forked i j) n g p y = absurd y
turned_goes T d (turn.Stuck r) v u w s t (leg.Ended e) n g p y = subst (λ z. LegEnds T v.budget d z v.stack s v.done e t) p (turn_ends T v.budget d v.stack s v.done u t (turn.Stuck r) e (no_on (turn.Stuck r) n) g y)
turned_goes T d (turn.Stuck r) v u w s t (leg.Forked i j) n g p y = absurd y
turned_goes T d (turn.Unowned k o) v u w s t (leg.Ended e) n g p y = subst (λ z. LegEnds T v.budget d z v.stack s v.done e t) p (turn_ends T v.budget d v.stack s v.done u t (turn.Unowned k o) e (no_on (turn.Unowned k o) n) g y)
turned_goes T d (turn.Unowned k o) v u w s t (leg.Forked i j) n g p y = absurd y
turned_goes T d (turn.Full k o) v u w s t (leg.Ended e) n g p y = subst (λ z. LegEnds T v.budget d z v.stack s v.done e t) p (turn_ends T v.budget d v.stack s v.done u t (turn.Full k o) e (no_on (turn.Full k o) n) g y)
turned_goes T d (turn.Full k o) v u w s t (leg.Forked i j) n g p y = absurd y
turned_goes T d turn.Deep v u w s t (leg.Ended e) n g p y = subst (λ z. LegEnds T v.budget d z v.stack s v.done e t) p (turn_ends T v.budget d v.stack s v.done u t turn.Deep e (no_on turn.Deep n) g y)
turned_goes T d turn.Deep v u w s t (leg.Forked i j) n g p y = absurd y
turned_goes T d turn.Memory v u w s t (leg.Ended e) n g p y = subst (λ z. LegEnds T v.budget d z v.stack s v.done e t) p (turn_ends T v.budget d v.stack s v.done u t turn.Memory e (no_on turn.Memory n) g y)
turned_goes T d turn.Memory v u w s t (leg.Forked i j) n g p y = absurd y
turned_goes T d (turn.Fork l r) v u w s t (leg.Ended e) n g p y =
    subst (λ z. LegEnds T v.budget d z v.stack s v.done e t) p
    (bad_ends T v.budget d v.stack s v.done u t (turn.Fork l r) e (no_on (turn.Fork l r) n) g (fork_bad T v.budget d v.stack s v.done u t l r e y) (stop_fork T v.budget d v.stack s v.done u t l r e g y))
turned_goes T d (turn.Fork l r) v u w s t (leg.Forked i j) n g p y =
    let ones = fork_ones T g.stack u.stack l r g.last.0 in
    let here : Forks T v.budget d l r v.stack s v.done u.stack t u.done = record { leg = g; can = y.can; first = ones.0; second = ones.1 } in
    subst (λ z. Forks T v.budget d i z v.stack s v.done w.stack t w.done) (sym y.right)
    (subst (λ z. Forks T v.budget d z r v.stack s v.done w.stack t w.done) (sym y.left)
    (subst (λ (z : Leaf). Forks T v.budget d l r v.stack s v.done z.stack t z.done) (sym y.same) here))

pub some_goes : (T : List Proc) (d : ℕ) (o : Option Turn) (r : Turn) (v u w : Leaf) (s t : Kept) (x : Leg) → o ≡ Some r → EndsLeg T v.budget d o v.stack s v.done u.stack t u.done → u.path ≡ v.path → Turned T r x t.top u w → LegGoes T d x v s w t
some_goes T d o r v u w s t x is g p y =
    let h : IsStop r × LegIs T v.budget d r v.stack s v.done u.stack t u.done = subst (λ z. EndsLeg T v.budget d z v.stack s v.done u.stack t u.done) is g in
    turned_goes T d r v u w s t x h.0 h.1 p y

-- what it leaves as it was
turned_keeps : (T : List Proc) (r : Turn) (v u w : Leaf) (q : Piece) (x : Leg) → u.path ≡ v.path → u.budget ≡ v.budget → KeepsOne T (Some r) u.stack u.waiting → Turned T r x q u w → LegKeeps T x v w
turned_keeps T r v u w q (leg.Ended e) p m k y = tt
turned_keeps T (turn.Fork i j) v u w q (leg.Forked l z) p m k y = (
  ap (λ (z : Leaf). z.path) y.same ∙ p,
  ap (λ (z : Leaf). z.budget) y.same ∙ m,
  subst (λ (z : Leaf). IsSized T z.stack z.waiting) (sym y.same) k,
  subst (λ (z : Leaf). length z.path < most_forks) (sym y.same) y.shallow,
)
turned_keeps T turn.On v u w q (leg.Forked l z) p m k y = absurd y
turned_keeps T turn.Over v u w q (leg.Forked l z) p m k y = absurd y
turned_keeps T (turn.Stuck r) v u w q (leg.Forked l z) p m k y = absurd y
turned_keeps T (turn.Unowned i j) v u w q (leg.Forked l z) p m k y = absurd y
turned_keeps T (turn.Full i j) v u w q (leg.Forked l z) p m k y = absurd y
turned_keeps T turn.Deep v u w q (leg.Forked l z) p m k y = absurd y
turned_keeps T turn.Memory v u w q (leg.Forked l z) p m k y = absurd y

pub some_keeps : (T : List Proc) (o : Option Turn) (r : Turn) (v u w : Leaf) (q : Piece) (x : Leg) → o ≡ Some r → u.path ≡ v.path → u.budget ≡ v.budget → KeepsOne T o u.stack u.waiting → Turned T r x q u w → LegKeeps T x v w
some_keeps T o r v u w q x is p m k y = turned_keeps T r v u w q x p m (subst (λ z. KeepsOne T z u.stack u.waiting) is k) y
