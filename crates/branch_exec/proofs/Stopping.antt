-- Runs up to a leaf that stops, one after the other and through forks.
use Rattle.std.proofs.Common.{Bool, true, ◌≡◌, ℕ, zero, suc, ◌+◌, ◌-◌, ◌<◌, ◌≤◌, ◌⊎◌, inl, inr, ⊎_elim, List, [], ◌∷◌, ◌++◌, length, refl, sym, ap, ◌∙◌, subst, arith, append_assoc}
use Rattle.target_code.specs.declared.tree.Proc.{Proc}
use Rattle.target_meaning.specs.Turns.{TellsAll, wait_of}
use Rattle.target_meaning.specs.declared.frame.Todo.TheVariants as todo
use Rattle.target_meaning.specs.declared.frame.Starting.{Starting}
use Rattle.target_meaning.specs.declared.path.Side.{Side}
use Rattle.target_meaning.specs.declared.path.Side.TheVariants.{Left, Right}
use Rattle.target_meaning.specs.declared.stack.Stack.{Stack}
use Rattle.target_meaning.specs.Leaf as leaf
use Rattle.target_meaning.specs.Stacks.{stack_of}
use Rattle.branch_exec.specs.Stores.{Kept, CanGive}
use Rattle.branch_exec.specs.Branches.{Runner, Names, Branch, CanFork, Deep}
use Rattle.branch_exec.specs.Stops.{AtFork, InLeft, InRight, Stops}
use Rattle.branch_exec.specs.Ends.{Cause, FullAt}
use Rattle.branch_exec.specs.Forks.{ForkStops, LeftStopped, RightStopped}
use Rattle.branch_exec.specs.Went.{runner, Ran, LegIs, Forks, Stopped}
use Rattle.branch_exec.specs.declared.end.BranchEnd.{BranchEnd}
use Rattle.branch_exec.specs.declared.end.BranchEnd.TheVariants as end
use Rattle.branch_exec.specs.declared.run.Turn.TheVariants as turn
use Rattle.branch_exec.proofs.Took.{append_none, runs_none, runs_then, ran_then, silent}
use Rattle.branch_exec.proofs.Legged.{child_by, split_by, splits}

at_then : (T : List Proc) (b d : ℕ) (s m fork : Runner) (xs ys : Names) (l r : leaf.Child) → Branch T b d s xs m → AtFork T b d m ys fork l r → AtFork T b d s (xs ++ ys) fork l r
at_then T b d s m fork xs ys l r g h = record { run = runs_then T b (Deep T b d) s m fork xs ys g h.run; unspent = h.unspent; wait = h.wait; at = h.at; can = h.can }

-- a run, and then a run up to a leaf
pub stops_then : (T : List Proc) (b d : ℕ) (s m t : Runner) (xs ys : Names) (ds : List Side) → Branch T b d s xs m → Stops T b d m ys ds t → Stops T b d s (xs ++ ys) ds t
stops_then T b d s m t xs ys [] g h = runs_then T b (Deep T b d) s m t xs ys g h
stops_then T b zero s m t xs ys (x ∷ ds) g h = absurd h
stops_then T b (suc d) s m t xs ys (Left ∷ ds) g h = record {
  fork = h.fork;
  left = h.left;
  right = h.right;
  before = xs ++ h.before;
  at = at_then T b (suc d) s m h.fork xs h.before h.left h.right g h.at;
  after = h.after;
  inner = h.inner;
  names = ap (λ z. xs ++ z) h.names ∙ sym (append_assoc xs h.before h.after);
}
stops_then T b (suc d) s m t xs ys (Right ∷ ds) g h = record {
  fork = h.fork;
  left = h.left;
  right = h.right;
  before = xs ++ h.before;
  at = at_then T b (suc d) s m h.fork xs h.before h.left h.right g h.at;
  first = h.first;
  first_names = h.first_names;
  first_words = h.first_words;
  first_run = h.first_run;
  first_end = h.first_end;
  after = h.after;
  inner = h.inner;
  names = ap (λ z. xs ++ z) h.names ∙ sym (append_assoc xs h.before (h.first_names ++ h.after));
}

pub full_then : (x : BranchEnd) (s m t u : Kept) → s.walked ≤ m.walked → m.cap ≡ s.cap → t.walked ≤ u.walked → FullAt x m t → FullAt x s u
full_then (end.Full at len) s m t u w c v f = let f0 = f.0 in let f1 = f.1 in let f2 = f.2 in (omega arith, omega arith, omega arith)
full_then (end.Done i j) s m t u w c v f = tt
full_then (end.Stuck i j) s m t u w c v f = tt
full_then (end.Unowned i j k) s m t u w c v f = tt
full_then (end.OutOfSteps i) s m t u w c v f = tt
full_then (end.Depth i) s m t u w c v f = tt
full_then end.Memory s m t u w c v f = tt

drawn_then : (s m t : Kept) (xs ys zs : Names) → m.drawn ≡ s.drawn ++ xs → t.drawn ≡ m.drawn ++ (ys ++ zs) → t.drawn ≡ s.drawn ++ ((xs ++ ys) ++ zs)
drawn_then s m t xs ys zs e f =
    f ∙ (ap (λ z. z ++ (ys ++ zs)) e ∙ (append_assoc s.drawn xs (ys ++ zs) ∙ ap (λ z. s.drawn ++ z) (sym (append_assoc xs ys zs))))

pub stopped_then : (k : Bool) (T : List Proc) (b d : ℕ) (path : List Side) (v w : Stack) (s m t : Kept) (c e : ℕ) (x : BranchEnd) → Ran T b d v s c w m e → Stopped k T b d path (runner T m.top e w) m x t → Stopped k T b d path (runner T s.top c v) s x t
stopped_then k T b d path v w s m t c e x r h = record {
  names = r.names ++ h.names;
  more = h.more;
  lone = h.lone;
  below = h.below;
  last = h.last;
  stops = stops_then T b d (runner T s.top c v) (runner T m.top e w) h.last r.names h.names h.below r.run h.stops;
  cause = h.cause;
  drawn = drawn_then s m t r.names h.names h.more r.on.drawn h.drawn;
  walked = let i = r.on.walked in let j = h.walked in omega arith;
  full = full_then x s m t t r.on.walked r.on.cap (let z : t.walked ≤ t.walked = omega arith in z) h.full;
}

memory_cause : (T : List Proc) (b : ℕ) (path : List Side) (e : BranchEnd) (m : Runner) → e ≡ end.Memory → Cause T b path e m
memory_cause T b path e m q = subst (λ z. Cause T b path z m) (sym q) tt

-- a fork that stops
module _ (k : Bool) (T : List Proc) (b d : ℕ) (path : List Side) (l r : Starting) (w u : Stack) (m t : Kept) (c : ℕ) (e : BranchEnd) where
  fork_at : c < b → TellsAll T (leaf.act T (stack_of T w)) (todo.Split l r) u → CanGive m.top l r → AtFork T b (suc d) (runner T m.top c w) [] (runner T m.top c w) (child_by T l) (child_by T r)
  fork_at lt h can =
      let sp = splits T (leaf.act T (stack_of T w)) l r u h in
      record {
        run = runs_none T b (Deep T b (suc d)) (runner T m.top c w);
        unspent = lt;
        wait = wait_of T sp.frames;
        at = split_by T (leaf.act T (stack_of T w)) l r sp.frames sp.split;
        can = record { left = can.left; right = can.right; left_apart = can.left_apart; right_apart = can.right_apart };
      }

  pub here_stopped : c < b → TellsAll T (leaf.act T (stack_of T w)) (todo.Split l r) u → CanGive m.top l r → ForkStops k T b d path l r m t (suc c) e → Stopped k T b (suc d) path (runner T m.top c w) m e t
  here_stopped lt h can f =
      ⊎_elim
      (λ x. record {
        names = f.names;
        more = f.more;
        lone = f.lone;
        below = [];
        last = runner T m.top c w;
        stops = subst (λ z. Branch T b (suc d) (runner T m.top c w) z (runner T m.top c w)) (sym x.1) (runs_none T b (Deep T b (suc d)) (runner T m.top c w));
        cause = memory_cause T b (path ++ []) e (runner T m.top c w) x.0;
        drawn = f.drawn;
        walked = f.walked;
        full = f.full;
      })
      (⊎_elim
      (λ x. record {
        names = f.names;
        more = f.more;
        lone = f.lone;
        below = Left ∷ x.below;
        last = x.last;
        stops = record {
          fork = runner T m.top c w;
          left = child_by T l;
          right = child_by T r;
          before = [];
          at = fork_at lt h can;
          after = f.names;
          inner = x.stops;
          names = refl;
        };
        cause = x.cause;
        drawn = f.drawn;
        walked = f.walked;
        full = f.full;
      })
      (λ x. record {
        names = f.names;
        more = f.more;
        lone = f.lone;
        below = Right ∷ x.below;
        last = x.last;
        stops = record {
          fork = runner T m.top c w;
          left = child_by T l;
          right = child_by T r;
          before = [];
          at = fork_at lt h can;
          first = x.first;
          first_names = x.first_names;
          first_words = x.first_words;
          first_run = x.first_run;
          first_end = x.first_end;
          after = x.after;
          inner = x.stops;
          names = x.names_are;
        };
        cause = x.cause;
        drawn = f.drawn;
        walked = f.walked;
        full = f.full;
      }))
      f.side

-- the run so far, a leg up to a fork, and the fork that stops
pub fork_stopped : (k : Bool) (T : List Proc) (b d : ℕ) (path : List Side) (l r : Starting) (v w u : Stack) (s0 s m t : Kept) (c0 c e : ℕ) (x : BranchEnd) → 0 < d → Ran T b d v s0 c0 w s c → Forks T b d l r w s c u m e → ForkStops k T b (d - 1) path l r m t (e + 1) x → Stopped k T b d path (runner T s0.top c0 v) s0 x t
fork_stopped k T b zero path l r v w u s0 s m t c0 c e x n ra g f = absurd (omega arith)
fork_stopped k T b (suc d) path l r v w u s0 s m t c0 c e x n ra g f =
    let down : suc d - 1 ≡ d = omega arith in
    let up : e + 1 ≡ suc e = omega arith in
    let f' : ForkStops k T b d path l r m t (suc e) x = subst (λ z. ForkStops k T b d path l r m t z x) up (subst (λ z. ForkStops k T b z path l r m t (e + 1) x) down f) in
    let q = g.leg in
    stopped_then k T b (suc d) path v q.stack s0 m t c0 e x
    (ran_then T b (suc d) v w q.stack s0 s m c0 c e ra
    (ran_then T b (suc d) w q.stack q.stack s q.store m c e e q.ran (silent T b (suc d) q.stack q.stack q.store m e refl q.last.2)))
    (here_stopped k T b d path l r q.stack u m t e x q.unspent q.last.0 g.can f')

-- a branch that ran alone
pub loosen : (k : Bool) (T : List Proc) (b d : ℕ) (path : List Side) (m : Runner) (s : Kept) (e : BranchEnd) (t : Kept) → Stopped true T b d path m s e t → Stopped k T b d path m s e t
loosen k T b d path m s e t h = record { names = h.names; more = h.more; below = h.below; last = h.last; stops = h.stops; cause = h.cause; drawn = h.drawn; lone = λ z. h.lone refl; walked = h.walked; full = h.full }
