-- A fork whose branches ran over stores of their own.
use Rattle.std.proofs.Common.{Bool, true, false, length, ◌≡◌, ℕ, ◌+◌, ◌-◌, ◌^◌, ◌<◌, ◌≤◌, ◌⊎◌, inl, inr, ⊎_elim, List, [], ◌∷◌, ◌++◌, refl, sym, ap, ◌∙◌, subst, arith, append_assoc}
use Rattle.target_code.specs.declared.tree.Proc.{Proc}
use Rattle.target_meaning.specs.Leaf as leaf
use Rattle.target_meaning.specs.Piece.{Piece, plus}
use Rattle.target_meaning.specs.Turns.{run_of}
use Rattle.target_meaning.specs.declared.stack.Stack as code
use Rattle.target_meaning.specs.declared.stack.Stack.TheVariants as stack
use Rattle.target_meaning.specs.declared.frame.Starting.{Starting}
use Rattle.target_meaning.specs.declared.path.Side.{Side}
use Rattle.target_meaning.specs.declared.path.Side.TheVariants.{Left, Right}
use Rattle.target_meaning.proofs.Shares.{plus-assoc}
use Rattle.branch_exec.specs.Stores.{Kept, CanGive, HandsOut, both_kept}
use Rattle.branch_exec.specs.Branches.{Runner, Branch}
use Rattle.branch_exec.specs.Stops.{Stops}
use Rattle.branch_exec.specs.Ends.{Cause, IsBad}
use Rattle.branch_exec.specs.Forks.{BothDone, Bounded, FirstBad, ForkStops, IsChild, room_of}
use Rattle.branch_exec.specs.Leaves.{IsSized, most_forks}
use Rattle.branch_exec.specs.Went.{runner, Ran, BothRan, EndIs, Forks, Kin}
use Rattle.branch_exec.specs.declared.leaf.Leaf.{Leaf}
use Rattle.branch_exec.specs.declared.end.BranchEnd.{BranchEnd}
use Rattle.branch_exec.specs.declared.end.BranchEnd.TheVariants as end
use Rattle.branch_exec.specs.declared.fork.Both.{Both}
use Rattle.branch_exec.proofs.Forks.{child_bounded, child_end, forks_kin, room_down, stopped_is}
use Rattle.branch_exec.proofs.Stopping.{full_then, loosen}
use Rattle.par_branches.specs.Forking.{BothBack, EndsOnThreads, Hands, IsTold}
use Rattle.par_branches.specs.Workers.{Enough, MayRun}

abbrev at_runner : Piece → ℕ → leaf.Stack → Runner
at_runner p c s = record { piece = p; count = c; stack = s }

path_cause : (T : List Proc) (b : ℕ) (path ds : List Side) (y : Side) (e : BranchEnd) (m : Runner) → Cause T b ((path ++ y ∷ []) ++ ds) e m → Cause T b (path ++ y ∷ ds) e m
path_cause T b path ds y e m h = subst (λ z. Cause T b z e m) (append_assoc path (y ∷ []) ds) h

never : true ≡ false → ⊥
never e = cc e

-- which of two ends is told
record IsFirst (one two e : BranchEnd) : Type 0 where
  is : e ≡ one
  bad : IsBad one

record IsSecond (one two e : BranchEnd) : Type 0 where
  regs : List ℕ
  steps : ℕ
  done : one ≡ end.Done regs steps
  is : e ≡ two
  bad : IsBad two

told_of : (one two e : BranchEnd) → FirstBad one two e → IsBad e → IsFirst one two e ⊎ IsSecond one two e
told_of (end.Done regs steps) two e h b = inr (record { regs = regs; steps = steps; done = refl; is = h; bad = subst IsBad h b })
told_of (end.Stuck i j) two e h b = inl (record { is = h; bad = tt })
told_of (end.Unowned i j k) two e h b = inl (record { is = h; bad = tt })
told_of (end.OutOfSteps i) two e h b = inl (record { is = h; bad = tt })
told_of (end.Full i j) two e h b = inl (record { is = h; bad = tt })
told_of (end.Depth i) two e h b = inl (record { is = h; bad = tt })
told_of end.Memory two e h b = inl (record { is = h; bad = tt })

-- the store s was cut and left m; the branches took theirs from a to x and from z to y; then both came back, and t is what is left
module _ (T : List Proc) (b d : ℕ) (path : List Side) (l r : Starting) (s m a x z y t : Kept) (c : ℕ) (one two : BranchEnd) (h : HandsOut s m a z l r) (f : EndIs false T b d (path ++ Left ∷ []) (stack.Run l.frames) a c one x) (g : EndIs false T b d (path ++ Right ∷ []) (stack.Run r.frames) z c two y) (k : BothBack m t x y) where
  pub both_kin : Kin s t
  both_kin = record {
    below = k.below ∙ h.below;
    cap = k.cap ∙ h.cap;
    place = k.place ∙ h.place;
    weight = let u = k.weight in let v = h.weight in let i = f.kin.weight in let j = g.kin.weight in omega arith;
  }

  pub both_there : (q : Both) → CanGive s.top l r → BothDone one two q → t.top ≡ plus (plus m.top x.top) y.top → BothRan T b d l r s t c q.left q.right q.steps × (q.steps ≤ b + d)
  both_there q can w up =
      let v = f.ran q.left w.first w.left in
      let n = g.ran q.right w.second w.right in
      let st = w.steps in
      let va = v.1 in let na = n.1 in let vg = v.0.grows in let ng = n.0.grows in (
        record {
          can = can;
          first = x.top;
          first_names = v.0.names;
          first_count = w.first;
          first_run = subst (λ p. Branch T b d (at_runner p c (run_of T l.frames)) v.0.names (at_runner x.top w.first (leaf.End q.left))) h.left.top v.0.run;
          second = y.top;
          second_names = n.0.names;
          second_count = w.second;
          second_run = subst (λ p. Branch T b d (at_runner p c (run_of T r.frames)) n.0.names (at_runner y.top w.second (leaf.End q.right))) h.right.top n.0.run;
          on = record {
            below = both_kin.below;
            top = up ∙ (ap (λ p. plus (plus p x.top) y.top) h.top ∙ plus-assoc (both_kept l r s.top) x.top y.top);
            drawn = k.drawn ∙ (ap (λ i. (i ++ x.drawn) ++ y.drawn) h.drawn
                ∙ (append_assoc s.drawn x.drawn y.drawn
                ∙ ap (λ i. s.drawn ++ i) (ap (λ i. i ++ y.drawn) (v.0.on.drawn ∙ ap (λ i. i ++ v.0.names) h.left.drawn) ∙ ap (λ i. v.0.names ++ i) (n.0.on.drawn ∙ ap (λ i. i ++ n.0.names) h.right.drawn))));
            walked = let u = k.walked in let i = h.walked in omega arith;
            cap = both_kin.cap;
            place = both_kin.place;
            weight = both_kin.weight;
          };
          steps_are = st;
          grows = omega arith;
        },
        omega arith,
      )

  -- the left branch stopped, whatever the right one did
  left_stopped : IsBad one → ForkStops false T b d path l r s t c one
  left_stopped bad =
      let i = f.stopped bad in
      let drew : x.drawn ≡ i.names ++ i.more = i.drawn ∙ ap (λ n. n ++ (i.names ++ i.more)) h.left.drawn in
      record {
        names = i.names;
        more = i.more ++ y.drawn;
        drawn = k.drawn ∙ (ap (λ n. (n ++ x.drawn) ++ y.drawn) h.drawn
            ∙ (ap (λ n. (s.drawn ++ n) ++ y.drawn) drew
            ∙ (append_assoc s.drawn (i.names ++ i.more) y.drawn
            ∙ ap (λ n. s.drawn ++ n) (append_assoc i.names i.more y.drawn))));
        lone = λ e. absurd (never (sym e));
        walked = let u = k.walked in let j = h.walked in omega arith;
        full = full_then one s a x t (let j = h.left.walked in let w = h.walked in omega arith) (h.left.cap) k.left i.full;
        side = inr (inl (record {
          below = i.below;
          last = i.last;
          stops = subst (λ p. Stops T b d (at_runner p c (run_of T l.frames)) i.names i.below i.last) h.left.top i.stops;
          cause = path_cause T b path i.below Left one i.last i.cause;
        }));
      }

  -- the left branch ended, and the right one stopped
  right_stopped : (regs : List ℕ) (steps : ℕ) → one ≡ end.Done regs steps → IsBad two → ForkStops false T b d path l r s t c two
  right_stopped regs steps is bad =
      let v = (f.ran regs steps is).0 in
      let i = g.stopped bad in
      let first : x.drawn ≡ v.names = v.on.drawn ∙ ap (λ n. n ++ v.names) h.left.drawn in
      let second : y.drawn ≡ i.names ++ i.more = i.drawn ∙ ap (λ n. n ++ (i.names ++ i.more)) h.right.drawn in
      record {
        names = v.names ++ i.names;
        more = i.more;
        drawn = k.drawn ∙ (ap (λ n. (n ++ x.drawn) ++ y.drawn) h.drawn
            ∙ (ap (λ n. (s.drawn ++ n) ++ y.drawn) first
            ∙ (ap (λ n. (s.drawn ++ v.names) ++ n) second
            ∙ (append_assoc s.drawn v.names (i.names ++ i.more)
            ∙ ap (λ n. s.drawn ++ n) (sym (append_assoc v.names i.names i.more))))));
        lone = λ e. absurd (never (sym e));
        walked = let u = k.walked in let j = h.walked in omega arith;
        full = full_then two s z y t (let j = h.right.walked in omega arith) (h.right.cap) k.right i.full;
        side = inr (inr (record {
          first = at_runner x.top steps (leaf.End regs);
          first_names = v.names;
          first_words = regs;
          first_run = subst (λ p. Branch T b d (at_runner p c (run_of T l.frames)) v.names (at_runner x.top steps (leaf.End regs))) h.left.top v.run;
          first_end = refl;
          after = i.names;
          names_are = refl;
          below = i.below;
          last = i.last;
          stops = subst (λ p. Stops T b d (at_runner p c (run_of T r.frames)) i.names i.below i.last) h.right.top i.stops;
          cause = path_cause T b path i.below Right two i.last i.cause;
        }));
      }

  -- there was no memory for what a branch held
  nothing_taken : ForkStops false T b d path l r s t c end.Memory
  nothing_taken = record {
    names = [];
    more = x.drawn ++ y.drawn;
    drawn = k.drawn ∙ (ap (λ n. (n ++ x.drawn) ++ y.drawn) h.drawn ∙ append_assoc s.drawn x.drawn y.drawn);
    lone = λ e. absurd (never (sym e));
    walked = let u = k.walked in let j = h.walked in omega arith;
    full = tt;
    side = inl (refl, refl);
  }

  first_told : (e : BranchEnd) → IsBad e → FirstBad one two e → ForkStops false T b d path l r s t c e
  first_told e bad w = ⊎_elim
      (λ (i : IsFirst one two e). subst (λ o. ForkStops false T b d path l r s t c o) (sym i.is) (left_stopped i.bad))
      (λ (i : IsSecond one two e). subst (λ o. ForkStops false T b d path l r s t c o) (sym i.is) (right_stopped i.regs i.steps i.done i.bad))
      (told_of one two e w bad)

  pub both_stopped : (e : BranchEnd) → IsTold one two e → ForkStops false T b d path l r s t c e
  both_stopped e w = ⊎_elim
      (λ i. first_told e w.bad i)
      (λ i. subst (λ o. ForkStops false T b d path l r s t c o) (sym i) nothing_taken)
      w.which

-- a branch that ran alone
pub alone_is : (T : List Proc) (b d : ℕ) (path : List Side) (v : code.Stack) (s : Kept) (c : ℕ) (e : BranchEnd) (t : Kept) → EndIs true T b d path v s c e t → EndIs false T b d path v s c e t
alone_is T b d path v s c e t i = record { kin = i.kin; ran = i.ran; stopped = λ bad. loosen false T b d path (runner T s.top c v) s e t (i.stopped bad) }

-- the store at a fork weighs what it weighed first
pub fork_weight : (T : List Proc) (v w u : Leaf) (l r : Starting) (s0 s m : Kept) (n : ℕ) → Ran T v.budget (room_of v.path) v.stack s0 v.done w.stack s w.done → w.budget ≡ v.budget → Forks T w.budget (room_of v.path) l r w.stack s w.done u.stack m u.done → Enough n s0.weight → Enough n m.weight
fork_weight T v w u l r s0 s m n ra b f e =
    let k = forks_kin T v.budget (room_of v.path) v.stack w.stack u.stack s0 s m v.done w.done l r u.done ra (subst (λ z. Forks T z (room_of v.path) l r w.stack s w.done u.stack m u.done) b f) in
    subst (Enough n) (sym k.weight) e

-- an end at a fork, for a leaf that has path and budget of the first one
pub fork_ends_by : (y : Bool) (T : List Proc) (v w u : Leaf) (l r : Starting) (s0 s m t : Kept) (e : BranchEnd) → Ran T v.budget (room_of v.path) v.stack s0 v.done w.stack s w.done → w.path ≡ v.path → w.budget ≡ v.budget
    → (u.path ≡ w.path) × (u.budget ≡ w.budget) × IsSized T u.stack u.waiting × (length u.path < most_forks)
    → Forks T w.budget (room_of v.path) l r w.stack s w.done u.stack m u.done → Kin m t → IsBad e → ForkStops y T u.budget (room_of u.path - 1) u.path l r m t (u.done + 1) e
    → EndIs y T v.budget (room_of v.path) v.path v.stack s0 v.done e t
fork_ends_by y T v w u l r s0 s m t e ra p b n f k bad h =
    let up : u.path ≡ v.path = n.0 ∙ p in
    let ub : u.budget ≡ v.budget = n.1 ∙ b in
    let lt : length v.path < most_forks = subst (λ z. length z < most_forks) up n.3 in
    let room : 0 < room_of v.path = omega arith in
    let h' : ForkStops y T v.budget (room_of v.path - 1) v.path l r m t (u.done + 1) e =
    subst (λ z. ForkStops y T v.budget (room_of z - 1) z l r m t (u.done + 1) e) up (subst (λ z. ForkStops y T z (room_of u.path - 1) u.path l r m t (u.done + 1) e) ub h) in
    stopped_is y T v.budget (room_of v.path) v.path l r v.stack w.stack u.stack s0 s m t v.done w.done u.done e room ra (subst (λ z. Forks T z (room_of v.path) l r w.stack s w.done u.stack m u.done) b f) k bad h'

-- a child of a fork may run, and lies one fork deeper
pub may_run : (T : List Proc) (n : ℕ) (x : Starting) (y : Side) (v u : Leaf) (s : Kept) → IsChild x y v u → Bounded v → length v.path < most_forks → v.done < v.budget → Enough n s.weight → MayRun T n u s
may_run T n x y v u s i g lt un e = record { bounded = child_bounded x y v u i g lt un; sized = i.sized T; enough = e }

pub child_room : (x : Starting) (y : Side) (v u : Leaf) → IsChild x y v u → room_of u.path ≡ room_of v.path - 1
child_room x y v u i = ap room_of i.path ∙ room_down v.path y

-- the leaf u forked and its store went from m to q; the branches with the leaves x and y and the stores a and b ended so; both stores came back
module _ (T : List Proc) (u : Leaf) (l r : Starting) (m q : Kept) (n : ℕ) (x : Leaf) (a : Kept) (y : Leaf) (b : Kept) (one two : BranchEnd) (e f t : Kept)
    (h : Hands l r u m q n x a y b) (i : EndsOnThreads T x a one e) (j : EndsOnThreads T y b two f) (k : BothBack q t e f) where
  left_end : EndIs false T u.budget (room_of u.path - 1) (u.path ++ Left ∷ []) (stack.Run l.frames) a (u.done + 1) one e
  left_end = child_end false T l Left u x a e one h.children.left i

  right_end : EndIs false T u.budget (room_of u.path - 1) (u.path ++ Right ∷ []) (stack.Run r.frames) b (u.done + 1) two f
  right_end = child_end false T r Right u y b f two h.children.right j

  pub fork_kin : Kin m t
  fork_kin = both_kin T u.budget (room_of u.path - 1) u.path l r m q a e b f t (u.done + 1) one two h.out left_end right_end k

  pub fork_ran : (w : Both) → CanGive m.top l r → BothDone one two w → t.top ≡ plus (plus q.top e.top) f.top
      → BothRan T u.budget (room_of u.path - 1) l r m t (u.done + 1) w.left w.right w.steps × (w.steps ≤ u.budget + (room_of u.path - 1))
  fork_ran w can d up = both_there T u.budget (room_of u.path - 1) u.path l r m q a e b f t (u.done + 1) one two h.out left_end right_end k w can d up

  pub fork_told : (o : BranchEnd) → IsTold one two o → ForkStops false T u.budget (room_of u.path - 1) u.path l r m t (u.done + 1) o
  fork_told o w = both_stopped T u.budget (room_of u.path - 1) u.path l r m q a e b f t (u.done + 1) one two h.out left_end right_end k o w

pub same_kin : (s t : Kept) → t ≡ s → Kin s t
same_kin s t e = record { below = ap (λ (k : Kept). k.below) e; cap = ap (λ (k : Kept). k.cap) e; place = ap (λ (k : Kept). k.place) e; weight = ap (λ (k : Kept). k.weight) e }

-- a count that comes out of a fork is small
pub counts_fit : (u : Leaf) (n : ℕ) → Bounded u → n ≤ u.budget + (room_of u.path - 1) → n + 1 < 2 ^ 64
counts_fit u n g le = let b = g.budget_fits in omega arith
