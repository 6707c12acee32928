-- A fork whose branches ran, as one move of the branch that forked.
use Rattle.std.proofs.Common.{Bool, true, length, ◌≡◌, ℕ, zero, suc, ◌+◌, ◌*◌, ◌-◌, ◌^◌, ◌<◌, ◌≤◌, ◌⊎◌, inl, inr, ⊎_elim, max, List, [], ◌∷◌, ◌++◌, map, refl, sym, ap, ◌∙◌, subst, arith, append_assoc}
use Rattle.target_code.specs.declared.tree.Proc.{Proc}
use Rattle.target_meaning.specs.Leaf as leaf
use Rattle.target_meaning.specs.Piece.{Piece, plus}
use Rattle.target_meaning.specs.Held.{holdings, all_given, all_kept}
use Rattle.target_meaning.specs.Turns.{IsSplit, part_of, run_of, wait_of}
use Rattle.target_meaning.specs.declared.stack.Stack.{Stack}
use Rattle.target_meaning.specs.declared.stack.Stack.TheVariants as stack
use Rattle.target_meaning.specs.declared.stack.Frames.{Frames}
use Rattle.target_meaning.specs.declared.frame.Starting.{Starting}
use Rattle.target_meaning.specs.Stacks.{stack_of}
use Rattle.branch_exec.specs.Stores.{Kept, Level, CanGive, Narrows, Brings, both_kept, right_given, with_right, takes_of_left, takes_of_right}
use Rattle.std.specs.Prelude.{Option, Some, None}
use Rattle.target_meaning.specs.declared.path.Side.{Side}
use Rattle.target_meaning.specs.declared.path.Side.TheVariants.{Left, Right}
use Rattle.branch_exec.specs.Legs.{GoesOn, TurnIs}
use Rattle.branch_exec.specs.declared.run.Turn.TheVariants as turn
use Rattle.branch_exec.specs.Branches.{Runner, Names, Way, CanFork, Forked, Move, Runs, Deep, Branch, after_join}
use Rattle.branch_exec.specs.Leaves.{IsSized, most_forks}
use Rattle.branch_exec.specs.Ends.{Cause, FullAt, IsBad}
use Rattle.branch_exec.specs.Stops.{Stops}
use Rattle.branch_exec.specs.Forks.{BothDone, Bounded, Children, ForkStops, IfBad, IsChild, LeftStopped, RightStopped, left_start, right_start, room_of}
use Rattle.branch_exec.specs.Went.{runner, Ran, LegIs, BothRan, EndIs, Forks, Kin, LegEnds, LegGoes, Stopped}
use Rattle.branch_exec.specs.declared.leaf.Leaf.{Leaf}
use Rattle.branch_exec.specs.declared.leg.Leg.TheVariants as leg
use Rattle.branch_exec.specs.declared.end.BranchEnd.{BranchEnd}
use Rattle.branch_exec.specs.declared.end.BranchEnd.TheVariants as end
use Rattle.branch_exec.specs.declared.fork.Both.{Both}
use Rattle.branch_exec.proofs.Took.{append_none, runs_one, ran_then, silent}
use Rattle.branch_exec.proofs.Legged.{child_by, kin_then, ran_kin, split_by, splits}
use Rattle.branch_exec.proofs.Stopping.{fork_stopped, full_then, loosen, stopped_then}
use Rattle.target_meaning.proofs.Shares.{plus-assoc}
use Rattle.std.specs.Prelude.{Result, Ok, Err, IfOk}

abbrev at_runner : Piece → ℕ → leaf.Stack → Runner
at_runner p c s = record { piece = p; count = c; stack = s }

runner_is : (p q : Piece) (c e : ℕ) (s t : leaf.Stack) → p ≡ q → c ≡ e → s ≡ t → at_runner p c s ≡ at_runner q e t
runner_is p q c e s t f g h = ap (λ x. at_runner x c s) f ∙ (ap (λ x. at_runner q x s) g ∙ ap (λ x. at_runner q e x) h)

-- the fork and its join
fork_ran : (T : List Proc) (b d : ℕ) (l r : Starting) (w u : Stack) (fs : Frames) (m t : Kept) (e : ℕ) (vs ws : List ℕ) (steps : ℕ) → e < b → IsSplit T (leaf.act T (stack_of T w)) l r fs → BothRan T b d l r m t (suc e) vs ws steps → stack_of T u ≡ leaf.joined (wait_of T fs) vs ws → Ran T b (suc d) w m e u t (suc steps)
fork_ran T b d l r w u fs m t e vs ws steps lt sp bo j =
    let s : Runner = runner T m.top e w in
    let x : Runner = record { piece = bo.first; count = bo.first_count; stack = leaf.End vs } in
    let y : Runner = record { piece = bo.second; count = bo.second_count; stack = leaf.End ws } in
    let names = bo.first_names ++ bo.second_names in
    let to : Runner = runner T t.top (suc steps) u in
    record {
      names = names;
      run = runs_one T b (Deep T b (suc d)) s to names (record {
        unspent = lt;
        move = inr (record {
          left = child_by T l;
          right = child_by T r;
          wait = wait_of T fs;
          at = split_by T (leaf.act T (stack_of T w)) l r fs sp;
          can = record { left = bo.can.left; right = bo.can.right; left_apart = bo.can.left_apart; right_apart = bo.can.right_apart };
          first = x;
          first_names = bo.first_names;
          first_words = vs;
          first_run = bo.first_run;
          first_end = refl;
          second = y;
          second_names = bo.second_names;
          second_words = ws;
          second_run = bo.second_run;
          second_end = refl;
          names = refl;
          is = runner_is t.top (plus (both_kept l r m.top) (plus bo.first bo.second)) (suc steps) (suc (max bo.first_count bo.second_count)) (stack_of T u) (leaf.joined (wait_of T fs) vs ws) bo.on.top (ap suc bo.steps_are) j;
        });
      });
      on = record { below = bo.on.below; top = refl; drawn = bo.on.drawn; walked = bo.on.walked; cap = bo.on.cap; place = bo.on.place; weight = bo.on.weight };
      grows = let g = bo.grows in omega arith;
    }

-- a leg up to a fork, and the fork
leg_and_fork : (T : List Proc) (b d : ℕ) (l r : Starting) (v u : Stack) (s : Kept) (c : ℕ) (fs : Frames) (m t : Kept) (e : ℕ) (vs ws : List ℕ) (steps : ℕ) → LegIs T b (suc d) (turn.Fork l r) v s c (stack.Run fs) m e → BothRan T b d l r m t (suc e) vs ws steps → stack_of T u ≡ leaf.joined (wait_of T fs) vs ws → Ran T b (suc d) v s c u t (suc steps)
leg_and_fork T b d l r v u s c fs m t e vs ws steps g bo j =
    ran_then T b (suc d) v g.stack u s g.store t c e (suc steps) g.ran
    (ran_then T b (suc d) g.stack g.stack u g.store m t e e (suc steps) (silent T b (suc d) g.stack g.stack g.store m e refl g.last.2)
    (fork_ran T b d l r g.stack u fs m t e vs ws steps g.unspent g.last.0 bo j))

-- the run so far, a leg up to a fork, and the fork
pub more_legs : (T : List Proc) (b d : ℕ) (l r : Starting) (v w u : Stack) (s0 s : Kept) (c0 c : ℕ) (fs : Frames) (m t : Kept) (e : ℕ) (vs ws : List ℕ) (steps : ℕ) → 0 < d → Ran T b d v s0 c0 w s c → LegIs T b d (turn.Fork l r) w s c (stack.Run fs) m e → BothRan T b (d - 1) l r m t (e + 1) vs ws steps → stack_of T u ≡ leaf.joined (wait_of T fs) vs ws → Ran T b d v s0 c0 u t (steps + 1)
more_legs T b zero l r v w u s0 s c0 c fs m t e vs ws steps n ra le bo j = absurd (omega arith)
more_legs T b (suc d) l r v w u s0 s c0 c fs m t e vs ws steps n ra le bo j =
    let one : suc steps ≡ steps + 1 = omega arith in
    let down : suc d - 1 ≡ d = omega arith in
    let up : e + 1 ≡ suc e = omega arith in
    let bo' : BothRan T b d l r m t (suc e) vs ws steps = subst (λ k. BothRan T b d l r m t k vs ws steps) up (subst (λ k. BothRan T b k l r m t (e + 1) vs ws steps) down bo) in
    ran_then T b (suc d) v w u s0 s t c0 c (steps + 1) ra
    (subst (λ k. Ran T b (suc d) w s c u t k) one (leg_and_fork T b d l r w u s c fs m t e vs ws steps le bo' j))

pub legs_on : (T : List Proc) (b d : ℕ) (l r : Starting) (v w u x : Stack) (s0 s m t : Kept) (c0 c e : ℕ) (vs ws : List ℕ) (steps : ℕ) → 0 < d → Ran T b d v s0 c0 w s c → Forks T b d l r w s c u m e → BothRan T b (d - 1) l r m t (e + 1) vs ws steps → ((fs : Frames) → u ≡ stack.Run fs → stack_of T x ≡ leaf.joined (wait_of T fs) vs ws) → Ran T b d v s0 c0 x t (steps + 1)
legs_on T b d l r v w u x s0 s m t c0 c e vs ws steps n ra g bo j =
    let sp = splits T (leaf.act T (stack_of T g.leg.stack)) l r u g.leg.last.0 in
    more_legs T b d l r v w x s0 s c0 c sp.frames m t e vs ws steps n ra (subst (λ z. LegIs T b d (turn.Fork l r) w s c z m e) sp.stack g.leg) bo (j sp.frames sp.stack)

-- the branch's own end
pub ended_is : (k : Bool) (T : List Proc) (b d : ℕ) (path : List Side) (v w : Stack) (s0 s t : Kept) (c0 c : ℕ) (e : BranchEnd) → Ran T b d v s0 c0 w s c → c ≤ b + d → LegEnds T b d path w s c e t → EndIs k T b d path v s0 c0 e t
ended_is k T b d path v w s0 s t c0 c e r le g = record {
  kin = kin_then s0 s t (ran_kin T b d v s0 c0 w s c r) g.kin;
  ran = λ regs steps is. let x = g.ran regs steps is in (
    ran_then T b d v w (stack.End regs) s0 s t c0 c steps r x.0,
    ⊎_elim (λ (q : steps ≡ c). omega arith) (λ (q : steps ≤ b). omega arith) x.1,
  );
  stopped = λ i. stopped_then k T b d path v w s0 s t c0 c e r (loosen k T b d path (runner T s.top c w) s e t (g.stopped i));
}

-- the store at a fork is kin to the first one
pub forks_kin : (T : List Proc) (b d : ℕ) (v w u : Stack) (s0 s t : Kept) (c0 c : ℕ) (l r : Starting) (e : ℕ) → Ran T b d v s0 c0 w s c → Forks T b d l r w s c u t e → Kin s0 t
forks_kin T b d v w u s0 s t c0 c l r e ra g =
    let q = g.leg in
    kin_then s0 s t (ran_kin T b d v s0 c0 w s c ra)
    (kin_then s q.store t (ran_kin T b d w s c q.stack q.store e q.ran)
    (record { below = q.last.2.below; cap = q.last.2.cap; place = q.last.2.place; weight = q.last.2.weight }))

-- an end at a fork
pub stopped_is : (y : Bool) (T : List Proc) (b d : ℕ) (path : List Side) (l r : Starting) (v w u : Stack) (s0 s m t : Kept) (c0 c e : ℕ) (x : BranchEnd) → 0 < d → Ran T b d v s0 c0 w s c → Forks T b d l r w s c u m e → Kin m t → IsBad x → ForkStops y T b (d - 1) path l r m t (e + 1) x → EndIs y T b d path v s0 c0 x t
stopped_is y T b d path l r v w u s0 s m t c0 c e x n ra g k bad f = record {
  kin = kin_then s0 m t (forks_kin T b d v w u s0 s m c0 c l r e ra g) k;
  ran = λ regs steps is. absurd (subst IsBad is bad);
  stopped = λ i. fork_stopped y T b d path l r v w u s0 s m t c0 c e x n ra g f;
}

length_snoc : (path : List Side) (y : Side) → length (path ++ y ∷ []) ≡ suc (length path)
length_snoc [] y = refl
length_snoc (x ∷ path) y = ap suc (length_snoc path y)

pub room_down : (path : List Side) (y : Side) → room_of (path ++ y ∷ []) ≡ room_of path - 1
room_down path y = let e = length_snoc path y in omega arith

-- what a child's end is, in its parent's terms
pub child_end : (k : Bool) (T : List Proc) (x : Starting) (y : Side) (v u : Leaf) (s t : Kept) (e : BranchEnd) → IsChild x y v u → EndIs k T u.budget (room_of u.path) u.path u.stack s u.done e t → EndIs k T v.budget (room_of v.path - 1) (v.path ++ y ∷ []) (stack.Run x.frames) s (v.done + 1) e t
child_end k T x y v u s t e i g =
    subst (λ z. EndIs k T v.budget (room_of v.path - 1) (v.path ++ y ∷ []) (stack.Run x.frames) s z e t) i.done
    (subst (λ z. EndIs k T v.budget (room_of v.path - 1) (v.path ++ y ∷ []) z s u.done e t) i.stack
    (subst (λ z. EndIs k T v.budget z (v.path ++ y ∷ []) u.stack s u.done e t) (room_down v.path y)
    (subst (λ z. EndIs k T v.budget (room_of z) z u.stack s u.done e t) i.path
    (subst (λ z. EndIs k T z (room_of u.path) u.path u.stack s u.done e t) i.budget g))))

-- a child may be run
pub child_bounded : (x : Starting) (y : Side) (v u : Leaf) → IsChild x y v u → Bounded v → length v.path < most_forks → v.done < v.budget → Bounded u
child_bounded x y v u i g lt un =
    let p = length_snoc v.path y in
    let q : length u.path ≡ length (v.path ++ y ∷ []) = ap length i.path in
    let d = i.done in let b = i.budget in
    let gb = g.budget_fits in
    record { budget_fits = omega arith; path_fits = omega arith; count_fits = omega arith }

path_cause : (T : List Proc) (b : ℕ) (path ds : List Side) (y : Side) (e : BranchEnd) (m : Runner) → Cause T b ((path ++ y ∷ []) ++ ds) e m → Cause T b (path ++ y ∷ ds) e m
path_cause T b path ds y e m h = subst (λ z. Cause T b z e m) (append_assoc path (y ∷ []) ds) h

-- both branches of a fork, one after the other on one store
module _ (kk : Bool) (T : List Proc) (b d : ℕ) (path : List Side) (l r : Starting) (s m : Kept) (c : ℕ) (nar : Narrows s m l r) where
  abbrev left_path : List Side
  left_path = path ++ Left ∷ []

  abbrev right_path : List Side
  right_path = path ++ Right ∷ []

  abbrev wait : Level
  wait = record { kept = both_kept l r s.top; right = Some (right_given l r s.top) }

  -- the left branch has ended or stopped, and the store widens
  abbrev Widens : Kept → Kept → Type 0
  Widens a t = (k : Level) (ls : List Level) → a.below ≡ k ∷ ls → Brings a t (plus k.kept (with_right k.right a.top)) ls

  abbrev Turns : Kept → Kept → Type 0
  Turns a x = (k p : Piece) (ls : List Level) → a.below ≡ record { kept = k; right = Some p } ∷ ls → Brings a x p (record { kept = plus k a.top; right = None } ∷ ls)

  pub left_kin : (a t : Kept) (e : BranchEnd) → EndIs kk T b d left_path (stack.Run l.frames) m c e a → Widens a t → Kin s t
  left_kin a t e f w =
      let k = w wait s.below (f.kin.below ∙ nar.below) in
      record { below = k.below; cap = k.cap ∙ (f.kin.cap ∙ nar.cap); place = k.place ∙ (f.kin.place ∙ nar.place); weight = k.weight ∙ (f.kin.weight ∙ nar.weight) }

  pub left_stops : (a t : Kept) (e : BranchEnd) → EndIs kk T b d left_path (stack.Run l.frames) m c e a → Widens a t → IsBad e → ForkStops kk T b d path l r s t c e
  left_stops a t e f w bad =
      let k = w wait s.below (f.kin.below ∙ nar.below) in
      let h = f.stopped bad in
      record {
        names = h.names;
        more = h.more;
        lone = h.lone;
        drawn = k.drawn ∙ (h.drawn ∙ ap (λ z. z ++ (h.names ++ h.more)) nar.drawn);
        walked = let i = k.walked in let j = h.walked in let n = nar.walked in omega arith;
        full = full_then e s m a t (let n = nar.walked in omega arith) nar.cap (let i = k.walked in omega arith) h.full;
        side = inr (inl (record {
          below = h.below;
          last = h.last;
          stops = subst (λ z. Stops T b d (at_runner z c (run_of T l.frames)) h.names h.below h.last) nar.top h.stops;
          cause = path_cause T b path h.below Left e h.last h.cause;
        }));
      }

  module _ (a x z t : Kept) (one two : BranchEnd) (f : EndIs kk T b d left_path (stack.Run l.frames) m c one a) (u : Turns a x) (g : EndIs kk T b d right_path (stack.Run r.frames) x c two z) (w : Widens z t) where
    turned : Brings a x (right_given l r s.top) (record { kept = plus (both_kept l r s.top) a.top; right = None } ∷ s.below)
    turned = u (both_kept l r s.top) (right_given l r s.top) s.below (f.kin.below ∙ nar.below)

    widened : Brings z t (plus (plus (both_kept l r s.top) a.top) z.top) s.below
    widened = w (record { kept = plus (both_kept l r s.top) a.top; right = None }) s.below (g.kin.below ∙ turned.below)

    pub both_kin : Kin s t
    both_kin = record {
      below = widened.below;
      cap = widened.cap ∙ (g.kin.cap ∙ (turned.cap ∙ (f.kin.cap ∙ nar.cap)));
      place = widened.place ∙ (g.kin.place ∙ (turned.place ∙ (f.kin.place ∙ nar.place)));
      weight = widened.weight ∙ (g.kin.weight ∙ (turned.weight ∙ (f.kin.weight ∙ nar.weight)));
    }

    pub both_here : (q : Both) → CanGive s.top l r → BothDone one two q → BothRan T b d l r s t c q.left q.right q.steps × (q.steps ≤ b + d)
    both_here q can y =
        let v = f.ran q.left y.first y.left in
        let n = g.ran q.right y.second y.right in
        let st = y.steps in
        let va = v.1 in let na = n.1 in let vg = v.0.grows in let ng = n.0.grows in (
          record {
            can = can;
            first = a.top;
            first_names = v.0.names;
            first_count = y.first;
            first_run = subst (λ p. Branch T b d (at_runner p c (run_of T l.frames)) v.0.names (at_runner a.top y.first (leaf.End q.left))) nar.top v.0.run;
            second = z.top;
            second_names = n.0.names;
            second_count = y.second;
            second_run = subst (λ p. Branch T b d (at_runner p c (run_of T r.frames)) n.0.names (at_runner z.top y.second (leaf.End q.right))) turned.top n.0.run;
            on = record {
              below = widened.below;
              top = widened.top ∙ plus-assoc (both_kept l r s.top) a.top z.top;
              drawn = widened.drawn ∙ (n.0.on.drawn ∙ (ap (λ k. k ++ n.0.names) (turned.drawn ∙ (v.0.on.drawn ∙ ap (λ k. k ++ v.0.names) nar.drawn)) ∙ append_assoc s.drawn v.0.names n.0.names));
              walked = let i = widened.walked in let j = n.0.on.walked in let k = turned.walked in let h = v.0.on.walked in let p = nar.walked in omega arith;
              cap = both_kin.cap;
              place = both_kin.place;
              weight = both_kin.weight;
            };
            steps_are = st;
            grows = omega arith;
          },
          omega arith,
        )

    pub right_stops : (regs : List ℕ) (steps : ℕ) → one ≡ end.Done regs steps → IsBad two → ForkStops kk T b d path l r s t c two
    right_stops regs steps is bad =
        let v = (f.ran regs steps is).0 in
        let h = g.stopped bad in
        record {
          names = v.names ++ h.names;
          more = h.more;
          lone = h.lone;
          drawn = widened.drawn ∙ (h.drawn ∙ (ap (λ k. k ++ (h.names ++ h.more)) (turned.drawn ∙ (v.on.drawn ∙ ap (λ k. k ++ v.names) nar.drawn))
              ∙ (append_assoc s.drawn v.names (h.names ++ h.more) ∙ ap (λ k. s.drawn ++ k) (sym (append_assoc v.names h.names h.more)))));
          walked = let i = widened.walked in let j = h.walked in let k = turned.walked in let n = v.on.walked in let p = nar.walked in omega arith;
          full = full_then two s x z t (let k = turned.walked in let n = v.on.walked in let p = nar.walked in omega arith) (turned.cap ∙ (f.kin.cap ∙ nar.cap)) (let i = widened.walked in omega arith) h.full;
          side = inr (inr (record {
            first = at_runner a.top steps (leaf.End regs);
            first_names = v.names;
            first_words = regs;
            first_run = subst (λ p. Branch T b d (at_runner p c (run_of T l.frames)) v.names (at_runner a.top steps (leaf.End regs))) nar.top v.run;
            first_end = refl;
            after = h.names;
            names_are = refl;
            below = h.below;
            last = h.last;
            stops = subst (λ p. Stops T b d (at_runner p c (run_of T r.frames)) h.names h.below h.last) turned.top h.stops;
            cause = path_cause T b path h.below Right two h.last h.cause;
          }));
        }

pub if_ok : (P Q : Both → Type 0) (r : Result Both BranchEnd) → ((q : Both) → P q → Q q) → IfOk r P → IfOk r Q
if_ok P Q (Ok x) f h = f x h
if_ok P Q (Err e) f h = h

pub if_bad : (P Q : BranchEnd → Type 0) (r : Result Both BranchEnd) → ((q : BranchEnd) → P q → Q q) → IfBad r P → IfBad r Q
if_bad P Q (Ok x) f h = h
if_bad P Q (Err e) f h = f e h

-- no memory for a fork
pub memory_stops : (k : Bool) (T : List Proc) (b d : ℕ) (path : List Side) (l r : Starting) (s t : Kept) (c : ℕ) → t ≡ s → ForkStops k T b d path l r s t c end.Memory
memory_stops k T b d path l r s t c e = subst (λ z. ForkStops k T b d path l r s z c end.Memory) (sym e) (record {
  names = [];
  more = [];
  drawn = append_none s.drawn;
  lone = λ z. refl;
  walked = omega arith;
  full = tt;
  side = inl (refl, refl);
})

-- the ends of a leg, for a leaf that has path and budget of the first one
pub ends_by : (T : List Proc) (v w : Leaf) (s : Kept) (e : BranchEnd) (t : Kept) (d : ℕ) → w.path ≡ v.path → w.budget ≡ v.budget → LegEnds T w.budget d w.path w.stack s w.done e t → LegEnds T v.budget d v.path w.stack s w.done e t
ends_by T v w s e t d p b h = subst (λ z. LegEnds T v.budget d z w.stack s w.done e t) p (subst (λ z. LegEnds T z d w.path w.stack s w.done e t) b h)

forks_by : (T : List Proc) (v w u : Leaf) (l r : Starting) (s t : Kept) (d : ℕ) → w.budget ≡ v.budget → Forks T w.budget d l r w.stack s w.done u.stack t u.done → Forks T v.budget d l r w.stack s w.done u.stack t u.done
forks_by T v w u l r s t d b h = subst (λ z. Forks T z d l r w.stack s w.done u.stack t u.done) b h

room_left : (path : List Side) → length path < most_forks → 0 < room_of path
room_left path lt = omega arith

abbrev Same_leaf : List Proc → Leaf → Leaf → Type 0
Same_leaf T w u = (u.path ≡ w.path) × (u.budget ≡ w.budget) × IsSized T u.stack u.waiting × (length u.path < most_forks)

pub fork_asks : (T : List Proc) (v w u : Leaf) (l r : Starting) (s t : Kept) → w.path ≡ v.path → w.budget ≡ v.budget → Same_leaf T w u → Forks T w.budget 0 l r w.stack s w.done u.stack t u.done → Bounded v → Bounded u × (length u.path < most_forks) × (u.done < u.budget)
fork_asks T v w u l r s t p b n q g =
    let lt = q.leg.unspent in
    let gb = g.budget_fits in
    let n1 = n.1 in let n3 = n.3 in
    (record { budget_fits = omega arith; path_fits = omega arith; count_fits = omega arith }, n.3, omega arith)

pub fork_goes : (T : List Proc) (v w u x : Leaf) (l r : Starting) (s0 s m t : Kept) (vs ws : List ℕ) (steps : ℕ) → Ran T v.budget (room_of v.path) v.stack s0 v.done w.stack s w.done → w.path ≡ v.path → w.budget ≡ v.budget → Same_leaf T w u
    → Forks T w.budget (room_of v.path) l r w.stack s w.done u.stack m u.done → BothRan T u.budget (room_of u.path - 1) l r m t (u.done + 1) vs ws steps → steps ≤ u.budget + (room_of u.path - 1)
    → ((fs : Frames) → u.stack ≡ stack.Run fs → stack_of T x.stack ≡ leaf.joined (wait_of T fs) vs ws) → IsSized T x.stack x.waiting → x.done ≡ steps + 1 → x.path ≡ u.path → x.budget ≡ u.budget
    → Ran T v.budget (room_of v.path) v.stack s0 v.done x.stack t x.done × (x.done ≤ v.budget + room_of v.path) × IsSized T x.stack x.waiting × (x.path ≡ v.path) × (x.budget ≡ v.budget)
fork_goes T v w u x l r s0 s m t vs ws steps ra p b n f bo sm j z d xp xb =
    let up : u.path ≡ v.path = n.0 ∙ p in
    let ub : u.budget ≡ v.budget = n.1 ∙ b in
    let room : 0 < room_of v.path = room_left v.path (subst (λ y. length y < most_forks) up n.3) in
    let rm : room_of u.path ≡ room_of v.path = ap room_of up in
    let bo' : BothRan T v.budget (room_of v.path - 1) l r m t (u.done + 1) vs ws steps =
    subst (λ y. BothRan T v.budget (y - 1) l r m t (u.done + 1) vs ws steps) rm (subst (λ y. BothRan T y (room_of u.path - 1) l r m t (u.done + 1) vs ws steps) ub bo) in (
      subst (λ y. Ran T v.budget (room_of v.path) v.stack s0 v.done x.stack t y) (sym d)
          (legs_on T v.budget (room_of v.path) l r v.stack w.stack u.stack x.stack s0 s m t v.done w.done u.done vs ws steps room ra (forks_by T v w u l r s m (room_of v.path) b f) bo' j),
      omega arith,
      z,
      xp ∙ up,
      xb ∙ ub,
    )

pub fork_ends : (T : List Proc) (v w u : Leaf) (l r : Starting) (s0 s m t : Kept) (e : BranchEnd) → Ran T v.budget (room_of v.path) v.stack s0 v.done w.stack s w.done → w.path ≡ v.path → w.budget ≡ v.budget → Same_leaf T w u
    → Forks T w.budget (room_of v.path) l r w.stack s w.done u.stack m u.done → Kin m t → IsBad e → ForkStops true T u.budget (room_of u.path - 1) u.path l r m t (u.done + 1) e
    → EndIs true T v.budget (room_of v.path) v.path v.stack s0 v.done e t
fork_ends T v w u l r s0 s m t e ra p b n f k bad h =
    let up : u.path ≡ v.path = n.0 ∙ p in
    let ub : u.budget ≡ v.budget = n.1 ∙ b in
    let room : 0 < room_of v.path = room_left v.path (subst (λ y. length y < most_forks) up n.3) in
    let h' : ForkStops true T v.budget (room_of v.path - 1) v.path l r m t (u.done + 1) e =
    subst (λ y. ForkStops true T v.budget (room_of y - 1) y l r m t (u.done + 1) e) up (subst (λ y. ForkStops true T y (room_of u.path - 1) u.path l r m t (u.done + 1) e) ub h) in
    stopped_is true T v.budget (room_of v.path) v.path l r v.stack w.stack u.stack s0 s m t v.done w.done u.done e room ra (forks_by T v w u l r s m (room_of v.path) b f) k bad h'
