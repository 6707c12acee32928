-- A run up to a leaf that stops is the left-first run of the machine up to that leaf.
use Rattle.std.proofs.Common.{◌≡◌, ℕ, zero, suc, ◌+◌, ◌<◌, Bool, true, false, cond, List, [], ◌∷◌, ◌++◌, refl, sym, ap, ◌∙◌, subst}
use Rattle.std.proofs.lemmas.Bool.{cond-true, cond-false}
use Rattle.target_code.specs.declared.tree.Proc.{Proc}
use Rattle.target_meaning.specs.declared.path.Side.{Side}
use Rattle.target_meaning.specs.declared.path.Side.TheVariants.{Left, Right}
use Rattle.target_meaning.specs.Leaf as leaf
use Rattle.target_meaning.specs.Leaf.{Stack, Run, End, Wait, Child, act}
use Rattle.target_meaning.specs.Machine.{Heap, Tree, Leaf, Fork, Moved, any_room, perform}
use Rattle.target_meaning.specs.Runs.{AtLeaf}
use Rattle.target_meaning.specs.LeftFirst.{has_ended, left_path, first_name, names_after, left_first}
use Rattle.target_meaning.specs.Piece.{Piece, Holds, plus}
use Rattle.target_meaning.specs.Held.{holdings, left_takes, right_takes}
use Rattle.target_meaning.proofs.Keeps.{fork_sum, left_out, right_out}
use Rattle.branch_exec.specs.Stores.{Kept}
use Rattle.branch_exec.specs.Branches.{Runner, Names, Branch, Deep, left_child, right_child}
use Rattle.branch_exec.specs.Stops.{AtFork, InLeft, InRight, Stops}
use Rattle.branch_exec.specs.Ends.{Cause, IsUnderWay}
use Rattle.branch_exec.specs.LeftRuns.{After, Fresh, IsAtLeaf, LeftStop, StoppedLeft, marked, names_of}
use Rattle.branch_exec.specs.Went.{EndIs, Stopped, runner}
use Rattle.branch_exec.specs.Ends.{IsBad}
use Rattle.target_meaning.specs.declared.stack.Stack as code
use Rattle.branch_exec.specs.declared.end.BranchEnd.{BranchEnd}
use Rattle.branch_exec.specs.declared.end.BranchEnd.TheVariants as end
use Rattle.branch_exec.proofs.Lefts.{Led, Once, Some_lefts, after_then, deep_leads, ended_by, fresh_after, fresh_left, leaf_at, lefts_one, lefts_run, lefts_then, lift_left, lift_right, names_append, runs_lead}

-- the run up to the leaf
pub record Stood (T : List Proc) (s : Runner) (xs : Names) (ds : List Side) (t : Runner) (f : Piece) (h : Heap) (ns : List ℕ) : Type 0 where
  pub tree : Tree (Piece × ℕ)
  pub heap : Heap
  pub run : Some_lefts marked T (names_of xs ++ ns) (leaf_at s) h ns tree heap
  pub going : has_ended tree ≡ false
  pub turn : left_path tree ≡ ds
  pub at : AtLeaf tree ds (IsAtLeaf t)
  pub rest : Piece
  pub holds : Holds (plus t.piece rest) heap
  pub after : After h xs heap

going_by : (a : Piece × ℕ) (s : Stack) → IsUnderWay s → has_ended {A = Piece × ℕ} (Leaf a s) ≡ false
going_by a (Run f cs) g = refl
going_by a (End vs) g = absurd g

-- the fork, with its two children
module _ (T : List Proc) (b d : ℕ) (s : Runner) (f : Piece) (h : Heap) where
  -- up to the fork
  to_fork : (fork : Runner) (before : Names) (ns : List ℕ) → Branch T b d s before fork → Holds (plus s.piece f) h → Fresh h before → Led T s before fork f h ns
  to_fork fork before ns r hs fr = runs_lead T b (Deep T b d) (deep_leads T b d) s before fork f h ns r hs fr

split_once : (T : List Proc) (m : Runner) (l r : Child) (w : Wait) (h : Heap) (ns : List ℕ) → act T m.stack ≡ leaf.Split l r w → Once marked T ns (leaf_at m) h ns (Fork (holdings.kept m.piece l r, suc m.count) w (leaf_at (left_child m l r)) (leaf_at (right_child m l r))) h
split_once T m l r w h ns e = record {
  moved = ap (λ z. perform marked any_room (m.piece, m.count) z h (first_name ns)) e;
  names = ap (λ z. names_after z ns) e;
}

pub stood : (T : List Proc) (b d : ℕ) (s : Runner) (xs : Names) (ds : List Side) (t : Runner) (f : Piece) (h : Heap) (ns : List ℕ) → Stops T b d s xs ds t → IsUnderWay t.stack → Holds (plus s.piece f) h → Fresh h xs → Stood T s xs ds t f h ns
stood T b d s xs [] t f h ns st g hs fr =
    let l = runs_lead T b (Deep T b d) (deep_leads T b d) s xs t f h ns st hs fr in
    record { tree = leaf_at t; heap = l.heap; run = l.run; going = going_by (t.piece, t.count) t.stack g; turn = refl; at = (refl, refl); rest = f; holds = l.holds; after = l.after }
stood T b zero s xs (x ∷ ds) t f h ns st g hs fr = absurd st
stood T b (suc d) s xs (Left ∷ ds) t f h ns st g hs fr =
    let m = st.fork in let l = st.left in let r = st.right in let w = st.at.wait in
    let a = st.before in let c = st.after in
    let fr1 : Fresh h (a ++ c) = subst (Fresh h) st.names fr in
    let one = to_fork T b (suc d) s f h m a (names_of c ++ ns) st.at.run hs (fresh_left h a c fr1) in
    let k : Piece = holdings.kept m.piece l r in
    let x1 : Runner = left_child m l r in
    let y1 : Runner = right_child m l r in
    let hs1 : Holds (plus x1.piece (plus (plus k y1.piece) f)) one.heap =
    subst (λ y. Holds y one.heap) (left_out k x1.piece y1.piece f) (subst (λ y. Holds (plus y f) one.heap) (sym (fork_sum m.piece (left_takes l) (right_takes l r))) one.holds) in
    let two = stood T b d x1 c ds t (plus (plus k y1.piece) f) one.heap ns st.inner g hs1 (fresh_after h one.heap a c one.after fr1) in
    let n : ℕ = suc m.count in
    let all : List ℕ = names_of a ++ (names_of c ++ ns) in
    let rest : List ℕ = names_of c ++ ns in
    let forked : Tree (Piece × ℕ) = Fork (k, n) w (leaf_at x1) (leaf_at y1) in
    let last : Tree (Piece × ℕ) = Fork (k, n) w two.tree (leaf_at y1) in
    let run : Some_lefts marked T all (leaf_at s) h ns last two.heap =
    lefts_then marked T all (leaf_at s) h rest (leaf_at m) one.heap ns last two.heap one.run
    (lefts_then marked T rest (leaf_at m) one.heap rest forked one.heap ns last two.heap
    (lefts_one marked T rest (leaf_at m) one.heap rest forked one.heap (split_once T m l r w one.heap rest st.at.at))
    (record { number = two.run.number; lefts = lift_left marked T two.run.number (k, n) w (leaf_at y1) rest (leaf_at x1) one.heap ns two.tree two.heap two.run.lefts })) in
    record {
      tree = last;
      heap = two.heap;
      run = subst (λ z. Some_lefts marked T z (leaf_at s) h ns last two.heap) (sym (ap (λ z. names_of z ++ ns) st.names ∙ names_append a c ns)) run;
      going = refl;
      turn = cond-false (has_ended two.tree) _ _ two.going ∙ ap (λ z. Left ∷ z) two.turn;
      at = two.at;
      rest = two.rest;
      holds = two.holds;
      after = subst (λ z. After h z two.heap) (sym st.names) (after_then h one.heap two.heap a c one.after two.after);
    }
stood T b (suc d) s xs (Right ∷ ds) t f h ns st g hs fr =
    let m = st.fork in let l = st.left in let r = st.right in let w = st.at.wait in
    let a = st.before in let b1 = st.first_names in let c = st.after in
    let fr1 : Fresh h (a ++ (b1 ++ c)) = subst (Fresh h) st.names fr in
    let tail : List ℕ = names_of c ++ ns in
    let rest : List ℕ = names_of b1 ++ tail in
    let all : List ℕ = names_of a ++ rest in
    let one = to_fork T b (suc d) s f h m a rest st.at.run hs (fresh_left h a (b1 ++ c) fr1) in
    let fr2 : Fresh one.heap (b1 ++ c) = fresh_after h one.heap a (b1 ++ c) one.after fr1 in
    let k : Piece = holdings.kept m.piece l r in
    let x1 : Runner = left_child m l r in
    let y1 : Runner = right_child m l r in
    let p = st.first in
    let hs1 : Holds (plus x1.piece (plus (plus k y1.piece) f)) one.heap =
    subst (λ y. Holds y one.heap) (left_out k x1.piece y1.piece f) (subst (λ y. Holds (plus y f) one.heap) (sym (fork_sum m.piece (left_takes l) (right_takes l r))) one.holds) in
    let two = runs_lead T b (Deep T b d) (deep_leads T b d) x1 b1 p (plus (plus k y1.piece) f) one.heap tail st.first_run hs1 (fresh_left one.heap b1 c fr2) in
    let hs2 : Holds (plus y1.piece (plus (plus k p.piece) f)) two.heap =
    subst (λ y. Holds y two.heap) (right_out k p.piece y1.piece f) (subst (λ y. Holds y two.heap) (sym (left_out k p.piece y1.piece f)) two.holds) in
    let three = stood T b d y1 c ds t (plus (plus k p.piece) f) two.heap ns st.inner g hs2 (fresh_after one.heap two.heap b1 c two.after fr2) in
    let n : ℕ = suc m.count in
    let ended : has_ended (leaf_at p) ≡ true = ended_by p.piece p.count p.stack st.first_words st.first_end in
    let forked : Tree (Piece × ℕ) = Fork (k, n) w (leaf_at x1) (leaf_at y1) in
    let half : Tree (Piece × ℕ) = Fork (k, n) w (leaf_at p) (leaf_at y1) in
    let last : Tree (Piece × ℕ) = Fork (k, n) w (leaf_at p) three.tree in
    let run : Some_lefts marked T all (leaf_at s) h ns last three.heap =
    lefts_then marked T all (leaf_at s) h rest (leaf_at m) one.heap ns last three.heap one.run
    (lefts_then marked T rest (leaf_at m) one.heap rest forked one.heap ns last three.heap
    (lefts_one marked T rest (leaf_at m) one.heap rest forked one.heap (split_once T m l r w one.heap rest st.at.at))
    (lefts_then marked T rest forked one.heap tail half two.heap ns last three.heap
    (record { number = two.run.number; lefts = lift_left marked T two.run.number (k, n) w (leaf_at y1) rest (leaf_at x1) one.heap tail (leaf_at p) two.heap two.run.lefts })
    (record { number = three.run.number; lefts = lift_right marked T three.run.number (k, n) w (leaf_at p) ended tail (leaf_at y1) two.heap ns three.tree three.heap three.run.lefts }))) in
    record {
      tree = last;
      heap = three.heap;
      run = subst (λ z. Some_lefts marked T z (leaf_at s) h ns last three.heap) (sym (ap (λ z. names_of z ++ ns) st.names ∙ (names_append a (b1 ++ c) ns ∙ ap (λ z. names_of a ++ z) (names_append b1 c ns)))) run;
      going = refl;
      turn = cond-true (has_ended (leaf_at p)) _ _ ended ∙ (cond-false (has_ended three.tree) _ _ three.going ∙ ap (λ z. Right ∷ z) three.turn);
      at = three.at;
      rest = three.rest;
      holds = three.holds;
      after = subst (λ z. After h z three.heap) (sym st.names)
          (after_then h one.heap three.heap a (b1 ++ c) one.after (after_then one.heap two.heap three.heap b1 c two.after three.after));
    }

-- a branch that stopped
pub stopped_left : (k : Bool) (T : List Proc) (b d : ℕ) (path : List Side) (m : Runner) (s : Kept) (e : BranchEnd) (t : Kept) (x : Stopped k T b d path m s e t) → IsUnderWay x.last.stack → (q : Piece) (h : Heap) (ns : List ℕ) → Holds (plus m.piece q) h → Fresh h x.names → LeftStop T m x.names x.below x.last h ns
stopped_left k T b d path m s e t x g q h ns hs fr =
    let l = stood T b d m x.names x.below x.last q h ns x.stops g hs fr in
    record {
      steps = l.run.number;
      tree = l.tree;
      heap = l.heap;
      run = lefts_run marked T l.run.number (names_of x.names ++ ns) (leaf_at m) h ns l.tree l.heap l.run.lefts;
      turn = l.turn;
      at = l.at;
      rest = l.rest;
      holds = l.holds;
      after = l.after;
    }

-- a cause other than want of memory is told of a leaf that has not ended
pub cause_going : (T : List Proc) (b : ℕ) (path : List Side) (e : BranchEnd) (p : Piece) (c : ℕ) (s : Stack) → (e ≡ end.Memory → ⊥) → Cause T b path e (record { piece = p; count = c; stack = s }) → IsUnderWay s
cause_going T b path e p c (Run f cs) n h = tt
cause_going T b path (end.Done i j) p c (End vs) n h = absurd h
cause_going T b path (end.Stuck i j) p c (End vs) n h = absurd h.1
cause_going T b path (end.Unowned i j k) p c (End vs) n h = absurd h.1
cause_going T b path (end.OutOfSteps i) p c (End vs) n h = absurd h.1
cause_going T b path (end.Full i j) p c (End vs) n h = absurd h.1
cause_going T b path (end.Depth i) p c (End vs) n h = absurd h.1
cause_going T b path end.Memory p c (End vs) n h = absurd (n refl)

pub bad_left : (k : Bool) (T : List Proc) (b d : ℕ) (path : List Side) (v : code.Stack) (s : Kept) (c : ℕ) (e : BranchEnd) (t : Kept) → IsBad e → (e ≡ end.Memory → ⊥) → EndIs k T b d path v s c e t → StoppedLeft T b path v s c e t
bad_left k T b d path v s c e t bad n g =
    let x = g.stopped bad in
    record {
      names = x.names;
      more = x.more;
      drawn = x.drawn;
      below = x.below;
      last = x.last;
      cause = x.cause;
      full = x.full;
      run = λ q h ns hs fr. stopped_left k T b d path (runner T s.top c v) s e t x (cause_going T b (path ++ x.below) e x.last.piece x.last.count x.last.stack n x.cause) q h ns hs fr;
    }
