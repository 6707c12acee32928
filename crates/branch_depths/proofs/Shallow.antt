-- The left-first run of a branch, with how deep forks lie.
use Rattle.std.proofs.Common.{◌≡◌, ℕ, zero, suc, ◌≤◌, true, List, [], ◌++◌, refl, sym, ap, ◌∙◌, subst, arith, ⊎_elim}
use Rattle.std.proofs.lemmas.Bool.{cond-true}
use Rattle.target_code.specs.declared.tree.Proc.{Proc}
use Rattle.target_meaning.specs.Held.{holdings, left_takes, right_takes}
use Rattle.target_meaning.specs.Leaf.{Stack, End, Wait, act, joined}
use Rattle.target_meaning.specs.LeftFirst.{act_at, first_name, has_ended, left_path, names_after}
use Rattle.target_meaning.specs.Machine.{Fork, Heap, Leaf, Tree, any_room, join_both, move, perform}
use Rattle.target_meaning.specs.Piece.{Holds, Piece, plus}
use Rattle.target_meaning.proofs.Keeps.{fork_sum, left_out, right_out}
use Rattle.branch_exec.specs.Branches.{Branch, Deep, Forked, Move, Moves, Names, Runner, Runs, Stepped, Then, Way, after_join, left_child, right_child}
use Rattle.branch_exec.specs.LeftRuns.{After, Fresh, names_of}
use Rattle.branch_exec.proofs.Lefts.{Once, after_then, fresh_after, fresh_left, lefts_run, names_append}
use Rattle.branch_depths.specs.Depths.{BranchesAreShallow, ShallowRun}
use Rattle.branch_depths.proofs.Chains.{Chain, chain_left, chain_none, chain_one, chain_right, chain_stays, chain_then}
use Rattle.branch_depths.proofs.Steps.{after_none, leaf_made, names_drawn, same_name}

-- the leaf of a runner
abbrev leaf_of : Runner → Tree Piece
leaf_of s = Leaf s.piece s.stack

record Led (T : List Proc) (d : ℕ) (s : Runner) (xs : Names) (t : Runner) (f : Piece) (h : Heap) (ns : List ℕ) : Type 0 where
  heap : Heap
  run : Chain holdings T d (names_of xs ++ ns) (leaf_of s) h ns (leaf_of t) heap
  holds : Holds (plus t.piece f) heap
  after : After h xs heap

-- each way is a left-first run with forks at most so deep
abbrev Leads : List Proc → ℕ → Way → Type 0
Leads T d W = (s : Runner) (xs : Names) (t : Runner) (f : Piece) (h : Heap) (ns : List ℕ) → W s xs t → Holds (plus s.piece f) h → Fresh h xs → Led T d s xs t f h ns

-- the ways of the branches of forks, where forks may lie so deep in all
abbrev LeadsBelow : List Proc → ℕ → Way → Type 0
LeadsBelow T zero W = (s : Runner) (xs : Names) (t : Runner) → W s xs t → ⊥
LeadsBelow T (suc d) W = Leads T d W

stepped_leads : (T : List Proc) (d : ℕ) (s : Runner) (xs : Names) (t : Runner) (f : Piece) (h : Heap) (ns : List ℕ) → Stepped (act T s.stack) s xs t → Holds (plus s.piece f) h → Fresh h xs → Led T d s xs t f h ns
stepped_leads T d s xs t f h ns st hs fr =
    let made = leaf_made T s.stack s.piece t.piece xs t.stack f h st.step hs fr in
    record {
      heap = made.heap;
      run = chain_one holdings T d (names_of xs ++ ns) (leaf_of s) h ns (leaf_of t) made.heap (record {
        moved = same_name s.piece t.piece xs t.stack h (act T s.stack) ns st.step ∙ made.is;
        names = names_drawn s.piece t.piece xs t.stack h (act T s.stack) ns st.step;
      }) (omega arith) (omega arith);
      holds = made.holds;
      after = made.after;
    }

ended_by : (p : Piece) (s : Stack) (vs : List ℕ) → s ≡ End vs → has_ended {A = Piece} (Leaf p s) ≡ true
ended_by p s vs e = ap (λ z. has_ended {A = Piece} (Leaf p z)) e

join_once : (T : List Proc) (k : Piece) (w : Wait) (x y : Runner) (vs ws : List ℕ) (h : Heap) (ns : List ℕ) → x.stack ≡ End vs → y.stack ≡ End ws
    → Once holdings T ns (Fork k w (leaf_of x) (leaf_of y)) h ns (Leaf (plus k (plus x.piece y.piece)) (joined w vs ws)) h
join_once T k w x y vs ws h ns e d =
    let path : left_path (Fork k w (leaf_of x) (leaf_of y)) ≡ [] = cond-true (has_ended (leaf_of x)) _ _ (ended_by x.piece x.stack vs e) ∙ cond-true (has_ended (leaf_of y)) _ _ (ended_by y.piece y.stack ws d) in
    record {
      moved = ap (λ p. move holdings any_room T (Fork k w (leaf_of x) (leaf_of y)) h p (first_name ns)) path
          ∙ (ap (λ z. join_both holdings k w (Leaf x.piece z) (leaf_of y) h) e ∙ ap (λ z. join_both holdings k w (Leaf x.piece (End vs)) (Leaf y.piece z) h) d);
      names = ap (λ p. names_after (act_at T (Fork k w (leaf_of x) (leaf_of y)) p) ns) path;
    }

forked_leads : (T : List Proc) (d : ℕ) (Below : Way) → Leads T d Below → (s : Runner) (xs : Names) (t : Runner) (f : Piece) (h : Heap) (ns : List ℕ) → Forked Below (act T s.stack) s xs t → Holds (plus s.piece f) h → Fresh h xs
    → Led T (suc d) s xs t f h ns
forked_leads T d Below ih s xs t f h ns fk hs fr =
    let l = fk.left in let r = fk.right in let w = fk.wait in
    let k : Piece = holdings.kept s.piece l r in
    let x1 : Runner = left_child s l r in
    let y1 : Runner = right_child s l r in
    let a = fk.first_names in let b = fk.second_names in
    let all : List ℕ = names_of a ++ (names_of b ++ ns) in
    let fr1 = subst (Fresh h) fk.names fr in
    let hs1 : Holds (plus x1.piece (plus (plus k y1.piece) f)) h =
    subst (λ y. Holds y h) (left_out k x1.piece y1.piece f) (subst (λ y. Holds (plus y f) h) (sym (fork_sum s.piece (left_takes l) (right_takes l r))) hs) in
    let one = ih x1 a fk.first (plus (plus k y1.piece) f) h (names_of b ++ ns) fk.first_run hs1 (fresh_left h a b fr1) in
    let hs2 : Holds (plus y1.piece (plus (plus k fk.first.piece) f)) one.heap =
    subst (λ y. Holds y one.heap) (right_out k fk.first.piece y1.piece f) (subst (λ y. Holds y one.heap) (sym (left_out k fk.first.piece y1.piece f)) one.holds) in
    let two = ih y1 b fk.second (plus (plus k fk.first.piece) f) one.heap ns fk.second_run hs2 (fresh_after h one.heap a b one.after fr1) in
    let split : Once holdings T all (leaf_of s) h all (Fork k w (leaf_of x1) (leaf_of y1)) h = record {
      moved = ap (λ z. perform holdings any_room s.piece z h (first_name all)) fk.at;
      names = ap (λ z. names_after z all) fk.at;
    } in
    let end : Tree Piece = Leaf (plus k (plus fk.first.piece fk.second.piece)) (joined w fk.first_words fk.second_words) in
    let run : Chain holdings T (suc d) all (leaf_of s) h ns end two.heap =
    chain_then holdings T (suc d) all (leaf_of s) h all (Fork k w (leaf_of x1) (leaf_of y1)) h ns end two.heap
    (chain_one holdings T (suc d) all (leaf_of s) h all (Fork k w (leaf_of x1) (leaf_of y1)) h split (omega arith) (omega arith))
    (chain_then holdings T (suc d) all (Fork k w (leaf_of x1) (leaf_of y1)) h (names_of b ++ ns) (Fork k w (leaf_of fk.first) (leaf_of y1)) one.heap ns end two.heap
    (chain_left holdings T d k w (leaf_of y1) (omega arith) all (leaf_of x1) h (names_of b ++ ns) (leaf_of fk.first) one.heap one.run)
    (chain_then holdings T (suc d) (names_of b ++ ns) (Fork k w (leaf_of fk.first) (leaf_of y1)) one.heap ns (Fork k w (leaf_of fk.first) (leaf_of fk.second)) two.heap ns end two.heap
    (chain_right holdings T d k w (leaf_of fk.first) (ended_by fk.first.piece fk.first.stack fk.first_words fk.first_end) (omega arith) (names_of b ++ ns) (leaf_of y1) one.heap ns (leaf_of fk.second) two.heap two.run)
    (chain_one holdings T (suc d) ns (Fork k w (leaf_of fk.first) (leaf_of fk.second)) two.heap ns end two.heap
    (join_once T k w fk.first fk.second fk.first_words fk.second_words two.heap ns fk.first_end fk.second_end) (omega arith) (omega arith)))) in
    let names : names_of xs ++ ns ≡ all = ap (λ z. names_of z ++ ns) fk.names ∙ names_append a b ns in
    record {
      heap = two.heap;
      run = subst (λ z. Chain holdings T (suc d) z (leaf_of s) h ns (leaf_of t) two.heap) (sym names)
          (subst (λ z. Chain holdings T (suc d) all (leaf_of s) h ns (leaf_of z) two.heap) (sym fk.is) run);
      holds = subst (λ z. Holds (plus z.piece f) two.heap) (sym fk.is)
          (subst (λ y. Holds y two.heap) (sym (right_out k fk.first.piece fk.second.piece f)) two.holds);
      after = subst (λ z. After h z two.heap) (sym fk.names) (after_then h one.heap two.heap a b one.after two.after);
    }

below_leads : (T : List Proc) (d : ℕ) (Below : Way) → LeadsBelow T d Below → (s : Runner) (xs : Names) (t : Runner) (f : Piece) (h : Heap) (ns : List ℕ) → Forked Below (act T s.stack) s xs t → Holds (plus s.piece f) h → Fresh h xs
    → Led T d s xs t f h ns
below_leads T zero Below ih s xs t f h ns fk hs fr = absurd (ih (left_child s fk.left fk.right) fk.first_names fk.first fk.first_run)
below_leads T (suc d) Below ih s xs t f h ns fk hs fr = forked_leads T d Below ih s xs t f h ns fk hs fr

move_leads : (T : List Proc) (b d : ℕ) (Below : Way) → LeadsBelow T d Below → Leads T d (Move T b Below)
move_leads T b d Below ih s xs t f h ns m hs fr =
    ⊎_elim (λ w. stepped_leads T d s xs t f h ns w hs fr) (λ w. below_leads T d Below ih s xs t f h ns w hs fr) m.move

moves_lead : (T : List Proc) (b d : ℕ) (Below : Way) → LeadsBelow T d Below → (n : ℕ) → Leads T d (Moves T b Below n)
moves_lead T b d Below ih zero s xs t f h ns m hs fr = record {
  heap = h;
  run = subst (λ z. Chain holdings T d (names_of z ++ ns) (leaf_of s) h ns (leaf_of t) h) (sym m.0)
      (subst (λ z. Chain holdings T d ns (leaf_of s) h ns (leaf_of z) h) (sym m.1) (chain_none holdings T d ns (leaf_of s) h (omega arith)));
  holds = subst (λ z. Holds (plus z.piece f) h) (sym m.1) hs;
  after = subst (λ z. After h z h) (sym m.0) (after_none h);
}
moves_lead T b d Below ih (suc n) s xs t f h ns m hs fr =
    let u = m.between in
    let a = m.first_names in let c = m.more_names in
    let fr1 = subst (Fresh h) m.names fr in
    let one = move_leads T b d Below ih s a u f h (names_of c ++ ns) m.one hs (fresh_left h a c fr1) in
    let two = moves_lead T b d Below ih n u c t f one.heap ns m.more one.holds (fresh_after h one.heap a c one.after fr1) in
    record {
      heap = two.heap;
      run = subst (λ z. Chain holdings T d z (leaf_of s) h ns (leaf_of t) two.heap) (sym (ap (λ z. names_of z ++ ns) m.names ∙ names_append a c ns))
          (chain_then holdings T d (names_of a ++ (names_of c ++ ns)) (leaf_of s) h (names_of c ++ ns) (leaf_of u) one.heap ns (leaf_of t) two.heap one.run two.run);
      holds = two.holds;
      after = subst (λ z. After h z two.heap) (sym m.names) (after_then h one.heap two.heap a c one.after two.after);
    }

runs_lead : (T : List Proc) (b d : ℕ) (Below : Way) → LeadsBelow T d Below → Leads T d (Runs T b Below)
runs_lead T b d Below ih s xs t f h ns m hs fr = moves_lead T b d Below ih m.number s xs t f h ns m.moves hs fr

deep_leads : (T : List Proc) (b d : ℕ) → LeadsBelow T d (Deep T b d)
deep_leads T b zero = λ s xs t m. m
deep_leads T b (suc d) = λ s xs t f h ns m hs fr. runs_lead T b d (Deep T b d) (deep_leads T b d) s xs t f h ns m hs fr

pub branch_shallow : BranchesAreShallow
branch_shallow T b d s xs t q h ns m hs fr =
    let l = runs_lead T b d (Deep T b d) (deep_leads T b d) s xs t q h ns m hs fr in
    record {
      steps = l.run.number;
      heap = l.heap;
      run = lefts_run holdings T l.run.number (names_of xs ++ ns) (leaf_of s) h ns (leaf_of t) l.heap l.run.lefts;
      stays = chain_stays holdings T l.run;
      holds = l.holds;
      after = l.after;
    }
