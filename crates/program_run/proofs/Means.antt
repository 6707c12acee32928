-- The end of a run over a store is what a run from the beginning means.
use Rattle.std.proofs.Common.{◌≡◌, ℕ, zero, suc, ◌+◌, ◌-◌, ◌<◌, ◌≤◌, ◌⊎◌, inl, inr, Bool, true, false, List, [], ◌∷◌, ◌++◌, refl, sym, ap, ◌∙◌, subst, arith}
use Rattle.std.specs.Prelude.{Option, Some, None, Result, Ok, Err, IfOk}
use Rattle.nres_core.specs.declared.value.Value.{Value}
use Rattle.target_code.specs.declared.tree.Proc.{Proc}
use Rattle.target_code.specs.declared.tree.Program.{Program}
use Rattle.target_code.specs.declared.tree.Rep.{Rep}
use Rattle.target_meaning.specs.Held.{holdings}
use Rattle.target_meaning.specs.Leaf.{Run, Stack, End, begin}
use Rattle.target_meaning.specs.LeftFirst.{left_first}
use Rattle.target_meaning.specs.Machine.{Heap, Leaf, Moved, counts}
use Rattle.target_meaning.specs.Piece.{Piece, Holds, plus, none}
use Rattle.target_meaning.specs.Stacks.{proc_at, stack_of}
use Rattle.target_meaning.specs.declared.stack.Stack as code
use Rattle.target_meaning.specs.declared.stack.Stack.TheVariants as stack
use Rattle.target_meaning.proofs.Shares.{plus-none}
use Rattle.branch_exec.specs.Branches.{Branch, Names, Runner}
use Rattle.branch_exec.specs.Ends.{Cause, FullAt, IsBad}
use Rattle.branch_exec.specs.LeftRuns.{Fresh, LeftRun, LeftStop, claimed_by, names_of}
use Rattle.branch_exec.specs.Stores.{Kept}
use Rattle.branch_exec.specs.Went as went
use Rattle.branch_exec.specs.Went.{EndIs, Kin, Ran, runner}
use Rattle.branch_exec.specs.declared.end.BranchEnd.{BranchEnd}
use Rattle.branch_exec.specs.declared.leaf.Leaf as code_leaf
use Rattle.branch_exec.specs.Forks.{room_of}
use Rattle.store_blocks.specs.Roots.{IsRoot}
use Rattle.branch_exec.specs.declared.end.BranchEnd.TheVariants as end
use Rattle.branch_exec.proofs.Lefts.{branch_left}
use Rattle.branch_exec.proofs.StopsLeft.{cause_going, stopped_left}
use Rattle.relations.specs.Values.{live}
use Rattle.run_inputs.specs.Placing.{AllFit, ArePlaced}
use Rattle.run_inputs.specs.declared.place.Unplaced.{Unplaced}
use Rattle.run_stores.specs.Rows.{IsEmpty, IsInRow}
use Rattle.run_begins.specs.Beginning.{HasBegun}
use Rattle.run_begins.proofs.Rows.{row_behind}
use Rattle.run_begins.proofs.Starting.{later_new}
use Rattle.run_begins.proofs.Unfit.{unplaced}
use Rattle.program_run.specs.Ends.{Beginning, Finished, IsUnfit, Results, RootEnds, RootRan, RunMeans, ShowsEnd, Stopped, Tells, WantsTooMuch, most_forks, root}
use Rattle.program_run.specs.declared.end.RunEnd.{RunEnd}
use Rattle.program_run.specs.declared.end.RunEnd.TheVariants as run

nil_behind : {A : Type 0} (xs : List A) → xs ++ [] ≡ xs
nil_behind [] = refl
nil_behind (x ∷ xs) = ap (λ ys. x ∷ ys) (nil_behind xs)

-- the words that a row claims
row_claims : (x : ℕ) (bs : Names) (e : ℕ) → IsInRow x bs e → e + 1 ≡ x + claimed_by bs
row_claims x [] e r = let f : x ≡ e + 1 = r in omega (arith, f)
row_claims x (b ∷ bs) e r = let f = row_claims (x + b.1 + 1) bs e r.1 in omega (arith, f)

-- a run that stopped, and what the store tells of the capacity
pub record Halted (T : Program) (us : List Value) (cap steps : ℕ) (s t : Kept) (e : BranchEnd) : Type 0 where
  pub stopped : Stopped T us cap steps e
  pub exact : stopped.run.heap.claimed ≡ t.walked
  pub full : FullAt e s t

module _ (T : Program) (us : List Value) (cap : ℕ) (regs : List ℕ) (steps : ℕ) (s t : Kept) (begun : HasBegun T us cap regs s) (row_s : IsInRow 1 s.drawn s.walked) (row_t : IsInRow 1 t.drawn t.walked) (within : t.walked ≤ t.cap) where
  abbrev start : Stack
  start = Run (begin (proc_at T.procs 0) regs) []

  abbrev beginning : Beginning T us cap
  beginning = record { stack = start; heap = begun.heap; begins = begun.begins }

  module _ (v : code.Stack) (begins : stack_of T.procs v ≡ start) (kin : Kin s t) where
    -- the root's runner
    same_root : runner T.procs s.top 0 v ≡ root start begun.heap
    same_root = λ i. record { piece = begun.live_is_held i; count = 0; stack = begins i }

    few : t.walked ≤ cap
    few = let a : t.cap ≡ cap = kin.cap ∙ begun.capacity in omega (arith, a, within)

    holds : Holds (plus s.top none) begun.heap
    holds = subst (λ p. Holds p begun.heap) (sym (plus-none s.top)) begun.holds

    new : (names : Names) → t.drawn ≡ s.drawn ++ names → Fresh begun.heap names
    new names d = later_new T us cap regs s t names begun row_s d row_t within (kin.cap ∙ begun.capacity)

    -- the words claimed at the end of a run with these names
    claims : (names : Names) (c : ℕ) → t.drawn ≡ s.drawn ++ names → c ≡ begun.heap.claimed + claimed_by names → c ≡ t.walked
    claims names c d e =
        let r : IsInRow (s.walked + 1) names t.walked = row_behind 1 s.drawn names s.walked t.walked row_s (subst (λ ds. IsInRow 1 ds t.walked) d row_t) in
        let q = row_claims (s.walked + 1) names t.walked r in
        let k = begun.claimed in
        omega (arith, e, q, k)

    finished : (rs : List ℕ) (n : ℕ) → Ran T.procs steps most_forks v s 0 (stack.End rs) t n → n ≤ steps + most_forks → Finished T us cap steps rs t.top
    finished rs n r le =
        let to : Runner = record { piece = t.top; count = n; stack = End rs } in
        let branch : Branch T.procs steps most_forks (root start begun.heap) r.names to = subst (λ m. Branch T.procs steps most_forks m r.names to) same_root r.run in
        let left : LeftRun T.procs (root start begun.heap) r.names to none begun.heap [] =
        branch_left T.procs steps most_forks (root start begun.heap) r.names to none begun.heap [] branch (subst (λ p. Holds (plus p none) begun.heap) begun.live_is_held holds) (new r.names r.on.drawn) in
        record {
          beginning = beginning;
          names = r.names;
          number = left.steps;
          count = n;
          heap = left.heap;
          run = subst (λ ns. left_first holdings T.procs left.steps ns (Leaf (live begun.heap) start) begun.heap ≡ Moved (Leaf t.top (End rs)) left.heap) (nil_behind (names_of r.names)) left.held;
          counted = subst (λ ns. left_first counts T.procs left.steps ns (Leaf 0 start) begun.heap ≡ Moved (Leaf n (End rs)) left.heap) (nil_behind (names_of r.names)) left.counted;
          within = branch;
          few = le;
          holds = subst (λ p. Holds p left.heap) (plus-none t.top) left.holds;
          claimed = let q = claims r.names left.heap.claimed r.on.drawn left.after.claimed in let f = few in omega (arith, q, f);
        }

    halted : (e : BranchEnd) → (e ≡ end.Memory → ⊥) → went.Stopped true T.procs steps most_forks [] (runner T.procs s.top 0 v) s e t → Halted T us cap steps s t e
    halted e not_memory x =
        let all : t.drawn ≡ s.drawn ++ x.names = x.drawn ∙ ap (λ ys. s.drawn ++ ys) (ap (λ ys. x.names ++ ys) (x.lone refl) ∙ nil_behind x.names) in
        let under_way = cause_going T.procs steps x.below e x.last.piece x.last.count x.last.stack not_memory x.cause in
        let stop : LeftStop T.procs (runner T.procs s.top 0 v) x.names x.below x.last begun.heap [] =
        stopped_left true T.procs steps most_forks [] (runner T.procs s.top 0 v) s e t x under_way none begun.heap [] holds (new x.names all) in
        let at_root : LeftStop T.procs (root start begun.heap) x.names x.below x.last begun.heap [] = subst (λ m. LeftStop T.procs m x.names x.below x.last begun.heap []) same_root stop in
        let reached : at_root.heap.claimed ≡ t.walked = claims x.names at_root.heap.claimed all at_root.after.claimed in
        record {
          stopped = record {
            beginning = beginning;
            names = x.names;
            path = x.below;
            last = x.last;
            run = at_root;
            cause = x.cause;
            claimed = let f = few in omega (arith, reached, f);
          };
          exact = reached;
          full = x.full;
        }

  -- the end of the root, by what it is
  module _ (e : BranchEnd) (ends : RootEnds T.procs regs steps s t e) where
    with_results : (r : RunEnd) → ShowsEnd e t T.outs r → Results T us cap steps r
    with_results r w =
        let ran = ends (λ q. let f : end.Done w.0 w.1 ≡ end.Memory = sym w.2 ∙ q in let z : ⊥ = cc f in z) in
        let done = ran.ends.ran w.0 w.1 w.2 in
        (w.0, t.top, finished ran.stack ran.begins ran.ends.kin w.0 w.1 done.0 done.1, w.3)

    badly : (x : BranchEnd) → e ≡ x → IsBad x → (x ≡ end.Memory → ⊥) → Halted T us cap steps s t x
    badly x q bad not_memory =
        let no : e ≡ end.Memory → ⊥ = λ z. not_memory (sym q ∙ z) in
        let ran = ends no in
        subst (Halted T us cap steps s t) q (halted ran.stack ran.begins ran.ends.kin e no (ran.ends.stopped (subst IsBad (sym q) bad)))

    full : (n at len : ℕ) → e ≡ end.Full n len → at ≡ t.walked → WantsTooMuch T us cap steps at len
    full n at len q a =
        let h = badly (end.Full n len) q tt (λ z. let f : ⊥ = cc z in f) in
        let most : n ≤ t.walked = h.full.1 in
        let past : s.cap < n + 1 + len = h.full.2 in
        let same : s.cap ≡ cap = begun.capacity in
        record {
          stopped = record {
            beginning = h.stopped.beginning;
            names = h.stopped.names;
            path = h.stopped.path;
            last = h.stopped.last;
            run = h.stopped.run;
            cause = h.stopped.cause;
            claimed = h.stopped.claimed;
          };
          exact = a ∙ sym h.exact;
          over = omega (arith, a, most, past, same);
        }

    pub means : (r : RunEnd) → Tells e t T.outs r → RunMeans T us cap steps r
    means (run.Values vs) w = with_results (run.Values vs) w
    means (run.NoValue k) w = with_results (run.NoValue k) w
    means (run.Stuck spot reason) w = (badly (end.Stuck spot reason) w tt (λ z. let f : ⊥ = cc z in f)).stopped
    means (run.Unowned spot block offset) w = (badly (end.Unowned spot block offset) w tt (λ z. let f : ⊥ = cc z in f)).stopped
    means (run.OutOfSteps path) w = (badly (end.OutOfSteps path) w tt (λ z. let f : ⊥ = cc z in f)).stopped
    means (run.HeapFull at len) w = inr (full w.0 at len w.1 w.2)
    means (run.Depth path) w = (badly (end.Depth path) w tt (λ z. let f : ⊥ = cc z in f)).stopped

-- ---- calls

-- the run of the root from its leaf
pub root_ran : (T : List Proc) (regs : List ℕ) (steps : ℕ) (s t : Kept) (e : BranchEnd) (leaf : code_leaf.Leaf) → IsRoot T regs steps leaf → EndIs true T leaf.budget (room_of leaf.path) leaf.path leaf.stack s leaf.done e t → RootRan T regs steps s t e
root_ran T regs steps s t e leaf r h = record {
  stack = leaf.stack;
  begins = r.stack;
  ends =
      subst (λ b. EndIs true T b most_forks [] leaf.stack s 0 e t) r.same
      (subst (λ c. EndIs true T leaf.budget most_forks [] leaf.stack s c e t) r.done
      (subst (λ p. EndIs true T leaf.budget (room_of p) p leaf.stack s leaf.done e t) r.path h));
}

-- a run over a store in which the inputs stand
pub begun_means : {E : Type 0} (T : Program) (regs : List ℕ) (steps : ℕ) (s t : Kept) (procs : List Proc) (outs : List Rep) → procs ≡ T.procs → outs ≡ T.outs
    → IsInRow 1 s.drawn s.walked → IsInRow 1 t.drawn t.walked → t.walked ≤ t.cap → (e : BranchEnd) → RootEnds procs regs steps s t e
    → (result : Result RunEnd E) → IfOk result (λ r. Tells e t outs r) → IfOk result (λ r. (us : List Value) (cap : ℕ) → HasBegun T us cap regs s → RunMeans T us cap steps r)
begun_means T regs steps s t procs outs a b row_s row_t within e ends (Ok r) h = λ us cap begun.
    means T us cap regs steps s t begun row_s row_t within e (subst (λ ps. RootEnds ps regs steps s t e) a ends) r (subst (λ os. Tells e t os r) b h)
begun_means T regs steps s t procs outs a b row_s row_t within e ends (Err x) h = tt

pub whole_means : {E : Type 0} (T : Program) (us : List Value) (cap : ℕ) (regs : List ℕ) (steps : ℕ) (t : Kept) → HasBegun T us cap regs t
    → (result : Result RunEnd E) → IfOk result (λ r. (vs : List Value) (c : ℕ) → HasBegun T vs c regs t → RunMeans T vs c steps r) → IfOk result (λ r. RunMeans T us cap steps r)
whole_means T us cap regs steps t begun (Ok r) h = h us cap begun
whole_means T us cap regs steps t begun (Err x) h = tt

-- inputs that do not stand in the store
unfit_so : (T : Program) (us : List Value) (cap steps : ℕ) (s t : Kept) (u : Unplaced) → AllFit T.ins us → IsEmpty s cap → IsInRow 1 t.drawn t.walked → ArePlaced (Err u) T.ins us s t → (r : RunEnd) → IsUnfit u r → RunMeans T us cap steps r
unfit_so T us cap steps s t u fit empty row p (run.HeapFull at len) e =
    inl (unplaced T us cap s t at len fit empty (subst (λ x. ArePlaced (Err x) T.ins us s t) e p) row)
unfit_so T us cap steps s t u fit empty row p (run.Values vs) e = absurd e
unfit_so T us cap steps s t u fit empty row p (run.NoValue k) e = absurd e
unfit_so T us cap steps s t u fit empty row p (run.Stuck spot reason) e = absurd e
unfit_so T us cap steps s t u fit empty row p (run.Unowned spot block offset) e = absurd e
unfit_so T us cap steps s t u fit empty row p (run.OutOfSteps path) e = absurd e
unfit_so T us cap steps s t u fit empty row p (run.Depth path) e = absurd e

pub unfit_means : {E : Type 0} (T : Program) (us : List Value) (cap steps : ℕ) (s t : Kept) (u : Unplaced) → AllFit T.ins us → IsEmpty s cap → IsInRow 1 t.drawn t.walked → ArePlaced (Err u) T.ins us s t
    → (result : Result RunEnd E) → IfOk result (λ r. IsUnfit u r) → IfOk result (λ r. RunMeans T us cap steps r)
unfit_means T us cap steps s t u fit empty row p (Ok r) h = unfit_so T us cap steps s t u fit empty row p r h
unfit_means T us cap steps s t u fit empty row p (Err x) h = tt
