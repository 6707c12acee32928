-- Steps of a leaf's innermost frame.
use Rattle.std.proofs.Common.{◌≡◌, ℕ, suc, ◌+◌, ◌-◌, ◌<◌, ◌≤◌, List, [], refl, sym, ap, ◌∙◌, subst, arith}
use Rattle.std.specs.Prelude.{Some, slice_get, true, false}
use Rattle.target_code.specs.declared.tree.Instr.{Instr}
use Rattle.target_code.specs.declared.tree.Proc.{Proc}
use Rattle.target_meaning.specs.Leaf as leaf
use Rattle.target_meaning.specs.Place.{items_at, list_at}
use Rattle.target_meaning.specs.Settled.{AtTest}
use Rattle.target_meaning.specs.Stacks.{callers_of, code_at, frame_of, proc_at}
use Rattle.target_meaning.specs.Turns.{IsAt, run_of, with_top}
use Rattle.target_meaning.specs.declared.place.Outer.{Outer}
use Rattle.target_meaning.specs.declared.stack.Frame.{Frame}
use Rattle.target_meaning.specs.declared.stack.Frames.{Frames}
use Rattle.target_meaning.specs.declared.stack.Stack.{Stack}
use Rattle.target_meaning.specs.declared.stack.Stack.TheVariants as stack
use Rattle.target_meaning.proofs.Returned.{at_instr}
use Rattle.branch_exec.specs.Stores.{Kept}
use Rattle.branch_exec.specs.Legs.{GoesOn, Keeps, Step, TurnIs}
use Rattle.branch_exec.specs.Leaves.{PassesLimit}
use Rattle.branch_exec.specs.Straight.{FrameRan, Made, Makes, Rests}
use Rattle.branch_exec.specs.Went.{IsStop, KeepsOne, Ran}
use Rattle.branch_exec.specs.declared.run.Turn.{Turn}
use Rattle.branch_exec.specs.declared.run.Turn.TheVariants as turn
use Rattle.branch_exec.proofs.Took.{goes_on, one_step, ran_then, silent}

-- steps after steps
pub frame_then : (T : List Proc) (f g h : Frame) (s m t : Kept) (most made rest more : ℕ) → made + rest ≤ most → FrameRan T f s g m most made → FrameRan T g m h t rest more → FrameRan T f s h t most (made + more)
frame_then T f g h s m t most made rest more le x y =
    let x0 = x.few in let y0 = y.few in
    record {
      few = omega arith;
      ran = λ b d c fs lt.
          let e : (c + made) + more ≡ c + (made + more) = omega arith in
          subst (λ n. Ran T b d (stack.Run (with_top fs f)) s c (stack.Run (with_top fs h)) t n) e
          (ran_then T b d (stack.Run (with_top fs f)) (stack.Run (with_top fs g)) (stack.Run (with_top fs h)) s m t c (c + made) ((c + made) + more)
          (x.ran b d c fs lt) (y.ran b d (c + made) fs (omega arith)));
    }

-- the same place, and nothing done
pub frame_same : (T : List Proc) (f g : Frame) (s t : Kept) (most : ℕ) → frame_of T g ≡ frame_of T f → GoesOn s t [] s.top → FrameRan T f s g t most 0
frame_same T f g s t most e on = record {
  few = omega arith;
  ran = λ b d c fs lt.
      let n : c ≡ c + 0 = omega arith in
      subst (λ n. Ran T b d (stack.Run (with_top fs f)) s c (stack.Run (with_top fs g)) t n) n
      (silent T b d (stack.Run (with_top fs f)) (stack.Run (with_top fs g)) s t c (ap (λ x. leaf.Run x (callers_of T fs.below.items [])) e) on);
}

no_limit : (a b : leaf.Frame) (cs : List leaf.Caller) → PassesLimit (leaf.Run a cs) (leaf.Run b cs) → ⊥
no_limit a b cs h = let c = h.calls in omega arith

-- one step
frame_step : (T : List Proc) (f g : Frame) (s t : Kept) (most : ℕ) → 1 ≤ most → ((fs : Frames) → TurnIs T turn.On (leaf.act T (run_of T (with_top fs f))) s t (stack.Run (with_top fs f)) (stack.Run (with_top fs g))) → FrameRan T f s g t most 1
frame_step T f g s t most le h = record {
  few = le;
  ran = λ b d c fs lt.
      let n : suc c ≡ c + 1 = omega arith in
      subst (λ n. Ran T b d (stack.Run (with_top fs f)) s c (stack.Run (with_top fs g)) t n) n
      (one_step T b d (stack.Run (with_top fs f)) (stack.Run (with_top fs g)) s t c (omega arith) (no_limit (frame_of T f) (frame_of T g) (callers_of T fs.below.items [])) (h fs));
}

-- of more that may be made
pub frame_wide : (T : List Proc) (f g : Frame) (s t : Kept) (most few made : ℕ) → few ≤ most → FrameRan T f s g t few made → FrameRan T f s g t most made
frame_wide T f g s t most few made le x =
    let n = x.few in
    record { few = omega arith; ran = λ b d c fs lt. x.ran b d c fs (omega arith) }

-- the step of an instruction
pub frame_made : (T : List Proc) (f g : Frame) (s t : Kept) (most : ℕ) (i : Instr) (next : ℕ) → 1 ≤ most → IsAt T f i next → ((fs : Frames) → Made T fs i next f s g t) → FrameRan T f s g t most 1
frame_made T f g s t most i next le h m = frame_step T f g s t most le (λ fs.
    let x = m fs in
    ([], x.piece, subst (λ a. Step a s.top [] x.piece (run_of T (with_top fs g))) (sym (at_instr T (with_top fs f) i next h)) x.step, x.on))

-- the test of a loop
pub frame_tested : (T : List Proc) (f g : Frame) (s : Kept) (most : ℕ) → 1 ≤ most → ((cs : List leaf.Caller) → leaf.act T (leaf.Run (frame_of T f) cs) ≡ leaf.Go (leaf.Run (frame_of T g) cs)) → FrameRan T f s g s most 1
frame_tested T f g s most le h = frame_step T f g s s most le (λ fs.
    let cs = callers_of T fs.below.items [] in
    ([], s.top, subst (λ a. Step a s.top [] s.top (leaf.Run (frame_of T g) cs)) (sym (h cs)) (refl, refl, refl), goes_on s))

-- the same is left to do from another place
pub frame_placed : (T : List Proc) (f : Frame) (os : List Outer) (n : ℕ) (code : List Instr) (s : Kept) (most : ℕ) → code ≡ code_at T f.proc → items_at 1 code os n ≡ items_at 1 code f.outer f.at → FrameRan T f s (record { proc = f.proc; outer = os; at = n; regs = f.regs }) s most 0
frame_placed T f os n code s most e h =
    let k : items_at 1 (code_at T f.proc) os n ≡ items_at 1 (code_at T f.proc) f.outer f.at = subst (λ c. items_at 1 c os n ≡ items_at 1 c f.outer f.at) e h in
    frame_same T f (record { proc = f.proc; outer = os; at = n; regs = f.regs }) s s most (ap (λ l. record { proc = proc_at T f.proc; items = l; regs = f.regs }) k) (goes_on s)

-- the steps of what stands at a settled place
pub on_done : (T : List Proc) (f g : Frame) (os : List Outer) (n most made : ℕ) (code : List Instr) (s t : Kept) → code ≡ code_at T f.proc → items_at 1 code os n ≡ items_at 1 code f.outer f.at → FrameRan T (record { proc = f.proc; outer = os; at = n; regs = f.regs }) s g t most made → FrameRan T f s g t most made
on_done T f g os n most made code s t e h x =
    let z : 0 + made ≡ made = omega arith in
    subst (λ k. FrameRan T f s g t most k) z
    (frame_then T f (record { proc = f.proc; outer = os; at = n; regs = f.regs }) g s s t most 0 most made (omega arith) (frame_placed T f os n code s most e h) x)

-- the test of a loop at a settled place
pub on_tested : (T : List Proc) (f g : Frame) (os : List Outer) (n test next : ℕ) (code : List Instr) (s : Kept) → code ≡ code_at T f.proc → items_at 1 code os n ≡ items_at 1 code f.outer f.at → AtTest code test next os n → ((procs : List Proc) (cs : List leaf.Caller) → AtTest (code_at procs f.proc) test next os n → leaf.act procs (leaf.Run (frame_of procs (record { proc = f.proc; outer = os; at = n; regs = f.regs })) cs) ≡ leaf.Go (leaf.Run (frame_of procs g) cs)) → FrameRan T f s g s 1 1
on_tested T f g os n test next code s e h there step =
    let m : Frame = record { proc = f.proc; outer = os; at = n; regs = f.regs } in
    let x : AtTest (code_at T f.proc) test next os n = subst (λ c. AtTest c test next os n) e there in
    frame_then T f m g s s s 1 0 1 1 (omega arith) (frame_placed T f os n code s 1 e h)
    (frame_tested T m g s 1 (omega arith) (λ cs. step T cs x))

-- a turn that is no step
pub stops_not_on : (r : Turn) → (r ≡ turn.On → ⊥) → IsStop r
stops_not_on turn.On n = absurd (n refl)
stops_not_on turn.Over n = tt
stops_not_on (turn.Stuck r) n = tt
stops_not_on (turn.Unowned b o) n = tt
stops_not_on (turn.Full at len) n = tt
stops_not_on (turn.Fork l r) n = tt
stops_not_on turn.Deep n = tt
stops_not_on turn.Memory n = tt

-- what such a turn keeps of the size
pub keeps_last : (T : List Proc) (r : Turn) (v u : Stack) (w : ℕ) → Keeps T r v u w → KeepsOne T (Some r) u w
keeps_last T turn.On v u w k = tt
keeps_last T turn.Over v u w k = tt
keeps_last T (turn.Stuck r) v u w k = tt
keeps_last T (turn.Unowned b o) v u w k = tt
keeps_last T (turn.Full at len) v u w k = tt
keeps_last T (turn.Fork l r) v u w k = k
keeps_last T turn.Deep v u w k = tt
keeps_last T turn.Memory v u w k = tt
