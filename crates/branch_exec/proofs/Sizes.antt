-- How the size of a stack changes by a step.
use Rattle.std.proofs.Common.{◌≡◌, ℕ, zero, suc, ◌+◌, ◌-◌, ◌<◌, ◌≤◌, ◌⊎◌, inl, inr, ⊎_elim, List, [], ◌∷◌, length, refl, sym, ap, ◌∙◌, subst, arith}
use Rattle.std.proofs.lemmas.List.{length-set}
use Rattle.std.specs.Prelude.{Option, Some, None, slice_index, slice_set}
use Rattle.target_code.specs.declared.tree.Proc.{Proc}
use Rattle.target_code.specs.declared.tree.Instr.{Instr, out-Instr, Instr-F}
use Rattle.target_code.specs.declared.tree.Instr.TheOpen as I
use Rattle.target_code.specs.declared.tree.Code.{Code}
use Rattle.target_meaning.specs.declared.stack.Frame.{Frame}
use Rattle.target_meaning.specs.declared.stack.Stack.{Stack}
use Rattle.target_meaning.specs.declared.stack.Stack.TheVariants as stack
use Rattle.target_meaning.specs.Leaf as leaf
use Rattle.target_meaning.specs.Piece.{Piece}
use Rattle.target_meaning.specs.Views.{callers_regs}
use Rattle.target_meaning.specs.Stacks.{caller_of, callers_of, frame_of, stack_of}
use Rattle.branch_exec.specs.Leaves.{PassesLimit, IsSized, Weighs, frames_of, registers_of, waiting_of, top_of, most_frames, most_registers}
use Rattle.branch_exec.specs.Legs.{Step}

length_put : (rs vs regs : List ℕ) → length (leaf.put_all rs vs regs) ≡ length regs
length_put [] vs regs = refl
length_put (r ∷ rs) [] regs = refl
length_put (r ∷ rs) (v ∷ vs) regs = length_put rs vs (slice_set regs r v) ∙ length-set regs r v

-- the frames that wait are the same, one more, or one less
abbrev pub Grew : leaf.Frame → List leaf.Caller → leaf.Stack → Type 0
Grew f cs (leaf.End vs) = Unit {0}
Grew f cs (leaf.Run g ds) =
    (ds ≡ cs)
    ⊎ (((c : leaf.Caller) × (ds ≡ c ∷ cs) × (length c.frame.regs ≡ length f.regs))
    ⊎ ((c : leaf.Caller) × (cs ≡ c ∷ ds) × (length g.regs ≡ length c.frame.regs)))

abbrev pub Same : List leaf.Caller → leaf.Stack → Type 0
Same cs (leaf.End vs) = ⊥
Same cs (leaf.Run g ds) = ds ≡ cs

-- a stack of one frame
abbrev pub IsOne : leaf.Stack → Type 0
IsOne (leaf.End vs) = ⊥
IsOne (leaf.Run g ds) = ds ≡ []

abbrev pub ActSizes : leaf.Frame → List leaf.Caller → leaf.Act → Type 0
ActSizes f cs (leaf.Go s) = Grew f cs s
ActSizes f cs (leaf.Read b i k) = (v : ℕ) → Same cs (k v)
ActSizes f cs (leaf.Write b i v s) = Same cs s
ActSizes f cs (leaf.Make n k) = (v : ℕ) → Same cs (k v)
ActSizes f cs (leaf.Cut b s) = Same cs s
ActSizes f cs (leaf.Split l r w) = IsOne l.stack × IsOne r.stack
ActSizes f cs leaf.Over = Unit {0}
ActSizes f cs (leaf.Bad r) = Unit {0}

by_number : (f : leaf.Frame) (cs : List leaf.Caller) (n : leaf.Number) (go : ℕ → leaf.Act) → ((v : ℕ) → ActSizes f cs (go v)) → ActSizes f cs (leaf.with_number n go)
by_number f cs (leaf.Is v) go h = h v
by_number f cs (leaf.No r) go h = tt

by_proc : (f : leaf.Frame) (cs : List leaf.Caller) (o : Option Proc) (go : Proc → leaf.Act) → ((p : Proc) → ActSizes f cs (go p)) → ActSizes f cs (leaf.with_proc o go)
by_proc f cs None go h = tt
by_proc f cs (Some p) go h = h p

instr_sizes : (T : List Proc) (line : ℕ) (items all : List leaf.Item) (regs : List ℕ) (proc : Proc) (cs : List leaf.Caller) (i : Instr-F Instr Code) → ActSizes (record { proc = proc; items = all; regs = regs }) cs (leaf.instr_act T line items regs proc cs i)
instr_sizes T line items all regs proc cs (I.Const to v) = inl refl
instr_sizes T line items all regs proc cs (I.Mov to from) = inl refl
instr_sizes T line items all regs proc cs (I.Calc to word l r) = by_number (record { proc = proc; items = all; regs = regs }) cs (leaf.calc_of word (slice_index regs l) (slice_index regs r)) (λ v. leaf.Go (leaf.going_on T line items regs proc cs (slice_set regs to v))) (λ v. inl refl)
instr_sizes T line items all regs proc cs (I.Load to b i) = λ v. refl
instr_sizes T line items all regs proc cs (I.Store b i v) = refl
instr_sizes T line items all regs proc cs (I.Alloc to n) = λ v. refl
instr_sizes T line items all regs proc cs (I.Free b) = refl
instr_sizes T line items all regs proc cs (I.If t c d) = inl refl
instr_sizes T line items all regs proc cs (I.While c t b) = inl refl
instr_sizes T line items all regs proc cs (I.Call to name args) =
    by_proc (record { proc = proc; items = all; regs = regs }) cs (leaf.find T name) (λ p. leaf.Go (leaf.Run (leaf.begin p (leaf.read_all regs args)) (record { frame = record { proc = proc; items = items; regs = regs }; to = to } ∷ cs))) (λ p. inr (inl (record { frame = record { proc = proc; items = items; regs = regs }; to = to }, refl, refl)))
instr_sizes T line items all regs proc cs (I.Par l r) =
    by_proc (record { proc = proc; items = all; regs = regs }) cs (leaf.find T l.proc)
    (λ p. leaf.with_proc (leaf.find T r.proc) (λ q. leaf.Split (leaf.child_of l regs p) (leaf.child_of r regs q) (record { frame = record { proc = proc; items = items; regs = regs }; callers = cs; left = l.to; right = r.to })))
    (λ p. by_proc (record { proc = proc; items = all; regs = regs }) cs (leaf.find T r.proc)
    (λ q. leaf.Split (leaf.child_of l regs p) (leaf.child_of r regs q) (record { frame = record { proc = proc; items = items; regs = regs }; callers = cs; left = l.to; right = r.to }))
    (λ q. (refl, refl)))

return_sizes : (f : leaf.Frame) (vs : List ℕ) (cs : List leaf.Caller) → ActSizes f cs (leaf.return_act vs cs)
return_sizes f vs [] = tt
return_sizes f vs (c ∷ cs) = inr (inr (c, refl, length_put c.to vs c.frame.regs))

pub act_sizes : (T : List Proc) (f : leaf.Frame) (cs : List leaf.Caller) → ActSizes f cs (leaf.act T (leaf.Run f cs))
act_sizes T f cs = go f.items f.items
  where
    go : (items all : List leaf.Item) → ActSizes (record { proc = f.proc; items = all; regs = f.regs }) cs (leaf.items_act T items f.regs f.proc cs)
    go [] all = return_sizes (record { proc = f.proc; items = all; regs = f.regs }) (leaf.read_all f.regs f.proc.ret) cs
    go (leaf.Do line i ∷ is) all = instr_sizes T line is all f.regs f.proc cs (out-Instr i)
    go (leaf.Test line c t b ∷ is) all = inl refl

same_grew : (f : leaf.Frame) (cs : List leaf.Caller) (s u : leaf.Stack) → u ≡ s → Same cs s → Grew f cs u
same_grew f cs (leaf.Run g ds) u e h = subst (Grew f cs) (sym e) (inl h)
same_grew f cs (leaf.End vs) u e h = absurd h

-- a step that is made
pub step_grew : (f : leaf.Frame) (cs : List leaf.Caller) (a : leaf.Act) (p q : Piece) (xs : List (ℕ × ℕ)) (u : leaf.Stack) → ActSizes f cs a → Step a p xs q u → Grew f cs u
step_grew f cs (leaf.Go s) p q xs u z h = subst (Grew f cs) (sym h.2) z
step_grew f cs (leaf.Read b i k) p q xs u z h = same_grew f cs (k h.0) u h.4 (z h.0)
step_grew f cs (leaf.Write b i v s) p q xs u z h = same_grew f cs s u h.3 z
step_grew f cs (leaf.Make n k) p q xs u z h = same_grew f cs (k h.0) u h.3 (z h.0)
step_grew f cs (leaf.Cut b s) p q xs u z h = same_grew f cs s u h.3 z
step_grew f cs (leaf.Split l r w) p q xs u z h = absurd h
step_grew f cs leaf.Over p q xs u z h = absurd h
step_grew f cs (leaf.Bad r) p q xs u z h = absurd h

same_frames : (f : leaf.Frame) (cs : List leaf.Caller) (s u : leaf.Stack) → u ≡ s → Same cs s → frames_of (leaf.Run f cs) < frames_of u → ⊥
same_frames f cs (leaf.Run g ds) u e h lt = let i : frames_of u ≡ suc (length cs) = ap frames_of e ∙ ap (λ z. suc (length z)) h in omega arith
same_frames f cs (leaf.End vs) u e h lt = absurd h

-- a step to more frames is one on registers and frames alone
pub step_calls : (f : leaf.Frame) (cs : List leaf.Caller) (a : leaf.Act) (p q : Piece) (xs : List (ℕ × ℕ)) (u : leaf.Stack) → ActSizes f cs a → Step a p xs q u → frames_of (leaf.Run f cs) < frames_of u → (a ≡ leaf.Go u) × (xs ≡ []) × (q ≡ p)
step_calls f cs (leaf.Go s) p q xs u z h lt = (ap leaf.Go (sym h.2), h.0, h.1)
step_calls f cs (leaf.Read b i k) p q xs u z h lt = absurd (same_frames f cs (k h.0) u h.4 (z h.0) lt)
step_calls f cs (leaf.Write b i v s) p q xs u z h lt = absurd (same_frames f cs s u h.3 z lt)
step_calls f cs (leaf.Make n k) p q xs u z h lt = absurd (same_frames f cs (k h.0) u h.3 (z h.0) lt)
step_calls f cs (leaf.Cut b s) p q xs u z h lt = absurd (same_frames f cs s u h.3 z lt)
step_calls f cs (leaf.Split l r w) p q xs u z h lt = absurd h
step_calls f cs leaf.Over p q xs u z h lt = absurd h
step_calls f cs (leaf.Bad r) p q xs u z h lt = absurd h

-- the frames that wait
pub callers_length : (T : List Proc) (fs : List Frame) (cs : List leaf.Caller) → length (callers_of T fs cs) ≡ length fs + length cs
callers_length T [] cs = let e : length cs ≡ 0 + length cs = omega arith in e
callers_length T (f ∷ fs) cs = let e = callers_length T fs (caller_of T f ∷ cs) in omega arith

pub callers_none : (T : List Proc) (fs : List Frame) → callers_of T fs [] ≡ [] → fs ≡ []
callers_none T [] e = refl
callers_none T (f ∷ fs) e = let a = callers_length T (f ∷ fs) [] in let b : length (callers_of T (f ∷ fs) []) ≡ 0 = ap length e in absurd (omega arith)

-- the size after a step that passes no limit
pub weighed : (T : List Proc) (v u : Stack) (waiting w below held : ℕ) (a : leaf.Act) (p q : Piece) (xs : List (ℕ × ℕ)) → a ≡ leaf.act T (stack_of T v) → Step a p xs q (stack_of T u) → IsSized T v waiting → below ≡ waiting_of v → held ≡ top_of v → Weighs (Some w) u below held waiting → IsSized T u w × (PassesLimit (stack_of T v) (stack_of T u) → ⊥)
weighed T (stack.End vs) u waiting w below held a p q xs e h z eb eh g = absurd (subst (λ y. Step y p xs q (stack_of T u)) e h)
weighed T (stack.Run fs) (stack.End ws) waiting w below held a p q xs e h z eb eh g = (tt, λ l. let c = l.calls in omega arith)
weighed T (stack.Run fs) (stack.Run gs) waiting w below held a p q xs e h z eb eh g =
    let cs = callers_of T fs.below.items [] in
    let ds = callers_of T gs.below.items [] in
    let n = callers_length T fs.below.items [] in
    let m = callers_length T gs.below.items [] in
    let z0 = z.0 in let z1 = z.1 in
    ⊎_elim
    (λ (x : ds ≡ cs).
    let k : length ds ≡ length cs = ap length x in
    let r : callers_regs ds ≡ callers_regs cs = ap callers_regs x in
    let y = g.same (omega arith) in
    ((omega arith, omega arith), λ l. let c = l.calls in omega arith))
    (⊎_elim
    (λ x.
    let k : length ds ≡ suc (length cs) = ap length x.1 in
    let r : callers_regs ds ≡ length x.0.frame.regs + callers_regs cs = ap callers_regs x.1 in
    let x2 = x.2 in
    let y = g.call (omega arith) in
    let y0 = y.0 in let y1 = y.1 in let y2 = y.2 in
    ((omega arith, omega arith), λ l. ⊎_elim (λ b. omega arith) (λ b. omega arith) l.deep))
    (λ x.
    let k : length cs ≡ suc (length ds) = ap length x.1 in
    let r : callers_regs cs ≡ length x.0.frame.regs + callers_regs ds = ap callers_regs x.1 in
    let x2 = x.2 in
    let y = g.back (omega arith) in
    ((omega arith, omega arith), λ l. let c = l.calls in omega arith)))
    (step_grew (frame_of T fs.top) cs a p q xs (stack_of T (stack.Run gs)) (subst (ActSizes (frame_of T fs.top) cs) (sym e) (act_sizes T (frame_of T fs.top) cs)) h)

-- a call that passes a limit
pub weighed_none : (T : List Proc) (v u : Stack) (waiting below held : ℕ) (a : leaf.Act) (p q : Piece) (xs : List (ℕ × ℕ)) → a ≡ leaf.act T (stack_of T v) → Step a p xs q (stack_of T u) → IsSized T v waiting → below ≡ waiting_of v → held ≡ top_of v → Weighs None u below held waiting → (a ≡ leaf.Go (stack_of T u)) × (xs ≡ []) × (q ≡ p) × PassesLimit (stack_of T v) (stack_of T u)
weighed_none T (stack.End vs) u waiting below held a p q xs e h z eb eh g = absurd (subst (λ y. Step y p xs q (stack_of T u)) e h)
weighed_none T (stack.Run fs) (stack.End ws) waiting below held a p q xs e h z eb eh g = absurd g
weighed_none T (stack.Run fs) (stack.Run gs) waiting below held a p q xs e h z eb eh g =
    let cs = callers_of T fs.below.items [] in
    let ds = callers_of T gs.below.items [] in
    let n = callers_length T fs.below.items [] in
    let m = callers_length T gs.below.items [] in
    let z0 = z.0 in let g0 = g.0 in
    let sizes = subst (ActSizes (frame_of T fs.top) cs) (sym e) (act_sizes T (frame_of T fs.top) cs) in
    let lt : suc (length cs) < suc (length ds) = omega arith in
    let c = step_calls (frame_of T fs.top) cs a p q xs (stack_of T (stack.Run gs)) sizes h lt in (
      c.0,
      c.1,
      c.2,
      record {
        calls = lt;
        deep = ⊎_elim (λ b. inl (omega arith)) (λ b. inr (
            ⊎_elim
            (λ (x : ds ≡ cs). let k : length ds ≡ length cs = ap length x in absurd (omega arith))
            (⊎_elim
            (λ x.
            let r : callers_regs ds ≡ length x.0.frame.regs + callers_regs cs = ap callers_regs x.1 in
            let x2 = x.2 in omega arith)
            (λ x. let k : length cs ≡ suc (length ds) = ap length x.1 in absurd (omega arith)))
            (step_grew (frame_of T fs.top) cs a p q xs (stack_of T (stack.Run gs)) sizes h))) g.1;
      },
    )
