-- The laws that a proof about a program goes by: one for each kind of step, and those of `if`, `while` and `par`.
use Rattle.std.proofs.Common.{◌≡◌, ℕ, zero, suc, ◌+◌, ◌<◌, ◌≤◌, List, [], ◌∷◌, ◌++◌, length, refl, sym, ap, ◌∙◌, subst, arith, append_assoc, append-nil, ⊎_elim, ◌⊎◌, lit<, ◌^◌}
use Rattle.std.proofs.lemmas.Option.{slice_get_within}
use Rattle.std.specs.Prelude.{Some, None, slice_set, slice_index, nat_lt}
use Rattle.target_code.specs.declared.tree.Instr.{Instr, out-Instr}
use Rattle.target_code.specs.declared.tree.Instr.TheOpen as Open
use Rattle.target_code.specs.declared.tree.Proc.{Proc}
use Rattle.target_code.specs.declared.tree.Branch.{Branch}
use Rattle.target_meaning.specs.declared.answer.Reason.TheVariants.{Index}
use Rattle.target_meaning.specs.Leaf.{Item, Do, Test, Caller, Stack, Run, Wait, Child, Act, Go, Read, Write, Make, Cut, Split, do_all, at_zero, read_all, put_all, begin, child_of, find, with_proc, instr_act, act}
use Rattle.target_meaning.specs.Lines.{second_line}
use Rattle.target_meaning.specs.Machine.{Heap, Room, Cell, Never, Live, Freed, Tree, Leaf, Moved, Stuck, Full, NameUsed, is_new, with_block, with_cell, read_cell, write_cell, cut_cell, perform, depth}
use Rattle.target_meaning.specs.Piece.{Nil, Some_of, Piece, plus, at_place, Fits, Holds}
use Rattle.target_meaning.specs.Held.{stored, with_new, without, holdings, IsHeld, AllWhole, Fine}
use Rattle.target_meaning.specs.Piece.{IsWhole}
use Rattle.target_meaning.specs.Runs.{OnMoved}
use Rattle.triple_logic.specs.Safe.{Halt, at_end, at_code_end, Steps, AtRoot, Safe}
use Rattle.target_meaning.proofs.Lists.{get_index}
use Rattle.triple_logic.proofs.Par.{none_safe, fewer, After, fork_safe}
use Rattle.target_meaning.proofs.Moved.{moved_if}
use Rattle.target_meaning.proofs.Keeps.{none_here, new_is}
use Rattle.triple_logic.proofs.Sequence.{seq_safe}
use Rattle.triple_logic.proofs.Bind.{Under}
use Rattle.triple_logic.proofs.Call.{on_call, call_wait, call_safe}

module _ (T : List Proc) (halt : Halt) (Q : List ℕ → Piece → Type 0) where
  -- fewer steps, at any distance
  pub fewer_by : (n m f : ℕ) (t : Tree Piece) → m ≤ n → Safe T halt Q n f t → Safe T halt Q m f t
  fewer_by zero m f t le s = subst (λ y. Safe T halt Q y f t) (let e : 0 ≡ m = omega arith in e) s
  fewer_by (suc n) m f t le s =
      ⊎_elim
      (λ below. fewer_by n m f t below (fewer T halt Q n f t s))
      (λ same. subst (λ y. Safe T halt Q y f t) same s)
      (let o : (m ≤ n) ⊎ (suc n ≡ m) = grind arith in o)

  -- a step of a leaf
  pub leaf_safe : (n f : ℕ) (p : Piece) (s : Stack) (a : Act) → halt s ≡ None → act T s ≡ a → ((h : Heap) → Holds p h → Fine f a p × ((room : Room) (x : ℕ) → OnMoved (perform holdings room p a h x) (λ u k. f + depth u ≤ 64 → Safe T halt Q n f u))) → Safe T halt Q (suc n) f (Leaf p s)
  unfolding Safe
  leaf_safe n f p s a o e step = λ h hs.
      subst (λ y. AtRoot y (λ vs. Q vs p) (Fine f (act T s) p × Steps T f (Leaf p s) h (Safe T halt Q n f))) (sym o)
      (let st = step h hs in (
        subst (λ y. Fine f y p) (sym e) st.0,
        leaf_steps h (λ room x. subst (λ y. OnMoved (perform holdings room p y h x) (λ u k. f + depth u ≤ 64 → Safe T halt Q n f u)) (sym e) (st.1 room x)),
      ))
    where
      leaf_steps : (h : Heap) → ((room : Room) (x : ℕ) → OnMoved (perform holdings room p (act T s) h x) (λ u k. f + depth u ≤ 64 → Safe T halt Q n f u)) → Steps T f (Leaf p s) h (Safe T halt Q n f)
      leaf_steps h st room [] x = st room x
      leaf_steps h st room (d ∷ ds) x = tt

  pub go_safe : (n f : ℕ) (p : Piece) (s u : Stack) → halt s ≡ None → act T s ≡ Go u → Safe T halt Q n f (Leaf p u) → Safe T halt Q (suc n) f (Leaf p s)
  go_safe n f p s u o e su = leaf_safe n f p s (Go u) o e (λ h hs. (tt, λ room x d. su))

  -- a root that is over
  pub over_safe : (n f : ℕ) (p : Piece) (s : Stack) (vs : List ℕ) → halt s ≡ Some vs → Q vs p → Safe T halt Q n f (Leaf p s)
  unfolding Safe
  over_safe zero f p s vs o met = tt
  over_safe (suc n) f p s vs o met = λ h hs. subst (λ y. AtRoot y (λ vs. Q vs p) (Fine f (act T s) p × Steps T f (Leaf p s) h (Safe T halt Q n f))) (sym o) met

  read_at : (n f : ℕ) (p : Piece) (k : ℕ → Stack) (h : Heap) (c : Cell) (i v : ℕ) → at_place c (suc i) ≡ Some v → Safe T halt Q n f (Leaf p (k v)) → OnMoved (read_cell holdings c i p k h) (λ u g. f + depth u ≤ 64 → Safe T halt Q n f u)
  read_at n f p k h Never i v e s = tt
  read_at n f p k h Freed i v e s = tt
  read_at n f p k h (Live ws) i v e s =
      moved_if (nat_lt i (length ws)) (Moved (Leaf p (k (slice_index ws i))) h) (Stuck Index) (λ u g. f + depth u ≤ 64 → Safe T halt Q n f u)
      (λ lt d. subst (λ y. Safe T halt Q n f (Leaf p (k y))) (sym (get_index ws i v e)) s) (λ lt. tt)

  pub read_safe : (n f : ℕ) (p : Piece) (s : Stack) (b i v l : ℕ) (k : ℕ → Stack) → halt s ≡ None → act T s ≡ Read b i k → p b (suc i) ≡ Some_of v l → Safe T halt Q n f (Leaf p (k v)) → Safe T halt Q (suc n) f (Leaf p s)
  read_safe n f p s b i v l k o e at su =
      leaf_safe n f p s (Read b i k) o e
      (λ h hs. (subst IsHeld (sym at) tt, λ room x. read_at n f p k h (h.cells b) i v (let y : Fits (Some_of v l) (at_place (h.cells b) (suc i)) = subst (λ y. Fits y (at_place (h.cells b) (suc i))) at (hs.places b (suc i)) in y.0) su))

  write_at : (n f : ℕ) (p : Piece) (u : Stack) (h : Heap) (c : Cell) (b i v : ℕ) → Safe T halt Q n f (Leaf p u) → OnMoved (write_cell holdings c b i v p u h) (λ u g. f + depth u ≤ 64 → Safe T halt Q n f u)
  write_at n f p u h Never b i v s = tt
  write_at n f p u h Freed b i v s = tt
  write_at n f p u h (Live ws) b i v s =
      moved_if (nat_lt i (length ws)) (Moved (Leaf p u) (with_cell h b (Live (slice_set ws i v)))) (Stuck Index) (λ u g. f + depth u ≤ 64 → Safe T halt Q n f u) (λ lt d. s) (λ lt. tt)

  pub write_safe : (n f : ℕ) (p : Piece) (s : Stack) (b i v : ℕ) (u : Stack) → halt s ≡ None → act T s ≡ Write b i v u → IsWhole (p b (suc i)) → Safe T halt Q n f (Leaf (stored p b i v) u) → Safe T halt Q (suc n) f (Leaf p s)
  write_safe n f p s b i v u o e w su = leaf_safe n f p s (Write b i v u) o e (λ h hs. (w, λ room x. write_at n f _ u h (h.cells b) b i v su))

  -- a new block, of a name of which the leaf held nothing
  pub make_safe : (n f : ℕ) (p : Piece) (s : Stack) (len : ℕ) (k : ℕ → Stack) → halt s ≡ None → act T s ≡ Make len k → ((x : ℕ) → ((j : ℕ) → p x j ≡ Nil) → Safe T halt Q n f (Leaf (with_new p x len) (k x))) → Safe T halt Q (suc n) f (Leaf p s)
  make_safe n f p s len k o e su =
      leaf_safe n f p s (Make len k) o e
      (λ h hs. (
        tt,
        λ room x.
            moved_if (room h len) _ Full (λ u g. f + depth u ≤ 64 → Safe T halt Q n f u)
            (λ c. moved_if (is_new h x) (Moved (Leaf (with_new p x len) (k x)) (with_block h x len)) NameUsed (λ u g. f + depth u ≤ 64 → Safe T halt Q n f u)
            (λ d g. su x (λ j. none_here (p x j) (subst (λ y. Fits (p x j) (at_place y j)) (new_is h x d) (hs.places x j)))) (λ d. tt))
            (λ c. tt),
      ))

  cut_at : (n f : ℕ) (p : Piece) (u : Stack) (h : Heap) (c : Cell) (b : ℕ) → Safe T halt Q n f (Leaf p u) → OnMoved (cut_cell holdings c b p u h) (λ u g. f + depth u ≤ 64 → Safe T halt Q n f u)
  cut_at n f p u h Never b s = tt
  cut_at n f p u h Freed b s = tt
  cut_at n f p u h (Live ws) b s = λ d. s

  pub cut_safe : (n f : ℕ) (p : Piece) (s : Stack) (b : ℕ) (u : Stack) → halt s ≡ None → act T s ≡ Cut b u → AllWhole (p b 0) (p b) → Safe T halt Q n f (Leaf (without p b) u) → Safe T halt Q (suc n) f (Leaf p s)
  cut_safe n f p s b u o e w su = leaf_safe n f p s (Cut b u) o e (λ h hs. (w, λ room x. cut_at n f _ u h (h.cells b) b su))

  -- a fork: what the leaf keeps, and what its hands and lends give to the two
  pub par_safe : (Q1 Q2 : List ℕ → Piece → Type 0) (n f : ℕ) (p : Piece) (s : Stack) (l r : Child) (w : Wait) → halt s ≡ None → act T s ≡ Split l r w → Fine f (Split l r w) p → (f < 64 → Safe T at_end Q1 n (suc f) (Leaf (holdings.left p l r) l.stack)) → (f < 64 → Safe T at_end Q2 n (suc f) (Leaf (holdings.right p l r) r.stack)) → After T halt Q1 Q2 Q (holdings.kept p l r) w n f → Safe T halt Q (suc n) f (Leaf p s)
  par_safe Q1 Q2 n f p s l r w o e fine sl sr after =
      leaf_safe n f p s (Split l r w) o e
      (λ h hs. (fine, λ room x d. fork_safe T halt Q1 Q2 Q (holdings.kept p l r) w n f _ _ (sl (omega (arith, d))) (sr (omega (arith, d))) after))

-- what holds where some heap has what is held may be assumed
module _ (T : List Proc) (halt : Halt) (Q : List ℕ → Piece → Type 0) where
  pub assume_heap : (n f : ℕ) (p : Piece) (s : Stack) → ((h : Heap) → Holds p h → Safe T halt Q n f (Leaf p s)) → Safe T halt Q n f (Leaf p s)
  unfolding Safe
  assume_heap zero f p s w = tt
  assume_heap (suc n) f p s w = λ h hs. w h hs h hs

-- a place that is held is a word's distance from the block's begin
pub place_bound : (p : Piece) (h : Heap) (b j v k : ℕ) → Holds p h → p b j ≡ Some_of v k → j < 2 ^ 64
place_bound p h b j v k hs e = bound (h.cells b) refl (subst (λ y. Fits y (at_place (h.cells b) j)) e (hs.places b j)).0
  where
    bound : (c : Cell) → h.cells b ≡ c → at_place c j ≡ Some v → j < 2 ^ 64
    bound Never e a = cc a
    bound Freed e a = cc a
    bound (Live ws) e a = in_block j a (hs.heap.short b ws e)
      where
        in_block : (j : ℕ) → at_place (Live ws) j ≡ Some v → length ws < h.cap → j < 2 ^ 64
        in_block zero a l = lit< tt
        in_block (suc i) a l = omega (arith, l, hs.heap.word, slice_get_within ws i v a)

-- the same where the number of steps stays: what straight code is proved by
module _ (T : List Proc) (halt : Halt) (Q : List ℕ → Piece → Type 0) where
  pub go : (n f : ℕ) (p : Piece) (s u : Stack) → halt s ≡ None → act T s ≡ Go u → Safe T halt Q n f (Leaf p u) → Safe T halt Q n f (Leaf p s)
  go zero f p s u o e su = none_safe T halt Q f (Leaf p s)
  go (suc n) f p s u o e su = go_safe T halt Q n f p s u o e (fewer T halt Q n f (Leaf p u) su)

  read_now : (n f : ℕ) (p : Piece) (s : Stack) (b i v l : ℕ) (k : ℕ → Stack) → halt s ≡ None → act T s ≡ Read b i k → p b (suc i) ≡ Some_of v l → Safe T halt Q n f (Leaf p (k v)) → Safe T halt Q n f (Leaf p s)
  read_now zero f p s b i v l k o e at su = none_safe T halt Q f (Leaf p s)
  read_now (suc n) f p s b i v l k o e at su = read_safe T halt Q n f p s b i v l k o e at (fewer T halt Q n f (Leaf p (k v)) su)

  -- the code's index m is the place i
  pub read : (n f : ℕ) (p : Piece) (s : Stack) (b m : ℕ) (k : ℕ → Stack) (i v l : ℕ) → halt s ≡ None → act T s ≡ Read b m k → m ≡ i → p b (suc i) ≡ Some_of v l → Safe T halt Q n f (Leaf p (k v)) → Safe T halt Q n f (Leaf p s)
  read n f p s b m k i v l o e d at su = read_now n f p s b i v l k o (e ∙ ap (λ y. Read b y k) d) at su

  write_now : (n f : ℕ) (p : Piece) (s : Stack) (b i v : ℕ) (u : Stack) → halt s ≡ None → act T s ≡ Write b i v u → IsWhole (p b (suc i)) → Safe T halt Q n f (Leaf (stored p b i v) u) → Safe T halt Q n f (Leaf p s)
  write_now zero f p s b i v u o e w su = none_safe T halt Q f (Leaf p s)
  write_now (suc n) f p s b i v u o e w su = write_safe T halt Q n f p s b i v u o e w (fewer T halt Q n f (Leaf (stored p b i v) u) su)

  pub write : (n f : ℕ) (p : Piece) (s : Stack) (b m v : ℕ) (u : Stack) (i : ℕ) → halt s ≡ None → act T s ≡ Write b m v u → m ≡ i → IsWhole (p b (suc i)) → Safe T halt Q n f (Leaf (stored p b i v) u) → Safe T halt Q n f (Leaf p s)
  write n f p s b m v u i o e d w su = write_now n f p s b i v u o (e ∙ ap (λ y. Write b y v u) d) w su

-- a call: the procedure by itself, and what follows it
module _ (T : List Proc) (halt : Halt) (U : (c : Caller) (cs : List Caller) → Under T at_end halt (on_call c cs) (call_wait c cs)) (Q1 Q : List ℕ → Piece → Type 0) where
  -- the call takes a step, so the procedure need be safe for one step less than the call
  pub call_next : (n f : ℕ) (p : Piece) (line : ℕ) (i : Instr) (items : List Item) (regs : List ℕ) (proc : Proc) (cs : List Caller) (to : List ℕ) (name : List ℕ) (args : List ℕ) (g : Proc) → halt (Run (record { proc = proc; items = Do line i ∷ items; regs = regs }) cs) ≡ None → out-Instr i ≡ Open.Call to name args → find T name ≡ Some g → Safe T at_end Q1 n f (Leaf p (Run (begin g (read_all regs args)) [])) → ((m : ℕ) → m ≤ n → (vs : List ℕ) (q : Piece) → Q1 vs q → Safe T halt Q m f (Leaf q (Run (record { proc = proc; items = items; regs = put_all to vs regs }) cs))) → Safe T halt Q (suc n) f (Leaf p (Run (record { proc = proc; items = Do line i ∷ items; regs = regs }) cs))
  call_next n f p line i items regs proc cs to name args g o e found s next =
      let c : Caller = record { frame = record { proc = proc; items = items; regs = regs }; to = to } in
      go_safe T halt Q n f p (Run (record { proc = proc; items = Do line i ∷ items; regs = regs }) cs) (Run (begin g (read_all regs args)) (c ∷ cs)) o
      (ap (instr_act T line items regs proc cs) e ∙ ap (λ o. with_proc o (λ p. Go (Run (begin p (read_all regs args)) (c ∷ cs)))) found)
      (call_safe c cs T halt (U c cs) Q1 Q n f p (begin g (read_all regs args)) s next)

  pub call_by : (n f : ℕ) (p : Piece) (line : ℕ) (i : Instr) (items : List Item) (regs : List ℕ) (proc : Proc) (cs : List Caller) (to : List ℕ) (name : List ℕ) (args : List ℕ) (g : Proc) → halt (Run (record { proc = proc; items = Do line i ∷ items; regs = regs }) cs) ≡ None → out-Instr i ≡ Open.Call to name args → find T name ≡ Some g → Safe T at_end Q1 n f (Leaf p (Run (begin g (read_all regs args)) [])) → ((m : ℕ) → m ≤ n → (vs : List ℕ) (q : Piece) → Q1 vs q → Safe T halt Q m f (Leaf q (Run (record { proc = proc; items = items; regs = put_all to vs regs }) cs))) → Safe T halt Q n f (Leaf p (Run (record { proc = proc; items = Do line i ∷ items; regs = regs }) cs))
  call_by n f p line i items regs proc cs to name args g o e found s next =
      let c : Caller = record { frame = record { proc = proc; items = items; regs = regs }; to = to } in
      go T halt Q n f p (Run (record { proc = proc; items = Do line i ∷ items; regs = regs }) cs) (Run (begin g (read_all regs args)) (c ∷ cs)) o
      (ap (instr_act T line items regs proc cs) e ∙ ap (λ o. with_proc o (λ p. Go (Run (begin p (read_all regs args)) (c ∷ cs)))) found)
      (call_safe c cs T halt (U c cs) Q1 Q n f p (begin g (read_all regs args)) s next)

-- a fork, in the form that a translation uses: what is kept and what the two are given, by name
module _ (T : List Proc) (halt : Halt) (Q1 Q2 Q : List ℕ → Piece → Type 0) (items : List Item) (regs : List ℕ) (proc : Proc) (cs : List Caller) (l r : Branch) (g1 g2 : Proc) where
  abbrev pub par_wait : Wait
  par_wait = record { frame = record { proc = proc; items = items; regs = regs }; callers = cs; left = l.to; right = r.to }

  abbrev pub par_act : Act
  par_act = Split (child_of l regs g1) (child_of r regs g2) par_wait

  pub par_by : (n f : ℕ) (p k a b : Piece) (line : ℕ) (i : Instr) → halt (Run (record { proc = proc; items = Do line i ∷ items; regs = regs }) cs) ≡ None → out-Instr i ≡ Open.Par l r → find T l.proc ≡ Some g1 → find T r.proc ≡ Some g2 → holdings.kept p (child_of l regs g1) (child_of r regs g2) ≡ k → holdings.left p (child_of l regs g1) (child_of r regs g2) ≡ a → holdings.right p (child_of l regs g1) (child_of r regs g2) ≡ b → Fine f par_act p → Safe T at_end Q1 n (suc f) (Leaf a (Run (begin g1 (read_all regs l.args)) [])) → Safe T at_end Q2 n (suc f) (Leaf b (Run (begin g2 (read_all regs r.args)) [])) → ((m : ℕ) → m ≤ n → (xs ys : List ℕ) (c d : Piece) (h : Heap) → Holds (plus k (plus c d)) h → Q1 xs c → Q2 ys d → Safe T halt Q m f (Leaf (plus k (plus c d)) (Run (record { proc = proc; items = items; regs = put_all r.to ys (put_all l.to xs regs) }) cs))) → Safe T halt Q n f (Leaf p (Run (record { proc = proc; items = Do line i ∷ items; regs = regs }) cs))
  par_by zero f p k a b line i o e f1 f2 ek ea eb fine sl sr after = none_safe T halt Q f (Leaf p (Run (record { proc = proc; items = Do line i ∷ items; regs = regs }) cs))
  par_by (suc n) f p k a b line i o e f1 f2 ek ea eb fine sl sr after =
      par_safe T halt Q Q1 Q2 n f p (Run (record { proc = proc; items = Do line i ∷ items; regs = regs }) cs) (child_of l regs g1) (child_of r regs g2) par_wait o
      (ap (instr_act T line items regs proc cs) e ∙
      ap (λ o. with_proc o (λ u. with_proc (find T r.proc) (λ v. Split (child_of l regs u) (child_of r regs v) par_wait))) f1 ∙
      ap (λ o. with_proc o (λ v. Split (child_of l regs g1) (child_of r regs v) par_wait)) f2)
      fine
      (λ lt. subst (λ y. Safe T at_end Q1 n (suc f) (Leaf y (Run (begin g1 (read_all regs l.args)) []))) (sym ea) (fewer T at_end Q1 n (suc f) (Leaf a (Run (begin g1 (read_all regs l.args)) [])) sl))
      (λ lt. subst (λ y. Safe T at_end Q2 n (suc f) (Leaf y (Run (begin g2 (read_all regs r.args)) []))) (sym eb) (fewer T at_end Q2 n (suc f) (Leaf b (Run (begin g2 (read_all regs r.args)) [])) sr))
      (subst (λ y. After T halt Q1 Q2 Q y par_wait n f) (sym ek) (λ m le. after m (omega arith)))

abbrev pub at_code : Proc → List Item → List ℕ → Stack
at_code proc items regs = Run (record { proc = proc; items = items; regs = regs }) []

-- a stretch of code: from registers and a piece to what holds at its end, for at most n steps
abbrev pub Code_safe : List Proc → Proc → (List ℕ → Piece → Type 0) → ℕ → ℕ → List Item → List ℕ → Piece → Type 0
Code_safe T proc Q n f items regs p = Safe T at_code_end Q n f (Leaf p (Run (record { proc = proc; items = items; regs = regs }) []))

module _ (T : List Proc) (proc : Proc) (f line t : ℕ) (c b : List Instr) (I C Q : List ℕ → Piece → Type 0) where
  -- the test of a loop, where the loop is safe for fewer steps
  tested_at : (n v : ℕ) (vs : List ℕ) (q : Piece) → slice_index vs t ≡ v → C vs q → ((k : ℕ) → k ≤ n → (us : List ℕ) (r : Piece) → I us r → Code_safe T proc Q k f (do_all (suc line) c ++ Test line c t b ∷ []) us r) → ((k : ℕ) → k ≤ n → (us : List ℕ) (r : Piece) → C us r → (slice_index us t ≡ 0 → ⊥) → Code_safe T proc I k f (do_all (second_line line c) b) us r) → ((us : List ℕ) (r : Piece) → C us r → slice_index us t ≡ 0 → Q us r) → Code_safe T proc Q n f (at_zero v [] (do_all (second_line line c) b ++ do_all (suc line) c ++ Test line c t b ∷ [])) vs q
  tested_at n zero vs q e met again body out = over_safe T at_code_end Q n f q _ vs refl (out vs q met e)
  tested_at n (suc v) vs q e met again body out =
      subst (λ y. Code_safe T proc Q n f y vs q) (sym (append_assoc (do_all (second_line line c) b) (do_all (suc line) c) (Test line c t b ∷ [])))
      (seq_safe (do_all (suc line) c ++ Test line c t b ∷ []) proc T I Q n f q (do_all (second_line line c) b) vs proc
      (body n (omega arith) vs q met (λ z. let o : ⊥ = omega (arith, z, e) in o)) again)

  tested : (k : ℕ) (vs : List ℕ) (q : Piece) → C vs q → ((m : ℕ) → m < k → (us : List ℕ) (r : Piece) → I us r → Code_safe T proc Q m f (do_all (suc line) c ++ Test line c t b ∷ []) us r) → ((m : ℕ) → m < k → (us : List ℕ) (r : Piece) → C us r → (slice_index us t ≡ 0 → ⊥) → Code_safe T proc I m f (do_all (second_line line c) b) us r) → ((us : List ℕ) (r : Piece) → C us r → slice_index us t ≡ 0 → Q us r) → Code_safe T proc Q k f (Test line c t b ∷ []) vs q
  tested zero vs q met again body out = (none_safe _ _ _ _ _)
  tested (suc k) vs q met again body out =
      go_safe T at_code_end Q k f q (at_code proc (Test line c t b ∷ []) vs) _ refl refl
      (tested_at k (slice_index vs t) vs q refl met (λ m le. again m (omega arith)) (λ m le. body m (omega arith)) out)

  -- the law of loops: I before each run of the condition's code, C after it
  while_from : (n m : ℕ) → m ≤ n → ((k : ℕ) → k ≤ n → (regs : List ℕ) (p : Piece) → I regs p → Code_safe T proc C k f (do_all (suc line) c) regs p) → ((k : ℕ) → k ≤ n → (regs : List ℕ) (p : Piece) → C regs p → (slice_index regs t ≡ 0 → ⊥) → Code_safe T proc I k f (do_all (second_line line c) b) regs p) → ((regs : List ℕ) (p : Piece) → C regs p → slice_index regs t ≡ 0 → Q regs p) → (regs : List ℕ) (p : Piece) → I regs p → Code_safe T proc Q m f (do_all (suc line) c ++ Test line c t b ∷ []) regs p
  while_from zero m le before body out regs p i = subst (λ y. Code_safe T proc Q y f (do_all (suc line) c ++ Test line c t b ∷ []) regs p) (let e : 0 ≡ m = omega arith in e) (none_safe _ _ _ _ _)
  while_from (suc n) m le before body out regs p i =
      let again = while_from n in
      seq_safe (Test line c t b ∷ []) proc T C Q m f p (do_all (suc line) c) regs proc (before m le regs p i)
      (λ k kl vs q met.
      tested k vs q met
      (λ j lt. again j (omega arith) (λ a al. before a (omega arith)) (λ a al. body a (omega arith)) out)
      (λ j lt. body j (omega arith)) out)

  pub while_safe : (n : ℕ) (i : Instr) → out-Instr i ≡ Open.While (record { list = c }) t (record { list = b }) → ((k : ℕ) → k ≤ n → (regs : List ℕ) (p : Piece) → I regs p → Code_safe T proc C k f (do_all (suc line) c) regs p) → ((k : ℕ) → k ≤ n → (regs : List ℕ) (p : Piece) → C regs p → (slice_index regs t ≡ 0 → ⊥) → Code_safe T proc I k f (do_all (second_line line c) b) regs p) → ((regs : List ℕ) (p : Piece) → C regs p → slice_index regs t ≡ 0 → Q regs p) → (regs : List ℕ) (p : Piece) → I regs p → Code_safe T proc Q n f (Do line i ∷ []) regs p
  while_safe zero i e before body out regs p start = (none_safe _ _ _ _ _)
  while_safe (suc n) i e before body out regs p start =
      go_safe T at_code_end Q n f p (at_code proc (Do line i ∷ []) regs) _ refl (ap (instr_act T line [] regs proc []) e)
      (while_from n n (omega arith) (λ k le. before k (omega arith)) (λ k le. body k (omega arith)) out regs p start)

module _ (T : List Proc) (proc : Proc) (Q : List ℕ → Piece → Type 0) where
  choose : (n f line v : ℕ) (x y : List Instr) (regs : List ℕ) (p : Piece) → ((v ≡ 0 → ⊥) → Code_safe T proc Q n f (do_all (suc line) x) regs p) → (v ≡ 0 → Code_safe T proc Q n f (do_all (second_line line x) y) regs p) → Code_safe T proc Q n f (at_zero v (do_all (second_line line x) y) (do_all (suc line) x) ++ []) regs p
  choose n f line zero x y regs p sx sy = subst (λ z. Code_safe T proc Q n f z regs p) (sym (append-nil (do_all (second_line line x) y))) (sy refl)
  choose n f line (suc v) x y regs p sx sy = subst (λ z. Code_safe T proc Q n f z regs p) (sym (append-nil (do_all (suc line) x))) (sx (λ e. let o : ⊥ = omega (arith, e) in o))

  -- the law of `if`
  pub if_safe : (n f line : ℕ) (i : Instr) (t : ℕ) (x y : List Instr) (regs : List ℕ) (p : Piece) → out-Instr i ≡ Open.If t (record { list = x }) (record { list = y }) → ((slice_index regs t ≡ 0 → ⊥) → Code_safe T proc Q n f (do_all (suc line) x) regs p) → (slice_index regs t ≡ 0 → Code_safe T proc Q n f (do_all (second_line line x) y) regs p) → Code_safe T proc Q n f (Do line i ∷ []) regs p
  if_safe zero f line i t x y regs p e sx sy = (none_safe _ _ _ _ _)
  if_safe (suc n) f line i t x y regs p e sx sy =
      go_safe T at_code_end Q n f p (at_code proc (Do line i ∷ []) regs) _ refl (ap (instr_act T line [] regs proc []) e)
      (choose n f line (slice_index regs t) x y regs p (λ o. fewer T at_code_end Q n f _ (sx o)) (λ o. fewer T at_code_end Q n f _ (sy o)))
