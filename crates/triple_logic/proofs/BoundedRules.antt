-- The laws that a proof of a bound goes by: one for each kind of step, and those of sequence, `if`, loops, calls and `par`.
use Rattle.std.proofs.Common.{◌≡◌, ℕ, zero, suc, ◌+◌, ◌<◌, ◌≤◌, List, [], ◌∷◌, ◌++◌, refl, sym, ap, ◌∙◌, subst, arith, append_assoc, append-nil}
use Rattle.std.specs.Prelude.{Some, None, slice_index}
use Rattle.target_code.specs.declared.tree.Instr.{Instr, out-Instr}
use Rattle.target_code.specs.declared.tree.Instr.TheOpen as Open
use Rattle.target_code.specs.declared.tree.Proc.{Proc}
use Rattle.target_meaning.specs.Leaf.{Item, Do, Test, Caller, Stack, Run, End, Wait, Child, Act, Go, Read, Write, Make, Cut, Split, resume, do_all, at_zero, read_all, put_all, begin, find, with_proc, instr_act, act}
use Rattle.target_meaning.specs.Lines.{second_line}
use Rattle.target_meaning.specs.Machine.{Heap, Tree, Leaf, Fork}
use Rattle.target_meaning.specs.Piece.{Nil, Some_of, Piece, Holds, IsWhole}
use Rattle.target_meaning.specs.Held.{stored, with_new, without, holdings, AllWhole, Fine}
use Rattle.triple_logic.specs.Safe.{Halt, at_end, at_code_end, Steps, AtRoot}
use Rattle.triple_logic.specs.Bounded.{Bounded, while_bound}
use Rattle.triple_logic.proofs.Bind.{Under}
use Rattle.triple_logic.proofs.Call.{on_call, call_wait}
use Rattle.triple_logic.proofs.Sequence.{on_seq, seq_wait, seq_under, return_under, over}
use Rattle.triple_logic.proofs.Rules.{at_code}
use Rattle.triple_logic.proofs.Par.{root_map}
use Rattle.triple_logic.proofs.Moves.{Moves, read_moves, write_moves, make_moves, cut_moves}
use Rattle.triple_logic.proofs.Bounded.{steps_mapped, bind_bounded, AfterBounded, fork_bounded}

module _ (T : List Proc) (halt : Halt) (Q : List ℕ → Piece → Type 0) where
  -- a step of a leaf
  pub leaf_bounded : (n f : ℕ) (p : Piece) (s : Stack) (a : Act) → halt s ≡ None → act T s ≡ a → ((h : Heap) → Holds p h → Fine f a p × Moves (Bounded T halt Q n f) f p a h) → Bounded T halt Q (suc n) f (Leaf p s)
  unfolding Bounded
  leaf_bounded n f p s a o e step = λ h hs.
      subst (λ y. AtRoot y (λ vs. Q vs p) (Fine f (act T s) p × Steps T f (Leaf p s) h (Bounded T halt Q n f))) (sym o)
      (let st = step h hs in (subst (λ y. Fine f y p) (sym e) st.0, leaf_steps h (subst (λ y. Moves (Bounded T halt Q n f) f p y h) (sym e) st.1)))
    where
      leaf_steps : (h : Heap) → Moves (Bounded T halt Q n f) f p (act T s) h → Steps T f (Leaf p s) h (Bounded T halt Q n f)
      leaf_steps h st room [] x = st room x
      leaf_steps h st room (d ∷ ds) x = tt

  -- a root that is over
  pub over_bounded : (n f : ℕ) (p : Piece) (s : Stack) (vs : List ℕ) → halt s ≡ Some vs → Q vs p → Bounded T halt Q n f (Leaf p s)
  unfolding Bounded
  over_bounded zero f p s vs o met = λ h hs. subst (λ y. AtRoot y (λ vs. Q vs p) ⊥) (sym o) met
  over_bounded (suc n) f p s vs o met = λ h hs. subst (λ y. AtRoot y (λ vs. Q vs p) (Fine f (act T s) p × Steps T f (Leaf p s) h (Bounded T halt Q n f))) (sym o) met

  -- what holds where some heap has what is held may be assumed
  pub assume_bounded : (n f : ℕ) (p : Piece) (s : Stack) → ((h : Heap) → Holds p h → Bounded T halt Q n f (Leaf p s)) → Bounded T halt Q n f (Leaf p s)
  unfolding Bounded
  assume_bounded zero f p s w = λ h hs. w h hs h hs
  assume_bounded (suc n) f p s w = λ h hs. w h hs h hs

  -- a weaker end, which may rest on a heap that has what is then held
  pub weaker_bounded : (R : List ℕ → Piece → Type 0) → ((vs : List ℕ) (p : Piece) (h : Heap) → Holds p h → Q vs p → R vs p) → (n f : ℕ) (t : Tree Piece) → Bounded T halt Q n f t → Bounded T halt R n f t
  unfolding Bounded
  weaker_bounded R imp zero f (Leaf p s) w = λ h hs. root_map (halt s) _ _ _ _ (λ vs m. imp vs p h hs m) (λ g. g) (w h hs)
  weaker_bounded R imp zero f (Fork p v l r) w = w
  weaker_bounded R imp (suc n) f (Leaf p s) w = λ h hs.
      root_map (halt s) _ _ _ _ (λ vs m. imp vs p h hs m)
      (λ g. (g.0, steps_mapped T f (Leaf p s) h (Bounded T halt Q n f) (Bounded T halt R n f) (λ u m. weaker_bounded R imp n f u m) g.1)) (w h hs)
  weaker_bounded R imp (suc n) f (Fork p v l r) w = λ h hs.
      let g = w h hs in
      (g.0, steps_mapped T f (Fork p v l r) h (Bounded T halt Q n f) (Bounded T halt R n f) (λ u m. weaker_bounded R imp n f u m) g.1)

  pub go_bounded : (n f : ℕ) (p : Piece) (s u : Stack) → halt s ≡ None → act T s ≡ Go u → Bounded T halt Q n f (Leaf p u) → Bounded T halt Q (suc n) f (Leaf p s)
  go_bounded n f p s u o e su = leaf_bounded n f p s (Go u) o e (λ h hs. (tt, λ room x d. su))

  pub read_bounded : (n f : ℕ) (p : Piece) (s : Stack) (b i v l : ℕ) (k : ℕ → Stack) → halt s ≡ None → act T s ≡ Read b i k → p b (suc i) ≡ Some_of v l → Bounded T halt Q n f (Leaf p (k v)) → Bounded T halt Q (suc n) f (Leaf p s)
  read_bounded n f p s b i v l k o e at su = leaf_bounded n f p s (Read b i k) o e (λ h hs. read_moves (Bounded T halt Q n f) f p b i v l k h hs at su)

  pub write_bounded : (n f : ℕ) (p : Piece) (s : Stack) (b i v : ℕ) (u : Stack) → halt s ≡ None → act T s ≡ Write b i v u → IsWhole (p b (suc i)) → Bounded T halt Q n f (Leaf (stored p b i v) u) → Bounded T halt Q (suc n) f (Leaf p s)
  write_bounded n f p s b i v u o e w su = leaf_bounded n f p s (Write b i v u) o e (λ h hs. write_moves (Bounded T halt Q n f) f p b i v u h w su)

  -- a new block, of a name of which the leaf held nothing
  pub make_bounded : (n f : ℕ) (p : Piece) (s : Stack) (len : ℕ) (k : ℕ → Stack) → halt s ≡ None → act T s ≡ Make len k → ((x : ℕ) → ((j : ℕ) → p x j ≡ Nil) → Bounded T halt Q n f (Leaf (with_new p x len) (k x))) → Bounded T halt Q (suc n) f (Leaf p s)
  make_bounded n f p s len k o e su = leaf_bounded n f p s (Make len k) o e (λ h hs. (tt, make_moves (Bounded T halt Q n f) f p len k h hs su))

  pub cut_bounded : (n f : ℕ) (p : Piece) (s : Stack) (b : ℕ) (u : Stack) → halt s ≡ None → act T s ≡ Cut b u → AllWhole (p b 0) (p b) → Bounded T halt Q n f (Leaf (without p b) u) → Bounded T halt Q (suc n) f (Leaf p s)
  cut_bounded n f p s b u o e w su = leaf_bounded n f p s (Cut b u) o e (λ h hs. cut_moves (Bounded T halt Q n f) f p b u h w su)

  -- a fork: one step, the bounds of both, one step for the join, and what follows
  pub par_bounded : (Q1 Q2 : List ℕ → Piece → Type 0) (a b c f : ℕ) (p : Piece) (s : Stack) (l r : Child) (w : Wait) → halt s ≡ None → act T s ≡ Split l r w → Fine f (Split l r w) p → (f < 64 → Bounded T at_end Q1 a (suc f) (Leaf (holdings.left p l r) l.stack)) → (f < 64 → Bounded T at_end Q2 b (suc f) (Leaf (holdings.right p l r) r.stack)) → AfterBounded T halt Q1 Q2 Q (holdings.kept p l r) w c f → Bounded T halt Q (suc (suc (a + b + c))) f (Leaf p s)
  par_bounded Q1 Q2 a b c f p s l r w o e fine sl sr after =
      leaf_bounded (suc (a + b + c)) f p s (Split l r w) o e
      (λ h hs. (fine, λ room x d. fork_bounded T halt Q1 Q2 Q (holdings.kept p l r) w c f (a + b) a b _ _ refl (sl (omega (arith, d))) (sr (omega (arith, d))) after))

-- a stretch of code, and what follows it
module _ (is : List Item) (proc : Proc) (T : List Proc) (Q1 Q : List ℕ → Piece → Type 0) where
  pub seq_bounded : (a c f : ℕ) (p : Piece) (items : List Item) (regs : List ℕ) (was : Proc) → Bounded T at_code_end Q1 a f (Leaf p (at_code was items regs)) → ((vs : List ℕ) (q : Piece) → Q1 vs q → Bounded T at_code_end Q c f (Leaf q (at_code proc is vs))) → Bounded T at_code_end Q (a + c) f (Leaf p (at_code proc (items ++ is) regs))
  seq_bounded a c f p items regs was s next =
      bind_bounded T at_code_end at_code_end (on_seq is proc) (seq_wait is proc) (seq_under is proc T) Q1 Q c a f _ s
      (λ s' vs q h o hs met. subst (λ y. Bounded T at_code_end Q c f (Leaf q y)) (sym (over is proc T s' vs o)) (next vs q met))

  -- the same, to the end of the procedure
  pub return_bounded : (a c f : ℕ) (p : Piece) (items : List Item) (regs : List ℕ) (was : Proc) → Bounded T at_code_end Q1 a f (Leaf p (at_code was items regs)) → ((vs : List ℕ) (q : Piece) → Q1 vs q → Bounded T at_end Q c f (Leaf q (at_code proc is vs))) → Bounded T at_end Q (a + c) f (Leaf p (at_code proc (items ++ is) regs))
  return_bounded a c f p items regs was s next =
      bind_bounded T at_code_end at_end (on_seq is proc) (seq_wait is proc) (return_under is proc T) Q1 Q c a f _ s
      (λ s' vs q h o hs met. subst (λ y. Bounded T at_end Q c f (Leaf q y)) (sym (over is proc T s' vs o)) (next vs q met))

-- a call: the step, the procedure by itself, and what follows it
module _ (T : List Proc) (halt : Halt) (U : (c : Caller) (cs : List Caller) → Under T at_end halt (on_call c cs) (call_wait c cs)) (Q1 Q : List ℕ → Piece → Type 0) where
  call_over : (c : Caller) (cs : List Caller) (k f : ℕ) → ((vs : List ℕ) (q : Piece) → Q1 vs q → Bounded T halt Q k f (Leaf q (Run (resume c vs) cs))) → (s : Stack) (vs : List ℕ) (q : Piece) → at_end s ≡ Some vs → Q1 vs q → Bounded T halt Q k f (Leaf q (on_call c cs s))
  call_over c cs k f next (Run h ds) vs q o met = cc o
  call_over c cs k f next (End us) vs q o met = next us q (let e : vs ≡ us = cc o in subst (λ y. Q1 y q) e met)

  pub call_bounded : (a k f : ℕ) (p : Piece) (line : ℕ) (i : Instr) (items : List Item) (regs : List ℕ) (proc : Proc) (cs : List Caller) (to : List ℕ) (name : List ℕ) (args : List ℕ) (g : Proc) → halt (Run (record { proc = proc; items = Do line i ∷ items; regs = regs }) cs) ≡ None → out-Instr i ≡ Open.Call to name args → find T name ≡ Some g → Bounded T at_end Q1 a f (Leaf p (Run (begin g (read_all regs args)) [])) → ((vs : List ℕ) (q : Piece) → Q1 vs q → Bounded T halt Q k f (Leaf q (Run (record { proc = proc; items = items; regs = put_all to vs regs }) cs))) → Bounded T halt Q (suc (a + k)) f (Leaf p (Run (record { proc = proc; items = Do line i ∷ items; regs = regs }) cs))
  call_bounded a k f p line i items regs proc cs to name args g o e found s next =
      let c : Caller = record { frame = record { proc = proc; items = items; regs = regs }; to = to } in
      go_bounded T halt Q (a + k) f p (Run (record { proc = proc; items = Do line i ∷ items; regs = regs }) cs) (Run (begin g (read_all regs args)) (c ∷ cs)) o
      (ap (instr_act T line items regs proc cs) e ∙ ap (λ o. with_proc o (λ p. Go (Run (begin p (read_all regs args)) (c ∷ cs)))) found)
      (bind_bounded T at_end halt (on_call c cs) (call_wait c cs) (U c cs) Q1 Q k a f (Leaf p (Run (begin g (read_all regs args)) [])) s
      (λ s' vs q h o hs met. call_over c cs k f next s' vs q o met))

-- the law of `if`
module _ (T : List Proc) (proc : Proc) (Q : List ℕ → Piece → Type 0) where
  choose : (n f line v : ℕ) (x y : List Instr) (regs : List ℕ) (p : Piece) → ((v ≡ 0 → ⊥) → Bounded T at_code_end Q n f (Leaf p (at_code proc (do_all (suc line) x) regs))) → (v ≡ 0 → Bounded T at_code_end Q n f (Leaf p (at_code proc (do_all (second_line line x) y) regs))) → Bounded T at_code_end Q n f (Leaf p (at_code proc (at_zero v (do_all (second_line line x) y) (do_all (suc line) x) ++ []) regs))
  choose n f line zero x y regs p sx sy = subst (λ z. Bounded T at_code_end Q n f (Leaf p (at_code proc z regs))) (sym (append-nil (do_all (second_line line x) y))) (sy refl)
  choose n f line (suc v) x y regs p sx sy = subst (λ z. Bounded T at_code_end Q n f (Leaf p (at_code proc z regs))) (sym (append-nil (do_all (suc line) x))) (sx (λ e. let o : ⊥ = omega (arith, e) in o))

  pub if_bounded : (n f line : ℕ) (i : Instr) (t : ℕ) (x y : List Instr) (regs : List ℕ) (p : Piece) → out-Instr i ≡ Open.If t (record { list = x }) (record { list = y }) → ((slice_index regs t ≡ 0 → ⊥) → Bounded T at_code_end Q n f (Leaf p (at_code proc (do_all (suc line) x) regs))) → (slice_index regs t ≡ 0 → Bounded T at_code_end Q n f (Leaf p (at_code proc (do_all (second_line line x) y) regs))) → Bounded T at_code_end Q (suc n) f (Leaf p (at_code proc (Do line i ∷ []) regs))
  if_bounded n f line i t x y regs p e sx sy =
      go_bounded T at_code_end Q n f p (at_code proc (Do line i ∷ []) regs) _ refl (ap (instr_act T line [] regs proc []) e)
      (choose n f line (slice_index regs t) x y regs p sx sy)

-- the law of loops by a measure: I before each run of the condition's code, C after it, and each turn makes the measure less
module _ (T : List Proc) (proc : Proc) (f line t a b : ℕ) (c d : List Instr) (I C : ℕ → List ℕ → Piece → Type 0) (Q : List ℕ → Piece → Type 0) where
  abbrev pub Lower : ℕ → List ℕ → Piece → Type 0
  Lower m regs p = (k : ℕ) × (k < m) × I k regs p

  abbrev loop_items : List Item
  loop_items = do_all (suc line) c ++ Test line c t d ∷ []

  abbrev Body : Type 0
  Body = (m : ℕ) (regs : List ℕ) (p : Piece) → C m regs p → (slice_index regs t ≡ 0 → ⊥) → Bounded T at_code_end (Lower m) b f (Leaf p (at_code proc (do_all (second_line line c) d) regs))

  abbrev Out : Type 0
  Out = (m : ℕ) (regs : List ℕ) (p : Piece) → C m regs p → slice_index regs t ≡ 0 → Q regs p

  tested_at : (k m v : ℕ) (regs : List ℕ) (q : Piece) → slice_index regs t ≡ v → C m regs q → Body → Out → ((us : List ℕ) (r : Piece) → Lower m us r → Bounded T at_code_end Q k f (Leaf r (at_code proc loop_items us))) → Bounded T at_code_end Q (b + k) f (Leaf q (at_code proc (at_zero v [] (do_all (second_line line c) d ++ do_all (suc line) c ++ Test line c t d ∷ [])) regs))
  tested_at k m zero regs q e met body out again = over_bounded T at_code_end Q (b + k) f q _ regs refl (out m regs q met e)
  tested_at k m (suc v) regs q e met body out again =
      subst (λ y. Bounded T at_code_end Q (b + k) f (Leaf q (at_code proc y regs))) (sym (append_assoc (do_all (second_line line c) d) (do_all (suc line) c) (Test line c t d ∷ [])))
      (seq_bounded loop_items proc T (Lower m) Q b k f q (do_all (second_line line c) d) regs proc (body m regs q met (λ z. let o : ⊥ = omega (arith, z, e) in o)) again)

  tested : (k m : ℕ) (regs : List ℕ) (q : Piece) → C m regs q → Body → Out → ((us : List ℕ) (r : Piece) → Lower m us r → Bounded T at_code_end Q k f (Leaf r (at_code proc loop_items us))) → Bounded T at_code_end Q (suc (b + k)) f (Leaf q (at_code proc (Test line c t d ∷ []) regs))
  tested k m regs q met body out again =
      go_bounded T at_code_end Q (b + k) f q (at_code proc (Test line c t d ∷ []) regs) _ refl refl (tested_at k m (slice_index regs t) regs q refl met body out again)

  loop_bounded : ((m : ℕ) (regs : List ℕ) (p : Piece) → I m regs p → Bounded T at_code_end (C m) a f (Leaf p (at_code proc (do_all (suc line) c) regs))) → Body → Out → (n m : ℕ) → m ≤ n → (regs : List ℕ) (p : Piece) → I m regs p → Bounded T at_code_end Q (while_bound a b n) f (Leaf p (at_code proc loop_items regs))
  loop_bounded before body out zero m le regs p i =
      seq_bounded (Test line c t d ∷ []) proc T (C m) Q a (suc (b + 0)) f p (do_all (suc line) c) regs proc (before m regs p i)
      (λ vs q met. tested 0 m vs q met body out (λ us r lo. absurd (let o : ⊥ = omega (arith, lo.1, le) in o)))
  loop_bounded before body out (suc n) m le regs p i =
      seq_bounded (Test line c t d ∷ []) proc T (C m) Q a (suc (b + while_bound a b n)) f p (do_all (suc line) c) regs proc (before m regs p i)
      (λ vs q met. tested (while_bound a b n) m vs q met body out (λ us r lo. loop_bounded before body out n lo.0 (omega (arith, lo.1, le)) us r lo.2))

  pub while_bounded : (i : Instr) → out-Instr i ≡ Open.While (record { list = c }) t (record { list = d }) → ((m : ℕ) (regs : List ℕ) (p : Piece) → I m regs p → Bounded T at_code_end (C m) a f (Leaf p (at_code proc (do_all (suc line) c) regs))) → Body → Out → (m : ℕ) (regs : List ℕ) (p : Piece) → I m regs p → Bounded T at_code_end Q (suc (while_bound a b m)) f (Leaf p (at_code proc (Do line i ∷ []) regs))
  while_bounded i e before body out m regs p start =
      go_bounded T at_code_end Q (while_bound a b m) f p (at_code proc (Do line i ∷ []) regs) _ refl (ap (instr_act T line [] regs proc []) e)
      (loop_bounded before body out m m (omega arith) regs p start)
