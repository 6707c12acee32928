-- Safety for a number of steps has the laws.
use Rattle.std.proofs.Common.{◌≡◌, ℕ, zero, suc, ◌<◌, ◌≤◌, List, [], ◌∷◌, refl, sym, ap, ◌∙◌, subst, arith}
use Rattle.std.specs.Prelude.{Some, None, slice_index}
use Rattle.target_code.specs.declared.tree.Instr.{Instr, out-Instr}
use Rattle.target_code.specs.declared.tree.Instr.TheOpen as Open
use Rattle.target_code.specs.declared.tree.Branch.{Branch}
use Rattle.target_code.specs.declared.tree.Proc.{Proc}
use Rattle.target_meaning.specs.Leaf.{Item, Do, Caller, Stack, Run, Go, Cut, Split, do_all, begin, read_all, put_all, child_of, find, with_proc, instr_act, act}
use Rattle.target_meaning.specs.Lines.{second_line}
use Rattle.target_meaning.specs.Machine.{Heap, Leaf}
use Rattle.target_meaning.specs.Piece.{Piece, plus, Holds}
use Rattle.target_meaning.specs.Held.{AllWhole, without, holdings, Fine}
use Rattle.triple_logic.specs.Safe.{Halt, at_end, at_code_end, Safe}
use Rattle.triple_logic.specs.Laws.{End_fact, at_code}
use Rattle.triple_logic.proofs.Par.{none_safe, fewer, weaker, After}
use Rattle.triple_logic.proofs.Rules.{go_safe, go, cut_safe, over_safe, assume_heap, if_safe, while_safe, par_safe}
use Rattle.triple_logic.proofs.Sequence.{seq_safe, return_safe}
use Rattle.triple_logic.proofs.Call.{code_call_under, call_safe}
use Rattle.triple_logic.proofs.Frame.{frame_safe}
use Rattle.triple_logic.proofs.Ends.{ends_are_safe}
use Rattle.run_laws.specs.RunLaws.{Laws, Lower, fork_wait}

module _ (T : List Proc) where
  pub cut_by : (halt : Halt) (Q : End_fact) (n c f : ℕ) (p : Piece) (s : Stack) (b : ℕ) (u : Stack) → halt s ≡ None → act T s ≡ Cut b u → AllWhole (p b 0) (p b) → Safe T halt Q n f (Leaf (without p b) u) → Safe T halt Q n f (Leaf p s)
  cut_by halt Q zero c f p s b u o e w su = none_safe T halt Q f (Leaf p s)
  cut_by halt Q (suc n) c f p s b u o e w su = cut_safe T halt Q n f p s b u o e w (fewer T halt Q n f (Leaf (without p b) u) su)

  pub call_by : (Q1 Q : End_fact) (n f : ℕ) (p : Piece) (line : ℕ) (i : Instr) (items : List Item) (regs to name args : List ℕ) (proc : Proc) (g : Proc) → out-Instr i ≡ Open.Call to name args → find T name ≡ Some g → ((k : ℕ) → k < n → Safe T at_end Q1 k f (Leaf p (Run (begin g (read_all regs args)) []))) → ((m : ℕ) → m ≤ n → (vs : List ℕ) (q : Piece) → Q1 vs q → Safe T at_code_end Q m f (Leaf q (at_code proc items (put_all to vs regs)))) → Safe T at_code_end Q n f (Leaf p (at_code proc (Do line i ∷ items) regs))
  call_by Q1 Q zero f p line i items regs to name args proc g e found s next = none_safe T at_code_end Q f (Leaf p (at_code proc (Do line i ∷ items) regs))
  call_by Q1 Q (suc n) f p line i items regs to name args proc g e found s next =
      let c : Caller = record { frame = record { items = items; regs = regs; proc = proc }; to = to } in
      go_safe T at_code_end Q n f p (at_code proc (Do line i ∷ items) regs) (Run (begin g (read_all regs args)) (c ∷ [])) refl
      (ap (instr_act T line items regs proc []) e ∙ ap (λ o. with_proc o (λ p. Go (Run (begin p (read_all regs args)) (c ∷ [])))) found)
      (call_safe c [] T at_code_end (code_call_under c [] T) Q1 Q n f p (begin g (read_all regs args)) (s n (omega arith)) (λ m le. next m (omega (arith, le))))

  pub par_at : (Q1 Q2 Q : End_fact) (n f : ℕ) (p k pl pr : Piece) (line : ℕ) (i : Instr) (items : List Item) (regs : List ℕ) (proc : Proc) (l r : Branch) (g1 g2 : Proc) → out-Instr i ≡ Open.Par l r → find T l.proc ≡ Some g1 → find T r.proc ≡ Some g2 → holdings.kept p (child_of l regs g1) (child_of r regs g2) ≡ k → holdings.left p (child_of l regs g1) (child_of r regs g2) ≡ pl → holdings.right p (child_of l regs g1) (child_of r regs g2) ≡ pr → Fine f (Split (child_of l regs g1) (child_of r regs g2) (fork_wait proc items regs l r)) p → (f < 64 → Safe T at_end Q1 n (suc f) (Leaf pl (Run (begin g1 (read_all regs l.args)) []))) → (f < 64 → Safe T at_end Q2 n (suc f) (Leaf pr (Run (begin g2 (read_all regs r.args)) []))) → ((m : ℕ) → m ≤ n → (xs ys : List ℕ) (u v : Piece) (h : Heap) → Holds (plus k (plus u v)) h → Q1 xs u → Q2 ys v → Safe T at_code_end Q m f (Leaf (plus k (plus u v)) (at_code proc items (put_all r.to ys (put_all l.to xs regs))))) → Safe T at_code_end Q n f (Leaf p (at_code proc (Do line i ∷ items) regs))
  par_at Q1 Q2 Q zero f p k pl pr line i items regs proc l r g1 g2 e f1 f2 ek ea eb fine sl sr after = none_safe T at_code_end Q f (Leaf p (at_code proc (Do line i ∷ items) regs))
  par_at Q1 Q2 Q (suc n) f p k pl pr line i items regs proc l r g1 g2 e f1 f2 ek ea eb fine sl sr after =
      par_safe T at_code_end Q Q1 Q2 n f p (at_code proc (Do line i ∷ items) regs) (child_of l regs g1) (child_of r regs g2) (fork_wait proc items regs l r) refl
      (ap (instr_act T line items regs proc []) e ∙
      ap (λ o. with_proc o (λ u. with_proc (find T r.proc) (λ v. Split (child_of l regs u) (child_of r regs v) (fork_wait proc items regs l r)))) f1 ∙
      ap (λ o. with_proc o (λ v. Split (child_of l regs g1) (child_of r regs v) (fork_wait proc items regs l r))) f2)
      fine
      (λ lt. subst (λ y. Safe T at_end Q1 n (suc f) (Leaf y (Run (begin g1 (read_all regs l.args)) []))) (sym ea) (fewer T at_end Q1 n (suc f) (Leaf pl (Run (begin g1 (read_all regs l.args)) [])) (sl lt)))
      (λ lt. subst (λ y. Safe T at_end Q2 n (suc f) (Leaf y (Run (begin g2 (read_all regs r.args)) []))) (sym eb) (fewer T at_end Q2 n (suc f) (Leaf pr (Run (begin g2 (read_all regs r.args)) [])) (sr lt)))
      (subst (λ y. After T at_code_end Q1 Q2 Q y (fork_wait proc items regs l r) n f) (sym ek) (λ m le. after m (omega (arith, le))))

  pub loop_at : (I C : ℕ → End_fact) (Q : End_fact) (n f : ℕ) (line : ℕ) (i : Instr) (t : ℕ) (x y : List Instr) (proc : Proc) → out-Instr i ≡ Open.While (record { list = x }) t (record { list = y }) → ((k : ℕ) → k ≤ n → (j : ℕ) (regs : List ℕ) (p : Piece) → I j regs p → Safe T at_code_end (C j) k f (Leaf p (at_code proc (do_all (suc line) x) regs))) → ((k : ℕ) → k ≤ n → (j : ℕ) (regs : List ℕ) (p : Piece) → C j regs p → (slice_index regs t ≡ 0 → ⊥) → Safe T at_code_end (Lower ⊥ I j) k f (Leaf p (at_code proc (do_all (second_line line x) y) regs))) → ((j : ℕ) (regs : List ℕ) (p : Piece) → C j regs p → slice_index regs t ≡ 0 → Q regs p) → (regs : List ℕ) (p : Piece) (m : ℕ) → I m regs p → Safe T at_code_end Q n f (Leaf p (at_code proc (Do line i ∷ []) regs))
  loop_at I C Q n f line i t x y proc e before body out regs p m start =
      while_safe T proc f line t x y (λ vs q. (j : ℕ) × I j vs q) (λ vs q. (j : ℕ) × C j vs q) Q n i e
      (λ k le vs q w. weaker T at_code_end (C w.0) (λ us r. (j : ℕ) × C j us r) (λ us r h hs z. (w.0, z)) k f (Leaf q (at_code proc (do_all (suc line) x) vs)) (before k le w.0 vs q w.1))
      (λ k le vs q w on. weaker T at_code_end (Lower ⊥ I w.0) (λ us r. (j : ℕ) × I j us r) (λ us r h hs z. (z.0, z.2)) k f (Leaf q (at_code proc (do_all (second_line line x) y) vs)) (body k le w.0 vs q w.1 on))
      (λ vs q w off. out w.0 vs q w.1 off) regs p (m, start)

  -- runs that are safe for so many steps
  abbrev pub safe_laws : Laws T
  safe_laws = record {
    ends = ⊥;
    under = λ k n. k < n;
    run = λ halt Q n c f p s. Safe T halt Q n f (Leaf p s);
    go = λ halt Q n c f p s u o e su. go T halt Q n f p s u o e su;
    cut = λ halt Q n c f p s b u o e w su. cut_by halt Q n c f p s b u o e w su;
    over = λ halt Q n c f p s vs o m. over_safe T halt Q n f p s vs o m;
    assume = λ halt Q n c f p s w. assume_heap T halt Q n f p s w;
    more = λ halt Q n a b f p s le su. su;
    weaker = λ halt Q Q' n c f p s w su. weaker T halt Q Q' w n f (Leaf p s) su;
    frame = λ halt Q q n c f p s su. frame_safe T halt Q q n f p s su;
    seq = λ Q1 Q n a c f p proc items is regs su next. seq_safe is proc T Q1 Q n f p items regs proc su next;
    return = λ Q1 Q n a c f p proc items is regs su next. return_safe is proc T Q1 Q n f p items regs proc su next;
    call = λ Q1 Q n a c f p line i items regs to name args proc g e found su next. call_by Q1 Q n f p line i items regs to name args proc g e found su next;
    choice = λ Q n c f line i t x y regs proc p e sx sy. if_safe T proc Q n f line i t x y regs p e sx sy;
    loop = λ I C Q n a b m f line i t x y proc e before body out regs p start. loop_at I C Q n f line i t x y proc e before body out regs p m start;
    par = λ Q1 Q2 Q n a b c f p k pl pr line i items regs proc l r g1 g2 e f1 f2 ek ea eb fine sl sr after. par_at Q1 Q2 Q n f p k pl pr line i items regs proc l r g1 g2 e f1 f2 ek ea eb fine sl sr after;
    ended = λ halt Q n c f a p s w. ends_are_safe T halt Q f n c a s p w;
  }
