-- Bounded runs have the laws.
use Rattle.std.proofs.Common.{◌≡◌, ℕ, suc, ◌+◌, ◌-◌, ◌<◌, ◌≤◌, List, [], ◌∷◌, refl, sym, ap, ◌∙◌, subst, arith}
use Rattle.std.specs.Prelude.{Some, slice_index}
use Rattle.target_code.specs.declared.tree.Instr.{Instr, out-Instr}
use Rattle.target_code.specs.declared.tree.Instr.TheOpen as Open
use Rattle.target_code.specs.declared.tree.Branch.{Branch}
use Rattle.target_code.specs.declared.tree.Proc.{Proc}
use Rattle.target_meaning.specs.Leaf.{Item, Do, Stack, Run, Split, do_all, read_all, put_all, begin, find, child_of, with_proc, instr_act}
use Rattle.target_meaning.specs.Lines.{second_line}
use Rattle.target_meaning.specs.Machine.{Heap, Leaf}
use Rattle.target_meaning.specs.Piece.{Piece, plus, Holds}
use Rattle.target_meaning.specs.Held.{holdings, Fine}
use Rattle.triple_logic.specs.Safe.{Halt, at_end, at_code_end}
use Rattle.triple_logic.specs.Bounded.{Bounded, while_bound}
use Rattle.triple_logic.specs.Laws.{End_fact, at_code}
use Rattle.triple_logic.proofs.Call.{code_call_under}
use Rattle.triple_logic.proofs.Bounded.{more_by, framed_bounded, AfterBounded}
use Rattle.triple_logic.proofs.BoundedRules.{go_bounded, cut_bounded, over_bounded, assume_bounded, weaker_bounded, seq_bounded, return_bounded, call_bounded, if_bounded, while_bounded, par_bounded}
use Rattle.triple_logic.proofs.Ends.{ends_bounded}
use Rattle.run_laws.specs.RunLaws.{Laws, Lower, fork_wait}

module _ (T : List Proc) where
  pub more_steps : (halt : Halt) (Q : End_fact) (n a b f : ℕ) (p : Piece) (s : Stack) → a ≤ b → Bounded T halt Q a f (Leaf p s) → Bounded T halt Q b f (Leaf p s)
  more_steps halt Q n a b f p s le w = subst (λ y. Bounded T halt Q y f (Leaf p s)) (plus_minus a b le) (more_by T halt Q (b - a) a f (Leaf p s) w)
    where
      plus_minus : (a b : ℕ) → a ≤ b → (b - a) + a ≡ b
      plus_minus a b le = omega (arith, le)

  pub par_at : (Q1 Q2 Q : End_fact) (a b c f : ℕ) (p k pl pr : Piece) (line : ℕ) (i : Instr) (items : List Item) (regs : List ℕ) (proc : Proc) (l r : Branch) (g1 g2 : Proc) → out-Instr i ≡ Open.Par l r → find T l.proc ≡ Some g1 → find T r.proc ≡ Some g2 → holdings.kept p (child_of l regs g1) (child_of r regs g2) ≡ k → holdings.left p (child_of l regs g1) (child_of r regs g2) ≡ pl → holdings.right p (child_of l regs g1) (child_of r regs g2) ≡ pr → Fine f (Split (child_of l regs g1) (child_of r regs g2) (fork_wait proc items regs l r)) p → (f < 64 → Bounded T at_end Q1 a (suc f) (Leaf pl (Run (begin g1 (read_all regs l.args)) []))) → (f < 64 → Bounded T at_end Q2 b (suc f) (Leaf pr (Run (begin g2 (read_all regs r.args)) []))) → ((xs ys : List ℕ) (u v : Piece) (h : Heap) → Holds (plus k (plus u v)) h → Q1 xs u → Q2 ys v → Bounded T at_code_end Q c f (Leaf (plus k (plus u v)) (at_code proc items (put_all r.to ys (put_all l.to xs regs))))) → Bounded T at_code_end Q (suc (suc (a + b + c))) f (Leaf p (at_code proc (Do line i ∷ items) regs))
  par_at Q1 Q2 Q a b c f p k pl pr line i items regs proc l r g1 g2 e f1 f2 ek ea eb fine sl sr after =
      par_bounded T at_code_end Q Q1 Q2 a b c f p (at_code proc (Do line i ∷ items) regs) (child_of l regs g1) (child_of r regs g2) (fork_wait proc items regs l r) refl
      (ap (instr_act T line items regs proc []) e ∙
      ap (λ o. with_proc o (λ u. with_proc (find T r.proc) (λ v. Split (child_of l regs u) (child_of r regs v) (fork_wait proc items regs l r)))) f1 ∙
      ap (λ o. with_proc o (λ v. Split (child_of l regs g1) (child_of r regs v) (fork_wait proc items regs l r))) f2)
      fine
      (λ lt. subst (λ y. Bounded T at_end Q1 a (suc f) (Leaf y (Run (begin g1 (read_all regs l.args)) []))) (sym ea) (sl lt))
      (λ lt. subst (λ y. Bounded T at_end Q2 b (suc f) (Leaf y (Run (begin g2 (read_all regs r.args)) []))) (sym eb) (sr lt))
      (subst (λ y. AfterBounded T at_code_end Q1 Q2 Q y (fork_wait proc items regs l r) c f) (sym ek) after)

  pub loop_at : (I C : ℕ → End_fact) (Q : End_fact) (a b m f : ℕ) (line : ℕ) (i : Instr) (t : ℕ) (x y : List Instr) (proc : Proc) → out-Instr i ≡ Open.While (record { list = x }) t (record { list = y }) → ((j : ℕ) (regs : List ℕ) (p : Piece) → I j regs p → Bounded T at_code_end (C j) a f (Leaf p (at_code proc (do_all (suc line) x) regs))) → ((j : ℕ) (regs : List ℕ) (p : Piece) → C j regs p → (slice_index regs t ≡ 0 → ⊥) → Bounded T at_code_end (Lower (Unit {0}) I j) b f (Leaf p (at_code proc (do_all (second_line line x) y) regs))) → ((j : ℕ) (regs : List ℕ) (p : Piece) → C j regs p → slice_index regs t ≡ 0 → Q regs p) → (regs : List ℕ) (p : Piece) → I m regs p → Bounded T at_code_end Q (suc (while_bound a b m)) f (Leaf p (at_code proc (Do line i ∷ []) regs))
  loop_at I C Q a b m f line i t x y proc e before body out regs p start =
      while_bounded T proc f line t a b x y I C Q i e before
      (λ j regs p met on. weaker_bounded T at_code_end (Lower (Unit {0}) I j) (λ vs q. (k : ℕ) × (k < j) × I k vs q) (λ vs q h hs w. (w.0, w.1 tt, w.2)) b f (Leaf p (at_code proc (do_all (second_line line x) y) regs)) (body j regs p met on))
      out m regs p start

  -- runs of at most so many steps
  abbrev pub bounded_laws : Laws T
  bounded_laws = record {
    ends = Unit {0};
    under = λ k n. Unit {0};
    run = λ halt Q n c f p s. Bounded T halt Q c f (Leaf p s);
    go = λ halt Q n c f p s u o e su. go_bounded T halt Q c f p s u o e su;
    cut = λ halt Q n c f p s b u o e w su. cut_bounded T halt Q c f p s b u o e w su;
    over = λ halt Q n c f p s vs o m. over_bounded T halt Q c f p s vs o m;
    assume = λ halt Q n c f p s w. assume_bounded T halt Q c f p s w;
    more = λ halt Q n a b f p s le su. more_steps halt Q n a b f p s le su;
    weaker = λ halt Q Q' n c f p s w su. weaker_bounded T halt Q Q' w c f (Leaf p s) su;
    frame = λ halt Q q n c f p s su. framed_bounded T halt Q q c f (Leaf p s) q refl su;
    seq = λ Q1 Q n a c f p proc items is regs su next. seq_bounded is proc T Q1 Q a c f p items regs proc su (λ vs q m. next n (le_same n) vs q m);
    return = λ Q1 Q n a c f p proc items is regs su next. return_bounded is proc T Q1 Q a c f p items regs proc su (λ vs q m. next n (le_same n) vs q m);
    call = λ Q1 Q n a c f p line i items regs to name args proc g e found su next.
        call_bounded T at_code_end (λ c cs. code_call_under c cs T) Q1 Q a c f p line i items regs proc [] to name args g refl e found (su n tt) (λ vs q m. next n (le_same n) vs q m);
    choice = λ Q n c f line i t x y regs proc p e sx sy. if_bounded T proc Q c f line i t x y regs p e sx sy;
    loop = λ I C Q n a b m f line i t x y proc e before body out regs p start. loop_at I C Q a b m f line i t x y proc e (λ j. before n (le_same n) j) (λ j. body n (le_same n) j) out regs p start;
    par = λ Q1 Q2 Q n a b c f p k pl pr line i items regs proc l r g1 g2 e f1 f2 ek ea eb fine sl sr after. par_at Q1 Q2 Q a b c f p k pl pr line i items regs proc l r g1 g2 e f1 f2 ek ea eb fine sl sr (λ xs ys u v h hs a b. after n (le_same n) xs ys u v h hs a b);
    ended = λ halt Q n c f a p s w. ends_bounded T halt Q f c a s p w;
  }
    where
      le_same : (a : ℕ) → a ≤ a
      le_same a = omega arith
