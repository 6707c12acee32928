-- Code that is safe up to its end is safe before more code.
use Rattle.std.proofs.Common.{◌≡◌, ℕ, zero, suc, ◌≤◌, List, [], ◌∷◌, ◌++◌, refl, sym, ap, subst, append_assoc}
use Rattle.std.specs.Prelude.{Some, None, slice_index}
use Rattle.target_code.specs.declared.tree.Instr.{Instr, out-Instr, Instr-F}
use Rattle.target_code.specs.declared.tree.Instr.TheOpen as I
use Rattle.target_code.specs.declared.tree.Code.{Code}
use Rattle.target_code.specs.declared.tree.Proc.{Proc}
use Rattle.target_meaning.specs.Leaf.{Item, Do, Test, Frame, Caller, Stack, Run, End, Wait, Go, calc_of, joined, find, do_all, at_zero, instr_act, items_act, act}
use Rattle.target_meaning.specs.Lines.{second_line}
use Rattle.target_meaning.specs.Machine.{Leaf}
use Rattle.target_meaning.specs.Piece.{Piece}
use Rattle.triple_logic.specs.Safe.{at_end, at_code_end, no_more, Safe}
use Rattle.triple_logic.proofs.Bind.{act_map, number_map, proc_map, Under, bind}

module _ (is : List Item) (proc : Proc) where
  abbrev pub grown : Frame → Frame
  grown f = record { proc = proc; items = f.items ++ is; regs = f.regs }

  abbrev pub low : Caller → List Caller → List Caller
  low c [] = record { frame = grown c.frame; to = c.to } ∷ []
  low c (d ∷ ds) = c ∷ low d ds

  abbrev pub on_seq_run : Frame → List Caller → Stack
  on_seq_run f [] = Run (grown f) []
  on_seq_run f (c ∷ cs) = Run f (low c cs)

  abbrev pub on_seq : Stack → Stack
  on_seq (Run f cs) = on_seq_run f cs
  on_seq (End vs) = Run (record { proc = proc; items = is; regs = vs }) []

  abbrev pub seq_wait_at : Frame → List Caller → List ℕ → List ℕ → Wait
  seq_wait_at f [] l r = record { frame = grown f; callers = []; left = l; right = r }
  seq_wait_at f (c ∷ cs) l r = record { frame = f; callers = low c cs; left = l; right = r }

  abbrev pub seq_wait : Wait → Wait
  seq_wait w = seq_wait_at w.frame w.callers w.left w.right

  module _ (T : List Proc) where
    -- in the lowest frame
    seq_low : (line : ℕ) (items : List Item) (regs : List ℕ) (was : Proc) (i : Instr-F Instr Code) → instr_act T line (items ++ is) regs proc [] i ≡ act_map on_seq seq_wait (instr_act T line items regs was [] i)
    seq_low line items regs was (I.Const to v) = refl
    seq_low line items regs was (I.Mov to from) = refl
    seq_low line items regs was (I.Calc to word l r) = number_map on_seq seq_wait (calc_of word (slice_index regs l) (slice_index regs r)) _ _ (λ v. refl)
    seq_low line items regs was (I.Load to b i) = refl
    seq_low line items regs was (I.Store b i v) = refl
    seq_low line items regs was (I.Alloc to n) = refl
    seq_low line items regs was (I.Free b) = refl
    seq_low line items regs was (I.If t x y) =
        ap (λ z. Go (Run (record { proc = proc; items = z; regs = regs }) [])) (sym (append_assoc (at_zero (slice_index regs t) (do_all (second_line line x.list) y.list) (do_all (suc line) x.list)) items is))
    seq_low line items regs was (I.While x t y) =
        ap (λ z. Go (Run (record { proc = proc; items = z; regs = regs }) [])) (sym (append_assoc (do_all (suc line) x.list) (Test line x.list t y.list ∷ items) is))
    seq_low line items regs was (I.Call to name args) = proc_map on_seq seq_wait (find T name) _ _ (λ p. refl)
    seq_low line items regs was (I.Par l r) = proc_map on_seq seq_wait (find T l.proc) _ _ (λ p. proc_map on_seq seq_wait (find T r.proc) _ _ (λ q. refl))

    -- in a frame above
    seq_high : (line : ℕ) (items : List Item) (regs : List ℕ) (was : Proc) (c : Caller) (cs : List Caller) (i : Instr-F Instr Code) → instr_act T line items regs was (low c cs) i ≡ act_map on_seq seq_wait (instr_act T line items regs was (c ∷ cs) i)
    seq_high line items regs was c cs (I.Const to v) = refl
    seq_high line items regs was c cs (I.Mov to from) = refl
    seq_high line items regs was c cs (I.Calc to word l r) = number_map on_seq seq_wait (calc_of word (slice_index regs l) (slice_index regs r)) _ _ (λ v. refl)
    seq_high line items regs was c cs (I.Load to b i) = refl
    seq_high line items regs was c cs (I.Store b i v) = refl
    seq_high line items regs was c cs (I.Alloc to n) = refl
    seq_high line items regs was c cs (I.Free b) = refl
    seq_high line items regs was c cs (I.If t x y) = refl
    seq_high line items regs was c cs (I.While x t y) = refl
    seq_high line items regs was c cs (I.Call to name args) = proc_map on_seq seq_wait (find T name) _ _ (λ p. refl)
    seq_high line items regs was c cs (I.Par l r) = proc_map on_seq seq_wait (find T l.proc) _ _ (λ p. proc_map on_seq seq_wait (find T r.proc) _ _ (λ q. refl))

    seq_run : (items : List Item) (regs : List ℕ) (was : Proc) (cs : List Caller) → no_more items regs cs ≡ None → act T (on_seq_run (record { proc = was; items = items; regs = regs }) cs) ≡ act_map on_seq seq_wait (items_act T items regs was cs)
    seq_run [] regs was [] o = cc o
    seq_run [] regs was (c ∷ []) o = refl
    seq_run [] regs was (c ∷ d ∷ ds) o = refl
    seq_run (Do line i ∷ items) regs was [] o = seq_low line items regs was (out-Instr i)
    seq_run (Do line i ∷ items) regs was (c ∷ cs) o = seq_high line items regs was c cs (out-Instr i)
    seq_run (Test line x t y ∷ items) regs was [] o =
        ap (λ z. Go (Run (record { proc = proc; items = z; regs = regs }) []))
        (again (slice_index regs t))
      where
        again : (v : ℕ) → at_zero v (items ++ is) (do_all (second_line line x) y ++ do_all (suc line) x ++ Test line x t y ∷ (items ++ is)) ≡ at_zero v items (do_all (second_line line x) y ++ do_all (suc line) x ++ Test line x t y ∷ items) ++ is
        again zero = refl
        again (suc v) = sym (append_assoc (do_all (second_line line x) y ++ do_all (suc line) x) (Test line x t y ∷ items) is)
    seq_run (Test line x t y ∷ items) regs was (c ∷ cs) o = refl

    seq_acts : (s : Stack) → at_code_end s ≡ None → act T (on_seq s) ≡ act_map on_seq seq_wait (act T s)
    seq_acts (Run f cs) o = seq_run f.items f.regs f.proc cs o
    seq_acts (End vs) o = cc o

    seq_joins : (w : Wait) (xs ys : List ℕ) → joined (seq_wait w) xs ys ≡ on_seq (joined w xs ys)
    seq_joins w xs ys = joins_at w.frame w.callers w.left w.right
      where
        joins_at : (f : Frame) (cs : List Caller) (l r : List ℕ) → joined (seq_wait_at f cs l r) xs ys ≡ on_seq (joined (record { frame = f; callers = cs; left = l; right = r }) xs ys)
        joins_at f [] l r = refl
        joins_at f (c ∷ cs) l r = refl

    low_goes : (items : List Item) (regs : List ℕ) (c : Caller) (cs : List Caller) → no_more items regs (low c cs) ≡ None
    low_goes [] regs c [] = refl
    low_goes [] regs c (d ∷ ds) = refl
    low_goes (i ∷ items) regs c cs = refl

    seq_goes_at : (f : Frame) (cs : List Caller) → no_more f.items f.regs cs ≡ None → at_code_end (on_seq_run f cs) ≡ None
    seq_goes_at f (c ∷ cs) o = low_goes f.items f.regs c cs
    seq_goes_at f [] o = goes f.items o
      where
        goes : (items : List Item) → no_more items f.regs [] ≡ None → no_more (items ++ is) f.regs [] ≡ None
        goes [] o = cc o
        goes (i ∷ items) o = refl

    seq_goes : (s : Stack) → at_code_end s ≡ None → at_code_end (on_seq s) ≡ None
    seq_goes (Run f cs) o = seq_goes_at f cs o
    seq_goes (End vs) o = cc o

    end_goes_at : (f : Frame) (cs : List Caller) → at_end (on_seq_run f cs) ≡ None
    end_goes_at f [] = refl
    end_goes_at f (c ∷ cs) = refl

    seq_end_goes : (s : Stack) → at_code_end s ≡ None → at_end (on_seq s) ≡ None
    seq_end_goes (Run f cs) o = end_goes_at f cs
    seq_end_goes (End vs) o = cc o

    pub seq_under : Under T at_code_end at_code_end on_seq seq_wait
    seq_under = record { acts = seq_acts; goes = seq_goes; joins = seq_joins }

    pub return_under : Under T at_code_end at_end on_seq seq_wait
    return_under = record { acts = seq_acts; goes = seq_end_goes; joins = seq_joins }

    -- a stretch of code, and what follows it
    over_at : (f : Frame) (cs : List Caller) (vs : List ℕ) → no_more f.items f.regs cs ≡ Some vs → on_seq_run f cs ≡ Run (record { proc = proc; items = is; regs = vs }) []
    over_at f (c ∷ cs) vs o = off f.items o
      where
        off : (items : List Item) → no_more items f.regs (c ∷ cs) ≡ Some vs → on_seq_run f (c ∷ cs) ≡ Run (record { proc = proc; items = is; regs = vs }) []
        off [] o = cc o
        off (i ∷ items) o = cc o
    over_at f [] vs o = on f.items o
      where
        on : (items : List Item) → no_more items f.regs [] ≡ Some vs → Run (record { proc = proc; items = items ++ is; regs = f.regs }) [] ≡ Run (record { proc = proc; items = is; regs = vs }) []
        on [] o = let e : f.regs ≡ vs = cc o in ap (λ y. Run (record { proc = proc; items = is; regs = y }) []) e
        on (i ∷ items) o = cc o

    pub over : (s : Stack) (vs : List ℕ) → at_code_end s ≡ Some vs → on_seq s ≡ Run (record { proc = proc; items = is; regs = vs }) []
    over (Run f cs) vs o = over_at f cs vs o
    over (End us) vs o = let e : us ≡ vs = cc o in ap (λ y. Run (record { proc = proc; items = is; regs = y }) []) e

    module _ (Q1 Q : List ℕ → Piece → Type 0) where
      -- the law of sequence
      pub seq_safe : (n f : ℕ) (p : Piece) (items : List Item) (regs : List ℕ) (was : Proc) → Safe T at_code_end Q1 n f (Leaf p (Run (record { proc = was; items = items; regs = regs }) [])) → ((m : ℕ) → m ≤ n → (vs : List ℕ) (q : Piece) → Q1 vs q → Safe T at_code_end Q m f (Leaf q (Run (record { proc = proc; items = is; regs = vs }) []))) → Safe T at_code_end Q n f (Leaf p (Run (record { proc = proc; items = items ++ is; regs = regs }) []))
      seq_safe n f p items regs was s next =
          bind T at_code_end at_code_end on_seq seq_wait seq_under Q1 Q n f _ s
          (λ m le s' vs q h o hs met. subst (λ y. Safe T at_code_end Q m f (Leaf q y)) (sym (over s' vs o)) (next m le vs q met))

      -- the same, to the end of the procedure
      pub return_safe : (n f : ℕ) (p : Piece) (items : List Item) (regs : List ℕ) (was : Proc) → Safe T at_code_end Q1 n f (Leaf p (Run (record { proc = was; items = items; regs = regs }) [])) → ((m : ℕ) → m ≤ n → (vs : List ℕ) (q : Piece) → Q1 vs q → Safe T at_end Q m f (Leaf q (Run (record { proc = proc; items = is; regs = vs }) []))) → Safe T at_end Q n f (Leaf p (Run (record { proc = proc; items = items ++ is; regs = regs }) []))
      return_safe n f p items regs was s next =
          bind T at_code_end at_end on_seq seq_wait return_under Q1 Q n f _ s
          (λ m le s' vs q h o hs met. subst (λ y. Safe T at_end Q m f (Leaf q y)) (sym (over s' vs o)) (next m le vs q met))
