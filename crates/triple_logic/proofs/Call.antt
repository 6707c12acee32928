-- A procedure that is safe by itself is safe where it is called.
use Rattle.std.proofs.Common.{◌≡◌, ℕ, ◌≤◌, List, [], ◌∷◌, ◌++◌, refl, subst}
use Rattle.std.specs.Prelude.{Some, None, slice_index}
use Rattle.target_code.specs.declared.tree.Instr.{Instr, out-Instr, Instr-F}
use Rattle.target_code.specs.declared.tree.Instr.TheOpen as I
use Rattle.target_code.specs.declared.tree.Code.{Code}
use Rattle.target_code.specs.declared.tree.Proc.{Proc}
use Rattle.target_meaning.specs.Leaf.{Item, Do, Test, Frame, Caller, Stack, Run, End, Wait, calc_of, resume, find, instr_act, items_act, act}
use Rattle.target_meaning.specs.Machine.{Leaf}
use Rattle.target_meaning.specs.Piece.{Piece}
use Rattle.triple_logic.specs.Safe.{Halt, at_end, at_code_end, no_more, Safe}
use Rattle.triple_logic.proofs.Bind.{act_map, number_map, proc_map, Under, bind}

module _ (c : Caller) (cs : List Caller) where
  abbrev pub on_call : Stack → Stack
  on_call (Run f ds) = Run f (ds ++ c ∷ cs)
  on_call (End vs) = Run (resume c vs) cs

  abbrev pub call_wait : Wait → Wait
  call_wait w = record { frame = w.frame; callers = w.callers ++ c ∷ cs; left = w.left; right = w.right }

  module _ (T : List Proc) where
    call_instr : (line : ℕ) (items : List Item) (regs : List ℕ) (proc : Proc) (ds : List Caller) (i : Instr-F Instr Code) → instr_act T line items regs proc (ds ++ c ∷ cs) i ≡ act_map on_call call_wait (instr_act T line items regs proc ds i)
    call_instr line items regs proc ds (I.Const to v) = refl
    call_instr line items regs proc ds (I.Mov to from) = refl
    call_instr line items regs proc ds (I.Calc to word l r) = number_map on_call call_wait (calc_of word (slice_index regs l) (slice_index regs r)) _ _ (λ v. refl)
    call_instr line items regs proc ds (I.Load to b i) = refl
    call_instr line items regs proc ds (I.Store b i v) = refl
    call_instr line items regs proc ds (I.Alloc to n) = refl
    call_instr line items regs proc ds (I.Free b) = refl
    call_instr line items regs proc ds (I.If t x y) = refl
    call_instr line items regs proc ds (I.While x t y) = refl
    call_instr line items regs proc ds (I.Call to name args) = proc_map on_call call_wait (find T name) _ _ (λ p. refl)
    call_instr line items regs proc ds (I.Par l r) = proc_map on_call call_wait (find T l.proc) _ _ (λ p. proc_map on_call call_wait (find T r.proc) _ _ (λ q. refl))

    call_items : (items : List Item) (regs : List ℕ) (proc : Proc) (ds : List Caller) → items_act T items regs proc (ds ++ c ∷ cs) ≡ act_map on_call call_wait (items_act T items regs proc ds)
    call_items [] regs proc [] = refl
    call_items [] regs proc (d ∷ ds) = refl
    call_items (Do line i ∷ items) regs proc ds = call_instr line items regs proc ds (out-Instr i)
    call_items (Test line x t y ∷ items) regs proc ds = refl

    call_acts : (s : Stack) → at_end s ≡ None → act T (on_call s) ≡ act_map on_call call_wait (act T s)
    call_acts (Run f ds) o = call_items f.items f.regs f.proc ds
    call_acts (End vs) o = cc o

    end_goes : (s : Stack) → at_end s ≡ None → at_end (on_call s) ≡ None
    end_goes (Run f ds) o = refl
    end_goes (End vs) o = cc o

    more_callers : (items : List Item) (regs : List ℕ) (ds : List Caller) → no_more items regs (ds ++ c ∷ cs) ≡ None
    more_callers [] regs [] = refl
    more_callers [] regs (d ∷ ds) = refl
    more_callers (i ∷ is) regs ds = refl

    code_goes : (s : Stack) → at_end s ≡ None → at_code_end (on_call s) ≡ None
    code_goes (Run f ds) o = more_callers f.items f.regs ds
    code_goes (End vs) o = cc o

    pub call_under : Under T at_end at_end on_call call_wait
    call_under = record { acts = call_acts; goes = end_goes; joins = λ w xs ys. refl }

    pub code_call_under : Under T at_end at_code_end on_call call_wait
    code_call_under = record { acts = call_acts; goes = code_goes; joins = λ w xs ys. refl }

    -- the law of calls, for each of the two halts
    module _ (halt : Halt) (U : Under T at_end halt on_call call_wait) (Q1 Q : List ℕ → Piece → Type 0) where
      pub call_safe : (n f : ℕ) (p : Piece) (g : Frame) → Safe T at_end Q1 n f (Leaf p (Run g [])) → ((m : ℕ) → m ≤ n → (vs : List ℕ) (q : Piece) → Q1 vs q → Safe T halt Q m f (Leaf q (Run (resume c vs) cs))) → Safe T halt Q n f (Leaf p (Run g (c ∷ cs)))
      call_safe n f p g s next =
          bind T at_end halt on_call call_wait U Q1 Q n f (Leaf p (Run g [])) s
          (λ m le s' vs q h o hs met. over m le s' vs q o met)
        where
          over : (m : ℕ) → m ≤ n → (s : Stack) (vs : List ℕ) (q : Piece) → at_end s ≡ Some vs → Q1 vs q → Safe T halt Q m f (Leaf q (on_call s))
          over m le (Run h ds) vs q o met = cc o
          over m le (End us) vs q o met = next m le us q (let e : vs ≡ us = cc o in subst (λ y. Q1 y q) e met)
