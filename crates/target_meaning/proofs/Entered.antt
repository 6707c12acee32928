-- Frames that enter an inner code, and calls.
use Rattle.std.proofs.Common.{◌≡◌, ℕ, zero, suc, ◌⊎◌, inl, inr, List, [], ◌∷◌, ◌++◌, refl, sym, ap, ◌∙◌, slice_index}
use Rattle.std.specs.Prelude.{Option, Some}
use Rattle.target_code.specs.declared.tree.Instr.{Instr, out-Instr}
use Rattle.target_code.specs.declared.tree.Instr.TheOpen as Open
use Rattle.target_code.specs.declared.tree.Code.{Code}
use Rattle.target_code.specs.declared.tree.Proc.{Proc}
use Rattle.target_meaning.specs.declared.place.Inner.{Inner}
use Rattle.target_meaning.specs.declared.place.Inner.TheVariants.{Yes, No, Cond}
use Rattle.target_meaning.specs.declared.stack.Frame.{Frame}
use Rattle.target_meaning.specs.declared.stack.Frames.{Frames}
use Rattle.target_meaning.specs.Leaf as leaf
use Rattle.target_meaning.specs.Place.{inner_code, inner_of, inner_line, inner_first, after_inner, after_of, items_at, place_line}
use Rattle.target_meaning.specs.Lines.{second_line}
use Rattle.target_meaning.specs.Stacks.{proc_at, code_at, frame_of, caller_of, callers_of}
use Rattle.target_meaning.specs.Turns.{IsAt, act_of, call_of, run_of, with_top}
use Rattle.target_meaning.proofs.Levels.{snoc_items}

pub callers_snoc : (procs : List Proc) (fs : List Frame) (f : Frame) (cs : List leaf.Caller) → callers_of procs (fs ++ f ∷ []) cs ≡ caller_of procs f ∷ callers_of procs fs cs
callers_snoc procs [] f cs = refl
callers_snoc procs (g ∷ fs) f cs = callers_snoc procs fs f (caller_of procs g ∷ cs)

abbrev pub inside_of : Frame → Inner → Frame
inside_of f k = record { proc = f.proc; outer = f.outer ++ (record { index = f.at; inner = k }) ∷ []; at = 0; regs = f.regs }

module _ (procs : List Proc) (fs : Frames) (i : Instr) (next : ℕ) (h : IsAt procs fs.top i next) where
  abbrev here : ℕ
  here = place_line 1 (code_at procs fs.top.proc) fs.top.outer fs.top.at

  abbrev rest : List leaf.Item
  rest = items_at 1 (code_at procs fs.top.proc) fs.top.outer next

  entered : (k : Inner) → items_at 1 (code_at procs fs.top.proc) (fs.top.outer ++ (record { index = fs.top.at; inner = k }) ∷ []) 0 ≡ leaf.do_all (inner_line k here (out-Instr i)) (inner_code k (out-Instr i)) ++ (after_inner k here (out-Instr i) ++ rest)
  entered k =
      let code = code_at procs fs.top.proc in
      let at : Option Instr → List leaf.Item = λ x. leaf.do_all (inner_first k here x) (inner_of k x) ++ (after_of k here x ++ items_at 1 code fs.top.outer (suc fs.top.at)) in
      snoc_items 1 code fs.top.outer (record { index = fs.top.at; inner = k }) 0 ∙ ap at h.there ∙
      ap (λ m. leaf.do_all (inner_line k here (out-Instr i)) (inner_code k (out-Instr i)) ++ (after_inner k here (out-Instr i) ++ items_at 1 code fs.top.outer m)) (sym h.is)

  run_with : List leaf.Item → leaf.Stack
  run_with items = leaf.Run (record { proc = proc_at procs fs.top.proc; items = items; regs = fs.top.regs }) (callers_of procs fs.below.items [])

  by_instr : (o : Open.Instr-F Instr Code) → out-Instr i ≡ o → act_of procs fs i next ≡ leaf.instr_act procs here rest fs.top.regs (proc_at procs fs.top.proc) (callers_of procs fs.below.items []) o
  by_instr o e = ap (leaf.instr_act procs here rest fs.top.regs (proc_at procs fs.top.proc) (callers_of procs fs.below.items [])) e

  -- what is left to do inside, for this kind of instruction
  inside_is : (k : Inner) (o : Open.Instr-F Instr Code) → out-Instr i ≡ o → items_at 1 (code_at procs fs.top.proc) (fs.top.outer ++ (record { index = fs.top.at; inner = k }) ∷ []) 0 ≡ leaf.do_all (inner_line k here o) (inner_code k o) ++ (after_inner k here o ++ rest)
  inside_is k o e = entered k ∙ ap (λ x. leaf.do_all (inner_line k here x) (inner_code k x) ++ (after_inner k here x ++ rest)) e

  abbrev first : Code → List leaf.Item
  first c = leaf.do_all (suc here) c.list

  abbrev second : Code → Code → List leaf.Item
  second c d = leaf.do_all (second_line here c.list) d.list

  pub if_entered : (t : ℕ) (c d : Code) (k : Inner) (top : Frame) → out-Instr i ≡ Open.If t c d → ((slice_index fs.top.regs t ≡ 0) × (k ≡ No)) ⊎ ((slice_index fs.top.regs t ≡ 0 → ⊥) × (k ≡ Yes)) → top ≡ inside_of fs.top k → act_of procs fs i next ≡ leaf.Go (run_of procs (with_top fs top))
  unfolding run_with
  if_entered t c d k top e choice is =
      by_instr (Open.If t c d) e ∙ ap (λ l. leaf.Go (run_with l)) (chosen choice) ∙ ap (λ f. leaf.Go (run_of procs (with_top fs f))) (sym is)
    where
      zero_or : {A : Type 0} (n : ℕ) (a b : A) → (n ≡ 0 → ⊥) → leaf.at_zero n a b ≡ b
      zero_or zero a b ne = absurd (ne refl)
      zero_or (suc n) a b ne = refl

      to : (j : Inner) → k ≡ j → items_at 1 (code_at procs fs.top.proc) (fs.top.outer ++ (record { index = fs.top.at; inner = j }) ∷ []) 0 ≡ items_at 1 (code_at procs fs.top.proc) (fs.top.outer ++ (record { index = fs.top.at; inner = k }) ∷ []) 0
      to j w = ap (λ x. items_at 1 (code_at procs fs.top.proc) (fs.top.outer ++ (record { index = fs.top.at; inner = x }) ∷ []) 0) (sym w)

      chosen : ((slice_index fs.top.regs t ≡ 0) × (k ≡ No)) ⊎ ((slice_index fs.top.regs t ≡ 0 → ⊥) × (k ≡ Yes)) → leaf.at_zero (slice_index fs.top.regs t) (second c d) (first c) ++ rest ≡ items_at 1 (code_at procs fs.top.proc) (fs.top.outer ++ (record { index = fs.top.at; inner = k }) ∷ []) 0
      chosen (inl x) = ap (λ n. leaf.at_zero n (second c d) (first c) ++ rest) x.0 ∙ sym (inside_is No (Open.If t c d) e) ∙ to No x.1
      chosen (inr x) = ap (λ l. l ++ rest) (zero_or (slice_index fs.top.regs t) (second c d) (first c) x.0) ∙ sym (inside_is Yes (Open.If t c d) e) ∙ to Yes x.1

  pub while_entered : (t : ℕ) (c d : Code) (top : Frame) → out-Instr i ≡ Open.While c t d → top ≡ inside_of fs.top Cond → act_of procs fs i next ≡ leaf.Go (run_of procs (with_top fs top))
  unfolding run_with
  while_entered t c d top e is =
      by_instr (Open.While c t d) e ∙
      ap (λ l. leaf.Go (run_with l)) (sym (inside_is Cond (Open.While c t d) e)) ∙
      ap (λ f. leaf.Go (run_of procs (with_top fs f))) (sym is)

pub called : (procs : List Proc) (fs new : Frames) (name args regs : List ℕ) (frame : Frame) (p : Proc) → leaf.find procs name ≡ Some p → frame_of procs frame ≡ leaf.begin p (leaf.read_all regs args) → regs ≡ fs.top.regs → new.top ≡ frame → new.below.items ≡ fs.below.items ++ fs.top ∷ [] → call_of procs fs name args ≡ leaf.Go (run_of procs new)
called procs fs new name args regs frame p found b r t below =
    ap (λ o. leaf.with_proc o (λ q. leaf.Go (leaf.Run (leaf.begin q (leaf.read_all fs.top.regs args)) (caller_of procs fs.top ∷ callers_of procs fs.below.items [])))) found ∙
    ap (λ f. leaf.Go (leaf.Run f (caller_of procs fs.top ∷ callers_of procs fs.below.items []))) (ap (λ rs. leaf.begin p (leaf.read_all rs args)) (sym r) ∙ sym b ∙ ap (λ g. frame_of procs g) (sym t)) ∙
    ap (λ cs. leaf.Go (leaf.Run (frame_of procs new.top) cs)) (sym (ap (λ l. callers_of procs l []) below ∙ callers_snoc procs fs.below.items fs.top []))
