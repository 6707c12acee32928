-- Frames to which results come back, and the step at a settled place.
use Rattle.std.proofs.Common.{◌≡◌, ℕ, suc, List, [], ◌∷◌, ◌++◌, sym, ap, ◌∙◌, subst}
use Rattle.std.specs.Prelude.{Option, Some, None, Result, IfOk, slice_get}
use Rattle.std.specs.declared.alloc.AllocError.{AllocError}
use Rattle.target_code.specs.declared.tree.Instr.{Instr, out-Instr}
use Rattle.target_code.specs.declared.tree.Proc.{Proc}
use Rattle.target_meaning.specs.declared.place.Outer.{Outer}
use Rattle.target_meaning.specs.declared.stack.Frame.{Frame}
use Rattle.target_meaning.specs.declared.stack.Frames.{Frames}
use Rattle.target_meaning.specs.declared.stack.Stack.{Stack}
use Rattle.target_meaning.specs.declared.stack.Stack.TheVariants.{Run}
use Rattle.target_meaning.specs.declared.frame.Todo.{Todo}
use Rattle.target_meaning.specs.Leaf as leaf
use Rattle.target_meaning.specs.Place.{items_at, list_at, place_line}
use Rattle.target_meaning.specs.Stacks.{proc_at, code_at, instr_at, frame_of, caller_of, callers_of, call_to, stack_of}
use Rattle.target_meaning.specs.Turns.{IsAt, PlainInstr, PlainItems, PlainNext, Tells, TellsAll, act_of, run_of, with_top, wait_of, to_by, left_step, right_step}
use Rattle.target_meaning.proofs.Rest.{next_item}
use Rattle.target_meaning.proofs.Levels.{past_end}
use Rattle.target_meaning.proofs.Entered.{callers_snoc}

-- the instruction at a place, by equal codes and places
pub seen : (code more : List Instr) (os ps : List Outer) (n : ℕ) (x : Option Instr) → code ≡ more → os ≡ ps → slice_get (list_at code os) n ≡ x → slice_get (list_at more ps) n ≡ x
seen code more os ps n x e f h =
    ap (λ c. slice_get (list_at c ps) n) (sym e) ∙ ap (λ l. slice_get (list_at code l) n) (sym f) ∙ h

module _ (procs : List Proc) where
  -- a frame with no instruction at its place
  pub none_resumed : (f : Frame) (words : List ℕ) → instr_at procs f ≡ None → frame_of procs f ≡ leaf.resume (caller_of procs f) words
  none_resumed f words e =
      let code = code_at procs f.proc in
      let frame : List leaf.Item → Option Instr → leaf.Frame = λ l o. record { proc = proc_at procs f.proc; items = l; regs = leaf.put_all (call_to o) words f.regs } in
      ap (λ l. frame l None) (sym (past_end 1 code f.outer f.at e)) ∙ ap (frame (items_at 1 code f.outer (suc f.at))) (sym e)

  pub none_rejoined : (fs : Frames) (xs ys : List ℕ) → instr_at procs fs.top ≡ None → run_of procs fs ≡ leaf.joined (wait_of procs fs) xs ys
  none_rejoined fs xs ys e =
      let code = code_at procs fs.top.proc in
      let stack : List leaf.Item → Option Instr → leaf.Stack = λ l o. leaf.Run (record { proc = proc_at procs fs.top.proc; items = l; regs = leaf.put_all (to_by right_step o) ys (leaf.put_all (to_by left_step o) xs fs.top.regs) }) (callers_of procs fs.below.items []) in
      ap (λ l. stack l None) (sym (past_end 1 code fs.top.outer fs.top.at e)) ∙ ap (stack (items_at 1 code fs.top.outer (suc fs.top.at))) (sym e)

  pub finished : (fs new : Frames) (caller : Frame) (vs words : List ℕ) → fs.below.items ≡ new.below.items ++ caller ∷ [] → words ≡ vs → frame_of procs new.top ≡ leaf.resume (caller_of procs caller) words → leaf.return_act vs (callers_of procs fs.below.items []) ≡ leaf.Go (run_of procs new)
  finished fs new caller vs words e w r =
      ap (λ l. leaf.return_act vs (callers_of procs l [])) e ∙ ap (leaf.return_act vs) (callers_snoc procs new.below.items caller []) ∙
      ap (λ v. leaf.Go (leaf.Run (leaf.resume (caller_of procs caller) v) (callers_of procs new.below.items []))) (sym w) ∙
      ap (λ f. leaf.Go (leaf.Run f (callers_of procs new.below.items []))) (sym r)

  pub at_instr : (fs : Frames) (i : Instr) (next : ℕ) → IsAt procs fs.top i next → leaf.act procs (run_of procs fs) ≡ act_of procs fs i next
  at_instr fs i next h =
      let code = code_at procs fs.top.proc in
      let items : List leaf.Item → leaf.Act = λ l. leaf.items_act procs l fs.top.regs (proc_at procs fs.top.proc) (callers_of procs fs.below.items []) in
      ap items (next_item 1 code fs.top.outer fs.top.at i h.there) ∙ ap (λ m. items (leaf.Do (place_line 1 code fs.top.outer fs.top.at) i ∷ items_at 1 code fs.top.outer m)) (sym h.is)

  abbrev pub placed : Frames → List Outer → ℕ → Frames
  placed fs os n = with_top fs (record { proc = fs.top.proc; outer = os; at = n; regs = fs.top.regs })

  -- another place from which the same is left to do
  pub replaced : (fs : Frames) (os : List Outer) (n : ℕ) → items_at 1 (code_at procs fs.top.proc) os n ≡ items_at 1 (code_at procs fs.top.proc) fs.top.outer fs.top.at → run_of procs (placed fs os n) ≡ run_of procs fs
  replaced fs os n e = ap (λ l. leaf.Run (record { proc = proc_at procs fs.top.proc; items = l; regs = fs.top.regs }) (callers_of procs fs.below.items [])) e

  -- the step of an instruction at a settled place
  pub instructed : (stack : Stack) (fs new : Frames) (code : List Instr) (os : List Outer) (n : ℕ) (i : Instr) (next : ℕ) (r : Result Todo AllocError) → stack ≡ Run fs → code ≡ code_at procs fs.top.proc → items_at 1 code os n ≡ items_at 1 code fs.top.outer fs.top.at → slice_get (list_at code os) n ≡ Some i → next ≡ suc n → IfOk r (λ todo. Tells procs (act_of procs (placed fs os n) i next) todo new) → IfOk r (λ todo. TellsAll procs (leaf.act procs (stack_of procs stack)) todo (Run new))
  instructed stack fs new code os n i next r s e kept there is h =
      let k : items_at 1 (code_at procs fs.top.proc) os n ≡ items_at 1 (code_at procs fs.top.proc) fs.top.outer fs.top.at = subst (λ c. items_at 1 c os n ≡ items_at 1 c fs.top.outer fs.top.at) e kept in
      let w : IsAt procs (placed fs os n).top i next = record { there = ap (λ c. slice_get (list_at c os) n) (sym e) ∙ there; is = is } in
      let same : act_of procs (placed fs os n) i next ≡ leaf.act procs (stack_of procs stack) = sym (at_instr (placed fs os n) i next w) ∙ ap (leaf.act procs) (replaced fs os n k ∙ ap (stack_of procs) (sym s)) in
      subst (λ a. IfOk r (λ todo. Tells procs a todo new)) same h

  -- a settled place has the instruction that comes next
  pub plain_do : (stack : Stack) (fs : Frames) (code : List Instr) (os : List Outer) (n : ℕ) (i : Instr) → stack ≡ Run fs → code ≡ code_at procs fs.top.proc → items_at 1 code os n ≡ items_at 1 code fs.top.outer fs.top.at → slice_get (list_at code os) n ≡ Some i → PlainNext (stack_of procs stack) → PlainInstr (out-Instr i)
  plain_do stack fs code os n i s e kept there h =
      let first : PlainItems (items_at 1 (code_at procs fs.top.proc) fs.top.outer fs.top.at) = subst (λ x. PlainNext (stack_of procs x)) s h in
      let items : items_at 1 (code_at procs fs.top.proc) fs.top.outer fs.top.at ≡ leaf.Do (place_line 1 code os n) i ∷ items_at 1 code os (suc n) = ap (λ c. items_at 1 c fs.top.outer fs.top.at) (sym e) ∙ sym kept ∙ next_item 1 code os n i there in
      subst PlainItems items first
