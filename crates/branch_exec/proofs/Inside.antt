-- Steps in the inner codes of an instruction.
use Rattle.std.proofs.Common.{◌≡◌, ℕ, zero, suc, ◌+◌, ◌-◌, ◌<◌, ◌≤◌, ◌⊎◌, inl, inr, ⊎_elim, List, [], ◌∷◌, ◌++◌, refl, sym, ap, ◌∙◌, subst, arith, append_assoc}
use Rattle.std.specs.Prelude.{Some, None, slice_get, slice_index, Bool, true, false, not}
use Rattle.target_code.specs.declared.tree.Code.{Code}
use Rattle.target_code.specs.declared.tree.Instr.{Instr, out-Instr}
use Rattle.target_code.specs.declared.tree.Instr.TheOpen as Open
use Rattle.target_code.specs.declared.tree.Proc.{Proc}
use Rattle.target_meaning.specs.Leaf as leaf
use Rattle.target_meaning.specs.Lines.{second_line}
use Rattle.target_meaning.specs.Place.{after_inner, inner_code, inner_line, inner_of, items_at, list_at}
use Rattle.target_meaning.specs.Settled.{AtTest, IsLoop}
use Rattle.target_meaning.specs.Stacks.{callers_of, code_at, frame_of, proc_at}
use Rattle.target_meaning.specs.Turns.{IsAt, act_of, run_of, with_top}
use Rattle.target_meaning.specs.declared.place.Inner.{Inner}
use Rattle.target_meaning.specs.declared.place.Inner.TheVariants.{Yes, No, Cond, Body}
use Rattle.target_meaning.specs.declared.place.Outer.{Outer}
use Rattle.target_meaning.specs.declared.stack.Frame.{Frame}
use Rattle.target_meaning.specs.declared.stack.Frames.{Frames}
use Rattle.target_meaning.proofs.Entered.{if_entered, while_entered}
use Rattle.target_meaning.proofs.Levels.{at_test, moved_again, moved_behind, snoc_list}
use Rattle.branch_exec.specs.Stores.{Kept}
use Rattle.branch_exec.specs.Legs.{Step}
use Rattle.branch_exec.specs.Straight.{FrameRan, IsAmong, IsSide, Listed, Makes, Passed, Rests, inside, placed}
use Rattle.branch_exec.specs.declared.straight.Steps.{Steps}
use Rattle.branch_exec.proofs.FrameRuns.{frame_made, frame_same, frame_tested, frame_then, frame_wide}
use Rattle.branch_exec.proofs.Took.{goes_on}

-- the list of an inner code of the instruction at hand
pub inside_list : (T : List Proc) (f : Frame) (i : Instr) (next : ℕ) (k : Inner) → IsAt T f i next → list_at (code_at T f.proc) (f.outer ++ (record { index = f.at; inner = k }) ∷ []) ≡ inner_code k (out-Instr i)
inside_list T f i next k h = snoc_list (code_at T f.proc) f.outer (record { index = f.at; inner = k }) ∙ ap (inner_of k) h.there

-- the step that enters an inner code
entered : (T : List Proc) (f g : Frame) (i : Instr) (next : ℕ) (k : Inner) (s : Kept) → IsAt T f i next → g ≡ inside f k → ((fs : Frames) → act_of T (with_top fs f) i next ≡ leaf.Go (run_of T (with_top fs (inside f k)))) → FrameRan T f s g s 1 1
entered T f g i next k s h e a =
    subst (λ x. FrameRan T f s x s 1 1) (sym e)
    (frame_made T f (inside f k) s s 1 i next (omega arith) h (λ fs. record {
      piece = s.top;
      step = subst (λ y. Step y s.top [] s.top (run_of T (with_top fs (inside f k)))) (sym (a fs)) (refl, refl, refl);
      on = goes_on s;
    }))

chosen : (w : ℕ) (c d : Code) (k : Inner) (l : List Instr) → IsSide w c d k l → ((w ≡ 0) × (k ≡ No)) ⊎ ((w ≡ 0 → ⊥) × (k ≡ Yes))
chosen w c d k l (inl x) = inl (x.0, x.1)
chosen w c d k l (inr x) = inr (x.0, x.1)

pub if_step : (T : List Proc) (f g : Frame) (i : Instr) (next w t : ℕ) (c d : Code) (k : Inner) (l : List Instr) (s : Kept) → IsAt T f i next → out-Instr i ≡ Open.If t c d → w ≡ slice_index f.regs t → IsSide w c d k l → g ≡ inside f k → FrameRan T f s g s 1 1
if_step T f g i next w t c d k l s h e v x is =
    entered T f g i next k s h is (λ fs. if_entered T (with_top fs f) i next h t c d k (inside f k) e (subst (λ n. ((n ≡ 0) × (k ≡ No)) ⊎ ((n ≡ 0 → ⊥) × (k ≡ Yes))) v (chosen w c d k l x)) refl)

pub while_step : (T : List Proc) (f g : Frame) (i : Instr) (next t : ℕ) (c d : Code) (s : Kept) → IsAt T f i next → out-Instr i ≡ Open.While c t d → g ≡ inside f Cond → FrameRan T f s g s 1 1
while_step T f g i next t c d s h e is =
    entered T f g i next Cond s h is (λ fs. while_entered T (with_top fs f) i next h t c d (inside f Cond) e refl)

-- the list of the side that is entered
pub if_list : (T : List Proc) (f g : Frame) (i : Instr) (next w t : ℕ) (c d : Code) (k : Inner) (l : List Instr) → IsAt T f i next → out-Instr i ≡ Open.If t c d → IsSide w c d k l → g ≡ inside f k → l ≡ list_at (code_at T g.proc) g.outer
if_list T f g i next w t c d k l h e x is =
    by_side x ∙ sym (ap (inner_code k) e) ∙ sym (inside_list T f i next k h) ∙ ap (λ (y : Frame). list_at (code_at T y.proc) y.outer) (sym is)
  where
    by_side : IsSide w c d k l → l ≡ inner_code k (Open.If t c d)
    by_side (inl y) = y.2 ∙ ap (λ j. inner_code j (Open.If t c d)) (sym y.1)
    by_side (inr y) = y.2 ∙ ap (λ j. inner_code j (Open.If t c d)) (sym y.1)

-- behind an `if`
if_behind : (w t : ℕ) (c d : Code) (k : Inner) (l : List Instr) (line : ℕ) → IsSide w c d k l → after_inner k line (Open.If t c d) ≡ []
if_behind w t c d k l line (inl x) = ap (λ j. after_inner j line (Open.If t c d)) x.1
if_behind w t c d k l line (inr x) = ap (λ j. after_inner j line (Open.If t c d)) x.1

pub if_left : (T : List Proc) (f g h m : Frame) (i : Instr) (next w t : ℕ) (c d : Code) (k : Inner) (l : List Instr) (s : Kept) → IsAt T f i next → out-Instr i ≡ Open.If t c d → IsSide w c d k l → g ≡ inside f k → IsAmong g h → slice_get l h.at ≡ None → m ≡ placed h f.outer next → FrameRan T h s m s 0 0
if_left T f g h m i next w t c d k l s at e x is among over left =
    let proc : h.proc ≡ f.proc = among.proc ∙ ap (λ (y : Frame). y.proc) is in
    let split : h.outer ≡ f.outer ++ (record { index = f.at; inner = k }) ∷ [] = among.outer ∙ ap (λ (y : Frame). y.outer) is in
    let code : code_at T h.proc ≡ code_at T f.proc = ap (code_at T) proc in
    let list : l ≡ list_at (code_at T f.proc) h.outer = if_list T f g i next w t c d k l at e x is ∙ ap (λ (y : Frame). list_at (code_at T y.proc) y.outer) is ∙ ap (list_at (code_at T f.proc)) (sym split) in
    let none : slice_get (list_at (code_at T f.proc) h.outer) h.at ≡ None = ap (λ y. slice_get y h.at) (sym list) ∙ over in
    let items : items_at 1 (code_at T f.proc) f.outer next ≡ items_at 1 (code_at T f.proc) h.outer h.at = moved_behind (code_at T f.proc) h.outer f.outer f.outer (record { index = f.at; inner = k }) h.at split i next none at.there at.is refl (λ line. ap (after_inner k line) e ∙ if_behind w t c d k l line x) in
    let here : items_at 1 (code_at T h.proc) f.outer next ≡ items_at 1 (code_at T h.proc) h.outer h.at = subst (λ y. items_at 1 y f.outer next ≡ items_at 1 y h.outer h.at) (sym code) items in
    subst (λ y. FrameRan T h s y s 0 0) (sym left)
    (frame_same T h (placed h f.outer next) s s 0 (ap (λ y. record { proc = proc_at T h.proc; items = y; regs = h.regs }) here) (goes_on s))

-- the codes of a loop
loop_of : (i : Instr) (t : ℕ) (c d : Code) → out-Instr i ≡ Open.While c t d → IsLoop t i
loop_of i t c d e = record {
  cond = c.list;
  body = d.list;
  first = λ line. ap (after_inner Cond line) e;
  second = λ line. ap (after_inner Body line) e;
  first_code = ap (inner_code Cond) e;
  second_code = ap (inner_code Body) e;
  first_line = λ line. ap (inner_line Cond line) e;
  lines = λ line. ap (inner_line Body line) e;
}

-- a frame stands in an inner code of a loop at which another frame stood
pub record InLoop (f h : Frame) (k : Inner) : Type 0 where
  pub proc : h.proc ≡ f.proc
  pub outer : h.outer ≡ f.outer ++ (record { index = f.at; inner = k }) ∷ []

pub loop_list : (T : List Proc) (f h : Frame) (i : Instr) (next : ℕ) (k : Inner) → IsAt T f i next → InLoop f h k → list_at (code_at T h.proc) h.outer ≡ inner_code k (out-Instr i)
loop_list T f h i next k at in_loop =
    ap (λ n. list_at (code_at T n) h.outer) in_loop.proc ∙ ap (list_at (code_at T f.proc)) in_loop.outer ∙ inside_list T f i next k at

module _ (T : List Proc) (f h : Frame) (i : Instr) (next t : ℕ) (c d : Code) (at : IsAt T f i next) (e : out-Instr i ≡ Open.While c t d) where
  none_in : (k : Inner) → InLoop f h k → slice_get (inner_code k (out-Instr i)) h.at ≡ None → slice_get (list_at (code_at T h.proc) h.outer) h.at ≡ None
  none_in k in_loop over = ap (λ y. slice_get y h.at) (loop_list T f h i next k at in_loop) ∙ over

  there_in : (k : Inner) → InLoop f h k → slice_get (list_at (code_at T h.proc) f.outer) f.at ≡ Some i
  there_in k in_loop = ap (λ n. slice_get (list_at (code_at T n) f.outer) f.at) in_loop.proc ∙ at.there

  at_test_in : InLoop f h Cond → slice_get c.list h.at ≡ None → AtTest (code_at T h.proc) t next h.outer h.at
  at_test_in in_loop over =
      at_test (code_at T h.proc) h.outer f.outer f.outer (record { index = f.at; inner = Cond }) h.at in_loop.outer i next
      (none_in Cond in_loop (ap (λ y. slice_get y h.at) (ap (inner_code Cond) e) ∙ over)) (there_in Cond in_loop) at.is refl t (loop_of i t c d e)

  -- the loop begins again
  pub loop_again : (m : Frame) (s : Kept) → InLoop f h Body → slice_get d.list h.at ≡ None → m ≡ placed h (f.outer ++ (record { index = f.at; inner = Cond }) ∷ []) 0 → FrameRan T h s m s 0 0
  loop_again m s in_loop over is =
      let new = f.outer ++ (record { index = f.at; inner = Cond }) ∷ [] in
      let items : items_at 1 (code_at T h.proc) new 0 ≡ items_at 1 (code_at T h.proc) h.outer h.at = moved_again (code_at T h.proc) h.outer new f.outer (record { index = f.at; inner = Body }) h.at in_loop.outer i next
      (none_in Body in_loop (ap (λ y. slice_get y h.at) (ap (inner_code Body) e) ∙ over)) (there_in Body in_loop) at.is refl refl t (loop_of i t c d e) in
      subst (λ y. FrameRan T h s y s 0 0) (sym is)
      (frame_same T h (placed h new 0) s s 0 (ap (λ y. record { proc = proc_at T h.proc; items = y; regs = h.regs }) items) (goes_on s))

zero_or : {A : Type 0} (n : ℕ) (a b : A) → (n ≡ 0 → ⊥) → leaf.at_zero n a b ≡ b
zero_or zero a b ne = absurd (ne refl)
zero_or (suc n) a b ne = refl

-- the test of a loop at 0, and else
module _ (T : List Proc) (h m : Frame) (t next : ℕ) (s : Kept) (x : AtTest (code_at T h.proc) t next h.outer h.at) where
  abbrev rest : List leaf.Item
  rest = items_at 1 (code_at T h.proc) x.front next

  abbrev more : List leaf.Item
  more = (leaf.do_all (second_line x.line x.cond) x.body ++ leaf.do_all (suc x.line) x.cond) ++ leaf.Test x.line x.cond t x.body ∷ rest

  test_act : (cs : List leaf.Caller) → leaf.act T (leaf.Run (frame_of T h) cs) ≡ leaf.Go (leaf.Run (record { proc = proc_at T h.proc; items = leaf.at_zero (slice_index h.regs t) rest more; regs = h.regs }) cs)
  test_act cs = ap (λ l. leaf.items_act T l h.regs (proc_at T h.proc) cs) x.is

  pub test_zero : slice_index h.regs t ≡ 0 → m ≡ placed h x.front next → FrameRan T h s m s 1 1
  test_zero z is = frame_tested T h m s 1 (omega arith) (λ cs.
      test_act cs ∙
      ap (λ n. leaf.Go (leaf.Run (record { proc = proc_at T h.proc; items = leaf.at_zero n rest more; regs = h.regs }) cs)) z ∙
      ap (λ y. leaf.Go (leaf.Run (frame_of T y) cs)) (sym is))

  pub test_else : (slice_index h.regs t ≡ 0 → ⊥) → m ≡ placed h (x.front ++ (record { index = x.level.index; inner = Body }) ∷ []) 0 → FrameRan T h s m s 1 1
  test_else z is = frame_tested T h m s 1 (omega arith) (λ cs.
      test_act cs ∙
      ap (λ l. leaf.Go (leaf.Run (record { proc = proc_at T h.proc; items = l; regs = h.regs }) cs)) (zero_or (slice_index h.regs t) rest more z ∙ (append_assoc (leaf.do_all (second_line x.line x.cond) x.body) (leaf.do_all (suc x.line) x.cond) (leaf.Test x.line x.cond t x.body ∷ rest) ∙ sym x.again)) ∙
      ap (λ y. leaf.Go (leaf.Run (frame_of T y) cs)) (sym is))

-- steps after steps, of all that may be made
pub and_then : (T : List Proc) (f g h : Frame) (s m t : Kept) (most made more : ℕ) → FrameRan T f s g m most made → FrameRan T g m h t (most - made) more → FrameRan T f s h t most (made + more)
and_then T f g h s m t most made more x y = let few = x.few in frame_then T f g h s m t most made (most - made) more (omega arith) x y

pub and_one : (T : List Proc) (f g h : Frame) (s m t : Kept) (most made : ℕ) → made < most → FrameRan T f s g m most made → FrameRan T g m h t 1 1 → FrameRan T f s h t most (made + 1)
and_one T f g h s m t most made lt x y = frame_then T f g h s m t most made 1 1 (omega arith) x y

pub and_none : (T : List Proc) (f g h : Frame) (s m t : Kept) (most made : ℕ) → FrameRan T f s g m most made → FrameRan T g m h t 0 0 → FrameRan T f s h t most made
and_none T f g h s m t most made x y =
    let few = x.few in
    let n : made + 0 ≡ made = omega arith in
    subst (λ n. FrameRan T f s h t most n) n (frame_then T f g h s m t most made 0 0 (omega arith) x y)

-- ---- what was made of an instruction

pub not_not : (b : Bool) → not b ≡ false → b ≡ true
not_not true e = refl
not_not false e = cc e

-- nothing was made
pub passed_none : (T : List Proc) (f g : Frame) (s t : Kept) (most next : ℕ) → Rests false f s g t → Passed T f s g t most next (record { made = 0; through = false })
passed_none T f g s t most next x = record {
  ran = frame_same T f g s t most (ap (frame_of T) x.0) x.1;
  among = λ e. cc e;
  behind = λ e. cc e;
  some = λ e. cc e;
}

-- steps of which none came behind it
pub passed_not : (T : List Proc) (f g : Frame) (s t : Kept) (most made next : ℕ) → FrameRan T f s g t most made → Passed T f s g t most next (record { made = made; through = false })
passed_not T f g s t most made next x = record { ran = x; among = λ e. cc e; behind = λ e. cc e; some = λ e. cc e }

pub listed_not : (T : List Proc) (list : List Instr) (f g : Frame) (s t : Kept) (most made : ℕ) → FrameRan T f s g t most made → Listed T list f s g t most (record { made = made; through = false })
listed_not T list f g s t most made x = record { ran = x; among = λ e. cc e; over = λ e. cc e }

among_then : (f g h : Frame) → IsAmong f g → IsAmong g h → IsAmong f h
among_then f g h x y = record { proc = y.proc ∙ x.proc; outer = y.outer ∙ x.outer }

-- a step on registers and words
pub passed_plain : (T : List Proc) (f g : Frame) (s t : Kept) (most next : ℕ) (i : Instr) → 0 < most → IsAt T f i next → ((procs : List Proc) (fs : Frames) → Makes true procs fs i next f s g t) → g.proc ≡ f.proc → g.outer ≡ f.outer → g.at ≡ next → Passed T f s g t most next (record { made = 1; through = true })
passed_plain T f g s t most next i lt at made proc outer there = record {
  ran = frame_made T f g s t most i next (omega arith) at (λ fs. made T fs);
  among = λ e. record { proc = proc; outer = outer };
  behind = λ e. there;
  some = λ e. omega arith;
}

-- one more instruction of a list
pub list_then : (T : List Proc) (f g h : Frame) (s m t : Kept) (most made next : ℕ) (r : Steps) → r.through ≡ true → FrameRan T f s g m most made → IsAmong f g → Passed T g m h t (most - made) next r → FrameRan T f s h t most (made + r.made) × IsAmong f h
list_then T f g h s m t most made next r e x a y = (and_then T f g h s m t most made r.made x y.ran, among_then f g h a (y.among e))

-- an `if`, by what was made of its side
module _ (T : List Proc) (f g h m : Frame) (i : Instr) (next w v most : ℕ) (c d : Code) (k : Inner) (l : List Instr) (s t : Kept) (r : Steps)
    (at : IsAt T f i next) (e : out-Instr i ≡ Open.If v c d) (word : w ≡ slice_index f.regs v) (side : IsSide w c d k l) (is : g ≡ inside f k) (lt : 0 < most) (ran : Listed T l g s h t (most - 1) r) where
  if_ran : FrameRan T f s h t most (r.made + 1)
  if_ran =
      let n : 1 + r.made ≡ r.made + 1 = omega arith in
      subst (λ n. FrameRan T f s h t most n) n
      (frame_then T f g h s s t most 1 (most - 1) r.made (omega arith) (frame_wide T f g s s most 1 1 lt (if_step T f g i next w v c d k l s at e word side is)) ran.ran)

  pub if_through : r.through ≡ true → m ≡ placed h f.outer next → Passed T f s m t most next (record { made = r.made + 1; through = r.through })
  if_through q left =
      let proc : m.proc ≡ f.proc = ap (λ (y : Frame). y.proc) left ∙ (ran.among q).proc ∙ ap (λ (y : Frame). y.proc) is in
      record {
        ran = and_none T f h m s t t most (r.made + 1) if_ran (if_left T f g h m i next w v c d k l t at e side is (ran.among q) (ran.over q) left);
        among = λ z. record { proc = proc; outer = ap (λ (y : Frame). y.outer) left };
        behind = λ z. ap (λ (y : Frame). y.at) left;
        some = λ z. omega arith;
      }

  pub if_not : r.through ≡ false → m ≡ h → Passed T f s m t most next (record { made = r.made + 1; through = r.through })
  if_not q same = record {
    ran = subst (λ y. FrameRan T f s y t most (r.made + 1)) (sym same) if_ran;
    among = λ z. cc (q, z);
    behind = λ z. cc (q, z);
    some = λ z. omega arith;
  }

-- a loop
pub in_loop_first : (f g : Frame) → g ≡ inside f Cond → InLoop f g Cond
in_loop_first f g e = record { proc = ap (λ (y : Frame). y.proc) e; outer = ap (λ (y : Frame). y.outer) e }

among_loop : (f g h : Frame) (k : Inner) → InLoop f g k → IsAmong g h → InLoop f h k
among_loop f g h k x y = record { proc = y.proc ∙ x.proc; outer = y.outer ∙ x.outer }

pub cond_list : (T : List Proc) (f g : Frame) (i : Instr) (next v : ℕ) (c d : Code) (l : List Instr) → IsAt T f i next → out-Instr i ≡ Open.While c v d → InLoop f g Cond → l ≡ c.list → l ≡ list_at (code_at T g.proc) g.outer
cond_list T f g i next v c d l at e x is = is ∙ sym (ap (inner_code Cond) e) ∙ sym (loop_list T f g i next Cond at x)

pub body_list : (T : List Proc) (f g : Frame) (i : Instr) (next v : ℕ) (c d : Code) (l : List Instr) → IsAt T f i next → out-Instr i ≡ Open.While c v d → InLoop f g Body → l ≡ d.list → l ≡ list_at (code_at T g.proc) g.outer
body_list T f g i next v c d l at e x is = is ∙ sym (ap (inner_code Body) e) ∙ sym (loop_list T f g i next Body at x)

-- a loop that came to its test: f stood at it, g where its condition began, h at its end, m after the test
module _ (T : List Proc) (f g h m : Frame) (i : Instr) (next v most made : ℕ) (c d : Code) (l : List Instr) (s n t : Kept) (r : Steps)
    (at : IsAt T f i next) (e : out-Instr i ≡ Open.While c v d) (list : l ≡ c.list) (before : FrameRan T f s g n most made) (inside_cond : InLoop f g Cond) (ran : Listed T l g n h t (most - made) r) where
  pub tested_ran : FrameRan T f s h t most (made + r.made)
  tested_ran = and_then T f g h s n t most made r.made before ran.ran

  tested_at : r.through ≡ true → AtTest (code_at T h.proc) v next h.outer h.at
  tested_at q = at_test_in T f h i next v c d at e (among_loop f g h Cond inside_cond (ran.among q)) (ap (λ y. slice_get y h.at) (sym list) ∙ ran.over q)

  pub loop_left : r.through ≡ true → made + r.made < most → (slice_index h.regs v ≡ 0) × ((os : List Outer) (o : Outer) → h.outer ≡ os ++ o ∷ [] → m ≡ placed h os next) → Passed T f s m t most next (record { made = made + r.made + 1; through = true })
  loop_left q lt left =
      let x = tested_at q in
      let j = among_loop f g h Cond inside_cond (ran.among q) in
      let is : m ≡ placed h f.outer next = left.1 f.outer (record { index = f.at; inner = Cond }) j.outer in
      record {
        ran = and_one T f h m s t t most (made + r.made) lt tested_ran (test_zero T h m v next t x left.0 (left.1 x.front x.level x.split));
        among = λ z. record { proc = ap (λ (y : Frame). y.proc) is ∙ j.proc; outer = ap (λ (y : Frame). y.outer) is };
        behind = λ z. ap (λ (y : Frame). y.at) is;
        some = λ z. omega arith;
      }

  pub loop_turned : r.through ≡ true → made + r.made < most → (slice_index h.regs v ≡ 0 → ⊥) × ((os : List Outer) (o : Outer) → h.outer ≡ os ++ o ∷ [] → m ≡ placed h (os ++ (record { index = o.index; inner = Body }) ∷ []) 0) → FrameRan T f s m t most (made + r.made + 1) × InLoop f m Body
  loop_turned q lt turned =
      let x = tested_at q in
      let j = among_loop f g h Cond inside_cond (ran.among q) in
      let is = turned.1 f.outer (record { index = f.at; inner = Cond }) j.outer in (
        and_one T f h m s t t most (made + r.made) lt tested_ran (test_else T h m v next t x turned.0 (turned.1 x.front x.level x.split)),
        record { proc = ap (λ (y : Frame). y.proc) is ∙ j.proc; outer = ap (λ (y : Frame). y.outer) is },
      )

-- a loop whose body came to its end: g where it began, h at its end, m where the condition begins again
pub loop_ended : (T : List Proc) (f g h m : Frame) (i : Instr) (next v most made : ℕ) (c d : Code) (l : List Instr) (s n t : Kept) (r : Steps) → IsAt T f i next → out-Instr i ≡ Open.While c v d → l ≡ d.list → FrameRan T f s g n most made → InLoop f g Body → Listed T l g n h t (most - made) r → r.through ≡ true
    → ((os : List Outer) (o : Outer) → h.outer ≡ os ++ o ∷ [] → m ≡ placed h (os ++ (record { index = o.index; inner = Cond }) ∷ []) 0) → FrameRan T f s m t most (made + r.made) × InLoop f m Cond
loop_ended T f g h m i next v most made c d l s n t r at e list before inside_body ran q turned =
    let j = among_loop f g h Body inside_body (ran.among q) in
    let is = turned f.outer (record { index = f.at; inner = Body }) j.outer in (
      and_none T f h m s t t most (made + r.made) (and_then T f g h s n t most made r.made before ran.ran)
          (loop_again T f h i next v c d at e m t j (ap (λ y. slice_get y h.at) (sym list) ∙ ran.over q) is),
      record { proc = ap (λ (y : Frame). y.proc) is ∙ j.proc; outer = ap (λ (y : Frame). y.outer) is },
    )
