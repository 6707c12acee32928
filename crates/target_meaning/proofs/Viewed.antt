-- What is seen of a leaf, by where it stands.
use Rattle.std.proofs.Common.{◌≡◌, ℕ, zero, suc, ◌+◌, ◌<◌, ◌≤◌, List, [], ◌∷◌, length, drop, get_or, refl, sym, ap, ◌∙◌, subst, arith}
use Rattle.std.proofs.Math.Numerals.{add-one}
use Rattle.std.specs.Prelude.{Some, slice_get, min}
use Rattle.target_code.specs.declared.tree.Instr.{Instr, out-Instr}
use Rattle.target_code.specs.declared.tree.Instr.TheOpen as Open
use Rattle.target_code.specs.declared.tree.Code.{Code}
use Rattle.target_code.specs.declared.tree.Branch.{Branch}
use Rattle.target_code.specs.declared.tree.Proc.{Proc}
use Rattle.target_meaning.specs.declared.place.Outer.{Outer}
use Rattle.target_meaning.specs.declared.stack.Frame.{Frame}
use Rattle.target_meaning.specs.declared.path.Side.{Side}
use Rattle.target_meaning.specs.declared.view.LeafView.{LeafView}
use Rattle.target_meaning.specs.declared.view.Next.{Next}
use Rattle.target_meaning.specs.Leaf as leaf
use Rattle.target_meaning.specs.Lines.{counted}
use Rattle.target_meaning.specs.Machine.{Heap}
use Rattle.target_meaning.specs.Place.{items_at, list_at, place_line}
use Rattle.target_meaning.specs.Stacks.{code_at, frame_of, callers_of, caller_of}
use Rattle.target_meaning.specs.Views.{act_next, proc_next, instr_next, items_seen, line_in, callers_regs, other, next_seen, view_of}
use Rattle.target_meaning.proofs.Rest.{next_item}

module _ (procs : List Proc) (h : Heap) (line : ℕ) (items : List leaf.Item) (regs : List ℕ) (proc : Proc) (cs : List leaf.Caller) (i : Instr) (n : Next) where
  abbrev seen : Open.Instr-F Instr Code → Next
  seen o = act_next h (leaf.instr_act procs line items regs proc cs o) (instr_next procs o)

  pub call_seen : (to args name : List ℕ) → out-Instr i ≡ Open.Call to name args → ((k : Heap) (go : Proc → leaf.Stack) → n ≡ act_next k (leaf.with_proc (leaf.find procs name) (λ p. leaf.Go (go p))) (proc_next (leaf.find procs name))) → n ≡ seen (out-Instr i)
  call_seen to args name e f =
      f h (λ p. leaf.Run (leaf.begin p (leaf.read_all regs args)) (record { frame = record { proc = proc; items = items; regs = regs }; to = to } ∷ cs)) ∙ ap seen (sym e)

  pub fork_seen : (l r : Branch) → out-Instr i ≡ Open.Par l r → ((k : Heap) (first second : Proc → leaf.Child) (w : leaf.Wait) → n ≡ act_next k (leaf.with_proc (leaf.find procs l.proc) (λ p. leaf.with_proc (leaf.find procs r.proc) (λ q. leaf.Split (first p) (second q) w))) other) → n ≡ seen (out-Instr i)
  fork_seen l r e f =
      f h (leaf.child_of l regs) (leaf.child_of r regs) (record { frame = record { proc = proc; items = items; regs = regs }; callers = cs; left = l.to; right = r.to }) ∙ ap seen (sym e)

-- at an instruction
pub do_line : (code : List Instr) (os : List Outer) (n : ℕ) (i : Instr) → slice_get (list_at code os) n ≡ Some i → line_in code (items_at 1 code os n) ≡ place_line 1 code os n
do_line code os n i e = ap (line_in code) (next_item 1 code os n i e)

pub do_seen : (procs : List Proc) (h : Heap) (code : List Instr) (os : List Outer) (n : ℕ) (i : Instr) (regs : List ℕ) (proc : Proc) (cs : List leaf.Caller) (x : Next) → slice_get (list_at code os) n ≡ Some i → ((line : ℕ) (items : List leaf.Item) (p : Proc) (ds : List leaf.Caller) → x ≡ act_next h (leaf.instr_act procs line items regs p ds (out-Instr i)) (instr_next procs (out-Instr i))) → x ≡ items_seen procs h (items_at 1 code os n) regs proc cs
do_seen procs h code os n i regs proc cs x e f =
    f (place_line 1 code os n) (items_at 1 code os (suc n)) proc cs ∙ ap (λ l. items_seen procs h l regs proc cs) (sym (next_item 1 code os n i e))

-- the registers of frames that wait
abbrev pub frames_regs : List Frame → ℕ
frames_regs [] = 0
frames_regs (f ∷ fs) = length f.regs + frames_regs fs

pub regs_of : (procs : List Proc) (fs : List Frame) (cs : List leaf.Caller) → callers_regs (callers_of procs fs cs) ≡ frames_regs fs + callers_regs cs
regs_of procs [] cs = omega arith
regs_of procs (f ∷ fs) cs = omega (arith, regs_of procs fs (caller_of procs f ∷ cs))

pub regs_more : (fs : List Frame) (k regs next : ℕ) (d : Frame) → k < length fs → next ≡ counted (regs + length (get_or fs k d).regs) → counted (next + frames_regs (drop (k + 1) fs)) ≡ counted (regs + frames_regs (drop k fs))
regs_more fs k regs next d lt e = ap (λ m. counted (next + frames_regs (drop m fs))) (add-one k) ∙ go fs k lt e
  where
    go : (fs : List Frame) (k : ℕ) → k < length fs → next ≡ counted (regs + length (get_or fs k d).regs) → counted (next + frames_regs (drop (suc k) fs)) ≡ counted (regs + frames_regs (drop k fs))
    go [] k lt e = absurd (let f : ⊥ = omega (arith, lt) in f)
    go (f ∷ fs) zero lt e = omega (arith, e)
    go (f ∷ fs) (suc k) lt e = go fs k (omega (arith, lt)) e

pub regs_end : (procs : List Proc) (fs : List Frame) (k regs : ℕ) → regs < 18446744073709551616 → length fs ≤ k → counted (frames_regs fs) ≡ counted (regs + frames_regs (drop k fs)) → regs ≡ counted (callers_regs (callers_of procs fs []))
regs_end procs fs k regs lt le e = none fs k le ∙ sym e ∙ ap counted (let s : frames_regs fs ≡ callers_regs (callers_of procs fs []) = omega (arith, regs_of procs fs []) in s)
  where
    none : (fs : List Frame) (k : ℕ) → length fs ≤ k → regs ≡ counted (regs + frames_regs (drop k fs))
    none [] zero le = omega (arith, lt)
    none [] (suc k) le = omega (arith, lt)
    none (f ∷ fs) zero le = absurd (let g : ⊥ = omega (arith, le) in g)
    none (f ∷ fs) (suc k) le = none fs k (omega (arith, le))

pub callers_length : (procs : List Proc) (fs : List Frame) (cs : List leaf.Caller) → length (callers_of procs fs cs) ≡ length fs + length cs
callers_length procs [] cs = omega arith
callers_length procs (f ∷ fs) cs = omega (arith, callers_length procs fs (caller_of procs f ∷ cs))

-- what is left to do at a place where a frame was settled
pub placed : (procs : List Proc) (top : Frame) (code : List Instr) (os old : List Outer) (n : ℕ) → code ≡ code_at procs top.proc → old ≡ top.outer → items_at 1 code os n ≡ items_at 1 code old top.at → items_at 1 (code_at procs top.proc) os n ≡ (frame_of procs top).items
placed procs top code os old n e o kept =
    subst (λ c. items_at 1 c os n ≡ items_at 1 c old top.at) e kept ∙ ap (λ l. items_at 1 (code_at procs top.proc) l top.at) o

pub placed_line : (code more : List Instr) (seen os : List Outer) (n line : ℕ) (items : List leaf.Item) → line ≡ counted (line_in code (items_at 1 code seen n)) → code ≡ more → seen ≡ os → items_at 1 more os n ≡ items → line ≡ counted (line_in more items)
placed_line code more seen os n line items h e o k =
    h ∙ ap (λ c. counted (line_in c (items_at 1 c seen n))) e ∙ ap (λ l. counted (line_in more (items_at 1 more l n))) o ∙ ap (λ l. counted (line_in more l)) k

pub same_line : (p : Proc) (items : List leaf.Item) → line_in p.code.list items ≡ leaf.next_line items p
same_line p [] = refl
same_line p (i ∷ items) = refl

-- a view by its parts
abbrev view : List Side → List ℕ → ℕ → ℕ → ℕ → Next → LeafView
view z n l w r x = record { path = z; proc = n; line = l; frames = w; regs = r; next = x }

pub view_made : (procs : List Proc) (h : Heap) (path p : List Side) (f : leaf.Frame) (cs : List leaf.Caller) (name : List ℕ) (line frames regs : ℕ) (next : Next) → p ≡ path → name ≡ f.proc.name → line ≡ (next_seen procs h f cs).0 → frames ≡ counted (suc (length cs)) → regs ≡ counted (length f.regs + callers_regs cs) → next ≡ (next_seen procs h f cs).1 → record { path = p; proc = name; line = line; frames = frames; regs = regs; next = next } ≡ view_of procs h path f cs
view_made procs h path p f cs name line frames regs next a b c d e g =
    ap (λ z. view z name line frames regs next) a ∙ (ap (λ z. view path z line frames regs next) b ∙ (ap (λ z. view path f.proc.name z frames regs next) c ∙
    (ap (λ z. view path f.proc.name (next_seen procs h f cs).0 z regs next) d ∙
    (ap (λ z. view path f.proc.name (next_seen procs h f cs).0 (counted (suc (length cs))) z next) e ∙
    ap (λ z. view path f.proc.name (next_seen procs h f cs).0 (counted (suc (length cs))) (counted (length f.regs + callers_regs cs)) z) g))))

pub pair : {A B : Type 0} {a c : A} {b d : B} → a ≡ c → b ≡ d → ◌≡◌ {A = A × B} (a, b) (c, d)
pair {A = A} {B = B} {c = c} {b = b} e f =
    let first : A → A × B = λ x. (x, b) in
    let second : B → A × B = λ y. (c, y) in
    ap first e ∙ ap second f

pub frames_made : (procs : List Proc) (fs : List Frame) (len r : ℕ) → r ≡ min (len + 1) 18446744073709551615 → len ≡ length fs → r ≡ counted (suc (length (callers_of procs fs [])))
frames_made procs fs len r e l = omega (arith, e, l, callers_length procs fs [])

pub regs_made : (n m r a b : ℕ) → r ≡ min (n + m) 18446744073709551615 → n ≡ a → m ≡ counted b → r ≡ counted (a + b)
regs_made n m r a b e f g = omega (arith, e, f, g)

pub next_made : (procs : List Proc) (h : Heap) (some items : List leaf.Item) (seen regs : List ℕ) (proc : Proc) (cs : List leaf.Caller) (x : Next) → x ≡ items_seen procs h some seen proc cs → seen ≡ regs → some ≡ items → x ≡ items_seen procs h items regs proc cs
next_made procs h some items seen regs proc cs x e r i =
    e ∙ ap (λ l. items_seen procs h some l proc cs) r ∙ ap (λ l. items_seen procs h l regs proc cs) i
