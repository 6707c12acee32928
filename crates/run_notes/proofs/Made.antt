-- Leaves that are fine make their step.
use Rattle.std.proofs.Common.{◌≡◌, ℕ, Bool, true, false, cond, List, [], ◌∷◌, ◌++◌, length, refl}
use Rattle.std.specs.Prelude.{Option, Some, None, nat_lt, slice_index}
use Rattle.target_code.specs.declared.tree.Instr.{Instr, out-Instr, Instr-F}
use Rattle.target_code.specs.declared.tree.Instr.TheOpen as I
use Rattle.target_code.specs.declared.tree.Code.{Code}
use Rattle.target_code.specs.declared.tree.Proc.{Proc}
use Rattle.target_meaning.specs.declared.path.Side.{Side}
use Rattle.target_meaning.specs.declared.path.Side.TheVariants.{Left, Right}
use Rattle.target_meaning.specs.Leaf.{Stack, Run, End, Wait, Item, Do, Test, Caller, Number, Is, No, Act, Go, Read, Write, Make, Cut, Split, Over, Bad, act, items_act, instr_act, return_act, with_number, with_proc, calc_of, find}
use Rattle.target_meaning.specs.LeftFirst.{has_ended}
use Rattle.target_meaning.specs.Machine.{Heap, Cell, Never, Live, Freed, Tree, Leaf, Fork, Answer, Moved, Stuck, Full, NoSuchLeaf, NameUsed, Notes, Room, is_new, read_cell, write_cell, cut_cell, perform, join_both, move, inside}
use Rattle.target_meaning.specs.Piece.{Piece, Holds}
use Rattle.target_meaning.specs.Held.{holdings, total, AllFine}
use Rattle.target_meaning.specs.Local.{next}
use Rattle.target_meaning.specs.Runs.{Schedule, OnMoved, IsNoStuck, and_then, reach}
use Rattle.target_meaning.proofs.Local.{step_local}
use Rattle.target_meaning.proofs.Stuck.{no_stuck}
use Rattle.run_notes.specs.Steps.{CanStep, IsMade}

-- the path and the name are no hindrance
abbrev IsThere : {A : Type 0} → Answer A → Type 0
IsThere (Moved t h) = Unit {0}
IsThere (Stuck r) = Unit {0}
IsThere Full = Unit {0}
IsThere NoSuchLeaf = ⊥
IsThere NameUsed = ⊥

-- a leaf is not over
abbrev IsUnder : Act → Type 0
IsUnder Over = ⊥
IsUnder _ = Unit {0}

number_under : (n : Number) (go : ℕ → Act) → ((v : ℕ) → IsUnder (go v)) → IsUnder (with_number n go)
number_under (Is v) go u = u v
number_under (No r) go u = tt

proc_under : (o : Option Proc) (go : Proc → Act) → ((p : Proc) → IsUnder (go p)) → IsUnder (with_proc o go)
proc_under None go u = tt
proc_under (Some p) go u = u p

module _ (T : List Proc) where
  instr_under : (line : ℕ) (items : List Item) (regs : List ℕ) (proc : Proc) (cs : List Caller) (o : Instr-F Instr Code) → IsUnder (instr_act T line items regs proc cs o)
  instr_under line items regs proc cs (I.Const to v) = tt
  instr_under line items regs proc cs (I.Mov to from) = tt
  instr_under line items regs proc cs (I.Calc to word l r) = number_under (calc_of word (slice_index regs l) (slice_index regs r)) _ (λ v. tt)
  instr_under line items regs proc cs (I.Load to b i) = tt
  instr_under line items regs proc cs (I.Store b i v) = tt
  instr_under line items regs proc cs (I.Alloc to n) = tt
  instr_under line items regs proc cs (I.Free b) = tt
  instr_under line items regs proc cs (I.If t c d) = tt
  instr_under line items regs proc cs (I.While c t b) = tt
  instr_under line items regs proc cs (I.Call to name args) = proc_under (find T name) _ (λ p. tt)
  instr_under line items regs proc cs (I.Par l r) = proc_under (find T l.proc) _ (λ p. proc_under (find T r.proc) _ (λ q. tt))

  return_under : (vs : List ℕ) (cs : List Caller) → IsUnder (return_act vs cs)
  return_under vs [] = tt
  return_under vs (c ∷ cs) = tt

  items_under : (items : List Item) (regs : List ℕ) (proc : Proc) (cs : List Caller) → IsUnder (items_act T items regs proc cs)
  items_under [] regs proc cs = return_under _ cs
  items_under (Do line i ∷ items) regs proc cs = instr_under line items regs proc cs (out-Instr i)
  items_under (Test line c t b ∷ items) regs proc cs = tt

if_there : {A : Type 0} (b : Bool) (x y : Answer A) → IsThere x → IsThere y → IsThere (cond b x y)
if_there true x y f g = f
if_there false x y f g = g

if_new : {A : Type 0} (b : Bool) (x : Answer A) → b ≡ true → IsThere x → IsThere (cond b x NameUsed)
if_new true x e f = f
if_new false x e f = cc e

module _ {A : Type 0} (N : Notes A) (room : Room) where
  read_there : (c : Cell) (i : ℕ) (a : A) (k : ℕ → Stack) (h : Heap) → IsThere (read_cell N c i a k h)
  read_there Never i a k h = tt
  read_there Freed i a k h = tt
  read_there (Live ws) i a k h = if_there (nat_lt i (length ws)) _ _ tt tt

  write_there : (c : Cell) (b i v : ℕ) (a : A) (s : Stack) (h : Heap) → IsThere (write_cell N c b i v a s h)
  write_there Never b i v a s h = tt
  write_there Freed b i v a s h = tt
  write_there (Live ws) b i v a s h = if_there (nat_lt i (length ws)) _ _ tt tt

  cut_there : (c : Cell) (b : ℕ) (a : A) (s : Stack) (h : Heap) → IsThere (cut_cell N c b a s h)
  cut_there Never b a s h = tt
  cut_there Freed b a s h = tt
  cut_there (Live ws) b a s h = tt

  perform_there : (a : A) (e : Act) (h : Heap) (x : ℕ) → IsUnder e → is_new h x ≡ true → IsThere (perform N room a e h x)
  perform_there a (Go s) h x u n = tt
  perform_there a (Read b i k) h x u n = read_there (h.cells b) i _ k h
  perform_there a (Write b i v s) h x u n = write_there (h.cells b) b i v _ s h
  perform_there a (Make m k) h x u n = if_there (room h m) _ _ (if_new (is_new h x) _ n tt) tt
  perform_there a (Cut b s) h x u n = cut_there (h.cells b) b _ s h
  perform_there a (Split l r w) h x u n = tt
  perform_there a Over h x u n = u
  perform_there a (Bad r) h x u n = tt

  inside_there : (a : Answer A) (g : Tree A → Tree A) → IsThere a → IsThere (inside N g a)
  inside_there (Moved t h) g w = tt
  inside_there (Stuck r) g w = tt
  inside_there Full g w = tt
  inside_there NoSuchLeaf g w = w
  inside_there NameUsed g w = w

  join_there : (a : A) (w : Wait) (l r : Tree A) (h : Heap) → has_ended l ≡ true → has_ended r ≡ true → IsThere (join_both N a w l r h)
  join_there a w (Leaf p (End xs)) (Leaf q (End ys)) h e f = tt
  join_there a w (Leaf p (End xs)) (Leaf q (Run g cs)) h e f = cc f
  join_there a w (Leaf p (End xs)) (Fork q v y z) h e f = cc f
  join_there a w (Leaf p (Run g cs)) r h e f = cc e
  join_there a w (Fork p v y z) r h e f = cc e

  move_there : (T : List Proc) (t : Tree A) (h : Heap) (path : List Side) (x : ℕ) → CanStep t path → is_new h x ≡ true → IsThere (move N room T t h path x)
  move_there T (Leaf a (Run f cs)) h [] x c n = perform_there a (act T (Run f cs)) h x (items_under T f.items f.regs f.proc cs) n
  move_there T (Leaf a (End vs)) h [] x c n = absurd c
  move_there T (Leaf a s) h (d ∷ ds) x c n = absurd c
  move_there T (Fork a w l r) h [] x c n = join_there a w l r h c.0 c.1
  move_there T (Fork a w l r) h (Left ∷ ds) x c n = inside_there (move N room T l h ds x) _ (move_there T l h ds x c n)
  move_there T (Fork a w l r) h (Right ∷ ds) x c n = inside_there (move N room T r h ds x) _ (move_there T r h ds x c n)

made_by : (u : Tree Piece) (a : Answer Piece) → OnMoved a (λ t h. t ≡ u) → IsNoStuck a → IsThere a → IsMade u a
made_by u (Moved t h) m s w = m
made_by u (Stuck r) m s w = s
made_by u Full m s w = tt
made_by u NoSuchLeaf m s w = w
made_by u NameUsed m s w = w

pub fine_made : (room : Room) (T : List Proc) (f : ℕ) (t : Tree Piece) (h : Heap) (path : List Side) (x : ℕ) → AllFine T f t → Holds (total t) h → CanStep t path → is_new h x ≡ true → IsMade (next T t path x) (move holdings room T t h path x)
fine_made room T f t h path x fine hs can new =
    made_by (next T t path x) (move holdings room T t h path x) (step_local room T f t h path x fine hs) (no_stuck room T f t h path x fine hs) (move_there holdings room T t h path x can new)

module _ {A : Type 0} (N : Notes A) (room : Room) (T : List Proc) where
  then_full : (a : Answer A) (k m : Tree A → Heap → Answer A) → ((u : Tree A) (g : Heap) → k u g ≡ Full → m u g ≡ Full) → and_then a k ≡ Full → and_then a m ≡ Full
  then_full (Moved u g) k m f e = f u g e
  then_full (Stuck r) k m f e = cc e
  then_full Full k m f e = refl
  then_full NoSuchLeaf k m f e = cc e
  then_full NameUsed k m f e = cc e

  pub full_longer : (es fs : Schedule) (t : Tree A) (h : Heap) → reach N room T es t h ≡ Full → reach N room T (es ++ fs) t h ≡ Full
  full_longer [] fs t h e = cc e
  full_longer (x ∷ es) fs t h e = then_full (move N room T t h x.0 x.1) (λ u g. reach N room T es u g) (λ u g. reach N room T (es ++ fs) u g) (λ u g. full_longer es fs u g) e
