-- The machine's step of a leaf, by what the code was told of it and what the heap answered.
use Rattle.std.proofs.Common.{◌≡◌, ℕ, List, [], sym, ap, ◌∙◌, subst}
use Rattle.std.specs.Prelude.{Result}
use Rattle.target_code.specs.declared.tree.Proc.{Proc}
use Rattle.target_meaning.specs.declared.answer.Reason.{Reason}
use Rattle.target_meaning.specs.declared.frame.Then.{Then}
use Rattle.target_meaning.specs.declared.frame.Todo.{Todo}
use Rattle.target_meaning.specs.declared.frame.Todo.TheVariants as todo
use Rattle.target_meaning.specs.declared.memory.Claimed.{Claimed}
use Rattle.target_meaning.specs.declared.stack.Stack.{Stack}
use Rattle.target_meaning.specs.declared.stack.Stack.TheVariants.{Run, End}
use Rattle.target_meaning.specs.declared.tree.Tree.{Tree}
use Rattle.target_meaning.specs.declared.tree.Tree.TheVariants.{Leaf}
use Rattle.target_meaning.specs.Leaf as leaf
use Rattle.target_meaning.specs.Machine as machine
use Rattle.target_meaning.specs.Memories.{by_word, by_done, by_claim}
use Rattle.target_meaning.specs.Stacks.{stack_of}
use Rattle.target_meaning.specs.Trees.{tree_of}
use Rattle.target_meaning.specs.Turns.{TellsAll, Stays, filled_stack, moved_stack}

module _ (procs : List Proc) (t : Tree) (s u : Stack) (h : machine.Heap) (x : ℕ) (is : t ≡ Leaf s) where
  abbrev moved : machine.Answer (Unit {0})
  moved = machine.move machine.nothing machine.has_room procs (tree_of procs t) h [] x

  abbrev at_root : leaf.Act → machine.Answer (Unit {0})
  at_root a = machine.perform machine.nothing machine.has_room tt a h x

  root : moved ≡ at_root (leaf.act procs (stack_of procs s))
  root = ap (λ d. machine.move machine.nothing machine.has_room procs (tree_of procs d) h [] x) is

  pub kept_tree : stack_of procs u ≡ stack_of procs s → machine.Leaf tt (stack_of procs u) ≡ tree_of procs t
  kept_tree e = ap (machine.Leaf tt) e ∙ ap (tree_of procs) (sym is)

  told : (d e : Todo) → d ≡ e → TellsAll procs (leaf.act procs (stack_of procs s)) d u → TellsAll procs (leaf.act procs (stack_of procs s)) e u
  told d e p k = subst (λ y. TellsAll procs (leaf.act procs (stack_of procs s)) y u) p k

  pub read : (d : Todo) (b i : ℕ) (then : Then) (r : Result ℕ Reason) → d ≡ todo.Read b i then → TellsAll procs (leaf.act procs (stack_of procs s)) d u → ((next : ℕ → leaf.Stack) (name : ℕ) → machine.perform machine.nothing machine.has_room tt (leaf.Read b i next) h name ≡ by_word r next h) → moved ≡ by_word r (λ v. stack_of procs (filled_stack u then v)) h
  read d b i then r e k f = root ∙ go u (told d (todo.Read b i then) e k)
    where
      go : (w : Stack) → TellsAll procs (leaf.act procs (stack_of procs s)) (todo.Read b i then) w → at_root (leaf.act procs (stack_of procs s)) ≡ by_word r (λ v. stack_of procs (filled_stack w then v)) h
      go (Run fs) z = ap at_root z ∙ f (λ v. stack_of procs (filled_stack (Run fs) then v)) x
      go (End vs) z = absurd z

  pub write : (k : machine.Heap) (d : Todo) (b i v next : ℕ) (r : Result (Unit {0}) Reason) → d ≡ todo.Write b i v next → TellsAll procs (leaf.act procs (stack_of procs s)) d u → ((n : leaf.Stack) (name : ℕ) → machine.perform machine.nothing machine.has_room tt (leaf.Write b i v n) h name ≡ by_done r n k) → moved ≡ by_done r (stack_of procs (moved_stack u next)) k
  write k d b i v next r e t f = root ∙ go u (told d (todo.Write b i v next) e t)
    where
      go : (w : Stack) → TellsAll procs (leaf.act procs (stack_of procs s)) (todo.Write b i v next) w → at_root (leaf.act procs (stack_of procs s)) ≡ by_done r (stack_of procs (moved_stack w next)) k
      go (Run fs) z = ap at_root z ∙ f (stack_of procs (moved_stack (Run fs) next)) x
      go (End vs) z = absurd z

  pub cut : (k : machine.Heap) (d : Todo) (b next : ℕ) (r : Result (Unit {0}) Reason) → d ≡ todo.Cut b next → TellsAll procs (leaf.act procs (stack_of procs s)) d u → ((n : leaf.Stack) (name : ℕ) → machine.perform machine.nothing machine.has_room tt (leaf.Cut b n) h name ≡ by_done r n k) → moved ≡ by_done r (stack_of procs (moved_stack u next)) k
  cut k d b next r e t f = root ∙ go u (told d (todo.Cut b next) e t)
    where
      go : (w : Stack) → TellsAll procs (leaf.act procs (stack_of procs s)) (todo.Cut b next) w → at_root (leaf.act procs (stack_of procs s)) ≡ by_done r (stack_of procs (moved_stack w next)) k
      go (Run fs) z = ap at_root z ∙ f (stack_of procs (moved_stack (Run fs) next)) x
      go (End vs) z = absurd z

  pub make : (k : machine.Heap) (d : Todo) (n : ℕ) (then : Then) (r : Claimed) → d ≡ todo.Make n then → TellsAll procs (leaf.act procs (stack_of procs s)) d u → ((next : ℕ → leaf.Stack) → machine.perform machine.nothing machine.has_room tt (leaf.Make n next) h x ≡ by_claim r (next x) k) → moved ≡ by_claim r (stack_of procs (filled_stack u then x)) k
  make k d n then r e t f = root ∙ go u (told d (todo.Make n then) e t)
    where
      go : (w : Stack) → TellsAll procs (leaf.act procs (stack_of procs s)) (todo.Make n then) w → at_root (leaf.act procs (stack_of procs s)) ≡ by_claim r (stack_of procs (filled_stack w then x)) k
      go (Run fs) z = ap at_root z ∙ f (λ v. stack_of procs (filled_stack (Run fs) then v))
      go (End vs) z = absurd z

-- a step that was not made leaves the stack
pub stayed : (d e : Todo) (s t : leaf.Stack) → d ≡ e → Stays d s t → Stays e s t
stayed d e s t p h = subst (λ y. Stays y s t) p h
