use Rattle.std.proofs.Common.{sym, ap, ◌∙◌, refl}
use Rattle.target_meaning.specs.declared.frame.Todo.TheVariants as todo
use Rattle.target_meaning.specs.Machine as machine
use Rattle.target_meaning.specs.Memories.{heap_of, by_word, by_done, by_claim}
use Rattle.target_meaning.specs.Stacks.{stack_of}
use Rattle.target_meaning.specs.Turns.{filled_stack, moved_stack}
use Rattle.target_meaning.proofs.Steps.{read, write, cut, make, kept_tree, stayed}
use Rattle.target_meaning.proofs.tree.step_leaf.Goals as goal

pub returns-in-Ok-clause-ok : goal.returns-in-Ok-clause-ok
returns-in-Ok-clause-ok c l =
    read c.args.procs.now c.args.tree.now c.in-Leaf.stack c.advance.new.stack (heap_of c.args.memory.now) c.args.name c.in-Leaf.is c.in_ok-advance.field-0 c.in-Read.block c.in-Read.index c.in-Read.then c.load.result c.in-Read.is c.in_ok-advance.ensures.ok c.load.ensures ∙
    ap (λ r. by_word r (λ v. stack_of c.args.procs.now (filled_stack c.advance.new.stack c.in-Read.then v)) (heap_of c.args.memory.now)) c.in-Ok.is ∙
    ap (λ s. machine.Moved (machine.Leaf tt (stack_of c.args.procs.now s)) (heap_of c.args.memory.now)) (sym c.fill.ensures)

pub returns-in-Err-clause-ok : goal.returns-in-Err-clause-ok
returns-in-Err-clause-ok c l = (
  read c.args.procs.now c.args.tree.now c.in-Leaf.stack c.advance.new.stack (heap_of c.args.memory.now) c.args.name c.in-Leaf.is c.in_ok-advance.field-0 c.in-Read.block c.in-Read.index c.in-Read.then c.load.result c.in-Read.is c.in_ok-advance.ensures.ok c.load.ensures ∙
      ap (λ r. by_word r (λ v. stack_of c.args.procs.now (filled_stack c.advance.new.stack c.in-Read.then v)) (heap_of c.args.memory.now)) c.in-Err.is,
  kept_tree c.args.procs.now c.args.tree.now c.in-Leaf.stack c.advance.new.stack (heap_of c.args.memory.now) c.args.name c.in-Leaf.is (stayed c.in_ok-advance.field-0 (todo.Read c.in-Read.block c.in-Read.index c.in-Read.then) (stack_of c.args.procs.now c.advance.new.stack) (stack_of c.args.procs.now c.in-Leaf.stack) c.in-Read.is c.in_ok-advance.ensures.stays),
  refl,
)

pub returns-in-Ok-store-clause-ok : goal.returns-in-Ok-store-clause-ok
returns-in-Ok-store-clause-ok c l =
    write c.args.procs.now c.args.tree.now c.in-Leaf.stack c.advance.new.stack (heap_of c.args.memory.now) c.args.name c.in-Leaf.is (heap_of c.store.new.self) c.in_ok-advance.field-0 c.in-Write.block c.in-Write.index c.in-Write.value c.in-Write.next c.store.result c.in-Write.is c.in_ok-advance.ensures.ok c.store.ensures.step ∙
    ap (λ r. by_done r (stack_of c.args.procs.now (moved_stack c.advance.new.stack c.in-Write.next)) (heap_of c.store.new.self)) c.in-Ok-store.is ∙
    ap (λ s. machine.Moved (machine.Leaf tt (stack_of c.args.procs.now s)) (heap_of c.store.new.self)) (sym c.go_on.ensures)

pub returns-in-Err-store-clause-ok : goal.returns-in-Err-store-clause-ok
returns-in-Err-store-clause-ok c l = (
  write c.args.procs.now c.args.tree.now c.in-Leaf.stack c.advance.new.stack (heap_of c.args.memory.now) c.args.name c.in-Leaf.is (heap_of c.store.new.self) c.in_ok-advance.field-0 c.in-Write.block c.in-Write.index c.in-Write.value c.in-Write.next c.store.result c.in-Write.is c.in_ok-advance.ensures.ok c.store.ensures.step ∙
      ap (λ r. by_done r (stack_of c.args.procs.now (moved_stack c.advance.new.stack c.in-Write.next)) (heap_of c.store.new.self)) c.in-Err-store.is,
  kept_tree c.args.procs.now c.args.tree.now c.in-Leaf.stack c.advance.new.stack (heap_of c.args.memory.now) c.args.name c.in-Leaf.is (stayed c.in_ok-advance.field-0 (todo.Write c.in-Write.block c.in-Write.index c.in-Write.value c.in-Write.next) (stack_of c.args.procs.now c.advance.new.stack) (stack_of c.args.procs.now c.in-Leaf.stack) c.in-Write.is c.in_ok-advance.ensures.stays),
  c.in-Err-store.ensures.err,
)

pub returns-in-Ok-free-clause-ok : goal.returns-in-Ok-free-clause-ok
returns-in-Ok-free-clause-ok c l =
    cut c.args.procs.now c.args.tree.now c.in-Leaf.stack c.advance.new.stack (heap_of c.args.memory.now) c.args.name c.in-Leaf.is (heap_of c.free.new.self) c.in_ok-advance.field-0 c.in-Cut.block c.in-Cut.next c.free.result c.in-Cut.is c.in_ok-advance.ensures.ok c.free.ensures.step ∙
    ap (λ r. by_done r (stack_of c.args.procs.now (moved_stack c.advance.new.stack c.in-Cut.next)) (heap_of c.free.new.self)) c.in-Ok-free.is ∙
    ap (λ s. machine.Moved (machine.Leaf tt (stack_of c.args.procs.now s)) (heap_of c.free.new.self)) (sym c.go_on-in-Ok-free.ensures)

pub returns-in-Err-free-clause-ok : goal.returns-in-Err-free-clause-ok
returns-in-Err-free-clause-ok c l = (
  cut c.args.procs.now c.args.tree.now c.in-Leaf.stack c.advance.new.stack (heap_of c.args.memory.now) c.args.name c.in-Leaf.is (heap_of c.free.new.self) c.in_ok-advance.field-0 c.in-Cut.block c.in-Cut.next c.free.result c.in-Cut.is c.in_ok-advance.ensures.ok c.free.ensures.step ∙
      ap (λ r. by_done r (stack_of c.args.procs.now (moved_stack c.advance.new.stack c.in-Cut.next)) (heap_of c.free.new.self)) c.in-Err-free.is,
  kept_tree c.args.procs.now c.args.tree.now c.in-Leaf.stack c.advance.new.stack (heap_of c.args.memory.now) c.args.name c.in-Leaf.is (stayed c.in_ok-advance.field-0 (todo.Cut c.in-Cut.block c.in-Cut.next) (stack_of c.args.procs.now c.advance.new.stack) (stack_of c.args.procs.now c.in-Leaf.stack) c.in-Cut.is c.in_ok-advance.ensures.stays),
  c.in-Err-free.ensures.err,
)

pub returns-in-Made-clause-ok : goal.returns-in-Made-clause-ok
returns-in-Made-clause-ok c l =
    make c.args.procs.now c.args.tree.now c.in-Leaf.stack c.advance.new.stack (heap_of c.args.memory.now) c.args.name c.in-Leaf.is (heap_of c.claim.new.self) c.in_ok-advance.field-0 c.in-Make.len c.in-Make.then c.in_ok-claim-in-Make.field-0 c.in-Make.is c.in_ok-advance.ensures.ok c.in_ok-claim-in-Make.ensures.step ∙
    ap (λ r. by_claim r (stack_of c.args.procs.now (filled_stack c.advance.new.stack c.in-Make.then c.args.name)) (heap_of c.claim.new.self)) c.in-Made.is ∙
    ap (λ s. machine.Moved (machine.Leaf tt (stack_of c.args.procs.now s)) (heap_of c.claim.new.self)) (sym c.fill-in-Made.ensures)

pub returns-in-NoRoom-clause-ok : goal.returns-in-NoRoom-clause-ok
returns-in-NoRoom-clause-ok c l = (
  make c.args.procs.now c.args.tree.now c.in-Leaf.stack c.advance.new.stack (heap_of c.args.memory.now) c.args.name c.in-Leaf.is (heap_of c.claim.new.self) c.in_ok-advance.field-0 c.in-Make.len c.in-Make.then c.in_ok-claim-in-Make.field-0 c.in-Make.is c.in_ok-advance.ensures.ok c.in_ok-claim-in-Make.ensures.step ∙
      ap (λ r. by_claim r (stack_of c.args.procs.now (filled_stack c.advance.new.stack c.in-Make.then c.args.name)) (heap_of c.claim.new.self)) c.in-NoRoom.is,
  kept_tree c.args.procs.now c.args.tree.now c.in-Leaf.stack c.advance.new.stack (heap_of c.args.memory.now) c.args.name c.in-Leaf.is (stayed c.in_ok-advance.field-0 (todo.Make c.in-Make.len c.in-Make.then) (stack_of c.args.procs.now c.advance.new.stack) (stack_of c.args.procs.now c.in-Leaf.stack) c.in-Make.is c.in_ok-advance.ensures.stays),
  c.in_ok-claim-in-Make.ensures.same (λ e. let d = sym c.in-NoRoom.is ∙ e in cc d),
)

pub returns-in-Used-clause-ok : goal.returns-in-Used-clause-ok
returns-in-Used-clause-ok c l = (
  make c.args.procs.now c.args.tree.now c.in-Leaf.stack c.advance.new.stack (heap_of c.args.memory.now) c.args.name c.in-Leaf.is (heap_of c.claim.new.self) c.in_ok-advance.field-0 c.in-Make.len c.in-Make.then c.in_ok-claim-in-Make.field-0 c.in-Make.is c.in_ok-advance.ensures.ok c.in_ok-claim-in-Make.ensures.step ∙
      ap (λ r. by_claim r (stack_of c.args.procs.now (filled_stack c.advance.new.stack c.in-Make.then c.args.name)) (heap_of c.claim.new.self)) c.in-Used.is,
  kept_tree c.args.procs.now c.args.tree.now c.in-Leaf.stack c.advance.new.stack (heap_of c.args.memory.now) c.args.name c.in-Leaf.is (stayed c.in_ok-advance.field-0 (todo.Make c.in-Make.len c.in-Make.then) (stack_of c.args.procs.now c.advance.new.stack) (stack_of c.args.procs.now c.in-Leaf.stack) c.in-Make.is c.in_ok-advance.ensures.stays),
  c.in_ok-claim-in-Make.ensures.same (λ e. let d = sym c.in-Used.is ∙ e in cc d),
)
