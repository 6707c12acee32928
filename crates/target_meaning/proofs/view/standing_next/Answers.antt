use Rattle.std.proofs.Common.{subst}
use Rattle.target_meaning.specs.Memories.{heap_of}
use Rattle.target_meaning.specs.Settled.{Settled}
use Rattle.target_meaning.specs.Stacks.{code_at, proc_at}
use Rattle.target_meaning.proofs.Viewed.{do_seen}
use Rattle.target_meaning.proofs.view.standing_next.Goals as goal

pub returns-in-Do : goal.returns-in-Do
returns-in-Do c outer at number cs s =
    let h = subst (λ x. Settled (code_at c.args.procs.now number) x outer at) c.in-Do.is s in
    do_seen c.args.procs.now (heap_of c.args.memory.now) (code_at c.args.procs.now number) outer at _ c.args.regs.now (proc_at c.args.procs.now number) cs c.instr_next.result h.0 c.instr_next.ensures
