use Rattle.std.proofs.Common.{ap, ◌∙◌}
use Rattle.target_code.specs.declared.tree.Instr.{out-Instr}
use Rattle.target_code.specs.declared.tree.Instr.TheVariants.{outs-Call, outs-Par}
use Rattle.target_meaning.specs.Memories.{heap_of}
use Rattle.target_meaning.proofs.Viewed.{call_seen, fork_seen}
use Rattle.target_meaning.proofs.view.instr_next.Goals as goal

pub returns-in-Call : goal.returns-in-Call
returns-in-Call c line items proc cs =
    call_seen c.args.procs.now (heap_of c.args.memory.now) line items c.args.regs.now proc cs c.args.instr.now c.call_next.result c.in-Call.to c.in-Call.args c.in-Call.proc
    (ap out-Instr c.in-Call.is ∙ outs-Call c.in-Call.to c.in-Call.proc c.in-Call.args) c.call_next.ensures

pub returns-in-Par : goal.returns-in-Par
returns-in-Par c line items proc cs =
    fork_seen c.args.procs.now (heap_of c.args.memory.now) line items c.args.regs.now proc cs c.args.instr.now c.fork_next.result c.in-Par.left c.in-Par.right
    (ap out-Instr c.in-Par.is ∙ outs-Par c.in-Par.left c.in-Par.right) c.fork_next.ensures
