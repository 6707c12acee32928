use Rattle.std.proofs.Common.{refl}
use Rattle.target_meaning.specs.Leaf.{act}
use Rattle.target_meaning.specs.Stacks.{stack_of}
use Rattle.branch_exec.proofs.Sizes.{weighed}
use Rattle.branch_exec.proofs.Took.{deep_turn}
use Rattle.branch_exec.proofs.run.step.Goals as goal

pub returns-in-Some-clause-keeps : goal.returns-in-Some-clause-keeps
returns-in-Some-clause-keeps g c =
    let T = c.args.procs.now in
    let x = c.in-On.ensures in
    weighed T c.args.leaf.now.stack c.take.new.stack c.args.leaf.now.waiting c.in-Some.waiting c.waiting_frames-below.result c.top_registers-held.result (act T (stack_of T c.args.leaf.now.stack)) (g.S.Store.kept c.args.store.now).top x.1 x.0 refl x.2 c.requires.sized c.waiting_frames-below.ensures c.top_registers-held.ensures c.in-Some.ensures

pub returns-in-None-clause-turn : goal.returns-in-None-clause-turn
returns-in-None-clause-turn g c =
    let T = c.args.procs.now in
    deep_turn T c.args.leaf.now.stack c.take.new.stack c.args.leaf.now.waiting c.waiting_frames-below.result c.top_registers-held.result (g.S.Store.kept c.args.store.now) (g.S.Store.kept c.take.new.store) c.in-On.ensures c.requires.sized c.waiting_frames-below.ensures c.top_registers-held.ensures c.in-None.ensures
