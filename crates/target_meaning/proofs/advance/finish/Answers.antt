use Rattle.std.proofs.Common.{ap, ◌∙◌}
use Rattle.target_meaning.specs.Leaf as leaf
use Rattle.target_meaning.specs.Stacks.{rets_at}
use Rattle.target_meaning.proofs.Returned.{finished}
use Rattle.target_meaning.proofs.advance.finish.Goals as goal

pub returns-clause-ok : goal.returns-clause-ok
returns-clause-ok c =
    let regs = c.args.frames.now.top.regs in
    finished c.args.procs.now c.args.frames.now (record { top = c.resume.new.frame; below = c.pop.new.self }) c.in-Some.caller
    (leaf.read_all regs (rets_at c.args.procs.now c.args.frames.now.top.proc)) c.as_slice-2.result.now c.in-Some.ensures.items
    (c.as_slice-2.ensures.value ∙ c.in_ok-words.ensures ∙ ap (λ l. leaf.read_all l c.results_of.result.now) c.as_slice.ensures ∙ ap (leaf.read_all regs) c.results_of.ensures) c.resume.ensures
