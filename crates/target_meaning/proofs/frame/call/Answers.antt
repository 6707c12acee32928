use Rattle.std.proofs.Common.{ap, ◌∙◌, ◌++◌, ◌∷◌, []}
use Rattle.target_meaning.proofs.Entered.{called}
use Rattle.target_meaning.proofs.frame.call.Goals as goal

pub returns-in-Ok-clause-ok : goal.returns-in-Ok-clause-ok
returns-in-Ok-clause-ok c =
    let h = rw c.in-Some.is at c.in_ok-frame.ensures in
    called c.args.procs.now c.args.frames.now (record { top = c.replace-caller.new.dest; below = c.push.new.self }) c.args.name.now c.args.args.now c.as_slice.result.now c.in-Some.frame h.0 h.1 h.2
    c.as_slice.ensures c.replace-caller.ensures.after (c.in-Ok.ensures.items ∙ ap (λ f. c.args.frames.now.below.items ++ f ∷ []) c.replace-caller.ensures.value)
