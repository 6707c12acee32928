use Rattle.std.proofs.Common.{refl, subst}
use Rattle.relations.specs.Values.{live}
use Rattle.run_results.specs.Results.{AreShown}
use Rattle.run_results.specs.declared.showing.Shown.{Shown}
use Rattle.target_meaning.specs.States.{state_of}
use Rattle.sepref_replay.proofs.following.ended.Goals as goal

pub returns-in-Values : goal.returns-in-Values
returns-in-Values c = λ procs.
    let shown = subst (λ (s : Shown). AreShown (live (state_of procs c.args.state.now).heap) c.args.outs.now c.in-Some.regs.now s) c.in-Values.is (c.in_ok-values.ensures procs) in
    (refl, c.in-Some.regs.now, c.in-Some.ensures procs, shown)

pub returns-in-NoValue : goal.returns-in-NoValue
returns-in-NoValue c = λ procs.
    let shown = subst (λ (s : Shown). AreShown (live (state_of procs c.args.state.now).heap) c.args.outs.now c.in-Some.regs.now s) c.in-NoValue.is (c.in_ok-values.ensures procs) in
    (c.in-Some.regs.now, shown.0, c.in-Some.ensures procs, shown.2, shown.1)
