use Rattle.std.proofs.Common.{arith, rules}
use Rattle.nres_core.specs.declared.value.Value.{Value}
use Rattle.replay.specs.declared.answer.ReplayEnd.{ReplayEnd}
use Rattle.replay.specs.declared.answer.ReplayEnd.TheVariants as end
use Rattle.replay_causes.specs.declared.cause.Cause.TheVariants as cause
use Rattle.target_meaning.specs.States.{state_of}
use Rattle.sepref_replay.specs.Follows.{TellsEnd}
use Rattle.sepref_replay.proofs.Telling.{tells_alone}
use Rattle.sepref_replay.proofs.following.told.Goals as goal

pub returns-in_default : goal.returns-in_default
returns-in_default c = λ procs.
    tells_alone c.args.outs.now (state_of procs c.args.state.now) c.args.end _ (λ at e. let z : ⊥ = first_of (assumption c.in_default.not-End, search (rules, c.in_default.not-End), cc, grind (arith, c.in_default.not-End)) in z) c.new.ensures
