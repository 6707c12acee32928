use Rattle.std.proofs.Common.{◌≡◌, sym}
use Rattle.std.specs.Prelude.{◌↔◌, Option, Some}
use Rattle.nres_core.specs.declared.value.Value.{Value}
use Rattle.relations.specs.Values.{live}
use Rattle.run_results.specs.Results.{Shows}
use Rattle.run_results.proofs.Values.{bare}
use Rattle.target_meaning.specs.States.{state_of}
use Rattle.state_values.proofs.Shown.{in_each}
use Rattle.state_values.proofs.showing.value_of.Goals as goal

pub returns-else-has_block : goal.returns-else-has_block
returns-else-has_block c =
    in_each (λ procs (o : Option Value). (x : Value) → (o ≡ Some x) ↔ Shows (live (state_of procs c.args.state.now).heap) c.args.rep c.args.regs.now x) c.decode.result
    (λ procs. bare (live (state_of procs c.args.state.now).heap) c.args.rep c.args.regs.now c.decode.result (sym c.if-has_block.ensures) c.decode.ensures)
