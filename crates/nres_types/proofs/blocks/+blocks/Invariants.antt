use Rattle.std.proofs.Common.{◌≡◌, drop}
use Rattle.nres_core.specs.Mirror.{all_exps, all_steps}
use Rattle.nres_rules.specs.Types.{steps_type}
use Rattle.nres_types.specs.Bodies.{StepsRemain}
use Rattle.nres_types.specs.Findings.{told_of}
use Rattle.nres_types.proofs.blocks.+blocks.Given as goal

abbrev pub invariant-block-loop-step : goal.invariant-block-loop-step
invariant-block-loop-step l = record {
  items : l.step-items ≡ l.tree.steps;
  rest : StepsRemain (told_of l.fn.findings) (told_of l.findings) l.fn.scope l.scope (steps_type l.profiles (all_steps l.tree.steps) l.tree.place (all_exps l.tree.results) l.fn.scope) (steps_type l.profiles (all_steps (drop l.step-index l.step-items)) l.tree.place (all_exps l.tree.results) l.scope);
}
