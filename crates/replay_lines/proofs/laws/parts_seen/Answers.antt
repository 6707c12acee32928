use Rattle.std.proofs.Common.{refl}
use Rattle.replay_lines.proofs.laws.parts_seen.Goals as goal

pub returns : goal.returns
returns c = record {
  program = refl;
  values = refl;
  schedule = refl;
  first_value = refl;
  first_step = refl;
  only_program = refl;
  only_values = refl;
  only_schedule = refl;
  only_step = refl;
  no_program = refl;
  no_schedule = refl;
}
