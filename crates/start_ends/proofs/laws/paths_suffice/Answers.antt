use Rattle.start_ends.proofs.Programs.{program_is_sound, program_is_bounded}
use Rattle.start_ends.proofs.laws.paths_suffice.Goals as goal

pub returns : goal.returns
returns c = record { sound = program_is_sound; bounded = program_is_bounded }
