use Rattle.rule_table.proofs.SoundRows.{table_sound}
use Rattle.rule_table.proofs.laws.rows_are_sound.Goals as goal

pub returns : goal.returns
returns c = table_sound
