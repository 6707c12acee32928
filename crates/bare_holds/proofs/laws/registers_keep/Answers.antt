use Rattle.bare_holds.proofs.Registers.{registers_keep}
use Rattle.bare_holds.proofs.laws.registers_keep.Goals as goal

pub returns : goal.returns
returns c = registers_keep
