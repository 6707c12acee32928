use Rattle.std.proofs.Common.{◌≡◌, ◌++◌, drop}
use Rattle.prints.specs.Homes as h
use Rattle.word_homes.specs.Puts.{homes}
use Rattle.print_steps.proofs.printing.Printing.homes.Given as goal

abbrev pub invariant-each : goal.invariant-each
invariant-each l = l.homes ++ h.arg_homes (homes l.self.homes) (drop l.arg-index l.args) ≡ h.arg_homes (homes l.self.homes) l.args
