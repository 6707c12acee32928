use Rattle.std.proofs.Common.{◌≡◌, ◌++◌, take, codes}
use Rattle.std.specs.List.{flat_map}
use Rattle.nres_print.specs.Heads.{param_text}
use Rattle.nres_print.proofs.heads.params.Given as goal

abbrev pub invariant-each : goal.invariant-each
invariant-each l = l.out.items ≡ l.initial.out.items ++ flat_map (λ y. codes ", " ++ param_text y) (take l.other-index l.others)
