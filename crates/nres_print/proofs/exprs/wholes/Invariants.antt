use Rattle.std.proofs.Common.{◌≡◌, ◌++◌, take, codes}
use Rattle.std.specs.List.{flat_map}
use Rattle.nres_print.specs.Exprs.{whole_text}
use Rattle.nres_print.proofs.exprs.wholes.Given as goal

abbrev pub invariant-each : goal.invariant-each
invariant-each l = l.out.items ≡ l.initial.out.items ++ flat_map (λ y. codes ", " ++ whole_text y) (take l.other-index l.others)
